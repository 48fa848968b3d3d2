use Rattle.std.proofs.Common.{◌≡◌, Ok, None, ap, sym, subst, ◌∙◌}
use Rattle.std.specs.Prelude.{IsOk}
use Rattle.rs274_sim.specs.Evaluation.{valued, set_values}
use Rattle.rs274_sim.specs.Machine.{form_fault}
use Rattle.rs274_sim.specs.Table.{table, paired, said_in}
use Rattle.rs274_sim.proofs.StepLaws.{begun_form, begun_value, begun_setting, begun_ok}
use Rattle.rs274_sim.proofs.machine.read_line.Goals as goal

pub returns-in-Some : goal.returns-in-Some
returns-in-Some c =
    let same = c.deref.ensures.value ∙ c.inner.ensures in
    begun_form (table c.args.params.now) c.args.line.now c.in-Some.fault (ap form_fault (sym same) ∙ sym c.form_fault.ensures ∙ c.in-Some.is)

pub returns-in-Err : goal.returns-in-Err
returns-in-Err c =
    let ps = table c.args.params.now in
    let same = c.deref.ensures.value ∙ c.inner.ensures in
    let words = c.deref-2.ensures.value ∙ c.inner-2.ensures in
    let form : form_fault c.args.line.now.words ≡ None = ap form_fault (sym same) ∙ sym c.form_fault.ensures ∙ c.in_default.is in
    begun_value ps c.args.line.now c.in-Err.fault form (ap (valued ps) (sym words) ∙ c.in-Err.ensures)

pub returns-in-Err-check_settings : goal.returns-in-Err-check_settings
returns-in-Err-check_settings c =
    let ps = table c.args.params.now in
    let same = c.deref.ensures.value ∙ c.inner.ensures in
    let words = c.deref-2.ensures.value ∙ c.inner-2.ensures in
    let settings = c.deref-3.ensures.value ∙ c.inner-3.ensures in
    let form : form_fault c.args.line.now.words ≡ None = ap form_fault (sym same) ∙ sym c.form_fault.ensures ∙ c.in_default.is in
    let ok : IsOk (valued ps c.args.line.now.words) = subst (λ ws. IsOk (valued ps ws)) words c.in_default-check_words.ensures in
    begun_setting ps c.args.line.now c.in-Err-check_settings.fault form ok (ap (set_values ps) (sym settings) ∙ c.in-Err-check_settings.ensures)

pub returns : goal.returns
returns c =
    let ps = table c.args.params.now in
    let ns = c.check_settings.new.numbers in
    let same = c.deref.ensures.value ∙ c.inner.ensures in
    let words = c.deref-2.ensures.value ∙ c.inner-2.ensures in
    let settings = c.deref-3.ensures.value ∙ c.inner-3.ensures in
    let again = c.deref-4.ensures.value ∙ c.inner-4.ensures in
    let form : form_fault c.args.line.now.words ≡ None = ap form_fault (sym same) ∙ sym c.form_fault.ensures ∙ c.in_default.is in
    let ok : IsOk (valued ps c.args.line.now.words) = subst (λ ws. IsOk (valued ps ws)) words c.in_default-check_words.ensures in
    let set : set_values ps c.args.line.now.settings ≡ Ok (paired c.args.line.now.settings ns) = subst (λ ss. set_values ps ss ≡ Ok (paired ss ns)) settings c.in_default-check_settings.ensures in
    begun_ok ps c.args.line.now (paired c.args.line.now.settings ns) form ok set
    ∙ ap (λ s. Ok (s, paired c.args.line.now.settings ns)) (sym (c.said_of.ensures ∙ ap (said_in ps) again))
