-- The three texts are read, so that `mill` refuses a sample board for what they stand for alone.
use Rattle.std.proofs.Common.{◌≡◌, ℕ, ◌≤◌, List, [], length, Option, Some, None, Result, Ok, Err, refl, sym, ◌∙◌, subst}
use Rattle.std.specs.Prelude.{codes, IfErr}
use Rattle.std.specs.FinMap.{empty, get, insert, get-insert}
use Rattle.std.proofs.lemmas.Cmp.{nat_list_cmp_total}
use Rattle.std.proofs.lemmas.Bool.{le-ltb}
use Rattle.board_base.specs.declared.places.Role.{Role}
use Rattle.board_base.specs.declared.places.Role.TheVariants as roles
use Rattle.board_base.specs.Binds.{◌>>=◌}
use Rattle.board_base.specs.Files.{Files}
use Rattle.board_gen.specs.Board.{front_text, drill_text, outline_text}
use Rattle.job_file.specs.declared.job.Job.{Job}
use Rattle.endings.specs.declared.status.Status.{Status}
use Rattle.endings.specs.Limits.{most_bytes}
use Rattle.endings.specs.Reads.{Reading, held_in}
use Rattle.mill_inputs.specs.Accepted.{Accepts, Inputs, job_in, input_if, inputs_of, contents_of, accepted}
use Rattle.mill_inputs.proofs.StepLaws.{IsOfBytes}
use Rattle.mill_inputs.proofs.ContentLaws.{contents_refused}
use Rattle.sampling.specs.Sampled.{sample_files, mill_words}
use Rattle.sampling.proofs.JobLaws.{words_are, names_in, names, names_are}
use Rattle.sampling.proofs.TextLaws.{front_few, drill_few, outline_few}

-- ---- each text stands under its name

abbrev two : ℕ → Files
two n = insert (insert empty (codes "front.gbr") (front_text n)) (codes "drill.drl") (drill_text n)

abbrev one : ℕ → Files
one n = insert empty (codes "front.gbr") (front_text n)

outline_there : (n : ℕ) → get (sample_files n) (codes "outline.gbr") ≡ Some (outline_text n)
outline_there n = get-insert nat_list_cmp_total (two n) (codes "outline.gbr") (outline_text n) (codes "outline.gbr")

drill_there : (n : ℕ) → get (sample_files n) (codes "drill.drl") ≡ Some (drill_text n)
drill_there n =
    get-insert nat_list_cmp_total (two n) (codes "outline.gbr") (outline_text n) (codes "drill.drl")
    ∙ get-insert nat_list_cmp_total (one n) (codes "drill.drl") (drill_text n) (codes "drill.drl")

front_there : (n : ℕ) → get (sample_files n) (codes "front.gbr") ≡ Some (front_text n)
front_there n =
    get-insert nat_list_cmp_total (two n) (codes "outline.gbr") (outline_text n) (codes "front.gbr")
    ∙ get-insert nat_list_cmp_total (one n) (codes "drill.drl") (drill_text n) (codes "front.gbr")
    ∙ get-insert nat_list_cmp_total empty (codes "front.gbr") (front_text n) (codes "front.gbr")

-- ---- and is read

input_there : (role : Role) (o : Option (List ℕ)) (name bytes : List ℕ) (given : Reading) → o ≡ Some name → given role name ≡ Some bytes → length bytes ≤ most_bytes → input_if role o given ≡ Ok (Some bytes)
input_there role o name bytes given is there few = rw (is, there, le-ltb most_bytes (length bytes) few) refl

none_there : (role : Role) (o : Option (List ℕ)) (given : Reading) → o ≡ None → input_if role o given ≡ Ok None
none_there role o given is = rw is refl

inputs_are : (job : Job) (given : Reading) (f b d o : Option (List ℕ)) → input_if roles.Front job.front given ≡ Ok f → input_if roles.Back job.back given ≡ Ok b → input_if roles.Drill job.drill given ≡ Ok d
    → input_if roles.Outline job.outline given ≡ Ok o → inputs_of job given ≡ Ok (record { front = f; back = b; drill = d; outline = o })
unfolding inputs_of
inputs_are job given f b d o front back drill outline = rw (front, back, drill, outline) refl

inputs_there : (job : Job) (n : ℕ) → n ≤ 400 → names_in (Ok job) ≡ names → (raw : Inputs) × (inputs_of job (held_in (sample_files n)) ≡ Ok raw)
inputs_there job n few named =
    let front : job.front ≡ Some (codes "front.gbr") = cc in
    let back : job.back ≡ None = cc in
    let drill : job.drill ≡ Some (codes "drill.drl") = cc in
    let outline : job.outline ≡ Some (codes "outline.gbr") = cc in
    let given : Reading = held_in (sample_files n) in (
      record { front = Some (front_text n); back = None; drill = Some (drill_text n); outline = Some (outline_text n) },
      inputs_are job given _ _ _ _
          (input_there roles.Front job.front (codes "front.gbr") (front_text n) given front (front_there n) (front_few n few))
          (none_there roles.Back job.back given back)
          (input_there roles.Drill job.drill (codes "drill.drl") (drill_text n) given drill (drill_there n) (drill_few n few))
          (input_there roles.Outline job.outline (codes "outline.gbr") (outline_text n) given outline (outline_there n) (outline_few n)),
    )

-- ---- so nothing but what they stand for is refused

abbrev behind_job : Reading → Job → Result Accepts Status
behind_job given job = inputs_of job given >>= (λ raw. contents_of job raw)

behind_words : (given : Reading) → accepted mill_words given ≡ (job_in [] mill_words >>= behind_job given)
unfolding accepted
behind_words given = rw words_are refl

contents_alone : (job : Job) (given : Reading) → (raw : Inputs) × (inputs_of job given ≡ Ok raw) → IfErr (behind_job given job) IsOfBytes
contents_alone job given raw = subst (λ r. IfErr (r >>= (λ raw. contents_of job raw)) IsOfBytes) (sym raw.1) (contents_refused job raw.0)

job_alone : (n : ℕ) → n ≤ 400 → (r : Result Job Status) → names_in r ≡ names → IfErr (r >>= behind_job (held_in (sample_files n))) IsOfBytes
job_alone n few (Ok job) named = contents_alone job (held_in (sample_files n)) (inputs_there job n few named)
job_alone n few (Err status) named = absurd (cc)

pub accepted_alone : (n : ℕ) → n ≤ 400 → IfErr (accepted mill_words (held_in (sample_files n))) IsOfBytes
accepted_alone n few = subst (λ r. IfErr r IsOfBytes) (sym (behind_words (held_in (sample_files n)))) (job_alone n few (job_in [] mill_words) names_are)
