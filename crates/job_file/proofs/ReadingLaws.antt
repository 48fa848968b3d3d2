-- What is kept line by line is what the lines give.
use Rattle.std.proofs.Common.{◌≡◌, ℕ, Bool, true, false, cond, List, [], ◌∷◌, ◌++◌, Option, Some, None, Result, Ok, Err, refl, sym, ap, ◌∙◌, append_assoc}
use Rattle.std.specs.Prelude.{is_some}
use Rattle.std.specs.List.{cons_option}
use Rattle.std.specs.Option.{option_or}
use Rattle.std.proofs.lemmas.List.{append-nil}
use Rattle.std.proofs.lemmas.List.Elements.{filter_map-append}
use Rattle.board_base.specs.Binds.{◌>>=◌}
use Rattle.job_file.specs.declared.error.JobKind.{JobKind}
use Rattle.job_file.specs.declared.error.JobError.{JobError}
use Rattle.job_file.specs.declared.value.Value.{Value}
use Rattle.job_file.specs.declared.value.Given.{Given}
use Rattle.job_file.specs.Keys.{number_of}
use Rattle.job_file.specs.Lines.{Line, Said, nothing, no_key, gives, said}
use Rattle.job_file.specs.Reads.{value_read}
use Rattle.job_file.specs.Reading.{value_given, key_given, said_given, given_in, given_by_all, value_refused, key_refused, said_refused, refused_behind, first_refused, unless, lines_give}
use Rattle.job_file.specs.Behind.{valued, keyed, said_behind, behind, behind_all}
use Rattle.job_file.specs.Values.{given}

valued_is : (past : List Line) (key place : ℕ) (r : Result Value JobKind) → valued (given_by_all past) key place r ≡ unless (value_refused key place r) (given_by_all past ++ cons_option (value_given key place r) [])
valued_is past key place (Ok value) = refl
valued_is past key place (Err kind) = refl

once : (b : Bool) (x : JobError) (r : Result (List Given) JobError) (o : Option JobError) (g : List Given) → r ≡ unless o g → cond b (Err x) r ≡ unless (cond b (Some x) o) g
once true x r o g h = refl
once false x r o g h = h

keyed_is : (past : List Line) (place : ℕ) (text : List ℕ) (key : Option ℕ) → keyed (given_by_all past) place text key ≡ unless (key_refused past place text key) (given_by_all past ++ cons_option (key_given place text key) [])
keyed_is past place text None = refl
keyed_is past place text (Some key) =
    once (is_some (given key (given_by_all past))) _ (valued (given_by_all past) key place (value_read key text)) (value_refused key place (value_read key text)) _
    (valued_is past key place (value_read key text))

said_is : (past : List Line) (place : ℕ) (s : Said) → said_behind (given_by_all past) place s ≡ unless (said_refused past place s) (given_by_all past ++ cons_option (said_given place s) [])
said_is past place nothing = ap Ok (sym (append-nil (given_by_all past)))
said_is past place no_key = refl
said_is past place (gives name text) = keyed_is past place text (number_of name)

-- a line behind others
line_is : (past : List Line) (line : Line) → behind (given_by_all past) line ≡ unless (refused_behind past line) (given_by_all (past ++ line ∷ []))
unfolding behind refused_behind given_in
line_is past line =
    said_is past line.place (said line.text)
    ∙ ap (unless (said_refused past line.place (said line.text))) (sym (filter_map-append given_in past (line ∷ [])))

then_rest : (o p : Option JobError) (g h : List Given) (f : List Given → Result (List Given) JobError) → f g ≡ unless p h → (unless o g >>= f) ≡ unless (option_or o p) h
then_rest None p g h f e = e
then_rest (Some x) p g h f e = refl

rest_is : (past lines : List Line) → behind_all (given_by_all past) lines ≡ unless (first_refused past lines) (given_by_all (past ++ lines))
rest_is past [] = ap (λ ls. Ok (given_by_all ls)) (sym (append-nil past))
rest_is past (line ∷ lines) =
    ap (λ r. r >>= λ more. behind_all more lines) (line_is past line)
    ∙ then_rest (refused_behind past line) (first_refused (past ++ line ∷ []) lines) (given_by_all (past ++ line ∷ [])) (given_by_all (past ++ line ∷ lines)) (λ more. behind_all more lines)
    (rest_is (past ++ line ∷ []) lines ∙ ap (λ ls. unless (first_refused (past ++ line ∷ []) lines) (given_by_all ls)) (append_assoc past (line ∷ []) lines))

-- what is kept behind all lines is what they give
pub lines_kept : (lines : List Line) → lines_give lines ≡ behind_all [] lines
unfolding lines_give
lines_kept lines = sym (rest_is [] lines)
