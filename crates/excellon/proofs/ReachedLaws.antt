-- What a reader that has come so far answers.
use Rattle.std.proofs.Common.{◌≡◌, ℕ, Bool, true, false, List, [], ◌∷◌, ◌++◌, ◌+◌, ◌-◌, ◌<◌, length, Option, Some, None, Ok, unwrap_or, refl, ap, sym, ◌∙◌, arith}
use Rattle.std.specs.Option.{option_or}
use Rattle.excellon.specs.Body.{said_of}
use Rattle.excellon.specs.InForce.{last_set, sets_part, sets_unit, sets_fills, sets_format, sets_selected, sets_tool, sets_routing, sets_cutting, sets_lowered, sets_x, sets_y, scale_at, part_at}
use Rattle.excellon.specs.Checks.{Held, held, fault_of}
use Rattle.excellon.specs.State.{after}
use Rattle.text_cut.specs.Lines.{Line, lines_from, HasLine}
use Rattle.excellon.specs.Drill.{drill_of, outcome_in, told, led, is_end, refused}
use Rattle.excellon.specs.Reached.{lines_left, IsReached}
use Rattle.excellon.specs.Laws.{StaysSet, EachStaysSet}
use Rattle.excellon.specs.declared.file.DrillFile.{DrillFile}
use Rattle.excellon.specs.declared.file.DrillKind.{DrillKind}
use Rattle.excellon.specs.declared.file.DrillKind.TheVariants as kinds
use Rattle.excellon.specs.declared.line.Said.{Said}

or_default : {A : Type 0} (a b : Option A) (d : A) → unwrap_or (option_or a b) d ≡ unwrap_or a (unwrap_or b d)
or_default None b d = refl
or_default (Some x) b d = refl

-- each thing that is kept is what its last setter set
pub after_held : (past : List Said) (said : Said) → after (held past) said ≡ held (said ∷ past)
after_held past said = simp or_default refl

-- what the line leads to that comes next
leads : (bytes : List ℕ) (h : Held) (line : Line) (lines : List Line) (rest : List ℕ) (r : IsReached bytes rest h) → lines_left bytes rest ≡ line ∷ lines
    → drill_of bytes ≡ told r.past line.offset (said_of h.now.part line.text) (λ said. outcome_in (length bytes) (said ∷ r.past) lines)
leads bytes h line lines rest r e =
    r.left ∙ ap (outcome_in (length bytes) r.past) e
    ∙ ap (λ part. told r.past line.offset (said_of part line.text) (λ said. outcome_in (length bytes) (said ∷ r.past) lines)) (sym (ap (λ h. h.now.part) r.kept))

-- the same of a line that says something
pub says_some : (bytes : List ℕ) (h : Held) (line : Line) (lines : List Line) (rest : List ℕ) (said : Said) (r : IsReached bytes rest h) → lines_left bytes rest ≡ line ∷ lines → said_of h.now.part line.text ≡ Some said
    → drill_of bytes ≡ led r.past said line.offset (fault_of h said) (outcome_in (length bytes) (said ∷ r.past) lines)
says_some bytes h line lines rest said r e s =
    leads bytes h line lines rest r e
    ∙ ap (λ o. told r.past line.offset o (λ said. outcome_in (length bytes) (said ∷ r.past) lines)) s
    ∙ ap (λ h. led r.past said line.offset (fault_of h said) (outcome_in (length bytes) (said ∷ r.past) lines)) (sym r.kept)

-- a line that says nothing
pub says_none : (bytes : List ℕ) (h : Held) (line : Line) (lines : List Line) (rest : List ℕ) → IsReached bytes rest h → lines_left bytes rest ≡ line ∷ lines → said_of h.now.part line.text ≡ None
    → drill_of bytes ≡ refused kinds.Syntax line.offset
says_none bytes h line lines rest r e s = leads bytes h line lines rest r e ∙ ap (λ o. told r.past line.offset o (λ said. outcome_in (length bytes) (said ∷ r.past) lines)) s

-- a line that is refused
pub is_refused : (bytes : List ℕ) (h : Held) (line : Line) (lines : List Line) (rest : List ℕ) (said : Said) (kind : DrillKind) → IsReached bytes rest h → lines_left bytes rest ≡ line ∷ lines → said_of h.now.part line.text ≡ Some said
    → fault_of h said ≡ Some kind → drill_of bytes ≡ refused kind line.offset
is_refused bytes h line lines rest said kind r e s f =
    says_some bytes h line lines rest said r e s ∙ ap (λ fault. led r.past said line.offset fault (outcome_in (length bytes) (said ∷ r.past) lines)) f

-- a line that is taken
taken : (bytes : List ℕ) (h : Held) (line : Line) (lines : List Line) (rest : List ℕ) (said : Said) (end : Bool) (r : IsReached bytes rest h) → lines_left bytes rest ≡ line ∷ lines → said_of h.now.part line.text ≡ Some said
    → fault_of h said ≡ None → drill_of bytes ≡ led r.past said line.offset None (outcome_in (length bytes) (said ∷ r.past) lines)
taken bytes h line lines rest said end r e s f =
    says_some bytes h line lines rest said r e s ∙ ap (λ fault. led r.past said line.offset fault (outcome_in (length bytes) (said ∷ r.past) lines)) f

one_more : (h : Held) (past : List Said) (said : Said) → h ≡ held past → after h said ≡ held (said ∷ past)
one_more h past said e = ap (λ h. after h said) e ∙ after_held past said

-- the end of the file
pub ended : (bytes : List ℕ) (h : Held) (line : Line) (lines : List Line) (rest : List ℕ) (said : Said) (file : DrillFile) → IsReached bytes rest h → lines_left bytes rest ≡ line ∷ lines → said_of h.now.part line.text ≡ Some said
    → fault_of h said ≡ None → is_end said ≡ true → file ≡ record { holes = h.holes; slots = h.slots } → drill_of bytes ≡ Ok file
ended bytes h line lines rest said file r e s f t is =
    taken bytes h line lines rest said true r e s f ∙ rw t (ap (λ h. Ok (drilled h)) (sym r.kept)) ∙ ap (λ file. Ok file) (sym is)
  where
    drilled : Held → DrillFile
    drilled h = record { holes = h.holes; slots = h.slots }

-- a line that is taken and isn't the end
pub went_on : (bytes : List ℕ) (h new : Held) (line : Line) (rest next : List ℕ) (said : Said) → IsReached bytes rest h → lines_left bytes rest ≡ line ∷ lines_left bytes next → said_of h.now.part line.text ≡ Some said
    → fault_of h said ≡ None → is_end said ≡ false → new ≡ after h said → length next < length rest → IsReached bytes next new
went_on bytes h new line rest next said r e s f t n shorter = record {
  past = said ∷ r.past;
  left = taken bytes h line (lines_left bytes next) rest said false r e s f ∙ rw t refl;
  kept = n ∙ one_more h r.past said r.kept;
  within = omega (arith, r.within, shorter);
}

-- no line is left
pub at_end : (bytes : List ℕ) (h : Held) (rest : List ℕ) → IsReached bytes rest h → lines_left bytes rest ≡ [] → drill_of bytes ≡ refused kinds.NoEnd (length bytes)
at_end bytes h rest r e = r.left ∙ ap (outcome_in (length bytes) r.past) e

stays_set : {A : Type 0} (sets : List Said → Said → Option A) → StaysSet sets
stays_set sets [] past said value e n = rw e refl
stays_set sets (c ∷ nearer) past said value e n = rw n.0 (stays_set sets nearer past said value e n.1)

pub each_stays_set : EachStaysSet
each_stays_set = record {
  part = stays_set (λ _. sets_part);
  unit = stays_set (λ _. sets_unit);
  fills = stays_set (λ _. sets_fills);
  format = stays_set (λ _. sets_format);
  selected = stays_set (λ _. sets_selected);
  tool = λ number. stays_set (λ past. sets_tool number (scale_at past).unit);
  routing = stays_set (λ _. sets_routing);
  cutting = stays_set (λ _. sets_cutting);
  lowered = stays_set (λ _. sets_lowered);
  x = stays_set (λ past. sets_x (scale_at past));
  y = stays_set (λ past. sets_y (scale_at past));
}

-- no line is read yet
pub begins : (bytes : List ℕ) (h : Held) → h ≡ held [] → IsReached bytes bytes h
unfolding drill_of
begins bytes h e =
    let none : 0 ≡ length bytes - length bytes = omega arith in
    record { past = []; left = ap (λ (n : ℕ). outcome_in (length bytes) [] (lines_from n bytes)) none; kept = e; within = omega arith }

-- the first of the lines that are left
pub next_left : (bytes rest next text : List ℕ) (h : Held) → IsReached bytes rest h → length next < length rest → HasLine rest text next
    → lines_left bytes rest ≡ record { offset = length bytes - length rest; text = text } ∷ lines_left bytes next
next_left bytes rest next text h r shorter line =
    let there : length bytes - length rest + (length rest - length next) ≡ length bytes - length next = omega (arith, r.within, shorter) in
    line (length bytes - length rest) ∙ ap (λ (n : ℕ). record { offset = length bytes - length rest; text = text } ∷ lines_from n next) there
