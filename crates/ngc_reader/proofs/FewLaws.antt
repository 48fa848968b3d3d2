-- A line of 256 bytes has few settings.
use Rattle.std.proofs.Common.{◌⊎◌, ℕ, zero, suc, ◌*◌, ◌≤◌, List, [], ◌∷◌, Bool, true, false, cond, not, Result, Ok, Err, length, ap, sym, ◌∙◌, subst, arith, inl, inr, length-append}
use Rattle.std.specs.Prelude.{IfOk}
use Rattle.std.specs.List.{All, AllZip, AllByRecursion}
use Rattle.std.specs.Str.Lines.{lines}
use Rattle.std.proofs.lemmas.List.Elements.{All-from_recursion}
use Rattle.std.specs.declared.vec.Vec.{Vec}
use Rattle.std.specs.declared.alloc.Global.{Global}
use Rattle.rs274_sim.specs.declared.line.Line.{Line}
use Rattle.rs274_sim.specs.declared.line.Value.{Value}
use Rattle.rs274_sim.specs.Text.{IsParameter, SpellsNumber, SpellsParameter, SpellsValue, SpellsPieces, Piece, comment, word, setting, settings_of, unblanked, is_blank, StandsForLine, StandsFor}
use Rattle.rs274_sim.specs.Reading.{program_of, ReadingLaw}
use Rattle.rs274_sim.proofs.NumberLaws.{first_byte}
use Rattle.ngc_reader.specs.declared.error.NgcError.{NgcError}
use Rattle.rs274_sim.specs.Few.{HasFewSettings}
use Rattle.ngc_reader.specs.Gives.{GivesProgram}

some_plain : (text : List ℕ) (v : Value) → SpellsNumber text v ⊎ SpellsParameter text v → 1 ≤ length text
some_plain text v (inl (d, h, e, value)) = let first = first_byte d h.decimal in omega (arith, ap length (e ∙ first.2))
some_plain text v (inr (digits, n, h, e, value)) = omega (arith, ap length e)

-- a value has a byte
some_value : (depth : ℕ) (text : List ℕ) (v : Value) → SpellsValue depth text v → 1 ≤ length text
some_value zero text v h = some_plain text v h
some_value (suc depth) text v (inl h) = some_plain text v h
some_value (suc depth) text v (inr h) = omega (arith, ap length h.spelled)

-- the number of a parameter has a digit
some_digit : (digits : List ℕ) (n : ℕ) → IsParameter digits n → 1 ≤ length digits
some_digit [] n h = absurd (omega (arith, h.value, h.low))
some_digit (d ∷ digits) n h = omega arith

-- each setting takes four bytes
four_each : (bytes : List ℕ) (pieces : List Piece) → SpellsPieces bytes pieces → 4 * length (settings_of pieces) ≤ length bytes
four_each bytes [] h = omega arith
four_each bytes (comment ∷ pieces) (front, rest, e, spelled, more) = omega (arith, ap length e, length-append front rest, four_each rest pieces more)
four_each bytes (word w ∷ pieces) (front, rest, e, spelled, more) = omega (arith, ap length e, length-append front rest, four_each rest pieces more)
four_each bytes (setting n v ∷ pieces) (front, rest, e, (digits, text, number, f, h), more) =
    omega (
      arith,
      ap length e,
      length-append front rest,
      four_each rest pieces more,
      ap length f,
      length-append (35 ∷ digits) (61 ∷ text),
      some_digit digits n number,
      some_value 16 text v h,
    )

fewer : (bytes : List ℕ) → length (unblanked bytes) ≤ length bytes
fewer [] = omega arith
fewer (b ∷ bytes) = by_test (not (is_blank b)) (fewer bytes)
  where
    by_test : (p : Bool) → length (unblanked bytes) ≤ length bytes → length (cond p (b ∷ unblanked bytes) (unblanked bytes)) ≤ suc (length bytes)
    by_test true h = omega (arith, h)
    by_test false h = omega (arith, h)

few_of_line : (bytes : List ℕ) (line : Line) → StandsForLine bytes line → HasFewSettings line
few_of_line bytes line (short, inl (e, has)) = record { few = subst (λ l. length l.settings ≤ 64) (sym has) (omega arith) }
few_of_line bytes line (short, inr h) = record {
  few =
      subst (λ l. length l.settings ≤ 64) (sym h.has)
      (omega (arith, short, fewer bytes, ap length h.spelled, length-append h.label h.rest, four_each h.rest h.pieces h.each));
}

few_of_lines : (texts : List (List ℕ)) (ls : List Line) → AllZip StandsForLine texts ls → AllByRecursion HasFewSettings ls
few_of_lines [] [] h = tt
few_of_lines [] (l ∷ ls) h = absurd h
few_of_lines (t ∷ ts) [] h = absurd h
few_of_lines (t ∷ ts) (l ∷ ls) h = (few_of_line t l h.0, few_of_lines ts ls h.1)

few_of_program : (bytes : List ℕ) (program : List Line) → StandsFor bytes program → All HasFewSettings program
unfolding StandsFor
few_of_program bytes program h = All-from_recursion HasFewSettings program (few_of_lines (lines bytes) program h)

-- lines that are read have few settings
pub few_read : (bytes : List ℕ) (r : Result (Vec Line Global) NgcError) → ReadingLaw → GivesProgram r (program_of bytes) → IfOk r (λ program. All HasFewSettings program.items)
few_read bytes (Ok program) law h = few_of_program bytes program.items ((law bytes program.items).1 h)
few_read bytes (Err e) law h = tt
