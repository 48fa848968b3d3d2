-- The words for which the parts of a line stand.
use Rattle.std.specs.Prelude.{ℕ, ℤ, ◌*ℤ◌, List, [], ◌∷◌, ◌++◌, decimal}
use Rattle.fixed_num.specs.Fixed.{fixed6}
use Rattle.rs274_sim.specs.declared.line.Word.{Word}
use Rattle.rs274_sim.specs.declared.line.Value.{Num}
use Rattle.rs274_sim.specs.Machine.{Z}
use Rattle.rs274_sim.specs.Cutter.{nanometre}
use Rattle.mill_program.specs.Heights.{with_shares, answer_parameter}
use Rattle.grid_writer.specs.declared.parts.Part.{Part}
use Rattle.grid_writer.specs.declared.parts.Part.TheVariants.{Plain, Levelled}

-- millionths behind a letter, or a height and the shares of four probes
abbrev pub word_of : Part → Word
word_of (Plain letter m) = record { letter = letter; value = Num (m *ℤ nanometre) }
word_of (Levelled z weights probes) = record { letter = Z; value = with_shares (Num (z *ℤ nanometre)) weights probes }

-- the share of a probe
abbrev pub share_text : ℤ → ℕ → List ℕ
share_text w k = 43 ∷ fixed6 w ++ 42 ∷ 35 ∷ decimal (answer_parameter k)

-- the shares of some probes
abbrev pub shares_text : List ℤ → List ℕ → List ℕ
shares_text [] ks = []
shares_text (w ∷ ws) [] = []
shares_text (w ∷ ws) (k ∷ ks) = share_text w k ++ shares_text ws ks
