-- How far a reader has come.
use Rattle.std.specs.Prelude.{◌≡◌, ◌≤◌, ℕ, ◌-◌, List, length}
use Rattle.text_cut.specs.Lines.{Line, lines_from}
use Rattle.excellon.specs.Checks.{Held, held}
use Rattle.excellon.specs.Drill.{drill_of, outcome_in}
use Rattle.excellon.specs.declared.line.Said.{Said}

-- the lines of what is left of the bytes
abbrev pub lines_left : List ℕ → List ℕ → List Line
lines_left bytes rest = lines_from (length bytes - length rest) rest

-- Some lines are read, all depends on those that are left, and what is kept is what the ones before have set.
pub record IsReached (bytes rest : List ℕ) (h : Held) : Type 0 where
  pub past : List Said
  pub left : drill_of bytes ≡ outcome_in (length bytes) past (lines_left bytes rest)
  pub kept : h ≡ held past
  pub within : length rest ≤ length bytes
