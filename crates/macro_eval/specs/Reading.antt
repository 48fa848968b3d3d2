-- Reading an expression piece by piece.
use Rattle.std.specs.Prelude.{ℕ, List, [], ◌∷◌, ◌++◌, length, Bool, true, false, if◌then◌else◌, ◌==◌, Option, Some, None, Result, Ok, Err}
use Rattle.board_base.specs.Binds.{◌>>=◌}
use Rattle.macro_eval.specs.declared.fault.MacroFault.{MacroFault}
use Rattle.macro_eval.specs.declared.fault.MacroFault.TheVariants.{BadExpression, TooDeep}
use Rattle.macro_eval.specs.declared.steps.Operator.{Operator}
use Rattle.macro_eval.specs.declared.steps.Operand.{Operand}
use Rattle.macro_eval.specs.declared.steps.Step.{Step}
use Rattle.macro_eval.specs.declared.steps.Step.TheVariants.{Load, Negate, Join}
use Rattle.macro_eval.specs.declared.expression.Level.{Level}
use Rattle.macro_eval.specs.Pieces.{Piece, word, mark, pieces_of}
use Rattle.macro_eval.specs.Words.{operand_of}
use Rattle.macro_eval.specs.Grammar.{is_sign, is_scale, operator_of, turned}

-- What is held between two pieces: the steps so far, the open brackets with the innermost one first, what is
-- begun in the innermost one, and whether an operand has to come.
pub record Held : Type 0 where
  pub steps : List Step
  pub outer : List Level
  pub level : Level
  pub wanted : Bool

-- nothing is begun
abbrev pub blank : Level
blank = record { sum = None; product = None; odd = false }

-- the start of an expression behind these steps
abbrev pub at_start : List Step → Held
at_start steps = record { steps = steps; outer = []; level = blank; wanted = true }

-- the step of an operator that waits
abbrev pub join_step : Option Operator → List Step
join_step None = []
join_step (Some op) = Join op ∷ []

-- the step of a minus sign
abbrev pub minus_step : Bool → List Step
minus_step true = Negate ∷ []
minus_step false = []

-- an operand, whose steps stand, is there
abbrev pub with_operand : List Step → List Level → Level → Held
with_operand steps outer level = record { steps = steps ++ minus_step level.odd; outer = outer; level = record level { odd = false }; wanted = false }

-- the steps with all that is begun in a bracket
abbrev pub settled : List Step → Level → List Step
settled steps level = steps ++ join_step level.product ++ join_step level.sum

-- a sign before an operand
abbrev pub with_sign : Held → ℕ → Held
with_sign h b = record h { level = record h.level { odd = turned b h.level.odd } }

-- an opening bracket
abbrev pub with_bracket : ℕ → Held → Result Held MacroFault
with_bracket limit h =
    if length h.outer == limit then Err TooDeep
    else Ok (record { steps = h.steps; outer = h.level ∷ h.outer; level = blank; wanted = true })

-- a word where an operand has to come
abbrev pub with_word : Held → Option Operand → Result Held MacroFault
with_word h None = Err BadExpression
with_word h (Some o) = Ok (with_operand (h.steps ++ Load o ∷ []) h.outer h.level)

-- a piece where an operand has to come
abbrev pub before_operand : ℕ → Held → Piece → Result Held MacroFault
before_operand limit h (word bytes) = with_word h (operand_of bytes)
before_operand limit h (mark b) = if b == 40 then with_bracket limit h else if is_sign b then Ok (with_sign h b) else Err BadExpression

-- a sum goes on
abbrev pub with_term : Held → Operator → Held
with_term h op = record h { steps = settled h.steps h.level; level = record { sum = Some op; product = None; odd = false }; wanted = true }

-- a product goes on
abbrev pub with_factor : Held → Operator → Held
with_factor h op = record h { steps = h.steps ++ join_step h.level.product; level = record { sum = h.level.sum; product = Some op; odd = false }; wanted = true }

-- a closing bracket
abbrev pub without_bracket : List Step → List Level → Result Held MacroFault
without_bracket steps [] = Err BadExpression
without_bracket steps (level ∷ outer) = Ok (with_operand steps outer level)

-- a piece behind an operand
abbrev pub behind_operand : Held → Piece → Result Held MacroFault
behind_operand h (word bytes) = Err BadExpression
behind_operand h (mark b) =
    if b == 41 then without_bracket (settled h.steps h.level) h.outer
    else if is_sign b then Ok (with_term h (operator_of b))
    else if is_scale b then Ok (with_factor h (operator_of b))
    else Err BadExpression

-- one more piece
unfoldable pub took : ℕ → Held → Piece → Result Held MacroFault
took limit h piece = if h.wanted then before_operand limit h piece else behind_operand h piece

-- these pieces
abbrev pub took_all : ℕ → Held → List Piece → Result Held MacroFault
took_all limit h [] = Ok h
took_all limit h (piece ∷ ps) = do
  next ← took limit h piece
  took_all limit next ps

-- the end of an expression
unfoldable pub ended : Held → Result (List Step) MacroFault
ended h =
    if h.wanted then Err BadExpression
    else if length h.outer == 0 then Ok (settled h.steps h.level)
    else Err BadExpression

-- the steps of the expression that a text is, behind others
unfoldable pub read_behind : ℕ → List Step → List ℕ → Result (List Step) MacroFault
read_behind limit steps text = do
  h ← took_all limit (at_start steps) (pieces_of text)
  ended h
