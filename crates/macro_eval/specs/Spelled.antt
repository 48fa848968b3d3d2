-- Which pieces are expressions, and where others go wrong.
use Rattle.std.specs.Prelude.{◌≡◌, ◌↔◌, ℕ, ◌+◌, List, [], ◌∷◌, ◌++◌, Result, Ok, Err}
use Rattle.board_base.specs.Binds.{◌>>=◌}
use Rattle.macro_eval.specs.declared.fault.MacroFault.{MacroFault}
use Rattle.macro_eval.specs.declared.fault.MacroFault.TheVariants.{BadExpression, TooDeep}
use Rattle.macro_eval.specs.declared.steps.Step.{Step}
use Rattle.macro_eval.specs.Pieces.{Piece, mark, pieces_of, text_of}
use Rattle.macro_eval.specs.Trees.{Expression, steps_in}
use Rattle.macro_eval.specs.Grammar.{IsExpression}
use Rattle.macro_eval.specs.Reading.{at_start, took_all, ended}

-- the steps of the expression that pieces are
abbrev pub expression_steps : ℕ → List Piece → Result (List Step) MacroFault
expression_steps limit ps = do
  h ← took_all limit (at_start []) ps
  ended h

-- some expression begins with these pieces
abbrev pub Begins : ℕ → List Piece → Type 0
Begins limit front = (rest : List Piece) × (e : Expression) × IsExpression limit (front ++ rest) e

-- The first piece that no continuation mends is an opening bracket, and it would be mended if one bracket more
-- might be open.
pub record IsTooDeep (limit : ℕ) (ps : List Piece) : Type 0 where
  pub front : List Piece
  pub rest : List Piece
  pub cut : ps ≡ front ++ mark 40 ∷ rest
  pub begins : Begins limit front
  pub lost : Begins limit (front ++ mark 40 ∷ []) → ⊥
  pub deeper : Begins (limit + 1) (front ++ mark 40 ∷ [])

-- pieces are read as the expression that they are, and no other; else they are too deep, or bad
pub record ExpressionLaw : Type 0 where
  pub reads : (limit : ℕ) (ps : List Piece) (e : Expression) → (expression_steps limit ps ≡ Ok (steps_in e)) ↔ IsExpression limit ps e
  pub each : (limit : ℕ) (ps : List Piece) (steps : List Step) → expression_steps limit ps ≡ Ok steps → (e : Expression) × (steps ≡ steps_in e)
  pub deep : (limit : ℕ) (ps : List Piece) → (expression_steps limit ps ≡ Err TooDeep) ↔ IsTooDeep limit ps
  pub bad : (limit : ℕ) (ps : List Piece) → (expression_steps limit ps ≡ Err BadExpression) ↔ (((e : Expression) → IsExpression limit ps e → ⊥) × (IsTooDeep limit ps → ⊥))
  pub one : (limit : ℕ) (ps : List Piece) (d e : Expression) → IsExpression limit ps d → IsExpression limit ps e → d ≡ e
  pub text : (text : List ℕ) → text_of (pieces_of text) ≡ text
