-- The macros that are in force.
use Rattle.std.proofs.Common.{◌≡◌, refl, ap, ◌∙◌, ℕ, List, [], ◌∷◌, ◌++◌, Option, Some, None, Bool, true, false, cond, Result, Ok, Err, if◌then◌else◌}
use Rattle.std.specs.Option.{option_or}
use Rattle.std.specs.Str.{bytes_eq}
use Rattle.std.proofs.lemmas.List.{append-nil}
use Rattle.std.proofs.lemmas.List.Sums.{fold-append}
use Rattle.macro_eval.specs.Trees.{Statement}
use Rattle.macro_eval.specs.Body.{macro_of}
use Rattle.macro_eval.specs.declared.fault.MacroFault.{MacroFault}
use Rattle.apertures.specs.declared.macros.NamedMacro.{NamedMacro}
use Rattle.apertures.specs.Defined.{macro_named}
use Rattle.gerber_words.specs.declared.commands.Command.{Command}
use Rattle.gerber_words.specs.declared.commands.Command.TheVariants as commands
use Rattle.gerber_image.specs.InForce.{last_set, named_macro, macros_after, macros_at, statements_in, sets_macro}
use Rattle.gerber_image.specs.Laws.{LastMacroCounts}

-- one more definition
one_more : (name other : List ℕ) (macros : List NamedMacro) (read : Result (List Statement) MacroFault)
    → macro_named name (macros ++ named_macro other read) ≡ option_or (if bytes_eq other name then statements_in read else None) (macro_named name macros)
one_more name other macros (Err fault) = nothing (bytes_eq other name)
  where
    nothing : (b : Bool) → macro_named name (macros ++ []) ≡ option_or (cond b None None) (macro_named name macros)
    nothing true = ap (macro_named name) (append-nil macros)
    nothing false = ap (macro_named name) (append-nil macros)
one_more name other macros (Ok body) =
    fold-append (λ found m. if bytes_eq m.name name then Some m.body else found) None macros (record { name = other; body = body } ∷ []) ∙ chosen (bytes_eq other name) (macro_named name macros)
  where
    chosen : (b : Bool) (found : Option (List Statement)) → cond b (Some body) found ≡ option_or (cond b (Some body) None) found
    chosen true found = refl
    chosen false found = refl

pub last_macro_counts : LastMacroCounts
last_macro_counts [] name = refl
last_macro_counts (commands.DefineMacro other body ∷ past) name =
    one_more name other (macros_at past) (macro_of body)
    ∙ ap (option_or (if bytes_eq other name then statements_in (macro_of body) else None)) (last_macro_counts past name)
last_macro_counts (commands.Format f ∷ past) name = last_macro_counts past name
last_macro_counts (commands.Unit unit in_block ∷ past) name = last_macro_counts past name
last_macro_counts (commands.Polarity dark ∷ past) name = last_macro_counts past name
last_macro_counts (commands.Mirror mirror ∷ past) name = last_macro_counts past name
last_macro_counts (commands.Rotation angle ∷ past) name = last_macro_counts past name
last_macro_counts (commands.Interpolation mode ∷ past) name = last_macro_counts past name
last_macro_counts (commands.MultiQuadrant on ∷ past) name = last_macro_counts past name
last_macro_counts (commands.BeginRegion ∷ past) name = last_macro_counts past name
last_macro_counts (commands.EndRegion ∷ past) name = last_macro_counts past name
last_macro_counts (commands.Define number text ∷ past) name = last_macro_counts past name
last_macro_counts (commands.Select number ∷ past) name = last_macro_counts past name
last_macro_counts (commands.OpenRepeat columns rows dx dy ∷ past) name = last_macro_counts past name
last_macro_counts (commands.CloseRepeat ∷ past) name = last_macro_counts past name
last_macro_counts (commands.Operate operation ∷ past) name = last_macro_counts past name
last_macro_counts (commands.Ignored ∷ past) name = last_macro_counts past name
last_macro_counts (commands.DeprecatedSetting ∷ past) name = last_macro_counts past name
last_macro_counts (commands.Unsupported ∷ past) name = last_macro_counts past name
last_macro_counts (commands.End ∷ past) name = last_macro_counts past name
