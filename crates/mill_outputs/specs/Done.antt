-- When the headline holds.
use Rattle.std.specs.Prelude.{◌≡◌, ℕ, List}
use Rattle.board_base.specs.Shelf.{ShelfState}
use Rattle.endings.specs.declared.status.Status.{Status}
use Rattle.endings.specs.declared.status.Status.TheVariants.{Done}
use Rattle.endings.specs.Answers.{IfTold}
use Rattle.endings.specs.Run.{Leaves}
use Rattle.mill_outputs.specs.Mill.{Milled, Ends}
use Rattle.mill_outputs.specs.Headline.{Wrote}

-- wherever Done leaves the shelf so and the files are told, such files were written
abbrev pub AfterDone : (Milled → Type 0) → Type 0
AfterDone P =
    (words : List (List ℕ)) (result : Status) (before now : ShelfState) → Leaves (Ends words) result before now → result ≡ Done
    → IfTold before.files (λ files. Wrote P words files now.files)
