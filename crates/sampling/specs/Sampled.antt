-- What `sample` mills, what it tells of it, in which order its steps refuse, and how it ends.
use Rattle.std.specs.Prelude.{◌≡◌, ℕ, List, [], ◌∷◌, ◌++◌, length, Option, Some, None, Result, Ok, Err, codes, decimal}
use Rattle.std.specs.FinMap.{empty, insert}
use Rattle.board_base.specs.Files.{Files}
use Rattle.board_gen.specs.Board.{front_text, drill_text, outline_text}
use Rattle.drill_plan.specs.declared.plans.ToolPlan.{ToolPlan}
use Rattle.drill_plan.specs.Limits.{counts_of}
use Rattle.mill_plan.specs.declared.isolation.Isolation.{Isolation}
use Rattle.outline_plan.specs.declared.plan.OutlineCut.{OutlineCut}
use Rattle.endings.specs.declared.status.Status.{Status}
use Rattle.endings.specs.declared.status.Status.TheVariants.{Done}
use Rattle.endings.specs.Answers.{usage}
use Rattle.endings.specs.Reads.{Reading, held_in}
use Rattle.endings.specs.Ending.{Ending, refusal, with_ok}
use Rattle.endings.specs.Steps.{Is, Then}
use Rattle.mill_inputs.specs.Accepted.{Accepts}
use Rattle.mill_outputs.specs.declared.plans.Plans.{Plans}
use Rattle.mill_outputs.specs.Mill.{AsPlanned}
use Rattle.sampling.specs.declared.figures.Summary.{Summary}
use Rattle.sampling.specs.Words.{words_of}

-- ---- what is milled

-- the three texts of the board of so many pads
abbrev pub sample_files : ℕ → Files
sample_files pads =
    insert (insert (insert empty (codes "front.gbr") (front_text pads)) (codes "drill.drl") (drill_text pads))
    (codes "outline.gbr") (outline_text pads)

-- the words by which `mill` takes them: no file for the job, and nothing but their names
abbrev pub mill_words : List (List ℕ)
mill_words = codes "mill" ∷ codes "-" ∷ codes "--front=front.gbr" ∷ codes "--drill=drill.drl" ∷ codes "--outline=outline.gbr" ∷ []

-- these plans are what `mill` answers with these words and what reads give
abbrev pub HasPlans : List (List ℕ) → Reading → Plans → Type 0
HasPlans words given plans = (x : Accepts) × AsPlanned words given (Ok (record { accepts = x; plans = plans }))

-- ---- what is told of it

-- the islands of a side
abbrev pub islands_in : Option Isolation → ℕ
islands_in None = 0
islands_in (Some plan) = plan.islands

-- the groups of its islands that stay joined, each of which is a line of the report
abbrev pub listed_in : Option Isolation → ℕ
listed_in None = 0
listed_in (Some plan) = length plan.groups.items

-- the holes of all tools
abbrev pub holes_in : Option (List ToolPlan) → ℕ
holes_in None = 0
holes_in (Some plan) = (counts_of plan).holes

-- the walks round the board
abbrev pub chains_in : Option OutlineCut → ℕ
chains_in None = 0
chains_in (Some plan) = plan.chains

-- what is told of the plans for a board of so many pads
abbrev pub summary_of : ℕ → Plans → Summary
summary_of pads plans = record {
  pads = pads;
  islands = islands_in plans.front;
  listed = listed_in plans.front;
  holes = holes_in plans.drill;
  chains = chains_in plans.outline;
}

-- the line of that
abbrev pub summary_line : Summary → List ℕ
summary_line s =
    codes "sample " ++ decimal s.pads ++ codes " islands " ++ decimal s.islands ++ codes " listed " ++ decimal s.listed
    ++ codes " holes " ++ decimal s.holes ++ codes " chains " ++ decimal s.chains ++ codes "\n"

-- ---- all of it

-- the steps of `sample`, each of which refuses before the next: its words, and those of `mill` over the three texts
abbrev pub Sampled : List (List ℕ) → Result Summary Status → Type 0
Sampled words =
    Then (Is (usage (words_of words))) (λ pads.
    Then (AsPlanned mill_words (held_in (sample_files pads))) (λ m.
    Is (Ok (summary_of pads m.plans))))

-- the ending of what the steps answer
abbrev pub ending_of : Result Summary Status → Ending
ending_of (Ok s) = record { status = Done; outputs = []; lines = with_ok Done (summary_line s) }
ending_of (Err status) = refusal status

-- how `sample` ends with these words, whatever reads give
unfoldable pub SampleEnds : List (List ℕ) → Reading → Ending → Type 0
SampleEnds words given e = (answer : Result Summary Status) × Sampled words answer × (e ≡ ending_of answer)
