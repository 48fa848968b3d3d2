-- Which command the words of a run ask for, how it ends, and when its clauses speak of what was milled.
use Rattle.std.specs.Prelude.{◌≡◌, ℕ, List, Bool, is_ok, codes, if◌then◌else◌}
use Rattle.board_base.specs.Shelf.{ShelfState}
use Rattle.board_base.specs.Sink.{SinkState}
use Rattle.move_watch.specs.declared.bounds.Limits.{Limits}
use Rattle.endings.specs.declared.status.Status.{Status}
use Rattle.endings.specs.declared.status.Status.TheVariants.{Done}
use Rattle.endings.specs.Answers.{IfTold}
use Rattle.endings.specs.Ending.{Command}
use Rattle.endings.specs.Words.{word, exactly, IsExactUsage}
use Rattle.mill_inputs.specs.Words.{words_of as mill_words}
use Rattle.mill_outputs.specs.Mill.{Milled, Ends}
use Rattle.mill_outputs.specs.Headline.{Wrote}
use Rattle.simulation.specs.Words.{words_of as simulation_words}
use Rattle.simulation.specs.Simulated.{SimulationEnds}
use Rattle.sampling.specs.Words.{words_of as sample_words}
use Rattle.sampling.specs.Sampled.{SampleEnds}
use Rattle.checking.specs.Words.{words_of as check_words}
use Rattle.checking.specs.Checked.{Checked, CheckEnds}
use Rattle.checking.specs.Sound.{Passed}
use Rattle.checking.specs.Own.{PassesOwn}
use Rattle.mill_top.specs.declared.asked.Asked.{Asked}
use Rattle.mill_top.specs.declared.asked.Asked.TheVariants.{Simulation, Sample, Check, Mill}

-- the first word is this one
abbrev pub asks_for : List ℕ → List (List ℕ) → Bool
asks_for command words = is_ok (word 1 (exactly command) words)

-- what the words ask for: a simulation, a sample, a check, or none of these
abbrev pub asked_of : List (List ℕ) → Asked
asked_of words =
    if asks_for (codes "simulate") words then Simulation
    else if asks_for (codes "sample") words then Sample
    else if asks_for (codes "check") words then Check
    else Mill

-- how a run ends with these words: where they ask for a simulation under watchers with these bounds, for a sample, for a
-- check, and for none of these
abbrev pub EndsBy : Asked → List Limits → List (List ℕ) → Command
EndsBy Simulation limits words = SimulationEnds limits words
EndsBy Sample limits words = SampleEnds words
EndsBy Check limits words = CheckEnds words
EndsBy Mill limits words = Ends words

-- how a run ends, by the command that its words ask for: where they ask for none, as `mill` does, whose first word it refuses
abbrev pub CommandOf : List Limits → List (List ℕ) → Command
CommandOf limits words = EndsBy (asked_of words) limits words

-- Usage comes exactly where these words are outside their grammar, where they ask for a simulation, for a sample, for a
-- check, and for none of these
abbrev pub IsExactUsageBy : Asked → List (List ℕ) → Status → Type 0
IsExactUsageBy Simulation words status = IsExactUsage (simulation_words words) status
IsExactUsageBy Sample words status = IsExactUsage (sample_words words) status
IsExactUsageBy Check words status = IsExactUsage (check_words words) status
IsExactUsageBy Mill words status = IsExactUsage (mill_words words) status

-- the same, by the command that the words ask for
abbrev pub IsExactUsageOf : List (List ℕ) → Status → Type 0
IsExactUsageOf words status = IsExactUsageBy (asked_of words) words status

-- where nothing but `mill` is asked for and the answer is Done, such files were written, if the files are told
abbrev pub AfterMill : (Milled → Type 0) → List (List ℕ) → Status → ShelfState → ShelfState → Type 0
AfterMill P words result before now =
    asked_of words ≡ Mill → result ≡ Done → IfTold before.files (λ files. Wrote P words files now.files)

-- where a check is asked for and the answer is Done, the program passed so, if the files are told
abbrev pub AfterCheck : (Checked → Type 0) → List (List ℕ) → Status → ShelfState → SinkState → SinkState → Type 0
AfterCheck P words result before sink_before sink_now =
    asked_of words ≡ Check → result ≡ Done → IfTold before.files (λ files. Passed P words files sink_before sink_now)

-- where a check is asked for, the program of a side as `mill` makes it passes
abbrev pub AfterOwnCheck : List (List ℕ) → Status → ShelfState → ShelfState → SinkState → SinkState → Type 0
AfterOwnCheck words result before now sink_before sink_now = asked_of words ≡ Check → PassesOwn words result before now sink_before sink_now
