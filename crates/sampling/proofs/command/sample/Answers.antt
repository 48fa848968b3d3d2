use Rattle.std.proofs.Common.{ap, ◌∙◌}
use Rattle.std.specs.Prelude.{string_bytes}
use Rattle.job_file.specs.Reading.{texts}
use Rattle.sampling.specs.Sampled.{summary_line}
use Rattle.sampling.proofs.EndLaws.{usage_works, board_works, sample_works, usage_alone, board_alone, sample_alone, usage_board, board_not_done}
use Rattle.sampling.proofs.command.sample.Goals as goal

-- ---- wrong words

pub returns-in-Err-clause-works : goal.returns-in-Err-clause-works
returns-in-Err-clause-works c = usage_works (texts c.args.words.now) c.in-Err.word c.in-Err.ensures.value

pub returns-in-Err-clause-answers : goal.returns-in-Err-clause-answers
returns-in-Err-clause-answers c = usage_alone (texts c.args.words.now) c.in-Err.word c.in-Err.ensures.value

-- ---- a board that is refused

pub returns-in-Err-plan_sample-clause-usage : goal.returns-in-Err-plan_sample-clause-usage
returns-in-Err-plan_sample-clause-usage c =
    usage_board (texts c.args.words.now) c.in-Ok.pads c.in-Err-plan_sample.status c.in-Ok.ensures.value c.in-Ok.ensures.range.1 c.in-Err-plan_sample.ensures.answer

pub returns-in-Err-plan_sample-clause-refused : goal.returns-in-Err-plan_sample-clause-refused
returns-in-Err-plan_sample-clause-refused c done =
    board_not_done c.in-Ok.pads c.in-Err-plan_sample.status c.in-Ok.ensures.range.1 c.in-Err-plan_sample.ensures.answer (cc)

pub returns-in-Err-plan_sample-clause-works : goal.returns-in-Err-plan_sample-clause-works
returns-in-Err-plan_sample-clause-works c =
    board_works (texts c.args.words.now) c.in-Ok.pads c.in-Err-plan_sample.status c.in-Ok.ensures.value c.in-Ok.ensures.range.1 c.in-Err-plan_sample.ensures.answer

pub returns-in-Err-plan_sample-clause-answers : goal.returns-in-Err-plan_sample-clause-answers
returns-in-Err-plan_sample-clause-answers c =
    board_alone (texts c.args.words.now) c.in-Ok.pads c.in-Err-plan_sample.status c.in-Ok.ensures.value c.in-Err-plan_sample.ensures.answer

-- ---- a board that was milled

pub returns-in-Ok-summary_line-clause-works : goal.returns-in-Ok-summary_line-clause-works
returns-in-Ok-summary_line-clause-works c =
    sample_works (texts c.args.words.now) c.in-Ok.pads c.in-Ok-plan_sample.plans (string_bytes c.in-Ok-summary_line.lines) c.in-Ok.ensures.value c.in-Ok-plan_sample.ensures.answer (c.in-Ok-summary_line.ensures ∙ ap summary_line c.summarize-summary.ensures)

pub returns-in-Ok-summary_line-clause-answers : goal.returns-in-Ok-summary_line-clause-answers
returns-in-Ok-summary_line-clause-answers c =
    sample_alone (texts c.args.words.now) c.in-Ok.pads c.in-Ok-plan_sample.plans c.in-Ok.ensures.value c.in-Ok-plan_sample.ensures.answer
