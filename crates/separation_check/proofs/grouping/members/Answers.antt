use Rattle.std.proofs.Common.{◌<◌, length, ℕ, arith}
use Rattle.separation_check.specs.Meetings.{islands_of}
use Rattle.separation_check.specs.Grouping.{at}
use Rattle.separation_check.proofs.Tables.{members_listed, island_in, islands_len}
use Rattle.separation_check.proofs.grouping.members.Goals as goal

pub returns : goal.returns
returns c =
    let ms = c.args.meetings.now in
    let all : (a : ℕ) → 0 < at (islands_of ms) a → a < length ms = λ a s. omega (arith, island_in (islands_of ms) a s, islands_len ms) in
    let few : (a : ℕ) → at (islands_of ms) a < length c.mark.new.table = λ a. omega (arith, c.requires.few a, c.mark.ensures.len) in
    members_listed _ _ _ _ _ _ c.mark.ensures.table all few c.in_ok-found.ensures
