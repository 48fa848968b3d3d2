use Rattle.std.proofs.Common.{rules, Vec, Global, List, ℕ, ◌<◌, ◌≤◌, [], ◌∷◌, ◌++◌, ◌∙◌, ap, refl, length, arith}
use Rattle.separation_check.specs.Meetings.{islands_of}
use Rattle.separation_check.specs.Grouping.{at}
use Rattle.separation_check.proofs.Tables.{island_in, islands_len}
use Rattle.separation_check.proofs.Groupings.{listing_on, listing_off, listing_ended}
use Rattle.separation_check.proofs.grouping.groups_by.Goals as goal
use Rattle.separation_check.proofs.grouping.groups_by.Goals.{then-len-ge-SMALLEST_GROUP+in_ok-push, else-len-ge-SMALLEST_GROUP}

pub classes-preserved : goal.classes-preserved
classes-preserved c =
    let p = c.classes.invariant in
    let q = c.in_ok-islands.ensures in
    record {
      listing =
          elim c.if-len-ge-SMALLEST_GROUP.branch [
            | then-len-ge-SMALLEST_GROUP+in_ok-push w ↦
                let two : 2 ≤ length c.in_ok-islands.islands.items = search rules in
                listing_on _ _ _ _ _ _ _ _ _ p.listing c.classes-test.true refl q two
                (ap (λ (v : Vec (List ℕ) Global). v.items) w.groups-is ∙ w.in_ok-push.ensures.items ∙ ap (λ (xs : List ℕ). c.classes.groups.items ++ xs ∷ []) w.of.ensures)
            | else-len-ge-SMALLEST_GROUP w ↦
                let short : length c.in_ok-islands.islands.items < 2 = search rules in
                listing_off _ _ _ _ _ _ _ _ _ p.listing c.classes-test.true refl q short (ap (λ (v : Vec (List ℕ) Global). v.items) w.groups-is)
          ];
      len = c.members.auto.table ∙ p.len;
    }

pub returns : goal.returns
returns c =
    let ms = c.args.meetings.now in
    let all : (a : ℕ) → 0 < at (islands_of ms) a → a < length ms = λ a s. omega (arith, island_in (islands_of ms) a s, islands_len ms) in
    listing_ended _ _ _ _ _ _ all c.classes.invariant.listing c.classes-test.false
