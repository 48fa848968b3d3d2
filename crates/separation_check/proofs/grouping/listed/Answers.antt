use Rattle.std.proofs.Common.{arith}
use Rattle.separation_check.proofs.Tables.{listed_on, listed_off, listed_renamed}
use Rattle.separation_check.proofs.grouping.listed.Goals as goal
use Rattle.separation_check.proofs.grouping.listed.Goals.{then-u-ne0+then-table-u+in_ok-push, else-u-ne0, else-u-ne0-via-then-u-ne0+else-table-u, else-u-ne0-via-else-u-ne0}

pub islands-preserved : goal.islands-preserved
islands-preserved c =
    elim c.if-u-ne0.branch [
      | then-u-ne0+then-table-u+in_ok-push w ↦ listed_renamed _ _ _ _ w.list-is (listed_on _ _ _ _ c.islands.invariant w.if-table-u.true w.in_ok-push.ensures.items)
      | else-u-ne0 w ↦
          elim w.else-u-ne0.branch [
            | else-u-ne0-via-then-u-ne0+else-table-u w' ↦ listed_renamed _ _ _ _ w.list-is (listed_off _ _ _ c.islands.invariant (λ _. w'.if-table-u.false))
            | else-u-ne0-via-else-u-ne0 w' ↦ listed_renamed _ _ _ _ w.list-is (listed_off _ _ _ c.islands.invariant (λ l. absurd (omega (arith, l, w'.if-u-ne0.false))))
          ]
    ]
