use Rattle.std.proofs.Common.{List, rules, ◌≡◌, ◌≤◌, ◌++◌, ◌∷◌, [], length, false, ap, sym, ◌∙◌, arith}
use Rattle.board_base.specs.declared.places.Cell.{Cell}
use Rattle.cell_grid.specs.Cells.{in_plane}
use Rattle.chain_walk.specs.RowsDone.{cell_by}
use Rattle.chain_walk.proofs.RowSteps.{by_indices, one_taken, column_on, run_ends, east_end}
use Rattle.chain_walk.proofs.rows.run_at.Goals as goal
use Rattle.chain_walk.proofs.rows.run_at.Goals.{else-columns-test, then-columns-test+then-not-is_on}

pub columns-init : goal.columns-init
columns-init c =
    let one : c.push.new.self.items ≡ c.cell_at.result ∷ [] = c.in_ok-push.ensures.items ∙ ap (λ (xs : List Cell). xs ++ c.cell_at.result ∷ []) c.new-cells.ensures.items in
    let n : length c.push.new.self.items ≡ 1 = ap (λ (xs : List Cell). length xs) one in
    record {
      from = one_taken _ _ _ _ (by_indices _ _ _ _ _ c.frame-frame.ensures.value c.cell_at.ensures.column c.cell_at.ensures.row) c.requires.on one;
      there = omega (arith, n);
    }

pub columns-preserved : goal.columns-preserved
columns-preserved c =
    record {
      from =
          column_on c.args.bench.now.frame c.args.bench.now.pass c.args.x c.args.y _ _ _ _ c.columns.invariant.from c.columns.invariant.there
          (by_indices _ _ _ _ _ c.frame-frame.ensures.value c.cell_at-c.ensures.column c.cell_at-c.ensures.row) (sym c.is_on.ensures ∙ c.if-not-is_on.false) c.in_ok-push-2.ensures.items;
      there = search rules;
    }

pub returns-clause-run : goal.returns-clause-run
returns-clause-run c =
    let f = c.args.bench.now.frame in
    let plane = c.args.bench.now.pass in
    run_ends f plane c.args.x c.args.y _ _ _ c.columns.invariant.from c.columns.invariant.there
    (elim c.columns-test.branch as (λ _. in_plane f plane (cell_by f c.columns.at c.args.y) ≡ false) [
      | else-columns-test w ↦ east_end f plane c.columns.at c.args.y (let past : f.width ≤ c.columns.at = search rules in past)
      | then-columns-test+then-not-is_on w ↦
          ap (in_plane f plane) (sym (by_indices _ _ _ _ _ c.frame-frame.ensures.value w.cell_at-c.ensures.column w.cell_at-c.ensures.row)) ∙ sym w.is_on.ensures ∙ w.if-not-is_on.true
    ])
    c.of.ensures
