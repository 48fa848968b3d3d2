use Rattle.std.proofs.Common.{Vec, Global, rules, List, ◌≤◌, ◌+◌, ℕ, ap, sym, ◌∙◌}
use Rattle.board_base.specs.declared.places.Cell.{Cell}
use Rattle.cell_grid.specs.Cells.{in_plane}
use Rattle.chain_walk.proofs.RowSteps.{by_indices, column_off, run_on, row_done}
use Rattle.chain_walk.proofs.rows.add_row.Goals as goal
use Rattle.chain_walk.proofs.rows.add_row.Goals.{then-is_on+in_ok-run+in_ok-push, else-is_on}

pub columns-preserved : goal.columns-preserved
columns-preserved c =
    let f = c.args.bench.now.frame in
    let plane = c.args.bench.now.pass in
    let at = by_indices _ _ _ _ _ c.frame-frame.ensures.value c.cell_at.ensures.column c.cell_at.ensures.row in
    elim c.if-is_on.branch [
      | then-is_on+in_ok-run+in_ok-push w ↦
          run_on f plane _ _ _ _ _ _ c.columns.invariant w.in_ok-run.ensures.run (w.x-is ∙ ap (λ (n : ℕ). c.columns.x + n) w.len.ensures)
          (ap (λ (v : Vec (List Cell) Global). v.items) w.runs-is ∙ w.in_ok-push.ensures.items)
      | else-is_on w ↦
          column_off f plane _ _ _ _ _ c.columns.invariant (ap (in_plane f plane) (sym at) ∙ sym c.is_on.ensures ∙ w.if-is_on.false) w.x-is (ap (λ (v : Vec (List Cell) Global). v.items) w.runs-is)
    ]

pub returns : goal.returns
returns c = row_done c.args.bench.now.frame c.args.bench.now.pass _ _ _ (let past : c.args.bench.now.frame.width ≤ c.columns.x = search rules in past) c.columns.invariant
