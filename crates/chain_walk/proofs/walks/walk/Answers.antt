use Rattle.std.proofs.Common.{rules, ◌≡◌, ◌≤◌, ◌++◌, ◌∷◌, [], length, ℕ, refl, subst, ap, sym, ◌∙◌}
use Rattle.std.proofs.lemmas.Bool.{false≢true}
use Rattle.cell_grid.specs.Cells.{in_plane}
use Rattle.cell_grid.proofs.CellsLaws.{in_frame_is}
use Rattle.chain_walk.specs.Walk.{IsWalk, IsShort}
use Rattle.chain_walk.proofs.WalkGrids.{grids_begun, grids_on, grids_back, grids_ended, grid_frame, at_inside, next_inside, IsWalkingIn}
use Rattle.chain_walk.proofs.walks.walk.Goals as goal

pub enter-requires : goal.enter-requires
enter-requires c = in_frame_is _ _ c.requires.inside

pub first_open-requires-clause-frame : goal.first_open-requires-clause-frame
first_open-requires-clause-frame c = grid_frame _ _ _ _ _ _ _ _ c.steps.invariant.walking

pub first_open-requires-clause-at : goal.first_open-requires-clause-at
first_open-requires-clause-at c = at_inside _ _ _ _ _ _ _ _ c.steps.invariant.walking

pub enter-requires-in-Some : goal.enter-requires-in-Some
enter-requires-in-Some c = next_inside _ _ _ _ _ _ _ _ _ c.steps.invariant.walking c.in-Some.ensures.some

pub steps-init : goal.steps-init
steps-init c =
    let e = c.in_ok-enter.ensures in
    record {
      walking = grids_begun _ _ _ _ _ _ c.requires c.frame-frame.ensures.value c.frame-frame.ensures.valid e.grid
          (e.list ∙ ap (λ xs. xs ++ c.args.start ∷ []) c.new-list.ensures.items) (e.back ∙ ap (λ xs. xs ++ c.args.start ∷ []) c.new-back.ensures.items);
      ended = λ z. absurd (false≢true (sym z));
    }

pub steps-preserved-in-Some : goal.steps-preserved-in-Some
steps-preserved-in-Some c =
    let e = c.in_ok-enter-in-Some.ensures in
    let n : c.len-last.result ≡ length c.enter-in-Some.new.list.items = search rules in
    record {
      walking = subst (λ (n : ℕ). IsWalkingIn c.args.bench.now c.args.start c.frame-frame.result c.enter-in-Some.new.bench c.enter-in-Some.new.list.items c.enter-in-Some.new.back.items c.in-Some.b n) (sym n)
          (grids_on _ _ _ _ _ _ _ _ _ _ _ _ c.steps.invariant.walking c.in-Some.ensures.some e.grid e.list e.back);
      ended = λ z. absurd (false≢true (sym z ∙ c.steps-test.true));
    }

pub steps-preserved-then-len-gt1 : goal.steps-preserved-then-len-gt1
steps-preserved-then-len-gt1 c =
    let e = c.in_ok-at-in-None.ensures in
    let two : 2 ≤ length c.steps.back.items = search rules in
    record {
      walking = grids_back _ _ _ _ _ _ _ _ _ _ _ c.steps.invariant.walking (c.in-None.ensures.none refl) two e.value e.list e.back;
      ended = λ z. absurd (false≢true (sym z ∙ c.steps-test.true));
    }

pub returns-clause-walk : goal.returns-clause-walk
returns-clause-walk c =
    let q = c.steps.invariant.ended c.steps-test.false in
    subst (IsWalk (in_plane c.args.bench.now.frame c.args.bench.now.pass)) (sym c.of.ensures) (grids_ended _ _ _ _ _ _ _ _ _ c.steps.invariant.walking q.0 q.1 c.truncate.ensures.items).walk

pub returns-clause-short : goal.returns-clause-short
returns-clause-short c =
    let q = c.steps.invariant.ended c.steps-test.false in
    subst (IsShort (in_plane c.args.bench.now.frame c.args.bench.now.pass)) (sym c.of.ensures) (grids_ended _ _ _ _ _ _ _ _ _ c.steps.invariant.walking q.0 q.1 c.truncate.ensures.items).short

pub returns-clause-walked : goal.returns-clause-walked
returns-clause-walked c =
    let q = c.steps.invariant.ended c.steps-test.false in
    (grids_ended _ _ _ _ _ _ _ _ _ c.steps.invariant.walking q.0 q.1 c.truncate.ensures.items).walked
