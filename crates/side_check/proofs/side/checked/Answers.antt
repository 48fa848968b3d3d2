use Rattle.std.proofs.Common.{◌≡◌, ◌⊎◌, inl, inr, rules, Err, subst}
use Rattle.std.proofs.lemmas.Int.{to_z-of_z}
use mir.Val.{SFits}
use mir.Syntax.{w64}
use Rattle.mill_plan.specs.declared.cutting.Cutting.{Cutting}
use Rattle.mill_plan.specs.Cutting.{side_cutting}
use Rattle.mill_plan.specs.Side.{IsNumberedSide}
use Rattle.side_check.specs.declared.fault.SideFault.TheVariants.{Memory}
use Rattle.side_check.specs.Found.{IsSideRefused, AreFound}
use Rattle.side_check.proofs.CheckLaws.{near_centres, at_grid, at_answers, at_run, at_hit, at_end}
use Rattle.side_check.proofs.FoundLaws.{refused_side}
use Rattle.side_check.proofs.side.checked.Goals as goal

pub returns-in-Err : goal.returns-in-Err
returns-in-Err c =
    elim c.in-Err.ensures.numbered as (λ _. (c.in-Err.fault ≡ Memory) ⊎ AreFound c.args.job.now c.args.side c.args.painted.now.items c.args.lines.now.items c.args.answers.now.items (Err c.in-Err.fault)) [
      | inl memory ↦ inl memory
      | inr refused ↦ inr (refused_side c.args.job.now c.args.side c.args.painted.now.items c.args.lines.now.items c.args.answers.now.items c.in-Err.fault
          (subst (λ (k : Cutting). IsSideRefused k c.args.painted.now.items c.in-Err.fault) c.side_cutting-cutting.ensures.value refused))
    ]

pub returns-in-Err-side_grid : goal.returns-in-Err-side_grid
returns-in-Err-side_grid c =
    let s : IsNumberedSide (side_cutting c.args.job.now) c.args.painted.now.items c.in-Ok.ensures.numbered.0 c.in-Ok.bench = subst (λ (k : Cutting). IsNumberedSide k c.args.painted.now.items c.in-Ok.ensures.numbered.0 c.in-Ok.bench) c.side_cutting-cutting.ensures.value c.in-Ok.ensures.numbered.1 in
    inr (at_grid c.args.job.now c.args.side c.args.painted.now.items c.args.lines.now.items c.args.answers.now.items c.in-Ok.ensures.numbered.0 c.in-Ok.bench s c.frame.result c.in-Err-side_grid.fault c.frame.ensures.value c.in-Err-side_grid.ensures.value)

pub returns-in-Err-enough_answers : goal.returns-in-Err-enough_answers
returns-in-Err-enough_answers c =
    let s : IsNumberedSide (side_cutting c.args.job.now) c.args.painted.now.items c.in-Ok.ensures.numbered.0 c.in-Ok.bench = subst (λ (k : Cutting). IsNumberedSide k c.args.painted.now.items c.in-Ok.ensures.numbered.0 c.in-Ok.bench) c.side_cutting-cutting.ensures.value c.in-Ok.ensures.numbered.1 in
    inr (at_answers c.args.job.now c.args.side c.args.painted.now.items c.args.lines.now.items c.args.answers.now.items c.in-Ok.ensures.numbered.0 c.in-Ok.bench s c.frame.result c.in-Ok-side_grid.grid c.frame.ensures.value c.in-Ok-side_grid.ensures.value
    c.in-Err-enough_answers.fault c.in-Err-enough_answers.ensures)

pub returns-in-Err-moves_of : goal.returns-in-Err-moves_of
returns-in-Err-moves_of c =
    let s : IsNumberedSide (side_cutting c.args.job.now) c.args.painted.now.items c.in-Ok.ensures.numbered.0 c.in-Ok.bench = subst (λ (k : Cutting). IsNumberedSide k c.args.painted.now.items c.in-Ok.ensures.numbered.0 c.in-Ok.bench) c.side_cutting-cutting.ensures.value c.in-Ok.ensures.numbered.1 in
    at_run c.args.job.now c.args.side c.args.painted.now.items c.args.lines.now.items c.args.answers.now.items c.in-Ok.ensures.numbered.0 c.in-Ok.bench s c.frame.result c.in-Ok-side_grid.grid c.frame.ensures.value c.in-Ok-side_grid.ensures.value
    c.in_default.ensures c.in-Err-moves_of.fault c.in-Err-moves_of.ensures.run

pub first_strike-requires-clause-centres : goal.first_strike-requires-clause-centres
first_strike-requires-clause-centres c = near_centres c.in-Ok.bench.frame c.in-Ok.ensures.reach

pub returns-in-Some : goal.returns-in-Some
returns-in-Some c =
    let safe : SFits w64 c.args.job.now.zsafe = search rules in
    let width : SFits w64 c.hit_width.result = search rules in
    let s : IsNumberedSide (side_cutting c.args.job.now) c.args.painted.now.items c.in-Ok.ensures.numbered.0 c.in-Ok.bench = subst (λ (k : Cutting). IsNumberedSide k c.args.painted.now.items c.in-Ok.ensures.numbered.0 c.in-Ok.bench) c.side_cutting-cutting.ensures.value c.in-Ok.ensures.numbered.1 in
    inr (at_hit c.args.job.now c.args.side c.args.painted.now.items c.args.lines.now.items c.args.answers.now.items c.in-Ok.ensures.numbered.0 c.in-Ok.bench s c.frame.result c.in-Ok-side_grid.grid c.frame.ensures.value c.in-Ok-side_grid.ensures.value
    c.in_default.ensures c.in-Ok-moves_of.moves.items c.in-Ok-moves_of.ensures.run c.unit_law.ensures c.whole_law.ensures c.side_cutting-cutting.result c.side_cutting-cutting.ensures.value c.hit_width.result c.hit_width.ensures.value
    c.in-Some.strike.cell c.in-Some.strike.line c.rising_law.ensures c.scan_law.ensures (simp to_z-of_z at c.in-Some.ensures))

pub mark_deep-requires-clause-centres : goal.mark_deep-requires-clause-centres
mark_deep-requires-clause-centres c = near_centres c.in-Ok.bench.frame c.in-Ok.ensures.reach

pub returns-in-Ok-left_groups : goal.returns-in-Ok-left_groups
returns-in-Ok-left_groups c =
    let safe : SFits w64 c.args.job.now.zsafe = search rules in
    let work : SFits w64 c.args.job.now.zwork = search rules in
    let width : SFits w64 c.hit_width.result = search rules in
    let marked : SFits w64 c.mark_width-width.result = search rules in
    let s : IsNumberedSide (side_cutting c.args.job.now) c.args.painted.now.items c.in-Ok.ensures.numbered.0 c.in-Ok.bench = subst (λ (k : Cutting). IsNumberedSide k c.args.painted.now.items c.in-Ok.ensures.numbered.0 c.in-Ok.bench) c.side_cutting-cutting.ensures.value c.in-Ok.ensures.numbered.1 in
    at_end c.args.job.now c.args.side c.args.painted.now.items c.args.lines.now.items c.args.answers.now.items c.in-Ok.ensures.numbered.0 c.in-Ok.bench s c.frame.result c.in-Ok-side_grid.grid c.frame.ensures.value c.in-Ok-side_grid.ensures.value
    c.in_default.ensures c.in-Ok-moves_of.moves.items c.in-Ok-moves_of.ensures.run c.unit_law.ensures c.whole_law.ensures c.side_cutting-cutting.result c.side_cutting-cutting.ensures.value c.hit_width.result c.hit_width.ensures.value
    c.mark_deep.new.bench c.mark_width-width.result c.in-Ok-left_groups.groups.items c.plane_law.ensures (simp to_z-of_z at c.in_default-first_strike.ensures) c.mark_width-width.ensures.value
    (simp to_z-of_z at c.mark_deep.ensures) c.in-Ok-left_groups.ensures
