-- The half step, of a move along cells.
use Rattle.std.proofs.Common.{◌≡◌, ℤ, pos, ◌+ℤ◌, ◌*ℤ◌, true, sym, subst, ◌∙◌}
use Rattle.board_base.specs.declared.places.Cell.{Cell}
use Rattle.board_base.specs.declared.places.Point.{Point}
use Rattle.board_base.specs.Lattice.{centre_of, half_diagonal_of}
use Rattle.board_base.specs.Near.{near_of}
use Rattle.board_base.proofs.LatticeLaws.{diagonal_nonneg}
use Rattle.plane_geom.proofs.HalfStep.{on_lattice, near_run}
use Rattle.chain_walk.specs.Runs.{stepped}
use Rattle.rs274_sim.specs.Cutter.{nanometre, scaled, under, width_of}
use Rattle.mill_plan.proofs.MillsLaws.{lattice_is, unit_square, scaled_enough}
use Rattle.mill_plan.proofs.UnitLaws.{in_units, width_nonneg, width_sum}
use Rattle.program_check.specs.Own.{AlongLaw}

pub along_holds : AlongLaw
unfolding width_of
along_holds k test move ok o q r low swept =
    let p : ℤ = k.pitch in
    let h : ℤ = half_diagonal_of p in
    let a : Point = scaled (centre_of p o.first) in
    let over : near_of (scaled q) a (on_lattice a (p *ℤ nanometre) o.east o.north (pos o.count)) ((pos 2 *ℤ r) *ℤ nanometre) ≡ true =
    subst (λ (b : Point). near_of (scaled q) a b ((pos 2 *ℤ r) *ℤ nanometre) ≡ true) (o.to ∙ lattice_is p o.first o.east o.north o.count)
    (subst (λ (x : Point). near_of (scaled q) x (under move.to) ((pos 2 *ℤ r) *ℤ nanometre) ≡ true) o.from swept) in
    let found = near_run (p *ℤ nanometre) (h *ℤ nanometre) ((pos 2 *ℤ r) *ℤ nanometre) (scaled q) a o.east o.north o.count (scaled_enough p h ok.diagonal.enough) (in_units h (diagonal_nonneg p)) (width_nonneg r low)
    (unit_square o.east o.unit_east) (unit_square o.north o.unit_north) over in
    let c : Cell = stepped o.first o.east o.north found.at in (
      c,
      o.each found.at found.early,
      subst (λ (d : ℤ). near_of (scaled q) (scaled (centre_of p c)) (scaled (centre_of p c)) d ≡ true) (width_sum r h)
          (subst (λ (x : Point). near_of (scaled q) x x ((pos 2 *ℤ r) *ℤ nanometre +ℤ pos 2 *ℤ (h *ℤ nanometre)) ≡ true) (sym (lattice_is p o.first o.east o.north found.at)) found.near),
    )
