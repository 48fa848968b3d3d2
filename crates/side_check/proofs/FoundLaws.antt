-- Each refusal of a check, and what is found where there is none.
use Rattle.std.proofs.Common.{◌≡◌, ◌⊎◌, inl, inr, ℕ, ℤ, List, Option, Result, Ok, Err, refl, sym, ap, subst}
use Rattle.board_base.specs.declared.places.Cell.{Cell}
use Rattle.board_base.specs.declared.places.Move.{Move}
use Rattle.board_base.specs.declared.places.Side.{Side}
use Rattle.cell_grid.specs.declared.frames.Frame.{Frame}
use Rattle.cell_grid.specs.declared.frames.GridError.TheVariants.{PastReach, TooWide, TooManyCells}
use Rattle.shape_parts.specs.declared.shape.Painted.{Painted}
use Rattle.rs274_sim.specs.declared.line.Line.{Line}
use Rattle.rs274_sim.specs.Machine.{run_of}
use Rattle.mill_program.specs.declared.probes.ProbeGrid.{ProbeGrid}
use Rattle.job_file.specs.declared.job.Job.{Job}
use Rattle.mill_plan.specs.declared.cutting.Cutting.{Cutting}
use Rattle.mill_plan.specs.declared.limits.LimitHit.{LimitHit}
use Rattle.mill_plan.specs.declared.limits.LimitHit.TheVariants.{Reach, Side as TooLong, Cells, Islands, Objects, Vertices, Holes, Probes, Tile}
use Rattle.mill_plan.specs.declared.limits.PlanError.{PlanError}
use Rattle.mill_plan.specs.declared.limits.PlanError.TheVariants as plans
use Rattle.mill_plan.specs.Cutting.{side_cutting, kept_by}
use Rattle.mill_plan.specs.Frame.{IsFrameOf, HitsLimit}
use Rattle.program_check.specs.Deep.{Surface, IsDeepOver}
use Rattle.program_check.specs.Hits.{IsClear, IsFirstHit}
use Rattle.program_check.specs.Marks.{ArePrinted}
use Rattle.side_check.specs.declared.fault.SideFault.{SideFault}
use Rattle.side_check.specs.declared.fault.SideFault.TheVariants.{Limit, Hit, Memory}
use Rattle.side_check.specs.Found.{fault_of, IsSideRefused, AreNumbered, grid_over_side, surface_or_missing, moves_or_fault, AreFound}

-- a limit that a side hits is one of its frame or of its islands
pub limit_refused : (k : Cutting) (painted : List Painted) (hit : LimitHit) → HitsLimit k painted hit → IsSideRefused k painted (Limit hit)
limit_refused k painted (Reach v) h = inl (PastReach v, (h, refl))
limit_refused k painted (TooLong n) h = inl (TooWide n, (h, refl))
limit_refused k painted (Cells n) h = inl (TooManyCells n, (h, refl))
limit_refused k painted Islands h = inr (h.frame, h.framed, (refl, h.many))
limit_refused k painted Objects h = absurd h
limit_refused k painted Vertices h = absurd h
limit_refused k painted Holes h = absurd h
limit_refused k painted (Probes n) h = absurd h
limit_refused k painted (Tile x y) h = absurd h

-- what a plan refuses is want of memory, or refused of the side
pub plan_refused : (k : Cutting) (painted : List Painted) (error : PlanError) (fault : SideFault) → fault ≡ fault_of error → ((hit : LimitHit) → error ≡ plans.Limit hit → HitsLimit k painted hit)
    → (fault ≡ Memory) ⊎ IsSideRefused k painted fault
plan_refused k painted (plans.Limit hit) fault is hits = inr (subst (λ (e : SideFault). IsSideRefused k painted e) (sym is) (limit_refused k painted hit (hits hit refl)))
plan_refused k painted plans.Memory fault is hits = inl is

module _ (job : Job) (side : Side) (painted : List Painted) (lines : List Line) (answers : List ℤ) where
  pub refused_side : (e : SideFault) → IsSideRefused (side_cutting job) painted e → AreFound job side painted lines answers (Err e)
  unfolding AreFound
  refused_side e (inl h) = inl h
  refused_side e (inr (f, framed, many)) = inr (f, framed, inl many)

  -- a side that has a frame and numbers for its islands
  module _ (f : Frame) (number : Cell → ℕ) (framed : IsFrameOf (side_cutting job) painted (Ok f)) (numbered : AreNumbered (kept_by (side_cutting job) painted) (Ok number)) where
    pub refused_grid : (e : SideFault) → grid_over_side side job f ≡ Err e → AreFound job side painted lines answers (Err e)
    unfolding AreFound
    refused_grid e h = inr (f, framed, inr (number, numbered, inl (sym h)))

    -- and a grid of probes, or none
    module _ (grid : Option ProbeGrid) (grid_is : grid_over_side side job f ≡ Ok grid) where
      pub refused_answers : (e : SideFault) → surface_or_missing grid answers ≡ Err e → AreFound job side painted lines answers (Err e)
      unfolding AreFound
      refused_answers e h = inr (f, framed, inr (number, numbered, inr (grid, sym grid_is, inl (sym h))))

      -- and a surface
      module _ (over : Surface) (over_is : surface_or_missing grid answers ≡ Ok over) where
        pub refused_run : (e : SideFault) → moves_or_fault (run_of answers lines) ≡ Err e → AreFound job side painted lines answers (Err e)
        unfolding AreFound
        refused_run e h = inr (f, framed, inr (number, numbered, inr (grid, sym grid_is, inr (over, sym over_is, inl (sym h)))))

        -- and moves
        module _ (moves : List Move) (run : run_of answers lines ≡ Ok moves) where
          moves_are : ◌≡◌ {A = Result (List Move) SideFault} (Ok moves) (moves_or_fault (run_of answers lines))
          moves_are = sym (ap moves_or_fault run)

          pub refused_hit : (c : Cell) (line : ℕ) → IsFirstHit (side_cutting job) painted job.zsafe moves line c → AreFound job side painted lines answers (Err (Hit c line))
          unfolding AreFound
          refused_hit c line h =
              inr (f, framed, inr (number, numbered, inr (grid, sym grid_is, inr (over, sym over_is, inr (moves, moves_are, inl (line, c, (refl, h)))))))

          pub found_all : (groups : List (List ℕ)) → IsClear (side_cutting job) painted job.zsafe moves → ArePrinted (side_cutting job) f (IsDeepOver over job.zwork) moves number groups
              → AreFound job side painted lines answers (Ok (record { frame = f; number = number; surface = over; moves = moves; groups = groups }))
          unfolding AreFound
          found_all groups clear printed = (f, framed, (number, numbered, (grid, sym grid_is, (over, sym over_is, (moves, moves_are, (moves, (refl, clear), (refl, printed)))))))
