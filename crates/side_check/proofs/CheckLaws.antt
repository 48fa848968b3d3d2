-- From what the grid tells to what the check finds.
use Rattle.std.proofs.Common.{◌≡◌, ◌⊎◌, inl, inr, ℕ, ℤ, pos, ◌+ℤ◌, ◌-ℤ◌, ◌*ℤ◌, true, false, not, List, ◌∷◌, ◌++◌, Option, Result, Ok, Err, slice_index_or, refl, sym, ap, subst, ◌∙◌, arith}
use Rattle.std.specs.List.{Contains}
use Rattle.std.proofs.lemmas.Bool.{false≢true}
use Rattle.std.proofs.lemmas.List.Elements.{Contains-append_left, Contains-append_right}
use Rattle.number_laws.proofs.Tests.{both, first_of, second_of, not_false, cond_false}
use Rattle.board_base.specs.declared.places.Cell.{Cell}
use Rattle.board_base.specs.declared.places.Move.{Move}
use Rattle.board_base.specs.declared.places.Side.{Side}
use Rattle.board_base.specs.Lattice.{IsPitch, centre_of, half_diagonal_of}
use Rattle.board_base.specs.Near.{near_of}
use Rattle.board_base.specs.Places.{IsPlace, IsNearPlace}
use Rattle.board_base.proofs.LatticeLaws.{near_place}
use Rattle.cell_sets.specs.Groups.{AreGroups}
use Rattle.cell_grid.specs.declared.frames.Frame.{Frame}
use Rattle.cell_grid.specs.Grid.{Grid}
use Rattle.cell_grid.specs.Place.{InFrame, place_of}
use Rattle.cell_grid.specs.Cells.{in_frame, in_plane, number_in}
use Rattle.cell_grid.proofs.CellsLaws.{in_frame_is}
use Rattle.shape_parts.specs.declared.shape.Painted.{Painted}
use Rattle.rs274_sim.specs.Cutter.{nanometre, scaled, under, width_of, IsLow}
use Rattle.rs274_sim.specs.declared.line.Line.{Line}
use Rattle.rs274_sim.specs.Machine.{run_of}
use Rattle.mill_program.specs.declared.probes.ProbeGrid.{ProbeGrid}
use Rattle.mill_program.specs.Probes.{surface}
use Rattle.levelling.specs.Grids.{IsInReach}
use Rattle.mill_plan.specs.declared.cutting.Cutting.{Cutting}
use Rattle.job_file.specs.declared.job.Job.{Job}
use Rattle.mill_plan.specs.Cutting.{IsCutting, bite_of, kept_by, side_cutting}
use Rattle.mill_plan.specs.Frame.{IsFrameOf}
use Rattle.mill_plan.specs.Side.{IsNumberedSide}
use Rattle.mill_plan.proofs.FrameLaws.{frame_pitch, frame_places}
use Rattle.program_check.specs.Deep.{Surface, IsDeepOver, point_under}
use Rattle.program_check.specs.Hits.{IsHit, IsClear, IsFirstHit}
use Rattle.program_check.specs.Marks.{IsReached, ArePrinted}
use Rattle.program_check.specs.Planes.{AreFreeCells, PlaneLaw}
use Rattle.program_check.specs.Scan.{IsRising, RisingLaw, ScanLaw}
use Rattle.program_check.specs.Sound.{UnitLaw}
use Rattle.program_check.specs.Whole.{HaveWholeEnds, WholeLaw}
use Rattle.side_check.specs.declared.fault.SideFault.{SideFault}
use Rattle.side_check.specs.declared.fault.SideFault.TheVariants.{Hit, Memory}
use Rattle.side_check.specs.Found.{AreNumbered, grid_over_side, surface_or_missing, moves_or_fault, Findings, AreFound}
use Rattle.side_check.specs.Struck.{is_struck_by, AreHarmless, IsFirstStrike, MarksDeep}
use Rattle.side_check.proofs.FoundLaws.{refused_grid, refused_answers, refused_run, refused_hit, found_all}
use Rattle.side_check.proofs.WholeLaws.{HasWholeEnds, whole_ends, near_same}

-- the centres of a frame in reach are near the board
pub near_centres : (f : Frame) → IsInReach f → (c : Cell) → InFrame f c → IsNearPlace (centre_of f.pitch c)
near_centres f reach c inside = near_place (centre_of f.pitch c) (reach.centres c inside)

-- the frame of a side is in reach
pub reach_is : (k : Cutting) (painted : List Painted) (f : Frame) → IsCutting k → IsFrameOf k painted (Ok f) → IsInReach f
reach_is k painted f ok framed =
    let pitch = frame_pitch k painted f framed in
    record { pitch = subst IsPitch (sym pitch) ok.pitch; centres = λ c inside. subst (λ (p : ℤ). IsPlace (centre_of p c)) (sym pitch) (frame_places k painted f ok framed c inside) }

module _ (k : Cutting) (painted : List Painted) (count : ℕ) (g : Grid) (side : IsNumberedSide k painted count g) (unit : UnitLaw) where
  pitch : g.frame.pitch ≡ k.pitch
  pitch = frame_pitch k painted g.frame side.framed

  -- near in the grid is near by the machine's units
  near_is : (m : Move) (c : Cell) (r d : ℤ) → d ≡ pos 2 *ℤ r → HasWholeEnds m
      → near_of (scaled (centre_of k.pitch c)) (under m.from) (under m.to) (width_of r) ≡ near_of (centre_of g.frame.pitch c) (point_under m.from) (point_under m.to) d
  near_is m c r d e w =
      near_same m (centre_of k.pitch c) r unit w
      ∙ ap (λ (v : ℤ). near_of (centre_of k.pitch c) (point_under m.from) (point_under m.to) v) (sym e)
      ∙ ap (λ (p : ℤ). near_of (centre_of p c) (point_under m.from) (point_under m.to) d) (sym pitch)

  module _ (safe d : ℤ) (d_is : d ≡ pos 2 *ℤ (bite_of k +ℤ half_diagonal_of k.pitch)) where
    hit_struck : (moves : List Move) (m : Move) (c : Cell) → HasWholeEnds m → IsHit k painted safe moves m c → is_struck_by g d m c ≡ true
    hit_struck moves m c w h =
        both (in_plane g.frame g.kept c) (near_of (centre_of g.frame.pitch c) (point_under m.from) (point_under m.to) d) (side.kept c ∙ h.2)
        (sym (near_is m c (bite_of k +ℤ half_diagonal_of k.pitch) d d_is w) ∙ h.3)

    struck_hit : (moves : List Move) (m : Move) (c : Cell) → HasWholeEnds m → Contains moves m → IsLow (safe *ℤ nanometre) m → is_struck_by g d m c ≡ true → IsHit k painted safe moves m c
    struck_hit moves m c w there low e = (
      there,
      low,
      sym (side.kept c) ∙ first_of (in_plane g.frame g.kept c) (near_of (centre_of g.frame.pitch c) (point_under m.from) (point_under m.to) d) e,
      near_is m c (bite_of k +ℤ half_diagonal_of k.pitch) d d_is w ∙ second_of (in_plane g.frame g.kept c) (near_of (centre_of g.frame.pitch c) (point_under m.from) (point_under m.to) d) e,
    )

    -- moves that strike no cell hit none
    pub harmless_clear : (moves : List Move) → ((m : Move) → Contains moves m → HasWholeEnds m) → AreHarmless g d safe moves → IsClear k painted safe moves
    harmless_clear moves whole none m c h = none m c h.0 h.1 (hit_struck moves m c (whole m h.0) h)

    -- the first strike is the hit that is named
    pub strike_hit : (moves : List Move) (c : Cell) (line : ℕ) → HaveWholeEnds moves → IsRising 0 moves → ScanLaw → IsFirstStrike g d safe moves c line → IsFirstHit k painted safe moves line c
    strike_hit moves c line whole rising law s =
        subst (λ (xs : List Move). IsFirstHit k painted safe xs line c) (sym s.moves_are)
        (subst (λ (n : ℕ). IsFirstHit k painted safe all n c) (sym s.of_line)
        (law k painted safe s.before s.move s.rest c (subst (λ (xs : List Move). IsRising 0 xs) s.moves_are rising)
        (harmless_clear s.before (λ m there. ends m (Contains-append_left s.before (s.move ∷ s.rest) m there)) s.harmless)
        (struck_hit all s.move c (ends s.move here) here s.low s.first.passes)
        (λ e h earlier. s.first.first e (hit_struck all s.move e (ends s.move here) h) earlier)))
      where
        all : List Move
        all = s.before ++ s.move ∷ s.rest

        ends : (m : Move) → Contains (s.before ++ s.move ∷ s.rest) m → HasWholeEnds m
        ends m there = whole_ends (s.before ++ s.move ∷ s.rest) m (subst (λ (xs : List Move). HaveWholeEnds xs) s.moves_are whole) there

        here : Contains (s.before ++ s.move ∷ s.rest) s.move
        here = Contains-append_right s.before (s.move ∷ s.rest) s.move (0, omega arith, refl)

  module _ (over : Surface) (work d : ℤ) (d_is : d ≡ pos 2 *ℤ (k.radius -ℤ half_diagonal_of k.pitch)) (moves : List Move) (whole : (m : Move) → Contains moves m → HasWholeEnds m) (h : Grid) (marked : MarksDeep over work d moves g h) where
    free_cells : AreFreeCells k g.frame (IsDeepOver over work) moves (λ c. not (in_plane g.frame h.swept c))
    free_cells = record {
      inside = λ c t. (
        (λ e. elim (marked.sound c (in_frame_is g.frame c t) (not_false (in_plane g.frame h.swept c) e)) as (λ _. IsReached k (IsDeepOver over work) moves c) [
          | inl was ↦ absurd (false≢true (sym (side.unswept c) ∙ was))
          | inr p ↦ (p.0, p.1, p.2, near_is p.0 c (k.radius -ℤ half_diagonal_of k.pitch) d d_is (whole p.0 p.1) ∙ p.3)
        ]),
        (λ r. ap not (marked.done c (in_frame_is g.frame c t) (r.0, r.1, r.2, sym (near_is r.0 c (k.radius -ℤ half_diagonal_of k.pitch) d d_is (whole r.0 r.1)) ∙ r.3))),
      );
      outside = λ c out. ap not (cond_false (in_frame g.frame c) (slice_index_or h.swept (place_of g.frame c) false) false out);
    }

    -- the groups that the grid leaves are those that are printed
    pub groups_printed : (groups : List (List ℕ)) → PlaneLaw → AreGroups (λ c. not (in_plane h.frame h.swept c) ≡ true) (number_in h.frame 0 h.labels) groups
        → ArePrinted k g.frame (IsDeepOver over work) moves (number_in g.frame 0 g.labels) groups
    groups_printed groups law are =
        law k g.frame over work moves (λ c. not (in_plane g.frame h.swept c)) (number_in g.frame 0 g.labels) groups free_cells
        (subst (λ (xs : List ℕ). AreGroups (λ c. not (in_plane g.frame h.swept c) ≡ true) (number_in g.frame 0 xs) groups) (ap (λ (x : Grid). x.labels) marked.rest)
        (subst (λ (f : Frame). AreGroups (λ c. not (in_plane f h.swept c) ≡ true) (number_in f 0 h.labels) groups) (ap (λ (x : Grid). x.frame) marked.rest) are))

-- ---- the ways in which a check ends, from its grid on

module _ (job : Job) (side : Side) (painted : List Painted) (lines : List Line) (answers : List ℤ) (count : ℕ) (g : Grid) (s : IsNumberedSide (side_cutting job) painted count g) where
  numbered : AreNumbered (kept_by (side_cutting job) painted) (Ok (number_in g.frame 0 g.labels))
  numbered = (count, (s.islands, s.few))

  grid_there : (f : Frame) (r : Result (Option ProbeGrid) SideFault) → f ≡ g.frame → r ≡ grid_over_side side job f → grid_over_side side job g.frame ≡ r
  grid_there f r same is = sym (is ∙ ap (λ (x : Frame). grid_over_side side job x) same)

  pub at_grid : (f : Frame) (e : SideFault) → f ≡ g.frame → Err e ≡ grid_over_side side job f → AreFound job side painted lines answers (Err e)
  at_grid f e same is = refused_grid job side painted lines answers g.frame (number_in g.frame 0 g.labels) s.framed numbered e (grid_there f (Err e) same is)

  module _ (f : Frame) (grid : Option ProbeGrid) (same : f ≡ g.frame) (is : Ok grid ≡ grid_over_side side job f) where
    pub at_answers : (e : SideFault) → surface_or_missing grid answers ≡ Err e → AreFound job side painted lines answers (Err e)
    at_answers e h = refused_answers job side painted lines answers g.frame (number_in g.frame 0 g.labels) s.framed numbered grid (grid_there f (Ok grid) same is) e h

    module _ (enough : surface_or_missing grid answers ≡ Ok (surface grid answers)) where
      pub at_run : (e : SideFault) → (e ≡ Memory) ⊎ (moves_or_fault (run_of answers lines) ≡ Err e) → (e ≡ Memory) ⊎ AreFound job side painted lines answers (Err e)
      at_run e (inl h) = inl h
      at_run e (inr h) = inr (refused_run job side painted lines answers g.frame (number_in g.frame 0 g.labels) s.framed numbered grid (grid_there f (Ok grid) same is) (surface grid answers) enough e h)

      module _ (moves : List Move) (run : run_of answers lines ≡ Ok moves) (unit : UnitLaw) (whole : WholeLaw) (k : Cutting) (k_is : k ≡ side_cutting job) (width : ℤ) (width_is : width ≡ pos 2 *ℤ (bite_of k +ℤ half_diagonal_of k.pitch)) where
        ends : (m : Move) → Contains moves m → HasWholeEnds m
        ends m there = whole_ends moves m (whole answers lines moves run) there

        hit_width : width ≡ pos 2 *ℤ (bite_of (side_cutting job) +ℤ half_diagonal_of (side_cutting job).pitch)
        hit_width = width_is ∙ ap (λ (x : Cutting). pos 2 *ℤ (bite_of x +ℤ half_diagonal_of x.pitch)) k_is

        pub at_hit : (c : Cell) (line : ℕ) → RisingLaw → ScanLaw → IsFirstStrike g width job.zsafe moves c line → AreFound job side painted lines answers (Err (Hit c line))
        at_hit c line rising scan strike =
            refused_hit job side painted lines answers g.frame (number_in g.frame 0 g.labels) s.framed numbered grid (grid_there f (Ok grid) same is) (surface grid answers) enough moves run c line
            (strike_hit (side_cutting job) painted count g s unit job.zsafe width hit_width moves c line (whole answers lines moves run) (rising answers lines moves run) scan strike)

        pub at_end : (h : Grid) (d : ℤ) (groups : List (List ℕ)) → PlaneLaw → AreHarmless g width job.zsafe moves → d ≡ pos 2 *ℤ (k.radius -ℤ half_diagonal_of k.pitch)
            → MarksDeep (surface grid answers) job.zwork d moves g h → AreGroups (λ c. not (in_plane h.frame h.swept c) ≡ true) (number_in h.frame 0 h.labels) groups
            → (found : Findings) × AreFound job side painted lines answers (Ok found) × (found.groups ≡ groups)
        at_end h d groups plane harmless d_is marked are = (
          record { frame = g.frame; number = number_in g.frame 0 g.labels; surface = surface grid answers; moves = moves; groups = groups },
          found_all job side painted lines answers g.frame (number_in g.frame 0 g.labels) s.framed numbered grid (grid_there f (Ok grid) same is) (surface grid answers) enough moves run groups
              (harmless_clear (side_cutting job) painted count g s unit job.zsafe width hit_width moves ends harmless)
              (groups_printed (side_cutting job) painted count g s unit (surface grid answers) job.zwork d (d_is ∙ ap (λ (x : Cutting). pos 2 *ℤ (x.radius -ℤ half_diagonal_of x.pitch)) k_is) moves ends h marked groups plane are),
          refl,
        )
