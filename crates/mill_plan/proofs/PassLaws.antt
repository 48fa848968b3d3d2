-- What the passes before one leave, and what passes and clearing rows come to.
use Rattle.std.proofs.Common.{◌≡◌, ◌↔◌, inl, inr, ℕ, ◌+◌, ◌<◌, ◌≤◌, Bool, true, false, ◌||◌, List, [], ◌∷◌, ◌++◌, map, length, get_or, Option, Some, None, MatchOption, Ok, refl, sym, ap, subst, ◌∙◌, arith}
use Rattle.std.specs.Prelude.{pos, nat_lt, slice_index_or}
use Rattle.std.proofs.lemmas.Bool.{false≢true, cases_lt}
use Rattle.std.proofs.lemmas.List.{length-map, length-append, map-append, append-nil, get_or_append_left}
use Rattle.std.proofs.lemmas.Grind.{flat_map-append}
use Rattle.std.proofs.Math.Seq.{get_or-append_seam}
use Rattle.board_base.specs.declared.places.Bounds.{Bounds}
use Rattle.board_base.specs.declared.places.Cell.{Cell}
use Rattle.board_base.specs.declared.places.CellBox.{CellBox}
use Rattle.board_base.specs.Lattice.{centre_of, half_diagonal_of}
use Rattle.board_base.specs.Places.{IsPlace}
use Rattle.cell_sets.specs.Contour.{IsAllowed, IsContour}
use Rattle.cell_sets.specs.Cleared.{IsOnClearingRow}
use Rattle.cell_sets.specs.Passes.{ClearingRows, IsVisitedBy}
use Rattle.cell_sets.proofs.Counted.{IsOnPassBefore, pass_more, rows_more}
use Rattle.cell_grid.specs.declared.frames.Frame.{Frame}
use Rattle.cell_grid.specs.Grid.{Grid}
use Rattle.cell_grid.specs.Boxes.{HoldsCentres}
use Rattle.copper_cover.specs.Kept.{dark_rectangle}
use Rattle.cell_grid.specs.Cells.{in_frame, in_plane}
use Rattle.cell_grid.proofs.CellsLaws.{in_frame_true}
use Rattle.islands.specs.Floods.{ChangesNumbers}
use Rattle.chain_walk.specs.RowRuns.{AreRowRuns}
use Rattle.shape_parts.specs.declared.shape.Painted.{Painted}
use Rattle.mill_program.specs.declared.cuts.Corner.{Corner}
use Rattle.job_file.specs.declared.job.Job.{Job}
use Rattle.mill_plan.specs.declared.cutting.Cutting.{Cutting}
use Rattle.mill_plan.specs.Cutting.{IsCutting, guard, kept_by, side_cutting, AreClearingRows, IsClearedBy, IsVisited}
use Rattle.mill_plan.specs.Frame.{IsFrameOf}
use Rattle.mill_plan.specs.Cuts.{trace_of, all_of, AreOrdered, ArePassWalks, AreClearingRuns}
use Rattle.mill_plan.specs.Passes.{IsSpacious, IsMeasured, IsSideGrid, IsBegun, HasPlaces, AddsComponents, AddsRuns, AreSideCuts}
use Rattle.mill_plan.proofs.SideLaws.{same_test}
use Rattle.mill_plan.proofs.FrameLaws.{frame_places}
use Rattle.mill_plan.proofs.OneFrame.{one_rows, box_inside}
use Rattle.mill_plan.proofs.MeasureLaws.{side_same, plane_allowed}

-- The grid over this frame is that of the side, the cuts go along the walks of n passes, passes in their order, and the
-- visited cells are those on one of these.
pub record HasPasses (k : Cutting) (job : Job) (painted : List Painted) (f : Frame) (n : ℕ) (cuts : List (List Corner)) (g : Grid) : Type 0 where
  pub frame : g.frame ≡ f
  pub side : IsSideGrid k painted g
  pub passes : List (List (List Cell))
  pub size : length passes ≡ n
  pub walks : (pass : ℕ) → pass < n → ArePassWalks k painted pass (slice_index_or passes pass [])
  pub cuts_are : cuts ≡ map (trace_of job) (all_of passes)
  pub visited : (c : Cell) → in_plane g.frame g.visited c ≡ true ↔ IsOnPassBefore (guard k) n (kept_by k painted) c

-- the walks that come next are those of a pass
walks_of : (k : Cutting) (job : Job) (painted : List Painted) (pass : ℕ) (member : Cell → Bool) (old new : List (List Corner)) → job.pitch ≡ k.pitch → ((c : Cell) → member c ≡ true ↔ IsContour (kept_by k painted) (guard k pass) c)
    → (a : AddsComponents job member old new) → ArePassWalks k painted pass a.walks
walks_of k job painted pass member old new pitch contour a = record {
  rows = a.are.rows;
  contour = record { member = member; is_contour = contour; walks = a.are.are };
  ordered = subst (λ p. AreOrdered p a.are.rows a.walks) pitch a.are.ordered;
}

-- one list more
all_more : (passes : List (List (List Cell))) (walks : List (List Cell)) → all_of (passes ++ walks ∷ []) ≡ all_of passes ++ walks
all_more passes walks = flat_map-append (λ (w : List (List Cell)). w) passes (walks ∷ []) ∙ ap (λ xs. all_of passes ++ xs) (append-nil walks)

zeroth : (n : ℕ) → n < 1 → 0 ≡ n
zeroth n h = omega (arith, h)

-- the first pass
pub first_pass : (k : Cutting) (job : Job) (painted : List Painted) (g h : Grid) (cuts : List (List Corner)) → job.pitch ≡ k.pitch → IsBegun k painted g → ChangesNumbers g h → AddsComponents job (in_plane g.frame g.pass) [] cuts
    → HasPasses k job painted g.frame 1 cuts h
first_pass k job painted g h cuts pitch begun rest a = record {
  frame = frame;
  side = side_same k painted g h frame (ap (λ (b : Grid). b.kept) rest) (ap (λ (b : Grid). b.clearances) rest) begun.side;
  passes = a.walks ∷ [];
  size = refl;
  walks = λ pass l. subst (λ (n : ℕ). ArePassWalks k painted n (slice_index_or (a.walks ∷ []) n [])) (zeroth pass l) (walks_of k job painted 0 (in_plane g.frame g.pass) [] cuts pitch begun.contour a);
  cuts_are = a.is ∙ ap (map (trace_of job)) (sym (append-nil a.walks));
  visited = λ c. subst (λ (f : Frame). in_plane f h.visited c ≡ true ↔ IsOnPassBefore (guard k) 1 (kept_by k painted) c) (sym frame)
      (subst (λ xs. in_plane g.frame xs c ≡ true ↔ IsOnPassBefore (guard k) 1 (kept_by k painted) c) (sym (ap (λ (b : Grid). b.visited) rest))
      (pass_more (guard k) 0 (kept_by k painted) c false (in_plane g.frame g.pass c) (in_plane g.frame g.visited c) (begun.visited c) ((λ e. absurd (false≢true e)), (λ b. absurd (none b.0 b.1.0))) (begun.contour c)));
}
  where
    frame : h.frame ≡ g.frame
    frame = ap (λ (b : Grid). b.frame) rest

    none : (j : ℕ) → j < 0 → ⊥
    none j l = omega (arith, l)

-- a grid in which planes, working labels and the queue alone may have changed
abbrev pub ChangesPass : Grid → Grid → Type 0
ChangesPass g h = h ≡ record g { pass = h.pass; visited = h.visited; works = h.works; waiting = h.waiting; put = h.put }

-- one pass more
pub next_pass : (k : Cutting) (job : Job) (painted : List Painted) (f : Frame) (n : ℕ) (g h : Grid) (old new : List (List Corner)) → job.pitch ≡ k.pitch → HasPasses k job painted f n old g → ChangesPass g h
    → ((c : Cell) → in_plane g.frame h.pass c ≡ true ↔ IsContour (in_plane g.frame g.kept) (guard k n) c)
    → ((c : Cell) → in_plane g.frame h.visited c ≡ (in_plane g.frame g.visited c || in_plane g.frame h.pass c))
    → AddsComponents job (in_plane g.frame h.pass) old new → HasPasses k job painted f (n + 1) new h
next_pass k job painted f n g h old new pitch has rest contour visited a = record {
  frame = frame ∙ has.frame;
  side = side_same k painted g h frame (ap (λ (b : Grid). b.kept) rest) (ap (λ (b : Grid). b.clearances) rest) has.side;
  passes = has.passes ++ a.walks ∷ [];
  size = length-append has.passes (a.walks ∷ []) ∙ ap (λ m. m + 1) has.size;
  walks = λ pass l. elim (cases_lt pass n) as (λ _. ArePassWalks k painted pass (slice_index_or (has.passes ++ a.walks ∷ []) pass [])) [
    | inl less ↦ subst (ArePassWalks k painted pass) (sym (get_or_append_left has.passes (a.walks ∷ []) [] pass (subst (λ (m : ℕ). pass < m) (sym has.size) less))) (has.walks pass less)
    | inr more ↦ subst (λ (m : ℕ). ArePassWalks k painted m (slice_index_or (has.passes ++ a.walks ∷ []) m [])) (same pass l more)
        (subst (ArePassWalks k painted n) (sym (ap (λ (m : ℕ). get_or (has.passes ++ a.walks ∷ []) m []) (sym has.size) ∙ get_or-append_seam has.passes a.walks [] [])) (walks_of k job painted n (in_plane g.frame h.pass) old new pitch contour_is a))
  ];
  cuts_are = a.is ∙ ap (λ xs. xs ++ map (trace_of job) a.walks) has.cuts_are ∙ sym (map-append (trace_of job) (all_of has.passes) a.walks) ∙ ap (map (trace_of job)) (sym (all_more has.passes a.walks));
  visited = λ c. subst (λ (f : Frame). in_plane f h.visited c ≡ true ↔ IsOnPassBefore (guard k) (n + 1) (kept_by k painted) c) (sym frame)
      (pass_more (guard k) n (kept_by k painted) c (in_plane g.frame g.visited c) (in_plane g.frame h.pass c) (in_plane g.frame h.visited c) (visited c) (has.visited c) (contour_is c));
}
  where
    frame : h.frame ≡ g.frame
    frame = ap (λ (b : Grid). b.frame) rest

    contour_is : (c : Cell) → in_plane g.frame h.pass c ≡ true ↔ IsContour (kept_by k painted) (guard k n) c
    contour_is = subst (λ (t : Cell → Bool). (c : Cell) → in_plane g.frame h.pass c ≡ true ↔ IsContour t (guard k n) c) (same_test (in_plane g.frame g.kept) (kept_by k painted) has.side.kept) contour

    same : (pass : ℕ) → pass < n + 1 → n ≤ pass → n ≡ pass
    same pass l m = omega (arith, l, m)

-- ---- the end

counted : (job : Job) (walks : List (List Cell)) (cuts : List (List Corner)) (n : ℕ) → cuts ≡ map (trace_of job) walks → n ≡ length cuts → length walks ≡ n
counted job walks cuts n e len = sym (len ∙ ap length e ∙ length-map walks (trace_of job))

next_of : (j last : ℕ) → j ≤ last → j < last + 1
next_of j last h = omega (arith, h)

least_of : (j last : ℕ) → j < last + 1 → j ≤ last
least_of j last h = omega (arith, h)

no_runs : AreRowRuns (λ c. false) []
no_runs = record { each = λ k l. absurd (omega (arith, l)); order = λ k l. absurd (omega (arith, l)); whole = λ c e. absurd (false≢true e) }

apart : (r : ClearingRows) → ◌≡◌ {A = Option ClearingRows} None (Some r) → ⊥
apart r e = cc

given : (x y : ClearingRows) → ◌≡◌ {A = Option ClearingRows} (Some x) (Some y) → x ≡ y
given x y e = cc

module _ (k : Cutting) (job : Job) (painted : List Painted) (f : Frame) (cuts : List (List Corner)) (g : Grid) (count : ℕ) (has : HasPasses k job painted f (k.last + 1) cuts g) (len : count ≡ length cuts) where
  no_clearing : AreClearingRows k painted None → AreClearingRuns k painted []
  no_clearing none = record {
    member = λ c. false;
    is_cleared = λ c. ((λ e. absurd (false≢true e)), (λ v. absurd (apart v.2.cleared (sym (one_rows k painted v.0 None v.1 none) ∙ v.2.given))));
    are = no_runs;
  }

  -- where no row is cleared
  pub passes_alone : AreClearingRows k painted None → AreSideCuts k job painted cuts count
  passes_alone none = record {
    passes = has.passes;
    runs = [];
    along = record { count = has.size; walks = λ pass l. has.walks pass (next_of pass k.last l); cleared = no_clearing none };
    cuts_are = has.cuts_are ∙ ap (map (trace_of job)) (sym (append-nil (all_of has.passes)));
    size = counted job (all_of has.passes) cuts count has.cuts_are len;
  }

  pub alone_visited : AreClearingRows k painted None → (c : Cell) → in_plane g.frame g.visited c ≡ true ↔ IsVisited k painted c
  alone_visited none c = (
    λ t. (let b = (has.visited c).0 t in (None, none, inl (b.0, (least_of b.0 k.last b.1.0, b.1.1)))),
    λ v. (has.visited c).1 (by v.0 v.1 v.2),
  )
    where
      by : (rows : Option ClearingRows) → AreClearingRows k painted rows → IsVisitedBy (guard k) k.last rows (kept_by k painted) c → IsOnPassBefore (guard k) (k.last + 1) (kept_by k painted) c
      by rows are (inl b) = (b.0, (next_of b.0 k.last b.1.0, b.1.1))
      by rows are (inr r) = absurd (apart r.cleared (sym (one_rows k painted rows None are none) ∙ r.given))

  module _ (rows : ClearingRows) (are : AreClearingRows k painted (Some rows)) (h : Grid) (new : List (List Corner)) (rest : h ≡ record g { allowed = h.allowed; pass = h.pass; visited = h.visited })
      (on_rows : (c : Cell) → in_plane g.frame h.pass c ≡ true ↔ (IsOnClearingRow rows.stride rows.inner c × (in_frame g.frame c ≡ true) × IsAllowed (in_plane g.frame g.kept) (guard k 0) c))
      (visited : (c : Cell) → in_plane g.frame h.visited c ≡ (in_plane g.frame g.visited c || in_plane g.frame h.pass c)) where
    frame : h.frame ≡ g.frame
    frame = ap (λ (b : Grid). b.frame) rest

    kept_is : in_plane g.frame g.kept ≡ kept_by k painted
    kept_is = same_test (in_plane g.frame g.kept) (kept_by k painted) has.side.kept

    pass_is : (c : Cell) → in_plane g.frame h.pass c ≡ true ↔ (IsOnClearingRow rows.stride rows.inner c × IsAllowed (kept_by k painted) (guard k 0) c)
    pass_is c = (
      λ t. (let o = (on_rows c).0 t in (o.0, subst (λ (t : Cell → Bool). IsAllowed t (guard k 0) c) kept_is o.2)),
      λ o. (on_rows c).1 (o.0, in_frame_true g.frame c (box_inside k painted g.frame rows has.side.framed are c o.0.inside), subst (λ (t : Cell → Bool). IsAllowed t (guard k 0) c) (sym kept_is) o.1),
    )

    cleared_is : (c : Cell) → in_plane g.frame h.pass c ≡ true ↔ IsClearedBy k painted c
    cleared_is c = (
      λ t. (let o = (pass_is c).0 t in (Some rows, are, record { cleared = rows; given = refl; row = o.0; allowed = o.1 })),
      λ v. (let same = given rows v.2.cleared (one_rows k painted (Some rows) v.0 are v.1 ∙ v.2.given) in
          (pass_is c).1 (subst (λ (r : ClearingRows). IsOnClearingRow r.stride r.inner c) (sym same) v.2.row, v.2.allowed)),
    )

    pub rows_visited : (c : Cell) → in_plane h.frame h.visited c ≡ true ↔ IsVisited k painted c
    rows_visited c = subst (λ (f : Frame). in_plane f h.visited c ≡ true ↔ IsVisited k painted c) (sym frame) (
      λ t. (Some rows, are, found.0 t),
      λ v. found.1 (subst (λ (r : Option ClearingRows). IsVisitedBy (guard k) k.last r (kept_by k painted) c) (one_rows k painted v.0 (Some rows) v.1 are) v.2),
    )
      where
        found : in_plane g.frame h.visited c ≡ true ↔ IsVisitedBy (guard k) k.last (Some rows) (kept_by k painted) c
        found = rows_more (guard k) k.last rows (kept_by k painted) c (in_plane g.frame g.visited c) (in_plane g.frame h.pass c) (in_plane g.frame h.visited c) (visited c) (has.visited c) (pass_is c)

    -- where rows are cleared
    pub with_rows : AddsRuns job (in_plane h.frame h.pass) cuts new → AreSideCuts k job painted new count
    with_rows a = record {
      passes = has.passes;
      runs = a.runs;
      along = record {
        count = has.size;
        walks = λ pass l. has.walks pass (next_of pass k.last l);
        cleared = record { member = in_plane h.frame h.pass; is_cleared = λ c. subst (λ (f : Frame). in_plane f h.pass c ≡ true ↔ IsClearedBy k painted c) (sym frame) (cleared_is c); are = a.are };
      };
      cuts_are = a.is ∙ ap (λ xs. xs ++ map (trace_of job) a.runs) has.cuts_are ∙ sym (map-append (trace_of job) (all_of has.passes) a.runs);
      size = counted job (all_of has.passes) cuts count has.cuts_are len;
    }

-- what the planes of the clearing rows tell
pub cleared_rows : (k : Cutting) (a b : Grid) (n stride : ℕ) (inner : CellBox) (pass : List Bool) → IsCutting k → IsSpacious k a → IsMeasured a → pos n ≡ guard k 0 → b ≡ record a { allowed = map (λ m. nat_lt n m) a.clearances }
    → ((c : Cell) → in_plane b.frame pass c ≡ true ↔ (IsOnClearingRow stride inner c × (in_plane b.frame b.allowed c ≡ true)))
    → (c : Cell) → in_plane a.frame pass c ≡ true ↔ (IsOnClearingRow stride inner c × (in_frame a.frame c ≡ true) × IsAllowed (in_plane a.frame a.kept) (guard k 0) c)
cleared_rows k a b n stride inner pass ok space measured is made on c =
    let allowed : List Bool = map (λ m. nat_lt n m) a.clearances in
    let tells = plane_allowed k a n allowed ok space measured is refl c in
    let by = subst (λ (g : Grid). in_plane g.frame pass c ≡ true ↔ (IsOnClearingRow stride inner c × (in_plane g.frame g.allowed c ≡ true))) made (on c) in (
      λ t. (let o = by.0 t in let a = tells.0 o.1 in (o.0, a.0, a.1)),
      λ o. by.1 (o.0, tells.1 (o.1, o.2)),
    )

-- ---- a side's cutting

pub pitch_same : (k : Cutting) (job : Job) → k ≡ side_cutting job → job.pitch ≡ k.pitch
unfolding side_cutting
pitch_same k job e = sym (ap (λ (x : Cutting). x.pitch) e)

-- the centres of a side's frame are places
pub places_of : (k : Cutting) (job : Job) (painted : List Painted) (g : Grid) → k ≡ side_cutting job → IsCutting k → IsFrameOf k painted (Ok g.frame) → HasPlaces job.pitch g
places_of k job painted g e ok framed c inside = subst (λ p. IsPlace (centre_of p c)) (sym (pitch_same k job e)) (frame_places k painted g.frame ok framed c inside)

-- the clearing rows, by what they are made of
pub rows_made : (k : Cutting) (painted : List Painted) (n : ℕ) (b : Bounds) (inner : CellBox) → k.stride ≡ Some n → dark_rectangle painted ≡ Some b → HoldsCentres k.pitch (half_diagonal_of k.pitch) b inner
    → AreClearingRows k painted (Some (record { inner = inner; stride = n }))
rows_made k painted n b inner strided dark holds = by k.stride (dark_rectangle painted) strided dark
  where
    same_stride : (m : ℕ) → ◌≡◌ {A = Option ℕ} (Some m) (Some n) → n ≡ m
    same_stride m e = cc

    same_box : (r : Bounds) → ◌≡◌ {A = Option Bounds} (Some r) (Some b) → b ≡ r
    same_box r e = cc

    by : (stride : Option ℕ) (box : Option Bounds) → stride ≡ Some n → box ≡ Some b
        → MatchOption stride (◌≡◌ {A = Option ClearingRows} (Some (record { inner = inner; stride = n })) None) (λ m. MatchOption box (◌≡◌ {A = Option ClearingRows} (Some (record { inner = inner; stride = n })) None)
        (λ r. (cells : CellBox) × HoldsCentres k.pitch (half_diagonal_of k.pitch) r cells × ◌≡◌ {A = Option ClearingRows} (Some (record { inner = inner; stride = n })) (Some (record { inner = cells; stride = m }))))
    by None box e f = absurd (cc)
    by (Some m) None e f = absurd (cc)
    by (Some m) (Some r) e f =
        (inner, subst (λ (v : Bounds). HoldsCentres k.pitch (half_diagonal_of k.pitch) v inner) (same_box r f) holds, ap (λ (v : ℕ). Some (record { inner = inner; stride = v })) (same_stride m e))
