-- The runs along the rows, one cell or one run after another.
use Rattle.std.proofs.Common.{◌≡◌, ℕ, ◌+◌, ◌<◌, ◌≤◌, ℤ, pos, ◌+ℤ◌, ◌-ℤ◌, ◌≤ℤ◌, ◌<ℤ◌, unsigned_abs, cond, Bool, true, false, List, [], ◌∷◌, ◌++◌, length, get_or, inl, inr, refl, sym, ap, subst, ◌∙◌, arith}
use Rattle.std.specs.List.{Contains}
use Rattle.std.proofs.lemmas.List.{length_push}
use Rattle.std.proofs.lemmas.Bool.{cases_eq, false≢true}
use Rattle.std.proofs.lemmas.Int.{by_lt_z}
use Rattle.std.proofs.Math.ListN.{get_or-append}
use Rattle.std.proofs.Math.Seq.{get_or-append_seam}
use borrow.Author.Differences.{ints}
use Rattle.number_laws.proofs.Tests.{by_bool}
use Rattle.board_base.specs.declared.places.Cell.{Cell}
use Rattle.cell_grid.specs.declared.frames.Frame.{Frame}
use Rattle.cell_grid.specs.Place.{InFrame}
use Rattle.cell_grid.specs.Cells.{in_frame, in_plane}
use Rattle.cell_grid.proofs.CellsLaws.{in_frame_is}
use Rattle.cell_sets.specs.Chains.{IsBefore}
use Rattle.cell_sets.proofs.CellLaws.{same_cell}
use Rattle.board_base.specs.Lattice.{east_by}
use Rattle.chain_walk.specs.Walk.{origin, entry}
use Rattle.chain_walk.specs.RowRuns.{west_of, run_of, IsRowRun, AreRowRuns}
use Rattle.chain_walk.specs.RowsDone.{cell_by, AreTakenFrom, IsRunFrom, AreRunsBefore}
use Rattle.chain_walk.proofs.Entries.{each_push, steps_push}
use Rattle.chain_walk.proofs.RowRunLaws.{run_at, run_more, run_one, no_column, by_column, in_run}

-- the cell in a column and a row, by its indices
pub by_indices : (f g : Frame) (c : Cell) (x y : ℕ) → f ≡ g → c.i ≡ f.i0 +ℤ pos x → c.j ≡ f.j0 +ℤ pos y → c ≡ cell_by g x y
by_indices f g c x y same i j = same_cell c.i c.j (f.i0 +ℤ pos x) (f.j0 +ℤ pos y) i j ∙ ap (λ (h : Frame). cell_by h x y) same

-- so many columns farther east
pub columns_on : (f : Frame) (x y k : ℕ) → east_by (cell_by f x y) k ≡ cell_by f (x + k) y
columns_on f x y k = same_cell (f.i0 +ℤ pos x +ℤ pos k) (f.j0 +ℤ pos y) (f.i0 +ℤ pos (x + k)) (f.j0 +ℤ pos y) (omega (arith, ints)) refl

-- no cell outside the frame is in a plane
pub plane_inside : (f : Frame) (plane : List Bool) (c : Cell) → in_plane f plane c ≡ true → InFrame f c
plane_inside f plane c on = by_bool (in_frame f c) (λ e. in_frame_is f c e) (λ e. absurd (none (in_frame f c) _ e on))
  where
    none : (t v : Bool) → t ≡ false → cond t v false ≡ true → ⊥
    none true v e h = absurd (cc)
    none false v e h = absurd (cc)

module _ (taken : Cell → Bool) where
  -- ---- a run

  pub one_taken : (west c : Cell) (cells : List Cell) → c ≡ west → taken west ≡ true → cells ≡ c ∷ [] → AreTakenFrom taken west cells
  one_taken west c cells e on is =
      let n : length cells ≡ 1 = ap (λ (x : List Cell). length x) is in
      record {
        some = omega (arith, n);
        are = is ∙ ap (λ (x : Cell). x ∷ []) e ∙ sym (run_one west) ∙ ap (run_of west) (sym n);
        inside = λ k l. (let z : k ≡ 0 = omega (arith, l, n) in ap (λ (m : ℕ). taken (east_by west m)) z ∙ ap taken (no_column west) ∙ on);
      }

  pub more_taken : (west c : Cell) (cells cells' : List Cell) → AreTakenFrom taken west cells → c ≡ east_by west (length cells) → taken c ≡ true → cells' ≡ cells ++ c ∷ [] → AreTakenFrom taken west cells'
  more_taken west c cells cells' p e on is =
      let n : length cells' ≡ length cells + 1 = ap (λ (x : List Cell). length x) is ∙ length_push cells c in
      record {
        some = omega (arith, n);
        are = is ∙ ap (λ (x : List Cell). x ++ c ∷ []) p.are ∙ ap (λ (x : Cell). run_of west (length cells) ++ x ∷ []) e ∙ sym (run_more west (length cells)) ∙ ap (run_of west) (sym n);
        inside = λ k l. elim (cases_eq k (length cells)) as (λ _. taken (east_by west k) ≡ true) [
          | inl z ↦ ap (λ (m : ℕ). taken (east_by west m)) z ∙ ap taken (sym e) ∙ on
          | inr ne ↦ p.inside k (omega (arith, ne, l, n))
        ];
      }

  -- ---- the runs

  module _ (next : Cell) (runs : List (List Cell)) (q : AreRunsBefore taken next runs) where
    -- a cell in the row of the next one and not before it
    later : {P : Type 0} (c : Cell) (n : ℕ) → IsBefore c (east_by next n) → (IsBefore c next → P) → ((k : ℕ) → k < n → c ≡ east_by next k → P) → P
    later c n (inl south) f g = f (inl south)
    later c n (inr (row, west)) f g =
        by_lt_z c.i next.i (λ l. f (inr (row, l)))
        (λ l. g (unsigned_abs (c.i -ℤ next.i)) (few c.i next.i n l west) (by_column next c row l))
      where
        few : (i i' : ℤ) (n : ℕ) → i' ≤ℤ i → i <ℤ (i' +ℤ pos n) → unsigned_abs (i -ℤ i') < n
        few i i' n h l = omega (arith, ints)

    farther : (c : Cell) (n : ℕ) → IsBefore c next → IsBefore c (east_by next n)
    farther c n (inl south) = inl south
    farther c n (inr (row, west)) = inr (row, on c.i next.i n west)
      where
        on : (i i' : ℤ) (n : ℕ) → i <ℤ i' → i <ℤ (i' +ℤ pos n)
        on i i' n h = omega (arith, ints)

    -- the cell west of the one behind
    back : (n : ℕ) → west_of (east_by next (n + 1)) ≡ east_by next n
    back n = same_cell (next.i +ℤ pos (n + 1) -ℤ pos 1) next.j (next.i +ℤ pos n) next.j (omega (arith, ints)) refl

    passed : taken next ≡ false → AreRunsBefore taken (east_by next 1) runs
    passed off = record {
      each = q.each;
      order = q.order;
      early = λ k l. farther (entry (get_or runs k []) 0) 1 (q.early k l);
      whole = λ c on before. later c 1 before (q.whole c on)
          (λ k l e. absurd (false≢true (sym off ∙ ap taken (sym (e ∙ ap (east_by next) (none k l) ∙ no_column next)) ∙ on)));
      apart = ap taken (back 0 ∙ no_column next) ∙ off;
    }
      where
        none : (k : ℕ) → k < 1 → k ≡ 0
        none k l = omega arith

    module _ (run : List Cell) (p : IsRunFrom taken next run) where
      abbrev all : List (List Cell)
      all = runs ++ run ∷ []

      more : length all ≡ length runs + 1
      more = length_push runs run

      was : (k : ℕ) → k < length runs → get_or all k [] ≡ get_or runs k []
      was k l = get_or-append runs (run ∷ []) [] k l

      seam : get_or all (length runs) [] ≡ run
      seam = get_or-append_seam runs run [] []

      starts : entry run 0 ≡ next
      starts = ap (λ (x : List Cell). get_or x 0 origin) p.from.are ∙ run_at next (length run) 0 origin p.from.some ∙ no_column next

      a_run : IsRowRun taken run
      a_run = record { west = next; size = length run; some = p.from.some; is = p.from.are; inside = p.from.inside; begins = q.apart; ends = p.ends }

      run_added : AreRunsBefore taken (east_by next (length run + 1)) (runs ++ run ∷ [])
      run_added = record {
        each = each_push (IsRowRun taken) [] runs run q.each a_run;
        order = steps_push (λ x y. IsBefore (entry x 0) (entry y 0)) [] runs run q.order
            (λ k z. (let k_in : k < length runs = omega (arith, z) in subst (IsBefore (entry (get_or runs k []) 0)) (sym starts) (q.early k k_in)));
        early = each_push (λ x. IsBefore (entry x 0) (east_by next (length run + 1))) [] runs run (λ k l. farther (entry (get_or runs k []) 0) (length run + 1) (q.early k l))
            (subst (λ (x : Cell). IsBefore x (east_by next (length run + 1))) (sym starts) (inr (refl, ahead next.i (length run))));
        whole = λ c on before. later c (length run + 1) before
            (λ b. (
            let found = q.whole c on b in
            (found.0, (omega (arith, found.1.0, more), subst (λ (x : List Cell). Contains x c) (sym (was found.0 found.1.0)) found.1.1))))
            (λ k l e. (length runs, (omega (arith, more), subst (λ (x : List Cell). Contains x c) (sym seam) (in_it c k on l e))));
        apart = ap taken (back (length run)) ∙ p.ends;
      }
        where
          ahead : (i : ℤ) (n : ℕ) → i <ℤ (i +ℤ pos (n + 1))
          ahead i n = omega (arith, ints)

          in_it : (c : Cell) (k : ℕ) → taken c ≡ true → k < length run + 1 → c ≡ east_by next k → Contains run c
          in_it c k on l e = elim (cases_eq k (length run)) as (λ _. Contains run c) [
            | inl z ↦ absurd (false≢true (sym p.ends ∙ ap (λ (m : ℕ). taken (east_by next m)) (sym z) ∙ ap taken (sym e) ∙ on))
            | inr ne ↦ subst (λ (x : List Cell). Contains x c) (sym p.from.are) (subst (Contains (run_of next (length run))) (sym e) (in_run next (length run) k (omega (arith, ne, l))))
          ]

-- ---- over the rows of a frame

module _ (f : Frame) (plane : List Bool) where
  abbrev taken : Cell → Bool
  taken = in_plane f plane

  -- no cell outside the frame is taken
  outside : (c : Cell) → (InFrame f c → ⊥) → taken c ≡ false
  outside c out = by_bool (taken c) (λ on. absurd (out (plane_inside f plane c on))) (λ off. off)

  pub east_end : (x y : ℕ) → f.width ≤ x → taken (cell_by f x y) ≡ false
  east_end x y past = outside (cell_by f x y) (λ h. over f.i0 x f.width past h.column.high)
    where
      over : (i : ℤ) (x w : ℕ) → w ≤ x → (i +ℤ pos x) <ℤ (i +ℤ pos w) → ⊥
      over i x w h l = omega (arith, ints)

  west_end : (y : ℕ) → taken (west_of (cell_by f 0 y)) ≡ false
  west_end y = outside (west_of (cell_by f 0 y)) (λ h. under f.i0 h.column.low)
    where
      under : (i : ℤ) → i ≤ℤ (i +ℤ pos 0 -ℤ pos 1) → ⊥
      under i h = omega (arith, ints)

  -- the next column of a run, and its end
  pub column_on : (x y n : ℕ) (c : Cell) (cells cells' : List Cell) → AreTakenFrom taken (cell_by f x y) cells → x + length cells ≡ n → c ≡ cell_by f n y → taken c ≡ true → cells' ≡ cells ++ c ∷ []
      → AreTakenFrom taken (cell_by f x y) cells'
  column_on x y n c cells cells' p there at on is = more_taken taken (cell_by f x y) c cells cells' p (at ∙ sym (columns_on f x y (length cells) ∙ ap (λ (m : ℕ). cell_by f m y) there)) on is

  pub run_ends : (x y n : ℕ) (cells run : List Cell) → AreTakenFrom taken (cell_by f x y) cells → x + length cells ≡ n → taken (cell_by f n y) ≡ false → run ≡ cells → IsRunFrom taken (cell_by f x y) run
  run_ends x y n cells run p there off is =
      subst (IsRunFrom taken (cell_by f x y)) (sym is) (record { from = p; ends = ap taken (columns_on f x y (length cells) ∙ ap (λ (m : ℕ). cell_by f m y) there) ∙ off })

  -- the next column where no run begins, and where one does
  pub column_off : (x x' y : ℕ) (runs runs' : List (List Cell)) → AreRunsBefore taken (cell_by f x y) runs → taken (cell_by f x y) ≡ false → x' ≡ x → runs' ≡ runs → AreRunsBefore taken (cell_by f (x' + 1) y) runs'
  column_off x x' y runs runs' q off at same =
      subst (AreRunsBefore taken (cell_by f (x' + 1) y)) (sym same)
      (subst (λ (c : Cell). AreRunsBefore taken c runs) (columns_on f x y 1 ∙ ap (λ (m : ℕ). cell_by f (m + 1) y) (sym at)) (passed taken (cell_by f x y) runs q off))

  pub run_on : (x x' y : ℕ) (runs runs' : List (List Cell)) (run : List Cell) → AreRunsBefore taken (cell_by f x y) runs → IsRunFrom taken (cell_by f x y) run → x' ≡ x + length run → runs' ≡ runs ++ run ∷ []
      → AreRunsBefore taken (cell_by f (x' + 1) y) runs'
  run_on x x' y runs runs' run q p at more =
      let n : x + (length run + 1) ≡ x' + 1 = omega (arith, at) in
      subst (AreRunsBefore taken (cell_by f (x' + 1) y)) (sym more)
      (subst (λ (c : Cell). AreRunsBefore taken c (runs ++ run ∷ [])) (columns_on f x y (length run + 1) ∙ ap (λ (m : ℕ). cell_by f m y) n) (run_added taken (cell_by f x y) runs q run p))

  pub none_done : AreRunsBefore taken (cell_by f 0 0) []
  none_done = record {
    each = λ k l. absurd (omega (arith, l));
    order = λ k l. absurd (omega (arith, l));
    early = λ k l. absurd (omega (arith, l));
    whole = λ c on before. absurd (first c (plane_inside f plane c on) before);
    apart = west_end 0;
  }
    where
      first : (c : Cell) → InFrame f c → IsBefore c (cell_by f 0 0) → ⊥
      first c h (inl south) = omega (arith, ints, h.row.low)
      first c h (inr (row, west)) = omega (arith, ints, h.column.low)

  pub row_done : (x y : ℕ) (runs : List (List Cell)) → f.width ≤ x → AreRunsBefore taken (cell_by f x y) runs → AreRunsBefore taken (cell_by f 0 (y + 1)) runs
  row_done x y runs past q = record {
    each = q.each;
    order = q.order;
    early = λ k l. below (entry (get_or runs k []) 0) (q.early k l);
    whole = λ c on before. q.whole c on (in_row c (plane_inside f plane c on) before);
    apart = west_end (y + 1);
  }
    where
      below : (c : Cell) → IsBefore c (cell_by f x y) → IsBefore c (cell_by f 0 (y + 1))
      below c (inl south) = inl (omega (arith, ints, south))
      below c (inr (row, west)) = inl (omega (arith, ints, row))

      in_row : (c : Cell) → InFrame f c → IsBefore c (cell_by f 0 (y + 1)) → IsBefore c (cell_by f x y)
      in_row c h (inl south) = by_lt_z c.j (f.j0 +ℤ pos y) (λ l. inl l) (λ l. inr (level c.j f.j0 y south l, far c.i f.i0 f.width x past h.column.high))
        where
          level : (j j0 : ℤ) (y : ℕ) → j <ℤ (j0 +ℤ pos (y + 1)) → (j0 +ℤ pos y) ≤ℤ j → j ≡ j0 +ℤ pos y
          level j j0 y h l = omega (arith, ints)

          far : (i i0 : ℤ) (w x : ℕ) → w ≤ x → i <ℤ (i0 +ℤ pos w) → i <ℤ (i0 +ℤ pos x)
          far i i0 w x h l = omega (arith, ints)
      in_row c h (inr (row, west)) = absurd (omega (arith, ints, h.column.low, west))

  pub all_done : (y : ℕ) (runs : List (List Cell)) → f.height ≤ y → AreRunsBefore taken (cell_by f 0 y) runs → AreRowRuns taken runs
  all_done y runs past q = record {
    each = q.each;
    order = q.order;
    whole = λ c on. q.whole c on (inl (under c.j f.j0 f.height y past (plane_inside f plane c on).row.high));
  }
    where
      under : (j j0 : ℤ) (h y : ℕ) → h ≤ y → j <ℤ (j0 +ℤ pos h) → j <ℤ (j0 +ℤ pos y)
      under j j0 h y p l = omega (arith, ints)
