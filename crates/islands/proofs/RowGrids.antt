-- The runs of a row are joined over the grid.
use Rattle.std.proofs.Common.{◌≡◌, ℕ, zero, suc, ◌+◌, ◌-◌, ◌*◌, ◌<◌, ◌≤◌, not, Bool, false, List, get_or, inl, inr, sym, ap, subst, ◌∙◌, arith}
use Rattle.std.proofs.lemmas.Bool.{cases_lt}
use mathlib.Core.Bool.{beq}
use Rattle.cell_grid.specs.declared.frames.Frame.{Frame}
use Rattle.cell_grid.specs.declared.bits.Plane.{Plane}
use Rattle.cell_grid.specs.Grid.{Grid, plane_of}
use Rattle.cell_grid.specs.Place.{place_of, cells_of, cell_of_place}
use Rattle.cell_grid.proofs.CellsLaws.{in_frame_true, cell_in, place_cell}
use Rattle.islands.specs.Taken.{is_taken}
use Rattle.islands.specs.Floods.{ChangesNumbers}
use Rattle.islands.specs.Forests.{IsJoined}
use Rattle.islands.proofs.Numbers.{taken_inside, plane_same}
use Rattle.islands.proofs.Joined.{passed_by}
use Rattle.islands.proofs.JoinGrids.{IsJoinedAt}
use Rattle.islands.proofs.Runs.{beq_other}

-- cells that aren't taken are passed
pub passed_span : (f : Frame) (plane : List Bool) (on : Bool) (outer : ℕ) (works : List ℕ) (m n : ℕ) → m + n ≤ cells_of f → ((k : ℕ) → m ≤ k → k < m + n → get_or plane k false ≡ not on)
    → IsJoined f (is_taken on f plane) outer works m → IsJoined f (is_taken on f plane) outer works (m + n)
passed_span f plane on outer works m zero fits off j = subst (λ (k : ℕ). IsJoined f (is_taken on f plane) outer works k) (plain m) j
  where
    plain : (k : ℕ) → k ≡ k + 0
    plain k = omega arith
passed_span f plane on outer works m (suc n) fits off j =
    let q = passed_span f plane on outer works m n (omega (arith, fits)) (λ k l h. off k l (omega (arith, h))) j in
    let p = m + n in
    let p_in : p < cells_of f = omega (arith, fits) in
    let c = cell_of_place f p in
    let at : place_of f c ≡ p = place_cell f p p_in in
    let i = in_frame_true f c (cell_in f p p_in) in
    let free : is_taken on f plane c ≡ false =
    taken_inside on f plane c i ∙ ap (λ (k : ℕ). beq (get_or plane k false) on) at ∙ beq_other (get_or plane p false) on (off p (omega arith) (omega arith)) in
    let r = passed_by f (is_taken on f plane) c i outer works free (subst (λ (k : ℕ). IsJoined f (is_taken on f plane) outer works k) (sym at) q) in
    subst (λ (k : ℕ). IsJoined f (is_taken on f plane) outer works k) (ap (λ (k : ℕ). k + 1) at ∙ next m n) r
  where
    next : (a b : ℕ) → a + b + 1 ≡ a + suc b
    next a b = omega arith

module _ (start : Grid) (p : Plane) (on : Bool) (outer : ℕ) (f : Frame) (y end : ℕ) where
  -- the cells of the row before a place are joined
  pub record IsRowAt (g : Grid) (at : ℕ) : Type 0 where
    pub here : IsJoinedAt start p on outer f g at
    pub low : y * f.width ≤ at
    pub high : at ≤ end
    pub last : end ≡ y * f.width + f.width

  pub row_begins : (g : Grid) (at : ℕ) → end ≡ y * f.width + f.width → at ≡ y * f.width → IsJoinedAt start p on outer f g (y * f.width) → IsRowAt g at
  row_begins g at e z q = record {
    here = subst (λ (k : ℕ). IsJoinedAt start p on outer f g k) (sym z) q;
    low = omega (arith, z);
    high = omega (arith, e, z);
    last = e;
  }

  pub row_fits : (y_in : y < f.height) → end ≡ y * f.width + f.width → end ≤ cells_of f
  row_fits y_in e = omega (arith, e, room y f.height f.width y_in)
    where
      room : (a b w : ℕ) → a < b → a * w + w ≤ w * b
      room a zero w l = absurd (omega (arith, l))
      room a (suc b) w l = elim (cases_lt a b) as (λ _. a * w + w ≤ w * suc b) [
        | inl k ↦ let r = room a b w k in omega (arith, r)
        | inr k ↦ let e : a ≡ b = omega (arith, l, k) in subst (λ (n : ℕ). n * w + w ≤ w * suc b) (sym e) (omega arith)
      ]

  module _ (g : Grid) (at : ℕ) (q : IsRowAt g at) (y_in : y < f.height) where
    pub row_frame : f ≡ g.frame
    row_frame = q.here.same_frame ∙ sym (ap (λ (h : Grid). h.frame) q.here.rest)

    pub row_in : end ≤ cells_of g.frame
    row_in = let l = row_fits y_in q.last in omega (arith, l, ap cells_of row_frame)

    planes : plane_of g p ≡ plane_of start p
    planes = ap (λ (h : Grid). plane_of h p) q.here.rest ∙ plane_same start g p

    module _ (first : ℕ) (low : at ≤ first) (high : first ≤ end) (off : (k : ℕ) → at ≤ k → k < first → get_or (plane_of g p) k false ≡ not on) where
      -- up to the next run
      pub to_run : IsJoined f (is_taken on f (plane_of g p)) outer g.works first
      to_run =
          let n = first - at in
          let e : at + n ≡ first = omega (arith, low) in
          let fits = row_fits y_in q.last in
          let j = subst (λ (xs : List Bool). IsJoined f (is_taken on start.frame xs) outer g.works at) (sym planes) q.here.joined in
          let j2 = subst (λ (h : Frame). IsJoined f (is_taken on h (plane_of g p)) outer g.works at) (sym q.here.same_frame) j in
          subst (λ (k : ℕ). IsJoined f (is_taken on f (plane_of g p)) outer g.works k) e
          (passed_span f (plane_of g p) on outer g.works at n (omega (arith, e, high, fits)) (λ k l h. off k l (omega (arith, h, e))) j2)

      pub row_on : (g' : Grid) (past : ℕ) → first ≤ past → past ≤ end → ChangesNumbers g g' → IsJoined f (is_taken on f (plane_of g p)) outer g'.works past → IsRowAt g' past
      row_on g' past l h rest j = record {
        here = record {
          joined = subst (λ (x : Frame). IsJoined f (is_taken on x (plane_of start p)) outer g'.works past) q.here.same_frame
              (subst (λ (xs : List Bool). IsJoined f (is_taken on f xs) outer g'.works past) planes j);
          rest = rest ∙ ap (λ (x : Grid). record x { works = g'.works; waiting = g'.waiting; put = g'.put }) q.here.rest;
          same_frame = q.here.same_frame;
          valid = q.here.valid;
        };
        low = let k = q.low in omega (arith, k, low, l);
        high = h;
        last = q.last;
      }
      -- a run ends after it began, where one is left
