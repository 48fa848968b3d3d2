-- Distances along columns: one row further, upwards and downwards.
use Rattle.std.proofs.Common.{◌≡◌, ℕ, ◌<◌, ◌≤◌, ◌+◌, ◌-◌, ◌*◌, ◌/◌, ◌%◌, ◌⊎◌, inl, inr, Bool, true, false, min, get_or, refl, sym, ap, subst, ◌∙◌, arith}
use Rattle.std.proofs.lemmas.Bool.{cases_lt, cases_eq}
use Rattle.std.proofs.lemmas.Nat.{mod-mul-add, div-mul-add, mul-add-lt}
use Rattle.std.proofs.lemmas.Bool.Decides.{nat_tests}
use Rattle.std.proofs.Math.Nat.{mul-le-mul_right}
use Rattle.std.specs.Int.{abs_diff}
use Rattle.cell_grid.specs.declared.frames.Frame.{Frame}
use Rattle.cell_grid.specs.Grid.{Grid}
use Rattle.cell_grid.specs.Place.{IsFrame, cells_of}
use Rattle.centre_field.specs.Distances.{none, IsLeast}
use Rattle.centre_field.specs.Columns.{is_kept_in, IsNearest, number_at, further, ChangesRow, AreUpward, AreNearest}
use Rattle.centre_field.proofs.WrittenLaws.{IsWrittenBelow}

-- a number is the distance to the nearest kept cell of the column that is no farther north than the place
abbrev pub IsUpwardAt : Grid → Frame → ℕ → ℕ → Type 0
IsUpwardAt start frame k v = IsNearest start (k % frame.width) (k / frame.width) (k / frame.width + 1) v

-- the kept cells are those of the grid as it was
pub nearest_before : (start g : Grid) (x y n v : ℕ) → g ≡ record start { clearances = g.clearances } → IsNearest g x y n v → IsNearest start x y n v
nearest_before start g x y n v e p = subst (λ (h : Grid). IsNearest h x y n v) e p

pub nearest_now : (start g : Grid) (x y n v : ℕ) → g ≡ record start { clearances = g.clearances } → IsNearest start x y n v → IsNearest g x y n v
nearest_now start g x y n v e p = subst (λ (h : Grid). IsNearest h x y n v) (sym e) p

-- the same, by the place or by the column and the row
pub to_place : (start : Grid) (frame : Frame) (x y k v : ℕ) → x < frame.width → k ≡ y * frame.width + x → IsNearest start x y (y + 1) v → IsUpwardAt start frame k v
to_place start frame x y k v h e p =
    subst (λ (a : ℕ). IsNearest start a (k / frame.width) (k / frame.width + 1) v) (sym (ap (λ (i : ℕ). i % frame.width) e ∙ mod-mul-add y frame.width x h))
    (subst (λ (b : ℕ). IsNearest start x b (b + 1) v) (sym (ap (λ (i : ℕ). i / frame.width) e ∙ div-mul-add y frame.width x h)) p)

pub from_place : (start : Grid) (frame : Frame) (x y k v : ℕ) → x < frame.width → k ≡ y * frame.width + x → IsUpwardAt start frame k v → IsNearest start x y (y + 1) v
from_place start frame x y k v h e p =
    subst (λ (b : ℕ). IsNearest start x b (b + 1) v) (ap (λ (i : ℕ). i / frame.width) e ∙ div-mul-add y frame.width x h)
    (subst (λ (a : ℕ). IsNearest start a (k / frame.width) (k / frame.width + 1) v) (ap (λ (i : ℕ). i % frame.width) e ∙ mod-mul-add y frame.width x h) p)

-- the row before has its distances
pub south : (start g : Grid) (frame : Frame) (x y n : ℕ) → IsWrittenBelow (IsUpwardAt start frame) start frame g n → n ≡ y * frame.width + x → x < frame.width
    → (b : ℕ) → b + 1 ≡ y → IsNearest g x b y (number_at g x b)
south start g frame x y n p place x_in b e =
    let k = b * frame.width + x in
    let row : y * frame.width ≡ b * frame.width + frame.width = ap (λ (i : ℕ). i * frame.width) (sym e) ∙ one_row b frame.width in
    let q = from_place start frame x b k (get_or g.clearances k 0) x_in refl (p.done k (omega arith)) in
    nearest_now start g x b y (number_at g x b) p.rest
    (subst (λ (m : ℕ). IsNearest start x b m (number_at g x b)) e (subst (λ (w : ℕ). IsNearest start x b (b + 1) (get_or g.clearances (b * w + x) 0)) p.width q))
  where
    one_row : (b w : ℕ) → (b + 1) * w ≡ b * w + w
    one_row b w = omega arith

-- all rows have them
pub all_upward : (start g : Grid) (frame : Frame) (n : ℕ) → IsWrittenBelow (IsUpwardAt start frame) start frame g n → n ≡ cells_of frame → AreUpward start g
all_upward start g frame n p e x y x_in y_in =
    let v : frame.width ≡ start.frame.width = ap (λ (f : Frame). f.width) p.same_frame in
    let u : frame.height ≡ start.frame.height = ap (λ (f : Frame). f.height) p.same_frame in
    let k = y * frame.width + x in
    let below : k < frame.width * frame.height = mul-add-lt y frame.width x frame.height (omega arith) (omega arith) in
    subst (λ (w : ℕ). IsNearest start x y (y + 1) (get_or g.clearances (y * w + x) 0)) p.width
    (from_place start frame x y k (get_or g.clearances k 0) (omega arith) refl (p.done k (omega arith)))

further_none : (v : ℕ) → v ≡ none → further v ≡ none
further_none v e = ap further e

further_some : (v : ℕ) → v < none → further v ≡ v + 1
further_some v h = grind (arith, nat_tests)

-- the nearer of the way to the south and of one more than that from the north
pub down_step : (P : ℕ → Bool) (y h u d v : ℕ) → h ≤ 32768 → y + 1 < h → IsLeast P (abs_diff y) (y + 1) u → IsLeast P (abs_diff (y + 1)) h d → v ≡ min u (further d)
    → IsLeast P (abs_diff y) h v
down_step P y h u d v few y_in p q e = record {
  bound = λ a a_in on. elim (cases_lt a (y + 1)) as (λ _. v ≤ abs_diff y a) [
    | inl low ↦ let b = p.bound a low on in omega arith
    | inr high ↦
        let b : d ≤ abs_diff (y + 1) a = q.bound a a_in on in
        let f : further d ≡ d + 1 = further_some d (omega arith) in
        omega arith
  ];
  reached = elim q.reached as (λ _. Reached) [
    | inl w ↦
        let a = w.0 in
        let a_in : a < h = w.1.0 in
        let d_is : d ≡ abs_diff (y + 1) a = w.1.1.1 in
        let f : further d ≡ d + 1 = further_some d (omega arith) in
        elim p.reached as (λ _. Reached) [
          | inl z ↦ elim (cases_lt (d + 1) u) as (λ _. Reached) [
            | inl less ↦ from_north a a_in w.1.1.0 d_is f less
            | inr other ↦ inl (z.0, (let i = z.1.0 in omega arith, (z.1.1.0, let k = z.1.1.1 in omega arith)))
          ]
          | inr z ↦ from_north a a_in w.1.1.0 d_is f (let k = z.0 in omega arith)
        ]
    | inr w ↦
        let f : further d ≡ none = further_none d w.0 in
        elim p.reached as (λ _. Reached) [
          | inl z ↦ inl (z.0, (let i = z.1.0 in omega arith, (z.1.1.0, let k = z.1.1.1 in let i = z.1.0 in omega arith)))
          | inr z ↦ inr (let k = z.0 in omega arith, λ a a_in. w.1 a a_in)
        ]
  ];
}
  where
    Reached : Type 0
    Reached = ((a : ℕ) × ((a < h) × ((P a ≡ true) × (v ≡ abs_diff y a)))) ⊎ ((v ≡ none) × ((a : ℕ) → a < h → P a ≡ false))

    from_north : (a : ℕ) → a < h → P a ≡ true → d ≡ abs_diff (y + 1) a → further d ≡ d + 1 → d + 1 < u → Reached
    from_north a a_in on d_is f less = elim (cases_lt a (y + 1)) as (λ _. Reached) [
      | inl low ↦ absurd (let b = p.bound a low on in omega arith)
      | inr high ↦ inl (a, (a_in, (on, omega arith)))
    ]

-- the rows from one on are done, and those before it are as they were
pub record IsSweptFrom (start : Grid) (frame : Frame) (g : Grid) (from : ℕ) : Type 0 where
  pub rest : g ≡ record start { clearances = g.clearances }
  pub same_frame : frame ≡ start.frame
  pub valid : IsFrame frame
  pub width : frame.width ≡ g.frame.width
  pub height : frame.height ≡ g.frame.height
  pub later : (k : ℕ) → k < from * frame.width → get_or g.clearances k 0 ≡ get_or start.clearances k 0
  pub done : AreUpward start start → (x y : ℕ) → x < start.frame.width → y < start.frame.height → from ≤ y → IsNearest start x y start.frame.height (number_at g x y)

-- the last row is done before
pub last_swept : (start : Grid) (frame : Frame) (from : ℕ) → frame ≡ start.frame → IsFrame frame → from ≡ frame.height - 1 → IsSweptFrom start frame start from
last_swept start frame from e valid f = record {
  rest = refl;
  same_frame = e;
  valid = valid;
  width = ap (λ (f : Frame). f.width) e;
  height = ap (λ (f : Frame). f.height) e;
  later = λ k h. refl;
  done = λ up x y x_in y_in low.
      let v : frame.height ≡ start.frame.height = ap (λ (f : Frame). f.height) e in
      let top : y + 1 ≡ start.frame.height = omega arith in
      subst (λ (n : ℕ). IsNearest start x y n (number_at start x y)) top (up x y x_in y_in);
}

number_same : (g h : Grid) (x y w : ℕ) → w ≡ g.frame.width → w ≡ h.frame.width → get_or g.clearances (y * w + x) 0 ≡ get_or h.clearances (y * w + x) 0 → number_at g x y ≡ number_at h x y
number_same g h x y w e f k =
    ap (λ (i : ℕ). get_or g.clearances (y * i + x) 0) (sym e) ∙ k ∙ ap (λ (i : ℕ). get_or h.clearances (y * i + x) 0) f

-- one more row
pub row_swept : (start g g' : Grid) (frame : Frame) (y from : ℕ) → IsSweptFrom start frame g from → from ≡ y + 1 → y + 1 < frame.height → ChangesRow g g' y
    → ((x : ℕ) → x < g.frame.width → number_at g' x y ≡ min (number_at g x y) (further (number_at g x (y + 1)))) → IsSweptFrom start frame g' y
row_swept start g g' frame y from p is y_in row nearer = record {
  rest = row.rest ∙ ap (λ (h : Grid). record h { clearances = g'.clearances }) p.rest;
  same_frame = p.same_frame;
  valid = p.valid;
  width = width_now;
  height = p.height ∙ sym (ap (λ (h : Grid). h.frame.height) row.rest);
  later = λ k h. row.before k (omega (arith, ap (λ (w : ℕ). y * w) p.width)) ∙ p.later k (omega (arith, ap (λ (i : ℕ). i * frame.width) is, one_row y frame.width));
  done = λ up x b x_in b_in low. elim (cases_eq b y) as (λ _. IsNearest start x b start.frame.height (number_at g' x b)) [
    | inl same ↦ subst (λ (i : ℕ). IsNearest start x i start.frame.height (number_at g' x i)) (sym same) (here up x x_in)
    | inr other ↦ subst (IsNearest start x b start.frame.height) (sym (above x b x_in (omega arith))) (p.done up x b x_in b_in (omega arith))
  ];
}
  where
    one_row : (b w : ℕ) → (b + 1) * w ≡ b * w + w
    one_row b w = omega arith

    width_now : frame.width ≡ g'.frame.width
    width_now = p.width ∙ sym (ap (λ (h : Grid). h.frame.width) row.rest)

    start_width : frame.width ≡ start.frame.width
    start_width = ap (λ (f : Frame). f.width) p.same_frame

    start_height : frame.height ≡ start.frame.height
    start_height = ap (λ (f : Frame). f.height) p.same_frame

    rows_up : (b w : ℕ) → y + 1 ≤ b → y * w + w ≤ b * w
    rows_up b w h = let m : (y + 1) * w ≤ b * w = mul-le-mul_right w h in omega (arith, one_row y w)

    above : (x b : ℕ) → x < start.frame.width → y < b → number_at g' x b ≡ number_at g x b
    above x b x_in h = number_same g' g x b frame.width width_now p.width
        (row.after (b * frame.width + x) (omega (arith, p.width, rows_up b frame.width (omega arith), ap (λ (w : ℕ). y * w) p.width)))

    as_it_was : (x : ℕ) → x < start.frame.width → number_at g x y ≡ number_at start x y
    as_it_was x x_in = number_same g start x y frame.width p.width start_width
        (p.later (y * frame.width + x) (omega (arith, start_width, ap (λ (i : ℕ). i * frame.width) is, one_row y frame.width)))

    here : AreUpward start start → (x : ℕ) → x < start.frame.width → IsNearest start x y start.frame.height (number_at g' x y)
    here up x x_in =
        down_step (is_kept_in start x) y start.frame.height (number_at g x y) (number_at g x (y + 1)) (number_at g' x y) (let h = p.valid.high in omega (arith, start_height)) (omega (arith, start_height))
        (subst (IsNearest start x y (y + 1)) (sym (as_it_was x x_in)) (up x y x_in (omega (arith, start_height))))
        (p.done up x (y + 1) x_in (omega (arith, start_height)) (omega arith)) (nearer x (omega (arith, start_width, p.width)))

-- all rows
pub all_nearest : (start g : Grid) (frame : Frame) (from : ℕ) → IsSweptFrom start frame g from → from ≡ 0 → AreUpward start start → AreNearest start g
all_nearest start g frame from p e up x y x_in y_in = p.done up x y x_in y_in (omega arith)

-- after both sweeps
pub both_sweeps : (g0 g1 g2 : Grid) → g1 ≡ record g0 { clearances = g1.clearances } → AreUpward g0 g1 → (AreUpward g1 g1 → AreNearest g1 g2) → AreNearest g0 g2
both_sweeps g0 g1 g2 e up down = subst (λ (h : Grid). AreNearest h g2) e (down (subst (λ (h : Grid). AreUpward h g1) (sym e) up))
