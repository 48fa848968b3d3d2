-- Rows of least values: listed, written, and one after the other.
use Rattle.std.proofs.Common.{◌≡◌, ◌≢◌, ℕ, ◌<◌, ◌≤◌, ◌+◌, ◌*◌, ◌==◌, ◌⊎◌, inl, inr, Bool, true, false, not, get_or, refl, sym, ap, subst, ◌∙◌, arith}
use Rattle.std.proofs.lemmas.Bool.{cases_eq}
use Rattle.std.proofs.lemmas.Bool.Decides.{nat_tests}
use Rattle.std.proofs.Math.Nat.{mul-le-mul_right}
use Rattle.cell_grid.specs.declared.frames.Frame.{Frame}
use Rattle.cell_grid.specs.Grid.{Grid}
use Rattle.cell_grid.specs.Place.{IsFrame}
use Rattle.centre_field.specs.Distances.{none, square_gap, IsLeast}
use Rattle.centre_field.specs.Columns.{number_at}
use Rattle.centre_field.specs.Rows.{value_at, has_distance, square_in, AreDistances, AreDistancesFrom, IsListing, IsLeastInRow, FinishesRow, AreLeastInRows}
use Rattle.centre_field.proofs.ListingLaws.{leaving_out, nothing_listed}

-- only scratch numbers changed, and they list the columns before b
pub record IsListedTo (start : Grid) (frame : Frame) (y from : ℕ) (g : Grid) (n b : ℕ) : Type 0 where
  pub rest : g ≡ record start { scratch = g.scratch }
  pub same_frame : frame ≡ start.frame
  pub valid : IsFrame frame
  pub width : frame.width ≡ g.frame.width
  pub height : frame.height ≡ g.frame.height
  pub listing : IsListing start y from g.scratch n b

pub none_listed : (start : Grid) (frame : Frame) (y from : ℕ) → frame ≡ start.frame → IsFrame frame → IsListedTo start frame y from start 0 from
none_listed start frame y from e v = record {
  rest = refl;
  same_frame = e;
  valid = v;
  width = ap (λ (f : Frame). f.width) e;
  height = ap (λ (f : Frame). f.height) e;
  listing = nothing_listed start y from start.scratch;
}

-- what was read at a place is the number in its column and row
pub read_place : (f : Frame) (g : Grid) (k x y v : ℕ) → f ≡ g.frame → k ≡ y * f.width + x → v ≡ get_or g.clearances k 0 → v ≡ number_at g x y
read_place f g k x y v e place read = read ∙ ap (λ (j : ℕ). get_or g.clearances j 0) place ∙ ap (λ (h : Frame). get_or g.clearances (y * h.width + x) 0) e

pub frame_listed : (start g : Grid) (frame : Frame) (y from n b : ℕ) → IsListedTo start frame y from g n b → frame ≡ g.frame
frame_listed start g frame y from n b p = p.same_frame ∙ sym (ap (λ (h : Grid). h.frame) p.rest)

pub listing_now : (start g : Grid) (frame : Frame) (y from n b : ℕ) → IsListedTo start frame y from g n b → IsListing g y from g.scratch n b
listing_now start g frame y from n b p = subst (λ (h : Grid). IsListing h y from g.scratch n b) (sym p.rest) p.listing

-- the number read is that of the grid as it was
pub number_before : (start g : Grid) (frame : Frame) (y from n b x v : ℕ) → IsListedTo start frame y from g n b → v ≡ number_at g x y → v ≡ number_at start x y
number_before start g frame y from n b x v p e = e ∙ ap (λ (h : Grid). number_at h x y) p.rest

-- it is short where there is one
pub is_short : (g : Grid) (y from x v : ℕ) → AreDistancesFrom g y from → from ≤ x → x < g.frame.width → v ≡ number_at g x y → v ≢ none → v < 32768
is_short g y from x v p late x_in e ne = elim (p x late x_in) as (λ _. v < 32768) [ inl w ↦ absurd (ne (e ∙ w)) | inr w ↦ omega arith ]

pub listed_one : (start g g' : Grid) (frame : Frame) (y from n b n' : ℕ) → IsListedTo start frame y from g n b → g' ≡ record g { scratch = g'.scratch } → IsListing g y from g'.scratch n' (b + 1)
    → IsListedTo start frame y from g' n' (b + 1)
listed_one start g g' frame y from n b n' p e q = record {
  rest = e ∙ ap (λ (h : Grid). record h { scratch = g'.scratch }) p.rest;
  same_frame = p.same_frame;
  valid = p.valid;
  width = p.width ∙ sym (ap (λ (h : Grid). h.frame.width) e);
  height = p.height ∙ sym (ap (λ (h : Grid). h.frame.height) e);
  listing = subst (λ (h : Grid). IsListing h y from g'.scratch n' (b + 1)) p.rest q;
}

pub listed_none : (start g : Grid) (frame : Frame) (y from n b v : ℕ) → IsListedTo start frame y from g n b → v ≡ number_at g b y → v ≡ none → IsListedTo start frame y from g n (b + 1)
listed_none start g frame y from n b v p e f = record {
  rest = p.rest;
  same_frame = p.same_frame;
  valid = p.valid;
  width = p.width;
  height = p.height;
  listing = leaving_out start y from g.scratch n b p.listing (sym (number_before start g frame y from n b b v p e) ∙ f);
}

pub is_none : (v : ℕ) → not (v == none) ≡ false → v ≡ none
is_none v e = grind (arith, nat_tests)

-- equal tests and distances have one least
least_same : (P P' : ℕ → Bool) (D D' : ℕ → ℕ) (n v : ℕ) → ((a : ℕ) → P a ≡ P' a) → ((a : ℕ) → D a ≡ D' a) → IsLeast P D n v → IsLeast P' D' n v
least_same P P' D D' n v e f p = record {
  bound = λ a h on. let b = p.bound a h (e a ∙ on) in let d = f a in omega arith;
  reached = elim p.reached as (λ _. ((a : ℕ) × ((a < n) × ((P' a ≡ true) × (v ≡ D' a)))) ⊎ ((v ≡ none) × ((a : ℕ) → a < n → P' a ≡ false))) [
    | inl w ↦ inl (w.0, (w.1.0, (sym (e w.0) ∙ w.1.1.0, w.1.1.1 ∙ f w.0)))
    | inr w ↦ inr (w.0, λ a h. sym (e a) ∙ w.1 a h)
  ];
}

-- the rows before y are done, and the others are as they were
pub record IsFinishedBelow (start : Grid) (g : Grid) (y : ℕ) : Type 0 where
  pub rest : g ≡ record start { clearances = g.clearances; scratch = g.scratch }
  pub width : start.frame.width ≡ g.frame.width
  pub height : start.frame.height ≡ g.frame.height
  pub later : (k : ℕ) → y * start.frame.width ≤ k → get_or g.clearances k 0 ≡ get_or start.clearances k 0
  pub done : (x b : ℕ) → x < start.frame.width → b < y → IsLeastInRow start b x (number_at g x b)

pub none_finished : (start : Grid) → IsFinishedBelow start start 0
none_finished start = record { rest = refl; width = refl; height = refl; later = λ k h. refl; done = λ x b h l. absurd (omega arith) }

-- the row to come is as it was
row_as_before : (start g : Grid) (y : ℕ) → IsFinishedBelow start g y → (a : ℕ) → number_at g a y ≡ number_at start a y
row_as_before start g y p a = ap (λ (i : ℕ). get_or g.clearances (y * i + a) 0) (sym p.width) ∙ p.later (y * start.frame.width + a) (omega arith)

pub distances_now : (start g : Grid) (y : ℕ) → IsFinishedBelow start g y → y < start.frame.height → ((b : ℕ) → b < start.frame.height → AreDistances start b) → AreDistances g y
distances_now start g y p y_in far a a_in =
    let w : start.frame.width ≡ g.frame.width = p.width in
    subst (λ (i : ℕ). (i ≡ none) ⊎ (i < 32768)) (sym (row_as_before start g y p a)) (far y y_in a (omega arith))

pub row_finished : (start g g' : Grid) (y : ℕ) → IsFinishedBelow start g y → FinishesRow g g' y → IsFinishedBelow start g' (y + 1)
unfolding value_at
row_finished start g g' y p q = record {
  rest = q.rest ∙ ap (λ (h : Grid). record h { clearances = g'.clearances; scratch = g'.scratch }) p.rest;
  width = width_now;
  height = p.height ∙ sym (ap (λ (h : Grid). h.frame.height) q.rest);
  later = λ k h. q.after k (omega (arith, row_start, one_row y start.frame.width, p.width)) ∙ p.later k (omega (arith, one_row y start.frame.width));
  done = λ x b x_in b_in. elim (cases_eq b y) as (λ _. IsLeastInRow start b x (number_at g' x b)) [
    | inl same ↦ subst (λ (i : ℕ). IsLeastInRow start i x (number_at g' x i)) (sym same) (here x x_in)
    | inr other ↦ subst (IsLeastInRow start b x) (sym (below x b x_in (omega arith))) (p.done x b x_in (omega arith))
  ];
}
  where
    one_row : (b w : ℕ) → (b + 1) * w ≡ b * w + w
    one_row b w = omega arith

    row_start : y * start.frame.width ≡ y * g.frame.width
    row_start = ap (λ (w : ℕ). y * w) p.width

    width_now : start.frame.width ≡ g'.frame.width
    width_now = p.width ∙ sym (ap (λ (h : Grid). h.frame.width) q.rest)

    rows_up : (b w : ℕ) → b + 1 ≤ y → b * w + w ≤ y * w
    rows_up b w h = let m : (b + 1) * w ≤ y * w = mul-le-mul_right w h in omega (arith, one_row b w)

    below : (x b : ℕ) → x < start.frame.width → b < y → number_at g' x b ≡ number_at g x b
    below x b x_in h =
        ap (λ (i : ℕ). get_or g'.clearances (b * i + x) 0) (sym width_now ∙ p.width)
        ∙ q.before (b * g.frame.width + x) (omega (arith, rows_up b g.frame.width (omega arith), p.width))

    here : (x : ℕ) → x < start.frame.width → IsLeastInRow start y x (number_at g' x y)
    here x x_in =
        subst (λ (w : ℕ). IsLeast (has_distance start y) (value_at (square_in start y) x) w (number_at g' x y)) (sym p.width)
        (least_same (has_distance g y) (has_distance start y) (value_at (square_in g y) x) (value_at (square_in start y) x) g.frame.width (number_at g' x y)
        (λ a. ap (λ (v : ℕ). not (v == none)) (row_as_before start g y p a)) (λ a. ap (λ (v : ℕ). square_gap x a + v * v) (row_as_before start g y p a))
        (q.least x (omega (arith, p.width))))

-- all rows are done
pub all_finished : (start g : Grid) (y : ℕ) → IsFinishedBelow start g y → y ≡ start.frame.height → AreLeastInRows start g
all_finished start g y p e x b x_in b_in = p.done x b x_in (omega arith)

-- a column of the frame, by another name of it
pub inside : (f f' : Frame) (x : ℕ) → f ≡ f' → x < f.width → x < f'.width
inside f f' x e h = subst (λ (k : Frame). x < k.width) e h

-- by another name of the grid and of the number of columns
pub renamed : (start g g' : Grid) (frame : Frame) (y from n n' b : ℕ) → g' ≡ g → n' ≡ n → IsListedTo start frame y from g n b → IsListedTo start frame y from g' n' b
renamed start g g' frame y from n n' b e f p = subst (λ (h : Grid). IsListedTo start frame y from h n' b) (sym e) (subst (λ (m : ℕ). IsListedTo start frame y from g m b) (sym f) p)

pub same_height : (f f' : Frame) → f ≡ f' → f.height ≡ f'.height
same_height f f' e = ap (λ (k : Frame). k.height) e
