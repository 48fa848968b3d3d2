-- The numbers of the cells after one is written, and which cells are taken.
use Rattle.std.proofs.Common.{◌≡◌, ◌≢◌, ℕ, ◌<◌, not, Bool, true, false, List, length, set, get_or, slice_index, ◌⊎◌, inl, inr, refl, sym, ap, ◌∙◌, arith, get_or-set_same, get_or-set_other}
use Rattle.std.proofs.lemmas.Bool.{false≢true, cases_eq}
use mathlib.Core.Bool.{beq}
use Rattle.number_laws.proofs.Tests.{cond_true, cond_false}
use Rattle.board_base.specs.declared.places.Cell.{Cell}
use Rattle.cell_grid.specs.declared.frames.Frame.{Frame}
use Rattle.cell_grid.specs.declared.bits.Plane.{Plane}
use Rattle.cell_grid.specs.declared.bits.Plane.TheVariants.{Kept, Allowed, Pass, Visited, Swept}
use Rattle.cell_grid.specs.Grid.{Grid, plane_of}
use Rattle.cell_grid.specs.Place.{place_of, cells_of}
use Rattle.cell_grid.specs.Cells.{in_frame, number_in}
use Rattle.cell_grid.proofs.PlaceLaws.{place_below, place_same}
use Rattle.cell_grid.proofs.CellsLaws.{in_frame_is}
use Rattle.number_laws.proofs.Tests.{by_bool}
use Rattle.islands.specs.Taken.{is_taken, outer_number}

pub number_inside : (f : Frame) (outer : ℕ) (works : List ℕ) (c : Cell) → in_frame f c ≡ true → number_in f outer works c ≡ slice_index works (place_of f c)
number_inside f outer works c e = cond_true (in_frame f c) (slice_index works (place_of f c)) outer e

pub number_outside : (f : Frame) (outer : ℕ) (works : List ℕ) (c : Cell) → in_frame f c ≡ false → number_in f outer works c ≡ outer
number_outside f outer works c e = cond_false (in_frame f c) (slice_index works (place_of f c)) outer e

true_is : (b : Bool) → b ≡ beq b true
true_is true = refl
true_is false = refl

not_is : (b : Bool) → not b ≡ beq b false
not_is true = refl
not_is false = refl

pub taken_inside : (on : Bool) (f : Frame) (plane : List Bool) (c : Cell) → in_frame f c ≡ true → is_taken on f plane c ≡ beq (get_or plane (place_of f c) false) on
taken_inside true f plane c e = cond_true (in_frame f c) (get_or plane (place_of f c) false) false e ∙ true_is _
taken_inside false f plane c e = ap not (cond_true (in_frame f c) (get_or plane (place_of f c) false) false e) ∙ not_is _

-- a cell outside the frame is taken exactly where all have the number 1
pub taken_outside : (on : Bool) (f : Frame) (plane : List Bool) (c : Cell) → in_frame f c ≡ false → is_taken on f plane c ≡ true → outer_number on ≢ 0
taken_outside true f plane c o k = absurd (false≢true (sym (cond_false (in_frame f c) (get_or plane (place_of f c) false) false o) ∙ k))
taken_outside false f plane c o k = λ z. omega (arith, z)

pub rest_outside : (f : Frame) (plane : List Bool) (c : Cell) → in_frame f c ≡ false → is_taken false f plane c ≡ true
rest_outside f plane c o = ap not (cond_false (in_frame f c) (get_or plane (place_of f c) false) false o)

pub plane_same : (start g : Grid) (p : Plane) → plane_of (record start { works = g.works; waiting = g.waiting; put = g.put }) p ≡ plane_of start p
plane_same start g Kept = refl
plane_same start g Allowed = refl
plane_same start g Pass = refl
plane_same start g Visited = refl
plane_same start g Swept = refl

-- the number of one cell is written
module _ (f : Frame) (outer : ℕ) (works : List ℕ) (b : Cell) (v : ℕ) (b_in : in_frame f b ≡ true) (len : length works ≡ cells_of f) where
  b_below : place_of f b < length works
  b_below = let l = place_below f b (in_frame_is f b b_in) in omega (arith, l, len)

  pub written_here : number_in f outer (set works (place_of f b) v) b ≡ v
  written_here = number_inside f outer (set works (place_of f b) v) b b_in ∙ get_or-set_same works (place_of f b) v 0 b_below

  pub written_else : (a : Cell) → a ≢ b → number_in f outer (set works (place_of f b) v) a ≡ number_in f outer works a
  written_else a ne =
      by_bool (in_frame f a)
      (λ i.
      let apart : place_of f a ≢ place_of f b = λ e. ne (place_same f a b (in_frame_is f a i) (in_frame_is f b b_in) e) in
      number_inside f outer (set works (place_of f b) v) a i ∙ get_or-set_other works (place_of f b) (place_of f a) v 0 apart ∙ sym (number_inside f outer works a i))
      (λ o. number_outside f outer (set works (place_of f b) v) a o ∙ sym (number_outside f outer works a o))

  pub here_or_else : (a : Cell) → (a ≡ b) ⊎ (a ≢ b)
  here_or_else a =
      by_bool (in_frame f a)
      (λ i. elim (cases_eq (place_of f a) (place_of f b)) as (λ _. (a ≡ b) ⊎ (a ≢ b)) [
        | inl e ↦ inl (place_same f a b (in_frame_is f a i) (in_frame_is f b b_in) e)
        | inr ne ↦ inr (λ e. ne (ap (place_of f) e))
      ])
      (λ o. inr (λ e. false≢true (sym o ∙ ap (in_frame f) e ∙ b_in)))
