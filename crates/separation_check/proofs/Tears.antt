-- Labels agree from each cell of a frame, and so on the whole plane.
use Rattle.std.proofs.Common.{◌≡◌, ◌⊎◌, inl, inr, ◌↔◌, IsTrue, ℕ, ◌+◌, ◌<◌, ◌≤◌, ℤ, pos, ◌+ℤ◌, ◌-ℤ◌, ◌≤ℤ◌, ◌<ℤ◌, Bool, true, false, not, get_or, refl, sym, ap, subst, ◌∙◌, arith}
use Rattle.std.proofs.lemmas.Bool.{false≢true, cases_eq}
use Rattle.std.proofs.lemmas.Int.{by_lt_z}
use borrow.Author.Differences.{ints}
use Rattle.number_laws.proofs.Tests.{by_bool, cond_false}
use Rattle.board_base.specs.declared.places.Cell.{Cell}
use Rattle.board_base.specs.Lattice.{IsBeside}
use Rattle.cell_grid.specs.declared.frames.Frame.{Frame}
use Rattle.cell_grid.specs.Grid.{Grid}
use Rattle.cell_grid.specs.Place.{IsFrame, InFrame, place_of, cells_of}
use Rattle.cell_grid.specs.Cells.{in_frame}
use Rattle.cell_sets.specs.Chains.{IsClasses}
use Rattle.cell_grid.proofs.PlaceLaws.{place_below, place_same}
use Rattle.cell_grid.proofs.CellsLaws.{in_frame_is, in_frame_true, in_frame_false}
use Rattle.separation_check.specs.Unswept.{is_unswept, class_of}
use Rattle.separation_check.specs.Tears.{IsFault, AreWhole}
use Rattle.cell_sets.proofs.CellLaws.{beside_sym}
use Rattle.cell_sets.proofs.Links.{linked_step}

-- a test that says whether the cell is in the frame
pub inside_is : (f : Frame) (c : Cell) (r : Bool) → IsTrue r ↔ InFrame f c → r ≡ in_frame f c
inside_is f c true e = sym (in_frame_true f c (e.0 refl))
inside_is f c false e = sym (in_frame_false f c (λ h. false≢true (e.1 h)))

-- the cells outside a frame are unswept, and of class 1
pub unswept_out : (g : Grid) (c : Cell) → in_frame g.frame c ≡ false → is_unswept g c ≡ true
unswept_out g c out = ap not (cond_false (in_frame g.frame c) (get_or g.swept (place_of g.frame c) false) false out)

pub class_out : (g : Grid) (c : Cell) → in_frame g.frame c ≡ false → class_of g c ≡ 1
class_out g c out = cond_false (in_frame g.frame c) (get_or g.works (place_of g.frame c) 0) 1 out

cell : ℤ → ℤ → Cell
cell i j = record { i = i; j = j }

-- of the nine cells round a cell, those before column x of row y
abbrev pub IsPassed : Cell → ℕ → ℕ → Cell → Type 0
IsPassed c y x b = ((b.j +ℤ pos 1) <ℤ (c.j +ℤ pos y)) ⊎ (((b.j +ℤ pos 1) ≡ (c.j +ℤ pos y)) × ((b.i +ℤ pos 1) <ℤ (c.i +ℤ pos x)))

-- the passed cells are of this class
abbrev pub AreOfClass : Grid → Cell → ℕ → ℕ → ℕ → Type 0
AreOfClass g c class y x = (b : Cell) → IsBeside c b → IsPassed c y x b → is_unswept g b ≡ true → class_of g b ≡ class

pub none_passed : (g : Grid) (c : Cell) (class : ℕ) → AreOfClass g c class 0 0
none_passed g c class b s p k = absurd (elim p as (λ _. ⊥) [ inl l ↦ low b.j c.j s.south l | inr l ↦ under b.i c.i s.west l.1 ])
  where
    low : (j j' : ℤ) → (j' -ℤ j) ≤ℤ pos 1 → (j +ℤ pos 1) <ℤ (j' +ℤ pos 0) → ⊥
    low j j' h l = omega (arith, ints)

    under : (j j' : ℤ) → (j' -ℤ j) ≤ℤ pos 1 → (j +ℤ pos 1) <ℤ (j' +ℤ pos 0) → ⊥
    under j j' h l = omega (arith, ints)

-- one cell more
pub one_passed : (g : Grid) (c d : Cell) (class y x : ℕ) → AreOfClass g c class y x → d.i +ℤ pos 1 ≡ c.i +ℤ pos x → d.j +ℤ pos 1 ≡ c.j +ℤ pos y → (is_unswept g d ≡ true → class_of g d ≡ class)
    → AreOfClass g c class y (x + 1)
unfolding cell
one_passed g c d class y x p i j same b s q k =
    elim q as (λ _. class_of g b ≡ class) [
      | inl l ↦ p b s (inl l) k
      | inr r ↦ by_lt_z (b.i +ℤ pos 1) (c.i +ℤ pos x) (λ (l : (b.i +ℤ pos 1) <ℤ (c.i +ℤ pos x)). p b s (inr (r.0, l)) k)
          (λ (l : (c.i +ℤ pos x) ≤ℤ (b.i +ℤ pos 1)).
          let ei : d.i ≡ b.i = level d.i b.i c.i x i l r.1 in
          let ej : d.j ≡ b.j = back d.j b.j (c.j +ℤ pos y) j r.0 in
          let e : d ≡ b = ap (λ v. cell v d.j) ei ∙ ap (λ v. cell b.i v) ej in
          ap (class_of g) (sym e) ∙ same (ap (is_unswept g) e ∙ k))
    ]
  where
    level : (i i' m : ℤ) (x : ℕ) → i +ℤ pos 1 ≡ m +ℤ pos x → (m +ℤ pos x) ≤ℤ (i' +ℤ pos 1) → (i' +ℤ pos 1) <ℤ (m +ℤ pos (x + 1)) → i ≡ i'
    level i i' m x e l h = omega (arith, ints)

    back : (j j' m : ℤ) → j +ℤ pos 1 ≡ m → j' +ℤ pos 1 ≡ m → j ≡ j'
    back j j' m e h = omega (arith, ints)

-- a row of three is passed
pub row_passed : (g : Grid) (c : Cell) (class y x : ℕ) → AreOfClass g c class y x → 3 ≤ x → AreOfClass g c class (y + 1) 0
row_passed g c class y x p past b s q k =
    p b s
    (elim q as (λ _. IsPassed c y x b) [
      | inl l ↦ by_lt_z (b.j +ℤ pos 1) (c.j +ℤ pos y) (λ (h : (b.j +ℤ pos 1) <ℤ (c.j +ℤ pos y)). inl h)
          (λ (h : (c.j +ℤ pos y) ≤ℤ (b.j +ℤ pos 1)). inr (level b.j c.j y h l, high b.i c.i x s.east past))
      | inr r ↦ absurd (under b.i c.i s.west r.1)
    ])
    k
  where
    level : (j m : ℤ) (y : ℕ) → (m +ℤ pos y) ≤ℤ (j +ℤ pos 1) → (j +ℤ pos 1) <ℤ (m +ℤ pos (y + 1)) → j +ℤ pos 1 ≡ m +ℤ pos y
    level j m y h l = omega (arith, ints)

    high : (i m : ℤ) (x : ℕ) → (i -ℤ m) ≤ℤ pos 1 → 3 ≤ x → (i +ℤ pos 1) <ℤ (m +ℤ pos x)
    high i m x h l = omega (arith, ints)

    under : (j j' : ℤ) → (j' -ℤ j) ≤ℤ pos 1 → (j +ℤ pos 1) <ℤ (j' +ℤ pos 0) → ⊥
    under j j' h l = omega (arith, ints)

-- all three rows
pub all_passed : (g : Grid) (c : Cell) (class y x : ℕ) → AreOfClass g c class y x → 3 ≤ y → (b : Cell) → IsBeside c b → is_unswept g b ≡ true → class_of g b ≡ class
all_passed g c class y x p past b s k = p b s (inl (high b.j c.j y s.north past)) k
  where
    high : (i m : ℤ) (y : ℕ) → (i -ℤ m) ≤ℤ pos 1 → 3 ≤ y → (i +ℤ pos 1) <ℤ (m +ℤ pos y)
    high i m y h l = omega (arith, ints)

-- a cell in one of the three columns and rows is beside
pub is_beside : (c b : Cell) (x y : ℕ) → x < 3 → y < 3 → b.i +ℤ pos 1 ≡ c.i +ℤ pos x → b.j +ℤ pos 1 ≡ c.j +ℤ pos y → IsBeside c b
is_beside c b x y lx ly i j = record { west = low b.i c.i x lx i; east = high b.i c.i x lx i; south = low b.j c.j y ly j; north = high b.j c.j y ly j }
  where
    low : (i m : ℤ) (x : ℕ) → x < 3 → i +ℤ pos 1 ≡ m +ℤ pos x → (m -ℤ i) ≤ℤ pos 1
    low i m x l e = omega (arith, ints)

    high : (i m : ℤ) (x : ℕ) → x < 3 → i +ℤ pos 1 ≡ m +ℤ pos x → (i -ℤ m) ≤ℤ pos 1
    high i m x l e = omega (arith, ints)

-- each unswept neighbour of the cell has its class
abbrev pub Agrees : Grid → Cell → Type 0
Agrees g c = (b : Cell) → is_unswept g c ≡ true → is_unswept g b ≡ true → IsBeside c b → class_of g c ≡ class_of g b

-- the cells before place n have no torn neighbour
pub record AreAgreed (g : Grid) (frame : Frame) (n : ℕ) : Type 0 where
  pub same : frame ≡ g.frame
  pub valid : IsFrame frame
  pub each : (c : Cell) → InFrame frame c → place_of frame c < n → Agrees g c

pub agreed_begun : (g : Grid) (frame : Frame) (n : ℕ) → frame ≡ g.frame → IsFrame frame → n ≡ 0 → AreAgreed g frame n
agreed_begun g frame n e v z = record { same = e; valid = v; each = λ c h l. absurd (omega (arith, l, z)) }

pub agreed_on : (g : Grid) (frame : Frame) (n m : ℕ) (c : Cell) → AreAgreed g frame n → InFrame frame c → place_of frame c ≡ n → m ≡ n + 1 → Agrees g c → AreAgreed g frame m
agreed_on g frame n m c p h place next here = record {
  same = p.same;
  valid = p.valid;
  each = λ d k l. elim (cases_eq (place_of frame d) n) as (λ _. Agrees g d) [
    | inl e ↦ subst (Agrees g) (place_same frame c d h k (place ∙ sym e)) here
    | inr ne ↦ p.each d k (omega (arith, l, next, ne))
  ];
}

pub agreed_ended : (g : Grid) (frame : Frame) (n : ℕ) → AreAgreed g frame n → n ≡ cells_of frame → AreWhole (is_unswept g) (class_of g)
agreed_ended g frame n p all a b ka kb s =
    by_bool (in_frame g.frame a) (λ ia. one a ia b ka kb s)
    (λ oa. by_bool (in_frame g.frame b) (λ ib. sym (one b ib a kb ka (beside_sym a b s))) (λ ob. class_out g a oa ∙ sym (class_out g b ob)))
  where
    one : (c : Cell) → in_frame g.frame c ≡ true → Agrees g c
    one c i =
        let h : InFrame frame c = subst (λ (f : Frame). InFrame f c) (sym p.same) (in_frame_is g.frame c i) in
        p.each c h (omega (arith, place_below frame c h, all))

-- classes that chains link have no fault
pub no_fault : (free : Cell → Bool) (class : Cell → ℕ) (c d : Cell) → IsClasses free class → IsFault free class c d → ⊥
no_fault free class c d p e = e.differ (p.whole c d (linked_step (λ x. free x ≡ true) c d e.free_cell e.beside e.free_neighbour))
