-- Marks and their running parity, and the columns where they stand.
use Rattle.std.proofs.Common.{◌≡◌, ◌≢◌, ℕ, zero, suc, ◌+◌, ◌<◌, ◌≤◌, leb, ℤ, pos, ◌+ℤ◌, ◌-ℤ◌, ◌*ℤ◌, ◌≤ℤ◌, ◌<ℤ◌, int_le, Bool, true, false, not, inl, inr, List, [], ◌∷◌, length, replicate, take, set, get_or, refl, sym, ap, ◌∙◌, arith}
use Rattle.std.proofs.lemmas.Bool.Decides.{leb_tells, eqb_tells}
use Rattle.std.proofs.lemmas.List.{get_or-set_other}
use Rattle.std.proofs.lemmas.Grind.{get_or-set_at}
use Rattle.std.proofs.Math.Dec.{leb-zero}
use borrow.Author.Differences.{ints}
use Rattle.number_laws.proofs.Tests.{of_le, of_lt, to_le, to_lt, same_test, by_bool}
use Rattle.board_base.specs.Lattice.{half_of, middle, IsFirst}
use Rattle.poly_area.specs.declared.edges.Edge.{Edge}
use Rattle.poly_area.specs.Area.{crosses, on_row, odd_of}
use Rattle.poly_area.specs.Crossing.{xor, toggles}
use Rattle.poly_area.proofs.AreaLaws.{xor_assoc}
use Rattle.poly_area.proofs.ToggleLaws.{odd_of_more}
use Rattle.poly_area.specs.Rows.{column_x, running}

not_left : (x r : Bool) → xor (not x) r ≡ not (xor x r)
not_left true r = twice r
  where
    twice : (r : Bool) → r ≡ not (not r)
    twice true = refl
    twice false = refl
not_left false r = refl

not_right : (x r : Bool) → xor x (not r) ≡ not (xor x r)
not_right true r = refl
not_right false r = refl

-- a mark that is turned among the first n turns their parity
pub turned_in : (xs : List Bool) (c n : ℕ) (d : Bool) → c < length xs → c < n → odd_of (λ b. b) (take n (set xs c (not (get_or xs c d)))) ≡ not (odd_of (λ b. b) (take n xs))
turned_in [] c n d l h = absurd (omega arith)
turned_in (x ∷ xs) c zero d l h = absurd (omega arith)
turned_in (x ∷ xs) zero (suc n) d l h = not_left x (odd_of (λ b. b) (take n xs))
turned_in (x ∷ xs) (suc c) (suc n) d l h = ap (xor x) (turned_in xs c n d (omega arith) (omega arith)) ∙ not_right x (odd_of (λ b. b) (take n xs))

-- and one that is turned after them does not
pub turned_out : (xs : List Bool) (c n : ℕ) (v : Bool) → n ≤ c → take n (set xs c v) ≡ take n xs
turned_out [] c n v h = refl
turned_out (x ∷ xs) c zero v h = refl
turned_out (x ∷ xs) zero (suc n) v h = absurd (omega arith)
turned_out (x ∷ xs) (suc c) (suc n) v h = ap (λ (ys : List Bool). x ∷ ys) (turned_out xs c n v (omega arith))

xor_true : (r : Bool) → not r ≡ xor r true
xor_true true = refl
xor_true false = refl

pub xor_false : (r : Bool) → r ≡ xor r false
xor_false true = refl
xor_false false = refl

pub flip_step : (xs : List Bool) (c k : ℕ) → c < length xs → odd_of (λ b. b) (take (k + 1) (set xs c (not (get_or xs c false)))) ≡ xor (odd_of (λ b. b) (take (k + 1) xs)) (leb c k)
flip_step xs c k l =
    elim (leb_tells c k) [
      | inl t ↦ turned_in xs c (k + 1) false l (omega (arith, t.1)) ∙ xor_true (odd_of (λ b. b) (take (k + 1) xs)) ∙ ap (xor (odd_of (λ b. b) (take (k + 1) xs))) (sym t.0)
      | inr t ↦ ap (odd_of (λ b. b)) (turned_out xs c (k + 1) (not (get_or xs c false)) (omega (arith, t.1))) ∙ xor_false (odd_of (λ b. b) (take (k + 1) xs)) ∙ ap (xor (odd_of (λ b. b) (take (k + 1) xs))) (sym t.0)
    ]

-- ---- columns

pub clip_none : (i : ℤ) (k : ℕ) → i ≤ℤ pos 0 → leb 0 k ≡ int_le i (pos k)
clip_none i k h = leb-zero k ∙ sym (of_le i (pos k) (omega (arith, ints)))

pub clip_some : (i : ℤ) (n k : ℕ) → pos n ≡ i → leb n k ≡ int_le i (pos k)
clip_some i n k e =
    elim (leb_tells n k) [
      | inl t ↦ t.0 ∙ sym (of_le i (pos k) (inside i n k e t.1))
      | inr t ↦ t.0 ∙ sym (of_lt i (pos k) (past i n k e t.1))
    ]
  where
    inside : (i : ℤ) (n k : ℕ) → pos n ≡ i → n ≤ k → i ≤ℤ pos k
    inside i n k e h = omega (arith, ints)

    past : (i : ℤ) (n k : ℕ) → pos n ≡ i → k < n → pos k <ℤ i
    past i n k e h = omega (arith, ints)

pub clip_all : (i : ℤ) (n w k : ℕ) → pos n ≡ i → k < w → w ≤ n → leb w k ≡ int_le i (pos k)
clip_all i n w k e h l =
    elim (leb_tells w k) [
      | inl t ↦ absurd (omega (arith, t.1))
      | inr t ↦ t.0 ∙ sym (of_lt i (pos k) (past i n w k e h l))
    ]
  where
    past : (i : ℤ) (n w k : ℕ) → pos n ≡ i → k < w → w ≤ n → pos k <ℤ i
    past i n w k e h l = omega (arith, ints)

-- a column from the first one on, by the lattice whose first middle is at `west`
pub column_is : (p i limit x west : ℤ) (k : ℕ) → limit ≡ (x -ℤ west) +ℤ half_of p → IsFirst p limit i → int_le i (pos k) ≡ int_le x (column_x west p k)
unfolding column_x middle
column_is p i limit x west k e f =
    same_test (int_le i (pos k)) (int_le x (west +ℤ pos k *ℤ p))
    (λ s t. absurd (apart x west limit (pos k *ℤ p) (half_of p) e ((f.all (pos k)).0 (to_le i (pos k) s)) (to_lt x (west +ℤ pos k *ℤ p) t)))
    (λ s t. absurd (not_first i k (to_lt i (pos k) s) ((f.all (pos k)).1 (beside x west limit (pos k *ℤ p) (half_of p) e (to_le x (west +ℤ pos k *ℤ p) t)))))
  where
    apart : (x west limit m h : ℤ) → limit ≡ (x -ℤ west) +ℤ h → limit ≤ℤ (m +ℤ h) → (west +ℤ m) <ℤ x → ⊥
    apart x west limit m h e l k = omega (arith, ints)

    beside : (x west limit m h : ℤ) → limit ≡ (x -ℤ west) +ℤ h → x ≤ℤ (west +ℤ m) → limit ≤ℤ (m +ℤ h)
    beside x west limit m h e l = omega (arith, ints)

    not_first : (i : ℤ) (k : ℕ) → pos k <ℤ i → i ≤ℤ pos k → ⊥
    not_first i k h l = omega (arith, ints)

-- ---- edges

pub toggle_none : (e : Edge) (y : ℤ) → int_le e.from.y y ≡ int_le e.to.y y → (at : ℤ) → crosses (on_row at y) e ≡ false
unfolding toggles
toggle_none e y h at = by_bool (int_le e.from.y y) (λ t. let s : int_le e.to.y y ≡ true = sym h ∙ t in simp (t, s)) (λ t. let s : int_le e.to.y y ≡ false = sym h ∙ t in simp (t, s))

pub one_more : (old now next all more t : Bool) → now ≡ xor old all → next ≡ xor now t → more ≡ xor all t → next ≡ xor old more
one_more old now next all more t e f g = f ∙ ap (λ (s : Bool). xor s t) e ∙ xor_assoc old all t ∙ ap (xor old) (sym g)

-- ---- running parity

pub record IsRunBelow (old now : List Bool) (odd : Bool) (n : ℕ) : Type 0 where
  pub parity : odd ≡ odd_of (λ b. b) (take n old)
  pub done : (j : ℕ) → j < n → get_or now j false ≡ running old j
  pub rest : (j : ℕ) → n ≤ j → get_or now j false ≡ get_or old j false

pub run_step : (old now : List Bool) (odd odd' : Bool) (n : ℕ) → n < length old → length now ≡ length old → IsRunBelow old now odd n → odd' ≡ xor odd (get_or now n false) → IsRunBelow old (set now n odd') odd' (n + 1)
run_step old now odd odd' n l same r e =
    let p : odd' ≡ running old n = e ∙ ap (xor odd) (r.rest n (omega arith)) ∙ ap (λ (s : Bool). xor s (get_or old n false)) r.parity ∙ sym (odd_of_more (λ b. b) old n false l) in
    record {
      parity = p;
      done = λ j h. elim (eqb_tells j n) [
        | inl t ↦ get_or-set_at now n j odd' false t.1 (omega (arith, same)) ∙ p ∙ ap (running old) (sym t.1)
        | inr t ↦ get_or-set_other now n j odd' false t.1 ∙ r.done j (below j n h t.1)
      ];
      rest = λ j h. get_or-set_other now n j odd' false (after j n h) ∙ r.rest j (omega arith);
    }
  where
    below : (j n : ℕ) → j < n + 1 → j ≢ n → j < n
    below j n h k = omega arith

    after : (j n : ℕ) → n + 1 ≤ j → j ≢ n
    after j n h = omega arith

-- marks that are all off
clean : (m n : ℕ) → odd_of (λ b. b) (take n (replicate m false)) ≡ false
clean zero n = none n
  where
    none : (n : ℕ) → odd_of (λ b. b) (take n []) ≡ false
    none zero = refl
    none (suc n) = refl
clean (suc m) zero = refl
clean (suc m) (suc n) = clean m n

pub running_clean : (m k : ℕ) → running (replicate m false) k ≡ false
running_clean m k = clean m (k + 1)

-- a bit is the running parity of marks that are turned, from all off, where the area holds the centre
pub bit_is : (bit run old held : Bool) → bit ≡ run → run ≡ xor old held → old ≡ false → bit ≡ held
bit_is bit run old held e f g = e ∙ f ∙ ap (λ (s : Bool). xor s held) g
