-- Rows of bits that a loop writes from west to east.
use Rattle.std.proofs.Common.{◌≡◌, ◌≢◌, inl, inr, ℕ, zero, suc, ◌<◌, ◌≤◌, ◌+◌, ◌-◌, ℤ, pos, ◌≤ℤ◌, int_lt, Bool, true, false, ◌&&◌, ◌||◌, List, length, replicate, take, drop, set, get_or, refl, sym, ap, ◌∙◌, arith, get_or-set_other}
use Rattle.std.proofs.lemmas.Bool.Decides.{eqb_tells, leb_tells}
use Rattle.std.proofs.lemmas.Bool.{false≢true}
use Rattle.std.specs.List.{list_any}
use Rattle.std.proofs.lemmas.Grind.{get_or-set_at}
use Rattle.number_laws.proofs.Tests.{by_bool}
use Rattle.board_base.specs.declared.places.Point.{Point}
use Rattle.board_base.specs.Near.{near_of}
use Rattle.poly_area.specs.declared.edges.Edge.{Edge}
use Rattle.poly_area.specs.Area.{is_near}
use Rattle.shape_parts.specs.declared.shape.Part.TheVariants.{Capsule}
use Rattle.shape_parts.specs.Parts.{grown, part_touches, part_covers}
use Rattle.copper_cover.proofs.Painting.{covered_part_touched}
use Rattle.cell_grid.specs.declared.windows.Span.{Span}
use Rattle.cell_grid.specs.Windows.{IsInSpan}
use Rattle.copper_cover.specs.Rows.{bit_after}

-- the bits of the columns before n are written as f says, and the others as they were
pub record IsWritten (f : ℕ → Bool → Bool) (old now : List Bool) (n : ℕ) : Type 0 where
  pub done : (j : ℕ) → j < n → get_or now j false ≡ f j (get_or old j false)
  pub rest : (j : ℕ) → n ≤ j → get_or now j false ≡ get_or old j false

pub none_written : (f : ℕ → Bool → Bool) (old : List Bool) → IsWritten f old old 0
none_written f old = record { done = λ j l. absurd (omega arith); rest = λ j l. refl }

pub by_less : {P : Type 0} (a b : ℕ) → (a < b → P) → (b ≤ a → P) → P
by_less a b f g = elim (leb_tells b a) [ inl t ↦ g t.1 | inr t ↦ f t.1 ]

-- columns that stay as they are
pub passed : (f : ℕ → Bool → Bool) (old now : List Bool) (n m : ℕ) → IsWritten f old now n → n ≤ m → ((j : ℕ) → n ≤ j → j < m → (b : Bool) → f j b ≡ b) → IsWritten f old now m
passed f old now n m w le same = record {
  done = λ j l. by_less j n (λ k. w.done j k) (λ k. w.rest j k ∙ sym (same j k l (get_or old j false)));
  rest = λ j l. w.rest j (omega arith);
}

pub one_written : (f : ℕ → Bool → Bool) (old now : List Bool) (n : ℕ) (v : Bool) → IsWritten f old now n → n < length now → v ≡ f n (get_or now n false) → IsWritten f old (set now n v) (n + 1)
one_written f old now n v w l e = record {
  done = λ j h. elim (eqb_tells j n) [
    | inl t ↦ get_or-set_at now n j v false t.1 l ∙ e ∙ ap (f n) (w.rest n (omega arith)) ∙ ap (λ (k : ℕ). f k (get_or old k false)) (sym t.1)
    | inr t ↦ get_or-set_other now n j v false t.1 ∙ w.done j (below j n h t.1)
  ];
  rest = λ j h. get_or-set_other now n j v false (after j n h) ∙ w.rest j (omega arith);
}
  where
    below : (j n : ℕ) → j < n + 1 → j ≢ n → j < n
    below j n h k = omega arith

    after : (j n : ℕ) → n + 1 ≤ j → j ≢ n
    after j n h = omega arith

pub all_written : (f : ℕ → Bool → Bool) (old now : List Bool) (n : ℕ) → IsWritten f old now n → (k : ℕ) → k < n → get_or now k false ≡ f k (get_or old k false)
all_written f old now n w k l = w.done k l

-- ---- the columns of a span, outside which nothing changes

module _ (f : ℕ → Bool → Bool) (s : Span) (n : ℕ) (same : (k : ℕ) → k < n → (IsInSpan s k → ⊥) → (b : Bool) → f k b ≡ b) where
  -- the columns before the span
  pub span_before : (old : List Bool) → s.from ≤ n → IsWritten f old old s.from
  span_before old le = passed f old old 0 s.from (none_written f old) (omega arith) (λ j h l b. same j (omega arith) (λ i. clash i.from l) b)
    where
      clash : {a b : ℕ} → a ≤ b → b < a → ⊥
      clash l k = omega arith

  -- and those past it
  pub span_after : (m : ℕ) (old now : List Bool) → IsWritten f old now m → s.to ≤ m → m ≤ n → (k : ℕ) → k < n → get_or now k false ≡ f k (get_or old k false)
  span_after m old now w to le = all_written f old now n (passed f old now m n w le (λ j h l b. same j l (λ i. clash i.to to h) b))
    where
      clash : {j t m : ℕ} → j < t → t ≤ m → m ≤ j → ⊥
      clash a b d = omega arith

-- ---- what is near a segment

pub unmarked : (b t : Bool) → t ≡ false → (b || t) ≡ b
unmarked true t e = refl
unmarked false t e = e

-- a column outside the span isn't near
pub outside_span : (near : ℕ → Bool) (s : Span) (n : ℕ) → ((k : ℕ) → k < n → near k ≡ true → IsInSpan s k) → (k : ℕ) → k < n → (IsInSpan s k → ⊥) → near k ≡ false
outside_span near s n inside k l out = by_bool (near k) (λ t. absurd (out (inside k l t))) (λ f. f)

-- so its mark stays
pub unmarked_out : (near : ℕ → Bool) (s : Span) (n : ℕ) → ((k : ℕ) → k < n → near k ≡ true → IsInSpan s k) → (k : ℕ) → k < n → (IsInSpan s k → ⊥) → (b : Bool) → (b || near k) ≡ b
unmarked_out near s n inside k l out b = unmarked b (near k) (outside_span near s n inside k l out)

-- a piece that neither adds nor takes away changes nothing
pub unchanged : (on adds takes b : Bool) → adds ≡ false → takes ≡ false → bit_after on adds takes b ≡ b
unchanged on adds takes b e f = ap (λ (x : Bool). bit_after on x takes b) e ∙ ap (λ (x : Bool). bit_after on false x b) f ∙ same on b
  where
    same : (d b : Bool) → bit_after d false false b ≡ b
    same true true = refl
    same true false = refl
    same false true = refl
    same false false = refl

-- a segment that isn't near a centre with its grown width neither touches nor covers the cell
pub far_touches : (q a b : Point) (d h : ℤ) → near_of q a b (grown d h) ≡ false → part_touches q h (Capsule a b d) ≡ false
far_touches q a b d h e = ap (λ (t : Bool). int_lt (pos 0) d && t) e ∙ neither (int_lt (pos 0) d)
  where
    neither : (t : Bool) → (t && false) ≡ false
    neither true = refl
    neither false = refl

pub far_covers : (q a b : Point) (d h : ℤ) → pos 0 ≤ℤ h → near_of q a b (grown d h) ≡ false → part_covers q h (Capsule a b d) ≡ false
far_covers q a b d h h_in e =
    by_bool (part_covers q h (Capsule a b d))
    (λ t. absurd (false≢true (sym (far_touches q a b d h e) ∙ covered_part_touched q h (Capsule a b d) h_in t))) (λ f. f)

-- so it changes no bit
pub far_touched : (q a b : Point) (d h : ℤ) (on bit : Bool) → pos 0 ≤ℤ h → near_of q a b (grown d h) ≡ false → bit_after on (part_touches q h (Capsule a b d)) (part_covers q h (Capsule a b d)) bit ≡ bit
far_touched q a b d h on bit h_in e = unchanged on (part_touches q h (Capsule a b d)) (part_covers q h (Capsule a b d)) bit (far_touches q a b d h e) (far_covers q a b d h h_in e)

pub far_covered : (q a b : Point) (d h : ℤ) (on bit : Bool) → pos 0 ≤ℤ h → near_of q a b (grown d h) ≡ false → bit_after on (part_covers q h (Capsule a b d)) (part_touches q h (Capsule a b d)) bit ≡ bit
far_covered q a b d h on bit h_in e = unchanged on (part_covers q h (Capsule a b d)) (part_touches q h (Capsule a b d)) bit (far_covers q a b d h h_in e) (far_touches q a b d h e)

-- ---- lists of edges

-- bits that are all off
pub off_at : (bits : List Bool) (n k : ℕ) → bits ≡ replicate n false → get_or bits k false ≡ false
off_at bits n k e = ap (λ (xs : List Bool). get_or xs k false) e ∙ off n k
  where
    off : (n k : ℕ) → get_or (replicate n false) k false ≡ false
    off zero k = refl
    off (suc n) zero = refl
    off (suc n) (suc k) = off n k

pub or_more : (old now next all more t : Bool) → now ≡ (old || all) → next ≡ (now || t) → more ≡ (all || t) → next ≡ (old || more)
or_more old now next all more t e f g = f ∙ ap (λ (s : Bool). s || t) e ∙ along old all t ∙ ap (λ (s : Bool). old || s) (sym g)
  where
    along : (a b c : Bool) → ((a || b) || c) ≡ (a || (b || c))
    along true b c = refl
    along false b c = refl

-- before the first edge none is near
pub or_none : (q : Point) (d : ℤ) (m : ℕ) (es : List Edge) (b : Bool) → b ≡ (b || list_any (is_near q d) (take (m - m) (drop m es)))
or_none q d m es b = sym (unmarked b _ (ap (λ (z : ℕ). list_any (is_near q d) (take z (drop m es))) (none m)))
  where
    none : (m : ℕ) → m - m ≡ 0
    none m = omega arith
