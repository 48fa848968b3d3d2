-- The height over a probed board comes to exactly what it says.
use Rattle.std.proofs.Common.{◌≡◌, ℕ, suc, ◌+◌, ◌-◌, ◌*◌, ◌/◌, ◌<◌, ◌≤◌, ◌^◌, ℤ, pos, negsuc, ◌+ℤ◌, ◌-ℤ◌, ◌*ℤ◌, ◌≤ℤ◌, Bool, true, false, cond, List, [], ◌∷◌, map, refl, sym, ap, subst, ◌∙◌, arith, Option, Some, None}
use Rattle.std.specs.Prelude.{unsigned_abs, min, sum, nat_lt, int_le, int_div, int_rem, slice_get, unwrap_or, Ok, Err}
use Rattle.std.specs.Int.{int_rem_euclid}
use Rattle.std.specs.Ordering.{int_eq}
use Rattle.std.specs.List.{All, fold}
use Rattle.std.proofs.Math.Nat.{mul-mod_left, min-le_right, mul-le-mul_left, add-mul}
use Rattle.std.proofs.lemmas.Int.{ints, quot-rem, rem_below, int_rem_euclid_is, unsigned_abs-mul}
use Rattle.std.proofs.lemmas.Grind.{common_steps}
use Rattle.std.proofs.lemmas.Option.{slice_get_within, unwrap_or-slice_get}
use Rattle.std.specs.Prelude.{slice_index_or}
use Rattle.number_laws.proofs.Ring.{ring, var, num, mul}
use Rattle.board_base.specs.Places.{IsCoordinate}
use Rattle.board_base.specs.Binds.{◌>>=◌}
use Rattle.fixed_num.specs.Rounding.{rounded}
use Rattle.rs274_sim.specs.declared.fault.SimFault.TheVariants.{FinePosition, OutOfRange}
use Rattle.rs274_sim.specs.declared.line.Value.{Value, Num, Param, Expr as bracketed}
use Rattle.rs274_sim.specs.declared.line.Expr.{Sum, Product}
use Rattle.rs274_sim.proofs.TableLaws.{brackets_value}
use Rattle.rs274_sim.specs.Evaluation.{Parameters, one, is_whole, limited, product_of, value_of}
use Rattle.mill_program.specs.declared.probes.ProbeGrid.{ProbeGrid}
use Rattle.mill_program.specs.declared.probes.Along.{Along}
use Rattle.mill_program.specs.Probes.{IsAxis, IsGrid, FitGrid, way_in, part_of, field_of, located, shares, weights_of, weighted, answer_of, surface_of}
use Rattle.mill_program.specs.Heights.{answer_parameter, share_value, with_shares, HasAnswers, HeightLaw}
use Rattle.mill_program.proofs.ProbeLaws.{axis_across, axis_up, rest_within, part_high, shares_whole, probes_within}

-- ---- products and sums in the machine's range

whole_rest : (z : ℤ) → int_rem_euclid (z *ℤ pos 1000000000000) (pos 1000000000000) ≡ pos 0
whole_rest (pos n) = ap pos (mul-mod_left n 1000000000000)
whole_rest (negsuc n) = int_rem_euclid_is (negsuc n *ℤ pos 1000000000000) (pos 1000000000000) 1000000000000 (suc n) 0 (omega arith) refl (omega (arith, ints))

same_quotient : (m q r : ℤ) → (q *ℤ pos 1000000000000) +ℤ r ≡ m *ℤ pos 1000000000000 → unsigned_abs r < 1000000000000 → q ≡ m
same_quotient m q (pos r) e h = omega (arith, ints)
same_quotient m q (negsuc r) e h = omega (arith, ints)

whole_quotient : (z : ℤ) → int_div (z *ℤ pos 1000000000000) (pos 1000000000000) ≡ z
whole_quotient z =
    same_quotient z (int_div (z *ℤ pos 1000000000000) (pos 1000000000000)) (int_rem (z *ℤ pos 1000000000000) (pos 1000000000000))
    (quot-rem (z *ℤ pos 1000000000000) (pos 1000000000000)) (rem_below (z *ℤ pos 1000000000000) (pos 1000000000000) (omega arith))

small_enough : (n : ℕ) → n ≤ 10 ^ 18 → nat_lt (10 ^ 18) n ≡ false
small_enough n h = grind (arith, common_steps)

limited_ok : (z : ℤ) → unsigned_abs z ≤ 10 ^ 18 → limited z ≡ Ok z
limited_ok z h = ap (λ (b : Bool). cond b (Err OutOfRange) (Ok z)) (small_enough (unsigned_abs z) h)

units : (a b : ℤ) → (a *ℤ pos 1000000) *ℤ (b *ℤ pos 1000000) ≡ (a *ℤ b) *ℤ pos 1000000000000
units a b = ring (a ∷ b ∷ []) (mul (mul (var 0) (num (pos 1000000))) (mul (var 1) (num (pos 1000000)))) (mul (mul (var 0) (var 1)) (num (pos 1000000000000))) refl

-- a number of six decimals times one of six decimals is exact
pub product_ok : (a b : ℤ) → unsigned_abs (a *ℤ b) ≤ 10 ^ 18 → product_of (a *ℤ pos 1000000) (b *ℤ pos 1000000) ≡ Ok (a *ℤ b)
product_ok a b h =
    ap (λ (z : ℤ). cond (is_whole one z) (limited (int_div z (pos one))) (Err FinePosition)) (units a b)
    ∙ ap (λ (t : ℤ). cond (int_eq t (pos 0)) (limited (int_div ((a *ℤ b) *ℤ pos 1000000000000) (pos 1000000000000))) (Err FinePosition)) (whole_rest (a *ℤ b))
    ∙ ap limited (whole_quotient (a *ℤ b)) ∙ limited_ok (a *ℤ b) h

-- ---- one share after another

-- what the parameter of a probe has, within the range of answers
pub record IsTold (ps : Parameters) (answers : List ℤ) (k : ℕ) : Type 0 where
  pub value : ps (answer_parameter k) ≡ answer_of answers k *ℤ pos 1000000
  pub small : unsigned_abs (answer_of answers k) ≤ 10000000

abbrev AreTold : Parameters → List ℤ → List ℕ → Type 0
AreTold ps answers [] = Unit {0}
AreTold ps answers (k ∷ ks) = IsTold ps answers k × AreTold ps answers ks

share_small : (n : ℕ) (a : ℤ) → unsigned_abs a ≤ 10000000 → unsigned_abs (pos n *ℤ a) ≤ n * 10000000
share_small n a h =
    let size : unsigned_abs (pos n *ℤ a) ≡ n * unsigned_abs a = unsigned_abs-mul (pos n) a in
    let most : n * unsigned_abs a ≤ n * 10000000 = mul-le-mul_left n h in
    omega arith

share_ok : (ps : Parameters) (answers : List ℤ) (n k : ℕ) → IsTold ps answers k → n * 10000000 ≤ 10 ^ 18 → value_of ps (share_value (pos n) k) ≡ Ok (pos n *ℤ answer_of answers k)
share_ok ps answers n k told few =
    brackets_value ps (Product (Num (pos n *ℤ pos 1000000)) (Param (answer_parameter k)))
    ∙ ap (λ (p : ℤ). product_of (pos n *ℤ pos 1000000) p) told.value
    ∙ product_ok (pos n) (answer_of answers k) (let h = share_small n (answer_of answers k) told.small in omega arith)

pub sum_small : (x y : ℤ) (m n : ℕ) → unsigned_abs x ≤ m → unsigned_abs y ≤ n → unsigned_abs (x +ℤ y) ≤ m + n
sum_small x y m n h k = omega (arith, ints, h, k)

sum_ok : (ps : Parameters) (v w : Value) (x y : ℤ) → value_of ps v ≡ Ok x → value_of ps w ≡ Ok y → unsigned_abs (x +ℤ y) ≤ 10 ^ 18 → value_of ps (bracketed (Sum v w)) ≡ Ok (x +ℤ y)
sum_ok ps v w x y ev ew h =
    brackets_value ps (Sum v w)
    ∙ ap (λ r. r >>= (λ x. value_of ps w >>= (λ y. limited (x +ℤ y)))) ev
    ∙ ap (λ r. r >>= (λ y. limited (x +ℤ y))) ew
    ∙ limited_ok (x +ℤ y) h

sum_from : (a : ℕ) (xs : List ℕ) → fold ◌+◌ a xs ≡ a + fold ◌+◌ 0 xs
sum_from a [] = omega arith
sum_from a (x ∷ xs) = let l = sum_from (a + x) xs in let r = sum_from (0 + x) xs in omega (arith, l, r)

sum_is : (x : ℕ) (xs : List ℕ) → sum (x ∷ xs) ≡ x + sum xs
sum_is x xs = let l = sum_from (0 + x) xs in omega (arith, l)

add_assoc_ℤ : (x y z : ℤ) → (x +ℤ y) +ℤ z ≡ x +ℤ (y +ℤ z)
add_assoc_ℤ x y z = omega (arith, ints)

pub nothing_more : (x : ℤ) → x ≡ x +ℤ pos 0
nothing_more x = omega (arith, ints)

-- the shares come to their weighted sum
pub shares_ok : (ps : Parameters) (answers : List ℤ) (parts ks : List ℕ) (v : Value) (x : ℤ) → AreTold ps answers ks → value_of ps v ≡ Ok x → unsigned_abs x + sum parts * 10000000 ≤ 10 ^ 18
    → value_of ps (with_shares v (map pos parts) ks) ≡ Ok (x +ℤ weighted (map pos parts) (map (answer_of answers) ks))
shares_ok ps answers [] ks v x told e few = e ∙ ap Ok (nothing_more x)
shares_ok ps answers (n ∷ parts) [] v x told e few = e ∙ ap Ok (nothing_more x)
shares_ok ps answers (n ∷ parts) (k ∷ ks) v x told e few =
    let a = answer_of answers k in
    let split : (n + sum parts) * 10000000 ≡ n * 10000000 + sum parts * 10000000 = add-mul n (sum parts) 10000000 in
    let few : unsigned_abs x + (n + sum parts) * 10000000 ≤ 10 ^ 18 = subst (λ (s : ℕ). unsigned_abs x + s * 10000000 ≤ 10 ^ 18) (sum_is n parts) few in
    let share = share_small n a told.0.small in
    let most : unsigned_abs (x +ℤ pos n *ℤ a) ≤ unsigned_abs x + n * 10000000 = sum_small x (pos n *ℤ a) (unsigned_abs x) (n * 10000000) (omega arith) share in
    let here = sum_ok ps v (share_value (pos n) k) x (pos n *ℤ a) e (share_ok ps answers n k told.0 (omega arith)) (omega arith) in
    shares_ok ps answers parts ks (bracketed (Sum v (share_value (pos n) k))) (x +ℤ pos n *ℤ a) told.1 here (omega arith)
    ∙ ap Ok (add_assoc_ℤ x (pos n *ℤ a) (weighted (map pos parts) (map (answer_of answers) ks)))

-- ---- where a place stands

least_of : (a b : ℕ) → min a b ≤ b
least_of a b = min-le_right a b

way_high : (from : ℤ) (step count : ℕ) (at : ℤ) → way_in from step count at ≤ (count - 1) * step
unfolding way_in
way_high from step count at = by_test (int_le at from)
  where
    by_test : (b : Bool) → cond b 0 (min (unsigned_abs (at -ℤ from)) ((count - 1) * step)) ≤ (count - 1) * step
    by_test true = omega arith
    by_test false = least_of (unsigned_abs (at -ℤ from)) ((count - 1) * step)

field_low : (way step count : ℕ) → 2 ≤ count → field_of way step count + 2 ≤ count
field_low way step count h = let m = least_of (way / step) (count - 2) in omega arith

part_most : (rest step : ℕ) → 1 ≤ step → rest ≤ step → part_of rest step ≤ 1000
unfolding part_of rounded
part_most rest step low h =
    let same : 2 * (1000 * rest) ≡ 2000 * rest = omega arith in
    subst (λ (k : ℕ). (k + step) / (2 * step) ≤ 1000) (sym same) (part_high rest step low h)

pub record IsLocated (count : ℕ) (a : Along) : Type 0 where
  pub field : a.field + 2 ≤ count
  pub part : a.part ≤ 1000

pub located_is : (from step : ℤ) (count : ℕ) (at : ℤ) → IsAxis (unsigned_abs step) count → IsLocated count (located from step count at)
located_is from step count at h =
    let size = unsigned_abs step in
    let way = way_in from size count at in
    record {
      field = field_low way size count h.some;
      part = part_most (way - field_of way size count * size) size h.low (rest_within way size count h.low h.some (way_high from size count at));
    }

-- ---- answers

small_answers : (range : ℤ) (answers : List ℤ) → range ≤ℤ pos 10000000 → All (λ a. pos (unsigned_abs a) ≤ℤ range) answers → (k : ℕ) → unsigned_abs (answer_of answers k) ≤ 10000000
small_answers range answers high all k = by_found (slice_get answers k) refl
  where
    by_found : (o : Option ℤ) → slice_get answers k ≡ o → unsigned_abs (unwrap_or o (pos 0)) ≤ 10000000
    by_found None e = omega arith
    by_found (Some a) e =
        let inside = slice_get_within answers k a e in
        let at = all k (pos 0) inside in
        let same : slice_index_or answers k (pos 0) ≡ a = sym (unwrap_or-slice_get answers k (pos 0)) ∙ ap (λ o. unwrap_or o (pos 0)) e in
        let here : pos (unsigned_abs a) ≤ℤ range = subst (λ (z : ℤ). pos (unsigned_abs z) ≤ℤ range) same at in
        omega (arith, ints, here, high)

told : (g : ProbeGrid) (answers : List ℤ) (ps : Parameters) → IsGrid g → FitGrid g answers → HasAnswers g answers ps → (k : ℕ) → k < g.nx * g.ny → IsTold ps answers k
told g answers ps grid fit has k h = record { value = has k h; small = small_answers g.range answers grid.range_high fit.within k }

height_small : (z : ℤ) → IsCoordinate z → unsigned_abs (z *ℤ pos 1000000) + 1000000 * 10000000 ≤ 10 ^ 18
height_small z h = omega (arith, ints, h.low, h.high)

-- ---- the law

pub height_law : HeightLaw
unfolding weights_of surface_of
height_law g answers ps c grid fit z has =
    let across = located g.x0 g.dx g.nx c.x in
    let up = located g.y0 g.dy g.ny c.y in
    let a = located_is g.x0 g.dx g.nx c.x (axis_across g grid) in
    let u = located_is g.y0 g.dy g.ny c.y (axis_up g grid) in
    let first = up.field * g.nx + across.field in
    let last : first + g.nx + 1 < g.nx * g.ny = probes_within g.nx g.ny across.field up.field a.field u.field in
    let whole : sum (shares across.part up.part) ≡ 1000000 = shares_whole across.part up.part a.part u.part in
    let each = told g answers ps grid fit has in
    shares_ok ps answers (shares across.part up.part) (first ∷ (first + 1) ∷ (first + g.nx) ∷ (first + g.nx + 1) ∷ []) (Num (c.z *ℤ pos 1000000)) (c.z *ℤ pos 1000000)
    (each first (omega arith), (each (first + 1) (omega arith), (each (first + g.nx) (omega arith), (each (first + g.nx + 1) (omega arith), tt))))
    refl (subst (λ (s : ℕ). unsigned_abs (c.z *ℤ pos 1000000) + s * 10000000 ≤ 10 ^ 18) (sym whole) (height_small c.z z))
