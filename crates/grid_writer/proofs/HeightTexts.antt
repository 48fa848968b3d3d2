-- The text of a height over a surface stands for it.
use Rattle.std.proofs.Common.{◌≡◌, refl, ℕ, ◌+◌, ◌*◌, ◌≤◌, ℤ, pos, ◌*ℤ◌, List, [], ◌∷◌, ◌++◌, Some, length, ap, arith, inl, inr, append_assoc, length-append, decimal}
use Rattle.std.specs.Prelude.{unsigned_abs}
use Rattle.std.specs.List.{AllByRecursion}
use Rattle.fixed_num.specs.Fixed.{fixed6}
use Rattle.rs274_sim.specs.declared.line.Value.{Value, Num, Param, Expr as bracketed}
use Rattle.rs274_sim.specs.declared.line.Expr.{Sum}
use Rattle.rs274_sim.specs.Text.{Operation, plus, times, chain_value, SpellsSteps, SpellsValue}
use Rattle.rs274_sim.proofs.TextLaws.{number_is_value}
use Rattle.mill_program.specs.Heights.{answer_parameter, share_value, with_shares}
use Rattle.grid_writer.specs.Parts.{share_text, shares_text}
use Rattle.grid_writer.proofs.NumberTexts.{IsVisible, visible_append, visible_decimal, fixed_text, is_parameter, short_parameter}

-- a weight that has six decimals
pub record IsWeight (w : ℤ) : Type 0 where
  pub small : unsigned_abs w ≤ 1000000000000

-- a probe whose answer has a parameter
pub record IsProbe (k : ℕ) : Type 0 where
  pub few : k ≤ 900

-- the operations of some shares
abbrev share_steps : List ℤ → List ℕ → List (Operation × Value)
share_steps [] ks = []
share_steps (w ∷ ws) [] = []
share_steps (w ∷ ws) (k ∷ ks) = (plus, Num (w *ℤ pos 1000000)) ∷ (times, Param (answer_parameter k)) ∷ share_steps ws ks

-- the chain of these operations is the value with the shares
chain_is : (left term : Value) (ws : List ℤ) (ks : List ℕ) → with_shares (bracketed (Sum left term)) ws ks ≡ chain_value (Some (left, plus)) term (share_steps ws ks)
chain_is left term [] ks = refl
chain_is left term (w ∷ ws) [] = refl
chain_is left term (w ∷ ws) (k ∷ ks) = chain_is (bracketed (Sum left term)) (share_value w k) ws ks

spells_parameter : (k : ℕ) → k ≤ 900 → SpellsValue 15 (35 ∷ decimal (answer_parameter k)) (Param (answer_parameter k))
spells_parameter k few = inl (inr (decimal (answer_parameter k), answer_parameter k, is_parameter (answer_parameter k) (omega arith) (omega (arith, few)), refl, refl))

-- the text of the shares spells the operations
spells_shares : (ws : List ℤ) (ks : List ℕ) → AllByRecursion IsWeight ws → AllByRecursion IsProbe ks → SpellsSteps (SpellsValue 15) (shares_text ws ks) (share_steps ws ks)
spells_shares [] ks h j = refl
spells_shares (w ∷ ws) [] h j = refl
spells_shares (w ∷ ws) (k ∷ ks) h j =
    let parameter = 35 ∷ decimal (answer_parameter k) in
    let more = shares_text ws ks in (
      fixed6 w,
      42 ∷ parameter ++ more,
      ap (λ t. 43 ∷ t) (append_assoc (fixed6 w) (42 ∷ parameter) more),
      number_is_value 15 (fixed6 w) (Num (w *ℤ pos 1000000)) (fixed_text w h.0.small).spells,
      (parameter, more, refl, spells_parameter k j.0.few, spells_shares ws ks h.1 j.1),
    )

visible_share : (w : ℤ) (k : ℕ) → IsWeight w → IsProbe k → AllByRecursion IsVisible (share_text w k)
visible_share w k h j = (
  record { low = omega arith },
  visible_append (fixed6 w) (42 ∷ 35 ∷ decimal (answer_parameter k)) (fixed_text w h.small).visible
      (record { low = omega arith }, (record { low = omega arith }, visible_decimal (answer_parameter k) (omega (arith, j.few)))),
)

visible_shares : (ws : List ℤ) (ks : List ℕ) → AllByRecursion IsWeight ws → AllByRecursion IsProbe ks → AllByRecursion IsVisible (shares_text ws ks)
visible_shares [] ks h j = tt
visible_shares (w ∷ ws) [] h j = tt
visible_shares (w ∷ ws) (k ∷ ks) h j = visible_append (share_text w k) (shares_text ws ks) (visible_share w k h.0 j.0) (visible_shares ws ks h.1 j.1)

short_share : (w : ℤ) (k : ℕ) → IsWeight w → IsProbe k → length (share_text w k) ≤ 26
short_share w k h j =
    let number = (fixed_text w h.small).short in
    let parameter = short_parameter (answer_parameter k) (omega (arith, j.few)) in
    let all = length-append (fixed6 w) (42 ∷ 35 ∷ decimal (answer_parameter k)) in
    omega arith

short_shares : (ws : List ℤ) (ks : List ℕ) → AllByRecursion IsWeight ws → AllByRecursion IsProbe ks → length (shares_text ws ks) ≤ 26 * length ws
short_shares [] ks h j = omega arith
short_shares (w ∷ ws) [] h j = omega arith
short_shares (w ∷ ws) (k ∷ ks) h j =
    let here = short_share w k h.0 j.0 in
    let more = short_shares ws ks h.1 j.1 in
    let all = length-append (share_text w k) (shares_text ws ks) in
    omega arith

-- ---- heights

-- the text of a height and at least one share, in brackets
abbrev pub height_text : ℤ → List ℤ → List ℕ → List ℕ
height_text z ws ks = 91 ∷ fixed6 z ++ shares_text ws ks ++ 93 ∷ []

pub spells_height : (z w : ℤ) (ws : List ℤ) (k : ℕ) (ks : List ℕ) → unsigned_abs z ≤ 1000000000000 → AllByRecursion IsWeight (w ∷ ws) → AllByRecursion IsProbe (k ∷ ks)
    → SpellsValue 16 (height_text z (w ∷ ws) (k ∷ ks)) (with_shares (Num (z *ℤ pos 1000000)) (w ∷ ws) (k ∷ ks))
spells_height z w ws k ks small h j =
    inr (record {
      front = fixed6 z;
      rest = shares_text (w ∷ ws) (k ∷ ks);
      first = Num (z *ℤ pos 1000000);
      step = (plus, Num (w *ℤ pos 1000000));
      steps = (times, Param (answer_parameter k)) ∷ share_steps ws ks;
      spelled = refl;
      begins = number_is_value 15 (fixed6 z) (Num (z *ℤ pos 1000000)) (fixed_text z small).spells;
      goes_on = spells_shares (w ∷ ws) (k ∷ ks) h j;
      value = chain_is (Num (z *ℤ pos 1000000)) (share_value w k) ws ks;
    })

pub visible_height : (z : ℤ) (ws : List ℤ) (ks : List ℕ) → unsigned_abs z ≤ 1000000000000 → AllByRecursion IsWeight ws → AllByRecursion IsProbe ks → AllByRecursion IsVisible (height_text z ws ks)
visible_height z ws ks small h j = (
  record { low = omega arith },
  visible_append (fixed6 z ++ shares_text ws ks) (93 ∷ []) (visible_append (fixed6 z) (shares_text ws ks) (fixed_text z small).visible (visible_shares ws ks h j)) (record { low = omega arith }, tt),
)

pub short_height : (z : ℤ) (ws : List ℤ) (ks : List ℕ) → unsigned_abs z ≤ 1000000000000 → AllByRecursion IsWeight ws → AllByRecursion IsProbe ks
    → length (height_text z ws ks) ≤ 21 + 26 * length ws
short_height z ws ks small h j =
    let number = (fixed_text z small).short in
    let shares = short_shares ws ks h j in
    let all = length-append (fixed6 z ++ shares_text ws ks) (93 ∷ []) in
    let inner = length-append (fixed6 z) (shares_text ws ks) in
    omega arith
