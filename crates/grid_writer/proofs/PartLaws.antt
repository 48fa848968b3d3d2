-- The text of the parts of a line.
use Rattle.std.proofs.Common.{◌≡◌, refl, ℕ, zero, suc, ◌+◌, ◌*◌, ◌/◌, ◌<◌, ◌≤◌, ℤ, pos, ◌*ℤ◌, List, [], ◌∷◌, ◌++◌, length, drop, get_or, map, Bool, true, false, ap, sym, ◌∙◌, arith, append_assoc, add-one, decimal}
use Rattle.std.specs.Prelude.{unsigned_abs}
use Rattle.std.specs.List.{flat_map, join_with_byte}
use Rattle.std.proofs.lemmas.Int.{ints}
use Rattle.std.proofs.lemmas.List.{append-nil}
use Rattle.fixed_num.specs.Fixed.{fixed6}
use Rattle.rs274_sim.specs.declared.line.Value.{Value, Num, Param, Expr as bracketed}
use Rattle.rs274_sim.specs.declared.line.Expr.{Expr, Sum, Product}
use Rattle.rs274_sim.specs.Spelling.{has_decimals, millionths}
use Rattle.rs274_sim.proofs.TextLaws.{millionths_of, size_times}
use Rattle.mill_program.specs.Heights.{answer_parameter, share_value, with_shares}
use Rattle.mill_program.specs.Lines.{words}
use Rattle.grid_writer.specs.Spelling.{inner_text, expression_text, value_text, number_text, tenths_text, word_over, line_bytes}
use Rattle.grid_writer.specs.Parts.{word_of, share_text, shares_text}
use Rattle.grid_writer.specs.declared.parts.Part.{Part}

-- ---- numbers

pub code_is : (n : ℕ) → pos (n * 1000000) *ℤ pos 1000000 ≡ pos (n * 1000000000000)
code_is n = omega (arith, ints)

pub feed_is : (f : ℤ) → (f *ℤ pos 1000) *ℤ pos 1000000 ≡ f *ℤ pos 1000000000
feed_is f = omega (arith, ints)

-- millionths with six decimals
pub fixed_is : (m : ℤ) → fixed6 (millionths (m *ℤ pos 1000000)) ≡ fixed6 m
fixed_is m = ap fixed6 (millionths_of m)

-- millionths as tenths
pub tenths_is : (m : ℤ) → tenths_text (unsigned_abs (m *ℤ pos 1000000) / 100000000000) ≡ tenths_text (unsigned_abs m / 100000)
tenths_is m = ap tenths_text (let e = size_times m 1000000 in omega (arith, e))

-- ---- heights

-- the text of brackets is that of what they hold
brackets_text : (e : Expr) → inner_text (bracketed e) ≡ expression_text e
unfolding Rattle.rs274_sim.specs.declared.line.Expr.TheBlock.hidden-the_row-Expr-0 denote.Hole.Carrier.hidden
brackets_text e = refl

value_brackets : (some : Bool) (e : Expr) → value_text some (bracketed e) ≡ 91 ∷ expression_text e ++ 93 ∷ []
unfolding Rattle.rs274_sim.specs.declared.line.Expr.TheBlock.hidden-the_row-Expr-0 denote.Hole.Carrier.hidden
value_brackets some e = refl

-- one more share
with_share : (v : Value) (w : ℤ) (k : ℕ) → expression_text (Sum v (share_value w k)) ≡ inner_text v ++ share_text w k
with_share v w k =
    ap (λ t. inner_text v ++ 43 ∷ t) (brackets_text (Product (Num (w *ℤ pos 1000000)) (Param (answer_parameter k))) ∙ ap (λ t. t ++ 42 ∷ 35 ∷ decimal (answer_parameter k)) (fixed_is w))

-- an expression with more shares
more_shares : (some : Bool) (e : Expr) (ws : List ℤ) (ks : List ℕ) → value_text some (with_shares (bracketed e) ws ks) ≡ 91 ∷ expression_text e ++ shares_text ws ks ++ 93 ∷ []
more_shares some e [] ks = value_brackets some e ∙ ap (λ t. 91 ∷ t ++ 93 ∷ []) (sym (append-nil (expression_text e)))
more_shares some e (w ∷ ws) [] = value_brackets some e ∙ ap (λ t. 91 ∷ t ++ 93 ∷ []) (sym (append-nil (expression_text e)))
more_shares some e (w ∷ ws) (k ∷ ks) =
    more_shares some (Sum (bracketed e) (share_value w k)) ws ks
    ∙ ap (λ t. 91 ∷ (t ++ shares_text ws ks) ++ 93 ∷ []) (with_share (bracketed e) w k ∙ ap (λ t. t ++ share_text w k) (brackets_text e))
    ∙ ap (λ t. 91 ∷ t ++ 93 ∷ []) (append_assoc (expression_text e) (share_text w k) (shares_text ws ks))

-- a number with at least one share
pub height_is : (some : Bool) (z w : ℤ) (ws : List ℤ) (k : ℕ) (ks : List ℕ)
    → value_text some (with_shares (Num (z *ℤ pos 1000000)) (w ∷ ws) (k ∷ ks)) ≡ 91 ∷ fixed6 z ++ shares_text (w ∷ ws) (k ∷ ks) ++ 93 ∷ []
height_is some z w ws k ks =
    more_shares some (Sum (Num (z *ℤ pos 1000000)) (share_value w k)) ws ks
    ∙ ap (λ t. 91 ∷ (t ++ shares_text ws ks) ++ 93 ∷ []) (with_share (Num (z *ℤ pos 1000000)) w k ∙ ap (λ t. t ++ share_text w k) (fixed_is z))
    ∙ ap (λ t. 91 ∷ t ++ 93 ∷ []) (append_assoc (fixed6 z) (share_text w k) (shares_text ws ks))

-- the same of lists of four
pub four_shares : (z : ℤ) (ws : List ℤ) (ks : List ℕ) → length ws ≡ 4 → length ks ≡ 4
    → value_text true (with_shares (Num (z *ℤ pos 1000000)) ws ks) ≡ 91 ∷ fixed6 z ++ shares_text ws ks ++ 93 ∷ []
four_shares z [] ks h j = absurd (omega (arith, h))
four_shares z (w ∷ ws) [] h j = absurd (omega (arith, j))
four_shares z (w ∷ ws) (k ∷ ks) h j = height_is true z w ws k ks

-- one share behind others
next_share : (ws : List ℤ) (ks : List ℕ) (i : ℕ) → i < length ws → i < length ks
    → shares_text (drop i ws) (drop i ks) ≡ share_text (get_or ws i (pos 0)) (get_or ks i 0) ++ shares_text (drop (suc i) ws) (drop (suc i) ks)
next_share [] ks i h j = absurd (omega (arith, h))
next_share (v ∷ ws) [] i h j = absurd (omega (arith, j))
next_share (v ∷ ws) (l ∷ ks) zero h j = refl
next_share (v ∷ ws) (l ∷ ks) (suc i) h j = next_share ws ks i (omega (arith, h)) (omega (arith, j))

-- the same behind other bytes
pub more_share : (ws : List ℤ) (ks : List ℕ) (i : ℕ) (before : List ℕ) → i < length ws → i < length ks
    → (before ++ share_text (get_or ws i (pos 0)) (get_or ks i 0)) ++ shares_text (drop (i + 1) ws) (drop (i + 1) ks) ≡ before ++ shares_text (drop i ws) (drop i ks)
more_share ws ks i before h j =
    rw add-one (append_assoc before (share_text (get_or ws i (pos 0)) (get_or ks i 0)) (shares_text (drop (suc i) ws) (drop (suc i) ks)) ∙ ap (λ t. before ++ t) (sym (next_share ws ks i h j)))

-- none behind the last
pub none_left : (ws : List ℤ) (ks : List ℕ) (i : ℕ) → length ws ≤ i → shares_text (drop i ws) ks ≡ []
none_left [] ks zero h = refl
none_left [] ks (suc i) h = refl
none_left (w ∷ ws) ks zero h = absurd (omega (arith, h))
none_left (w ∷ ws) ks (suc i) h = none_left ws ks i (omega (arith, h))

-- ---- words and lines

-- four texts behind others
pub joined_four : (before x y z w : List ℕ) → (((before ++ x) ++ y) ++ z) ++ w ≡ before ++ (x ++ ((y ++ z) ++ w))
joined_four before x y z w =
    append_assoc ((before ++ x) ++ y) z w ∙ append_assoc (before ++ x) y (z ++ w) ∙ append_assoc before x (y ++ (z ++ w)) ∙ ap (λ t. before ++ (x ++ t)) (sym (append_assoc y z w))

-- a plain word
pub plain_fixed : (letter : ℕ) (m : ℤ) → has_decimals (record { letter = letter; value = Num (pos 0) }) ≡ true → word_over (record { letter = letter; value = Num (m *ℤ pos 1000000) }) ≡ letter ∷ fixed6 m
plain_fixed letter m h = ap (λ b. letter ∷ number_text b (m *ℤ pos 1000000)) h ∙ ap (λ t. letter ∷ t) (fixed_is m)

pub plain_tenths : (letter : ℕ) (m : ℤ) → has_decimals (record { letter = letter; value = Num (pos 0) }) ≡ false
    → word_over (record { letter = letter; value = Num (m *ℤ pos 1000000) }) ≡ letter ∷ tenths_text (unsigned_abs m / 100000)
plain_tenths letter m h = ap (λ b. letter ∷ number_text b (m *ℤ pos 1000000)) h ∙ ap (λ t. letter ∷ t) (tenths_is m)

-- a first text, and a space before each further word
spaced : (t : List ℕ) (rest : List Part) → join_with_byte 32 (t ∷ map word_over (map word_of rest) ++ []) ≡ t ++ flat_map (λ p. 32 ∷ word_over (word_of p)) rest
spaced t [] = sym (append-nil t)
spaced t (p ∷ rest) = ap (λ r. t ++ 32 ∷ r) (spaced (word_over (word_of p)) rest)

-- a line of some words
pub line_is : (first : Part) (rest : List Part)
    → line_bytes (words (word_of first ∷ map word_of rest)) ≡ (word_over (word_of first) ++ flat_map (λ p. 32 ∷ word_over (word_of p)) rest) ++ 10 ∷ []
line_is first rest = ap (λ t. t ++ 10 ∷ []) (spaced (word_over (word_of first)) rest)
