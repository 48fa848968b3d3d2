-- All that is written is read.
use Rattle.std.proofs.Common.{◌≡◌, refl, ℕ, ◌+◌, ◌<◌, ◌≤◌, List, [], ◌∷◌, ◌++◌, true, false, cond, Option, Some, None, Ok, length, arith, ap, sym, ◌∙◌, subst, append_assoc, inl, inr}
use Rattle.std.specs.Prelude.{◌==◌, map, max, IsSome}
use Rattle.std.proofs.lemmas.Grind.{common_steps}
use Rattle.std.proofs.lemmas.List.{append-nil, length-map}
use Rattle.board_base.specs.Binds.{◌>>=◌}
use Rattle.macro_eval.specs.declared.steps.Step.{Step}
use Rattle.macro_eval.specs.Pieces.{Piece, word, mark}
use Rattle.macro_eval.specs.Words.{operand_of}
use Rattle.macro_eval.specs.Trees.{Expression, steps_in}
use Rattle.macro_eval.specs.Grammar.{is_sign, is_scale, Written, single, bracket, signed, pair, Rank, sum, product, factor, Fits, depth, spelling, meant, IsExpression}
use Rattle.macro_eval.specs.Reading.{Held, at_start, took, took_all, ended}
use Rattle.macro_eval.proofs.Zippers.{Waiting, none, waits, Begun, wanted, done, nothing, signed_all, paired, product_of, sum_of, level_of, shown, signed_more}
use Rattle.macro_eval.proofs.ZipSteps.{took_word, took_open, more_signs, took_sign, took_close, sum_on, took_term, product_on, took_factor, ended_there, at_scale}

-- what is begun behind something written, and its last operand
abbrev pub level_after : Begun → Written → Begun
level_after l (single bytes) = l
level_after l (bracket w) = l
level_after l (signed b w) = level_after (more_signs l b) w
level_after l (pair v b w) = level_after (cond (is_sign b) (record { in_sum = waits v b; in_product = none; signs = [] }) (record { in_sum = l.in_sum; in_product = waits v b; signs = [] })) w

abbrev pub last_of : Written → Written
last_of (single bytes) = single bytes
last_of (bracket w) = bracket w
last_of (signed b w) = last_of w
last_of (pair v b w) = last_of w

-- what a factor leaves begun
pub record LeavesFactor (l : Begun) (w : Written) : Type 0 where
  pub in_sum : (level_after l w).in_sum ≡ l.in_sum
  pub in_product : (level_after l w).in_product ≡ l.in_product
  pub all : signed_all (level_after l w).signs (last_of w) ≡ signed_all l.signs w

factor_left : (l : Begun) (w : Written) → Fits factor w → LeavesFactor l w
factor_left l (single bytes) h = record { in_sum = refl; in_product = refl; all = refl }
factor_left l (bracket w) h = record { in_sum = refl; in_product = refl; all = refl }
factor_left l (signed b w) h =
    let rest = factor_left (more_signs l b) w h.1 in
    record { in_sum = rest.in_sum; in_product = rest.in_product; all = rest.all ∙ signed_more l.signs b w }
factor_left l (pair v b w) h = absurd h

-- what a product leaves begun where none is begun before it
pub record LeavesProduct (l : Begun) (w : Written) : Type 0 where
  pub in_sum : (level_after l w).in_sum ≡ l.in_sum
  pub all : product_of (level_after l w) (last_of w) ≡ w

-- a mark of a product is no sign
no_sign : (b : ℕ) → is_scale b ≡ true → is_sign b ≡ false
no_sign b e = at_scale (λ c. is_sign c ≡ false) b e refl refl refl

abbrev pub in_sum_of : Waiting → Begun
in_sum_of q = record { in_sum = q; in_product = none; signs = [] }

from_factor : (q : Waiting) (w : Written) → Fits factor w → LeavesProduct (in_sum_of q) w
from_factor q w h =
    let left = factor_left (in_sum_of q) w h in
    record { in_sum = left.in_sum; all = ap (λ p. paired p (signed_all (level_after (in_sum_of q) w).signs (last_of w))) left.in_product ∙ left.all }

product_left : (q : Waiting) (w : Written) → Fits product w → LeavesProduct (in_sum_of q) w
product_left q (single bytes) h = from_factor q (single bytes) h
product_left q (bracket w) h = from_factor q (bracket w) h
product_left q (signed b w) h = from_factor q (signed b w) h
product_left q (pair v b w) h =
    let here : level_after (in_sum_of q) (pair v b w) ≡ level_after (record { in_sum = q; in_product = waits v b; signs = [] }) w =
    ap (λ t. level_after (cond t (record { in_sum = waits v b; in_product = none; signs = [] }) (record { in_sum = q; in_product = waits v b; signs = [] })) w) (no_sign b h.0) in
    let left = factor_left (record { in_sum = q; in_product = waits v b; signs = [] }) w h.2 in
    record {
      in_sum = ap (λ l. l.in_sum) here ∙ left.in_sum;
      all = ap (λ l. product_of l (last_of w)) here
          ∙ ap (λ p. paired p (signed_all (level_after (record { in_sum = q; in_product = waits v b; signs = [] }) w).signs (last_of w))) left.in_product
          ∙ ap (pair v b) left.all;
    }

from_product : (w : Written) → LeavesProduct nothing w → sum_of (level_after nothing w) (last_of w) ≡ w
from_product w left = ap (λ q. paired q (product_of (level_after nothing w) (last_of w))) left.in_sum ∙ left.all

-- a sum leaves all of itself begun
pub sum_left : (w : Written) → Fits sum w → sum_of (level_after nothing w) (last_of w) ≡ w
sum_left (single bytes) h = from_product (single bytes) (product_left none (single bytes) h)
sum_left (bracket w) h = from_product (bracket w) (product_left none (bracket w) h)
sum_left (signed b w) h = from_product (signed b w) (product_left none (signed b w) h)
sum_left (pair v b w) h = elim h as (λ _. sum_of (level_after nothing (pair v b w)) (last_of (pair v b w)) ≡ pair v b w) [
  | inl k ↦ at_pair v b w k
  | inr k ↦ from_product (pair v b w) (product_left none (pair v b w) k)
]
  where
    at_pair : (v : Written) (b : ℕ) (w : Written) → (is_sign b ≡ true) × Fits sum v × Fits product w → sum_of (level_after nothing (pair v b w)) (last_of (pair v b w)) ≡ pair v b w
    at_pair v b w k =
        let here : level_after nothing (pair v b w) ≡ level_after (in_sum_of (waits v b)) w =
        ap (λ t. level_after (cond t (record { in_sum = waits v b; in_product = none; signs = [] }) (record { in_sum = none; in_product = waits v b; signs = [] })) w) k.0 in
        let left = product_left (waits v b) w k.2 in
        ap (λ l. sum_of l (last_of w)) here ∙ ap (λ q. paired q (product_of (level_after (in_sum_of (waits v b)) w) (last_of w))) left.in_sum ∙ ap (pair v b) left.all

some_of : {A : Type 0} (o : Option A) → IsSome o → (x : A) × (o ≡ Some x)
some_of None h = absurd cc
some_of (Some x) h = (x, refl)

not_deep : (n limit : ℕ) → n < limit → (n == limit) ≡ false
not_deep n limit h = grind (arith, common_steps)

-- a step that is taken, before others
pub goes_on : (limit : ℕ) (h : Held) (p : Piece) (n : Held) (ps : List Piece) → took limit h p ≡ Ok n → took_all limit h (p ∷ ps) ≡ took_all limit n ps
goes_on limit h p n ps e = ap (λ r. r >>= λ m. took_all limit m ps) e

-- where each rank may begin
abbrev entry : Rank → Waiting → Begun → Begun
entry sum q l = nothing
entry product q l = in_sum_of q
entry factor q l = l

-- reading something written leads from the one place to the other
abbrev Leads : ℕ → List Step → List Begun → Begun → Written → Type 0
Leads limit start outer l w = (ps : List Piece) → took_all limit (shown start (wanted outer l)) (spelling w ++ ps) ≡ took_all limit (shown start (done outer (level_after l w) (last_of w))) ps

leads_single : (limit : ℕ) (start : List Step) (outer : List Begun) (l : Begun) (bytes : List ℕ) → IsSome (operand_of bytes) → Leads limit start outer l (single bytes)
leads_single limit start outer l bytes h ps =
    let found = some_of (operand_of bytes) h in
    goes_on limit (shown start (wanted outer l)) (word bytes) (shown start (done outer l (single bytes))) ps (took_word limit start outer l bytes found.0 found.1)

leads_bracket : (limit : ℕ) (start : List Step) (outer : List Begun) (l : Begun) (w : Written) → Fits sum w → length outer < limit → Leads limit start (l ∷ outer) nothing w → Leads limit start outer l (bracket w)
leads_bracket limit start outer l w fits room inside ps =
    let free : (length (map level_of outer) == limit) ≡ false = not_deep (length (map level_of outer)) limit (subst (λ n. n < limit) (sym (length-map outer level_of)) room) in
    goes_on limit (shown start (wanted outer l)) (mark 40) (shown start (wanted (l ∷ outer) nothing)) (spelling w ++ mark 41 ∷ [] ++ ps) (took_open limit start outer l free)
    ∙ ap (λ rest. took_all limit (shown start (wanted (l ∷ outer) nothing)) rest) (append_assoc (spelling w) (mark 41 ∷ []) ps)
    ∙ inside (mark 41 ∷ ps)
    ∙ goes_on limit (shown start (done (l ∷ outer) (level_after nothing w) (last_of w))) (mark 41) (shown start (done outer l (bracket (sum_of (level_after nothing w) (last_of w))))) ps (took_close limit start outer l (level_after nothing w) (last_of w))
    ∙ ap (λ v. took_all limit (shown start (done outer l (bracket v))) ps) (sum_left w fits)

leads_signed : (limit : ℕ) (start : List Step) (outer : List Begun) (l : Begun) (b : ℕ) (w : Written) → is_sign b ≡ true → Leads limit start outer (more_signs l b) w → Leads limit start outer l (signed b w)
leads_signed limit start outer l b w sign inside ps =
    goes_on limit (shown start (wanted outer l)) (mark b) (shown start (wanted outer (more_signs l b))) (spelling w ++ ps) (took_sign limit start outer l b sign) ∙ inside ps

leads_product : (limit : ℕ) (start : List Step) (outer : List Begun) (q : Waiting) (v : Written) (b : ℕ) (w : Written) → is_scale b ≡ true → Fits product v
    → Leads limit start outer (in_sum_of q) v → ((k : Begun) → Leads limit start outer k w) → Leads limit start outer (in_sum_of q) (pair v b w)
leads_product limit start outer q v b w scale fits first second ps =
    let left = product_left q v fits in
    let next : product_on (level_after (in_sum_of q) v) (last_of v) b ≡ record { in_sum = q; in_product = waits v b; signs = [] } =
    λ t. record { in_sum = left.in_sum t; in_product = waits (left.all t) b; signs = [] } in
    let last : level_after (record { in_sum = q; in_product = waits v b; signs = [] }) w ≡ level_after (in_sum_of q) (pair v b w) =
    ap (λ t. level_after (cond t (record { in_sum = waits v b; in_product = none; signs = [] }) (record { in_sum = q; in_product = waits v b; signs = [] })) w) (sym (no_sign b scale)) in
    ap (λ rest. took_all limit (shown start (wanted outer (in_sum_of q))) rest) (append_assoc (spelling v) (mark b ∷ spelling w) ps)
    ∙ first (mark b ∷ spelling w ++ ps)
    ∙ goes_on limit (shown start (done outer (level_after (in_sum_of q) v) (last_of v))) (mark b) (shown start (wanted outer (product_on (level_after (in_sum_of q) v) (last_of v) b))) (spelling w ++ ps) (took_factor limit start outer (level_after (in_sum_of q) v) (last_of v) b scale)
    ∙ ap (λ k. took_all limit (shown start (wanted outer k)) (spelling w ++ ps)) next
    ∙ second (record { in_sum = q; in_product = waits v b; signs = [] }) ps
    ∙ ap (λ k. took_all limit (shown start (done outer k (last_of w))) ps) last

leads_sum : (limit : ℕ) (start : List Step) (outer : List Begun) (v : Written) (b : ℕ) (w : Written) → is_sign b ≡ true → Fits sum v
    → Leads limit start outer nothing v → Leads limit start outer (in_sum_of (waits v b)) w → Leads limit start outer nothing (pair v b w)
leads_sum limit start outer v b w sign fits first second ps =
    let next : sum_on (level_after nothing v) (last_of v) b ≡ in_sum_of (waits v b) = ap (λ u. in_sum_of (waits u b)) (sum_left v fits) in
    let last : level_after (in_sum_of (waits v b)) w ≡ level_after nothing (pair v b w) =
    ap (λ t. level_after (cond t (record { in_sum = waits v b; in_product = none; signs = [] }) (record { in_sum = none; in_product = waits v b; signs = [] })) w) (sym sign) in
    ap (λ rest. took_all limit (shown start (wanted outer nothing)) rest) (append_assoc (spelling v) (mark b ∷ spelling w) ps)
    ∙ first (mark b ∷ spelling w ++ ps)
    ∙ goes_on limit (shown start (done outer (level_after nothing v) (last_of v))) (mark b) (shown start (wanted outer (sum_on (level_after nothing v) (last_of v) b))) (spelling w ++ ps) (took_term limit start outer (level_after nothing v) (last_of v) b sign)
    ∙ ap (λ k. took_all limit (shown start (wanted outer k)) (spelling w ++ ps)) next
    ∙ second ps
    ∙ ap (λ k. took_all limit (shown start (done outer k (last_of w))) ps) last

left_deep : (n v w limit : ℕ) → n + max v w ≤ limit → n + v ≤ limit
left_deep n v w limit h = omega arith

right_deep : (n v w limit : ℕ) → n + max v w ≤ limit → n + w ≤ limit
right_deep n v w limit h = omega arith

-- what is written is read
pub leads : (limit : ℕ) (start : List Step) (rank : Rank) (w : Written) (outer : List Begun) (q : Waiting) (l : Begun) → Fits rank w → length outer + depth w ≤ limit → Leads limit start outer (entry rank q l) w
leads limit start rank (single bytes) outer q l fits room = leads_single limit start outer (entry rank q l) bytes fits
leads limit start rank (bracket w) outer q l fits room =
    leads_bracket limit start outer (entry rank q l) w fits (omega arith) (leads limit start sum w (entry rank q l ∷ outer) none nothing fits (omega arith))
leads limit start rank (signed b w) outer q l fits room =
    leads_signed limit start outer (entry rank q l) b w fits.0 (leads limit start factor w outer none (more_signs (entry rank q l) b) fits.1 room)
leads limit start sum (pair v b w) outer q l fits room =
    let deep_v = left_deep (length outer) (depth v) (depth w) limit room in
    let deep_w = right_deep (length outer) (depth v) (depth w) limit room in
    elim fits as (λ _. Leads limit start outer nothing (pair v b w)) [
      | inl k ↦ leads_sum limit start outer v b w k.0 k.1 (leads limit start sum v outer none nothing k.1 deep_v) (leads limit start product w outer (waits v b) nothing k.2 deep_w)
      | inr k ↦ leads_product limit start outer none v b w k.0 k.1 (leads limit start product v outer none nothing k.1 deep_v) (λ m. leads limit start factor w outer none m k.2 deep_w)
    ]
leads limit start product (pair v b w) outer q l fits room =
    let deep_v = left_deep (length outer) (depth v) (depth w) limit room in
    let deep_w = right_deep (length outer) (depth v) (depth w) limit room in
    leads_product limit start outer q v b w fits.0 fits.1 (leads limit start product v outer q nothing fits.1 deep_v) (λ m. leads limit start factor w outer none m fits.2 deep_w)
leads limit start factor (pair v b w) outer q l fits room = absurd fits

-- an expression is read whole
pub reads_all : (limit : ℕ) (start : List Step) (ps : List Piece) (e : Expression) → IsExpression limit ps e → (took_all limit (at_start start) ps >>= ended) ≡ Ok (start ++ steps_in e)
reads_all limit start ps e h =
    let w = h.written in
    let begins : at_start start ≡ shown start (wanted [] nothing) = ap (λ s. record { steps = s; outer = []; level = record { sum = None; product = None; odd = false }; wanted = true }) (sym (append-nil start)) in
    let whole : ps ≡ spelling w ++ [] = sym h.spelled ∙ sym (append-nil (spelling w)) in
    ap (λ k. took_all limit k ps >>= ended) begins
    ∙ ap (λ rest. took_all limit (shown start (wanted [] nothing)) rest >>= ended) whole
    ∙ ap (λ r. r >>= ended) (leads limit start sum w [] none nothing h.fits (omega (arith, h.deep)) [])
    ∙ ended_there start (level_after nothing w) (last_of w)
    ∙ ap (λ v. Ok (start ++ steps_in (meant false v))) (sum_left w h.fits)
    ∙ ap (λ x. Ok (start ++ steps_in x)) h.means
