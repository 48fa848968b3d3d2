-- The numbers of a group and the lines of tools, one more at a time.
use Rattle.std.proofs.Common.{◌≡◌, ℕ, ◌+◌, ◌<◌, suc, zero, List, [], ◌∷◌, ◌++◌, take, length, length-take, get_or, Some, arith, refl, ap, sym, ◌∙◌, slice_get, append_assoc, add-one, codes, decimal, flat_map}
use Rattle.std.specs.Prelude.{OnOk, Result, Ok, Err, ◌/◌, ℤ, pos, unsigned_abs}
use Rattle.std.specs.List.{enumerate_from}
use Rattle.std.proofs.lemmas.List.{append-nil}
use Rattle.drill_plan.proofs.SetLaws.{take_one}
use Rattle.drill_plan.specs.Limits.{counts_of}
use Rattle.drill_plan.specs.declared.plans.ToolPlan.{ToolPlan}
use Rattle.drill_plan.specs.declared.plans.DrillCounts.{DrillCounts}
use Rattle.fixed_num.specs.Rounding.{round_div_of}
use Rattle.mill_outputs.specs.Report.{numbers_text, digit, millimetres, drilled_text, tool_line, drill_text}

abbrev spaced : ℕ → List ℕ
spaced n = codes " " ++ decimal n

-- the pieces of a list up to an item, and the piece of that item
pieces_more : {X A : Type 0} (f : X → List A) (xs : List X) (k : ℕ) (x : X) → slice_get xs k ≡ Some x → flat_map f (take (suc k) xs) ≡ flat_map f (take k xs) ++ f x
pieces_more f [] k x e = absurd (cc)
pieces_more f (y ∷ xs) zero x e = let same : y ≡ x = cc in append-nil (f y) ∙ ap f same
pieces_more f (y ∷ xs) (suc k) x e = ap (λ t. f y ++ t) (pieces_more f xs k x e) ∙ sym (append_assoc (f y) (flat_map f (take k xs)) (f x))

-- a number behind others, with its space
pub one_more_number : (group : List ℕ) (k n : ℕ) (before held now : List ℕ) → slice_get group k ≡ Some n → held ≡ before ++ numbers_text (take k group)
    → now ≡ (held ++ 32 ∷ []) ++ decimal n → now ≡ before ++ numbers_text (take (k + 1) group)
unfolding numbers_text
one_more_number group k n before held now here kept added =
    added
    ∙ ap (λ h. (h ++ 32 ∷ []) ++ decimal n) kept
    ∙ append_assoc (before ++ numbers_text (take k group)) (32 ∷ []) (decimal n)
    ∙ append_assoc before (numbers_text (take k group)) (32 ∷ decimal n)
    ∙ ap (λ t. before ++ t) (sym (rw add-one (pieces_more spaced group k n here)))

-- the lines of numbered items, with one more
numbered_more : {T : Type 0} (f : ℕ × T → List ℕ) (n : ℕ) (ts : List T) (t : T) → flat_map f (enumerate_from n (ts ++ t ∷ [])) ≡ flat_map f (enumerate_from n ts) ++ f (n + length ts, t)
numbered_more f n [] t = let same : n ≡ n + 0 = omega arith in append-nil (f (n, t)) ∙ ap (λ k. f (k, t)) same
numbered_more f n (u ∷ ts) t =
    let same : n + 1 + length ts ≡ n + length (u ∷ ts) = omega arith in
    ap (λ l. f (n, u) ++ l) (numbered_more f (n + 1) ts t ∙ ap (λ k. flat_map f (enumerate_from (n + 1) ts) ++ f (k, t)) same)
    ∙ sym (append_assoc (f (n, u)) (flat_map f (enumerate_from (n + 1) ts)) (f (n + length (u ∷ ts), t)))

-- a line behind those of the items before
pub one_more_line : {T : Type 0} (f : ℕ × T → List ℕ) (before held now : List ℕ) (ts : List T) (i n : ℕ) (t : T) → i < length ts → t ≡ get_or ts i t → n ≡ i + 1
    → held ≡ before ++ flat_map f (enumerate_from 1 (take i ts)) → now ≡ held ++ f (n, t) → now ≡ before ++ flat_map f (enumerate_from 1 (take (i + 1) ts))
one_more_line f before held now ts i n t inside is number kept added =
    let size : n ≡ 1 + length (take i ts) = omega (arith, length-take i ts, inside, number) in
    let lines = flat_map f (enumerate_from 1 (take i ts)) in
    added ∙ ap (λ h. h ++ f (n, t)) kept
    ∙ append_assoc before lines (f (n, t))
    ∙ ap (λ k. before ++ (lines ++ f (k, t))) size
    ∙ ap (λ l. before ++ l) (sym (numbered_more f 1 (take i ts) t) ∙ sym (ap (λ l. flat_map f (enumerate_from 1 l)) (take_one ts i t inside ∙ ap (λ u. take i ts ++ u ∷ []) (sym is))))

-- ---- pieces one behind the other

-- what follows from what an answer holds, where there is one
pub on_ok : {A E : Type 0} (r : Result A E) (P Q : Type 0) → (P → Q) → OnOk r P → OnOk r Q
on_ok (Ok x) P Q follows p = follows p
on_ok (Err e) P Q follows p = tt

-- one more piece
behind : (before held now text piece : List ℕ) → held ≡ before ++ text → now ≡ held ++ piece → now ≡ before ++ (text ++ piece)
behind before held now text piece kept added = added ∙ ap (λ l. l ++ piece) kept ∙ append_assoc before text piece

-- the pieces of a diameter
pub millimetres_added : (d : ℤ) (n : ℕ) (before one two three four five : List ℕ) → n ≡ unsigned_abs (round_div_of d (pos 1000)) → one ≡ before ++ decimal (n / 1000) → two ≡ one ++ codes "." → three ≡ two ++ digit (n / 100)
    → four ≡ three ++ digit (n / 10) → five ≡ four ++ digit n → five ≡ before ++ millimetres d
unfolding millimetres
millimetres_added d n before one two three four five is whole point tenths hundredths last =
    behind before four five (((decimal (n / 1000) ++ codes ".") ++ digit (n / 100)) ++ digit (n / 10)) (digit n)
    (behind before three four ((decimal (n / 1000) ++ codes ".") ++ digit (n / 100)) (digit (n / 10))
    (behind before two three (decimal (n / 1000) ++ codes ".") (digit (n / 100)) (behind before one two (decimal (n / 1000)) (codes ".") whole point) tenths) hundredths) last
    ∙ ap (λ n. before ++ ((((decimal (n / 1000) ++ codes ".") ++ digit (n / 100)) ++ digit (n / 10)) ++ digit n)) is

-- the lines of a drill list
pub drill_added : (plan : List ToolPlan) (counts : DrillCounts) (before one two three : List ℕ) → counts ≡ counts_of plan → one ≡ (before ++ codes "drill tools ") ++ decimal counts.tools
    → two ≡ one ++ drilled_text counts.holes counts.slots → three ≡ two ++ flat_map (λ t. tool_line t.0 t.1) (enumerate_from 1 plan) → three ≡ before ++ drill_text plan
unfolding drill_text
drill_added plan counts before one two three is tools drilled each =
    let lines = flat_map (λ t. tool_line t.0 t.1) (enumerate_from 1 plan) in
    behind before two three ((codes "drill tools " ++ decimal counts.tools) ++ drilled_text counts.holes counts.slots) lines
    (behind before one two (codes "drill tools " ++ decimal counts.tools) (drilled_text counts.holes counts.slots)
    (behind before (before ++ codes "drill tools ") one (codes "drill tools ") (decimal counts.tools) refl tools) drilled) each
    ∙ ap (λ (k : DrillCounts). before ++ (((codes "drill tools " ++ decimal k.tools) ++ drilled_text k.holes k.slots) ++ lines)) is
