-- What the reader takes is written.
use Rattle.std.proofs.Common.{◌≡◌, refl, ℕ, ◌+◌, ◌<◌, ◌≤◌, List, [], ◌∷◌, ◌++◌, Bool, true, false, cond, Option, Some, None, Result, Ok, Err, length, arith, ap, sym, ◌∙◌, subst, append_assoc, inl, inr}
use Rattle.std.specs.Prelude.{◌==◌, map, max, is_some}
use Rattle.std.specs.List.{AllByRecursion}
use Rattle.std.proofs.lemmas.Grind.{common_steps}
use Rattle.std.proofs.lemmas.List.{append-nil, length-map, map-append}
use Rattle.board_base.specs.Binds.{◌>>=◌}
use Rattle.macro_eval.specs.declared.fault.MacroFault.{MacroFault}
use Rattle.macro_eval.specs.declared.fault.MacroFault.TheVariants.{BadExpression, TooDeep}
use Rattle.macro_eval.specs.declared.steps.Operand.{Operand}
use Rattle.macro_eval.specs.declared.steps.Step.{Step}
use Rattle.macro_eval.specs.Pieces.{Piece, word, mark}
use Rattle.macro_eval.specs.Words.{operand_of}
use Rattle.macro_eval.specs.Grammar.{is_sign, is_scale, operator_of, Written, single, bracket, signed, pair, sum, product, factor, Fits, depth, spelling}
use Rattle.macro_eval.specs.Reading.{Held, with_sign, with_bracket, with_word, with_term, with_factor, settled, without_bracket, took, took_all}
use Rattle.macro_eval.proofs.Zippers.{Waiting, none, waits, Begun, Zipper, wanted, done, nothing, signed_all, paired, product_of, sum_of, level_of, shown, waiting_pieces, begun_pieces, outer_pieces, zipper_pieces}
use Rattle.macro_eval.proofs.ZipSteps.{took_word, took_open, took_too_deep, more_signs, took_sign, took_close, sum_on, took_term, product_on, took_factor}

-- what waits is written well, and no bracket is too deep

abbrev pub FineSum : ℕ → ℕ → Waiting → Type 0
FineSum limit n none = Unit {0}
FineSum limit n (waits w b) = (is_sign b ≡ true) × Fits sum w × (n + depth w ≤ limit)

abbrev pub FineProduct : ℕ → ℕ → Waiting → Type 0
FineProduct limit n none = Unit {0}
FineProduct limit n (waits w b) = (is_scale b ≡ true) × Fits product w × (n + depth w ≤ limit)

pub record FineLevel (limit n : ℕ) (l : Begun) : Type 0 where
  pub in_sum : FineSum limit n l.in_sum
  pub in_product : FineProduct limit n l.in_product
  pub signs : AllByRecursion (λ b. is_sign b ≡ true) l.signs

abbrev pub FineOuter : ℕ → List Begun → Type 0
FineOuter limit [] = Unit {0}
FineOuter limit (l ∷ outer) = FineLevel limit (length outer) l × FineOuter limit outer

abbrev pub Fine : ℕ → Zipper → Type 0
Fine limit (wanted outer l) = FineLevel limit (length outer) l × FineOuter limit outer × (length outer ≤ limit)
Fine limit (done outer l w) = FineLevel limit (length outer) l × FineOuter limit outer × Fits factor w × (length outer + depth w ≤ limit)

factor_product : (w : Written) → Fits factor w → Fits product w
factor_product (single bytes) h = h
factor_product (bracket w) h = h
factor_product (signed b w) h = h
factor_product (pair v b w) h = absurd h

product_sum : (w : Written) → Fits product w → Fits sum w
product_sum (single bytes) h = h
product_sum (bracket w) h = h
product_sum (signed b w) h = h
product_sum (pair v b w) h = inr h

signed_fits : (signs : List ℕ) (w : Written) → AllByRecursion (λ b. is_sign b ≡ true) signs → Fits factor w → Fits factor (signed_all signs w)
signed_fits [] w all h = h
signed_fits (b ∷ signs) w all h = (all.0, signed_fits signs w all.1 h)

signed_depth : (signs : List ℕ) (w : Written) → depth (signed_all signs w) ≡ depth w
signed_depth [] w = refl
signed_depth (b ∷ signs) w = signed_depth signs w

both_deep : (n v w limit : ℕ) → n + v ≤ limit → n + w ≤ limit → n + max v w ≤ limit
both_deep n v w limit h k = omega arith

product_fits : (limit n : ℕ) (q : Waiting) (w : Written) → FineProduct limit n q → Fits factor w → n + depth w ≤ limit → Fits product (paired q w) × (n + depth (paired q w) ≤ limit)
product_fits limit n none w h fits room = (factor_product w fits, room)
product_fits limit n (waits v b) w h fits room = ((h.0, h.1, fits), both_deep n (depth v) (depth w) limit h.2 room)

sum_fits : (limit n : ℕ) (q : Waiting) (w : Written) → FineSum limit n q → Fits product w → n + depth w ≤ limit → Fits sum (paired q w) × (n + depth (paired q w) ≤ limit)
sum_fits limit n none w h fits room = (product_sum w fits, room)
sum_fits limit n (waits v b) w h fits room = (inl (h.0, h.1, fits), both_deep n (depth v) (depth w) limit h.2 room)

all_product : (limit n : ℕ) (l : Begun) (w : Written) → FineLevel limit n l → Fits factor w → n + depth w ≤ limit → Fits product (product_of l w) × (n + depth (product_of l w) ≤ limit)
all_product limit n l w fine fits room =
    product_fits limit n l.in_product (signed_all l.signs w) fine.in_product (signed_fits l.signs w fine.signs fits) (subst (λ d. n + d ≤ limit) (sym (signed_depth l.signs w)) room)

pub all_sum : (limit n : ℕ) (l : Begun) (w : Written) → FineLevel limit n l → Fits factor w → n + depth w ≤ limit → Fits sum (sum_of l w) × (n + depth (sum_of l w) ≤ limit)
all_sum limit n l w fine fits room =
    let p = all_product limit n l w fine fits room in
    sum_fits limit n l.in_sum (product_of l w) fine.in_sum p.0 p.1

-- the pieces of what is written in a bracket

paired_spelling : (q : Waiting) (w : Written) → spelling (paired q w) ≡ waiting_pieces q ++ spelling w
paired_spelling none w = refl
paired_spelling (waits v b) w = sym (append_assoc (spelling v) (mark b ∷ []) (spelling w))

signed_spelling : (signs : List ℕ) (w : Written) → spelling (signed_all signs w) ≡ map mark signs ++ spelling w
signed_spelling [] w = refl
signed_spelling (b ∷ signs) w = ap (λ ps. mark b ∷ ps) (signed_spelling signs w)

product_spelling : (l : Begun) (w : Written) → spelling (product_of l w) ≡ waiting_pieces l.in_product ++ (map mark l.signs ++ spelling w)
product_spelling l w = paired_spelling l.in_product (signed_all l.signs w) ∙ ap (λ ps. waiting_pieces l.in_product ++ ps) (signed_spelling l.signs w)

pub sum_spelling : (l : Begun) (w : Written) → spelling (sum_of l w) ≡ begun_pieces l ++ spelling w
sum_spelling l w =
    paired_spelling l.in_sum (product_of l w) ∙ ap (λ ps. waiting_pieces l.in_sum ++ ps) (product_spelling l w)
    ∙ regroup (waiting_pieces l.in_sum) (waiting_pieces l.in_product) (map mark l.signs) (spelling w)
  where
    regroup : (a b c d : List Piece) → a ++ (b ++ (c ++ d)) ≡ ((a ++ b) ++ c) ++ d
    regroup a b c d = simp append_assoc

-- what one piece more leads to
pub record Came (limit : ℕ) (start : List Step) (z : Zipper) (p : List Piece) (h : Held) : Type 0 where
  pub next : Zipper
  pub shows : shown start next ≡ h
  pub pieces : zipper_pieces next ≡ zipper_pieces z ++ p
  pub fine : Fine limit next

same_ok : {A : Type 0} (r : Result A MacroFault) (x y : A) → r ≡ Ok x → r ≡ Ok y → x ≡ y
same_ok r x y e f = cc

not_both : {A : Type 0} {P : Type 0} (r : Result A MacroFault) (x : A) (f : MacroFault) → r ≡ Ok x → r ≡ Err f → P
not_both r x f e g = absurd cc

is_it : (b c : ℕ) → (b == c) ≡ true → b ≡ c
is_it b c e = grind (arith, common_steps, e)

below : (n limit : ℕ) → n ≤ limit → (n == limit) ≡ false → n < limit
below n limit h e = grind (arith, common_steps, e)

word_came : (limit : ℕ) (start : List Step) (outer : List Begun) (l : Begun) (bytes : List ℕ) (h : Held) → Fine limit (wanted outer l)
    → took limit (shown start (wanted outer l)) (word bytes) ≡ Ok h → Came limit start (wanted outer l) (word bytes ∷ []) h
unfolding took
word_came limit start outer l bytes h fine e = by_operand (operand_of bytes) refl
  where
    by_operand : (o : Option Operand) → operand_of bytes ≡ o → Came limit start (wanted outer l) (word bytes ∷ []) h
    by_operand None f = not_both (took limit (shown start (wanted outer l)) (word bytes)) h BadExpression e (ap (with_word (shown start (wanted outer l))) f)
    by_operand (Some step) f = record {
      next = done outer l (single bytes);
      shows = same_ok (took limit (shown start (wanted outer l)) (word bytes)) (shown start (done outer l (single bytes))) h (took_word limit start outer l bytes step f) e;
      pieces = refl;
      fine = (fine.0, fine.1, ap is_some f, omega (arith, fine.2));
    }

sign_pieces : (O A B M : List Piece) (p : Piece) → O ++ (A ++ B ++ (M ++ p ∷ [])) ≡ (O ++ (A ++ B ++ M)) ++ p ∷ []
sign_pieces O A B M p = simp append_assoc

all_signs : (signs : List ℕ) (b : ℕ) → AllByRecursion (λ c. is_sign c ≡ true) signs → is_sign b ≡ true → AllByRecursion (λ c. is_sign c ≡ true) (signs ++ b ∷ [])
all_signs [] b all e = (e, tt)
all_signs (c ∷ signs) b all e = (all.0, all_signs signs b all.1 e)

open_came : (limit : ℕ) (start : List Step) (outer : List Begun) (l : Begun) (h : Held) → Fine limit (wanted outer l)
    → took limit (shown start (wanted outer l)) (mark 40) ≡ Ok h → Came limit start (wanted outer l) (mark 40 ∷ []) h
open_came limit start outer l h fine e = by_test (length (map level_of outer) == limit) refl
  where
    by_test : (t : Bool) → (length (map level_of outer) == limit) ≡ t → Came limit start (wanted outer l) (mark 40 ∷ []) h
    by_test true f = not_both (took limit (shown start (wanted outer l)) (mark 40)) h TooDeep e (took_too_deep limit start outer l f)
    by_test false f = record {
      next = wanted (l ∷ outer) nothing;
      shows = same_ok (took limit (shown start (wanted outer l)) (mark 40)) (shown start (wanted (l ∷ outer) nothing)) h (took_open limit start outer l f) e;
      pieces = append-nil (outer_pieces outer ++ begun_pieces l ++ mark 40 ∷ []);
      fine = (record { in_sum = tt; in_product = tt; signs = tt }, (fine.0, fine.1), room);
    }
      where
        room : length (l ∷ outer) ≤ limit
        room = let r = below (length outer) limit fine.2 (ap (λ n. n == limit) (sym (length-map outer level_of)) ∙ f) in omega (arith, r)

sign_came : (limit : ℕ) (start : List Step) (outer : List Begun) (l : Begun) (b : ℕ) (h : Held) → is_sign b ≡ true → Fine limit (wanted outer l)
    → took limit (shown start (wanted outer l)) (mark b) ≡ Ok h → Came limit start (wanted outer l) (mark b ∷ []) h
sign_came limit start outer l b h sign fine e = record {
  next = wanted outer (more_signs l b);
  shows = same_ok (took limit (shown start (wanted outer l)) (mark b)) (shown start (wanted outer (more_signs l b))) h (took_sign limit start outer l b sign) e;
  pieces = ap (λ ps. outer_pieces outer ++ (waiting_pieces l.in_sum ++ waiting_pieces l.in_product ++ ps)) (map-append mark l.signs (b ∷ []))
      ∙ sign_pieces (outer_pieces outer) (waiting_pieces l.in_sum) (waiting_pieces l.in_product) (map mark l.signs) (mark b);
  fine = (record { in_sum = fine.0.in_sum; in_product = fine.0.in_product; signs = all_signs l.signs b fine.0.signs sign }, fine.1, fine.2);
}

before_came : (limit : ℕ) (start : List Step) (outer : List Begun) (l : Begun) (b : ℕ) (h : Held) → Fine limit (wanted outer l)
    → took limit (shown start (wanted outer l)) (mark b) ≡ Ok h → Came limit start (wanted outer l) (mark b ∷ []) h
unfolding took
before_came limit start outer l b h fine e = by_open (b == 40) refl
  where
    by_sign : (t : Bool) → (b == 40) ≡ false → is_sign b ≡ t → Came limit start (wanted outer l) (mark b ∷ []) h
    by_sign true f g = sign_came limit start outer l b h g fine e
    by_sign false f g = not_both (took limit (shown start (wanted outer l)) (mark b)) h BadExpression e
        (ap (λ t. cond t (with_bracket limit (shown start (wanted outer l))) (cond (is_sign b) (Ok (with_sign (shown start (wanted outer l)) b)) (Err BadExpression))) f
        ∙ ap (λ t. cond t (Ok (with_sign (shown start (wanted outer l)) b)) (Err BadExpression)) g)

    by_open : (t : Bool) → (b == 40) ≡ t → Came limit start (wanted outer l) (mark b ∷ []) h
    by_open true f =
        let here : b ≡ 40 = is_it b 40 f in
        subst (λ c. Came limit start (wanted outer l) (mark c ∷ []) h) (sym here) (open_came limit start outer l h fine (ap (λ c. took limit (shown start (wanted outer l)) (mark c)) (sym here) ∙ e))
    by_open false f = by_sign (is_sign b) f refl

-- behind an operand

pub close_pieces : (O B L W : List Piece) → O ++ B ++ (mark 40 ∷ (L ++ W) ++ mark 41 ∷ []) ≡ ((O ++ B ++ mark 40 ∷ []) ++ L ++ W) ++ mark 41 ∷ []
close_pieces O B L W = simp append_assoc

close_came : (limit : ℕ) (start : List Step) (outer : List Begun) (l : Begun) (w : Written) (h : Held) → Fine limit (done outer l w)
    → took limit (shown start (done outer l w)) (mark 41) ≡ Ok h → Came limit start (done outer l w) (mark 41 ∷ []) h
unfolding took
close_came limit start [] l w h fine e = absurd cc
close_came limit start (k ∷ outer) l w h fine e =
    let whole = all_sum limit (length (k ∷ outer)) l w fine.0 fine.2 fine.3 in
    record {
      next = done outer k (bracket (sum_of l w));
      shows = same_ok (took limit (shown start (done (k ∷ outer) l w)) (mark 41)) (shown start (done outer k (bracket (sum_of l w)))) h (took_close limit start outer k l w) e;
      pieces = ap (λ ps. outer_pieces outer ++ begun_pieces k ++ (mark 40 ∷ ps ++ mark 41 ∷ [])) (sum_spelling l w)
          ∙ close_pieces (outer_pieces outer) (begun_pieces k) (begun_pieces l) (spelling w);
      fine = (fine.1.0, fine.1.1, whole.0, omega (arith, whole.1));
    }

term_pieces : (O L W : List Piece) (p : Piece) → O ++ (((L ++ W) ++ p ∷ []) ++ [] ++ []) ≡ (O ++ L ++ W) ++ p ∷ []
term_pieces O L W p = simp (append_assoc, append-nil)

term_came : (limit : ℕ) (start : List Step) (outer : List Begun) (l : Begun) (w : Written) (b : ℕ) (h : Held) → is_sign b ≡ true → Fine limit (done outer l w)
    → took limit (shown start (done outer l w)) (mark b) ≡ Ok h → Came limit start (done outer l w) (mark b ∷ []) h
term_came limit start outer l w b h sign fine e =
    let whole = all_sum limit (length outer) l w fine.0 fine.2 fine.3 in
    record {
      next = wanted outer (sum_on l w b);
      shows = same_ok (took limit (shown start (done outer l w)) (mark b)) (shown start (wanted outer (sum_on l w b))) h (took_term limit start outer l w b sign) e;
      pieces = ap (λ ps. outer_pieces outer ++ ((ps ++ mark b ∷ []) ++ [] ++ [])) (sum_spelling l w) ∙ term_pieces (outer_pieces outer) (begun_pieces l) (spelling w) (mark b);
      fine = (record { in_sum = (sign, whole.0, whole.1); in_product = tt; signs = tt }, fine.1, omega (arith, fine.3));
    }

factor_pieces : (O A B M W : List Piece) (p : Piece) → O ++ (A ++ ((B ++ (M ++ W)) ++ p ∷ []) ++ []) ≡ (O ++ (A ++ B ++ M) ++ W) ++ p ∷ []
factor_pieces O A B M W p = simp (append_assoc, append-nil)

factor_came : (limit : ℕ) (start : List Step) (outer : List Begun) (l : Begun) (w : Written) (b : ℕ) (h : Held) → is_scale b ≡ true → Fine limit (done outer l w)
    → took limit (shown start (done outer l w)) (mark b) ≡ Ok h → Came limit start (done outer l w) (mark b ∷ []) h
factor_came limit start outer l w b h scale fine e =
    let whole = all_product limit (length outer) l w fine.0 fine.2 fine.3 in
    record {
      next = wanted outer (product_on l w b);
      shows = same_ok (took limit (shown start (done outer l w)) (mark b)) (shown start (wanted outer (product_on l w b))) h (took_factor limit start outer l w b scale) e;
      pieces = ap (λ ps. outer_pieces outer ++ (waiting_pieces l.in_sum ++ (ps ++ mark b ∷ []) ++ [])) (product_spelling l w)
          ∙ factor_pieces (outer_pieces outer) (waiting_pieces l.in_sum) (waiting_pieces l.in_product) (map mark l.signs) (spelling w) (mark b);
      fine = (record { in_sum = fine.0.in_sum; in_product = (scale, whole.0, whole.1); signs = tt }, fine.1, omega (arith, fine.3));
    }

behind_came : (limit : ℕ) (start : List Step) (outer : List Begun) (l : Begun) (w : Written) (b : ℕ) (h : Held) → Fine limit (done outer l w)
    → took limit (shown start (done outer l w)) (mark b) ≡ Ok h → Came limit start (done outer l w) (mark b ∷ []) h
unfolding took
behind_came limit start outer l w b h fine e = by_close (b == 41) refl
  where
    held : Held
    held = shown start (done outer l w)

    by_scale : (t : Bool) → (b == 41) ≡ false → is_sign b ≡ false → is_scale b ≡ t → Came limit start (done outer l w) (mark b ∷ []) h
    by_scale true f g s = factor_came limit start outer l w b h s fine e
    by_scale false f g s = not_both (took limit (shown start (done outer l w)) (mark b)) h BadExpression e
        (ap (λ t. cond t (without_bracket (settled (shown start (done outer l w)).steps (shown start (done outer l w)).level) (shown start (done outer l w)).outer) (cond (is_sign b) (Ok (with_term (shown start (done outer l w)) (operator_of b))) (cond (is_scale b) (Ok (with_factor (shown start (done outer l w)) (operator_of b))) (Err BadExpression)))) f
        ∙ ap (λ t. cond t (Ok (with_term (shown start (done outer l w)) (operator_of b))) (cond (is_scale b) (Ok (with_factor (shown start (done outer l w)) (operator_of b))) (Err BadExpression))) g
        ∙ ap (λ t. cond t (Ok (with_factor (shown start (done outer l w)) (operator_of b))) (Err BadExpression)) s)

    by_sign : (t : Bool) → (b == 41) ≡ false → is_sign b ≡ t → Came limit start (done outer l w) (mark b ∷ []) h
    by_sign true f g = term_came limit start outer l w b h g fine e
    by_sign false f g = by_scale (is_scale b) f g refl

    by_close : (t : Bool) → (b == 41) ≡ t → Came limit start (done outer l w) (mark b ∷ []) h
    by_close true f =
        let here : b ≡ 41 = is_it b 41 f in
        subst (λ c. Came limit start (done outer l w) (mark c ∷ []) h) (sym here) (close_came limit start outer l w h fine (ap (λ c. took limit (shown start (done outer l w)) (mark c)) (sym here) ∙ e))
    by_close false f = by_sign (is_sign b) f refl

-- one piece more
pub came : (limit : ℕ) (start : List Step) (z : Zipper) (p : Piece) (h : Held) → Fine limit z → took limit (shown start z) p ≡ Ok h → Came limit start z (p ∷ []) h
unfolding took
came limit start (wanted outer l) (word bytes) h fine e = word_came limit start outer l bytes h fine e
came limit start (wanted outer l) (mark b) h fine e = before_came limit start outer l b h fine e
came limit start (done outer l w) (word bytes) h fine e = absurd cc
came limit start (done outer l w) (mark b) h fine e = behind_came limit start outer l w b h fine e

pub bind_ok : {A B : Type 0} (r : Result A MacroFault) (f : A → Result B MacroFault) (y : B) → (r >>= f) ≡ Ok y → (x : A) × (r ≡ Ok x) × (f x ≡ Ok y)
bind_ok (Ok x) f y e = (x, refl, e)
bind_ok (Err d) f y e = absurd cc

-- all pieces
pub all_came : (limit : ℕ) (start : List Step) (z : Zipper) (ps : List Piece) (h : Held) → Fine limit z → took_all limit (shown start z) ps ≡ Ok h → Came limit start z ps h
all_came limit start z [] h fine e = record { next = z; shows = same_ok (Ok (shown start z)) (shown start z) h refl e; pieces = sym (append-nil (zipper_pieces z)); fine = fine }
all_came limit start z (p ∷ ps) h fine e =
    let found = bind_ok (took limit (shown start z) p) (λ n. took_all limit n ps) h e in
    let one = came limit start z p found.0 fine found.1 in
    let rest = all_came limit start one.next ps h one.fine (ap (λ n. took_all limit n ps) one.shows ∙ found.2) in
    record {
      next = rest.next;
      shows = rest.shows;
      pieces = rest.pieces ∙ ap (λ front. front ++ ps) one.pieces ∙ append_assoc (zipper_pieces z) (p ∷ []) ps;
      fine = rest.fine;
    }
