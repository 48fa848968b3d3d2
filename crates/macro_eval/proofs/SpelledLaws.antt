-- Which pieces are expressions, and where others go wrong.
use Rattle.std.proofs.Common.{◌≡◌, refl, ℕ, ◌+◌, ◌≤◌, List, [], ◌∷◌, ◌++◌, Bool, true, false, cond, Option, Some, None, Result, Ok, Err, length, arith, ap, sym, ◌∙◌, subst, append_assoc, ◌⊎◌, inl, inr}
use Rattle.std.specs.Prelude.{◌==◌, map, is_some}
use Rattle.std.proofs.lemmas.Grind.{common_steps}
use Rattle.std.proofs.lemmas.List.{append-nil, length-map}
use Rattle.board_base.specs.Binds.{◌>>=◌}
use Rattle.fixed_num.specs.Values.{cut_at, short_of}
use Rattle.fixed_num.specs.Spelled.{parts_of}
use Rattle.macro_eval.specs.declared.fault.MacroFault.{MacroFault}
use Rattle.macro_eval.specs.declared.fault.MacroFault.TheVariants.{BadExpression, TooDeep}
use Rattle.macro_eval.specs.declared.steps.Operand.{Operand}
use Rattle.macro_eval.specs.declared.steps.Step.{Step}
use Rattle.macro_eval.specs.Pieces.{Piece, word, mark, is_word_byte, glued, pieces_of, text_of}
use Rattle.macro_eval.specs.Words.{operand_of}
use Rattle.macro_eval.specs.Trees.{Expression, steps_in}
use Rattle.macro_eval.specs.Grammar.{is_sign, is_scale, operator_of, Written, single, bracket, spelling, meant, IsExpression}
use Rattle.macro_eval.specs.Reading.{Held, at_start, with_bracket, with_word, with_sign, with_term, with_factor, without_bracket, settled, took, took_all, ended}
use Rattle.macro_eval.specs.Spelled.{expression_steps, Begins, IsTooDeep, ExpressionLaw}
use Rattle.macro_eval.specs.Again.{same_steps}
use Rattle.macro_eval.proofs.Zippers.{Waiting, none, waits, Begun, Zipper, wanted, done, nothing, sum_of, level_of, shown, begun_pieces, outer_pieces, zipper_pieces}
use Rattle.macro_eval.proofs.ZipSteps.{took_open, took_too_deep}
use Rattle.macro_eval.proofs.ZipReads.{reads_all, goes_on}
use Rattle.macro_eval.proofs.ZipSound.{FineSum, FineProduct, FineLevel, FineOuter, Fine, all_sum, sum_spelling, came, all_came, close_pieces, bind_ok}
use Rattle.macro_eval.proofs.BodyLaws.{pieces_read, at_first, fine_first, not_none}

-- more pieces behind others
took_more : (limit : ℕ) (h : Held) (ps qs : List Piece) → took_all limit h (ps ++ qs) ≡ (took_all limit h ps >>= λ n. took_all limit n qs)
took_more limit h [] qs = refl
took_more limit h (p ∷ ps) qs = by_result (took limit h p) (λ n. took_more limit n ps qs)
  where
    by_result : (r : Result Held MacroFault) → ((n : Held) → took_all limit n (ps ++ qs) ≡ (took_all limit n ps >>= λ m. took_all limit m qs))
        → (r >>= λ n. took_all limit n (ps ++ qs)) ≡ ((r >>= λ n. took_all limit n ps) >>= λ m. took_all limit m qs)
    by_result (Ok n) h = h n
    by_result (Err e) h = refl

-- a text is the text of its pieces

glued_text : (b : ℕ) (ps : List Piece) → text_of (glued b ps) ≡ b ∷ text_of ps
glued_text b [] = refl
glued_text b (word bytes ∷ ps) = refl
glued_text b (mark c ∷ ps) = refl

pub text_again : (text : List ℕ) → text_of (pieces_of text) ≡ text
text_again [] = refl
text_again (b ∷ bytes) = by_test (is_word_byte b) (text_again bytes)
  where
    by_test : (t : Bool) → text_of (pieces_of bytes) ≡ bytes → text_of (cond t (glued b (pieces_of bytes)) (mark b ∷ pieces_of bytes)) ≡ b ∷ bytes
    by_test true h = glued_text b (pieces_of bytes) ∙ ap (λ rest. b ∷ rest) h
    by_test false h = ap (λ rest. b ∷ rest) h

-- what a place needs to become an expression: an operand, and all brackets closed

begins_less : (limit : ℕ) (front : List Piece) (p : Piece) → Begins limit (front ++ p ∷ []) → Begins limit front
begins_less limit front p h = (p ∷ h.0, h.1, subst (λ ps. IsExpression limit ps h.1) (append_assoc front (p ∷ []) h.0) h.2)

done_begins : (limit : ℕ) (outer : List Begun) (l : Begun) (w : Written) → Fine limit (done outer l w) → Begins limit (zipper_pieces (done outer l w))
done_begins limit [] l w fine =
    let whole = all_sum limit 0 l w fine.0 fine.2 fine.3 in
    ([], meant false (sum_of l w), record { written = sum_of l w; fits = whole.0; deep = omega (arith, whole.1); spelled = sum_spelling l w ∙ sym (append-nil (begun_pieces l ++ spelling w)); means = refl })
done_begins limit (k ∷ outer) l w fine =
    let whole = all_sum limit (length (k ∷ outer)) l w fine.0 fine.2 fine.3 in
    let pieces = ap (λ ps. outer_pieces outer ++ begun_pieces k ++ (mark 40 ∷ ps ++ mark 41 ∷ [])) (sum_spelling l w) ∙ close_pieces (outer_pieces outer) (begun_pieces k) (begun_pieces l) (spelling w) in
    begins_less limit (zipper_pieces (done (k ∷ outer) l w)) (mark 41)
    (subst (Begins limit) pieces (done_begins limit outer k (bracket (sum_of l w)) (fine.1.0, fine.1.1, whole.0, omega (arith, whole.1))))

one_word : is_some (operand_of (49 ∷ [])) ≡ true
unfolding operand_of cut_at short_of parts_of
one_word = refl

wanted_begins : (limit : ℕ) (outer : List Begun) (l : Begun) → Fine limit (wanted outer l) → Begins limit (zipper_pieces (wanted outer l))
wanted_begins limit outer l fine =
    begins_less limit (zipper_pieces (wanted outer l)) (word (49 ∷ [])) (done_begins limit outer l (single (49 ∷ [])) (fine.0, fine.1, one_word, omega (arith, fine.2)))

-- faults

-- an opening bracket where no more may be open
pub record Stuck (limit : ℕ) (z : Zipper) (p : Piece) : Type 0 where
  pub outer : List Begun
  pub level : Begun
  pub here : z ≡ wanted outer level
  pub bracket : p ≡ mark 40
  pub full : (length (map level_of outer) == limit) ≡ true

same_err : {A : Type 0} (r : Result A MacroFault) (e f : MacroFault) → r ≡ Err e → r ≡ Err f → e ≡ f
same_err r e f x y = cc

err_not_ok : {A P : Type 0} (r : Result A MacroFault) (e : MacroFault) (x : A) → r ≡ Err e → r ≡ Ok x → P
err_not_ok r e x f g = absurd cc

is_it : (b c : ℕ) → (b == c) ≡ true → b ≡ c
is_it b c e = grind (arith, common_steps, e)

-- the fault of one piece
fault_of : (limit : ℕ) (start : List Step) (z : Zipper) (p : Piece) (f : MacroFault) → took limit (shown start z) p ≡ Err f → (f ≡ BadExpression) ⊎ ((f ≡ TooDeep) × Stuck limit z p)
unfolding took
fault_of limit start (wanted outer l) (word bytes) f e = by_operand (operand_of bytes) e
  where
    by_operand : (o : Option Operand) → with_word (shown start (wanted outer l)) o ≡ Err f → (f ≡ BadExpression) ⊎ ((f ≡ TooDeep) × Stuck limit (wanted outer l) (word bytes))
    by_operand None e = inl (same_err (with_word (shown start (wanted outer l)) None) f BadExpression e refl)
    by_operand (Some o) e = absurd cc
fault_of limit start (wanted outer l) (mark b) f e = by_open (b == 40) (is_sign b) refl e
  where
    by_open : (t s : Bool) → (b == 40) ≡ t → cond t (with_bracket limit (shown start (wanted outer l))) (cond s (Ok (with_sign (shown start (wanted outer l)) b)) (Err BadExpression)) ≡ Err f → (f ≡ BadExpression) ⊎ ((f ≡ TooDeep) × Stuck limit (wanted outer l) (mark b))
    by_open true s here e = by_depth (length (map level_of outer) == limit) refl
      where
        by_depth : (t : Bool) → (length (map level_of outer) == limit) ≡ t → (f ≡ BadExpression) ⊎ ((f ≡ TooDeep) × Stuck limit (wanted outer l) (mark b))
        by_depth true full =
            inr (same_err (with_bracket limit (shown start (wanted outer l))) f TooDeep e (took_too_deep limit start outer l full), record { outer = outer; level = l; here = refl; bracket = ap mark (is_it b 40 here); full = full })
        by_depth false full = err_not_ok (with_bracket limit (shown start (wanted outer l))) f (shown start (wanted (l ∷ outer) nothing)) e (took_open limit start outer l full)
    by_open false true here e = absurd cc
    by_open false false here e = inl (same_err {A = Held} (Err BadExpression) f BadExpression e refl)
fault_of limit start (done outer l w) (word bytes) f e = inl (same_err (took limit (shown start (done outer l w)) (word bytes)) f BadExpression e refl)
fault_of limit start (done outer l w) (mark b) f e = inl (by_close (b == 41) (is_sign b) (is_scale b) e)
  where
    at_end : (outer : List Begun) → without_bracket (settled (shown start (done outer l w)).steps (shown start (done outer l w)).level) (map level_of outer) ≡ Err f → f ≡ BadExpression
    at_end [] e = same_err {A = Held} (Err BadExpression) f BadExpression e refl
    at_end (k ∷ outer) e = absurd cc

    by_close : (t s m : Bool) → cond t (without_bracket (settled (shown start (done outer l w)).steps (shown start (done outer l w)).level) (map level_of outer)) (cond s (Ok (with_term (shown start (done outer l w)) (operator_of b))) (cond m (Ok (with_factor (shown start (done outer l w)) (operator_of b))) (Err BadExpression))) ≡ Err f → f ≡ BadExpression
    by_close true s m e = at_end outer e
    by_close false true m e = absurd cc
    by_close false false true e = absurd cc
    by_close false false false e = same_err {A = Held} (Err BadExpression) f BadExpression e refl

ended_fault : (start : List Step) (z : Zipper) (f : MacroFault) → ended (shown start z) ≡ Err f → f ≡ BadExpression
unfolding ended
ended_fault start (wanted outer l) f e = same_err {A = List Step} (Err BadExpression) f BadExpression e refl
ended_fault start (done [] l w) f e = absurd cc
ended_fault start (done (k ∷ outer) l w) f e =
    same_err (ended (shown start (done (k ∷ outer) l w))) f BadExpression e
    (ap (λ t. cond t (Ok (settled (shown start (done (k ∷ outer) l w)).steps (shown start (done (k ∷ outer) l w)).level)) (Err BadExpression)) (not_none (level_of k) (map level_of outer)))

-- a place from which no continuation goes on, for want of brackets
pub record Lost (limit : ℕ) (start : List Step) (z : Zipper) (ps : List Piece) : Type 0 where
  pub front : List Piece
  pub rest : List Piece
  pub cut : ps ≡ front ++ mark 40 ∷ rest
  pub outer : List Begun
  pub level : Begun
  pub leads : took_all limit (shown start z) front ≡ Ok (shown start (wanted outer level))
  pub pieces : zipper_pieces (wanted outer level) ≡ zipper_pieces z ++ front
  pub fine : Fine limit (wanted outer level)
  pub full : (length (map level_of outer) == limit) ≡ true

lost_here : (limit : ℕ) (start : List Step) (z : Zipper) (p : Piece) (ps : List Piece) → Fine limit z → Stuck limit z p → Lost limit start z (p ∷ ps)
lost_here limit start z p ps fine stuck = record {
  front = [];
  rest = ps;
  cut = ap (λ q. q ∷ ps) stuck.bracket;
  outer = stuck.outer;
  level = stuck.level;
  leads = ap (λ y. Ok (shown start y)) stuck.here;
  pieces = ap zipper_pieces (sym stuck.here) ∙ sym (append-nil (zipper_pieces z));
  fine = subst (Fine limit) stuck.here fine;
  full = stuck.full;
}

-- the fault of pieces
pub faults : (limit : ℕ) (start : List Step) (z : Zipper) (ps : List Piece) (f : MacroFault) → Fine limit z → (took_all limit (shown start z) ps >>= ended) ≡ Err f → (f ≡ BadExpression) ⊎ ((f ≡ TooDeep) × Lost limit start z ps)
faults limit start z [] f fine e = inl (ended_fault start z f e)
faults limit start z (p ∷ ps) f fine e = by_result (took limit (shown start z) p) refl (λ y. faults limit start y ps f) e
  where
    by_result : (r : Result Held MacroFault) → took limit (shown start z) p ≡ r
        → ((y : Zipper) → Fine limit y → (took_all limit (shown start y) ps >>= ended) ≡ Err f → (f ≡ BadExpression) ⊎ ((f ≡ TooDeep) × Lost limit start y ps))
        → ((r >>= λ n. took_all limit n ps) >>= ended) ≡ Err f → (f ≡ BadExpression) ⊎ ((f ≡ TooDeep) × Lost limit start z (p ∷ ps))
    by_result (Err g) here h e =
        let same : g ≡ f = same_err {A = List Step} (Err g) g f refl e in
        elim (fault_of limit start z p g here) as (λ _. (f ≡ BadExpression) ⊎ ((f ≡ TooDeep) × Lost limit start z (p ∷ ps))) [
          | inl bad ↦ inl (sym same ∙ bad)
          | inr deep ↦ inr (sym same ∙ deep.0, lost_here limit start z p ps fine deep.1)
        ]
    by_result (Ok n) here h e =
        let one = came limit start z p n fine here in
        elim (h one.next one.fine (ap (λ m. took_all limit m ps >>= ended) one.shows ∙ e)) as (λ _. (f ≡ BadExpression) ⊎ ((f ≡ TooDeep) × Lost limit start z (p ∷ ps))) [
          | inl bad ↦ inl bad
          | inr deep ↦ inr (
            deep.0,
            record {
              front = p ∷ deep.1.front;
              rest = deep.1.rest;
              cut = ap (λ qs. p ∷ qs) deep.1.cut;
              outer = deep.1.outer;
              level = deep.1.level;
              leads = goes_on limit (shown start z) p n deep.1.front here ∙ ap (λ m. took_all limit m deep.1.front) (sym one.shows) ∙ deep.1.leads;
              pieces = deep.1.pieces ∙ ap (λ qs. qs ++ deep.1.front) one.pieces ∙ append_assoc (zipper_pieces z) (p ∷ []) deep.1.front;
              fine = deep.1.fine;
              full = deep.1.full;
            },
          )
        ]

-- one bracket more may be open

sum_more : (limit n : ℕ) (q : Waiting) → FineSum limit n q → FineSum (limit + 1) n q
sum_more limit n none h = tt
sum_more limit n (waits w b) h = (h.0, h.1, omega (arith, h.2))

product_more : (limit n : ℕ) (q : Waiting) → FineProduct limit n q → FineProduct (limit + 1) n q
product_more limit n none h = tt
product_more limit n (waits w b) h = (h.0, h.1, omega (arith, h.2))

level_more : (limit n : ℕ) (l : Begun) → FineLevel limit n l → FineLevel (limit + 1) n l
level_more limit n l h = record { in_sum = sum_more limit n l.in_sum h.in_sum; in_product = product_more limit n l.in_product h.in_product; signs = h.signs }

outer_more : (limit : ℕ) (outer : List Begun) → FineOuter limit outer → FineOuter (limit + 1) outer
outer_more limit [] h = tt
outer_more limit (l ∷ outer) h = (level_more limit (length outer) l h.0, outer_more limit outer h.1)

-- behind an opening bracket
opened_begins : (limit : ℕ) (outer : List Begun) (l : Begun) (front : List Piece) → FineLevel limit (length outer) l → FineOuter limit outer → length outer + 1 ≤ limit
    → zipper_pieces (wanted outer l) ≡ front → Begins limit (front ++ mark 40 ∷ [])
opened_begins limit outer l front fine others room pieces =
    subst (Begins limit) (append-nil (outer_pieces outer ++ begun_pieces l ++ mark 40 ∷ []) ∙ ap (λ qs. qs ++ mark 40 ∷ []) pieces)
    (wanted_begins limit (l ∷ outer) nothing (record { in_sum = tt; in_product = tt; signs = tt }, (fine, others), omega (arith, room)))

-- where no bracket more may be open, none goes on
blocked : (limit : ℕ) (start : List Step) (front rest : List Piece) (outer : List Begun) (l : Begun) → took_all limit (at_start start) front ≡ Ok (shown start (wanted outer l)) → (length (map level_of outer) == limit) ≡ true
    → took_all limit (at_start start) (front ++ mark 40 ∷ rest) ≡ Err TooDeep
blocked limit start front rest outer l leads full =
    took_more limit (at_start start) front (mark 40 ∷ rest)
    ∙ ap (λ r. r >>= λ n. took_all limit n (mark 40 ∷ rest)) leads
    ∙ ap (λ r. r >>= λ n. took_all limit n rest) (took_too_deep limit start outer l full)

equal_at : (n limit : ℕ) → (n == limit) ≡ true → n ≡ limit
equal_at n limit e = grind (arith, common_steps, e)

pub deep_to : (limit : ℕ) (start : List Step) (ps : List Piece) → (took_all limit (at_start start) ps >>= ended) ≡ Err TooDeep → IsTooDeep limit ps
deep_to limit start ps e =
    elim (faults limit start (wanted [] nothing) ps TooDeep (fine_first limit) (ap (λ h. took_all limit h ps >>= ended) (sym (at_first start)) ∙ e)) as (λ _. IsTooDeep limit ps) [
      | inl bad ↦ absurd cc
      | inr deep ↦ found deep.1
    ]
  where
    found : Lost limit start (wanted [] nothing) ps → IsTooDeep limit ps
    found lost =
        let leads = ap (λ h. took_all limit h lost.front) (at_first start) ∙ lost.leads in
        record {
          front = lost.front;
          rest = lost.rest;
          cut = lost.cut;
          begins = subst (Begins limit) lost.pieces (wanted_begins limit lost.outer lost.level lost.fine);
          lost = λ more. err_not_ok (took_all limit (at_start start) ((lost.front ++ mark 40 ∷ []) ++ more.0) >>= ended) TooDeep (start ++ steps_in more.1)
              (ap (λ qs. took_all limit (at_start start) qs >>= ended) (append_assoc lost.front (mark 40 ∷ []) more.0) ∙ ap (λ r. r >>= ended) (blocked limit start lost.front more.0 lost.outer lost.level leads lost.full))
              (reads_all limit start ((lost.front ++ mark 40 ∷ []) ++ more.0) more.1 more.2);
          deeper = opened_begins (limit + 1) lost.outer lost.level lost.front (level_more limit (length lost.outer) lost.level lost.fine.0) (outer_more limit lost.outer lost.fine.1) (omega (arith, lost.fine.2)) lost.pieces;
        }

-- what is taken is taken too where one bracket more may be open

not_full : (n limit : ℕ) → n ≤ limit → (n == limit + 1) ≡ false
not_full n limit h = grind (arith, common_steps)

room_more : (limit : ℕ) (start : List Step) (z : Zipper) (p : Piece) (h : Held) → Fine limit z → took limit (shown start z) p ≡ Ok h → took (limit + 1) (shown start z) p ≡ Ok h
unfolding took
room_more limit start (wanted outer l) (word bytes) h fine e = e
room_more limit start (done outer l w) p h fine e = e
room_more limit start (wanted outer l) (mark b) h fine e = by_open (b == 40) (cond (is_sign b) (Ok (with_sign (shown start (wanted outer l)) b)) (Err BadExpression)) e
  where
    open_room : (t : Bool) → (length (map level_of outer) == limit) ≡ t → with_bracket limit (shown start (wanted outer l)) ≡ Ok h → with_bracket (limit + 1) (shown start (wanted outer l)) ≡ Ok h
    open_room true full e = err_not_ok (with_bracket limit (shown start (wanted outer l))) TooDeep h (took_too_deep limit start outer l full) e
    open_room false full e =
        took_open (limit + 1) start outer l (ap (λ n. n == limit + 1) (length-map outer level_of) ∙ not_full (length outer) limit fine.2)
        ∙ sym (took_open limit start outer l full) ∙ e

    by_open : (t : Bool) (x : Result Held MacroFault) → cond t (with_bracket limit (shown start (wanted outer l))) x ≡ Ok h → cond t (with_bracket (limit + 1) (shown start (wanted outer l))) x ≡ Ok h
    by_open true x e = open_room (length (map level_of outer) == limit) refl e
    by_open false x e = e

all_more : (limit : ℕ) (start : List Step) (z : Zipper) (ps : List Piece) (h : Held) → Fine limit z → took_all limit (shown start z) ps ≡ Ok h → took_all (limit + 1) (shown start z) ps ≡ Ok h
all_more limit start z [] h fine e = e
all_more limit start z (p ∷ ps) h fine e =
    let found = bind_ok (took limit (shown start z) p) (λ n. took_all limit n ps) h e in
    let one = came limit start z p found.0 fine found.1 in
    goes_on (limit + 1) (shown start z) p found.0 ps (room_more limit start z p found.0 fine found.1)
    ∙ ap (λ n. took_all (limit + 1) n ps) (sym one.shows)
    ∙ all_more limit start one.next ps h one.fine (ap (λ n. took_all limit n ps) one.shows ∙ found.2)

-- the front of what is read is taken
front_taken : (limit : ℕ) (start : List Step) (front rest : List Piece) (e : Expression) → IsExpression limit (front ++ rest) e → (n : Held) × (took_all limit (at_start start) front ≡ Ok n) × ((took_all limit n rest >>= ended) ≡ Ok (start ++ steps_in e))
front_taken limit start front rest e h =
    let all = bind_ok (took_all limit (at_start start) (front ++ rest)) ended (start ++ steps_in e) (reads_all limit start (front ++ rest) e h) in
    let parts = bind_ok (took_all limit (at_start start) front) (λ n. took_all limit n rest) all.0 (sym (took_more limit (at_start start) front rest) ∙ all.1) in
    (parts.0, parts.1, ap (λ r. r >>= ended) parts.2 ∙ all.2)

no_bracket : (limit : ℕ) (start : List Step) (outer : List Begun) (l : Begun) (w : Written) (rest : List Piece) (x : List Step) → (took_all limit (shown start (done outer l w)) (mark 40 ∷ rest) >>= ended) ≡ Ok x → ⊥
unfolding took
no_bracket limit start outer l w rest x e = cc

pub deep_from : (limit : ℕ) (start : List Step) (ps : List Piece) → IsTooDeep limit ps → (took_all limit (at_start start) ps >>= ended) ≡ Err TooDeep
deep_from limit start ps h =
    let taken = front_taken limit start h.front h.begins.0 h.begins.1 h.begins.2 in
    let led = all_came limit start (wanted [] nothing) h.front taken.0 (fine_first limit) (ap (λ k. took_all limit k h.front) (sym (at_first start)) ∙ taken.1) in
    ap (λ qs. took_all limit (at_start start) qs >>= ended) h.cut
    ∙ ap (λ r. r >>= ended) (at_zipper led.next (taken.1 ∙ ap Ok (sym led.shows)) led.pieces led.fine)
  where
    at_zipper : (z : Zipper) → took_all limit (at_start start) h.front ≡ Ok (shown start z) → zipper_pieces z ≡ h.front → Fine limit z → took_all limit (at_start start) (h.front ++ mark 40 ∷ h.rest) ≡ Err TooDeep
    at_zipper (wanted outer l) leads pieces fine = by_room (length (map level_of outer) == limit) refl
      where
        room : (n : ℕ) → n ≤ limit → (n == limit) ≡ false → n + 1 ≤ limit
        room n few f = grind (arith, common_steps, f)

        by_room : (t : Bool) → (length (map level_of outer) == limit) ≡ t → took_all limit (at_start start) (h.front ++ mark 40 ∷ h.rest) ≡ Err TooDeep
        by_room true full = blocked limit start h.front h.rest outer l leads full
        by_room false free = absurd (h.lost (opened_begins limit outer l h.front fine.0 fine.1 (room (length outer) fine.2 (ap (λ n. n == limit) (sym (length-map outer level_of)) ∙ free)) pieces))
    at_zipper (done outer l w) leads pieces fine =
        let more = h.deeper in
        let taken = front_taken (limit + 1) start h.front (mark 40 ∷ more.0) more.1 (subst (λ qs. IsExpression (limit + 1) qs more.1) (append_assoc h.front (mark 40 ∷ []) more.0) more.2) in
        let again = all_more limit start (wanted [] nothing) h.front (shown start (done outer l w)) (fine_first limit) (ap (λ k. took_all limit k h.front) (sym (at_first start)) ∙ leads) in
        let same : taken.0 ≡ shown start (done outer l w) = same_ok (took_all (limit + 1) (at_start start) h.front) taken.0 (shown start (done outer l w)) taken.1 (ap (λ k. took_all (limit + 1) k h.front) (at_first start) ∙ again) in
        absurd (no_bracket (limit + 1) start outer l w more.0 (start ++ steps_in more.1) (ap (λ n. took_all (limit + 1) n (mark 40 ∷ more.0) >>= ended) (sym same) ∙ taken.2))
      where
        same_ok : {A : Type 0} (r : Result A MacroFault) (x y : A) → r ≡ Ok x → r ≡ Ok y → x ≡ y
        same_ok r x y e f = cc

bad_to : (limit : ℕ) (ps : List Piece) → expression_steps limit ps ≡ Err BadExpression → ((e : Expression) → IsExpression limit ps e → ⊥) × (IsTooDeep limit ps → ⊥)
bad_to limit ps bad = (
  λ e h. err_not_ok (expression_steps limit ps) BadExpression ([] ++ steps_in e) bad (reads_all limit [] ps e h),
  λ h. not_same (deep_from limit [] ps h),
)
  where
    not_same : expression_steps limit ps ≡ Err TooDeep → ⊥
    not_same deep = cc

bad_from : (limit : ℕ) (ps : List Piece) → ((e : Expression) → IsExpression limit ps e → ⊥) × (IsTooDeep limit ps → ⊥) → expression_steps limit ps ≡ Err BadExpression
bad_from limit ps h = by_result (expression_steps limit ps) refl
  where
    by_result : (r : Result (List Step) MacroFault) → expression_steps limit ps ≡ r → expression_steps limit ps ≡ Err BadExpression
    by_result (Ok steps) e = let read = pieces_read limit [] ps steps e in absurd (h.0 read.e read.is)
    by_result (Err f) e =
        elim (faults limit [] (wanted [] nothing) ps f (fine_first limit) (ap (λ k. took_all limit k ps >>= ended) (sym (at_first [])) ∙ e)) as (λ _. expression_steps limit ps ≡ Err BadExpression) [
          | inl bad ↦ e ∙ ap Err bad
          | inr deep ↦ absurd (h.1 (deep_to limit [] ps (e ∙ ap Err deep.0)))
        ]

reads_from : (limit : ℕ) (ps : List Piece) (e : Expression) → expression_steps limit ps ≡ Ok (steps_in e) → IsExpression limit ps e
reads_from limit ps e h =
    let read = pieces_read limit [] ps (steps_in e) h in
    subst (IsExpression limit ps) (same_steps read.e e (sym read.steps)) read.is

one_expression : (limit : ℕ) (ps : List Piece) (d e : Expression) → IsExpression limit ps d → IsExpression limit ps e → d ≡ e
one_expression limit ps d e g h = same_steps d e (same (reads_all limit [] ps d g) (reads_all limit [] ps e h))
  where
    same : expression_steps limit ps ≡ Ok (steps_in d) → expression_steps limit ps ≡ Ok (steps_in e) → steps_in d ≡ steps_in e
    same a b = cc

pub expression_law : ExpressionLaw
expression_law = record {
  reads = λ limit ps e. (reads_from limit ps e, reads_all limit [] ps e);
  each = λ limit ps steps h. let read = pieces_read limit [] ps steps h in (read.e, read.steps);
  deep = λ limit ps. (deep_to limit [] ps, deep_from limit [] ps);
  bad = λ limit ps. (bad_to limit ps, bad_from limit ps);
  one = one_expression;
  text = text_again;
}
