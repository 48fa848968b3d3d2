-- A body is read as the statements that it is.
use Rattle.std.proofs.Common.{◌≡◌, refl, ℕ, suc, ◌+◌, List, [], ◌∷◌, ◌++◌, Bool, true, false, cond, Option, Some, None, Result, Ok, Err, length, take, drop, arith, ap, sym, ◌∙◌, subst, append_assoc, ◌⊎◌, inl, inr}
use Rattle.std.specs.Prelude.{◌==◌, ◌&&◌, nat_lt, nat_le, filter, flat_map}
use Rattle.std.specs.Char.{is_ascii_digit}
use Rattle.std.specs.Str.Parse.{digits_value}
use Rattle.std.specs.List.{list_all, position_or_len, before_first, after_first, slice_split}
use Rattle.std.proofs.lemmas.Grind.{common_steps}
use Rattle.std.proofs.lemmas.List.{append-nil}
use Rattle.std.proofs.Math.Seq.{take-append_seam}
use Rattle.board_base.specs.Binds.{◌>>=◌}
use Rattle.macro_eval.specs.declared.fault.MacroFault.{MacroFault}
use Rattle.macro_eval.specs.declared.steps.Step.{Step}
use Rattle.macro_eval.specs.declared.steps.Step.TheVariants.{Assign, Begin, Paint}
use Rattle.macro_eval.specs.Words.{is_number, number_in, not_zero, variable_in}
use Rattle.macro_eval.specs.Trees.{Expression, Statement, assignment, primitive, steps_in, statement_steps, steps_of}
use Rattle.macro_eval.specs.Reading.{read_behind, ended}
use Rattle.macro_eval.specs.Statements.{is_byte, is_no_space, a_number, assignment_behind, fields_behind, primitive_behind, statement_behind, statements_behind, body_steps}
use Rattle.macro_eval.specs.Heard.{statements_in}
use Rattle.macro_eval.specs.Again.{statements_again}
use Rattle.macro_eval.specs.Body.{IsAssignment, IsPrimitive, IsStatement, IsComment, AreStatements, IsBody, as_statements, macro_of}
use Rattle.macro_eval.proofs.ZipSound.{bind_ok}
use Rattle.macro_eval.proofs.BodyLaws.{text_read, text_reads, fields_read, fields_reads}

-- a byte is found where it first stands, or nothing stands behind it

pub split_here : (c : ℕ) (xs : List ℕ) → (xs ≡ before_first (is_byte c) xs ++ c ∷ after_first (is_byte c) xs) ⊎ (after_first (is_byte c) xs ≡ [])
split_here c [] = inr refl
split_here c (b ∷ bs) = by_test (b == c) refl (split_here c bs)
  where
    is_it : (b c : ℕ) → (b == c) ≡ true → b ≡ c
    is_it b c e = grind (arith, common_steps, e)

    here : (b == c) ≡ true → position_or_len (is_byte c) (b ∷ bs) ≡ 0
    here e = rw e refl

    on : (b == c) ≡ false → position_or_len (is_byte c) (b ∷ bs) ≡ suc (position_or_len (is_byte c) bs)
    on e = rw e (omega arith)

    next : (k : ℕ) → k + 1 ≡ suc k
    next k = omega arith

    by_test : (t : Bool) → (b == c) ≡ t → (bs ≡ before_first (is_byte c) bs ++ c ∷ after_first (is_byte c) bs) ⊎ (after_first (is_byte c) bs ≡ [])
        → (b ∷ bs ≡ before_first (is_byte c) (b ∷ bs) ++ c ∷ after_first (is_byte c) (b ∷ bs)) ⊎ (after_first (is_byte c) (b ∷ bs) ≡ [])
    by_test true e h = inl (subst (λ k. b ∷ bs ≡ take k (b ∷ bs) ++ c ∷ drop (k + 1) (b ∷ bs)) (sym (here e)) (ap (λ d. d ∷ bs) (is_it b c e)))
    by_test false e (inl h) = inl (subst (λ k. b ∷ bs ≡ take k (b ∷ bs) ++ c ∷ drop (k + 1) (b ∷ bs)) (sym (on e)) (ap (λ l. b ∷ l) h ∙ ap (λ k. b ∷ (take (position_or_len (is_byte c) bs) bs ++ c ∷ drop k (b ∷ bs))) (ap suc (next (position_or_len (is_byte c) bs)) ∙ sym (next (suc (position_or_len (is_byte c) bs))))))
    by_test false e (inr h) = inr (subst (λ k. drop (k + 1) (b ∷ bs) ≡ []) (sym (on e)) (ap (λ k. drop k (b ∷ bs)) (next (suc (position_or_len (is_byte c) bs)) ∙ ap suc (sym (next (position_or_len (is_byte c) bs)))) ∙ h))

-- nothing is no expression
pub not_empty : (limit : ℕ) (start : List Step) (all : List Step) → read_behind limit start [] ≡ Ok all → ⊥
unfolding read_behind ended
not_empty limit start all e = cc

pub a_number_is : (o : Option ℕ) (n : ℕ) → a_number o ≡ Ok n → o ≡ Some n
a_number_is None n e = absurd cc
a_number_is (Some m) n e = cc

ok_same : {A : Type 0} (r : Result A MacroFault) (x y : A) → r ≡ Ok x → r ≡ Ok y → x ≡ y
ok_same r x y e f = cc

-- what is read as steps is a comment, or a statement with these steps
pub record SaidBy (limit : ℕ) (start : List Step) (text : List ℕ) (all : List Step) : Type 0 where
  pub s : Statement
  pub is : IsStatement limit text s
  pub steps : all ≡ start ++ statement_steps s

assignment_said : (limit : ℕ) (start : List Step) (bytes : List ℕ) (all : List Step) → assignment_behind limit start bytes ≡ Ok all → SaidBy limit start (36 ∷ bytes) all
unfolding assignment_behind
assignment_said limit start bytes all e =
    let value = after_first (is_byte 61) bytes in
    let name = before_first (is_byte 61) bytes in
    let n = bind_ok (a_number (variable_in name)) (λ n. read_behind limit start (after_first (is_byte 61) bytes) >>= λ s. Ok (s ++ Assign n ∷ [])) all e in
    let s = bind_ok (read_behind limit start value) (λ s. Ok (s ++ Assign n.0 ∷ [])) all n.2 in
    let read = text_read limit start value s.0 s.1 in
    let whole : all ≡ s.0 ++ Assign n.0 ∷ [] = ok_same (Ok all) all (s.0 ++ Assign n.0 ∷ []) refl (sym s.2) in
    let steps = whole ∙ ap (λ steps. steps ++ Assign n.0 ∷ []) read.steps ∙ append_assoc start (steps_in read.e) (Assign n.0 ∷ []) in
    elim (split_here 61 bytes) as (λ _. SaidBy limit start (36 ∷ bytes) all) [
      | inl h ↦ record {
        s = assignment n.0 read.e;
        is = record { name = name; value = value; spelled = ap (λ l. 36 ∷ l) h; variable = a_number_is (variable_in name) n.0 n.1; expression = read.is };
        steps = steps;
      }
      | inr h ↦ absurd (not_empty limit start s.0 (ap (read_behind limit start) (sym h) ∙ s.1))
    ]

primitive_said : (limit : ℕ) (start : List Step) (bytes : List ℕ) (all : List Step) → ((rest : List ℕ) → bytes ≡ 48 ∷ rest → ⊥) → primitive_behind limit start bytes ≡ Ok all → SaidBy limit start bytes all
unfolding primitive_behind
primitive_said limit start bytes all first e =
    let fields = after_first (is_byte 44) bytes in
    let name = before_first (is_byte 44) bytes in
    let n = bind_ok (a_number (number_in 4294967295 name)) (λ code. fields_behind limit (start ++ Begin code ∷ []) (slice_split (is_byte 44) (after_first (is_byte 44) bytes)) >>= λ s. Ok (s ++ Paint ∷ [])) all e in
    let s = bind_ok (fields_behind limit (start ++ Begin n.0 ∷ []) (slice_split (is_byte 44) fields)) (λ s. Ok (s ++ Paint ∷ [])) all n.2 in
    let read = fields_read limit (start ++ Begin n.0 ∷ []) (slice_split (is_byte 44) fields) s.0 s.1 in
    let whole : all ≡ s.0 ++ Paint ∷ [] = ok_same (Ok all) all (s.0 ++ Paint ∷ []) refl (sym s.2) in
    let steps = whole ∙ ap (λ steps. steps ++ Paint ∷ []) read.steps ∙ regroup start (Begin n.0 ∷ []) (flat_map steps_in read.es) (Paint ∷ []) in
    elim (split_here 44 bytes) as (λ _. SaidBy limit start bytes all) [
      | inl h ↦ record {
        s = primitive n.0 read.es;
        is = record { name = name; fields = fields; spelled = h; first = λ rest k. first (rest ++ 44 ∷ fields) (h ∙ ap (λ l. l ++ 44 ∷ fields) k); number = a_number_is (number_in 4294967295 name) n.0 n.1; expressions = read.are };
        steps = steps;
      }
      | inr h ↦ absurd (no_field (start ++ Begin n.0 ∷ []) s.0 (ap (λ l. fields_behind limit (start ++ Begin n.0 ∷ []) (slice_split (is_byte 44) l)) (sym h) ∙ s.1))
    ]
  where
    regroup : (a b c d : List Step) → ((a ++ b) ++ c) ++ d ≡ a ++ ((b ++ c) ++ d)
    regroup a b c d = simp append_assoc

    no_field : (before : List Step) (x : List Step) → fields_behind limit before ([] ∷ []) ≡ Ok x → ⊥
    no_field before x e = let found = bind_ok (read_behind limit before []) (λ s. Ok s) x e in not_empty limit before found.0 found.1

-- a comment has no steps
pub record CommentBy (start : List Step) (text : List ℕ) (all : List Step) : Type 0 where
  pub is : IsComment text
  pub steps : all ≡ start

pub statement_said : (limit : ℕ) (start : List Step) (text : List ℕ) (all : List Step) → statement_behind limit start text ≡ Ok all → CommentBy start text all ⊎ SaidBy limit start text all
unfolding statement_behind
statement_said limit start [] all e = absurd cc
statement_said limit start (b ∷ bytes) all e = by_comment (b == 48) (b == 36) refl refl e
  where
    is_it : (b c : ℕ) → (b == c) ≡ true → b ≡ c
    is_it b c e = grind (arith, common_steps, e)

    is_not : (b c : ℕ) → (b == c) ≡ false → b ≡ c → ⊥
    is_not b c e h = grind (arith, common_steps, e, h)

    head_of : List ℕ → ℕ
    head_of [] = 0
    head_of (x ∷ xs) = x

    by_comment : (c d : Bool) → (b == 48) ≡ c → (b == 36) ≡ d → cond c (Ok start) (cond d (assignment_behind limit start bytes) (primitive_behind limit start (b ∷ bytes))) ≡ Ok all → CommentBy start (b ∷ bytes) all ⊎ SaidBy limit start (b ∷ bytes) all
    by_comment true d f g e = inl (record { is = (bytes, ap (λ x. x ∷ bytes) (is_it b 48 f)); steps = ok_same (Ok start) all start e refl })
    by_comment false true f g e = inr (subst (λ x. SaidBy limit start (x ∷ bytes) all) (sym (is_it b 36 g)) (assignment_said limit start bytes all e))
    by_comment false false f g e = inr (primitive_said limit start (b ∷ bytes) all (λ rest h. is_not b 48 f (same_head b 48 bytes rest h)) e)
      where
        same_head : (x y : ℕ) (xs ys : List ℕ) → x ∷ xs ≡ y ∷ ys → x ≡ y
        same_head x y xs ys h = cc

-- all statements

pub record AllSaid (limit : ℕ) (start : List Step) (texts : List (List ℕ)) (all : List Step) : Type 0 where
  pub ss : List Statement
  pub are : AreStatements limit texts ss
  pub steps : all ≡ start ++ steps_of ss

with_comment : (limit : ℕ) (text : List ℕ) (texts : List (List ℕ)) (ss : List Statement) → IsComment (filter is_no_space text) → AreStatements limit texts ss → AreStatements limit (text ∷ texts) ss
with_comment limit text texts [] c h = (c, h)
with_comment limit text texts (s ∷ ss) c h = inl (c, h)

pub statements_said : (limit : ℕ) (start : List Step) (texts : List (List ℕ)) (all : List Step) → statements_behind limit start texts ≡ Ok all → AllSaid limit start texts all
statements_said limit start [] all e = record { ss = []; are = tt; steps = ok_same (Ok start) all start e refl ∙ sym (append-nil start) }
statements_said limit start (text ∷ texts) all e =
    let found = bind_ok (statement_behind limit start (filter is_no_space text)) (λ s. statements_behind limit s texts) all e in
    let rest = statements_said limit found.0 texts all found.2 in
    elim (statement_said limit start (filter is_no_space text) found.0 found.1) as (λ _. AllSaid limit start (text ∷ texts) all) [
      | inl c ↦ record {
        ss = rest.ss;
        are = with_comment limit text texts rest.ss c.is rest.are;
        steps = rest.steps ∙ ap (λ s. s ++ steps_of rest.ss) c.steps;
      }
      | inr s ↦ record {
        ss = s.s ∷ rest.ss;
        are = inr (s.is, rest.are);
        steps = rest.steps ∙ ap (λ x. x ++ steps_of rest.ss) s.steps ∙ append_assoc start (statement_steps s.s) (steps_of rest.ss);
      }
    ]

-- the other way round: what is written is read

chosen : {A : Type 0} (t : Bool) (x n : A) → cond t (Some x) None ≡ Some n → t ≡ true
chosen true x n e = refl
chosen false x n e = absurd cc

three : (a b c : Bool) → (a && b && c) ≡ true → (a ≡ true) × (b ≡ true)
three true true c e = (refl, refl)
three true false c e = absurd (grind (arith, e))
three false b c e = absurd (grind (arith, e))

both : (a b : Bool) → (a && b) ≡ true → (a ≡ true) × (b ≡ true)
both true true e = (refl, refl)
both true false e = absurd (grind (arith, e))
both false b e = absurd (grind (arith, e))

-- a number has digits alone, and at least one
pub are_digits : (most : ℕ) (name : List ℕ) (n : ℕ) → number_in most name ≡ Some n → (list_all is_ascii_digit name ≡ true) × (nat_lt 0 (length name) ≡ true)
unfolding number_in
are_digits most name n e =
    three (list_all is_ascii_digit name) (nat_lt 0 (length name)) (nat_le (digits_value 10 name) most) (chosen (is_number most name) (digits_value 10 name) n e)

not_zero_number : (o : Option ℕ) (n : ℕ) → not_zero o ≡ Some n → (m : ℕ) × (o ≡ Some m)
not_zero_number None n e = absurd cc
not_zero_number (Some m) n e = (m, refl)

pub variable_digits : (name : List ℕ) (n : ℕ) → variable_in name ≡ Some n → list_all is_ascii_digit name ≡ true
unfolding variable_in
variable_digits name n e = let m = not_zero_number (number_in 255 name) n e in (are_digits 255 name m.0 m.1).0

-- the first such byte stands behind digits
pub behind_digits : (c : ℕ) (name rest : List ℕ) → (c == c) ≡ true → ((b : ℕ) → is_ascii_digit b ≡ true → (b == c) ≡ false) → list_all is_ascii_digit name ≡ true → position_or_len (is_byte c) (name ++ c ∷ rest) ≡ length name
behind_digits c [] rest self apart all = rw self refl
behind_digits c (b ∷ name) rest self apart all =
    let parts = both (is_ascii_digit b) (list_all is_ascii_digit name) all in
    let behind = behind_digits c name rest self apart parts.1 in
    rw (apart b parts.0) (omega (arith, behind))

drop_name : (name rest : List ℕ) (c : ℕ) → drop (suc (length name)) (name ++ c ∷ rest) ≡ rest
drop_name [] rest c = refl
drop_name (b ∷ name) rest c = drop_name name rest c

pub before_is : (c : ℕ) (name rest : List ℕ) → position_or_len (is_byte c) (name ++ c ∷ rest) ≡ length name → before_first (is_byte c) (name ++ c ∷ rest) ≡ name
before_is c name rest e = ap (λ k. take k (name ++ c ∷ rest)) e ∙ take-append_seam name (c ∷ rest)

pub after_is : (c : ℕ) (name rest : List ℕ) → position_or_len (is_byte c) (name ++ c ∷ rest) ≡ length name → after_first (is_byte c) (name ++ c ∷ rest) ≡ rest
after_is c name rest e =
    let next : length name + 1 ≡ suc (length name) = omega arith in
    ap (λ k. drop (k + 1) (name ++ c ∷ rest)) e ∙ ap (λ k. drop k (name ++ c ∷ rest)) next ∙ drop_name name rest c

pub no_equals : (b : ℕ) → is_ascii_digit b ≡ true → (b == 61) ≡ false
no_equals b e = grind (arith, common_steps, e)

pub no_comma : (b : ℕ) → is_ascii_digit b ≡ true → (b == 44) ≡ false
no_comma b e = grind (arith, common_steps, e)

no_dollar : (b : ℕ) → is_ascii_digit b ≡ true → (b == 36) ≡ false
no_dollar b e = grind (arith, common_steps, e)

assignment_reads : (limit : ℕ) (start : List Step) (text : List ℕ) (n : ℕ) (e : Expression) → IsAssignment limit text n e → statement_behind limit start text ≡ Ok (start ++ statement_steps (assignment n e))
unfolding statement_behind assignment_behind
assignment_reads limit start text n e h =
    let at = behind_digits 61 h.name h.value refl no_equals (variable_digits h.name n h.variable) in
    ap (statement_behind limit start) h.spelled
    ∙ ap (λ name. a_number (variable_in name) >>= λ m. read_behind limit start (after_first (is_byte 61) (h.name ++ 61 ∷ h.value)) >>= λ s. Ok (s ++ Assign m ∷ [])) (before_is 61 h.name h.value at)
    ∙ ap (λ o. a_number o >>= λ m. read_behind limit start (after_first (is_byte 61) (h.name ++ 61 ∷ h.value)) >>= λ s. Ok (s ++ Assign m ∷ [])) h.variable
    ∙ ap (λ value. read_behind limit start value >>= λ s. Ok (s ++ Assign n ∷ [])) (after_is 61 h.name h.value at)
    ∙ ap (λ r. r >>= λ s. Ok (s ++ Assign n ∷ [])) (text_reads limit start h.value e h.expression)
    ∙ ap Ok (append_assoc start (steps_in e) (Assign n ∷ []))

pub primitive_goes : (limit : ℕ) (start : List Step) (name rest : List ℕ) → list_all is_ascii_digit name ≡ true → nat_lt 0 (length name) ≡ true → ((bs : List ℕ) → name ≡ 48 ∷ bs → ⊥)
    → statement_behind limit start (name ++ rest) ≡ primitive_behind limit start (name ++ rest)
unfolding statement_behind
primitive_goes limit start [] rest all some first = absurd (grind (arith, some))
primitive_goes limit start (b ∷ bs) rest all some first = by_zero (b == 48) refl
  where
    is_it : (b c : ℕ) → (b == c) ≡ true → b ≡ c
    is_it b c e = grind (arith, common_steps, e)

    by_zero : (t : Bool) → (b == 48) ≡ t → cond (b == 48) (Ok start) (cond (b == 36) (assignment_behind limit start (bs ++ rest)) (primitive_behind limit start (b ∷ (bs ++ rest)))) ≡ primitive_behind limit start (b ∷ (bs ++ rest))
    by_zero true e = absurd (first bs (ap (λ x. x ∷ bs) (is_it b 48 e)))
    by_zero false e =
        ap (λ t. cond t (Ok start) (cond (b == 36) (assignment_behind limit start (bs ++ rest)) (primitive_behind limit start (b ∷ (bs ++ rest))))) e
        ∙ ap (λ t. cond t (assignment_behind limit start (bs ++ rest)) (primitive_behind limit start (b ∷ (bs ++ rest)))) (no_dollar b (both (is_ascii_digit b) (list_all is_ascii_digit bs) all).0)

primitive_reads : (limit : ℕ) (start : List Step) (text : List ℕ) (code : ℕ) (es : List Expression) → IsPrimitive limit text code es → statement_behind limit start text ≡ Ok (start ++ statement_steps (primitive code es))
unfolding primitive_behind
primitive_reads limit start text code es h =
    let digits = are_digits 4294967295 h.name code h.number in
    let at = behind_digits 44 h.name h.fields refl no_comma digits.0 in
    ap (statement_behind limit start) h.spelled
    ∙ primitive_goes limit start h.name (44 ∷ h.fields) digits.0 digits.1 h.first
    ∙ ap (λ name. a_number (number_in 4294967295 name) >>= λ c. fields_behind limit (start ++ Begin c ∷ []) (slice_split (is_byte 44) (after_first (is_byte 44) (h.name ++ 44 ∷ h.fields))) >>= λ s. Ok (s ++ Paint ∷ [])) (before_is 44 h.name h.fields at)
    ∙ ap (λ o. a_number o >>= λ c. fields_behind limit (start ++ Begin c ∷ []) (slice_split (is_byte 44) (after_first (is_byte 44) (h.name ++ 44 ∷ h.fields))) >>= λ s. Ok (s ++ Paint ∷ [])) h.number
    ∙ ap (λ fields. fields_behind limit (start ++ Begin code ∷ []) (slice_split (is_byte 44) fields) >>= λ s. Ok (s ++ Paint ∷ [])) (after_is 44 h.name h.fields at)
    ∙ ap (λ r. r >>= λ s. Ok (s ++ Paint ∷ [])) (fields_reads limit (start ++ Begin code ∷ []) (slice_split (is_byte 44) h.fields) es h.expressions)
    ∙ ap Ok (regroup start (Begin code ∷ []) (flat_map steps_in es) (Paint ∷ []))
  where
    regroup : (a b c d : List Step) → ((a ++ b) ++ c) ++ d ≡ a ++ ((b ++ c) ++ d)
    regroup a b c d = simp append_assoc

pub statement_reads : (limit : ℕ) (start : List Step) (text : List ℕ) (s : Statement) → IsStatement limit text s → statement_behind limit start text ≡ Ok (start ++ statement_steps s)
statement_reads limit start text (assignment n e) h = assignment_reads limit start text n e h
statement_reads limit start text (primitive code es) h = primitive_reads limit start text code es h

pub comment_reads : (limit : ℕ) (start : List Step) (text : List ℕ) → IsComment text → statement_behind limit start text ≡ Ok start
unfolding statement_behind
comment_reads limit start text h = ap (statement_behind limit start) h.1

statements_read : (limit : ℕ) (start : List Step) (texts : List (List ℕ)) (ss : List Statement) → AreStatements limit texts ss → statements_behind limit start texts ≡ Ok (start ++ steps_of ss)
statements_read limit start [] [] h = ap Ok (sym (append-nil start))
statements_read limit start [] (s ∷ ss) h = absurd h
statements_read limit start (text ∷ texts) [] h =
    ap (λ r. r >>= λ all. statements_behind limit all texts) (comment_reads limit start (filter is_no_space text) h.0) ∙ statements_read limit start texts [] h.1
statements_read limit start (text ∷ texts) (s ∷ ss) h = elim h as (λ _. statements_behind limit start (text ∷ texts) ≡ Ok (start ++ steps_of (s ∷ ss))) [
  | inl c ↦ ap (λ r. r >>= λ all. statements_behind limit all texts) (comment_reads limit start (filter is_no_space text) c.0) ∙ statements_read limit start texts (s ∷ ss) c.1
  | inr c ↦ ap (λ r. r >>= λ all. statements_behind limit all texts) (statement_reads limit start (filter is_no_space text) s c.0)
      ∙ statements_read limit (start ++ statement_steps s) texts ss c.1
      ∙ ap Ok (append_assoc start (statement_steps s) (steps_of ss))
]

pub body_reads : (bytes : List ℕ) (ss : List Statement) → IsBody bytes ss → macro_of bytes ≡ Ok ss
unfolding macro_of body_steps
body_reads bytes ss h = ap as_statements (statements_read 32 [] (slice_split (is_byte 42) bytes) ss h) ∙ ap Ok (statements_again ss)

pub body_said : (bytes : List ℕ) (ss : List Statement) → macro_of bytes ≡ Ok ss → IsBody bytes ss
unfolding macro_of body_steps
body_said bytes ss e = by_steps (statements_behind 32 [] (slice_split (is_byte 42) bytes)) refl e
  where
    by_steps : (r : Result (List Step) MacroFault) → statements_behind 32 [] (slice_split (is_byte 42) bytes) ≡ r → as_statements r ≡ Ok ss → IsBody bytes ss
    by_steps (Err f) here e = absurd cc
    by_steps (Ok steps) here e =
        let all = statements_said 32 [] (slice_split (is_byte 42) bytes) steps here in
        let same : all.ss ≡ ss = sym (statements_again all.ss) ∙ ap statements_in (sym all.steps) ∙ ok_same (Ok (statements_in steps)) (statements_in steps) ss refl e in
        subst (AreStatements 32 (slice_split (is_byte 42) bytes)) same all.are

pub one_body : (bytes : List ℕ) (ss ts : List Statement) → IsBody bytes ss → IsBody bytes ts → ss ≡ ts
one_body bytes ss ts g h = ok_same (macro_of bytes) ss ts (body_reads bytes ss g) (body_reads bytes ts h)
