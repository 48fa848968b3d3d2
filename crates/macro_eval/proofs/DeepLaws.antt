-- Where a body is refused.
use Rattle.std.proofs.Common.{◌≡◌, refl, ℕ, List, [], ◌∷◌, ◌++◌, Bool, true, false, cond, Option, Some, None, Result, Ok, Err, arith, ap, sym, ◌∙◌, subst, ◌⊎◌, inl, inr}
use Rattle.std.specs.Prelude.{◌==◌, filter}
use Rattle.std.specs.List.{before_first, after_first, slice_split}
use Rattle.std.proofs.lemmas.Grind.{common_steps}
use Rattle.board_base.specs.Binds.{◌>>=◌}
use Rattle.macro_eval.specs.declared.fault.MacroFault.{MacroFault}
use Rattle.macro_eval.specs.declared.fault.MacroFault.TheVariants.{BadExpression, TooDeep}
use Rattle.macro_eval.specs.declared.steps.Step.{Step}
use Rattle.macro_eval.specs.declared.steps.Step.TheVariants.{Assign, Begin, Paint}
use Rattle.macro_eval.specs.Pieces.{pieces_of}
use Rattle.macro_eval.specs.Words.{number_in, variable_in}
use Rattle.macro_eval.specs.Trees.{Expression, Statement, steps_in, statement_steps}
use Rattle.macro_eval.specs.Grammar.{IsExpression}
use Rattle.macro_eval.specs.Reading.{took_all, ended, read_behind}
use Rattle.macro_eval.specs.Spelled.{IsTooDeep}
use Rattle.macro_eval.specs.Statements.{is_byte, is_no_space, a_number, assignment_behind, fields_behind, primitive_behind, statement_behind, statements_behind, body_steps}
use Rattle.macro_eval.specs.Body.{IsStatement, IsComment, AreDeepFields, IsDeepAssignment, IsDeepPrimitive, AreDeepStatements, IsDeepBody, IsBody, as_statements, macro_of, MacroLaw}
use Rattle.macro_eval.proofs.Zippers.{wanted, nothing}
use Rattle.macro_eval.proofs.BodyLaws.{text_read, text_reads, at_first, fine_first}
use Rattle.macro_eval.proofs.SpelledLaws.{faults, deep_to, deep_from}
use Rattle.macro_eval.proofs.MacroLaws.{split_here, statement_said, statement_reads, comment_reads, body_said, body_reads, one_body, behind_digits, variable_digits, are_digits, before_is, after_is, no_equals, no_comma, primitive_goes, a_number_is}

err_same : {A : Type 0} (r : Result A MacroFault) (e f : MacroFault) → r ≡ Err e → r ≡ Err f → e ≡ f
err_same r e f x y = cc

-- what refuses: the first step, or the next one behind it
bind_err : {A B : Type 0} (r : Result A MacroFault) (f : A → Result B MacroFault) (e : MacroFault) → (r >>= f) ≡ Err e → (r ≡ Err e) ⊎ ((x : A) × (r ≡ Ok x) × (f x ≡ Err e))
bind_err (Ok x) f e h = inr (x, refl, h)
bind_err {A} {B} (Err d) f e h = inl (ap Err (err_same {A = B} (Err d) d e refl h))

-- a text that is too deep

text_deep : (limit : ℕ) (start : List Step) (text : List ℕ) → read_behind limit start text ≡ Err TooDeep → IsTooDeep limit (pieces_of text)
unfolding read_behind
text_deep limit start text e = deep_to limit start (pieces_of text) e

deep_text : (limit : ℕ) (start : List Step) (text : List ℕ) → IsTooDeep limit (pieces_of text) → read_behind limit start text ≡ Err TooDeep
unfolding read_behind
deep_text limit start text h = deep_from limit start (pieces_of text) h

-- a text is refused as bad or as too deep, and so is all that is made of texts
abbrev IsReading : MacroFault → Type 0
IsReading f = (f ≡ BadExpression) ⊎ (f ≡ TooDeep)

text_fault : (limit : ℕ) (start : List Step) (text : List ℕ) (f : MacroFault) → read_behind limit start text ≡ Err f → IsReading f
unfolding read_behind
text_fault limit start text f e =
    elim (faults limit start (wanted [] nothing) (pieces_of text) f (fine_first limit) (ap (λ k. took_all limit k (pieces_of text) >>= ended) (sym (at_first start)) ∙ e)) as (λ _. (f ≡ BadExpression) ⊎ (f ≡ TooDeep)) [
      | inl bad ↦ inl bad
      | inr deep ↦ inr deep.0
    ]

number_fault : (o : Option ℕ) (f : MacroFault) → a_number o ≡ Err f → f ≡ BadExpression
number_fault None f e = err_same {A = ℕ} (Err BadExpression) f BadExpression e refl
number_fault (Some n) f e = absurd cc

fields_fault : (limit : ℕ) (start : List Step) (texts : List (List ℕ)) (f : MacroFault) → fields_behind limit start texts ≡ Err f → IsReading f
fields_fault limit start [] f e = absurd cc
fields_fault limit start (text ∷ texts) f e =
    elim (bind_err (read_behind limit start text) (λ s. fields_behind limit s texts) f e) as (λ _. IsReading f) [
      | inl here ↦ text_fault limit start text f here
      | inr on ↦ fields_fault limit on.0 texts f on.2
    ]

statement_fault : (limit : ℕ) (start : List Step) (text : List ℕ) (f : MacroFault) → statement_behind limit start text ≡ Err f → IsReading f
unfolding statement_behind assignment_behind primitive_behind
statement_fault limit start [] f e = inl (err_same {A = List Step} (Err BadExpression) f BadExpression e refl)
statement_fault limit start (b ∷ bytes) f e = by_kind (b == 48) (b == 36) e
  where
    by_kind : (c d : Bool) → cond c (Ok start) (cond d (assignment_behind limit start bytes) (primitive_behind limit start (b ∷ bytes))) ≡ Err f → (f ≡ BadExpression) ⊎ (f ≡ TooDeep)
    by_kind true d e = absurd cc
    by_kind false true e =
        elim (bind_err (a_number (variable_in (before_first (is_byte 61) bytes))) (λ n. read_behind limit start (after_first (is_byte 61) bytes) >>= λ s. Ok (s ++ Assign n ∷ [])) f e) as (λ _. (f ≡ BadExpression) ⊎ (f ≡ TooDeep)) [
          | inl number ↦ inl (number_fault (variable_in (before_first (is_byte 61) bytes)) f number)
          | inr on ↦ elim (bind_err (read_behind limit start (after_first (is_byte 61) bytes)) (λ s. Ok (s ++ Assign on.0 ∷ [])) f on.2) as (λ _. (f ≡ BadExpression) ⊎ (f ≡ TooDeep)) [
            | inl here ↦ text_fault limit start (after_first (is_byte 61) bytes) f here
            | inr x ↦ absurd (no_fault x.2)
          ]
        ]
      where
        no_fault : {s : List Step} → Ok s ≡ Err f → ⊥
        no_fault {s} h = cc
    by_kind false false e =
        elim (bind_err (a_number (number_in 4294967295 (before_first (is_byte 44) (b ∷ bytes)))) (λ code. fields_behind limit (start ++ Begin code ∷ []) (slice_split (is_byte 44) (after_first (is_byte 44) (b ∷ bytes))) >>= λ s. Ok (s ++ Paint ∷ [])) f e) as (λ _. (f ≡ BadExpression) ⊎ (f ≡ TooDeep)) [
          | inl number ↦ inl (number_fault (number_in 4294967295 (before_first (is_byte 44) (b ∷ bytes))) f number)
          | inr on ↦ elim (bind_err (fields_behind limit (start ++ Begin on.0 ∷ []) (slice_split (is_byte 44) (after_first (is_byte 44) (b ∷ bytes)))) (λ s. Ok (s ++ Paint ∷ [])) f on.2) as (λ _. (f ≡ BadExpression) ⊎ (f ≡ TooDeep)) [
            | inl here ↦ fields_fault limit (start ++ Begin on.0 ∷ []) (slice_split (is_byte 44) (after_first (is_byte 44) (b ∷ bytes))) f here
            | inr x ↦ absurd (no_fault x.2)
          ]
        ]
      where
        no_fault : {s : List Step} → Ok s ≡ Err f → ⊥
        no_fault {s} h = cc

statements_fault : (limit : ℕ) (start : List Step) (texts : List (List ℕ)) (f : MacroFault) → statements_behind limit start texts ≡ Err f → IsReading f
statements_fault limit start [] f e = absurd cc
statements_fault limit start (text ∷ texts) f e =
    elim (bind_err (statement_behind limit start (filter is_no_space text)) (λ s. statements_behind limit s texts) f e) as (λ _. IsReading f) [
      | inl here ↦ statement_fault limit start (filter is_no_space text) f here
      | inr on ↦ statements_fault limit on.0 texts f on.2
    ]

-- too deep fields

fields_deep : (limit : ℕ) (start : List Step) (texts : List (List ℕ)) → fields_behind limit start texts ≡ Err TooDeep → AreDeepFields limit texts
fields_deep limit start [] e = absurd cc
fields_deep limit start (text ∷ texts) e =
    elim (bind_err (read_behind limit start text) (λ s. fields_behind limit s texts) TooDeep e) as (λ _. AreDeepFields limit (text ∷ texts)) [
      | inl here ↦ inl (text_deep limit start text here)
      | inr on ↦ inr (on_field on.0 on.1 (fields_deep limit on.0 texts on.2))
    ]
  where
    on_field : (s : List Step) → read_behind limit start text ≡ Ok s → AreDeepFields limit texts → (e : Expression) × IsExpression limit (pieces_of text) e × AreDeepFields limit texts
    on_field s h deep = let read = text_read limit start text s h in (read.e, read.is, deep)

deep_fields : (limit : ℕ) (start : List Step) (texts : List (List ℕ)) → AreDeepFields limit texts → fields_behind limit start texts ≡ Err TooDeep
deep_fields limit start [] h = absurd h
deep_fields limit start (text ∷ texts) h = elim h as (λ _. fields_behind limit start (text ∷ texts) ≡ Err TooDeep) [
  | inl here ↦ ap (λ r. r >>= λ s. fields_behind limit s texts) (deep_text limit start text here)
  | inr on ↦ ap (λ r. r >>= λ s. fields_behind limit s texts) (text_reads limit start text on.0 on.1) ∙ deep_fields limit (start ++ steps_in on.0) texts on.2
]

-- too deep statements

empty_bad : (limit : ℕ) (start : List Step) → read_behind limit start [] ≡ Err BadExpression
unfolding read_behind ended
empty_bad limit start = refl

not_deep : {A P : Type 0} (r : Result A MacroFault) → r ≡ Err BadExpression → r ≡ Err TooDeep → P
not_deep r e f = absurd cc

assignment_deep : (limit : ℕ) (start : List Step) (bytes : List ℕ) → assignment_behind limit start bytes ≡ Err TooDeep → IsDeepAssignment limit (36 ∷ bytes)
unfolding assignment_behind
assignment_deep limit start bytes e =
    elim (bind_err (a_number (variable_in (before_first (is_byte 61) bytes))) (λ n. read_behind limit start (after_first (is_byte 61) bytes) >>= λ s. Ok (s ++ Assign n ∷ [])) TooDeep e) as (λ _. IsDeepAssignment limit (36 ∷ bytes)) [
      | inl number ↦ absurd (no_number (number_fault (variable_in (before_first (is_byte 61) bytes)) TooDeep number))
      | inr on ↦ elim (bind_err (read_behind limit start (after_first (is_byte 61) bytes)) (λ s. Ok (s ++ Assign on.0 ∷ [])) TooDeep on.2) as (λ _. IsDeepAssignment limit (36 ∷ bytes)) [
        | inl here ↦ found on.0 on.1 here (split_here 61 bytes)
        | inr x ↦ absurd (no_fault (x.0 ++ Assign on.0 ∷ []) x.2)
      ]
    ]
  where
    no_number : TooDeep ≡ BadExpression → ⊥
    no_number h = cc

    no_fault : (s : List Step) → Ok s ≡ Err TooDeep → ⊥
    no_fault s h = cc

    found : (n : ℕ) → a_number (variable_in (before_first (is_byte 61) bytes)) ≡ Ok n → read_behind limit start (after_first (is_byte 61) bytes) ≡ Err TooDeep
        → (bytes ≡ before_first (is_byte 61) bytes ++ 61 ∷ after_first (is_byte 61) bytes) ⊎ (after_first (is_byte 61) bytes ≡ []) → IsDeepAssignment limit (36 ∷ bytes)
    found n number here (inl h) = record {
      name = before_first (is_byte 61) bytes;
      value = after_first (is_byte 61) bytes;
      n = n;
      spelled = ap (λ l. 36 ∷ l) h;
      variable = a_number_is (variable_in (before_first (is_byte 61) bytes)) n number;
      deep = text_deep limit start (after_first (is_byte 61) bytes) here;
    }
    found n number here (inr h) = not_deep (read_behind limit start []) (empty_bad limit start) (ap (read_behind limit start) (sym h) ∙ here)

no_field_deep : (limit : ℕ) (start : List Step) → AreDeepFields limit ([] ∷ []) → ⊥
no_field_deep limit start h = elim h as (λ _. ⊥) [
  | inl here ↦ not_deep (read_behind limit start []) (empty_bad limit start) (deep_text limit start [] here)
  | inr on ↦ on.2
]

primitive_deep : (limit : ℕ) (start : List Step) (bytes : List ℕ) → ((rest : List ℕ) → bytes ≡ 48 ∷ rest → ⊥) → primitive_behind limit start bytes ≡ Err TooDeep → IsDeepPrimitive limit bytes
unfolding primitive_behind
primitive_deep limit start bytes first e =
    elim (bind_err (a_number (number_in 4294967295 (before_first (is_byte 44) bytes))) (λ code. fields_behind limit (start ++ Begin code ∷ []) (slice_split (is_byte 44) (after_first (is_byte 44) bytes)) >>= λ s. Ok (s ++ Paint ∷ [])) TooDeep e) as (λ _. IsDeepPrimitive limit bytes) [
      | inl number ↦ absurd (no_number (number_fault (number_in 4294967295 (before_first (is_byte 44) bytes)) TooDeep number))
      | inr on ↦ elim (bind_err (fields_behind limit (start ++ Begin on.0 ∷ []) (slice_split (is_byte 44) (after_first (is_byte 44) bytes))) (λ s. Ok (s ++ Paint ∷ [])) TooDeep on.2) as (λ _. IsDeepPrimitive limit bytes) [
        | inl here ↦ found on.0 on.1 (fields_deep limit (start ++ Begin on.0 ∷ []) (slice_split (is_byte 44) (after_first (is_byte 44) bytes)) here) (split_here 44 bytes)
        | inr x ↦ absurd (no_fault (x.0 ++ Paint ∷ []) x.2)
      ]
    ]
  where
    no_number : TooDeep ≡ BadExpression → ⊥
    no_number h = cc

    no_fault : (s : List Step) → Ok s ≡ Err TooDeep → ⊥
    no_fault s h = cc

    found : (code : ℕ) → a_number (number_in 4294967295 (before_first (is_byte 44) bytes)) ≡ Ok code → AreDeepFields limit (slice_split (is_byte 44) (after_first (is_byte 44) bytes))
        → (bytes ≡ before_first (is_byte 44) bytes ++ 44 ∷ after_first (is_byte 44) bytes) ⊎ (after_first (is_byte 44) bytes ≡ []) → IsDeepPrimitive limit bytes
    found code number deep (inl h) = record {
      name = before_first (is_byte 44) bytes;
      fields = after_first (is_byte 44) bytes;
      code = code;
      spelled = h;
      first = λ rest k. first (rest ++ 44 ∷ after_first (is_byte 44) bytes) (h ∙ ap (λ l. l ++ 44 ∷ after_first (is_byte 44) bytes) k);
      number = a_number_is (number_in 4294967295 (before_first (is_byte 44) bytes)) code number;
      deep = deep;
    }
    found code number deep (inr h) = absurd (no_field_deep limit start (subst (λ l. AreDeepFields limit (slice_split (is_byte 44) l)) h deep))

statement_deep : (limit : ℕ) (start : List Step) (text : List ℕ) → statement_behind limit start text ≡ Err TooDeep → IsDeepAssignment limit text ⊎ IsDeepPrimitive limit text
unfolding statement_behind
statement_deep limit start [] e = absurd cc
statement_deep limit start (b ∷ bytes) e = by_kind (b == 48) (b == 36) refl refl e
  where
    is_it : (b c : ℕ) → (b == c) ≡ true → b ≡ c
    is_it b c e = grind (arith, common_steps, e)

    is_not : (b c : ℕ) → (b == c) ≡ false → b ≡ c → ⊥
    is_not b c e h = grind (arith, common_steps, e, h)

    same_head : (x y : ℕ) (xs ys : List ℕ) → x ∷ xs ≡ y ∷ ys → x ≡ y
    same_head x y xs ys h = cc

    by_kind : (c d : Bool) → (b == 48) ≡ c → (b == 36) ≡ d → cond c (Ok start) (cond d (assignment_behind limit start bytes) (primitive_behind limit start (b ∷ bytes))) ≡ Err TooDeep → IsDeepAssignment limit (b ∷ bytes) ⊎ IsDeepPrimitive limit (b ∷ bytes)
    by_kind true d f g e = absurd cc
    by_kind false true f g e = inl (subst (λ x. IsDeepAssignment limit (x ∷ bytes)) (sym (is_it b 36 g)) (assignment_deep limit start bytes e))
    by_kind false false f g e = inr (primitive_deep limit start (b ∷ bytes) (λ rest h. is_not b 48 f (same_head b 48 bytes rest h)) e)

deep_assignment : (limit : ℕ) (start : List Step) (text : List ℕ) → IsDeepAssignment limit text → statement_behind limit start text ≡ Err TooDeep
unfolding statement_behind assignment_behind
deep_assignment limit start text h =
    let at = behind_digits 61 h.name h.value refl no_equals (variable_digits h.name h.n h.variable) in
    ap (statement_behind limit start) h.spelled
    ∙ ap (λ name. a_number (variable_in name) >>= λ m. read_behind limit start (after_first (is_byte 61) (h.name ++ 61 ∷ h.value)) >>= λ s. Ok (s ++ Assign m ∷ [])) (before_is 61 h.name h.value at)
    ∙ ap (λ o. a_number o >>= λ m. read_behind limit start (after_first (is_byte 61) (h.name ++ 61 ∷ h.value)) >>= λ s. Ok (s ++ Assign m ∷ [])) h.variable
    ∙ ap (λ value. read_behind limit start value >>= λ s. Ok (s ++ Assign h.n ∷ [])) (after_is 61 h.name h.value at)
    ∙ ap (λ r. r >>= λ s. Ok (s ++ Assign h.n ∷ [])) (deep_text limit start h.value h.deep)

deep_primitive : (limit : ℕ) (start : List Step) (text : List ℕ) → IsDeepPrimitive limit text → statement_behind limit start text ≡ Err TooDeep
unfolding primitive_behind
deep_primitive limit start text h =
    let digits = are_digits 4294967295 h.name h.code h.number in
    let at = behind_digits 44 h.name h.fields refl no_comma digits.0 in
    ap (statement_behind limit start) h.spelled
    ∙ primitive_goes limit start h.name (44 ∷ h.fields) digits.0 digits.1 h.first
    ∙ ap (λ name. a_number (number_in 4294967295 name) >>= λ c. fields_behind limit (start ++ Begin c ∷ []) (slice_split (is_byte 44) (after_first (is_byte 44) (h.name ++ 44 ∷ h.fields))) >>= λ s. Ok (s ++ Paint ∷ [])) (before_is 44 h.name h.fields at)
    ∙ ap (λ o. a_number o >>= λ c. fields_behind limit (start ++ Begin c ∷ []) (slice_split (is_byte 44) (after_first (is_byte 44) (h.name ++ 44 ∷ h.fields))) >>= λ s. Ok (s ++ Paint ∷ [])) h.number
    ∙ ap (λ fields. fields_behind limit (start ++ Begin h.code ∷ []) (slice_split (is_byte 44) fields) >>= λ s. Ok (s ++ Paint ∷ [])) (after_is 44 h.name h.fields at)
    ∙ ap (λ r. r >>= λ s. Ok (s ++ Paint ∷ [])) (deep_fields limit (start ++ Begin h.code ∷ []) (slice_split (is_byte 44) h.fields) h.deep)

-- too deep bodies

statements_deep : (limit : ℕ) (start : List Step) (texts : List (List ℕ)) → statements_behind limit start texts ≡ Err TooDeep → AreDeepStatements limit texts
statements_deep limit start [] e = absurd cc
statements_deep limit start (text ∷ texts) e =
    elim (bind_err (statement_behind limit start (filter is_no_space text)) (λ s. statements_behind limit s texts) TooDeep e) as (λ _. AreDeepStatements limit (text ∷ texts)) [
      | inl here ↦ elim (statement_deep limit start (filter is_no_space text) here) as (λ _. AreDeepStatements limit (text ∷ texts)) [ inl a ↦ inl a | inr p ↦ inr (inl p) ]
      | inr on ↦ inr (inr (passed on.0 on.1, statements_deep limit on.0 texts on.2))
    ]
  where
    passed : (s : List Step) → statement_behind limit start (filter is_no_space text) ≡ Ok s → IsComment (filter is_no_space text) ⊎ ((t : Statement) × IsStatement limit (filter is_no_space text) t)
    passed s h = elim (statement_said limit start (filter is_no_space text) s h) as (λ _. IsComment (filter is_no_space text) ⊎ ((t : Statement) × IsStatement limit (filter is_no_space text) t)) [
      | inl c ↦ inl c.is
      | inr said ↦ inr (said.s, said.is)
    ]

deep_statements : (limit : ℕ) (start : List Step) (texts : List (List ℕ)) → AreDeepStatements limit texts → statements_behind limit start texts ≡ Err TooDeep
deep_statements limit start [] h = absurd h
deep_statements limit start (text ∷ texts) h = elim h as (λ _. statements_behind limit start (text ∷ texts) ≡ Err TooDeep) [
  | inl a ↦ ap (λ r. r >>= λ s. statements_behind limit s texts) (deep_assignment limit start (filter is_no_space text) a)
  | inr on ↦ elim on as (λ _. statements_behind limit start (text ∷ texts) ≡ Err TooDeep) [
    | inl p ↦ ap (λ r. r >>= λ s. statements_behind limit s texts) (deep_primitive limit start (filter is_no_space text) p)
    | inr later ↦ elim later.0 as (λ _. statements_behind limit start (text ∷ texts) ≡ Err TooDeep) [
      | inl c ↦ ap (λ r. r >>= λ s. statements_behind limit s texts) (comment_reads limit start (filter is_no_space text) c) ∙ deep_statements limit start texts later.1
      | inr s ↦ ap (λ r. r >>= λ all. statements_behind limit all texts) (statement_reads limit start (filter is_no_space text) s.0 s.1) ∙ deep_statements limit (start ++ statement_steps s.0) texts later.1
    ]
  ]
]

-- the law

steps_err : (r : Result (List Step) MacroFault) (f : MacroFault) → as_statements r ≡ Err f → r ≡ Err f
steps_err (Ok steps) f e = absurd cc
steps_err (Err g) f e = ap Err (err_same {A = List Statement} (Err g) g f refl e)

body_deep : (bytes : List ℕ) → macro_of bytes ≡ Err TooDeep → IsDeepBody bytes
unfolding macro_of body_steps
body_deep bytes e = statements_deep 32 [] (slice_split (is_byte 42) bytes) (steps_err (statements_behind 32 [] (slice_split (is_byte 42) bytes)) TooDeep e)

deep_body : (bytes : List ℕ) → IsDeepBody bytes → macro_of bytes ≡ Err TooDeep
unfolding macro_of body_steps
deep_body bytes h = ap as_statements (deep_statements 32 [] (slice_split (is_byte 42) bytes) h)

body_fault : (bytes : List ℕ) (f : MacroFault) → macro_of bytes ≡ Err f → IsReading f
unfolding macro_of body_steps
body_fault bytes f e = statements_fault 32 [] (slice_split (is_byte 42) bytes) f (steps_err (statements_behind 32 [] (slice_split (is_byte 42) bytes)) f e)

not_read : {A P : Type 0} (r : Result A MacroFault) (f : MacroFault) (x : A) → r ≡ Err f → r ≡ Ok x → P
not_read r f x e h = absurd cc

bad_to : (bytes : List ℕ) → macro_of bytes ≡ Err BadExpression → ((ss : List Statement) → IsBody bytes ss → ⊥) × (IsDeepBody bytes → ⊥)
bad_to bytes bad = (λ ss h. not_read (macro_of bytes) BadExpression ss bad (body_reads bytes ss h), λ h. not_deep (macro_of bytes) bad (deep_body bytes h))

bad_from : (bytes : List ℕ) → ((ss : List Statement) → IsBody bytes ss → ⊥) × (IsDeepBody bytes → ⊥) → macro_of bytes ≡ Err BadExpression
bad_from bytes h = by_result (macro_of bytes) refl
  where
    by_result : (r : Result (List Statement) MacroFault) → macro_of bytes ≡ r → macro_of bytes ≡ Err BadExpression
    by_result (Ok ss) e = absurd (h.0 ss (body_said bytes ss e))
    by_result (Err f) e = elim (body_fault bytes f e) as (λ _. macro_of bytes ≡ Err BadExpression) [
      | inl bad ↦ e ∙ ap Err bad
      | inr deep ↦ absurd (h.1 (body_deep bytes (e ∙ ap Err deep)))
    ]

pub macro_law : MacroLaw
macro_law = record {
  reads = λ bytes ss. (body_said bytes ss, body_reads bytes ss);
  one = one_body;
  deep = λ bytes. (body_deep bytes, deep_body bytes);
  bad = λ bytes. (bad_to bytes, bad_from bytes);
}
