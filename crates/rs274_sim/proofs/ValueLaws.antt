-- Values are read as they are spelled.
use Rattle.std.proofs.Common.{◌≡◌, ◌⊎◌, refl, ℕ, zero, suc, ◌≤◌, List, [], ◌∷◌, ◌++◌, Bool, true, false, cond, Option, Some, None, Ok, Err, length, ap, sym, ◌∙◌, subst, arith, inl, inr, append_assoc, length-append, ◌==◌}
use Rattle.std.proofs.lemmas.Grind.{common_steps}
use Rattle.board_base.specs.Binds.{◌>>=◌}
use Rattle.rs274_sim.specs.declared.line.Value.{Value, Param}
use Rattle.rs274_sim.specs.Text.{SpellsNumber, SpellsParameter, Operation, plus, minus, times, sign_of, joined, left_after, term_after, chain_value, SpellsSteps, SpellsBrackets, SpellsValue}
use Rattle.rs274_sim.specs.Reading.{LineFault, BadExpression, TooDeep, Found, begins_number, number_at, param_at, parameter_at, plain_at, operation_of, if_operation, ended, steps_at, brackets_at, value_at}
use Rattle.rs274_sim.proofs.FoundLaws.{same_ok, not_ok, bind_ok, guard_ok, passed_ok}
use Rattle.rs274_sim.proofs.NumberLaws.{Ends, Split, ends_digits, number_read, read_number, parameter_read, read_parameter, first_byte}

-- a reading of values, and the spelling that it reads
pub record Reads (Spells : List ℕ → Value → Type 0) (read : List ℕ → Found Value) : Type 0 where
  pub sound : (bytes rest : List ℕ) (v : Value) → read bytes ≡ Ok (v, rest) → Split Spells bytes v rest
  pub complete : (text rest : List ℕ) (v : Value) → Spells text v → Ends rest → read (text ++ rest) ≡ Ok (v, rest)

-- ---- values without brackets

abbrev Plain : List ℕ → Value → Type 0
Plain text v = SpellsNumber text v ⊎ SpellsParameter text v

pub byte_is : (b k : ℕ) → (b == k) ≡ true → b ≡ k
byte_is b k e = grind (arith, common_steps, e)

not_bracket : (b : ℕ) → begins_number b ≡ true → (b == 91) ≡ false
not_bracket b e = by_test (b == 91) refl
  where
    by_test : (p : Bool) → (b == 91) ≡ p → p ≡ false
    by_test true f = grind (arith, common_steps, e, f)
    by_test false f = refl

not_hash : (b : ℕ) → begins_number b ≡ true → (b == 35) ≡ false
not_hash b e = by_test (b == 35) refl
  where
    by_test : (p : Bool) → (b == 35) ≡ p → p ≡ false
    by_test true f = grind (arith, common_steps, e, f)
    by_test false f = refl

-- what is read of a value without brackets
pub record PlainRead (fault : LineFault) (text rest : List ℕ) (v : Value) : Type 0 where
  pub byte : ℕ
  pub more : List ℕ
  pub text_is : text ≡ byte ∷ more
  pub no_bracket : (byte == 91) ≡ false
  pub reads : plain_at fault byte (more ++ rest) ≡ Ok (v, rest)

plain_read : (fault : LineFault) (text rest : List ℕ) (v : Value) → Plain text v → Ends rest → PlainRead fault text rest v
unfolding param_at
plain_read fault text rest v (inl (d, h, e, value)) ends =
    let first = first_byte d h.decimal in
    let text_is : text ≡ first.0 ∷ first.1 = e ∙ first.2 in
    record {
      byte = first.0;
      more = first.1;
      text_is = text_is;
      no_bracket = not_bracket first.0 first.3;
      reads =
          ap (λ p. cond p (param_at (first.1 ++ rest)) (cond (begins_number first.0) (number_at (first.0 ∷ (first.1 ++ rest))) (Err fault))) (not_hash first.0 first.3)
          ∙ ap (λ p. cond p (number_at (first.0 ∷ (first.1 ++ rest))) (Err fault)) first.3
          ∙ ap (λ t. number_at (t ++ rest)) (sym first.2) ∙ number_read d rest h ends ∙ ap (λ x. Ok (x, rest)) (sym value);
    }
plain_read fault text rest v (inr (digits, n, h, e, value)) ends = record {
  byte = 35;
  more = digits;
  text_is = e;
  no_bracket = refl;
  reads = ap (λ r. r >>= (λ m. Ok (Param m.0, m.1))) (parameter_read digits rest n h (ends_digits rest ends)) ∙ ap (λ x. Ok (x, rest)) (sym value);
}

read_plain : (fault : LineFault) (b : ℕ) (bytes rest : List ℕ) (v : Value) → plain_at fault b bytes ≡ Ok (v, rest) → Split Plain (b ∷ bytes) v rest
unfolding param_at
read_plain fault b bytes rest v e = by_hash (b == 35) refl e
  where
    by_number : (p : Bool) → cond p (number_at (b ∷ bytes)) (Err fault) ≡ Ok (v, rest) → Split Plain (b ∷ bytes) v rest
    by_number true e = let found = read_number (b ∷ bytes) rest v e in (found.0, found.1, inl found.2)
    by_number false e = absurd (not_ok fault (v, rest) e)

    by_hash : (p : Bool) → (b == 35) ≡ p → cond p (parameter_at bytes >>= (λ n. Ok (Param n.0, n.1))) (cond (begins_number b) (number_at (b ∷ bytes)) (Err fault)) ≡ Ok (v, rest) → Split Plain (b ∷ bytes) v rest
    by_hash true is e =
        let found = bind_ok (parameter_at bytes) (λ n. Ok (Param n.0, n.1)) (v, rest) e in
        let same : (Param found.0.0, found.0.1) ≡ (v, rest) = same_ok (Param found.0.0, found.0.1) (v, rest) found.2 in
        let spelled = read_parameter bytes found.0.1 found.0.0 found.1 in (
          35 ∷ spelled.0,
          ap (λ c. c ∷ bytes) (byte_is b 35 is) ∙ ap (λ t. 35 ∷ t) (spelled.1 ∙ ap (λ p. spelled.0 ++ p.1) same),
          inr (spelled.0, found.0.0, spelled.2, refl, sym (ap (λ p. p.0) same)),
        )
    by_hash false is e = by_number (begins_number b) e

-- ---- operations

known : (op : Operation) → operation_of (sign_of op) ≡ Some op
known plus = refl
known minus = refl
known times = refl

no_closing : (op : Operation) → (sign_of op == 93) ≡ false
no_closing plus = refl
no_closing minus = refl
no_closing times = refl

ends_operation : (op : Operation) (bytes : List ℕ) → Ends (sign_of op ∷ bytes)
ends_operation plus bytes = refl
ends_operation minus bytes = refl
ends_operation times bytes = refl

the_sign : (b : ℕ) (op : Operation) → operation_of b ≡ Some op → b ≡ sign_of op
the_sign b op e = by_plus (b == 43) refl e
  where
    by_times : (p : Bool) → (b == 42) ≡ p → cond p (Some times) None ≡ Some op → b ≡ sign_of op
    by_times true f e = byte_is b 42 f ∙ ap sign_of (let same : times ≡ op = cc in same)
    by_times false f e = absurd cc

    by_minus : (p : Bool) → (b == 45) ≡ p → cond p (Some minus) (cond (b == 42) (Some times) None) ≡ Some op → b ≡ sign_of op
    by_minus true f e = byte_is b 45 f ∙ ap sign_of (let same : minus ≡ op = cc in same)
    by_minus false f e = by_times (b == 42) refl e

    by_plus : (p : Bool) → (b == 43) ≡ p → cond p (Some plus) (cond (b == 45) (Some minus) (cond (b == 42) (Some times) None)) ≡ Some op → b ≡ sign_of op
    by_plus true f e = byte_is b 43 f ∙ ap sign_of (let same : plus ≡ op = cc in same)
    by_plus false f e = by_minus (b == 45) refl e

-- an operation stands before, or is to come
abbrev AnyStep : Bool → List (Operation × Value) → Type 0
AnyStep some [] = some ≡ true
AnyStep some (s ∷ steps) = Unit {0}

ends_steps : (Spells : List ℕ → Value → Type 0) (steps : List (Operation × Value)) (text tail : List ℕ) → SpellsSteps Spells text steps → Ends (text ++ 93 ∷ tail)
ends_steps Spells [] text tail e = subst (λ t. Ends (t ++ 93 ∷ tail)) (sym e) refl
ends_steps Spells (s ∷ steps) text tail (front, rest, e, spelled, more) = subst (λ t. Ends (t ++ 93 ∷ tail)) (sym e) (ends_operation s.0 ((front ++ rest) ++ 93 ∷ tail))

-- operations are read up to the closing bracket
steps_read : (Spells : List ℕ → Value → Type 0) (read : List ℕ → Found Value) → Reads Spells read → (steps : List (Operation × Value)) (most : ℕ) (some : Bool) (left : Option (Value × Operation)) (term : Value) (text tail : List ℕ)
    → SpellsSteps Spells text steps → AnyStep some steps → length (text ++ 93 ∷ tail) ≤ most
    → steps_at read most some left term (text ++ 93 ∷ tail) ≡ Ok (chain_value left term steps, tail)
steps_read Spells read reads [] zero some left term text tail e any room = absurd (let long = length-append text (93 ∷ tail) in let one : length (93 ∷ tail) ≡ suc (length tail) = refl in omega (arith, room, long, one))
steps_read Spells read reads [] (suc most) some left term text tail e any room =
    ap (λ t. steps_at read (suc most) some left term (t ++ 93 ∷ tail)) e ∙ ap (λ p. cond p (Ok (joined left term, tail)) (Err BadExpression)) any
steps_read Spells read reads (s ∷ steps) zero some left term text tail spelled any room = absurd (let long = length-append text (93 ∷ tail) in let one : length (93 ∷ tail) ≡ suc (length tail) = refl in omega (arith, room, long, one))
steps_read Spells read reads (s ∷ steps) (suc most) some left term text tail (front, rest, e, spelled, more) any room =
    let after = rest ++ 93 ∷ tail in
    let inside : (front ++ rest) ++ 93 ∷ tail ≡ front ++ after = append_assoc front rest (93 ∷ tail) in
    let next : (Operation → Found Value) = λ op. read ((front ++ rest) ++ 93 ∷ tail) >>= (λ v. steps_at read most true (left_after op left term) (term_after op term v.0) v.1) in
    let short : length after ≤ most =
    omega (arith, room, ap (λ t. length (t ++ 93 ∷ tail)) e, ap length inside, length-append front after) in
    ap (λ t. steps_at read (suc most) some left term (t ++ 93 ∷ tail)) e
    ∙ ap (λ p. cond p (ended some (joined left term) ((front ++ rest) ++ 93 ∷ tail)) (if_operation (operation_of (sign_of s.0)) next)) (no_closing s.0)
    ∙ ap (λ o. if_operation o next) (known s.0)
    ∙ ap (λ t. read t >>= (λ v. steps_at read most true (left_after s.0 left term) (term_after s.0 term v.0) v.1)) inside
    ∙ ap (λ (r : Found Value). r >>= (λ v. steps_at read most true (left_after s.0 left term) (term_after s.0 term v.0) v.1)) (reads.complete front after s.1 spelled (ends_steps Spells steps rest tail more))
    ∙ steps_read Spells read reads steps most true (left_after s.0 left term) (term_after s.0 term s.1) rest tail more (any_after steps) short
  where
    any_after : (steps : List (Operation × Value)) → AnyStep true steps
    any_after [] = refl
    any_after (s ∷ steps) = tt

-- what is read as operations is spelled so
record StepsRead (Spells : List ℕ → Value → Type 0) (some : Bool) (left : Option (Value × Operation)) (term : Value) (bytes rest : List ℕ) (v : Value) : Type 0 where
  text : List ℕ
  steps : List (Operation × Value)
  here : bytes ≡ text ++ 93 ∷ rest
  spelled : SpellsSteps Spells text steps
  value : v ≡ chain_value left term steps
  any : AnyStep some steps

read_steps : (Spells : List ℕ → Value → Type 0) (read : List ℕ → Found Value) → Reads Spells read → (most : ℕ) (some : Bool) (left : Option (Value × Operation)) (term : Value) (bytes rest : List ℕ) (v : Value)
    → steps_at read most some left term bytes ≡ Ok (v, rest) → StepsRead Spells some left term bytes rest v
read_steps Spells read reads zero some left term bytes rest v e = absurd (not_ok BadExpression (v, rest) e)
read_steps Spells read reads (suc most) some left term [] rest v e = absurd (not_ok BadExpression (v, rest) e)
read_steps Spells read reads (suc most) some left term (b ∷ bytes) rest v e = by_closing (b == 93) refl (λ l t bs f. read_steps Spells read reads most true l t bs rest v f) e
  where
    Later : Type 0
    Later = (l : Option (Value × Operation)) (t : Value) (bs : List ℕ) → steps_at read most true l t bs ≡ Ok (v, rest) → StepsRead Spells true l t bs rest v

    by_operation : (o : Option Operation) → operation_of b ≡ o → Later
        → if_operation o (λ op. read bytes >>= (λ w. steps_at read most true (left_after op left term) (term_after op term w.0) w.1)) ≡ Ok (v, rest) → StepsRead Spells some left term (b ∷ bytes) rest v
    by_operation None is later e = absurd (not_ok BadExpression (v, rest) e)
    by_operation (Some op) is later e =
        let found = bind_ok (read bytes) (λ w. steps_at read most true (left_after op left term) (term_after op term w.0) w.1) (v, rest) e in
        let w = found.0 in
        let value = reads.sound bytes w.1 w.0 found.1 in
        let more = later (left_after op left term) (term_after op term w.0) w.1 found.2 in
        record {
          text = sign_of op ∷ (value.0 ++ more.text);
          steps = (op, w.0) ∷ more.steps;
          here =
              ap (λ c. c ∷ bytes) (the_sign b op is) ∙ ap (λ t. sign_of op ∷ t) (value.1 ∙ ap (λ t. value.0 ++ t) more.here ∙ sym (append_assoc value.0 more.text (93 ∷ rest)));
          spelled = (value.0, more.text, refl, value.2, more.spelled);
          value = more.value;
          any = tt;
        }

    by_closing : (p : Bool) → (b == 93) ≡ p → Later
        → cond p (ended some (joined left term) bytes) (if_operation (operation_of b) (λ op. read bytes >>= (λ w. steps_at read most true (left_after op left term) (term_after op term w.0) w.1))) ≡ Ok (v, rest)
        → StepsRead Spells some left term (b ∷ bytes) rest v
    by_closing true is later e =
        let found = passed_ok some BadExpression (Ok (joined left term, bytes)) (v, rest) e in
        let same : (joined left term, bytes) ≡ (v, rest) = same_ok (joined left term, bytes) (v, rest) found.1 in
        record {
          text = [];
          steps = [];
          here = ap (λ c. c ∷ bytes) (byte_is b 93 is) ∙ ap (λ p. 93 ∷ p.1) same;
          spelled = refl;
          value = sym (ap (λ p. p.0) same);
          any = found.0;
        }
    by_closing false is later e = by_operation (operation_of b) refl later e

-- ---- brackets

-- what is read behind an opening bracket
brackets_read : (Spells : List ℕ → Value → Type 0) (read : List ℕ → Found Value) → Reads Spells read → (text rest : List ℕ) (v : Value) → SpellsBrackets Spells text v
    → (more : List ℕ) × (text ++ rest ≡ 91 ∷ more) × (brackets_at read more ≡ Ok (v, rest))
unfolding brackets_at
brackets_read Spells read reads text rest v h =
    let after = h.rest ++ 93 ∷ rest in
    let inside = h.front ++ after in
    let steps = h.step ∷ h.steps in (
      inside,
      ap (λ t. t ++ rest) h.spelled ∙ ap (λ t. 91 ∷ t) (append_assoc (h.front ++ h.rest) (93 ∷ []) rest ∙ append_assoc h.front h.rest (93 ∷ rest)),
      ap (λ (r : Found Value). r >>= (λ first. steps_at read (length first.1) false None first.0 first.1)) (reads.complete h.front after h.first h.begins (ends_steps Spells steps h.rest rest h.goes_on))
          ∙ steps_read Spells read reads steps (length after) false None h.first h.rest rest h.goes_on tt (omega arith)
          ∙ ap (λ x. Ok (x, rest)) (sym h.value),
    )

read_brackets : (Spells : List ℕ → Value → Type 0) (read : List ℕ → Found Value) → Reads Spells read → (bytes rest : List ℕ) (v : Value) → brackets_at read bytes ≡ Ok (v, rest)
    → Split (SpellsBrackets Spells) (91 ∷ bytes) v rest
unfolding brackets_at
read_brackets Spells read reads bytes rest v e =
    let found = bind_ok (read bytes) (λ first. steps_at read (length first.1) false None first.0 first.1) (v, rest) e in
    let first = found.0 in
    let value = reads.sound bytes first.1 first.0 found.1 in
    by_steps first.0 first.1 value (read_steps Spells read reads (length first.1) false None first.0 first.1 rest v found.2)
  where
    by_steps : (first : Value) (after : List ℕ) → Split Spells bytes first after → StepsRead Spells false None first after rest v → Split (SpellsBrackets Spells) (91 ∷ bytes) v rest
    by_steps first after value read = by_list read.steps read.spelled read.value read.any
      where
        by_list : (steps : List (Operation × Value)) → SpellsSteps Spells read.text steps → v ≡ chain_value None first steps → AnyStep false steps → Split (SpellsBrackets Spells) (91 ∷ bytes) v rest
        by_list [] spelled is any = absurd (let wrong : false ≡ true = any in grind (arith, wrong))
        by_list (s ∷ steps) spelled is any = (
          91 ∷ (value.0 ++ read.text) ++ 93 ∷ [],
          ap (λ t. 91 ∷ t) (value.1 ∙ ap (λ t. value.0 ++ t) read.here ∙ sym (append_assoc value.0 read.text (93 ∷ rest)) ∙ sym (append_assoc (value.0 ++ read.text) (93 ∷ []) rest)),
          record { front = value.0; rest = read.text; first = first; step = s; steps = steps; spelled = refl; begins = value.2; goes_on = spelled; value = is },
        )

-- ---- all values

pub reads_values : (depth : ℕ) (fault : LineFault) → Reads (SpellsValue depth) (value_at depth fault)
reads_values zero fault = record { sound = sound; complete = complete }
  where
    sound : (bytes rest : List ℕ) (v : Value) → value_at zero fault bytes ≡ Ok (v, rest) → Split (SpellsValue zero) bytes v rest
    sound [] rest v e = absurd (not_ok fault (v, rest) e)
    sound (b ∷ bytes) rest v e = read_plain fault b bytes rest v (guard_ok (b == 91) TooDeep (plain_at fault b bytes) (v, rest) e).1

    complete : (text rest : List ℕ) (v : Value) → SpellsValue zero text v → Ends rest → value_at zero fault (text ++ rest) ≡ Ok (v, rest)
    complete text rest v h ends =
        let p = plain_read fault text rest v h ends in
        ap (λ t. value_at zero fault (t ++ rest)) p.text_is ∙ ap (λ b. cond b (Err TooDeep) (plain_at fault p.byte (p.more ++ rest))) p.no_bracket ∙ p.reads
reads_values (suc depth) fault = deeper (reads_values depth BadExpression)
  where
    deeper : Reads (SpellsValue depth) (value_at depth BadExpression) → Reads (SpellsValue (suc depth)) (value_at (suc depth) fault)
    deeper inner = record { sound = sound; complete = complete }
      where
        by_bracket : (b : ℕ) (bytes rest : List ℕ) (v : Value) (p : Bool) → (b == 91) ≡ p → cond p (brackets_at (value_at depth BadExpression) bytes) (plain_at fault b bytes) ≡ Ok (v, rest)
            → Split (SpellsValue (suc depth)) (b ∷ bytes) v rest
        by_bracket b bytes rest v true is e =
            let found = read_brackets (SpellsValue depth) (value_at depth BadExpression) inner bytes rest v e in
            (found.0, ap (λ c. c ∷ bytes) (byte_is b 91 is) ∙ found.1, inr found.2)
        by_bracket b bytes rest v false is e =
            let found = read_plain fault b bytes rest v e in
            (found.0, found.1, inl found.2)

        sound : (bytes rest : List ℕ) (v : Value) → value_at (suc depth) fault bytes ≡ Ok (v, rest) → Split (SpellsValue (suc depth)) bytes v rest
        sound [] rest v e = absurd (not_ok fault (v, rest) e)
        sound (b ∷ bytes) rest v e = by_bracket b bytes rest v (b == 91) refl e

        complete : (text rest : List ℕ) (v : Value) → SpellsValue (suc depth) text v → Ends rest → value_at (suc depth) fault (text ++ rest) ≡ Ok (v, rest)
        complete text rest v (inl h) ends =
            let p = plain_read fault text rest v h ends in
            ap (λ t. value_at (suc depth) fault (t ++ rest)) p.text_is
            ∙ ap (λ b. cond b (brackets_at (value_at depth BadExpression) (p.more ++ rest)) (plain_at fault p.byte (p.more ++ rest))) p.no_bracket ∙ p.reads
        complete text rest v (inr h) ends =
            let found = brackets_read (SpellsValue depth) (value_at depth BadExpression) inner text rest v h in
            ap (value_at (suc depth) fault) found.1 ∙ found.2
