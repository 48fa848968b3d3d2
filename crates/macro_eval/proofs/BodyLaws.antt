-- What is read as steps is written as statements, and the other way round.
use Rattle.std.proofs.Common.{◌≡◌, refl, ℕ, List, [], ◌∷◌, ◌++◌, Bool, true, false, cond, Option, Some, None, Result, Ok, Err, length, arith, ap, sym, ◌∙◌, subst, append_assoc}
use Rattle.std.specs.Prelude.{◌==◌, map, filter, flat_map}
use Rattle.std.specs.List.{before_first, after_first, slice_split}
use Rattle.std.proofs.lemmas.Grind.{common_steps}
use Rattle.std.proofs.lemmas.List.{append-nil}
use Rattle.board_base.specs.Binds.{◌>>=◌}
use Rattle.macro_eval.specs.declared.fault.MacroFault.{MacroFault}
use Rattle.macro_eval.specs.declared.fault.MacroFault.TheVariants.{BadExpression}
use Rattle.macro_eval.specs.declared.steps.Step.{Step}
use Rattle.macro_eval.specs.declared.steps.Step.TheVariants.{Assign, Begin, Paint}
use Rattle.macro_eval.specs.Pieces.{Piece, pieces_of}
use Rattle.macro_eval.specs.Words.{number_in, variable_in}
use Rattle.macro_eval.specs.Trees.{Expression, Statement, assignment, primitive, steps_in, statement_steps, steps_of}
use Rattle.macro_eval.specs.Grammar.{meant, IsExpression}
use Rattle.macro_eval.specs.Reading.{at_start, blank, settled, took_all, ended, read_behind}
use Rattle.macro_eval.specs.Statements.{is_byte, is_no_space, a_number, assignment_behind, fields_behind, primitive_behind, statement_behind, statements_behind, body_steps}
use Rattle.macro_eval.specs.Heard.{statements_in}
use Rattle.macro_eval.specs.Body.{AreFields}
use Rattle.macro_eval.proofs.Zippers.{Zipper, wanted, done, nothing, sum_of, level_of, shown, zipper_pieces}
use Rattle.macro_eval.proofs.ZipSteps.{ended_there}
use Rattle.macro_eval.proofs.ZipReads.{reads_all}
use Rattle.macro_eval.proofs.ZipSound.{Fine, all_sum, sum_spelling, all_came, bind_ok}
use Rattle.macro_eval.specs.Again.{statements_again}

-- the steps are those of an expression that the pieces are, behind others
pub record Read (limit : ℕ) (start : List Step) (ps : List Piece) (all : List Step) : Type 0 where
  pub e : Expression
  pub is : IsExpression limit ps e
  pub steps : all ≡ start ++ steps_in e

ok_same : {A : Type 0} (r : Result A MacroFault) (x y : A) → r ≡ Ok x → r ≡ Ok y → x ≡ y
ok_same r x y e f = cc

pub not_none : {A : Type 0} (x : A) (xs : List A) → (length (x ∷ xs) == 0) ≡ false
not_none x xs = grind (arith, common_steps)

ended_written : (limit : ℕ) (start : List Step) (z : Zipper) (all : List Step) → Fine limit z → ended (shown start z) ≡ Ok all → Read limit start (zipper_pieces z) all
unfolding ended
ended_written limit start (wanted outer l) all fine e = absurd cc
ended_written limit start (done [] l w) all fine e =
    let whole = all_sum limit 0 l w fine.0 fine.2 fine.3 in
    record {
      e = meant false (sum_of l w);
      is = record { written = sum_of l w; fits = whole.0; deep = omega (arith, whole.1); spelled = sum_spelling l w; means = refl };
      steps = ok_same (ended (shown start (done [] l w))) all (start ++ steps_in (meant false (sum_of l w))) e (ended_there start l w);
    }
ended_written limit start (done (k ∷ outer) l w) all fine e =
    let none : Err BadExpression ≡ Ok all = sym (ap (λ t. cond t (Ok (settled (shown start (done (k ∷ outer) l w)).steps (shown start (done (k ∷ outer) l w)).level)) (Err BadExpression)) (not_none (level_of k) (map level_of outer))) ∙ e in
    absurd cc

pub at_first : (start : List Step) → at_start start ≡ shown start (wanted [] nothing)
at_first start = ap (λ s. record { steps = s; outer = []; level = blank; wanted = true }) (sym (append-nil start))

pub fine_first : (limit : ℕ) → Fine limit (wanted [] nothing)
fine_first limit = (record { in_sum = tt; in_product = tt; signs = tt }, tt, omega arith)

pub pieces_read : (limit : ℕ) (start : List Step) (ps : List Piece) (all : List Step) → (took_all limit (at_start start) ps >>= ended) ≡ Ok all → Read limit start ps all
pieces_read limit start ps all e =
    let found = bind_ok (took_all limit (at_start start) ps) ended all e in
    let led = all_came limit start (wanted [] nothing) ps found.0 (fine_first limit) (ap (λ h. took_all limit h ps) (sym (at_first start)) ∙ found.1) in
    let written = ended_written limit start led.next all led.fine (ap ended led.shows ∙ found.2) in
    record { e = written.e; is = subst (λ qs. IsExpression limit qs written.e) led.pieces written.is; steps = written.steps }

pub text_read : (limit : ℕ) (start : List Step) (text : List ℕ) (all : List Step) → read_behind limit start text ≡ Ok all → Read limit start (pieces_of text) all
unfolding read_behind
text_read limit start text all e = pieces_read limit start (pieces_of text) all e

pub text_reads : (limit : ℕ) (start : List Step) (text : List ℕ) (e : Expression) → IsExpression limit (pieces_of text) e → read_behind limit start text ≡ Ok (start ++ steps_in e)
unfolding read_behind
text_reads limit start text e h = reads_all limit start (pieces_of text) e h

-- fields

pub record ReadFields (limit : ℕ) (start : List Step) (texts : List (List ℕ)) (all : List Step) : Type 0 where
  pub es : List Expression
  pub are : AreFields limit texts es
  pub steps : all ≡ start ++ flat_map steps_in es

pub fields_read : (limit : ℕ) (start : List Step) (texts : List (List ℕ)) (all : List Step) → fields_behind limit start texts ≡ Ok all → ReadFields limit start texts all
fields_read limit start [] all e = record { es = []; are = tt; steps = ok_same (Ok start) all start e refl ∙ sym (append-nil start) }
fields_read limit start (text ∷ texts) all e =
    let found = bind_ok (read_behind limit start text) (λ s. fields_behind limit s texts) all e in
    let first = text_read limit start text found.0 found.1 in
    let rest = fields_read limit found.0 texts all found.2 in
    record {
      es = first.e ∷ rest.es;
      are = (first.is, rest.are);
      steps = rest.steps ∙ ap (λ s. s ++ flat_map steps_in rest.es) first.steps ∙ append_assoc start (steps_in first.e) (flat_map steps_in rest.es);
    }

pub fields_reads : (limit : ℕ) (start : List Step) (texts : List (List ℕ)) (es : List Expression) → AreFields limit texts es → fields_behind limit start texts ≡ Ok (start ++ flat_map steps_in es)
fields_reads limit start [] [] h = ap Ok (sym (append-nil start))
fields_reads limit start [] (e ∷ es) h = absurd h
fields_reads limit start (text ∷ texts) [] h = absurd h
fields_reads limit start (text ∷ texts) (e ∷ es) h =
    ap (λ r. r >>= λ s. fields_behind limit s texts) (text_reads limit start text e h.0)
    ∙ fields_reads limit (start ++ steps_in e) texts es h.1
    ∙ ap Ok (append_assoc start (steps_in e) (flat_map steps_in es))

-- statements

a_number_ok : (o : Option ℕ) (n : ℕ) → a_number o ≡ Ok n → o ≡ Some n
a_number_ok None n e = absurd cc
a_number_ok (Some m) n e = cc

-- the steps are those of statements
pub record Stated (start all : List Step) : Type 0 where
  pub ss : List Statement
  pub steps : all ≡ start ++ steps_of ss

one_stated : (start all : List Step) (s : Statement) → all ≡ start ++ statement_steps s → Stated start all
one_stated start all s e = record { ss = s ∷ []; steps = e ∙ ap (λ steps. start ++ steps) (sym (append-nil (statement_steps s))) }

assignment_stated : (limit : ℕ) (start : List Step) (bytes : List ℕ) (all : List Step) → assignment_behind limit start bytes ≡ Ok all → Stated start all
unfolding assignment_behind
assignment_stated limit start bytes all e =
    let n = bind_ok (a_number (variable_in (before_first (is_byte 61) bytes))) (λ n. read_behind limit start (after_first (is_byte 61) bytes) >>= λ s. Ok (s ++ Assign n ∷ [])) all e in
    let s = bind_ok (read_behind limit start (after_first (is_byte 61) bytes)) (λ s. Ok (s ++ Assign n.0 ∷ [])) all n.2 in
    let read = text_read limit start (after_first (is_byte 61) bytes) s.0 s.1 in
    let whole : all ≡ s.0 ++ Assign n.0 ∷ [] = ok_same (Ok all) all (s.0 ++ Assign n.0 ∷ []) refl (sym s.2) in
    one_stated start all (assignment n.0 read.e) (whole ∙ ap (λ steps. steps ++ Assign n.0 ∷ []) read.steps ∙ append_assoc start (steps_in read.e) (Assign n.0 ∷ []))

primitive_stated : (limit : ℕ) (start : List Step) (bytes : List ℕ) (all : List Step) → primitive_behind limit start bytes ≡ Ok all → Stated start all
unfolding primitive_behind
primitive_stated limit start bytes all e =
    let texts = slice_split (is_byte 44) (after_first (is_byte 44) bytes) in
    let n = bind_ok (a_number (number_in 4294967295 (before_first (is_byte 44) bytes))) (λ code. fields_behind limit (start ++ Begin code ∷ []) (slice_split (is_byte 44) (after_first (is_byte 44) bytes)) >>= λ s. Ok (s ++ Paint ∷ [])) all e in
    let s = bind_ok (fields_behind limit (start ++ Begin n.0 ∷ []) texts) (λ s. Ok (s ++ Paint ∷ [])) all n.2 in
    let read = fields_read limit (start ++ Begin n.0 ∷ []) texts s.0 s.1 in
    let whole : all ≡ s.0 ++ Paint ∷ [] = ok_same (Ok all) all (s.0 ++ Paint ∷ []) refl (sym s.2) in
    one_stated start all (primitive n.0 read.es) (whole ∙ ap (λ steps. steps ++ Paint ∷ []) read.steps ∙ regroup start (Begin n.0 ∷ []) (flat_map steps_in read.es) (Paint ∷ []))
  where
    regroup : (a b c d : List Step) → ((a ++ b) ++ c) ++ d ≡ a ++ ((b ++ c) ++ d)
    regroup a b c d = simp append_assoc

none_stated : (start all : List Step) (r : Result (List Step) MacroFault) → r ≡ Ok start → r ≡ Ok all → Stated start all
none_stated start all r s e = record { ss = []; steps = ok_same r all start e s ∙ sym (append-nil start) }

statement_stated : (limit : ℕ) (start : List Step) (text : List ℕ) (all : List Step) → statement_behind limit start text ≡ Ok all → Stated start all
unfolding statement_behind
statement_stated limit start [] all e = absurd cc
statement_stated limit start (b ∷ bytes) all e = by_comment (b == 48) (b == 36) e
  where
    by_comment : (c d : Bool) → cond c (Ok start) (cond d (assignment_behind limit start bytes) (primitive_behind limit start (b ∷ bytes))) ≡ Ok all → Stated start all
    by_comment true d e = none_stated start all (Ok start) refl e
    by_comment false true e = assignment_stated limit start bytes all e
    by_comment false false e = primitive_stated limit start (b ∷ bytes) all e

flat_append : (ss ts : List Statement) → steps_of (ss ++ ts) ≡ steps_of ss ++ steps_of ts
flat_append [] ts = refl
flat_append (s ∷ ss) ts = ap (λ steps. statement_steps s ++ steps) (flat_append ss ts) ∙ sym (append_assoc (statement_steps s) (steps_of ss) (steps_of ts))

statements_stated : (limit : ℕ) (start : List Step) (texts : List (List ℕ)) (all : List Step) → statements_behind limit start texts ≡ Ok all → Stated start all
statements_stated limit start [] all e = none_stated start all (Ok start) refl e
statements_stated limit start (text ∷ texts) all e =
    let found = bind_ok (statement_behind limit start (filter is_no_space text)) (λ s. statements_behind limit s texts) all e in
    let first = statement_stated limit start (filter is_no_space text) found.0 found.1 in
    let rest = statements_stated limit found.0 texts all found.2 in
    record {
      ss = first.ss ++ rest.ss;
      steps = rest.steps ∙ ap (λ s. s ++ steps_of rest.ss) first.steps ∙ append_assoc start (steps_of first.ss) (steps_of rest.ss) ∙ ap (λ s. start ++ s) (sym (flat_append first.ss rest.ss));
    }

-- the steps of a body are those of its statements
pub body_whole : (bytes : List ℕ) (all : List Step) → body_steps bytes ≡ Ok all → all ≡ steps_of (statements_in all)
unfolding body_steps
body_whole bytes all e =
    let stated = statements_stated 32 [] (slice_split (is_byte 42) bytes) all e in
    stated.steps ∙ ap steps_of (sym (statements_again stated.ss) ∙ ap statements_in (sym stated.steps))
