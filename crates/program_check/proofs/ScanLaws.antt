-- The first move that hits a cell has the least line.
use Rattle.std.proofs.Common.{◌≡◌, ℕ, zero, suc, ◌+◌, ◌<◌, ◌≤◌, ℤ, Bool, true, false, cond, ◌⊎◌, inl, inr, List, [], ◌∷◌, ◌++◌, Option, Some, None, Result, Ok, Err, refl, sym, ◌∙◌, subst, arith}
use Rattle.std.specs.List.{Contains}
use Rattle.std.proofs.lemmas.List.Elements.{Contains-append_cases}
use Rattle.board_base.specs.declared.places.Cell.{Cell}
use Rattle.board_base.specs.declared.places.Move.{Move}
use Rattle.rs274_sim.specs.declared.line.Line.{Line}
use Rattle.rs274_sim.specs.declared.fault.SimFault.{SimFault}
use Rattle.rs274_sim.specs.Machine.{Machine, start, step, is_end, with_move, then_run, run_from, run_of}
use Rattle.cell_sets.specs.Chains.{IsBefore}
use Rattle.program_check.specs.Hits.{IsHit}
use Rattle.program_check.specs.Scan.{IsRising, RisingLaw, ScanLaw}
use Rattle.program_check.proofs.RunLaws.{one_value, step_is, move_is}

-- ---- a run's lines rise

step_line : (answers : List ℤ) (number : ℕ) (line : Line) (m : Machine) (done : Machine × Option Move) (move : Move) → step answers number line m ≡ Ok done → done.1 ≡ Some move → move.line ≡ number
step_line answers number line m done move e made =
    let s = step_is answers number line m done e in
    sym (move_is answers number s.said m move (s.made ∙ made)).of_line

later : (n : ℕ) (moves : List Move) → IsRising (n + 1) moves → IsRising n moves
later n [] r = r
later n (m ∷ moves) r = (less n m.line r.0, r.1)
  where
    less : (n l : ℕ) → n + 1 < l → n < l
    less n l h = omega (arith, h)

-- with the moves of the rest
with_rest : (before : ℕ) (made : Option Move) (rest : Result (List Move) (SimFault × ℕ)) (moves : List Move) → ((move : Move) → made ≡ Some move → move.line ≡ before + 1)
    → ((ms : List Move) → rest ≡ Ok ms → IsRising (before + 1) ms) → with_move made rest ≡ Ok moves → IsRising before moves
with_rest before None rest moves of rises e = later before moves (rises moves e)
with_rest before (Some move) (Ok ms) moves of rises e = subst (λ (xs : List Move). IsRising before xs) (one_value (move ∷ ms) moves (with_move (Some move) (Ok ms)) refl e) (next move.line (of move refl), subst (λ (l : ℕ). IsRising l ms) (sym (of move refl)) (rises ms refl))
  where
    next : (l : ℕ) → l ≡ before + 1 → before < l
    next l e = omega (arith, e)
with_rest before (Some move) (Err f) moves of rises e = absurd (cc)

rises_from : (answers : List ℤ) (before : ℕ) (m : Machine) (lines : List Line) (moves : List Move) → run_from answers before m lines ≡ Ok moves → IsRising before moves
rises_from answers before m [] moves e = absurd (cc)
rises_from answers before m (line ∷ lines) moves e =
    by_step (λ next ms. rises_from answers (before + 1) next lines ms) (step answers (before + 1) line m) refl e
  where
    unit : IsRising (before + 1) []
    unit = record {}

    none : (ms : List Move) (r : Result (List Move) (SimFault × ℕ)) → r ≡ Ok [] → r ≡ Ok ms → IsRising (before + 1) ms
    none ms r e f = subst (λ (xs : List Move). IsRising (before + 1) xs) (one_value [] ms r e f) unit

    by_end : (ends : Bool) (rest : Result (List Move) (SimFault × ℕ)) → ((ms : List Move) → rest ≡ Ok ms → IsRising (before + 1) ms) → (ms : List Move) → cond ends (Ok []) rest ≡ Ok ms → IsRising (before + 1) ms
    by_end true rest rises ms e = none ms (Ok []) refl e
    by_end false rest rises ms e = rises ms e

    by_step : ((next : Machine) (ms : List Move) → run_from answers (before + 1) next lines ≡ Ok ms → IsRising (before + 1) ms)
        → (r : Result (Machine × Option Move) SimFault) → step answers (before + 1) line m ≡ r
        → then_run (before + 1) (is_end line.words) (λ next. run_from answers (before + 1) next lines) r ≡ Ok moves → IsRising before moves
    by_step rises (Err fault) s e = absurd (cc)
    by_step rises (Ok done) s e =
        with_rest before done.1 (cond (is_end line.words) (Ok []) (run_from answers (before + 1) done.0 lines)) moves
        (λ move made. step_line answers (before + 1) line m done move s made)
        (by_end (is_end line.words) (run_from answers (before + 1) done.0 lines) (rises done.0)) e

pub rising_holds : RisingLaw
unfolding run_of
rising_holds answers lines moves e = rises_from answers 0 start lines moves e

-- ---- the scan

pub none_there : (m : Move) → Contains [] m → ⊥
none_there m h = omega (arith, h.1)

cons_cases : (a : Move) (ms : List Move) (m : Move) → Contains (a ∷ ms) m → (a ≡ m) ⊎ Contains ms m
cons_cases a ms m (zero, h, e) = inl e
cons_cases a ms m (suc n, h, e) = inr (n, omega (arith, h), e)

-- the lines of rising moves are past n
past : (n : ℕ) (moves : List Move) (m : Move) → IsRising n moves → Contains moves m → n < m.line
past n [] m r h = absurd (none_there m h)
past n (a ∷ ms) m r h = by_case (λ there. past a.line ms m r.1 there) (cons_cases a ms m h)
  where
    both : (n k l : ℕ) → n < k → k < l → n < l
    both n k l h i = omega (arith, h, i)

    by_case : (Contains ms m → a.line < m.line) → (a ≡ m) ⊎ Contains ms m → n < m.line
    by_case further (inl e) = subst (λ (x : Move). n < x.line) e r.0
    by_case further (inr there) = both n a.line m.line r.0 (further there)

behind : (n : ℕ) (before : List Move) (move : Move) (rest : List Move) → IsRising n (before ++ move ∷ rest) → IsRising move.line rest
behind n [] move rest r = r.1
behind n (a ∷ ms) move rest r = behind a.line ms move rest r.1

pub scan_holds : ScanLaw
scan_holds k painted safe before move rest c rising clear hit first = record {
  move = move;
  of_line = refl;
  hit = hit;
  least = λ m d h. by_place m d h (Contains-append_cases before (move ∷ rest) m h.0);
  first = λ m d e h b. by_same m d e h b (Contains-append_cases before (move ∷ rest) m h.0);
}
  where
    same_line : (l : ℕ) → l ≤ l
    same_line l = omega arith

    weak : (a b : ℕ) → a < b → a ≤ b
    weak a b h = omega (arith, h)

    not_both : (a b : ℕ) → a < b → b ≡ a → ⊥
    not_both a b h e = omega (arith, h, e)

    after_it : (m : Move) → Contains rest m → move.line < m.line
    after_it m there = past move.line rest m (behind 0 before move rest rising) there

    by_part : (m : Move) → (move ≡ m) ⊎ Contains rest m → move.line ≤ m.line
    by_part m (inl e) = subst (λ (x : Move). move.line ≤ x.line) e (same_line move.line)
    by_part m (inr there) = weak move.line m.line (after_it m there)

    by_place : (m : Move) (d : Cell) → IsHit k painted safe (before ++ move ∷ rest) m d → Contains before m ⊎ Contains (move ∷ rest) m → move.line ≤ m.line
    by_place m d h (inl there) = absurd (clear m d (there, h.1, h.2, h.3))
    by_place m d h (inr there) = by_part m (cons_cases move rest m there)

    by_move : (m : Move) (d : Cell) → m.line ≡ move.line → IsHit k painted safe (before ++ move ∷ rest) m d → IsBefore d c → (move ≡ m) ⊎ Contains rest m → ⊥
    by_move m d e h b (inl is) = first d (subst (λ (x : Move). IsHit k painted safe (before ++ move ∷ rest) x d) (sym is) h) b
    by_move m d e h b (inr there) = not_both move.line m.line (after_it m there) e

    by_same : (m : Move) (d : Cell) → m.line ≡ move.line → IsHit k painted safe (before ++ move ∷ rest) m d → IsBefore d c → Contains before m ⊎ Contains (move ∷ rest) m → ⊥
    by_same m d e h b (inl there) = clear m d (there, h.1, h.2, h.3)
    by_same m d e h b (inr there) = by_move m d e h b (cons_cases move rest m there)
