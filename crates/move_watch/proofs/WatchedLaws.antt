-- What watchers on patrol find.
use Rattle.std.proofs.Common.{◌≡◌, refl, ℕ, suc, ◌+◌, ◌<◌, ◌^◌, List, [], ◌∷◌, Bool, true, false, cond, length, map, Option, Some, None, ap, sym, ◌∙◌, arith}
use Rattle.std.specs.Option.{option_map}
use Rattle.board_base.specs.Counts.{next_count}
use Rattle.board_base.specs.declared.places.Move.{Move}
use Rattle.move_watch.specs.declared.bounds.Limits.{Limits}
use Rattle.move_watch.specs.Bounds.{breaks_of}
use Rattle.move_watch.specs.Watch.{Watch, fresh}
use Rattle.move_watch.specs.Watched.{shown, shown_all, watched, first_break, seen_of, found}

-- one watcher is shown the moves, one after another
abbrev watch_all : List Move → Watch → Watch
watch_all [] w = w
watch_all (m ∷ ms) w = watch_all ms (shown m w)

-- watchers on patrol don't disturb one another
each_alone : (ms : List Move) (ws : List Watch) → watched ms ws ≡ map (watch_all ms) ws
each_alone [] ws = sym (map_same ws)
  where
    map_same : (ws : List Watch) → map (watch_all []) ws ≡ ws
    map_same [] = refl
    map_same (w ∷ ws) = ap (λ t. w ∷ t) (map_same ws)
each_alone (m ∷ ms) ws = each_alone ms (shown_all m ws) ∙ map_twice ws
  where
    map_twice : (ws : List Watch) → map (watch_all ms) (map (shown m) ws) ≡ map (watch_all (m ∷ ms)) ws
    map_twice [] = refl
    map_twice (w ∷ ws) = ap (λ t. watch_all ms (shown m w) ∷ t) (map_twice ws)

-- a watcher that objected stays as it is
objected : (ms : List Move) (l : Limits) (n k : ℕ) → watch_all ms (record { limits = l; seen = n; first = Some k }) ≡ record { limits = l; seen = n; first = Some k }
objected [] l n k = refl
objected (m ∷ ms) l n k = objected ms l n k

-- the number of the first move that breaks the bounds, where so many were shown before
abbrev later : ℕ → Option ℕ → Option ℕ
later n first = option_map (λ k. k + n) first

one_more : (n : ℕ) → n + 1 < 2 ^ 64 → next_count n ≡ n + 1
one_more n h = omega arith

more : (n k : ℕ) → (n + 1) + k ≡ n + suc k
more n k = omega arith

more_still : (n k : ℕ) → (n + 1) + (k + 1) ≡ n + (k + 1 + 1)
more_still n k = omega arith

beside : (n k : ℕ) → k + (n + 1) ≡ (k + 1) + n
beside n k = omega arith

none_before : (n : ℕ) → n ≡ 0 + n
none_before n = omega arith

-- a watcher that was shown n moves
from_there : (ms : List Move) (l : Limits) (n : ℕ) → n + length ms < 2 ^ 64
    → watch_all ms (record { limits = l; seen = n; first = None }) ≡ record { limits = l; seen = n + seen_of (first_break l ms) (length ms); first = later n (first_break l ms) }
from_there [] l n h = λ t. record { limits = l; seen = plus_none n t; first = None }
  where
    plus_none : (n : ℕ) → n ≡ n + 0
    plus_none n = omega arith
from_there (m ∷ ms) l n h = by_test (breaks_of l m) (from_there ms l (n + 1) (omega (arith, h)))
  where
    below : n + 1 < 2 ^ 64
    below = omega (arith, h)

    by_first : (first : Option ℕ) → ◌≡◌ {A = Watch} (record { limits = l; seen = (n + 1) + seen_of first (length ms); first = later (n + 1) first })
        (record { limits = l; seen = n + seen_of (option_map (λ k. k + 1) first) (suc (length ms)); first = later n (option_map (λ k. k + 1) first) })
    by_first None = λ t. record { limits = l; seen = more n (length ms) t; first = None }
    by_first (Some k) = λ t. record { limits = l; seen = more_still n k t; first = Some (beside n k t) }

    by_test : (b : Bool) → watch_all ms (record { limits = l; seen = n + 1; first = None }) ≡ record { limits = l; seen = (n + 1) + seen_of (first_break l ms) (length ms); first = later (n + 1) (first_break l ms) }
        → watch_all ms (record { limits = l; seen = next_count n; first = cond b (Some n) None })
        ≡ record { limits = l; seen = n + seen_of (cond b (Some 0) (option_map (λ k. k + 1) (first_break l ms))) (suc (length ms)); first = later n (cond b (Some 0) (option_map (λ k. k + 1) (first_break l ms))) }
    by_test true rest = objected ms l (next_count n) n ∙ (λ t. record { limits = l; seen = one_more n below t; first = Some (none_before n t) })
    by_test false rest = ap (λ k. watch_all ms (record { limits = l; seen = k; first = None })) (one_more n below) ∙ rest ∙ by_first (first_break l ms)

plus_zero : (n : ℕ) → 0 + n ≡ n
plus_zero n = omega arith

behind_zero : (n : ℕ) → n + 0 ≡ n
behind_zero n = omega arith

-- nothing before
from_start : (ms : List Move) (l : Limits) → length ms < 2 ^ 64 → watch_all ms (fresh l) ≡ found ms l
from_start ms l h = from_there ms l 0 (omega arith) ∙ by_first (first_break l ms)
  where
    by_first : (first : Option ℕ) → ◌≡◌ {A = Watch} (record { limits = l; seen = 0 + seen_of first (length ms); first = later 0 first }) (record { limits = l; seen = seen_of first (length ms); first = first })
    by_first None = λ t. record { limits = l; seen = plus_zero (length ms) t; first = None }
    by_first (Some k) = λ t. record { limits = l; seen = plus_zero (k + 1) t; first = Some (behind_zero k t) }

-- watchers that were shown no move before find this
pub all_found : (ms : List Move) (ls : List Limits) → length ms < 2 ^ 64 → watched ms (map fresh ls) ≡ map (found ms) ls
all_found ms ls h = each_alone ms (map fresh ls) ∙ each ls
  where
    each : (ls : List Limits) → map (watch_all ms) (map fresh ls) ≡ map (found ms) ls
    each [] = refl
    each (l ∷ ls) = λ t. from_start ms l h t ∷ each ls t
