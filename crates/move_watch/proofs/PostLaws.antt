-- Lists of places, one changed after another.
use Rattle.std.proofs.Common.{◌≡◌, refl, ℕ, zero, suc, ◌+◌, ◌<◌, List, [], ◌∷◌, ◌++◌, length, map, drop, slice_set, get_or, ap, sym, ◌∙◌, arith, add-one, append_assoc}
use Rattle.move_watch.specs.declared.finding.Finding.{Finding}
use Rattle.move_watch.specs.Watch.{Watch}
use Rattle.move_watch.specs.Watched.{finding_of, findings_from}

-- the first k items are changed by f, and the others are as they were
abbrev pub changed_to : (Watch → Watch) → ℕ → List Watch → List Watch
changed_to f zero ws = ws
changed_to f (suc k) [] = []
changed_to f (suc k) (w ∷ ws) = f w ∷ changed_to f k ws

-- all of them are
pub all_changed : (f : Watch → Watch) (ws : List Watch) → changed_to f (length ws) ws ≡ map f ws
all_changed f [] = refl
all_changed f (w ∷ ws) = ap (λ t. f w ∷ t) (all_changed f ws)

-- one more is changed
change_at : {A : Type 0} (f : Watch → Watch) (seen : A → Watch) (xs : List A) (ws : List Watch) (k : ℕ) (x y : A) → k < length xs → x ≡ get_or xs k x → seen y ≡ f (seen x)
    → map seen xs ≡ changed_to f k ws → map seen (slice_set xs k y) ≡ changed_to f (suc k) ws
change_at f seen [] ws k x y h here new before = absurd (omega (arith, h))
change_at f seen (a ∷ xs) [] zero x y h here new before = absurd (let e : seen a ∷ map seen xs ≡ [] = before in cc)
change_at f seen (a ∷ xs) [] (suc k) x y h here new before = absurd (let e : seen a ∷ map seen xs ≡ [] = before in cc)
change_at f seen (a ∷ xs) (w ∷ ws) zero x y h here new before =
    let head : seen a ≡ w = cc in
    let tail : map seen xs ≡ ws = cc in
    λ t. (new ∙ ap f (ap seen here ∙ head)) t ∷ tail t
change_at f seen (a ∷ xs) (w ∷ ws) (suc k) x y h here new before =
    let head : seen a ≡ f w = cc in
    let tail : map seen xs ≡ changed_to f k ws = cc in
    λ t. head t ∷ change_at f seen xs ws k x y (omega (arith, h)) here new tail t

pub one_changed : {A : Type 0} (f : Watch → Watch) (seen : A → Watch) (xs : List A) (ws : List Watch) (k : ℕ) (x y : A) → k < length xs → x ≡ get_or xs k x → seen y ≡ f (seen x)
    → map seen xs ≡ changed_to f k ws → map seen (slice_set xs k y) ≡ changed_to f (k + 1) ws
one_changed f seen xs ws k x y h here new before = rw add-one (change_at f seen xs ws k x y h here new before)

finding_at : {A : Type 0} (seen : A → Watch) (xs : List A) (k n : ℕ) (x : A) → k < length xs → x ≡ get_or xs k x
    → findings_from n (drop k (map seen xs)) ≡ finding_of n (seen x) ∷ findings_from (n + 1) (drop (suc k) (map seen xs))
finding_at seen [] k n x h here = absurd (omega (arith, h))
finding_at seen (a ∷ xs) zero n x h here = ap (λ y. finding_of n (seen y) ∷ findings_from (n + 1) (map seen xs)) (sym here)
finding_at seen (a ∷ xs) (suc k) n x h here = finding_at seen xs k n x (omega (arith, h)) here

-- one more finding
pub next_finding : {A : Type 0} (seen : A → Watch) (xs : List A) (fs : List Finding) (k : ℕ) (x : A) → k < length xs → x ≡ get_or xs k x
    → fs ++ findings_from k (drop k (map seen xs)) ≡ findings_from 0 (map seen xs)
    → (fs ++ finding_of k (seen x) ∷ []) ++ findings_from (k + 1) (drop (k + 1) (map seen xs)) ≡ findings_from 0 (map seen xs)
next_finding seen xs fs k x h here before =
    rw add-one (append_assoc fs (finding_of k (seen x) ∷ []) (findings_from (suc k) (drop (suc k) (map seen xs)))
    ∙ ap (λ t. fs ++ t) (same ∙ sym (finding_at seen xs k k x h here)) ∙ before)
  where
    same : finding_of k (seen x) ∷ findings_from (suc k) (drop (suc k) (map seen xs)) ≡ finding_of k (seen x) ∷ findings_from (k + 1) (drop (suc k) (map seen xs))
    same = ap (λ n. finding_of k (seen x) ∷ findings_from n (drop (suc k) (map seen xs))) (sym (add-one k))
