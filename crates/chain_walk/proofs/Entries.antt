-- Lists of cells as functions of the index: what is among the first entries, and what stays true where they stay.
use Rattle.std.proofs.Common.{◌≡◌, ◌≢◌, ℕ, ◌+◌, ◌<◌, ◌≤◌, Bool, true, List, [], ◌∷◌, ◌++◌, length, get_or, ◌⊎◌, inl, inr, sym, ap, subst, ◌∙◌, arith}
use Rattle.std.specs.List.{Contains}
use Rattle.std.proofs.lemmas.List.{length_push, get_or_default}
use Rattle.std.proofs.lemmas.List.Elements.{All-push, All-from_get_or}
use Rattle.std.proofs.Math.ListN.{get_or-append}
use Rattle.std.proofs.Math.Seq.{get_or-append_seam}
use Rattle.std.proofs.lemmas.Bool.{cases_eq}
use Rattle.board_base.specs.declared.places.Cell.{Cell}
use Rattle.islands.specs.Ways.{neighbour_of}
use Rattle.chain_walk.specs.Walk.{origin, entry, IsAmong, GoesOn, GoesBack}

-- what holds of each entry and of a new one holds of each
pub each_push : {X : Type 0} (P : X → Type 0) (d : X) (xs : List X) (x : X) → ((k : ℕ) → k < length xs → P (get_or xs k d)) → P x → (k : ℕ) → k < length (xs ++ x ∷ []) → P (get_or (xs ++ x ∷ []) k d)
each_push P d xs x old new k l = All-push P xs x (All-from_get_or P xs d old) new k d l

-- what holds of each two successive entries, and of the last and a new one, holds of each two
pub steps_push : {X : Type 0} (R : X → X → Type 0) (d : X) (xs : List X) (x : X) → ((k : ℕ) → k + 1 < length xs → R (get_or xs k d) (get_or xs (k + 1) d))
    → ((k : ℕ) → k + 1 ≡ length xs → R (get_or xs k d) x) → (k : ℕ) → k + 1 < length (xs ++ x ∷ []) → R (get_or (xs ++ x ∷ []) k d) (get_or (xs ++ x ∷ []) (k + 1) d)
steps_push R d xs x old new k l =
    let n : length (xs ++ x ∷ []) ≡ length xs + 1 = length_push xs x in
    let k_in : k < length xs = omega (arith, l, n) in
    let here : get_or xs k d ≡ get_or (xs ++ x ∷ []) k d = sym (get_or-append xs (x ∷ []) d k k_in) in
    elim (cases_eq (k + 1) (length xs)) as (λ _. R (get_or (xs ++ x ∷ []) k d) (get_or (xs ++ x ∷ []) (k + 1) d)) [
      | inl z ↦
          subst (λ y. R y (get_or (xs ++ x ∷ []) (k + 1) d)) here
          (subst (R (get_or xs k d)) (sym (ap (λ (i : ℕ). get_or (xs ++ x ∷ []) i d) z ∙ get_or-append_seam xs x [] d)) (new k z))
      | inr ne ↦ (
          let next_in : k + 1 < length xs = omega (arith, ne, l, n) in
          subst (λ y. R y (get_or (xs ++ x ∷ []) (k + 1) d)) here (subst (R (get_or xs k d)) (sym (get_or-append xs (x ∷ []) d (k + 1) next_in)) (old k next_in)))
    ]

-- b was first entered from a
pub record IsChild (W : ℕ → Cell) (n : ℕ) (a b : Cell) : Type 0 where
  pub from : ℕ
  pub early : from + 1 < n
  pub parent : W from ≡ a
  pub child : W (from + 1) ≡ b
  pub first : IsAmong W (from + 1) b → ⊥

-- each cell of a list stands once
abbrev pub AreOnce : List Cell → Type 0
AreOnce cells = (i j : ℕ) → i < j → j < length cells → entry cells i ≢ entry cells j

-- a cell that stands nowhere yet is added
pub once_push : (cells : List Cell) (b : Cell) → AreOnce cells → (Contains cells b → ⊥) → AreOnce (cells ++ b ∷ [])
once_push cells b once new i j less j_in e =
    let n : length (cells ++ b ∷ []) ≡ length cells + 1 = length_push cells b in
    let i_in : i < length cells = omega (arith, less, j_in, n) in
    let here : entry (cells ++ b ∷ []) i ≡ entry cells i = get_or-append cells (b ∷ []) origin i i_in in
    elim (cases_eq j (length cells)) as (λ _. ⊥) [
      | inl y ↦ new (i, i_in, get_or_default cells i b origin i_in ∙ sym here ∙ e ∙ ap (entry (cells ++ b ∷ [])) y ∙ get_or-append_seam cells b [] origin)
      | inr ne ↦ (let lt : j < length cells = omega (arith, ne, j_in, n) in once i j less lt (sym here ∙ e ∙ get_or-append cells (b ∷ []) origin j lt))
    ]

-- entries that stay
module _ (W W' : ℕ → Cell) (n : ℕ) (same : (i : ℕ) → i < n → W' i ≡ W i) where
  pub among : (k : ℕ) (c : Cell) → k ≤ n → IsAmong W k c → IsAmong W' k c
  among k c l m = record { at = m.at; early = m.early; is = same m.at (omega (arith, m.early, l)) ∙ m.is }

  pub among_back : (k : ℕ) (c : Cell) → k ≤ n → IsAmong W' k c → IsAmong W k c
  among_back k c l m = record { at = m.at; early = m.early; is = sym (same m.at (omega (arith, m.early, l))) ∙ m.is }

  module _ (taken : Cell → Bool) where
    goes_on : (k : ℕ) → k + 1 < n → GoesOn taken W k → GoesOn taken W' k
    goes_on k l g =
        let e : W' k ≡ W k = same k (omega arith) in
        let y : W' (k + 1) ≡ W (k + 1) = same (k + 1) l in
        record {
          way = g.way;
          way_in = g.way_in;
          step = y ∙ g.step ∙ ap (λ (x : Cell). neighbour_of x g.way) (sym e);
          taken_there = ap taken y ∙ g.taken_there;
          new = λ m. g.new (subst (λ (x : Cell). IsAmong W (k + 1) x) y (among_back (k + 1) (W' (k + 1)) (omega arith) m));
          first = λ other less t.
              subst (λ (x : Cell). IsAmong W' (k + 1) (neighbour_of x other)) (sym e)
              (among (k + 1) (neighbour_of (W k) other) (omega arith) (g.first other less (subst (λ (x : Cell). taken (neighbour_of x other) ≡ true) e t)));
        }

    goes_back : (k : ℕ) → k + 1 < n → GoesBack taken W k → GoesBack taken W' k
    goes_back k l g =
        let e : W' k ≡ W k = same k (omega arith) in
        record {
          none = λ way way_in t.
              subst (λ (x : Cell). IsAmong W' (k + 1) (neighbour_of x way)) (sym e)
              (among (k + 1) (neighbour_of (W k) way) (omega arith) (g.none way way_in (subst (λ (x : Cell). taken (neighbour_of x way) ≡ true) e t)));
          from = g.from;
          early = g.early;
          occurs = same (g.from + 1) (omega (arith, g.early)) ∙ g.occurs ∙ sym e;
          first = λ m. g.first (subst (λ (x : Cell). IsAmong W (g.from + 1) x) e (among_back (g.from + 1) (W' k) (omega (arith, g.early)) m));
          back = same (k + 1) l ∙ g.back ∙ sym (same g.from (omega (arith, g.early)));
        }

    pub goes : (k : ℕ) → k + 1 < n → GoesOn taken W k ⊎ GoesBack taken W k → GoesOn taken W' k ⊎ GoesBack taken W' k
    goes k l g = elim g as (λ _. GoesOn taken W' k ⊎ GoesBack taken W' k) [ inl a ↦ inl (goes_on k l a) | inr b ↦ inr (goes_back k l b) ]

  pub child : (a b : Cell) → IsChild W n a b → IsChild W' (n + 1) a b
  child a b g = record {
    from = g.from;
    early = omega (arith, g.early);
    parent = same g.from (omega (arith, g.early)) ∙ g.parent;
    child = same (g.from + 1) g.early ∙ g.child;
    first = λ m. g.first (among_back (g.from + 1) b (omega (arith, g.early)) m);
  }

pub longer : (W : ℕ → Cell) (k l : ℕ) (c : Cell) → k ≤ l → IsAmong W k c → IsAmong W l c
longer W k l c h m = record { at = m.at; early = omega (arith, m.early, h); is = m.is }
