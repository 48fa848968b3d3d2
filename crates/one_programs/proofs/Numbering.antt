-- Where the kept cells stand in a list, their islands have one numbering.
use Rattle.std.proofs.Common.{◌≡◌, ℕ, zero, suc, ◌<◌, Bool, true, List, length, get_or, inl, inr, refl, sym, ap, subst, ◌∙◌, arith}
use Rattle.std.specs.List.{Contains}
use Rattle.std.proofs.lemmas.Bool.{cases_order, cases_lt}
use Rattle.std.proofs.lemmas.List.{get_or_default}
use Rattle.board_base.specs.declared.places.Cell.{Cell}
use Rattle.cell_sets.specs.Chains.{IsBefore}
use Rattle.cell_sets.specs.Islands.{AreIslands}
use Rattle.cell_sets.specs.Count.{IsListOf}
use Rattle.cell_sets.proofs.Counts.{numbered_kept}
use Rattle.chain_walk.proofs.Chaining.{not_both}
use Rattle.chain_walk.proofs.OneRuns.{before_trans}

-- a listed cell before one at index k has a lesser index
earlier : (P : Cell → Type 0) (cells : List Cell) → IsListOf P cells → (k : ℕ) → k < length cells → (x z : Cell) → get_or cells k x ≡ x → IsBefore z x → Contains cells z → (j : ℕ) × ((j < k) × (j < length cells) × (get_or cells j z ≡ z))
earlier P cells listed k k_in x z x_at before (j, j_in, z_at) =
    elim (cases_order j k) as (λ _. (j : ℕ) × ((j < k) × (j < length cells) × (get_or cells j z ≡ z))) [
      | inl same ↦ absurd (itself (sym z_at ∙ get_or_default cells j z x j_in ∙ ap (λ n. get_or cells n x) same ∙ x_at))
      | inr other ↦ elim other as (λ _. (j : ℕ) × ((j < k) × (j < length cells) × (get_or cells j z ≡ z))) [
        | inl less ↦ (j, (less, j_in, z_at))
        | inr more ↦ absurd (not_both x z (subst (λ (c : Cell). IsBefore c z) x_at (subst (λ (c : Cell). IsBefore (get_or cells k x) c) (get_or_default cells j x z j_in ∙ z_at) (listed.order k j x more j_in))) before)
      ]
    ]
  where
    itself : z ≡ x → ⊥
    itself e = let b : IsBefore x x = subst (λ (c : Cell). IsBefore c x) e before in not_both x x b b

-- the cells with a number below n by the one numbering have this number by the other
abbrev Agrees : (Cell → ℕ) → (Cell → ℕ) → ℕ → Type 0
Agrees p q n = (c : Cell) → p c < n → p c ≡ q c

module _ (kept : Cell → Bool) (cells : List Cell) (listed : IsListOf (λ c. kept c ≡ true) cells) where
  module _ (p q : Cell → ℕ) (m m' : ℕ) (a : AreIslands kept p m) (b : AreIslands kept q m') (n : ℕ) (some : 0 < n) (agrees : Agrees p q n) where
    -- cells with one number by p have one by q
    carried : (c x : Cell) → p c ≡ n → p x ≡ n → q c ≡ q x
    carried c x e f = b.whole c x (a.same c x (subst (λ k. 0 < k) (sym e) some) (e ∙ sym f))

    -- a cell with the number n by q has a greater one by p, where a cell that has n by p has a greater one by q
    greater : (y x : Cell) → p x ≡ n → n < q x → q y ≡ n → n < p y
    greater y x x_is more y_is =
        elim (cases_order (p y) n) as (λ _. n < p y) [
          | inl same ↦ absurd (omega (arith, more, y_is, carried y x same x_is))
          | inr other ↦ elim other as (λ _. n < p y) [ inl less ↦ absurd (omega (arith, less, y_is, agrees y less)) | inr fine ↦ fine ]
        ]

    -- no cell with the number n by p has a greater one by q: there would be earlier ones without end
    not_above : (fuel k : ℕ) (x : Cell) → k < fuel → k < length cells → get_or cells k x ≡ x → p x ≡ n → n < q x → ⊥
    not_above zero k x within k_in x_at x_is more = omega (arith, within)
    not_above (suc fuel) k x within k_in x_at x_is more =
        let y = b.order x n some more in
        let above : n < p y.0 = greater y.0 x x_is more y.1.1 in
        let z = a.order y.0 n some above in
        let z_in : Contains cells z.0 = (listed.each z.0).1 (numbered_kept kept p m a z.0 (subst (λ k. 0 < k) (sym z.1.1) some)) in
        let j = earlier (λ c. kept c ≡ true) cells listed k k_in x z.0 x_at (before_trans z.0 y.0 x z.1.0 y.1.0) z_in in
        not_above fuel j.0 z.0 (omega (arith, within, j.1.0)) j.1.1 j.1.2 z.1.1 (subst (λ k. n < k) (sym (carried z.0 x z.1.1 x_is)) more)

    not_greater : (x : Cell) → p x ≡ n → n < q x → ⊥
    not_greater x x_is more = (let there = (listed.each x).1 (numbered_kept kept p m a x (subst (λ k. 0 < k) (sym x_is) some)) in not_above (suc there.0) there.0 x (omega arith) there.1 there.2 x_is more)

  -- one number more
  next : (p q : Cell → ℕ) (m m' : ℕ) → AreIslands kept p m → AreIslands kept q m' → (n : ℕ) → Agrees p q n → Agrees q p n → Agrees p q (suc n)
  next p q m m' a b n f g c less =
      elim (cases_lt (p c) n) as (λ _. p c ≡ q c) [
        | inl below ↦ f c below
        | inr up ↦ (
            let is : p c ≡ n = omega (arith, less, up) in
            elim (cases_lt (q c) n) as (λ _. p c ≡ q c) [
              | inl under ↦ sym (g c under)
              | inr over ↦ elim (cases_lt n (q c)) as (λ _. p c ≡ q c) [
                | inl more ↦ absurd (apart n refl is more)
                | inr low ↦ omega (arith, is, over, low)
              ]
            ])
      ]
    where
      -- 0 is the number of the cells that aren't kept
      apart : (k : ℕ) → n ≡ k → p c ≡ n → n < q c → ⊥
      apart zero e is more = let some : 0 < p c = a.some c (numbered_kept kept q m' b c (omega (arith, more))) in omega (arith, some, is, e)
      apart (suc k) e is more = not_greater p q m m' a b n (omega (arith, e)) f c is more

  agree : (p q : Cell → ℕ) (m m' : ℕ) → AreIslands kept p m → AreIslands kept q m' → (n : ℕ) → Agrees p q n × Agrees q p n
  agree p q m m' a b zero = (λ c l. absurd (omega (arith, l)), λ c l. absurd (omega (arith, l)))
  agree p q m m' a b (suc n) = let before = agree p q m m' a b n in (next p q m m' a b n before.0 before.1, next q p m' m b a n before.1 before.0)

  pub one_numbering : (p q : Cell → ℕ) (m m' : ℕ) → AreIslands kept p m → AreIslands kept q m' → (c : Cell) → p c ≡ q c
  one_numbering p q m m' a b c = (agree p q m m' a b (suc (p c))).0 c (omega arith)
