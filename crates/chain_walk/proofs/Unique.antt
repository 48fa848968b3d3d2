-- A component has one walk.
use Rattle.std.proofs.Common.{◌≡◌, ℕ, zero, suc, ◌+◌, ◌-◌, ◌<◌, ◌≤◌, Bool, true, ◌⊎◌, inl, inr, sym, ap, subst, ◌∙◌, arith}
use Rattle.std.proofs.lemmas.Bool.{cases_eq, cases_lt}
use Rattle.board_base.specs.declared.places.Cell.{Cell}
use Rattle.cell_sets.specs.Chains.{IsLinked}
use Rattle.islands.specs.Ways.{neighbour_of}
use Rattle.cell_sets.proofs.Links.{IsFree, linked_trans, linked_self, linked_step, linked_end}
use Rattle.islands.proofs.Links.{beside_neighbour}
use Rattle.chain_walk.specs.Walk.{IsAmong, GoesOn, GoesBack, IsWalkFrom, OneWalk}

module _ (taken : Cell → Bool) (start : Cell) where
  -- the first k entries agree
  abbrev Agrees : (ℕ → Cell) → (ℕ → Cell) → ℕ → Type 0
  Agrees W V k = (i : ℕ) → i < k → W i ≡ V i

  turned : (W V : ℕ → Cell) (k : ℕ) → Agrees W V k → Agrees V W k
  turned W V k s i l = sym (s i l)

  carried : (W V : ℕ → Cell) (k l : ℕ) (a : Cell) → Agrees W V k → l ≤ k → IsAmong W l a → IsAmong V l a
  carried W V k l a s le m = record { at = m.at; early = m.early; is = sym (s m.at (omega (arith, m.early, le))) ∙ m.is }

  -- a cell that the one goes on to isn't passed over by the other
  not_sooner : (W V : ℕ → Cell) (k : ℕ) → Agrees W V (k + 1) → (g : GoesOn taken W k) (h : GoesOn taken V k) → g.way < h.way → ⊥
  not_sooner W V k s g h less =
      let here : W k ≡ V k = s k (omega arith) in
      let is : neighbour_of (V k) g.way ≡ W (k + 1) = ap (λ (x : Cell). neighbour_of x g.way) (sym here) ∙ sym g.step in
      let m = subst (IsAmong V (k + 1)) is (h.first g.way less (ap taken is ∙ g.taken_there)) in
      g.new (carried V W (k + 1) (k + 1) (W (k + 1)) (turned W V (k + 1) s) (omega arith) m)

  -- where one goes on, the other does, by the same way
  on_on : (W V : ℕ → Cell) (k : ℕ) → Agrees W V (k + 1) → GoesOn taken W k → GoesOn taken V k → W (k + 1) ≡ V (k + 1)
  on_on W V k s g h =
      let here : W k ≡ V k = s k (omega arith) in
      elim (cases_lt h.way g.way) as (λ _. W (k + 1) ≡ V (k + 1)) [
        | inl less ↦ absurd (not_sooner V W k (turned W V (k + 1) s) h g less)
        | inr more ↦ elim (cases_lt g.way h.way) as (λ _. W (k + 1) ≡ V (k + 1)) [
          | inl less ↦ absurd (not_sooner W V k s g h less)
          | inr more' ↦ (
              let way : g.way ≡ h.way = omega arith in
              g.step ∙ ap (λ (x : Cell). neighbour_of x g.way) here ∙ ap (neighbour_of (V k)) way ∙ sym h.step)
        ]
      ]

  on_back : (W V : ℕ → Cell) (k : ℕ) → Agrees W V (k + 1) → GoesOn taken W k → GoesBack taken V k → ⊥
  on_back W V k s g h =
      let here : W k ≡ V k = s k (omega arith) in
      let is : neighbour_of (V k) g.way ≡ W (k + 1) = ap (λ (x : Cell). neighbour_of x g.way) (sym here) ∙ sym g.step in
      let m = subst (IsAmong V (k + 1)) is (h.none g.way g.way_in (ap taken is ∙ g.taken_there)) in
      g.new (carried V W (k + 1) (k + 1) (W (k + 1)) (turned W V (k + 1) s) (omega arith) m)

  back_back : (W V : ℕ → Cell) (k : ℕ) → Agrees W V (k + 1) → GoesBack taken W k → GoesBack taken V k → W (k + 1) ≡ V (k + 1)
  back_back W V k s g h =
      let here : W k ≡ V k = s k (omega arith) in
      elim (cases_lt g.from h.from) as (λ _. W (k + 1) ≡ V (k + 1)) [
        | inl less ↦ absurd (h.first (record { at = g.from + 1; early = omega (arith, less); is = sym (s (g.from + 1) (omega (arith, g.early))) ∙ g.occurs ∙ here }))
        | inr more ↦ elim (cases_lt h.from g.from) as (λ _. W (k + 1) ≡ V (k + 1)) [
          | inl less ↦ absurd (g.first (record { at = h.from + 1; early = omega (arith, less); is = s (h.from + 1) (omega (arith, h.early)) ∙ h.occurs ∙ sym here }))
          | inr more' ↦ (
              let e : g.from ≡ h.from = omega arith in
              g.back ∙ s g.from (omega (arith, g.early)) ∙ ap V e ∙ sym h.back)
        ]
      ]

  next : (W V : ℕ → Cell) (k : ℕ) → Agrees W V (k + 1) → GoesOn taken W k ⊎ GoesBack taken W k → GoesOn taken V k ⊎ GoesBack taken V k → W (k + 1) ≡ V (k + 1)
  next W V k s g h =
      elim g as (λ _. W (k + 1) ≡ V (k + 1)) [
        | inl a ↦ elim h as (λ _. W (k + 1) ≡ V (k + 1)) [ inl b ↦ on_on W V k s a b | inr b ↦ absurd (on_back W V k s a b) ]
        | inr a ↦ elim h as (λ _. W (k + 1) ≡ V (k + 1)) [ inl b ↦ absurd (on_back V W k (turned W V (k + 1) s) b a) | inr b ↦ back_back W V k s a b ]
      ]

  agree : (W V : ℕ → Cell) (n m : ℕ) → IsWalkFrom taken start W n → IsWalkFrom taken start V m → (k : ℕ) → k < n → k < m → Agrees W V (k + 1)
  agree W V n m p q zero l l' = λ i less. (let z : i ≡ 0 = omega arith in ap W z ∙ p.starts ∙ sym q.starts ∙ sym (ap V z))
  agree W V n m p q (suc k) l l' =
      let s = agree W V n m p q k (omega arith) (omega arith) in
      let e = next W V k s (p.steps k (omega arith)) (q.steps k (omega arith)) in
      λ i less. elim (cases_eq i (k + 1)) as (λ _. W i ≡ V i) [ inl y ↦ ap W y ∙ e ∙ sym (ap V y) | inr ne ↦ s i (omega arith) ]

  -- the entries of a walk belong to the component
  own_below : (W : ℕ → Cell) (n : ℕ) → IsWalkFrom taken start W n → taken start ≡ true → (k : ℕ) → k < n → (i : ℕ) → i < k + 1 → IsLinked taken start (W i)
  own_below W n p t zero l i less = let z : i ≡ 0 = omega arith in subst (IsLinked taken start) (sym (ap W z ∙ p.starts)) (linked_self (IsFree taken) start t)
  own_below W n p t (suc k) l i less =
      let s = own_below W n p t k (omega arith) in
      elim (cases_eq i (k + 1)) as (λ _. IsLinked taken start (W i)) [
        | inl y ↦ elim (p.steps k (omega arith)) as (λ _. IsLinked taken start (W i)) [
          | inl g ↦ (
              let j = s k (omega arith) in
              let there : taken (neighbour_of (W k) g.way) ≡ true = ap taken (sym g.step) ∙ g.taken_there in
              subst (IsLinked taken start) (sym (ap W y ∙ g.step))
              (linked_trans (IsFree taken) start (W k) (neighbour_of (W k) g.way) j (linked_step (IsFree taken) (W k) (neighbour_of (W k) g.way) (linked_end (IsFree taken) start (W k) j) (beside_neighbour (W k) g.way) there)))
          | inr g ↦ subst (IsLinked taken start) (sym (ap W y ∙ g.back)) (s g.from (omega (arith, g.early)))
        ]
        | inr ne ↦ s i (omega arith)
      ]

  pub own : (W : ℕ → Cell) (n : ℕ) → IsWalkFrom taken start W n → taken start ≡ true → (i : ℕ) → i < n → IsLinked taken start (W i)
  own W n p t i l = own_below W n p t i l i (omega arith)

  -- none is shorter
  no_shorter : (W V : ℕ → Cell) (n m : ℕ) → IsWalkFrom taken start W n → IsWalkFrom taken start V m → taken start ≡ true → n < m → ⊥
  no_shorter W V n m p q t l =
      let last : m - 1 + 1 ≡ m = omega (arith, l) in
      let c : n - 1 + 1 ≡ n = omega (arith, p.some) in
      let a = p.all (V (m - 1)) (own V m q t (m - 1) (omega (arith, last))) in
      let s = agree W V n m p q (n - 1) (omega (arith, c)) (omega (arith, c, l)) in
      q.last (m - 1) last (record { at = a.at; early = omega (arith, a.early, l, last); is = sym (s a.at (omega (arith, a.early, c))) ∙ a.is })

pub one_walk : OneWalk
one_walk taken start W V n m t p q =
    let same : n ≡ m =
    elim (cases_lt n m) as (λ _. n ≡ m) [
      | inl l ↦ absurd (no_shorter taken start W V n m p q t l)
      | inr l ↦ elim (cases_lt m n) as (λ _. n ≡ m) [ inl k ↦ absurd (no_shorter taken start V W m n q p t k) | inr k ↦ omega arith ]
    ] in
    (same, λ k l. agree taken start W V n m p q k l (omega (arith, l, same)) k (omega arith))
