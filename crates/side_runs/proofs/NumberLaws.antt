-- The islands of a frame have one numbering.
use Rattle.std.proofs.Common.{◌≡◌, ◌⊎◌, inl, inr, ℕ, zero, suc, ◌<◌, ◌≤◌, Bool, true, sym, subst, ◌∙◌, arith}
use Rattle.std.proofs.lemmas.Bool.{cases_lt}
use Rattle.number_laws.proofs.Tests.{by_bool}
use Rattle.board_base.specs.declared.places.Cell.{Cell}
use Rattle.cell_sets.specs.Islands.{AreIslands}
use Rattle.cell_sets.proofs.Counts.{numbered_kept}
use Rattle.cell_grid.specs.declared.frames.Frame.{Frame}
use Rattle.cell_grid.specs.Cells.{in_frame}
use Rattle.cell_grid.specs.Place.{InFrame, place_of}
use Rattle.cell_grid.proofs.CellsLaws.{in_frame_is}
use Rattle.chain_walk.proofs.Chaining.{earlier_place}

-- one of three
less_or : {P : Type 0} (m n : ℕ) → (m < n → P) → (m ≡ n → P) → (n < m → P) → P
less_or {P = P} m n f g h = elim (cases_lt m n) as (λ _. P) [
  | inl less ↦ f less
  | inr more ↦ elim (cases_lt n m) as (λ _. P) [
    | inl less ↦ h less
    | inr not ↦ g (both m n not more)
  ]
]
  where
    both : (m n : ℕ) → m ≤ n → n ≤ m → m ≡ n
    both m n h k = omega (arith, h, k)

apart : (m n : ℕ) → m < n → m ≡ n → ⊥
apart m n h e = omega (arith, h, e)

-- what two numberings of the same cells have to be the same below a number
abbrev AgreeBelow : (Cell → ℕ) → (Cell → ℕ) → ℕ → Type 0
AgreeBelow number other m = (c : Cell) → (number c < m) ⊎ (other c < m) → number c ≡ other c

module _ (kept : Cell → Bool) (f : Frame) (within : (c : Cell) → kept c ≡ true → in_frame f c ≡ true) where
  -- the island that has a number in one numbering has none above it in another one: else the first cells go down without end
  module _ (number other : Cell → ℕ) (count count' : ℕ) (a : AreIslands kept number count) (b : AreIslands kept other count') (m : ℕ) (some : 0 < m) (agree : AgreeBelow number other m) where
    up : (n : ℕ) → m < n → 0 < n
    up n h = omega (arith, some, h)

    inside : (c : Cell) → 0 < number c → InFrame f c
    inside c h = in_frame_is f c (within c (numbered_kept kept number count a c h))

    numbered : (c : Cell) → number c ≡ m → 0 < number c
    numbered c e = subst (λ (n : ℕ). 0 < n) (sym e) some

    none_above : (n : ℕ) (c : Cell) → place_of f c < n → number c ≡ m → m < other c → ⊥
    none_above zero c h e above = omega (arith, h)
    none_above (suc n) c h e above =
        let d = b.order c m some above in
        less_or (number d.0) m
        (λ less. apart (number d.0) m less (agree d.0 (inl less) ∙ d.1.1))
        (λ same. apart m (other c) above (sym d.1.1 ∙ b.whole d.0 c (a.same d.0 c (numbered d.0 same) (same ∙ sym e))))
        (λ more.
        let g = a.order d.0 m some more in
        let c_in : InFrame f c = inside c (numbered c e) in
        let d_in : InFrame f d.0 = inside d.0 (up (number d.0) more) in
        let g_in : InFrame f g.0 = inside g.0 (numbered g.0 g.1.1) in
        let linked : other c ≡ other g.0 = b.whole c g.0 (a.same c g.0 (numbered c e) (e ∙ sym g.1.1)) in
        none_above n g.0 (by (place_of f g.0) (place_of f d.0) (place_of f c) n (earlier_place f g.0 d.0 g_in d_in g.1.0) (earlier_place f d.0 c d_in c_in d.1.0) h) g.1.1 (subst (λ (x : ℕ). m < x) linked above))
      where
        by : (x y z n : ℕ) → x < y → y < z → z < suc n → x < n
        by x y z n h k l = omega (arith, h, k, l)

    -- so it has the same
    pub same_here : (c : Cell) → number c ≡ m → number c ≡ other c
    same_here c e =
        less_or (other c) m
        (λ less. agree c (inr less))
        (λ same. e ∙ sym same)
        (λ more. absurd (none_above (suc (place_of f c)) c (next (place_of f c)) e more))
      where
        next : (n : ℕ) → n < suc n
        next n = omega arith

  turned : (number other : Cell → ℕ) (m : ℕ) → AgreeBelow number other m → AgreeBelow other number m
  turned number other m agree c (inl less) = sym (agree c (inr less))
  turned number other m agree c (inr less) = sym (agree c (inl less))

  clear_same : (number other : Cell → ℕ) (count count' : ℕ) → AreIslands kept number count → AreIslands kept other count' → (c : Cell) → number c ≡ 0 → number c ≡ other c
  clear_same number other count count' a b c e = by_bool (kept c)
      (λ on. absurd (apart 0 (number c) (a.some c on) (sym e)))
      (λ off. e ∙ sym (b.clear c off))

  number_same : (number other : Cell → ℕ) (count count' : ℕ) (m : ℕ) → AreIslands kept number count → AreIslands kept other count' → AgreeBelow number other m → (c : Cell) → number c ≡ m → number c ≡ other c
  number_same number other count count' zero a b agree c e = clear_same number other count count' a b c e
  number_same number other count count' (suc m) a b agree c e = same_here number other count count' a b (suc m) (omega arith) agree c e

  agree_below : (number other : Cell → ℕ) (count count' : ℕ) (m : ℕ) → AreIslands kept number count → AreIslands kept other count' → AgreeBelow number other m
  agree_below number other count count' zero a b c (inl less) = absurd (omega (arith, less))
  agree_below number other count count' zero a b c (inr less) = absurd (omega (arith, less))
  agree_below number other count count' (suc m) a b c (inl less) =
      let agree = agree_below number other count count' m a b in
      less_or (number c) m (λ l. agree c (inl l)) (λ e. number_same number other count count' m a b agree c e) (λ l. absurd (omega (arith, l, less)))
  agree_below number other count count' (suc m) a b c (inr less) =
      let agree = agree_below number other count count' m a b in
      less_or (other c) m (λ l. agree c (inr l)) (λ e. sym (number_same other number count' count m b a (turned number other m agree) c e)) (λ l. absurd (omega (arith, l, less)))

  -- two numberings of the islands of a frame are one
  pub one_numbering : (number other : Cell → ℕ) (count count' : ℕ) → AreIslands kept number count → AreIslands kept other count' → (c : Cell) → number c ≡ other c
  one_numbering number other count count' a b c = agree_below number other count count' (suc (number c)) a b c (inl (next (number c)))
    where
      next : (n : ℕ) → n < suc n
      next n = omega arith
