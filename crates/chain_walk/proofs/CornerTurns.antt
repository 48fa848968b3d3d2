-- No two successive moves between the corners have one direction.
use Rattle.std.proofs.Common.{◌≡◌, ℕ, zero, suc, ◌<◌, ℤ, pos, negsuc, neg_ℤ, ◌+ℤ◌, ◌-ℤ◌, ◌*ℤ◌, cond, Bool, true, false, ◌&&◌, List, [], ◌∷◌, ◌⊎◌, inl, inr, refl, sym, ap, subst, ◌∙◌, arith}
use Rattle.std.specs.Ordering.{int_eq}
use Rattle.std.proofs.lemmas.Bool.{false≢true}
use Rattle.std.proofs.lemmas.Bool.Decides.{Decides-int_eq}
use borrow.Author.Differences.{ints}
use Rattle.number_laws.proofs.Laws.{mul_one, mul_zero}
use Rattle.number_laws.proofs.Ring.{var, num, mul, neg, ring}
use Rattle.number_laws.proofs.Tests.{by_bool}
use Rattle.board_base.specs.declared.places.Cell.{Cell}
use Rattle.chain_walk.specs.Corners.{goes_straight, turns_of}
use Rattle.chain_walk.specs.Runs.{IsUnit, stepped, StartsWith, AreThree, TurnLaw}
use Rattle.chain_walk.proofs.CornerRuns.{Steps, steps_of, unit_of, straight, more_step, no_step}

-- ---- directions

-- the three units, and so many of each
data IsOneOf (k : ℕ) (v : ℤ) : Type 0 where
  less : v ≡ neg_ℤ (pos 1) → pos k *ℤ v ≡ neg_ℤ (pos k) → IsOneOf k v
  none : v ≡ pos 0 → pos k *ℤ v ≡ pos 0 → IsOneOf k v
  more : v ≡ pos 1 → pos k *ℤ v ≡ pos k → IsOneOf k v

split : (v : ℤ) → IsUnit v → (v ≡ neg_ℤ (pos 1)) ⊎ ((v ≡ pos 0) ⊎ (v ≡ pos 1))
split (pos zero) u = inr (inl refl)
split (pos (suc zero)) u = inr (inr refl)
split (pos (suc (suc n))) u = absurd (omega (arith, ints, u.high))
split (negsuc zero) u = inl refl
split (negsuc (suc n)) u = absurd (omega (arith, ints, u.low))

one_of : (k : ℕ) (v : ℤ) → IsUnit v → IsOneOf k v
one_of k v u =
    elim (split v u) as (λ _. IsOneOf k v) [
      | inl e ↦ less e (ap (λ (x : ℤ). pos k *ℤ x) e ∙ ring (pos k ∷ []) (mul (var 0) (neg (num (pos 1)))) (neg (var 0)) refl)
      | inr r ↦ elim r as (λ _. IsOneOf k v) [ inl e ↦ none e (ap (λ (x : ℤ). pos k *ℤ x) e ∙ mul_zero (pos k)) | inr e ↦ more e (ap (λ (x : ℤ). pos k *ℤ x) e ∙ mul_one (pos k)) ]
    ]

-- so many of one unit are so many of another only where they are one
same_unit : (k m : ℕ) (v w : ℤ) → IsUnit v → IsUnit w → 0 < k → 0 < m → pos k *ℤ v ≡ pos m *ℤ w → v ≡ w
same_unit k m v w a b hk hm e = by (one_of k v a) (one_of m w b)
  where
    by : IsOneOf k v → IsOneOf m w → v ≡ w
    by (less p q) (less r s) = p ∙ sym r
    by (less p q) (none r s) = absurd (omega (arith, ints, q, s, e, hk, hm))
    by (less p q) (more r s) = absurd (omega (arith, ints, q, s, e, hk, hm))
    by (none p q) (less r s) = absurd (omega (arith, ints, q, s, e, hk, hm))
    by (none p q) (none r s) = p ∙ sym r
    by (none p q) (more r s) = absurd (omega (arith, ints, q, s, e, hk, hm))
    by (more p q) (less r s) = absurd (omega (arith, ints, q, s, e, hk, hm))
    by (more p q) (none r s) = absurd (omega (arith, ints, q, s, e, hk, hm))
    by (more p q) (more r s) = p ∙ sym r

cancelled : (s x y : ℤ) → s +ℤ x ≡ s +ℤ y → x ≡ y
cancelled s x y e = omega (arith, ints, e)

-- two runs between the same cells have one direction
same_way : (a b : Cell) (e n e' n' : ℤ) (k m : ℕ) → IsUnit e → IsUnit n → IsUnit e' → IsUnit n' → 0 < k → 0 < m → b ≡ stepped a e n k → b ≡ stepped a e' n' m → (e ≡ e') × (n ≡ n')
same_way a b e n e' n' k m ue un ue' un' hk hm h h' =
    let x = cancelled a.i (pos k *ℤ e) (pos m *ℤ e') (sym (ap (λ (c : Cell). c.i) h) ∙ ap (λ (c : Cell). c.i) h') in
    let y = cancelled a.j (pos k *ℤ n) (pos m *ℤ n') (sym (ap (λ (c : Cell). c.j) h) ∙ ap (λ (c : Cell). c.j) h') in
    (same_unit k m e e' ue ue' hk hm x, same_unit k m n n' un un' hk hm y)

-- steps of one direction are straight
turned_straight : (a b c : Cell) → b.i -ℤ a.i ≡ c.i -ℤ b.i → b.j -ℤ a.j ≡ c.j -ℤ b.j → goes_straight a b c ≡ true
unfolding goes_straight
turned_straight a b c h k = both (int_eq (b.i -ℤ a.i) (c.i -ℤ b.i)) (int_eq (b.j -ℤ a.j) (c.j -ℤ b.j)) ((Decides-int_eq (b.i -ℤ a.i) (c.i -ℤ b.i)).1 h) ((Decides-int_eq (b.j -ℤ a.j) (c.j -ℤ b.j)).1 k)
  where
    both : (s t : Bool) → s ≡ true → t ≡ true → (s && t) ≡ true
    both true true e f = refl
    both true false e f = absurd (false≢true f)
    both false t e f = absurd (false≢true e)

-- ---- along the corners

-- from x so many steps of one direction lead to y, and from there so many of another to z
record IsTurn (x y z : Cell) : Type 0 where
  e1 : ℤ
  n1 : ℤ
  e2 : ℤ
  n2 : ℤ
  ue1 : IsUnit e1
  un1 : IsUnit n1
  ue2 : IsUnit e2
  un2 : IsUnit n2
  k1 : ℕ
  k2 : ℕ
  some1 : 0 < k1
  some2 : 0 < k2
  first : y ≡ stepped x e1 n1 k1
  second : z ≡ stepped y e2 n2 k2
  apart : e1 ≡ e2 → n1 ≡ n2 → ⊥

no_turn : (x y z : Cell) → IsTurn x y z → (e n : ℤ) (k m : ℕ) → IsUnit e → IsUnit n → 0 < k → 0 < m → y ≡ stepped x e n k → z ≡ stepped y e n m → ⊥
no_turn x y z t e n k m ue un hk hm h g =
    let a = same_way x y t.e1 t.n1 e n t.k1 k t.ue1 t.un1 ue un t.some1 hk t.first h in
    let b = same_way y z t.e2 t.n2 e n t.k2 m t.ue2 t.un2 ue un t.some2 hm t.second g in
    t.apart (a.0 ∙ sym b.0) (a.1 ∙ sym b.1)

-- the first of some cells
abbrev IsHead : List Cell → Cell → Type 0
IsHead [] y = ⊥
IsHead (b ∷ cells) y = b ≡ y

-- the first move from s has a direction, and each corner after it turns
record AreTurns (s : Cell) (corners : List Cell) (e n : ℤ) : Type 0 where
  head : (y : Cell) → IsHead corners y → (k : ℕ) × ((0 < k) × (y ≡ stepped s e n k))
  turns : (x y z : Cell) → AreThree (s ∷ corners) x y z → IsTurn x y z

starts_head : (b : Cell) (cells : List Cell) (y z : Cell) → StartsWith (b ∷ cells) y z → (b ≡ y) × IsHead cells z
starts_head b [] y z h = absurd h
starts_head b (c ∷ cells) y z h = h

turning : (s a b : Cell) (e n : ℤ) (m : ℕ) (rest : List Cell) → e ≡ b.i -ℤ a.i → n ≡ b.j -ℤ a.j → IsUnit e → IsUnit n → 0 < m → b ≡ stepped s e n m → Steps b rest → AreTurns s (turns_of a b rest) e n
turning s a b e n m [] x y ue un hm h steps = record {
  head = λ z k. (m, (hm, sym k ∙ h));
  turns = λ u v w t. elim t as (λ _. IsTurn u v w) [
    | inl k ↦ absurd k.1
    | inr k ↦ elim k as (λ _. IsTurn u v w) [ inl i ↦ absurd i.1 | inr i ↦ absurd i ]
  ];
}
turning s a b e n m (c ∷ rest) x y ue un hm h steps =
    by_bool (goes_straight a b c)
    (λ (t : goes_straight a b c ≡ true).
    let same = straight a b c t in
    subst (λ (z : Bool). AreTurns s (cond z (turns_of b c rest) (b ∷ turns_of b c rest)) e n) (sym t)
    (turning s b c e n (suc m) rest (x ∙ same.0) (y ∙ same.1) ue un (omega arith) (more_step s b c e n m h (x ∙ same.0) (y ∙ same.1)) steps.1))
    (λ (t : goes_straight a b c ≡ false).
    let e' : ℤ = c.i -ℤ b.i in
    let n' : ℤ = c.j -ℤ b.j in
    let ue' = unit_of b.i c.i (steps.0).west (steps.0).east in
    let un' = unit_of b.j c.j (steps.0).south (steps.0).north in
    let on = turning b b c e' n' 1 rest refl refl ue' un' (omega arith) (more_step b b c e' n' 0 (sym (no_step b e' n')) refl refl) steps.1 in
    subst (λ (z : Bool). AreTurns s (cond z (turns_of b c rest) (b ∷ turns_of b c rest)) e n) (sym t) (record {
      head = λ z k. (m, (hm, sym k ∙ h));
      turns = λ u v w k. elim k as (λ _. IsTurn u v w) [
        | inl i ↦ (
            let at = starts_head b (turns_of b c rest) v w i.1 in
            let go = on.head w at.1 in
            record {
              e1 = e;
              n1 = n;
              e2 = e';
              n2 = n';
              ue1 = ue;
              un1 = un;
              ue2 = ue';
              un2 = un';
              k1 = m;
              k2 = go.0;
              some1 = hm;
              some2 = go.1.0;
              first = sym at.0 ∙ h ∙ ap (λ (d : Cell). stepped d e n m) i.0;
              second = go.1.1 ∙ ap (λ (d : Cell). stepped d e' n' go.0) at.0;
              apart = λ p q. false≢true (sym t ∙ turned_straight a b c (sym x ∙ p) (sym y ∙ q));
            })
        | inr i ↦ on.turns u v w i
      ];
    }))

pub turn_law : TurnLaw
turn_law [] h x y z t = absurd t
turn_law (a ∷ []) h x y z t =
    elim t as (λ _. (east north : ℤ) (k m : ℕ) → IsUnit east → IsUnit north → 0 < k → 0 < m → y ≡ stepped x east north k → z ≡ stepped y east north m → ⊥) [
      | inl i ↦ absurd i.1
      | inr i ↦ elim i as (λ _. (east north : ℤ) (k m : ℕ) → IsUnit east → IsUnit north → 0 < k → 0 < m → y ≡ stepped x east north k → z ≡ stepped y east north m → ⊥) [ inl j ↦ absurd j.1 | inr j ↦ absurd j ]
    ]
turn_law (a ∷ b ∷ cells) h x y z t =
    let steps = steps_of a (b ∷ cells) h.steps in
    let e : ℤ = b.i -ℤ a.i in
    let n : ℤ = b.j -ℤ a.j in
    let all = turning a a b e n 1 cells refl refl (unit_of a.i b.i (steps.0).west (steps.0).east) (unit_of a.j b.j (steps.0).south (steps.0).north) (omega arith) (more_step a a b e n 0 (sym (no_step a e n)) refl refl) steps.1 in
    no_turn x y z (all.turns x y z t)
