-- The last part that holds q is on, and the last object whose shape holds q is dark.
use Rattle.std.proofs.Common.{◌≡◌, Bool, true, false, not, cond, ◌&&◌, ◌||◌, List, [], ◌∷◌, Option, Some, None, refl, ◌∙◌}
use Rattle.std.specs.List.{list_any}
use Rattle.shape_parts.specs.Stands.{stands}
use Rattle.shape_parts.specs.Parts.{part_holds}
use Rattle.shape_parts.specs.Shapes.{shape_holds}
use Rattle.shape_parts.specs.Literal.{else_of, last_that, is_there, Literal}

module _ {X : Type 0} (mark test : X → Bool) where
  -- what the last one that passes says of the others
  abbrev Says : Option X → Bool → Bool → Type 0
  Says None on off = (on ≡ false) × (off ≡ false)
  Says (Some y) on off = (on ≡ mark y) × (mark y ≡ false → off ≡ true)

  one : (x : X) (o : Option X) (on off m t : Bool) → m ≡ mark x → t ≡ test x → Says o on off
      → Says (else_of o (cond t (Some x) None)) (((m && t) && not off) || on) ((not m && t) || off)
  one x (Some y) on off m t e f s = first (mark y) on off m t s
    where
      first : (w on off m t : Bool) → (on ≡ w) × (w ≡ false → off ≡ true) → ((((m && t) && not off) || on) ≡ w) × (w ≡ false → ((not m && t) || off) ≡ true)
      first true on off m t s = (rw s.0 (right ((m && t) && not off)), λ h. absurd (cc))
        where
          right : (a : Bool) → (a || true) ≡ true
          right true = refl
          right false = refl
      first false on off m t s = (rw (s.0, s.1 refl) (none (m && t)), λ h. rw (s.1 refl) (right (not m && t)))
        where
          none : (a : Bool) → ((a && false) || false) ≡ false
          none true = refl
          none false = refl

          right : (a : Bool) → (a || true) ≡ true
          right true = refl
          right false = refl
  one x None on off true true e f s = (set_on on off (mark x) s.0 s.1 e, λ h. absurd (clash e h))
    where
      clash : {w : Bool} → true ≡ w → w ≡ false → ⊥
      clash e h = cc

      set_on : (on off w : Bool) → on ≡ false → off ≡ false → true ≡ w → (not off || on) ≡ w
      set_on on true w e f g = absurd (cc)
      set_on on false w e f g = g
  one x None on off false true e f s = (s.0 ∙ e, λ h. refl)
  one x None on off true false e f s = s
  one x None on off false false e f s = s

  says : (xs : List X) → Says (last_that test xs) (stands (λ x. mark x && test x) (λ x. not (mark x) && test x) xs) (list_any (λ x. not (mark x) && test x) xs)
  says [] = (refl, refl)
  says (x ∷ xs) = one x (last_that test xs) (stands (λ x. mark x && test x) (λ x. not (mark x) && test x) xs) (list_any (λ x. not (mark x) && test x) xs) (mark x) (test x) refl refl (says xs)

  read : (o : Option X) (on off : Bool) → Says o on off → on ≡ is_there mark o
  read None on off s = s.0
  read (Some y) on off s = s.0

  pub last_stands : (xs : List X) → stands (λ x. mark x && test x) (λ x. not (mark x) && test x) xs ≡ is_there mark (last_that test xs)
  last_stands xs = read (last_that test xs) _ _ (says xs)

pub literal : Literal
literal = record {
  shape = λ q pieces. last_stands (λ p. p.on) (λ p. part_holds q p.part) pieces;
  object = λ q painted. last_stands (λ o. o.dark) (λ o. shape_holds q o.shape) painted;
}
