-- What the corners of a cut along steps are.
use Rattle.std.proofs.Common.{◌≡◌, ℕ, ◌+◌, ◌<◌, ℤ, Bool, true, false, cond, inl, inr, List, [], ◌∷◌, ◌++◌, map, length, refl, sym, ap, ◌∙◌, append_assoc, arith}
use Rattle.std.specs.List.{All, range_with_len}
use Rattle.std.specs.Ordering.{int_eq}
use Rattle.std.proofs.lemmas.Bool.Decides.{Decides-int_eq}
use Rattle.std.proofs.lemmas.List.Elements.{All-nil, All-cons, All-append, All-head, All-tail}
use Rattle.std.proofs.lemmas.List.{map-append}
use Rattle.std.proofs.lemmas.List.FromFn.{map-range_with_len_more}
use Rattle.number_laws.proofs.Tests.{by_bool}
use Rattle.board_base.specs.declared.places.Point.{Point}
use Rattle.mill_program.specs.declared.cuts.Corner.{Corner}
use Rattle.mill_program.specs.Conditions.{AreSteps}
use Rattle.outline_bridges.specs.declared.steps.Step.{Step}
use Rattle.outline_bridges.specs.declared.steps.Lifting.{Lifting}
use Rattle.outline_bridges.specs.Steps.{height_of, step_of, steps_from, steps_along}
use Rattle.outline_bridges.specs.Corners.{corner_at, is_straight_on, corners_between, corners_behind, corners_of}

-- ---- what holds of all corners

module _ (P : Corner → Type 0) (A : Point → Type 0) (Z : ℤ → Type 0) (at : (p : Point) (z : ℤ) → A p → Z z → P (corner_at p z)) where
  -- the ends of the step and its height are such
  abbrev Holds : Step → Type 0
  Holds s = A s.from × A s.to × Z s.z

  between_all : (s t : Step) → Holds s → Holds t → All P (corners_between s t)
  unfolding corners_between
  between_all s t h k = by (int_eq s.z t.z) (is_straight_on s t)
    where
      by : (b c : Bool) → All P (cond b (cond c [] (corner_at s.to s.z ∷ [])) (corner_at s.to s.z ∷ corner_at s.to t.z ∷ []))
      by true true = All-nil P
      by true false = All-cons P (corner_at s.to s.z) [] (at s.to s.z h.1 h.2) (All-nil P)
      by false c = All-cons P (corner_at s.to s.z) (corner_at s.to t.z ∷ []) (at s.to s.z h.1 h.2) (All-cons P (corner_at s.to t.z) [] (at s.to t.z h.1 k.2) (All-nil P))

  behind_all : (s : Step) (ts : List Step) → Holds s → All Holds ts → All P (corners_behind s ts)
  behind_all s [] h all = All-cons P (corner_at s.to s.z) [] (at s.to s.z h.1 h.2) (All-nil P)
  behind_all s (t ∷ ts) h all =
      let k = All-head Holds t ts all in All-append P (corners_between s t) (corners_behind t ts) (between_all s t h k) (behind_all t ts k (All-tail Holds t ts all))

  corners_all : (ss : List Step) → All Holds ss → All P (corners_of ss)
  corners_all [] all = All-nil P
  corners_all (s ∷ ss) all =
      let h = All-head Holds s ss all in All-cons P (corner_at s.from s.z) (corners_behind s ss) (at s.from s.z h.0 h.2) (behind_all s ss h (All-tail Holds s ss all))

  module _ (l : Lifting) (bridges : List Point) (lifted : Z l.lifted) (level : Z l.level) where
    height_is : (u v : Point) → Z (height_of l bridges u v)
    unfolding height_of
    height_is u v = by _
      where
        by : (b : Bool) → Z (cond b l.lifted l.level)
        by true = lifted
        by false = level

    step_is : (u v : Point) → A u → A v → Holds (step_of l bridges u v)
    step_is u v p q = (p, q, height_is u v)

    from_all : (u : Point) (vs : List Point) → A u → All A vs → All Holds (steps_from l bridges u vs)
    from_all u [] p all = All-nil Holds
    from_all u (v ∷ vs) p all =
        let q : A v = All-head A v vs all in All-cons Holds (step_of l bridges u v) (steps_from l bridges v vs) (step_is u v p q) (from_all v vs q (All-tail A v vs all))

    along_all : (points : List Point) → All A points → All Holds (steps_along l bridges points)
    along_all [] all = All-nil Holds
    along_all (u ∷ []) all = let p : A u = All-head A u [] all in All-cons Holds (step_of l bridges u u) [] (step_is u u p p) (All-nil Holds)
    along_all (u ∷ v ∷ vs) all = from_all u (v ∷ vs) (All-head A u (v ∷ vs) all) (All-tail A u (v ∷ vs) all)

    -- what holds of places and of the two heights holds of all corners
    pub cut_all : (points : List Point) → All A points → All P (corners_of (steps_along l bridges points))
    cut_all points all = corners_all (steps_along l bridges points) (along_all points all)

-- ---- from corner to corner

same_height : (s t : Step) → int_eq s.z t.z ≡ true → s.z ≡ t.z
same_height s t e = (Decides-int_eq s.z t.z).0 e

-- from one corner to the next the height stays, or the place does
steps_behind : (c : Corner) (s : Step) (ts : List Step) → c.z ≡ s.z → AreSteps (c ∷ corners_behind s ts)
unfolding corners_between
steps_behind c s [] e = (inl e, tt)
steps_behind c s (t ∷ ts) e =
    by_bool (int_eq s.z t.z)
    (λ same. by_bool (is_straight_on s t)
    (λ on. rw (same, on) (steps_behind c t ts (e ∙ same_height s t same)))
    (λ off. rw (same, off) (inl e, steps_behind (corner_at s.to s.z) t ts (same_height s t same))))
    (λ other. rw other (inl e, (inr (refl, refl), steps_behind (corner_at s.to t.z) t ts refl)))

pub cut_steps : (ss : List Step) → AreSteps (corners_of ss)
cut_steps [] = tt
cut_steps (s ∷ ss) = steps_behind (corner_at s.from s.z) s ss refl

-- a cut along a point or more has a corner or more
pub cut_some : (l : Lifting) (bridges points : List Point) → 0 < length points → 0 < length (corners_of (steps_along l bridges points))
cut_some l bridges [] some = some
cut_some l bridges (u ∷ []) some = omega arith
cut_some l bridges (u ∷ v ∷ vs) some = omega arith

-- ---- one level more

pub levels_more : (f : ℤ → List Corner) (g : ℕ → ℤ) (old now new : List (List Corner)) (k : ℕ) → now ≡ old ++ map f (map g (range_with_len 0 k)) → new ≡ now ++ f (g k) ∷ [] → new ≡ old ++ map f (map g (range_with_len 0 (k + 1)))
levels_more f g old now new k e h =
    h ∙ ap (λ (cs : List (List Corner)). cs ++ f (g k) ∷ []) e ∙ append_assoc old (map f (map g (range_with_len 0 k))) (f (g k) ∷ [])
    ∙ ap (λ (cs : List (List Corner)). old ++ cs) (sym (map-append f (map g (range_with_len 0 k)) (g k ∷ [])) ∙ ap (map f) (sym (map-range_with_len_more g 0 k k (zero_left k))))
  where
    zero_left : (k : ℕ) → 0 + k ≡ k
    zero_left k = omega arith
