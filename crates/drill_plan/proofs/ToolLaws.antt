-- What the tool for a diameter is.
use Rattle.std.proofs.Common.{◌≡◌, refl, ℕ, ℤ, ◌-ℤ◌, ◌≤◌, Bool, true, false, cond, List, [], ◌∷◌, fold, ◌⊎◌, inl, inr, sym, subst, ◌∙◌, arith}
use Rattle.std.specs.Prelude.{unsigned_abs, int_le, nat_lt}
use Rattle.std.proofs.lemmas.Int.{ints}
use Rattle.std.proofs.lemmas.Bool.{ltb-true, cases_lt, lt-ltb, false≢true}
use Rattle.number_laws.proofs.Tests.{to_le, to_lt}
use Rattle.drill_plan.specs.Sets.{Has}
use Rattle.drill_plan.specs.Tools.{nearer, tool_of, IsNearer, IsToolFor, ToolLaw}

module _ (own : ℤ) where
  abbrev far : ℤ → ℕ
  far a = unsigned_abs (a -ℤ own)

  near_self : (a : ℤ) → IsNearer own a a
  near_self a = inr (refl, omega (arith, ints))

  near_trans : (a b c : ℤ) → IsNearer own a b → IsNearer own b c → IsNearer own a c
  near_trans a b c (inl h) (inl k) = inl (omega (arith, h, k))
  near_trans a b c (inl h) (inr k) = inl (omega (arith, h, k.0))
  near_trans a b c (inr h) (inl k) = inl (omega (arith, h.0, k))
  near_trans a b c (inr h) (inr k) = inr (omega (arith, h.0, k.0), omega (arith, ints, h.1, k.1))

  -- the one that is chosen of two
  record IsChosen (a b chosen : ℤ) : Type 0 where
    one : (chosen ≡ a) ⊎ (chosen ≡ b)
    left : IsNearer own chosen a
    right : IsNearer own chosen b

  not_less : (m n : ℕ) → nat_lt m n ≡ false → n ≤ m
  not_less m n e = elim (cases_lt m n) as (λ _. n ≤ m) [ inl l ↦ absurd (false≢true (sym e ∙ lt-ltb m n l)) | inr past ↦ past ]

  chosen : (a b : ℤ) → IsChosen a b (nearer own a b)
  chosen a b = by_tests (nat_lt (far a) (far b)) (nat_lt (far b) (far a)) (int_le a b) refl refl refl
    where
      by_tests : (s t w : Bool) → nat_lt (far a) (far b) ≡ s → nat_lt (far b) (far a) ≡ t → int_le a b ≡ w → IsChosen a b (cond s a (cond t b (cond w a b)))
      by_tests true t w s_is t_is w_is = record { one = inl refl; left = near_self a; right = inl (ltb-true (far a) (far b) s_is) }
      by_tests false true w s_is t_is w_is = record { one = inr refl; left = inl (ltb-true (far b) (far a) t_is); right = near_self b }
      by_tests false false true s_is t_is w_is =
          let low = not_less (far a) (far b) s_is in let high = not_less (far b) (far a) t_is in
          record { one = inl refl; left = near_self a; right = inr (omega (arith, low, high), to_le a b w_is) }
      by_tests false false false s_is t_is w_is =
          let low = not_less (far a) (far b) s_is in let high = not_less (far b) (far a) t_is in
          let under = to_lt a b w_is in
          record { one = inr refl; left = inr (omega (arith, low, high), omega (arith, ints, under)); right = near_self b }

  -- the one that is chosen of many
  record IsNearestOf (given : List ℤ) (tool : ℤ) : Type 0 where
    among : Has given tool
    nearest : (other : ℤ) → Has given other → IsNearer own tool other

  -- of two more things the chosen one comes first
  one_before : (best x : ℤ) (others : List ℤ) (tool : ℤ) → IsChosen best x (nearer own best x) → IsNearestOf (nearer own best x ∷ others) tool → IsNearestOf (best ∷ x ∷ others) tool
  one_before best x others tool two later = record { among = among_all later.among; nearest = nearest_all }
    where
      among_all : Has (nearer own best x ∷ others) tool → Has (best ∷ x ∷ others) tool
      among_all (inr h) = inr (inr h)
      among_all (inl same) = elim two.one as (λ _. Has (best ∷ x ∷ others) tool) [ inl e ↦ inl (sym e ∙ same) | inr e ↦ inr (inl (sym e ∙ same)) ]

      nearest_all : (other : ℤ) → Has (best ∷ x ∷ others) other → IsNearer own tool other
      nearest_all other (inl same) = subst (IsNearer own tool) same (near_trans tool (nearer own best x) best (later.nearest (nearer own best x) (inl refl)) two.left)
      nearest_all other (inr (inl same)) = subst (IsNearer own tool) same (near_trans tool (nearer own best x) x (later.nearest (nearer own best x) (inl refl)) two.right)
      nearest_all other (inr (inr h)) = later.nearest other (inr h)

  nearest_of : (best : ℤ) (others : List ℤ) → IsNearestOf (best ∷ others) (fold (nearer own) best others)
  nearest_of best [] = record { among = inl refl; nearest = only }
    where
      only : (other : ℤ) → Has (best ∷ []) other → IsNearer own best other
      only other (inl same) = subst (IsNearer own best) same (near_self best)
      only other (inr none) = absurd none
  nearest_of best (x ∷ others) = one_before best x others (fold (nearer own) (nearer own best x) others) (chosen best x) (nearest_of (nearer own best x) others)

pub tool_law : ToolLaw
tool_law [] own = record { given = inl (refl, refl); nearest = λ other none. absurd none }
tool_law (first ∷ others) own = let all = nearest_of own first others in record { given = inr all.among; nearest = all.nearest }

-- ---- one tool for each diameter

near_both : (own a b : ℤ) → IsNearer own a b → IsNearer own b a → a ≡ b
near_both own a b (inl h) (inl k) = absurd (omega (arith, h, k))
near_both own a b (inl h) (inr k) = absurd (omega (arith, h, k.0))
near_both own a b (inr h) (inl k) = absurd (omega (arith, h.0, k))
near_both own a b (inr h) (inr k) = omega (arith, ints, h.1, k.1)

one_tool : (available : List ℤ) (own a b : ℤ) → IsToolFor available own a → IsToolFor available own b → a ≡ b
one_tool available own a b s t = by_given s.given t.given
  where
    by_given : ((available ≡ []) × (a ≡ own)) ⊎ Has available a → ((available ≡ []) × (b ≡ own)) ⊎ Has available b → a ≡ b
    by_given (inl h) (inl k) = h.1 ∙ sym k.1
    by_given (inl h) (inr k) = absurd (subst (λ l. Has l b) h.0 k)
    by_given (inr h) (inl k) = absurd (subst (λ l. Has l a) k.0 h)
    by_given (inr h) (inr k) = near_both own a b (s.nearest b k) (t.nearest a h)

-- what is the tool for a diameter is the one that is found
pub tool_is : (available : List ℤ) (own tool : ℤ) → IsToolFor available own tool → tool_of available own ≡ tool
tool_is available own tool t = one_tool available own (tool_of available own) tool (tool_law available own) t
