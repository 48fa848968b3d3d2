-- The groups of islands by lists of meetings, where meeting a is of island `slice_index number a` and of class `slice_index class a`.
use Rattle.std.specs.Prelude.{◌≡◌, ◌≢◌, ℕ, ◌+◌, ◌<◌, ◌≤◌, Bool, true, false, List, length, map, slice_index, slice_index_or}
use Rattle.std.specs.List.{Contains}
use Rattle.std.specs.List.Sorted.{IsStrictlyIncreasing}

-- the number at an index, 0 past the end
abbrev pub at : List ℕ → ℕ → ℕ
at xs a = slice_index xs a

-- the number has a mark in the table
abbrev pub is_on : List Bool → ℕ → Bool
is_on table u = slice_index_or table u false

-- no number of the list is 0
abbrev pub AreSome : List ℕ → Type 0
AreSome xs = (a : ℕ) → a < length xs → 0 < at xs a

-- the table holds the islands of the class k, among the first n meetings
pub record IsTable (number class : List ℕ) (k : ℕ) (table : List Bool) (n : ℕ) : Type 0 where
  pub sound : (u : ℕ) → is_on table u ≡ true → (a : ℕ) × ((0 < at number a) × (at class a ≡ k) × (at number a ≡ u))
  pub whole : (a : ℕ) → a < n → 0 < at number a → at class a ≡ k → is_on table (at number a) ≡ true

-- the numbers from 1 on and below n that a table holds, ascending
pub record IsListed (table : List Bool) (n : ℕ) (xs : List ℕ) : Type 0 where
  pub ascending : IsStrictlyIncreasing xs
  pub sound : (u : ℕ) → Contains xs u → (u < n) × (is_on table u ≡ true)
  pub whole : (u : ℕ) → 0 < u → u < n → is_on table u ≡ true → Contains xs u

-- the islands of the class k, ascending
pub record IsMembers (number class : List ℕ) (k : ℕ) (xs : List ℕ) : Type 0 where
  pub ascending : IsStrictlyIncreasing xs
  pub sound : (u : ℕ) → Contains xs u → (a : ℕ) × ((0 < at number a) × (at class a ≡ k) × (at number a ≡ u))
  pub whole : (a : ℕ) → 0 < at number a → at class a ≡ k → Contains xs (at number a)

-- the first meetings of the classes, of the first n, in order
pub record AreFirsts (number class : List ℕ) (firsts : List ℕ) (n : ℕ) : Type 0 where
  pub ascending : IsStrictlyIncreasing firsts
  pub below : (a : ℕ) → Contains firsts a → a < n
  pub island : (a : ℕ) → Contains firsts a → 0 < at number a
  pub in_class : (a : ℕ) → Contains firsts a → 0 < at class a
  pub earliest : (a b : ℕ) → Contains firsts a → 0 < at number b → at class b ≡ at class a → a ≤ b
  pub whole : (b : ℕ) → b < n → 0 < at number b → 0 < at class b → (a : ℕ) × (Contains firsts a × (at class a ≡ at class b))

-- the classes of the first n meetings, in the order of their first
pub record AreInOrder (number class : List ℕ) (list : List ℕ) (n : ℕ) : Type 0 where
  pub firsts : List ℕ
  pub list_is : list ≡ map (λ a. at class a) firsts
  pub are : AreFirsts number class firsts n

-- the classes that have a mark are those of the first n meetings
pub record AreSeen (number class : List ℕ) (seen : List Bool) (n : ℕ) : Type 0 where
  pub sound : (k : ℕ) → is_on seen k ≡ true → (b : ℕ) × ((b < n) × (0 < at number b) × (at class b ≡ k))
  pub whole : (b : ℕ) → b < n → 0 < at number b → 0 < at class b → is_on seen (at class b) ≡ true

-- a group by its class's first meeting
pub record Found : Type 0 where
  pub first : ℕ
  pub islands : List ℕ

-- the ascending island numbers of a class that holds two or more
pub record IsFound (number class : List ℕ) (first : ℕ) (group : List ℕ) : Type 0 where
  pub island : 0 < at number first
  pub in_class : 0 < at class first
  pub earliest : (b : ℕ) → 0 < at number b → at class b ≡ at class first → first ≤ b
  pub ascending : IsStrictlyIncreasing group
  pub sound : (u : ℕ) → Contains group u → (b : ℕ) × ((0 < at number b) × (at class b ≡ at class first) × (at number b ≡ u))
  pub whole : (b : ℕ) → 0 < at number b → at class b ≡ at class first → Contains group (at number b)
  pub two : 2 ≤ length group

-- each group begins at a later meeting than the one before
abbrev pub IsRising : List Found → Type 0
IsRising found = (k : ℕ) (d : Found) → k + 1 < length found → (slice_index_or found k d).first < (slice_index_or found (k + 1) d).first

-- exactly the classes with two or more islands, in the order of their first meetings
pub record AreAllFound (number class : List ℕ) (groups : List (List ℕ)) : Type 0 where
  pub found : List Found
  pub lists : groups ≡ map (λ g. g.islands) found
  pub each : (g : Found) → Contains found g → IsFound number class g.first g.islands
  pub rising : IsRising found
  pub whole : (a b : ℕ) → 0 < at number a → 0 < at number b → at number a ≢ at number b → 0 < at class a → at class b ≡ at class a
      → (g : Found) × (Contains found g × (at class g.first ≡ at class a))
