-- The moves between the corners are runs of unit steps.
use Rattle.std.proofs.Common.{rules, ◌≡◌, ℕ, zero, suc, ◌+◌, ◌<◌, ◌≤◌, ℤ, pos, ◌+ℤ◌, ◌-ℤ◌, ◌*ℤ◌, ◌≤ℤ◌, cond, Bool, true, false, ◌&&◌, List, [], ◌∷◌, length, ◌⊎◌, inl, inr, refl, sym, ap, subst, ◌∙◌, arith}
use Rattle.std.specs.List.{Contains}
use Rattle.std.specs.Ordering.{int_eq}
use Rattle.std.proofs.lemmas.Bool.{cases_eq}
use Rattle.std.proofs.lemmas.Bool.Decides.{Decides-int_eq}
use borrow.Author.Differences.{ints}
use Rattle.number_laws.proofs.Laws.{add_mul, one_mul, zero_mul}
use Rattle.number_laws.proofs.Tests.{by_bool}
use Rattle.board_base.specs.declared.places.Cell.{Cell}
use Rattle.board_base.specs.Lattice.{IsBeside, AreNeighbours}
use Rattle.cell_sets.proofs.CellLaws.{same_cell}
use Rattle.chain_walk.specs.Walk.{entry, IsConnected}
use Rattle.chain_walk.specs.Corners.{goes_straight, turns_of, corners_of}
use Rattle.chain_walk.specs.Runs.{IsUnit, stepped, IsRun, IsOnRun, AreSuccessive, CornerLaw}

times_suc : (t : ℕ) (v : ℤ) → pos (suc t) *ℤ v ≡ pos t *ℤ v +ℤ v
times_suc t v =
    let s : pos (suc t) ≡ pos t +ℤ pos 1 = omega (arith, ints) in
    ap (λ (x : ℤ). x *ℤ v) s ∙ add_mul (pos t) (pos 1) v ∙ ap (λ (x : ℤ). pos t *ℤ v +ℤ x) (one_mul v)

-- no step, and one step more
pub no_step : (c : Cell) (e n : ℤ) → stepped c e n 0 ≡ c
no_step c e n = same_cell (stepped c e n 0).i (stepped c e n 0).j c.i c.j (none c.i e (zero_mul e)) (none c.j n (zero_mul n))
  where
    none : (x v : ℤ) → pos 0 *ℤ v ≡ pos 0 → x +ℤ pos 0 *ℤ v ≡ x
    none x v h = omega (arith, ints, h)

pub more_step : (s b c : Cell) (e n : ℤ) (m : ℕ) → b ≡ stepped s e n m → e ≡ c.i -ℤ b.i → n ≡ c.j -ℤ b.j → c ≡ stepped s e n (suc m)
more_step s b c e n m h x y =
    same_cell c.i c.j (stepped s e n (suc m)).i (stepped s e n (suc m)).j (on c.i b.i s.i e (pos m *ℤ e) (pos (suc m) *ℤ e) (ap (λ (d : Cell). d.i) h) x (times_suc m e))
    (on c.j b.j s.j n (pos m *ℤ n) (pos (suc m) *ℤ n) (ap (λ (d : Cell). d.j) h) y (times_suc m n))
  where
    on : (c b s v t t' : ℤ) → b ≡ s +ℤ t → v ≡ c -ℤ b → t' ≡ t +ℤ v → c ≡ s +ℤ t'
    on c b s v t t' e f g = omega (arith, ints)

-- the step between two cells that are beside each other
pub unit_of : (v w : ℤ) → (v -ℤ w) ≤ℤ pos 1 → (w -ℤ v) ≤ℤ pos 1 → IsUnit (w -ℤ v)
unit_of v w h k = record { low = omega (arith, ints); high = omega (arith, ints) }

-- a straight step
pub straight : (a b c : Cell) → goes_straight a b c ≡ true → (b.i -ℤ a.i ≡ c.i -ℤ b.i) × (b.j -ℤ a.j ≡ c.j -ℤ b.j)
unfolding goes_straight
straight a b c h =
    let t = parts (int_eq (b.i -ℤ a.i) (c.i -ℤ b.i)) (int_eq (b.j -ℤ a.j) (c.j -ℤ b.j)) h in
    (equal (b.i -ℤ a.i) (c.i -ℤ b.i) t.0, equal (b.j -ℤ a.j) (c.j -ℤ b.j) t.1)
  where
    parts : (s t : Bool) → (s && t) ≡ true → (s ≡ true) × (t ≡ true)
    parts true true e = (refl, refl)
    parts true false e = absurd (cc)
    parts false t e = absurd (cc)

    equal : (x y : ℤ) → int_eq x y ≡ true → x ≡ y
    equal x y e = search (rules, Decides-int_eq)

-- each cell is beside the one before it
abbrev pub Steps : Cell → List Cell → Type 0
Steps b [] = Unit {0}
Steps b (c ∷ cells) = IsBeside b c × Steps c cells

pub steps_of : (b : Cell) (cells : List Cell) → ((k : ℕ) → k + 1 < length (b ∷ cells) → AreNeighbours (entry (b ∷ cells) k) (entry (b ∷ cells) (k + 1))) → Steps b cells
steps_of b [] h = tt
steps_of b (c ∷ cells) h = (
  (h 0 (omega arith)).beside,
  steps_of c cells (λ k l. (let e : suc k + 1 ≡ suc (k + 1) = omega arith in subst (λ (m : ℕ). AreNeighbours (entry (c ∷ cells) k) (entry (b ∷ c ∷ cells) m)) e (h (suc k) (omega (arith, l))))),
)

module _ (all : List Cell) where
  -- what is said of the moves between some corners: each is a run, and each cell of this kind lies on one
  pub record AreRuns (corners : List Cell) (P : Cell → Type 0) : Type 0 where
    pub runs : (x y : Cell) → AreSuccessive corners x y → IsRun all x y
    pub cover : (c : Cell) → P c → (x y : Cell) × (AreSuccessive corners x y × IsOnRun all x y c)

  -- a run so far: from s to b by m + 1 steps
  pub record IsRunning (s b : Cell) (e n : ℤ) (m : ℕ) : Type 0 where
    pub unit_east : IsUnit e
    pub unit_north : IsUnit n
    pub ends : b ≡ stepped s e n m
    pub through : (t : ℕ) → t ≤ m → Contains all (stepped s e n t)

  -- the cells of the run so far, and those to come
  abbrev OnWay : Cell → ℤ → ℤ → ℕ → List Cell → Cell → Type 0
  OnWay s e n m rest c = ((t : ℕ) × ((t ≤ m) × (c ≡ stepped s e n t))) ⊎ Contains rest c

  abbrev run_of : (s b : Cell) (e n : ℤ) (m : ℕ) → IsRunning s b e n m → IsRun all s b
  run_of s b e n m r = record { east = e; north = n; unit_east = r.unit_east; unit_north = r.unit_north; count = m; ends = r.ends; through = r.through }

  longer : (s b c : Cell) (e n : ℤ) (m : ℕ) → IsRunning s b e n m → e ≡ c.i -ℤ b.i → n ≡ c.j -ℤ b.j → Contains all c → IsRunning s c e n (suc m)
  longer s b c e n m r x y there = record {
    unit_east = r.unit_east;
    unit_north = r.unit_north;
    ends = more_step s b c e n m r.ends x y;
    through = λ t l. elim (cases_eq t (suc m)) as (λ _. Contains all (stepped s e n t)) [
      | inl z ↦ subst (Contains all) (more_step s b c e n m r.ends x y ∙ ap (stepped s e n) (sym z)) there
      | inr ne ↦ r.through t (omega (arith, l, ne))
    ];
  }

  begun : (b c : Cell) → IsBeside b c → Contains all b → Contains all c → IsRunning b c (c.i -ℤ b.i) (c.j -ℤ b.j) 1
  begun b c beside b_in c_in =
      longer b b c (c.i -ℤ b.i) (c.j -ℤ b.j) 0 (record {
        unit_east = unit_of b.i c.i beside.west beside.east;
        unit_north = unit_of b.j c.j beside.south beside.north;
        ends = sym (no_step b (c.i -ℤ b.i) (c.j -ℤ b.j));
        through = λ t l. (let z : t ≡ 0 = omega (arith, l) in subst (Contains all) (sym (ap (stepped b (c.i -ℤ b.i) (c.j -ℤ b.j)) z ∙ no_step b (c.i -ℤ b.i) (c.j -ℤ b.j))) b_in);
      }) refl refl c_in

  -- the last run
  ended : (s b : Cell) (e n : ℤ) (m : ℕ) → IsRunning s b e n m → AreRuns (s ∷ b ∷ []) (OnWay s e n m [])
  ended s b e n m r = record {
    runs = λ x y h. elim h as (λ _. IsRun all x y) [
      | inl k ↦ subst (λ (z : Cell). IsRun all z y) k.0 (subst (IsRun all s) k.1 (run_of s b e n m r))
      | inr k ↦ absurd k
    ];
    cover = λ c h. elim h as (λ _. (x y : Cell) × (AreSuccessive (s ∷ b ∷ []) x y × IsOnRun all x y c)) [
      | inl k ↦ (s, b, (inl (refl, refl), record { run = run_of s b e n m r; at = k.0; early = k.1.0; is = k.1.1 }))
      | inr k ↦ absurd (omega (arith, k.1))
    ];
  }

  -- a run that ends at b, before others
  turned : (s b : Cell) (e n : ℤ) (m : ℕ) (corners : List Cell) (P Q : Cell → Type 0) → IsRunning s b e n m → AreRuns (b ∷ corners) P → ((c : Cell) → Q c → ((t : ℕ) × ((t ≤ m) × (c ≡ stepped s e n t))) ⊎ P c) → AreRuns (s ∷ b ∷ corners) Q
  turned s b e n m corners P Q r later split = record {
    runs = λ x y h. elim h as (λ _. IsRun all x y) [
      | inl k ↦ subst (λ (z : Cell). IsRun all z y) k.0 (subst (IsRun all s) k.1 (run_of s b e n m r))
      | inr k ↦ later.runs x y k
    ];
    cover = λ c q. elim (split c q) as (λ _. (x y : Cell) × (AreSuccessive (s ∷ b ∷ corners) x y × IsOnRun all x y c)) [
      | inl k ↦ (s, b, (inl (refl, refl), record { run = run_of s b e n m r; at = k.0; early = k.1.0; is = k.1.1 }))
      | inr k ↦ (let found = later.cover c k in (found.0, found.1, (inr found.2.0, found.2.1)))
    ];
  }

  first_or_later : (d : Cell) (cells : List Cell) (c : Cell) → Contains (d ∷ cells) c → (c ≡ d) ⊎ Contains cells c
  first_or_later d cells c (zero, l, e) = inl (sym e)
  first_or_later d cells c (suc k, l, e) = inr (k, omega (arith, l), e)

  going : (s a b : Cell) (e n : ℤ) (m : ℕ) (rest : List Cell) → e ≡ b.i -ℤ a.i → n ≡ b.j -ℤ a.j → IsRunning s b e n m → Steps b rest → Contains all b → ((c : Cell) → Contains rest c → Contains all c)
      → AreRuns (s ∷ turns_of a b rest) (OnWay s e n m rest)
  going s a b e n m [] x y r steps b_in within = ended s b e n m r
  going s a b e n m (c ∷ rest) x y r steps b_in within =
      by_bool (goes_straight a b c)
      (λ (t : goes_straight a b c ≡ true).
      let same = straight a b c t in
      let on = going s b c e n (suc m) rest (x ∙ same.0) (y ∙ same.1) (longer s b c e n m r (x ∙ same.0) (y ∙ same.1) c_in) steps.1 c_in later_in in
      subst (λ (z : Bool). AreRuns (s ∷ cond z (turns_of b c rest) (b ∷ turns_of b c rest)) (OnWay s e n m (c ∷ rest))) (sym t) (record {
        runs = on.runs;
        cover = λ d h. on.cover d (elim h as (λ _. OnWay s e n (suc m) rest d) [
          | inl k ↦ inl (k.0, (omega (arith, k.1.0), k.1.1))
          | inr k ↦ elim (first_or_later c rest d k) as (λ _. OnWay s e n (suc m) rest d) [
            | inl z ↦ inl (suc m, (omega arith, z ∙ more_step s b c e n m r.ends (x ∙ same.0) (y ∙ same.1)))
            | inr z ↦ inr z
          ]
        ]);
      }))
      (λ (t : goes_straight a b c ≡ false).
      let e' : ℤ = c.i -ℤ b.i in
      let n' : ℤ = c.j -ℤ b.j in
      let on = going b b c e' n' 1 rest refl refl (begun b c steps.0 b_in c_in) steps.1 c_in later_in in
      subst (λ (z : Bool). AreRuns (s ∷ cond z (turns_of b c rest) (b ∷ turns_of b c rest)) (OnWay s e n m (c ∷ rest))) (sym t)
      (turned s b e n m (turns_of b c rest) (OnWay b e' n' 1 rest) (OnWay s e n m (c ∷ rest)) r on (λ d h. elim h as (λ _. ((t : ℕ) × ((t ≤ m) × (d ≡ stepped s e n t))) ⊎ OnWay b e' n' 1 rest d) [
        | inl k ↦ inl k
        | inr k ↦ inr (elim (first_or_later c rest d k) as (λ _. OnWay b e' n' 1 rest d) [
          | inl z ↦ inl (1, (omega arith, z ∙ (begun b c steps.0 b_in c_in).ends))
          | inr z ↦ inr z
        ])
      ])))
    where
      c_in : Contains all c
      c_in = within c (0, omega arith, refl)

      later_in : (d : Cell) → Contains rest d → Contains all d
      later_in d h = within d (suc h.0, omega (arith, h.1), h.2)

-- a walk of one cell
alone : (a : Cell) → AreRuns (a ∷ []) (a ∷ a ∷ []) (Contains (a ∷ []))
alone a = record {
  runs = λ x y h. elim h as (λ _. IsRun (a ∷ []) x y) [
    | inl k ↦ subst (λ (z : Cell). IsRun (a ∷ []) z y) k.0 (subst (IsRun (a ∷ []) a) k.1 spot)
    | inr k ↦ absurd k
  ];
  cover = λ c m. (a, a, (inl (refl, refl), record { run = spot; at = 0; early = omega arith; is = only c m ∙ sym (no_step a (pos 0) (pos 0)) }));
}
  where
    here : Contains (a ∷ []) a
    here = (0, omega arith, refl)

    spot : IsRun (a ∷ []) a a
    spot = record {
      east = pos 0;
      north = pos 0;
      unit_east = record { low = omega (arith, ints); high = omega (arith, ints) };
      unit_north = record { low = omega (arith, ints); high = omega (arith, ints) };
      count = 0;
      ends = sym (no_step a (pos 0) (pos 0));
      through = λ t l. (let z : t ≡ 0 = omega (arith, l) in subst (Contains (a ∷ [])) (sym (ap (stepped a (pos 0) (pos 0)) z ∙ no_step a (pos 0) (pos 0))) here);
    }

    only : (c : Cell) → Contains (a ∷ []) c → c ≡ a
    only c (zero, l, e) = sym e
    only c (suc k, l, e) = absurd (omega (arith, l))

corner_runs : (cells : List Cell) → IsConnected cells → AreRuns cells (corners_of cells) (Contains cells)
corner_runs [] h = absurd (let s = h.some in omega (arith, s))
corner_runs (a ∷ []) h = alone a
corner_runs (a ∷ b ∷ cells) h =
    let steps = steps_of a (b ∷ cells) h.steps in
    let all : List Cell = a ∷ b ∷ cells in
    let a_in : Contains all a = (0, omega arith, refl) in
    let b_in : Contains all b = (1, omega arith, refl) in
    let r = begun all a b steps.0 a_in b_in in
    let on = going all a a b (b.i -ℤ a.i) (b.j -ℤ a.j) 1 cells refl refl r steps.1 b_in (λ c m. (suc (suc m.0), omega (arith, m.1), m.2)) in
    record {
      runs = on.runs;
      cover = λ c m. on.cover c (elim (first_or_later all a (b ∷ cells) c m) as (λ _. OnWay all a (b.i -ℤ a.i) (b.j -ℤ a.j) 1 cells c) [
        | inl z ↦ inl (0, (omega arith, z ∙ sym (no_step a (b.i -ℤ a.i) (b.j -ℤ a.j))))
        | inr k ↦ elim (first_or_later all b cells c k) as (λ _. OnWay all a (b.i -ℤ a.i) (b.j -ℤ a.j) 1 cells c) [
          | inl z ↦ inl (1, (omega arith, z ∙ r.ends))
          | inr z ↦ inr z
        ]
      ]);
    }

pub corner_law : CornerLaw
corner_law cells h = let q = corner_runs cells h in (q.runs, q.cover)
