-- A run of cells in pieces: runs from each piece's end to the next, over the same cells.
use Rattle.std.proofs.Common.{◌≡◌, ◌⊎◌, inl, inr, ℕ, zero, suc, ◌+◌, ◌-◌, ◌*◌, ◌/◌, ◌<◌, ◌≤◌, ℤ, List, [], ◌∷◌, ◌++◌, map, refl, sym, ap, subst, ◌∙◌, arith}
use Rattle.std.specs.List.{range_with_len}
use Rattle.std.proofs.Math.Nat.{div-mul-le_self, mul-le-mul_right}
use Rattle.std.proofs.lemmas.Bool.{cases_lt}
use Rattle.std.proofs.lemmas.List.{map-append}
use Rattle.board_base.specs.declared.places.Cell.{Cell}
use Rattle.board_base.specs.Lattice.{IsPitch}
use Rattle.chain_walk.specs.Runs.{stepped, IsRun, IsOnRun, AreSuccessive}
use Rattle.chain_walk.proofs.CornerRuns.{AreRuns, no_step}
use Rattle.mill_program.specs.declared.cuts.Corner.{Corner}
use Rattle.levelling.specs.Pieces.{towards, between, pieces}
use Rattle.job_file.specs.declared.job.Job.{Job}
use Rattle.mill_plan.specs.Cuts.{corner_of}
use Rattle.side_levels.proofs.StepCells.{one_corner, stepped_on, steps_to, AreUnitSteps, run_part}

-- ---- numbers of steps that rise

-- from a, no number below the one before it, up to the top
abbrev pub Climbs : ℕ → List ℕ → ℕ → Type 0
Climbs a [] top = a ≡ top
Climbs a (b ∷ bs) top = (a ≤ b) × Climbs b bs top

climb_top : (a : ℕ) (bs : List ℕ) (top : ℕ) → Climbs a bs top → a ≤ top
climb_top a [] top c = omega (arith, c)
climb_top a (b ∷ bs) top c = let up = c.0 in let rest = climb_top b bs top c.1 in omega (arith, up, rest)

-- the numbers of steps before each end of a piece
abbrev pub ends_at : ℕ → ℕ → ℕ → List ℕ
ends_at piece first count = map (λ k. k * piece) (range_with_len first count)

ends_climb : (piece a n top : ℕ) → (a + n) * piece ≤ top → Climbs (a * piece) (ends_at piece (a + 1) n ++ top ∷ []) top
ends_climb piece a zero top h = (subst (λ (k : ℕ). k * piece ≤ top) (none a) h, refl)
  where
    none : (a : ℕ) → a + 0 ≡ a
    none a = omega arith
ends_climb piece a (suc n) top h = (mul-le-mul_right piece (more a), ends_climb piece (a + 1) n top (subst (λ (k : ℕ). k * piece ≤ top) (next a n) h))
  where
    more : (a : ℕ) → a ≤ a + 1
    more a = omega arith

    next : (a n : ℕ) → a + suc n ≡ a + 1 + n
    next a n = omega arith

-- no piece ends past the move's end
pub pieces_short : (piece steps : ℕ) → (0 + between piece steps) * piece ≤ steps
unfolding between
pieces_short piece steps = let whole : (steps - 1) / piece * piece ≤ steps - 1 = div-mul-le_self (steps - 1) piece in by ((steps - 1) / piece) whole
  where
    by : (q : ℕ) → q * piece ≤ steps - 1 → (0 + q) * piece ≤ steps
    by q h = subst (λ (k : ℕ). k * piece ≤ steps) (none q) (omega (arith, h))
      where
        none : (q : ℕ) → q ≡ 0 + q
        none q = omega arith

-- ---- runs between rising numbers of steps

module _ (w : List Cell) (x y : Cell) (r : IsRun w x y) where
  abbrev on : ℕ → Cell
  on = stepped x r.east r.north

  -- the cells of the run from some steps on, up to others
  abbrev pub OnPart : ℕ → ℕ → Cell → Type 0
  OnPart a top c = (t : ℕ) × (a ≤ t) × (t ≤ top) × (c ≡ on t)

  climb_runs : (a : ℕ) (bs : List ℕ) (top : ℕ) → Climbs a bs top → top ≤ r.count → (u v : Cell) → AreSuccessive (on a ∷ map on bs) u v → IsRun w u v
  climb_runs a [] top c early u v h = absurd h
  climb_runs a (b ∷ bs) top c early u v (inl k) =
      subst (λ (z : Cell). IsRun w z v) k.0 (subst (IsRun w (on a)) k.1 (run_part r a b c.0 (low (climb_top b bs top c.1))))
    where
      low : b ≤ top → b ≤ r.count
      low h = omega (arith, early, h)
  climb_runs a (b ∷ bs) top c early u v (inr k) = climb_runs b bs top c.1 early u v k

  -- a cell no further on than the first number of steps lies on the first run
  first_part : (a b : ℕ) (cells : List Cell) → a ≤ b → b ≤ r.count → (t : ℕ) → a ≤ t → t ≤ b → (u v : Cell) × (AreSuccessive (on a ∷ on b ∷ cells) u v × IsOnRun w u v (on t))
  first_part a b cells up early t low l = (
    on a,
    on b,
    (
      inl (refl, refl),
      record {
        run = run_part r a b up early;
        at = t - a;
        early = less a b t l;
        is = sym (stepped_on x r.east r.north a (t - a) ∙ ap on (back a t low));
      },
    ),
  )
    where
      less : (a b t : ℕ) → t ≤ b → t - a ≤ b - a
      less a b t h = omega (arith, h)

      back : (a t : ℕ) → a ≤ t → a + (t - a) ≡ t
      back a t h = omega (arith, h)

  climb_covers : (a b : ℕ) (bs : List ℕ) (top : ℕ) → a ≤ b → Climbs b bs top → top ≤ r.count → (t : ℕ) → a ≤ t → t ≤ top
      → (u v : Cell) × (AreSuccessive (on a ∷ on b ∷ map on bs) u v × IsOnRun w u v (on t))
  climb_covers a b [] top up c early t low high = first_part a b [] up (omega (arith, c, early)) t low (omega (arith, c, high))
  climb_covers a b (d ∷ ds) top up c early t low high =
      by_case (cases_lt b t) (λ l. climb_covers b d ds top c.0 c.1 early t (omega (arith, l)) high)
    where
      most : b ≤ top → b ≤ r.count
      most h = omega (arith, early, h)

      by_case : (b < t) ⊎ (t ≤ b) → (b < t → (u v : Cell) × (AreSuccessive (on b ∷ on d ∷ map on ds) u v × IsOnRun w u v (on t)))
          → (u v : Cell) × (AreSuccessive (on a ∷ on b ∷ on d ∷ map on ds) u v × IsOnRun w u v (on t))
      by_case (inl l) later = let found = later l in (found.0, found.1, (inr found.2.0, found.2.1))
      by_case (inr l) later = first_part a b (on d ∷ map on ds) up (most (climb_top b (d ∷ ds) top c)) t low l

  climb_all : (a : ℕ) (bs : List ℕ) (last top : ℕ) → Climbs a (bs ++ last ∷ []) top → top ≤ r.count → AreRuns w (on a ∷ map on (bs ++ last ∷ [])) (OnPart a top)
  climb_all a bs last top c early = record {
    runs = climb_runs a (bs ++ last ∷ []) top c early;
    cover = by bs c;
  }
    where
      by : (bs : List ℕ) → Climbs a (bs ++ last ∷ []) top → (z : Cell) → OnPart a top z → (u v : Cell) × (AreSuccessive (on a ∷ map on (bs ++ last ∷ [])) u v × IsOnRun w u v z)
      by [] c z p = subst (λ (s : Cell). (u v : Cell) × (AreSuccessive (on a ∷ on last ∷ []) u v × IsOnRun w u v s)) (sym p.3) (climb_covers a last [] top c.0 c.1 early p.0 p.1 p.2)
      by (b ∷ bs) c z p =
          subst (λ (s : Cell). (u v : Cell) × (AreSuccessive (on a ∷ on b ∷ map on (bs ++ last ∷ [])) u v × IsOnRun w u v s)) (sym p.3)
          (climb_covers a b (bs ++ last ∷ []) top c.0 c.1 early p.0 p.1 p.2)

-- ---- the pieces of a move

-- the cells at the ends of the pieces before the last
abbrev pub inner_cells : Job → ℕ → (x y : Cell) → ℤ → ℤ → List Cell
inner_cells job piece x y e f = map (stepped x e f) (ends_at piece 1 (between piece (steps_to job x y)))

-- the pieces of a move over a run end at cells, each piece goes over a run, and all of them go over the cells of the run
pub record ArePieceCells (job : Job) (piece : ℕ) (w : List Cell) (x y : Cell) : Type 0 where
  pub inner : List Cell
  pub is : pieces job.pitch piece (corner_of job x) (corner_of job y) ≡ map (corner_of job) (inner ++ y ∷ [])
  pub runs : AreRuns w (x ∷ inner ++ y ∷ []) (λ z. (t : ℕ) × (t ≤ steps_to job x y) × (corner_of job z ≡ towards job.pitch (corner_of job x) (corner_of job y) t))

at_cells : (job : Job) (x y : Cell) (e f : ℤ) (n piece first count : ℕ) → AreUnitSteps job x e f n y (steps_to job x y) → (first + count) * piece ≤ steps_to job x y
    → map (λ k. towards job.pitch (corner_of job x) (corner_of job y) (k * piece)) (range_with_len (first + 1) count) ≡ map (corner_of job) (map (stepped x e f) (ends_at piece (first + 1) count))
at_cells job x y e f n piece first zero are early = refl
at_cells job x y e f n piece first (suc count) are early =
    λ i. are.at ((first + 1) * piece) (here first count early) i ∷ at_cells job x y e f n piece (first + 1) count are (subst (λ (k : ℕ). k * piece ≤ steps_to job x y) (next first count) early) i
  where
    next : (a n : ℕ) → a + suc n ≡ a + 1 + n
    next a n = omega arith

    here : (a n : ℕ) → (a + suc n) * piece ≤ steps_to job x y → (a + 1) * piece ≤ steps_to job x y
    here a n h = let m : (a + 1) * piece ≤ (a + suc n) * piece = mul-le-mul_right piece (up a n) in omega (arith, m, h)
      where
        up : (a n : ℕ) → a + 1 ≤ a + suc n
        up a n = omega arith

pub piece_cells : (job : Job) (piece : ℕ) (w : List Cell) (x y : Cell) → IsPitch job.pitch → (r : IsRun w x y) → AreUnitSteps job x r.east r.north r.count y (steps_to job x y) → ArePieceCells job piece w x y
piece_cells job piece w x y h r are =
    let on : ℕ → Cell = stepped x r.east r.north in
    let steps : ℕ = steps_to job x y in
    let ends : List ℕ = ends_at piece 1 (between piece steps) in
    let short = pieces_short piece steps in
    let all = climb_all w x y r (0 * piece) ends steps steps (ends_climb piece 0 (between piece steps) steps short) are.few in
    let parts : map on (ends ++ steps ∷ []) ≡ map on ends ++ y ∷ [] = map-append on ends (steps ∷ []) ∙ ap (λ (z : Cell). map on ends ++ z ∷ []) (sym are.ends) in
    let begins : on (0 * piece) ≡ x = ap on (nothing piece) ∙ no_step x r.east r.north in
    let whole : AreRuns w (x ∷ map on ends ++ y ∷ []) (OnPart w x y r (0 * piece) steps) =
    subst (λ (cells : List Cell). AreRuns w (x ∷ cells) (OnPart w x y r (0 * piece) steps)) parts (subst (λ (z : Cell). AreRuns w (z ∷ map on (ends ++ steps ∷ [])) (OnPart w x y r (0 * piece) steps)) begins all) in
    record {
      inner = map on ends;
      is = ap (λ (cs : List Corner). cs ++ corner_of job y ∷ []) (at_cells job x y r.east r.north r.count piece 0 (between piece steps) are short) ∙ sym (map-append (corner_of job) (map on ends) (y ∷ []));
      runs = record {
        runs = whole.runs;
        cover = λ z p. whole.cover z (p.0, low (nothing piece) p.0, p.1, one z p);
      };
    }
  where
    nothing : (p : ℕ) → 0 * p ≡ 0
    nothing p = omega arith

    low : 0 * piece ≡ 0 → (t : ℕ) → 0 * piece ≤ t
    low e t = omega (arith, e)

    one : (z : Cell) → (p : (t : ℕ) × (t ≤ steps_to job x y) × (corner_of job z ≡ towards job.pitch (corner_of job x) (corner_of job y) t)) → z ≡ stepped x r.east r.north p.0
    one z p = one_corner job z (stepped x r.east r.north p.0) h (p.2 ∙ are.at p.0 p.1)
