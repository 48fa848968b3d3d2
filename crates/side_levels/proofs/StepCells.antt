-- Steps towards the end of a run of cells are at cells of the run.
use Rattle.std.proofs.Common.{◌≡◌, ◌⊎◌, inl, inr, ℕ, zero, suc, ◌+◌, ◌-◌, ◌<◌, ◌≤◌, ℤ, pos, ◌+ℤ◌, ◌*ℤ◌, ◌≤ℤ◌, List, [], ◌∷◌, refl, sym, ap, subst, ◌∙◌, arith}
use Rattle.std.specs.List.{Contains}
use Rattle.std.proofs.lemmas.Int.{ints}
use Rattle.number_laws.proofs.Order.{cancel}
use Rattle.number_laws.proofs.Ring.{ring, var, num, add, mul}
use Rattle.board_base.specs.declared.places.Cell.{Cell}
use Rattle.board_base.specs.Lattice.{IsPitch, middle, half_of}
use Rattle.board_base.proofs.LatticeLaws.{pitch_positive, same_cell}
use Rattle.chain_walk.specs.Runs.{IsUnit, stepped, IsRun}
use Rattle.mill_program.specs.declared.cuts.Corner.{Corner}
use Rattle.levelling.specs.Pieces.{step_towards, steps_between, towards}
use Rattle.levelling.proofs.PieceLaws.{corner_is}
use Rattle.job_file.specs.declared.job.Job.{Job}
use Rattle.mill_plan.specs.Cuts.{corner_of}
use Rattle.side_levels.proofs.AxisLaws.{steps_on, no_steps, count_is}

-- ---- cells

pub stays_on_spot : (x : Cell) (n : ℕ) → stepped x (pos 0) (pos 0) n ≡ x
stays_on_spot x n = same_cell (stepped x (pos 0) (pos 0) n).i (stepped x (pos 0) (pos 0) n).j x.i x.j (none x.i (pos n)) (none x.j (pos n))
  where
    none : (a v : ℤ) → a +ℤ v *ℤ pos 0 ≡ a
    none a v = ring (a ∷ v ∷ []) (add (var 0) (mul (var 1) (num (pos 0)))) (var 0) refl

-- steps on from a cell some steps on
pub stepped_on : (x : Cell) (e f : ℤ) (m n : ℕ) → stepped (stepped x e f m) e f n ≡ stepped x e f (m + n)
stepped_on x e f m n =
    same_cell (stepped (stepped x e f m) e f n).i (stepped (stepped x e f m) e f n).j (stepped x e f (m + n)).i (stepped x e f (m + n)).j (axis x.i e (pos m) (pos n) (pos (m + n)) (whole m n)) (axis x.j f (pos m) (pos n) (pos (m + n)) (whole m n))
  where
    whole : (m n : ℕ) → pos (m + n) ≡ pos m +ℤ pos n
    whole m n = omega (arith, ints)

    axis : (a v s t u : ℤ) → u ≡ s +ℤ t → (a +ℤ s *ℤ v) +ℤ t *ℤ v ≡ a +ℤ u *ℤ v
    axis a v s t u e =
        ring (a ∷ v ∷ s ∷ t ∷ []) (add (add (var 0) (mul (var 2) (var 1))) (mul (var 3) (var 1))) (add (var 0) (mul (add (var 2) (var 3)) (var 1))) refl
        ∙ ap (λ (z : ℤ). a +ℤ z *ℤ v) (sym e)

-- one corner is that of one cell
same_middle : (p i j : ℤ) → IsPitch p → middle p i ≡ middle p j → i ≡ j
unfolding middle
same_middle p i j h e = both i j (cancel p i j (pitch_positive p h) (by (i *ℤ p) (j *ℤ p) (p *ℤ i) (p *ℤ j) (half_of p) e (turn i) (turn j))) (cancel p j i (pitch_positive p h) (by (j *ℤ p) (i *ℤ p) (p *ℤ j) (p *ℤ i) (half_of p) (sym e) (turn j) (turn i)))
  where
    turn : (a : ℤ) → a *ℤ p ≡ p *ℤ a
    turn a = ring (a ∷ p ∷ []) (mul (var 0) (var 1)) (mul (var 1) (var 0)) refl

    by : (a b c d k : ℤ) → a +ℤ k ≡ b +ℤ k → a ≡ c → b ≡ d → c ≤ℤ d
    by a b c d k e f g = omega (arith, ints, e, f, g)

    both : (i j : ℤ) → i ≤ℤ j → j ≤ℤ i → i ≡ j
    both i j h k = omega (arith, ints, h, k)

pub one_corner : (job : Job) (x y : Cell) → IsPitch job.pitch → corner_of job x ≡ corner_of job y → x ≡ y
unfolding corner_of
one_corner job x y h e =
    same_cell x.i x.j y.i y.j (same_middle job.pitch x.i y.i h (ap (λ (c : Corner). c.x) e)) (same_middle job.pitch x.j y.j h (ap (λ (c : Corner). c.y) e))

-- ---- steps

-- how many lattice steps lead from the corner of one cell to that of the other
abbrev pub steps_to : Job → Cell → Cell → ℕ
steps_to job x y = steps_between job.pitch (corner_of job x) (corner_of job y)

-- what so many lattice steps are of `count` unit steps
pub record AreUnitSteps (job : Job) (x : Cell) (e f : ℤ) (count : ℕ) (y : Cell) (steps : ℕ) : Type 0 where
  pub few : steps ≤ count
  pub ends : y ≡ stepped x e f steps
  pub at : (t : ℕ) → t ≤ steps → towards job.pitch (corner_of job x) (corner_of job y) t ≡ corner_of job (stepped x e f t)
  pub all : (t : ℕ) → t ≤ count → (s : ℕ) × (s ≤ steps) × (stepped x e f t ≡ stepped x e f s)

start : (job : Job) (x y : Cell) (e f : ℤ) → towards job.pitch (corner_of job x) (corner_of job y) 0 ≡ corner_of job (stepped x e f 0)
unfolding corner_of
start job x y e f =
    corner_is (middle job.pitch x.i +ℤ pos 0 *ℤ step_towards job.pitch (middle job.pitch x.i) (middle job.pitch y.i)) (middle job.pitch x.j +ℤ pos 0 *ℤ step_towards job.pitch (middle job.pitch x.j) (middle job.pitch y.j)) job.zwork
    (middle job.pitch (stepped x e f 0).i) (middle job.pitch (stepped x e f 0).j)
    (no_steps job.pitch x.i e (step_towards job.pitch (middle job.pitch x.i) (middle job.pitch y.i))) (no_steps job.pitch x.j f (step_towards job.pitch (middle job.pitch x.j) (middle job.pitch y.j)))

on_way : (job : Job) (x : Cell) (e f : ℤ) (n t : ℕ) → IsPitch job.pitch → IsUnit e → IsUnit f → 0 < n → towards job.pitch (corner_of job x) (corner_of job (stepped x e f n)) t ≡ corner_of job (stepped x e f t)
unfolding corner_of
on_way job x e f n t h u v some =
    let y : Cell = stepped x e f n in
    corner_is (middle job.pitch x.i +ℤ pos t *ℤ step_towards job.pitch (middle job.pitch x.i) (middle job.pitch y.i)) (middle job.pitch x.j +ℤ pos t *ℤ step_towards job.pitch (middle job.pitch x.j) (middle job.pitch y.j)) job.zwork
    (middle job.pitch (stepped x e f t).i) (middle job.pitch (stepped x e f t).j) (steps_on job.pitch x.i e n t h u some) (steps_on job.pitch x.j f n t h v some)

at_most : (t s : ℕ) → t ≤ s → s ≡ 0 → t ≡ 0
at_most t s h e = omega (arith, h, e)

-- where there are so many steps as unit steps
as_many : (job : Job) (x : Cell) (e f : ℤ) (n steps : ℕ) → IsPitch job.pitch → IsUnit e → IsUnit f → steps ≡ n → AreUnitSteps job x e f n (stepped x e f n) steps
as_many job x e f n steps h u v is = record {
  few = omega (arith, is);
  ends = ap (stepped x e f) (sym is);
  at = by n is;
  all = λ t l. (t, omega (arith, is, l), refl);
}
  where
    by : (m : ℕ) → steps ≡ m → (t : ℕ) → t ≤ steps → towards job.pitch (corner_of job x) (corner_of job (stepped x e f m)) t ≡ corner_of job (stepped x e f t)
    by zero none t l =
        subst (λ (k : ℕ). towards job.pitch (corner_of job x) (corner_of job (stepped x e f 0)) k ≡ corner_of job (stepped x e f k)) (sym (at_most t steps l none)) (start job x (stepped x e f 0) e f)
    by (suc m) some t l = on_way job x e f (suc m) t h u v (omega arith)

-- where there is no step
none_of : (job : Job) (x y : Cell) (n steps : ℕ) → y ≡ x → steps ≡ 0 → AreUnitSteps job x (pos 0) (pos 0) n y steps
none_of job x y n steps same none = record {
  few = omega (arith, none);
  ends = same ∙ sym (stays_on_spot x steps);
  at = λ t l. subst (λ (k : ℕ). towards job.pitch (corner_of job x) (corner_of job y) k ≡ corner_of job (stepped x (pos 0) (pos 0) k)) (sym (at_most t steps l none)) (start job x y (pos 0) (pos 0));
  all = λ t l. (0, omega arith, stays_on_spot x t ∙ sym (stays_on_spot x 0));
}

unit_steps_to : (job : Job) (x : Cell) (e f : ℤ) (n : ℕ) → IsPitch job.pitch → IsUnit e → IsUnit f → AreUnitSteps job x e f n (stepped x e f n) (steps_to job x (stepped x e f n))
unfolding corner_of
unit_steps_to job x e f n h u v = by_count (count_is job.pitch x.i x.j e f n h u v)
  where
    by_count : (steps_to job x (stepped x e f n) ≡ n) ⊎ ((steps_to job x (stepped x e f n) ≡ 0) × (e ≡ pos 0) × (f ≡ pos 0)) → AreUnitSteps job x e f n (stepped x e f n) (steps_to job x (stepped x e f n))
    by_count (inl many) = as_many job x e f n (steps_to job x (stepped x e f n)) h u v many
    by_count (inr (none, i, j)) =
        subst (λ (g : ℤ). AreUnitSteps job x g f n (stepped x e f n) (steps_to job x (stepped x e f n))) (sym i)
        (subst (λ (g : ℤ). AreUnitSteps job x (pos 0) g n (stepped x e f n) (steps_to job x (stepped x e f n))) (sym j)
        (none_of job x (stepped x e f n) n (steps_to job x (stepped x e f n)) ((λ t. stepped x (i t) (j t) n) ∙ stays_on_spot x n) none))

-- those of a run of cells
pub run_steps : {w : List Cell} (job : Job) (x y : Cell) → IsPitch job.pitch → (r : IsRun w x y) → AreUnitSteps job x r.east r.north r.count y (steps_to job x y)
run_steps job x y h r = subst (λ (z : Cell). AreUnitSteps job x r.east r.north r.count z (steps_to job x z)) (sym r.ends) (unit_steps_to job x r.east r.north r.count h r.unit_east r.unit_north)

-- a part of a run is one
abbrev pub run_part : {w : List Cell} {x y : Cell} (r : IsRun w x y) (a b : ℕ) → a ≤ b → b ≤ r.count → IsRun w (stepped x r.east r.north a) (stepped x r.east r.north b)
run_part {w = w} {x = x} r a b up early = record {
  east = r.east;
  north = r.north;
  unit_east = r.unit_east;
  unit_north = r.unit_north;
  count = b - a;
  ends = sym (stepped_on x r.east r.north a (b - a) ∙ ap (stepped x r.east r.north) (back a b up));
  through = λ t l. subst (Contains w) (sym (stepped_on x r.east r.north a t)) (r.through (a + t) (on a b t r.count up early l));
}
  where
    back : (a b : ℕ) → a ≤ b → a + (b - a) ≡ b
    back a b h = omega (arith, h)

    on : (a b t c : ℕ) → a ≤ b → b ≤ c → t ≤ b - a → a + t ≤ c
    on a b t c h k l = omega (arith, h, k, l)
