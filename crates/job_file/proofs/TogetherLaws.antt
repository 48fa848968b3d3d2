-- Where no test of the whole job holds, its values go together.
use Rattle.std.proofs.Common.{◌≡◌, ℕ, ◌*◌, ◌≤◌, Bool, true, false, List, [], ◌∷◌, Option, Some, None, refl, arith, pos, nat_lt}
use Rattle.std.specs.Prelude.{◌&&◌, ◌||◌, int_le, int_lt, is_some}
use Rattle.std.specs.List.{AllByRecursion}
use Rattle.std.specs.Option.{option_or, option_map}
use Rattle.std.proofs.lemmas.Grind.{common_steps}
use Rattle.std.proofs.lemmas.Bool.{or_parts, or_left, or_right}
use Rattle.number_laws.proofs.Tests.{false_lt, to_lt, lt_true}
use Rattle.board_base.specs.declared.places.Side.{Side}
use Rattle.board_base.specs.declared.places.Side.TheVariants.{Front, Back}
use Rattle.board_base.specs.Lattice.{half_diagonal_of}
use Rattle.job_file.specs.declared.error.JobKind.{JobKind}
use Rattle.job_file.specs.declared.error.JobKind.TheVariants.{Missing}
use Rattle.job_file.specs.declared.job.Job.{Job}
use Rattle.job_file.specs.Checks.{fault, first_fault, names_side, names_some, missing_where, missing_of, radius_of, changes_low, probes_high, cuts_bridges, tiles_wrongly, reaches_past, is_thin, is_coarse, tests, fault_of}
use Rattle.job_file.specs.Together.{IsNamed, GoTogether}

-- none of these
neither : {A : Type 0} (a b : Option A) → option_or a b ≡ None → (a ≡ None) × (b ≡ None)
neither None b e = (refl, e)
neither (Some x) b e = absurd cc

unmapped : (o : Option ℕ) → option_map (fault Missing) o ≡ None → o ≡ None
unmapped None e = refl
unmapped (Some n) e = absurd cc

passes : (test : Bool) (f : JobKind × ℕ) (fs : List (Bool × (JobKind × ℕ))) → first_fault ((test, f) ∷ fs) ≡ None → (test ≡ false) × (first_fault fs ≡ None)
passes true f fs e = absurd cc
passes false f fs e = (refl, e)

-- no test of a list holds
abbrev Fails : Bool × (JobKind × ℕ) → Type 0
Fails f = f.0 ≡ false

all_fail : (fs : List (Bool × (JobKind × ℕ))) → first_fault fs ≡ None → AllByRecursion Fails fs
all_fail [] e = tt
all_fail (f ∷ fs) e = let p = passes f.0 f.1 fs e in (p.0, all_fail fs p.1)

second_false : (a b : Bool) → (a && b) ≡ false → a ≡ true → b ≡ false
second_false true b e h = e
second_false false b e h = absurd cc

first_false : (a b : Bool) → (a && b) ≡ false → b ≡ true → a ≡ false
first_false true true e h = absurd cc
first_false true false e h = absurd cc
first_false false b e h = refl

no_more : (n : ℕ) → nat_lt 1 n ≡ false → n ≤ 1
no_more n e = grind (arith, common_steps, e)

named_where : (named : Bool) (key : ℕ) → missing_where named key ≡ None → named ≡ true
named_where true key e = refl
named_where false key e = absurd cc

is_named : (side : Option Side) (job : Job) → missing_of side job ≡ None → IsNamed side job
unfolding missing_of
is_named (Some Front) job e = named_where (is_some job.front) 1 e
is_named (Some Back) job e = named_where (is_some job.back) 2 e
is_named None job e = named_where (names_some job) 0 e

pub go_together : (side : Option Side) (job : Job) → fault_of side job ≡ None → GoTogether side job
unfolding fault_of changes_low probes_high cuts_bridges tiles_wrongly reaches_past is_thin is_coarse
go_together side job e =
    let halves = neither (option_map (fault Missing) (missing_of side job)) (first_fault (tests side job)) e in
    let t : AllByRecursion Fails (tests side job) = all_fail (tests side job) halves.1 in
    let coarse = or_parts (names_side job && is_thin job job.mill_diameters) (is_some job.outline && is_thin job job.cutter_diameter) t.1.1.1.1.1.0 in
    record {
      named = is_named side job (unmapped (missing_of side job) halves.0);
      change = false_lt job.zchange job.zsafe t.0;
      probes = λ h. to_lt job.zsafe job.al_range (second_false job.al_front (int_le job.zsafe job.al_range) t.1.0 h);
      bridges = λ h. to_lt job.zbridges job.zcut (second_false (int_lt (pos 0) job.bridges) (int_le job.zbridges job.zcut) t.1.1.0 (lt_true (pos 0) job.bridges h));
      levelled = λ h. no_more (job.tile_x * job.tile_y) (first_false (nat_lt 1 (job.tile_x * job.tile_y)) (job.al_front || is_some side) t.1.1.1.0 (or_left job.al_front (is_some side) h));
      checked = λ h. no_more (job.tile_x * job.tile_y) (first_false (nat_lt 1 (job.tile_x * job.tile_y)) (job.al_front || is_some side) t.1.1.1.0 (or_right job.al_front (is_some side) h));
      tolerance = λ h. to_lt (radius_of job.mill_diameters) job.tolerance (second_false (names_side job) (int_le (radius_of job.mill_diameters) job.tolerance) t.1.1.1.1.0 h);
      side_fine = λ h. to_lt (radius_of job.mill_diameters) (half_diagonal_of job.pitch) (second_false (names_side job) (is_thin job job.mill_diameters) coarse.0 h);
      outline_fine = λ h. to_lt (radius_of job.cutter_diameter) (half_diagonal_of job.pitch) (second_false (is_some job.outline) (is_thin job job.cutter_diameter) coarse.1 h);
    }
