-- What the cuts along walks keep clear of.
use Rattle.std.proofs.Common.{◌≡◌, ℕ, suc, ℤ, pos, ◌-ℤ◌, ◌≤ℤ◌, true, inl, List, [], ◌∷◌, map, refl, arith}
use Rattle.std.specs.List.{All, Contains, range_with_len}
use Rattle.std.proofs.lemmas.List.Elements.{All-nil, All-cons, All-append, All-head, All-tail, All-contains}
use borrow.Author.Differences.{ints}
use Rattle.board_base.specs.declared.places.Cell.{Cell}
use Rattle.board_base.specs.declared.places.Point.{Point}
use Rattle.board_base.specs.Lattice.{IsBeside, centre_of}
use Rattle.board_base.specs.Near.{near_of}
use Rattle.chain_walk.specs.Walk.{IsConnected}
use Rattle.chain_walk.proofs.CornerRuns.{Steps, steps_of as steps_in}
use Rattle.mill_program.specs.declared.cuts.Corner.{Corner}
use Rattle.outline_bridges.specs.declared.steps.Step.{Step}
use Rattle.outline_bridges.specs.declared.steps.Lifting.{Lifting}
use Rattle.outline_bridges.specs.Chains.{centres_of}
use Rattle.outline_bridges.specs.Steps.{step_of, steps_from, steps_of}
use Rattle.outline_bridges.specs.Corners.{corners_of}
use Rattle.outline_bridges.specs.CutLaw.{HasStepNear, AreParts, IsOfSteps, AreClear, IsClear, CutLaw}
use Rattle.job_file.specs.declared.job.Job.{Job}
use Rattle.outline_plan.specs.Job.{level_at}
use Rattle.outline_plan.specs.Cuts.{cut_at, walk_cuts, outline_cuts}

-- ---- one cut

-- the step keeps off q
abbrev KeepsOff : Point → ℤ → Step → Type 0
KeepsOff q d s = near_of q s.from s.to d ≡ true → ⊥

module _ (q : Point) (d : ℤ) where
  none_near : (steps : List Step) (h : ℤ) → All (KeepsOff q d) steps → HasStepNear steps h q d → ⊥
  none_near steps h all near = All-contains (KeepsOff q d) steps near.step all near.there near.near

  clear_parts : (steps : List Step) (h : ℤ) → All (KeepsOff q d) steps → (c : Corner) (cs : List Corner) → AreParts steps c cs → AreClear q d h c cs
  clear_parts steps h all c [] parts = λ low near. none_near steps h all (parts q d h (inl low) near)
  clear_parts steps h all c (e ∷ es) parts = (
    (λ low near. none_near steps h all (parts.0 q d h (inl low) near)),
    (λ low near. none_near steps h all (parts.1 q d h low near)),
    clear_parts steps h all e es parts.2,
  )

  -- a cut along steps that keep off q keeps clear of it
  clear_cut : (steps : List Step) (h : ℤ) (cut : List Corner) → All (KeepsOff q d) steps → IsOfSteps steps cut → IsClear q d h cut
  clear_cut steps h [] all parts = tt
  clear_cut steps h (c ∷ cs) all parts = clear_parts steps h all c cs parts

itself : (c : Cell) → IsBeside c c
itself c = record { west = none c.i; east = none c.i; south = none c.j; north = none c.j }
  where
    none : (i : ℤ) → (i -ℤ i) ≤ℤ pos 1
    none i = omega (arith, ints)

module _ (pitch : ℤ) (P : Cell → Type 0) (q : Point) (d : ℤ) (off : (a b : Cell) → P a → P b → IsBeside a b → near_of q (centre_of pitch a) (centre_of pitch b) d ≡ true → ⊥) (l : Lifting) (bridges : List Point) where
  steps_off : (c : Cell) (cs : List Cell) → Steps c cs → All P (c ∷ cs) → All (KeepsOff q d) (steps_from l bridges (centre_of pitch c) (centres_of pitch cs))
  steps_off c [] steps all = All-nil (KeepsOff q d)
  steps_off c (e ∷ es) steps all =
      let rest = All-tail P c (e ∷ es) all in
      All-cons (KeepsOff q d) (step_of l bridges (centre_of pitch c) (centre_of pitch e)) (steps_from l bridges (centre_of pitch e) (centres_of pitch es)) (off c e (All-head P c (e ∷ es) all) (All-head P e es rest) steps.0)
      (steps_off e es steps.1 rest)

  walk_off : (walk : List Cell) → IsConnected walk → All P walk → All (KeepsOff q d) (steps_of l bridges pitch walk)
  walk_off [] connected all = All-nil (KeepsOff q d)
  walk_off (c ∷ []) connected all =
      let ok = All-head P c [] all in
      All-cons (KeepsOff q d) (step_of l bridges (centre_of pitch c) (centre_of pitch c)) [] (off c c ok ok (itself c)) (All-nil (KeepsOff q d))
  walk_off (c ∷ e ∷ es) connected all = steps_off c (e ∷ es) (steps_in c (e ∷ es) connected.steps) all

  -- a cut along a walk keeps clear of what each step between its cells keeps off
  pub walk_clear : CutLaw → (h : ℤ) (walk : List Cell) → IsConnected walk → All P walk → IsClear q d h (corners_of (steps_of l bridges pitch walk))
  walk_clear law h walk connected all = clear_cut q d (steps_of l bridges pitch walk) h (corners_of (steps_of l bridges pitch walk)) (walk_off walk connected all) (law.parts l bridges pitch walk)

-- ---- all cuts

module _ (job : Job) (bridges : List Point) (P : List Corner → Type 0) where
  all_levels : (walk : List Cell) (ks : List ℕ) → ((k : ℕ) → P (cut_at job bridges walk (level_at job k))) → All P (map (cut_at job bridges walk) (map (level_at job) ks))
  all_levels walk [] h = All-nil P
  all_levels walk (k ∷ ks) h = All-cons P (cut_at job bridges walk (level_at job k)) (map (cut_at job bridges walk) (map (level_at job) ks)) (h k) (all_levels walk ks h)

  -- what holds of each level of each walk holds of all cuts
  pub all_cuts : (walks : List (List Cell)) → ((w : List Cell) (k : ℕ) → Contains walks w → P (cut_at job bridges w (level_at job k))) → All P (outline_cuts job bridges walks)
  all_cuts [] h = All-nil P
  all_cuts (walk ∷ walks) h =
      All-append P (walk_cuts job bridges walk) (outline_cuts job bridges walks) (all_levels walk (range_with_len 0 _) (λ k. h walk k (0, omega arith, refl)))
      (all_cuts walks (λ w k m. h w k (suc m.0, omega (arith, m.1), m.2)))
