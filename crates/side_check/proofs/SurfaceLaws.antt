-- The surface as a sum of four shares, and the grid that it goes by.
use Rattle.std.proofs.Common.{◌≡◌, ℕ, zero, suc, ◌+◌, ◌≤◌, ◌<◌, ℤ, pos, ◌+ℤ◌, ◌*ℤ◌, unsigned_abs, true, List, [], ◌∷◌, map, length, get_or, Result, refl, sym, ap, subst, ◌∙◌, arith}
use Rattle.std.proofs.lemmas.List.Sums.{get_or-le-sum_by}
use Rattle.board_base.specs.declared.places.Point.{Point}
use Rattle.board_base.specs.declared.places.Side.TheVariants.{Front}
use Rattle.cell_grid.specs.declared.frames.Frame.{Frame}
use Rattle.mill_program.specs.declared.probes.ProbeGrid.{ProbeGrid}
use Rattle.mill_program.specs.declared.probes.Weights.{Weights}
use Rattle.mill_program.specs.Probes.{AreShares, weighted, weights_of, answer_of, probes_of, surface_of}
use Rattle.mill_program.proofs.HeightLaws.{nothing_more}
use Rattle.levelling.specs.declared.grids.TooManyProbes.{TooManyProbes}
use Rattle.levelling.specs.Grids.{grid_of}
use Rattle.job_file.specs.declared.job.Job.{Job}
use Rattle.side_check.specs.Found.{grid_or_limit, grid_over_side}

at_pos : (parts : List ℕ) (k : ℕ) → get_or (map pos parts) k (pos 0) ≡ pos (get_or parts k 0)
at_pos [] k = refl
at_pos (p ∷ ps) zero = refl
at_pos (p ∷ ps) (suc k) = at_pos ps k

-- no share is more than the whole
pub share_small : (w : List ℤ) → AreShares w → (k : ℕ) → k < 4 → unsigned_abs (get_or w k (pos 0)) ≤ 1000000
share_small w (parts, (is, len, total)) k h =
    subst (λ (n : ℕ). n ≤ 1000000) (sym (ap (λ (v : List ℤ). unsigned_abs (get_or v k (pos 0))) is ∙ ap unsigned_abs (at_pos parts k)))
    (subst (λ (n : ℕ). get_or parts k 0 ≤ n) total (get_or-le-sum_by (λ n. n) parts k 0 (omega (arith, len, h))))

-- ---- the sum

-- so many times each
abbrev by_four : List ℤ → ℤ → ℤ → ℤ → ℤ → ℤ
by_four w a b c d = get_or w 0 (pos 0) *ℤ a +ℤ (get_or w 1 (pos 0) *ℤ b +ℤ (get_or w 2 (pos 0) *ℤ c +ℤ get_or w 3 (pos 0) *ℤ d))

four_parts : (parts : List ℕ) (a b c d : ℤ) → length parts ≡ 4 → by_four (map pos parts) a b c d ≡ weighted (map pos parts) (a ∷ b ∷ c ∷ d ∷ [])
four_parts [] a b c d e = absurd (omega (arith, e))
four_parts (p ∷ []) a b c d e = absurd (omega (arith, e))
four_parts (p ∷ q ∷ []) a b c d e = absurd (omega (arith, e))
four_parts (p ∷ q ∷ r ∷ []) a b c d e = absurd (omega (arith, e))
four_parts (p ∷ q ∷ r ∷ s ∷ []) a b c d e = ap (λ (x : ℤ). pos p *ℤ a +ℤ (pos q *ℤ b +ℤ (pos r *ℤ c +ℤ x))) (nothing_more (pos s *ℤ d))
four_parts (p ∷ q ∷ r ∷ s ∷ t ∷ rest) a b c d e = absurd (omega (arith, e))

four_weighted : (w : List ℤ) (a b c d : ℤ) → AreShares w → by_four w a b c d ≡ weighted w (a ∷ b ∷ c ∷ d ∷ [])
four_weighted w a b c d (parts, (is, len, total)) = subst (λ (v : List ℤ). by_four v a b c d ≡ weighted v (a ∷ b ∷ c ∷ d ∷ [])) (sym is) (four_parts parts a b c d len)

pub surface_sum : (g : ProbeGrid) (answers : List ℤ) (q : Point) (w : Weights) → w ≡ weights_of g q → AreShares w.w
    → by_four w.w (answer_of answers w.first) (answer_of answers (w.first + 1)) (answer_of answers (w.first + g.nx)) (answer_of answers (w.first + g.nx + 1)) ≡ surface_of g answers q
unfolding surface_of
surface_sum g answers q w is shares =
    four_weighted w.w (answer_of answers w.first) (answer_of answers (w.first + 1)) (answer_of answers (w.first + g.nx)) (answer_of answers (w.first + g.nx + 1)) shares
    ∙ ap (λ (v : Weights). weighted v.w (map (answer_of answers) (probes_of g v))) is

-- four shares make the sum
pub sum_of : (t s0 s1 s2 s3 w0 w1 w2 w3 a b c d a' b' c' d' : ℤ) → t ≡ s0 +ℤ (s1 +ℤ (s2 +ℤ s3)) → s0 ≡ w0 *ℤ a → s1 ≡ w1 *ℤ b → s2 ≡ w2 *ℤ c → s3 ≡ w3 *ℤ d
    → a ≡ a' → b ≡ b' → c ≡ c' → d ≡ d' → t ≡ w0 *ℤ a' +ℤ (w1 *ℤ b' +ℤ (w2 *ℤ c' +ℤ w3 *ℤ d'))
sum_of t s0 s1 s2 s3 w0 w1 w2 w3 a b c d a' b' c' d' e e0 e1 e2 e3 f g h k = cc

-- ---- the grid

pub front_grid_is : (job : Job) (f : Frame) (r : Result ProbeGrid TooManyProbes) → job.al_front ≡ true → r ≡ grid_of f job.al_x job.al_y job.al_range job.al_probefeed → grid_or_limit r ≡ grid_over_side Front job f
front_grid_is job f r on is = rw on (ap grid_or_limit is)
