-- The cut along a walk, in pieces: from cell to cell of the walk.
use Rattle.std.proofs.Common.{◌≡◌, ◌⊎◌, inl, inr, ℕ, zero, suc, ◌*◌, ◌≤◌, ℤ, List, [], ◌∷◌, ◌++◌, map, append_assoc, refl, sym, ap, subst, ◌∙◌, arith}
use Rattle.std.specs.List.{AllZip, Contains, range_with_len}
use Rattle.std.proofs.lemmas.List.{map-append}
use Rattle.std.proofs.lemmas.List.Elements.{Contains-append_left, Contains-append_right}
use Rattle.board_base.specs.declared.places.Cell.{Cell}
use Rattle.board_base.specs.Lattice.{IsPitch}
use Rattle.chain_walk.specs.Walk.{IsConnected}
use Rattle.chain_walk.specs.Corners.{turns_of, corners_of}
use Rattle.chain_walk.specs.Runs.{IsRun, IsOnRun, AreSuccessive}
use Rattle.chain_walk.proofs.CornerRuns.{AreRuns, corner_law}
use Rattle.mill_program.specs.declared.cuts.Corner.{Corner}
use Rattle.levelling.specs.Pieces.{steps_between, towards, between, pieces, pieces_from, in_pieces}
use Rattle.job_file.specs.declared.job.Job.{Job}
use Rattle.mill_plan.specs.Cuts.{corner_of, trace_of}
use Rattle.side_levels.specs.Lattices.{IsCutAlong}
use Rattle.side_levels.proofs.StepCells.{steps_to, run_steps}
use Rattle.side_levels.proofs.PieceCells.{piece_cells}

-- ---- lists of cells one behind another

successive_split : (c : Cell) (xs : List Cell) (d : Cell) (ys : List Cell) (u v : Cell) → AreSuccessive (c ∷ xs ++ d ∷ ys) u v → AreSuccessive (c ∷ xs ++ d ∷ []) u v ⊎ AreSuccessive (d ∷ ys) u v
successive_split c [] d ys u v (inl k) = inl (inl k)
successive_split c [] d ys u v (inr k) = inr k
successive_split c (x ∷ xs) d ys u v (inl k) = inl (inl k)
successive_split c (x ∷ xs) d ys u v (inr k) = behind (successive_split x xs d ys u v k)
  where
    behind : AreSuccessive (x ∷ xs ++ d ∷ []) u v ⊎ AreSuccessive (d ∷ ys) u v → AreSuccessive (c ∷ x ∷ xs ++ d ∷ []) u v ⊎ AreSuccessive (d ∷ ys) u v
    behind (inl m) = inl (inr m)
    behind (inr m) = inr m

successive_left : (c : Cell) (xs : List Cell) (d : Cell) (ys : List Cell) (u v : Cell) → AreSuccessive (c ∷ xs ++ d ∷ []) u v → AreSuccessive (c ∷ xs ++ d ∷ ys) u v
successive_left c [] d ys u v (inl k) = inl k
successive_left c [] d ys u v (inr k) = absurd k
successive_left c (x ∷ xs) d ys u v (inl k) = inl k
successive_left c (x ∷ xs) d ys u v (inr k) = inr (successive_left x xs d ys u v k)

successive_right : (c : Cell) (xs : List Cell) (d : Cell) (ys : List Cell) (u v : Cell) → AreSuccessive (d ∷ ys) u v → AreSuccessive (c ∷ xs ++ d ∷ ys) u v
successive_right c [] d ys u v k = inr k
successive_right c (x ∷ xs) d ys u v k = inr (successive_right x xs d ys u v k)

module _ (w : List Cell) where
  joined : (c : Cell) (xs : List Cell) (d : Cell) (ys : List Cell) (P Q R : Cell → Type 0) → AreRuns w (c ∷ xs ++ d ∷ []) P → AreRuns w (d ∷ ys) Q → ((z : Cell) → R z → P z ⊎ Q z) → AreRuns w (c ∷ xs ++ d ∷ ys) R
  joined c xs d ys P Q R before after split = record {
    runs = λ u v h. either u v (successive_split c xs d ys u v h);
    cover = λ z r. found z (split z r);
  }
    where
      either : (u v : Cell) → AreSuccessive (c ∷ xs ++ d ∷ []) u v ⊎ AreSuccessive (d ∷ ys) u v → IsRun w u v
      either u v (inl k) = before.runs u v k
      either u v (inr k) = after.runs u v k

      found : (z : Cell) → P z ⊎ Q z → (u v : Cell) × (AreSuccessive (c ∷ xs ++ d ∷ ys) u v × IsOnRun w u v z)
      found z (inl p) = let f = before.cover z p in (f.0, f.1, (successive_left c xs d ys f.0 f.1 f.2.0, f.2.1))
      found z (inr q) = let f = after.cover z q in (f.0, f.1, (successive_right c xs d ys f.0 f.1 f.2.0, f.2.1))

  pub run_end : (x y : Cell) → IsRun w x y → Contains w y
  run_end x y r = subst (Contains w) (sym r.ends) (r.through r.count (omega arith))

  -- from a cell of the walk runs lead to cells of it
  pub runs_inside : (c : Cell) (cells : List Cell) → ((u v : Cell) → AreSuccessive (c ∷ cells) u v → IsRun w u v) → Contains w c → (z : Cell) → Contains (c ∷ cells) z → Contains w z
  runs_inside c cells runs here z (zero, l, e) = subst (Contains w) e here
  runs_inside c [] runs here z (suc k, l, e) = absurd (omega (arith, l))
  runs_inside c (d ∷ ds) runs here z (suc k, l, e) = runs_inside d ds (λ u v h. runs u v (inr h)) (run_end c d (runs c d (inl (refl, refl)))) z (k, omega (arith, l), e)

  -- ---- the moves of a cut

  -- the cells that the moves from corner to corner go over
  abbrev pub OnMoves : List Cell → Cell → Type 0
  OnMoves cells z = (x y : Cell) × (AreSuccessive cells x y × IsOnRun w x y z)

  module _ (job : Job) (piece : ℕ) (h : IsPitch job.pitch) where
    -- the pieces of the moves from c on end at these cells, and go over the same ones
    pub record ArePieceEnds (c : Cell) (cs : List Cell) : Type 0 where
      pub cells : List Cell
      pub is : pieces_from job.pitch piece (corner_of job c) (map (corner_of job) cs) ≡ map (corner_of job) cells
      pub runs : AreRuns w (c ∷ cells) (OnMoves (c ∷ cs))

    on_piece : (c d z : Cell) → IsOnRun w c d z → (t : ℕ) × (t ≤ steps_to job c d) × (corner_of job z ≡ towards job.pitch (corner_of job c) (corner_of job d) t)
    on_piece c d z o =
        let are = run_steps job c d h o.run in
        let s = are.all o.at o.early in
        (s.0, s.1, ap (corner_of job) (o.is ∙ s.2) ∙ sym (are.at s.0 s.1))

    pub piece_ends : (c : Cell) (cs : List Cell) → ((x y : Cell) → AreSuccessive (c ∷ cs) x y → IsRun w x y) → ArePieceEnds c cs
    piece_ends c [] runs = record { cells = []; is = refl; runs = record { runs = λ x y k. absurd k; cover = λ z p. absurd p.2.0 } }
    piece_ends c (d ∷ ds) runs =
        let r = runs c d (inl (refl, refl)) in
        let here = piece_cells job piece w c d h r (run_steps job c d h r) in
        let later = piece_ends d ds (λ x y k. runs x y (inr k)) in
        record {
          cells = here.inner ++ d ∷ later.cells;
          is = (λ i. here.is i ++ later.is i) ∙ sym (map-append (corner_of job) (here.inner ++ d ∷ []) later.cells) ∙ ap (map (corner_of job)) (append_assoc here.inner (d ∷ []) later.cells);
          runs = joined c here.inner d later.cells (λ z. (t : ℕ) × (t ≤ steps_to job c d) × (corner_of job z ≡ towards job.pitch (corner_of job c) (corner_of job d) t)) (OnMoves (d ∷ ds)) (OnMoves (c ∷ d ∷ ds)) here.runs later.runs split;
        }
      where
        split : (z : Cell) → OnMoves (c ∷ d ∷ ds) z → ((t : ℕ) × (t ≤ steps_to job c d) × (corner_of job z ≡ towards job.pitch (corner_of job c) (corner_of job d) t)) ⊎ OnMoves (d ∷ ds) z
        split z (x, y, (inl k, on)) = inl (on_piece c d z (subst (λ (b : Cell). IsOnRun w c b z) (sym k.1) (subst (λ (a : Cell). IsOnRun w a y z) (sym k.0) on)))
        split z (x, y, (inr k, on)) = inr (x, y, (k, on))

-- ---- the corners stay

kept_from : (pitch : ℤ) (piece : ℕ) (c : Corner) (cs : List Corner) (d : Corner) → Contains cs d → Contains (pieces_from pitch piece c cs) d
kept_from pitch piece c [] d m = absurd (omega (arith, m.1))
kept_from pitch piece c (e ∷ es) d (zero, l, same) =
    Contains-append_left (pieces pitch piece c e) (pieces_from pitch piece e es) d
    (Contains-append_right (map (λ k. towards pitch c e (k * piece)) (range_with_len 1 (between piece (steps_between pitch c e)))) (e ∷ []) d (0, omega arith, same))
kept_from pitch piece c (e ∷ es) d (suc k, l, same) =
    Contains-append_right (pieces pitch piece c e) (pieces_from pitch piece e es) d (kept_from pitch piece e es d (k, omega (arith, l), same))

-- a cut in pieces has the corners of the cut
pub corners_kept : (pitch : ℤ) (piece : ℕ) (cut : List Corner) (d : Corner) → Contains cut d → Contains (in_pieces pitch piece cut) d
corners_kept pitch piece [] d m = absurd (omega (arith, m.1))
corners_kept pitch piece (c ∷ cs) d (zero, l, same) = (0, omega arith, same)
corners_kept pitch piece (c ∷ cs) d (suc k, l, same) = let m = kept_from pitch piece c cs d (k, omega (arith, l), same) in (suc m.0, omega (arith, m.1), m.2)

-- ---- the cut along a walk

-- the corners of a walk are a first cell of it, and others
pub record HasCorners (w : List Cell) : Type 0 where
  pub first : Cell
  pub rest : List Cell
  pub is : corners_of w ≡ first ∷ rest
  pub inside : Contains w first

pub has_corners : (w : List Cell) → IsConnected w → HasCorners w
has_corners [] h = absurd (let s = h.some in omega (arith, s))
has_corners (a ∷ []) h = record { first = a; rest = a ∷ []; is = refl; inside = (0, omega arith, refl) }
has_corners (a ∷ b ∷ cells) h = record { first = a; rest = turns_of a b cells; is = refl; inside = (0, omega arith, refl) }

pub cut_along : (job : Job) (piece : ℕ) (w : List Cell) → IsPitch job.pitch → IsConnected w → IsCutAlong job w (in_pieces job.pitch piece (trace_of job w))
unfolding trace_of
cut_along job piece w h connected =
    let k = has_corners w connected in
    let law = corner_law w connected in
    let ends = piece_ends w job piece h k.first k.rest (subst (λ (cells : List Cell). (x y : Cell) → AreSuccessive cells x y → IsRun w x y) k.is law.0) in
    record {
      cells = k.first ∷ ends.cells;
      is = ap (λ (cells : List Cell). in_pieces job.pitch piece (map (corner_of job) cells)) k.is ∙ ap (λ (cs : List Corner). corner_of job k.first ∷ cs) ends.is;
      inside = runs_inside w k.first ends.cells ends.runs.runs k.inside;
      runs = ends.runs.runs;
      covers = λ c m. ends.runs.cover c (subst (λ (cells : List Cell). OnMoves w cells c) k.is (law.1 c m));
      stays = corners_kept job.pitch piece (map (corner_of job) (corners_of w));
    }

pub cuts_along : (job : Job) (piece : ℕ) (walks : List (List Cell)) → IsPitch job.pitch → ((w : List Cell) → Contains walks w → IsConnected w) → AllZip (IsCutAlong job) walks (map (in_pieces job.pitch piece) (map (trace_of job) walks))
cuts_along job piece [] h connected = tt
cuts_along job piece (w ∷ walks) h connected = (
  cut_along job piece w h (connected w (0, omega arith, refl)),
  cuts_along job piece walks h (λ v m. connected v (suc m.0, omega (arith, m.1), m.2)),
)
