-- What the run of a program of one tool run does, and its run in tiles.
use Rattle.std.proofs.Common.{◌≡◌, refl, ◌<◌, ℤ, neg_ℤ, ◌+ℤ◌, ◌*ℤ◌, ◌≤ℤ◌, pos, List, [], ◌∷◌, length, map, inl, inr, sym, ◌∙◌, subst, append-nil, arith}
use Rattle.std.proofs.lemmas.Int.{ints}
use Rattle.board_base.specs.declared.places.Point.{Point}
use Rattle.board_base.specs.declared.places.Move.{Move}
use Rattle.rs274_sim.specs.Cutter.{IsLow, NoBite, Sweeps, nanometre}
use Rattle.rs274_sim.specs.Runs.{RunsTo}
use Rattle.mill_program.specs.declared.cuts.Program.{Program}
use Rattle.mill_program.specs.Conditions.{IsProgram, IsRunnable}
use Rattle.mill_program.specs.Lines.{lines_of}
use Rattle.mill_program.specs.RunLaw.{RunLaw}
use Rattle.mill_program.specs.Strokes.{CutsExactly, StrokeLaw, wanted}
use Rattle.board_base.specs.Places.{origin}
use Rattle.tiling.specs.Tiles.{tiled}
use Rattle.tiling.specs.Copies.{move_in, back}
use Rattle.tiling.specs.Stretches.{InTiles}
use Rattle.tiling.specs.Alike.{CutAlike, CutsAlikeLaw, HaveLowOf, StretchLaw, TileStrokesLaw}
use Rattle.tiling.proofs.ProgramLaws.{runnable_in}
use Rattle.tiling.proofs.StretchLaws.{in_tiles_weaker}

-- ---- the run in tiles

-- what the plain run does, and what passes to moves that cut alike, the run in tiles does in each tile
pub runs_in_tiles : RunLaw → StretchLaw → (shifts : List Point) (p : Program) (P : List Move → Type 0) → 0 < length shifts → length p.runs ≡ 1 → IsProgram p → IsRunnable p → IsProgram (tiled shifts p)
    → ((plain moves : List Move) → CutAlike (p.safe *ℤ nanometre) plain moves → P plain → P moves) → RunsTo (lines_of p) P → RunsTo (lines_of (tiled shifts p)) (InTiles shifts P)
unfolding RunsTo
runs_in_tiles law stretch shifts p P some one valid can valid_in passes runs answers =
    let known = law answers p valid can in
    let done = runs answers in
    let same : known.0 ≡ done.0 = (let e = sym known.1 ∙ done.1 in cc) in
    let tiles = law answers (tiled shifts p) valid_in (runnable_in shifts p can) in
    let holds : P known.0 = subst P (sym same) done.2 in (
      tiles.0,
      tiles.1,
      in_tiles_weaker (CutAlike (p.safe *ℤ nanometre) known.0) P (λ moves alike. passes known.0 moves alike holds) shifts tiles.0
          (stretch shifts p known.0 tiles.0 some one can known.2 tiles.2),
    )

-- so it cuts in each tile what the plain run cuts
pub tile_strokes : RunLaw → StrokeLaw → StretchLaw → CutsAlikeLaw → TileStrokesLaw
unfolding RunsTo
tile_strokes law stroke stretch cuts shifts p some one valid can valid_in =
    runs_in_tiles law stretch shifts p (CutsExactly p.safe (wanted p.runs)) some one valid can valid_in (λ plain moves alike. cuts p.safe (wanted p.runs) plain moves alike)
    (λ answers. let run = law answers p valid can in (run.0, run.1, stroke p run.0 valid can run.2))

-- ---- what passes to moves that cut alike

raised : (height lower : ℤ) (m : Move) → lower ≤ℤ height → IsLow lower m → IsLow height m
raised height lower m h (t, inl below) = (t, inl (omega (arith, ints)))
raised height lower m h (t, inr below) = (t, inr (omega (arith, ints)))

-- where no low move of the one bites below a height, none of the others does
pub no_bite_alike : (height lower : ℤ) (IsDark : Point → Type 0) (r : ℤ) (plain moves : List Move) → lower ≤ℤ height → HaveLowOf height moves plain → NoBite lower IsDark r plain → NoBite lower IsDark r moves
no_bite_alike height lower IsDark r plain moves h alike free q dark m there low sweeps =
    let n = alike m there (raised height lower m h low) in
    free q dark n.0 n.1 (subst (IsLow lower) n.2 low) (subst (λ (o : Move). Sweeps o q r) n.2 sweeps)

-- ---- one tile

unmoved : (a : ℤ) → a +ℤ neg_ℤ (pos 0) *ℤ nanometre ≡ a
unmoved a = omega (arith, ints)

stays : (m : Move) → move_in (back origin) m ≡ m
stays m t = record {
  from = record { x = unmoved (m.from).x t; y = unmoved (m.from).y t; z = (m.from).z };
  to = record { x = unmoved (m.to).x t; y = unmoved (m.to).y t; z = (m.to).z };
  kind = m.kind;
  turning = m.turning;
  speed = m.speed;
  feed = m.feed;
  tool = m.tool;
  line = m.line;
}

stay : (moves : List Move) → map (move_in (back origin)) moves ≡ moves
stay [] = refl
stay (m ∷ moves) = λ t. stays m t ∷ stay moves t

-- in one tile the moves do what they do
pub in_one_tile : (P : List Move → Type 0) (moves : List Move) → P moves → InTiles (origin ∷ []) P moves
in_one_tile P moves h = (moves ∷ [], sym (append-nil moves), (subst P (sym (stay moves)) h, tt))

pub of_one_tile : (P : List Move → Type 0) (moves : List Move) → InTiles (origin ∷ []) P moves → P moves
of_one_tile P moves ([], joined, each) = absurd each
of_one_tile P moves (stretch ∷ [], joined, each) = subst P (stay stretch ∙ sym (append-nil stretch) ∙ sym joined) each.0
of_one_tile P moves (stretch ∷ other ∷ others, joined, each) = absurd each.1
