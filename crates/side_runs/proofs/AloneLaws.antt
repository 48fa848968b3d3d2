-- The board alone, and tiles in rows.
use Rattle.std.proofs.Common.{◌≡◌, ◌↔◌, ℕ, zero, suc, ℤ, pos, ◌+ℤ◌, ◌*ℤ◌, true, List, [], ◌∷◌, map, refl, sym, ap, subst, ◌∙◌, arith}
use Rattle.std.specs.List.{Contains}
use Rattle.std.proofs.lemmas.List.{append-nil}
use borrow.Author.Differences.{ints}
use Rattle.board_base.specs.declared.places.Cell.{Cell}
use Rattle.board_base.specs.declared.places.Point.{Point}
use Rattle.board_base.specs.declared.places.Pos.{Pos}
use Rattle.board_base.specs.declared.places.Move.{Move}
use Rattle.cell_sets.specs.Chains.{IsLinkedOver}
use Rattle.shape_parts.specs.declared.shape.Painted.{Painted}
use Rattle.shape_parts.specs.Cover.{is_dark}
use Rattle.rs274_sim.specs.Cutter.{nanometre}
use Rattle.mill_program.specs.declared.cuts.Program.{Program}
use Rattle.mill_program.specs.Strokes.{Wanted}
use Rattle.tiling.specs.Tiles.{tiled}
use Rattle.tiling.specs.Copies.{Tile, first_tile, shift_in, cell_in, point_in, pos_in, tiled_in}
use Rattle.tiling.specs.Laws.{wanted_in, OneTileLaw}
use Rattle.mill_plan.specs.declared.cutting.Cutting.{Cutting}
use Rattle.mill_plan.specs.Cutting.{side_cutting, IsVisited}
use Rattle.mill_plan.specs.Mills.{IsWhollySwept}
use Rattle.mill_plan.specs.Isolated.{PartsOthers}
use Rattle.board_base.specs.Places.{origin}
use Rattle.side_runs.specs.Sides.{IsDarkCopy, IsVisitedCopy, PartsTiles}
use Rattle.side_runs.specs.SideStrokes.{wanted_walk}
use Rattle.side_runs.specs.Alone.{alone, AloneLaw}

-- ---- the first tile

pub none_far : (p : ℤ) → pos 0 *ℤ p ≡ pos 0
none_far p = omega (arith, ints)

not_moved : (x : ℤ) → x +ℤ pos 0 ≡ x
not_moved x = omega (arith, ints)

origin_first : (p : ℤ) → shift_in p first_tile ≡ origin
origin_first p = λ i. record { x = none_far p i; y = none_far p i }

first_point : (p : ℤ) (q : Point) → point_in (shift_in p first_tile) q ≡ q
first_point p q = ap (λ (s : Point). point_in s q) (origin_first p) ∙ (λ i. record { x = not_moved q.x i; y = not_moved q.y i })

first_cell : (c : Cell) → cell_in first_tile c ≡ c
first_cell c i = record { i = not_moved c.i i; j = not_moved c.j i }

-- it is the only one
there_alone : Contains alone first_tile
there_alone = (0, omega arith, refl)

pub the_first : (t : Tile) → Contains alone t → first_tile ≡ t
the_first t (zero, early, is) = is
the_first t (suc n, early, is) = absurd (omega (arith, early))

pub here : (t : Tile) → Contains alone t → (c : Cell) → cell_in t c ≡ c
here t t_in c = ap (λ (x : Tile). cell_in x c) (sym (the_first t t_in)) ∙ first_cell c

-- ---- what is said of the board

dark_copy : (p : ℤ) (painted : List Painted) (q : Point) → is_dark q painted ≡ true ↔ IsDarkCopy p painted alone q
dark_copy p painted q = (
  (λ dark. record { tile = first_tile; there = there_alone; of = q; dark = dark; is = sym (first_point p q) }),
  (λ c. subst (λ (x : Point). is_dark x painted ≡ true) (sym (c.is ∙ ap (λ (t : Tile). point_in (shift_in p t) c.of) (sym (the_first c.tile c.there)) ∙ first_point p c.of)) c.dark),
)

pub visited_copy : (k : Cutting) (painted : List Painted) (c : Cell) → IsVisited k painted c ↔ IsVisitedCopy k painted alone c
visited_copy k painted c = (
  (λ v. record { tile = first_tile; there = there_alone; of = c; visited = v; is = sym (first_cell c) }),
  (λ v. subst (IsVisited k painted) (sym (v.is ∙ ap (λ (t : Tile). cell_in t v.of) (sym (the_first v.tile v.there)) ∙ first_cell v.of)) v.visited),
)

parts_alone : (k : Cutting) (depth : ℤ) (number : Cell → ℕ) (groups : List (List ℕ)) (moves : List Move) → PartsTiles k depth number groups alone moves ↔ PartsOthers k depth number groups moves
parts_alone k depth number groups moves = (
  (λ parts u v su sv ne joined.
      (parts first_tile first_tile u v there_alone there_alone su sv (
        joined.0,
        joined.1,
        joined.2.0,
        joined.2.1,
        subst (λ (x : Cell). IsLinkedOver (λ c. IsWhollySwept k depth moves c → ⊥) x (cell_in first_tile joined.1)) (sym (first_cell joined.0))
            (subst (λ (x : Cell). IsLinkedOver (λ c. IsWhollySwept k depth moves c → ⊥) joined.0 x) (sym (first_cell joined.1)) joined.2.2),
      )).1 ne),
  (λ parts s t u v s_in t_in su sv joined. (
    sym (the_first s s_in) ∙ the_first t t_in,
    λ ne. parts u v su sv ne (
      joined.0,
      joined.1,
      (
        joined.2,
        joined.3,
        subst (λ (x : Cell). IsLinkedOver (λ c. IsWhollySwept k depth moves c → ⊥) x joined.1) (here s s_in joined.0)
            (subst (λ (x : Cell). IsLinkedOver (λ c. IsWhollySwept k depth moves c → ⊥) (cell_in s joined.0) x) (here t t_in joined.1) joined.4),
      ),
    ),
  )),
)

-- ---- the program as it stands

program_alone : OneTileLaw → (pitch : ℤ) (p : Program) → tiled_in pitch alone p ≡ p
program_alone law pitch p = ap (λ (s : Point). tiled (s ∷ []) p) (origin_first pitch) ∙ law p

place_alone : (p : ℤ) (q : Pos) → pos_in (shift_in p first_tile) q ≡ q
place_alone p q = ap (λ (s : Point). pos_in s q) (origin_first p) ∙ (λ i. record { x = by q.x i; y = by q.y i; z = q.z })
  where
    by : (x : ℤ) → x +ℤ pos 0 *ℤ nanometre ≡ x
    by x = omega (arith, ints)

places_alone : (p : ℤ) (places : List Pos) → map (pos_in (shift_in p first_tile)) places ≡ places
places_alone p [] = refl
places_alone p (q ∷ places) = λ i. place_alone p q i ∷ places_alone p places i

wants_alone : (p : ℤ) (wants : List Wanted) → map (wanted_in (shift_in p first_tile)) wants ≡ wants
wants_alone p [] = refl
wants_alone p (want ∷ wants) = λ i. record { tool = want.tool; places = places_alone p want.places i } ∷ wants_alone p wants i

pub alone_holds : OneTileLaw → AloneLaw
alone_holds law = record {
  apart = λ f m n less early. absurd (omega (arith, less, early));
  program = program_alone law;
  no_bite = λ job painted moves. (
    (λ no q dark. no q ((dark_copy job.pitch painted q).0 dark)),
    (λ no q copy. no q ((dark_copy job.pitch painted q).1 copy)),
  );
  passes = λ job painted moves. (
    (λ passes c. ((λ p. (visited_copy (side_cutting job) painted c).1 ((passes c).0 p)), (λ v. (passes c).1 ((visited_copy (side_cutting job) painted c).0 v)))),
    (λ passes c. ((λ p. (visited_copy (side_cutting job) painted c).0 ((passes c).0 p)), (λ v. (passes c).1 ((visited_copy (side_cutting job) painted c).1 v)))),
  );
  parts = parts_alone;
  wants = λ job walks. append-nil (map (wanted_in (shift_in job.pitch first_tile)) (map (wanted_walk job) walks)) ∙ wants_alone job.pitch (map (wanted_walk job) walks);
}
