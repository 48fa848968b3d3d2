-- The shape of an aperture at the origin.
use Rattle.std.proofs.Common.{◌≡◌, refl, suc, ℤ, pos, ◌+ℤ◌, List, [], ◌∷◌, Option, Some, None, arith, ap, ◌∙◌}
use Rattle.std.specs.Prelude.{◌&&◌}
use Rattle.std.specs.List.{All}
use borrow.Author.Differences.{ints}
use Rattle.board_base.specs.OptionBinds.{◌>>=◌}
use Rattle.board_base.specs.Places.{IsCoordinate, IsPlace}
use Rattle.number_laws.proofs.Tests.{both, cond_true}
use Rattle.plane_arcs.proofs.RangeLaws.{coordinate_inside}
use Rattle.board_base.specs.declared.places.Point.{Point}
use Rattle.fixed_num.specs.Angles.{in_turn}
use Rattle.plane_arcs.specs.Turned.{in_range, point_at}
use Rattle.shape_parts.specs.declared.shape.Part.{Part}
use Rattle.shape_parts.specs.declared.shape.Part.TheVariants.{Disc, Capsule, Area}
use Rattle.shape_parts.specs.declared.shape.Piece.{Piece}
use Rattle.poly_area.specs.Moved.{all_moved, moved_points, moved_loops}
use Rattle.shape_parts.specs.Moved.{moved_part, moved_pieces}
use Rattle.apertures.specs.Figures.{IsBounded, IsBoundedPiece}
use Rattle.apertures.specs.Defined.{at}
use Rattle.apertures.specs.Placed.{mirrored, turned, shifted, placed_point, placed}
use Rattle.apertures.specs.Origin.{OriginLaw}
use Rattle.apertures.specs.declared.place.Mirror.TheVariants.{Keep}

plus_none : (v : ℤ) → v +ℤ pos 0 ≡ v
plus_none v = omega (arith, ints)

stays_at : (x y : ℤ) → IsCoordinate x → IsCoordinate y → point_at (x +ℤ pos 0) (y +ℤ pos 0) ≡ Some (record { x = x; y = y })
stays_at x y h k =
    ap (λ v. point_at v (y +ℤ pos 0)) (plus_none x) ∙ ap (point_at x) (plus_none y) ∙ cond_true (in_range x && in_range y) (Some (record { x = x; y = y })) None (both (in_range x) (in_range y) (coordinate_inside x h) (coordinate_inside y k))

-- where a point comes to at the origin
abbrev still : Point → Option Point
still p = placed_point (at (pos 0) (pos 0)) Keep (pos 0) p

point_stays : (p : Point) → IsPlace p → still p ≡ Some p
unfolding placed_point turned mirrored shifted in_turn
point_stays p h = stays_at p.x p.y h.x h.y

-- a motion that leaves each member of a list leaves the list
all_stay : {X : Type 0} (P : X → Type 0) (move : X → Option X) → ((x : X) → P x → move x ≡ Some x) → (xs : List X) → All P xs → all_moved move xs ≡ Some xs
all_stay P move stays [] all = refl
all_stay P move stays (x ∷ xs) all =
    ap (λ o. o >>= (λ y. all_moved move xs >>= (λ ys. Some (y ∷ ys)))) (stays x (all 0 x (omega arith)))
    ∙ ap (λ o. o >>= (λ ys. Some (x ∷ ys))) (all_stay P move stays xs (λ k d h. all (suc k) d (omega (arith, h))))

loops_stay : (loops : List (List Point)) → All (All IsPlace) loops → moved_loops still loops ≡ Some loops
loops_stay loops all = all_stay (All IsPlace) (moved_points still) (all_stay IsPlace still point_stays) loops all

part_stays : (p : Part) → IsBounded p → moved_part still p ≡ Some p
part_stays (Disc c d) h = ap (λ o. o >>= (λ c. Some (Disc c d))) (point_stays c h.0)
part_stays (Capsule a b d) h =
    ap (λ o. o >>= (λ a. still b >>= (λ b. Some (Capsule a b d)))) (point_stays a h.0)
    ∙ ap (λ o. o >>= (λ b. Some (Capsule a b d))) (point_stays b h.1)
part_stays (Area loops) h = ap (λ o. o >>= (λ l. Some (Area l))) (loops_stay loops h)

pieces_stay : (ps : List Piece) → All IsBoundedPiece ps → moved_pieces still ps ≡ Some ps
pieces_stay [] all = refl
pieces_stay (p ∷ ps) all =
    ap (λ o. o >>= (λ part. moved_pieces still ps >>= (λ others. Some (record { part = part; on = p.on } ∷ others)))) (part_stays p.part (all 0 p (omega arith)))
    ∙ ap (λ o. o >>= (λ others. Some (p ∷ others))) (pieces_stay ps (λ k d h. all (suc k) d (omega (arith, h))))

pub origin_law : OriginLaw
unfolding placed
origin_law f h = pieces_stay f.pieces h.pieces
