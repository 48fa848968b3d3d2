use Rattle.std.proofs.Common.{◌≡◌, List, [], ◌∷◌, ◌++◌, ◌+◌, length, ◌∙◌, sym, ap, arith}
use Rattle.std.specs.List.{flat_map}
use Rattle.shape_parts.specs.declared.shape.Piece.{Piece}
use Rattle.shape_parts.specs.Vertices.{vertices_of}
use Rattle.gerber_image.specs.Regions.{area_of}
use Rattle.gerber_image.specs.Image.{vertices_in}
use Rattle.gerber_image.specs.Checks.{excess_of}
use Rattle.gerber_image.proofs.Counts.{region_excess, few_vertices}
use Rattle.gerber_image.proofs.state.State.region_object.Goals as goal

pub returns-in-Some-clause-refused : goal.returns-in-Some-clause-refused
returns-in-Some-clause-refused c =
    region_excess c.args.self.now.painted c.args.self.now.contours.items c.args.self.now.dark c.corners_of.result c.excess.result
    (c.corners_of.ensures ∙ ap (λ l. vertices_of (flat_map area_of l)) c.deref.ensures.value) c.excess.ensures ∙ c.in-Some.is

pub region-requires : goal.region-requires
region-requires c =
    let few = few_vertices (length c.args.self.now.painted + 1) (vertices_in c.args.self.now.painted + c.corners_of.result) (sym c.excess.ensures ∙ c.in_default.is) in
    omega (arith, few, c.corners_of.ensures, ap (λ l. vertices_of (flat_map area_of l)) (c.deref.ensures.value ∙ sym c.deref-2.ensures.value))

pub returns-clause-within : goal.returns-clause-within
returns-clause-within c =
    let shape : c.in_ok-shape.shape ≡ flat_map area_of c.args.self.now.contours.items = c.in_ok-shape.ensures.value ∙ ap (flat_map area_of) c.deref-2.ensures.value in
    ap (λ (s : List Piece). excess_of (c.args.self.now.painted ++ record { shape = s; dark = c.args.self.now.dark } ∷ [])) shape
    ∙ region_excess c.args.self.now.painted c.args.self.now.contours.items c.args.self.now.dark c.corners_of.result c.excess.result
    (c.corners_of.ensures ∙ ap (λ l. vertices_of (flat_map area_of l)) c.deref.ensures.value) c.excess.ensures ∙ c.in_default.is
