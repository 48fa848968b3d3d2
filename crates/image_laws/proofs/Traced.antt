-- The contours of regions.
use Rattle.std.proofs.Common.{◌≡◌, true, false, List, [], ◌∷◌, ◌++◌, Option, Some, None, refl, sym, ap, ◌∙◌, append_assoc}
use Rattle.std.proofs.lemmas.List.{append-nil}
use Rattle.std.specs.Prelude.{if◌then◌else◌, unwrap_or}
use Rattle.std.specs.Option.{option_or}
use Rattle.board_base.specs.declared.places.Point.{Point}
use Rattle.apertures.specs.Defined.{at}
use Rattle.gerber_image.specs.InForce.{InForce, in_force, region_at, sets_region, last_set}
use Rattle.gerber_image.specs.Routes.{place_after}
use Rattle.gerber_image.specs.Regions.{Outline, contours_of}
use Rattle.gerber_image.specs.Image.{outline_at, traced}
use Rattle.gerber_words.specs.declared.commands.Act.{Act}
use Rattle.gerber_words.specs.declared.commands.Act.TheVariants as acts
use Rattle.gerber_words.specs.declared.commands.Operation.{Operation}
use Rattle.gerber_words.specs.declared.commands.Command.{Command}
use Rattle.gerber_words.specs.declared.commands.Command.TheVariants as commands
use Rattle.image_laws.specs.Tracing.{is_move, ends_contour, GoesOn, drawn, points_at, points_of, RegionLaw}

-- an outline with more points in its open contour
abbrev longer : Outline → List Point → Outline
longer outline more = record { ended = outline.ended; points = outline.points ++ more }

same : (outline : Outline) → outline ≡ longer outline []
same outline = ap (λ (l : List Point). record { ended = outline.ended; points = l }) (sym (append-nil outline.points))

sets_none : (past : List Command) (command : Command) → ends_contour past command ≡ false → sets_region command ≡ None
sets_none past (commands.Format format) e = refl
sets_none past (commands.Unit u in_block) e = refl
sets_none past (commands.Polarity dark) e = refl
sets_none past (commands.Mirror mirror) e = refl
sets_none past (commands.Rotation angle) e = refl
sets_none past (commands.Interpolation mode) e = refl
sets_none past (commands.MultiQuadrant on) e = refl
sets_none past commands.BeginRegion e = absurd cc
sets_none past commands.EndRegion e = absurd cc
sets_none past (commands.Define number template) e = refl
sets_none past (commands.Select number) e = refl
sets_none past (commands.OpenRepeat columns rows dx dy) e = refl
sets_none past commands.CloseRepeat e = refl
sets_none past (commands.Operate o) e = refl
sets_none past commands.Ignored e = refl
sets_none past commands.DeprecatedSetting e = refl
sets_none past (commands.DefineMacro name body) e = refl
sets_none past commands.Unsupported e = refl
sets_none past commands.End e = refl

keeps : (command : Command) (past : List Command) → ends_contour past command ≡ false → region_at (command ∷ past) ≡ region_at past
keeps command past e = ap (λ o. unwrap_or (option_or o (last_set (λ _. sets_region) past)) false) (sets_none past command e)

stays : (nearer past : List Command) → GoesOn past nearer → region_at (nearer ++ past) ≡ region_at past
stays [] past h = refl
stays (command ∷ nearer) past h = keeps command (nearer ++ past) h.0 ∙ stays nearer past h.1

-- an act that is no move
trace : (act : Option Act) (now : InForce) (outline : Outline) (o : Operation) → is_move act ≡ false → traced act now outline o ≡ longer outline (drawn act now o)
trace (Some acts.Draw) now outline o e = refl
trace (Some acts.Move) now outline o e = absurd cc
trace (Some acts.Flash) now outline o e = same outline
trace None now outline o e = same outline

step : (command : Command) (past : List Command) → region_at past ≡ true → ends_contour past command ≡ false → outline_at (command ∷ past) ≡ longer (outline_at past) (points_at past command)
step (commands.Format format) past r e = same (outline_at past)
step (commands.Unit u in_block) past r e = same (outline_at past)
step (commands.Polarity dark) past r e = same (outline_at past)
step (commands.Mirror mirror) past r e = same (outline_at past)
step (commands.Rotation angle) past r e = same (outline_at past)
step (commands.Interpolation mode) past r e = same (outline_at past)
step (commands.MultiQuadrant on) past r e = same (outline_at past)
step commands.BeginRegion past r e = absurd cc
step commands.EndRegion past r e = absurd cc
step (commands.Define number template) past r e = same (outline_at past)
step (commands.Select number) past r e = same (outline_at past)
step (commands.OpenRepeat columns rows dx dy) past r e = same (outline_at past)
step commands.CloseRepeat past r e = same (outline_at past)
step (commands.Operate o) past r e =
    ap (λ b. if b then traced (option_or o.act (in_force past).act) (in_force past) (outline_at past) o else outline_at past) r
    ∙ trace (option_or o.act (in_force past).act) (in_force past) (outline_at past) o e
step commands.Ignored past r e = same (outline_at past)
step commands.DeprecatedSetting past r e = same (outline_at past)
step (commands.DefineMacro name body) past r e = same (outline_at past)
step commands.Unsupported past r e = same (outline_at past)
step commands.End past r e = same (outline_at past)

-- commands that end no contour make the open one longer
goes_on : (nearer past : List Command) → region_at past ≡ true → GoesOn past nearer → outline_at (nearer ++ past) ≡ longer (outline_at past) (points_of past nearer)
goes_on [] past r h = same (outline_at past)
goes_on (command ∷ nearer) past r h =
    step command (nearer ++ past) (stays nearer past h.1 ∙ r) h.0
    ∙ ap (λ u. longer u (points_at (nearer ++ past) command)) (goes_on nearer past r h.1)
    ∙ ap (λ (l : List Point). record { ended = (outline_at past).ended; points = l }) (append_assoc (outline_at past).points (points_of past nearer) (points_at (nearer ++ past) command))

first : (nearer past : List Command) → GoesOn (commands.BeginRegion ∷ past) nearer
    → outline_at (nearer ++ commands.BeginRegion ∷ past) ≡ record { ended = []; points = at (in_force past).x (in_force past).y ∷ points_of (commands.BeginRegion ∷ past) nearer }
first nearer past h = goes_on nearer (commands.BeginRegion ∷ past) refl h

moved : (past : List Command) (o : Operation) → region_at past ≡ true → option_or o.act (in_force past).act ≡ Some acts.Move
    → outline_at (commands.Operate o ∷ past) ≡ record { ended = contours_of (outline_at past); points = place_after (in_force past) o ∷ [] }
moved past o r m =
    ap (λ b. if b then traced (option_or o.act (in_force past).act) (in_force past) (outline_at past) o else outline_at past) r
    ∙ ap (λ act. traced act (in_force past) (outline_at past) o) m

next : (nearer past : List Command) (o : Operation) → region_at past ≡ true → option_or o.act (in_force past).act ≡ Some acts.Move → GoesOn (commands.Operate o ∷ past) nearer
    → outline_at (nearer ++ commands.Operate o ∷ past) ≡ record { ended = contours_of (outline_at past); points = place_after (in_force past) o ∷ points_of (commands.Operate o ∷ past) nearer }
next nearer past o r m h =
    goes_on nearer (commands.Operate o ∷ past) r h ∙ ap (λ u. longer u (points_of (commands.Operate o ∷ past) nearer)) (moved past o r m)

pub region_law : RegionLaw
region_law = record {
  first = first;
  next = next;
}
