-- The objects of commands in order.
use Rattle.std.proofs.Common.{◌≡◌, ℕ, false, List, [], ◌∷◌, ◌++◌, Option, Some, None, refl, sym, ap, ◌∙◌, append_assoc}
use Rattle.std.proofs.lemmas.List.{append-nil}
use Rattle.std.specs.Prelude.{is_none, if◌then◌else◌, unwrap_or}
use Rattle.std.specs.Option.{option_or}
use Rattle.fixed_num.specs.declared.units.Unit.{Unit}
use Rattle.gerber_image.specs.InForce.{in_force, repeat_at, unit_at, sets_repeat, last_set}
use Rattle.gerber_image.specs.Image.{object_of, block_at, painted_by, copies, copies_of}
use Rattle.gerber_image.specs.declared.repeat.Repeat.{Repeat}
use Rattle.gerber_words.specs.declared.commands.Command.{Command}
use Rattle.gerber_words.specs.declared.commands.Command.TheVariants as commands
use Rattle.image_laws.specs.Painting.{is_repeat, HasNoRepeat, object_at, objects_of, ImageLaw}

-- a command that is no SR sets no repeat
sets_none : (unit : Option Unit) (command : Command) → is_repeat command ≡ false → sets_repeat unit command ≡ None
sets_none unit (commands.Format format) e = refl
sets_none unit (commands.Unit u in_block) e = refl
sets_none unit (commands.Polarity dark) e = refl
sets_none unit (commands.Mirror mirror) e = refl
sets_none unit (commands.Rotation angle) e = refl
sets_none unit (commands.Interpolation mode) e = refl
sets_none unit (commands.MultiQuadrant on) e = refl
sets_none unit commands.BeginRegion e = refl
sets_none unit commands.EndRegion e = refl
sets_none unit (commands.Define number template) e = refl
sets_none unit (commands.Select number) e = refl
sets_none unit (commands.OpenRepeat columns rows dx dy) e = absurd cc
sets_none unit commands.CloseRepeat e = absurd cc
sets_none unit (commands.Operate o) e = refl
sets_none unit commands.Ignored e = refl
sets_none unit commands.DeprecatedSetting e = refl
sets_none unit (commands.DefineMacro name body) e = refl
sets_none unit commands.Unsupported e = refl
sets_none unit commands.End e = refl

keeps : (command : Command) (past : List Command) → is_repeat command ≡ false → repeat_at (command ∷ past) ≡ repeat_at past
keeps command past e = ap (λ o. unwrap_or (option_or o (last_set (λ p. sets_repeat (unit_at p)) past)) None) (sets_none (unit_at past) command e)

stays : (nearer past : List Command) → HasNoRepeat nearer → repeat_at (nearer ++ past) ≡ repeat_at past
stays [] past h = refl
stays (command ∷ nearer) past h = keeps command (nearer ++ past) h.0 ∙ stays nearer past h.1

-- with no open repeat a command paints its object
adds : (command : Command) (past : List Command) → is_repeat command ≡ false → repeat_at past ≡ None → painted_by (command ∷ past) ≡ painted_by past ++ object_at past command
adds (commands.Format format) past e n = sym (append-nil (painted_by past))
adds (commands.Unit u in_block) past e n = sym (append-nil (painted_by past))
adds (commands.Polarity dark) past e n = sym (append-nil (painted_by past))
adds (commands.Mirror mirror) past e n = sym (append-nil (painted_by past))
adds (commands.Rotation angle) past e n = sym (append-nil (painted_by past))
adds (commands.Interpolation mode) past e n = sym (append-nil (painted_by past))
adds (commands.MultiQuadrant on) past e n = sym (append-nil (painted_by past))
adds commands.BeginRegion past e n = sym (append-nil (painted_by past))
adds commands.EndRegion past e n = ap (λ o. if is_none o then painted_by past ++ object_at past commands.EndRegion else painted_by past) n
adds (commands.Define number template) past e n = sym (append-nil (painted_by past))
adds (commands.Select number) past e n = sym (append-nil (painted_by past))
adds (commands.OpenRepeat columns rows dx dy) past e n = absurd cc
adds commands.CloseRepeat past e n = absurd cc
adds (commands.Operate o) past e n = ap (λ r. if is_none r then painted_by past ++ object_of (in_force past) o else painted_by past) n
adds commands.Ignored past e n = sym (append-nil (painted_by past))
adds commands.DeprecatedSetting past e n = sym (append-nil (painted_by past))
adds (commands.DefineMacro name body) past e n = sym (append-nil (painted_by past))
adds commands.Unsupported past e n = sym (append-nil (painted_by past))
adds commands.End past e n = sym (append-nil (painted_by past))

plain : (nearer past : List Command) → HasNoRepeat nearer → repeat_at past ≡ None → painted_by (nearer ++ past) ≡ painted_by past ++ objects_of past nearer
plain [] past h n = sym (append-nil (painted_by past))
plain (command ∷ nearer) past h n =
    adds command (nearer ++ past) h.0 (stays nearer past h.1 ∙ n) ∙ ap (λ l. l ++ object_at (nearer ++ past) command) (plain nearer past h.1 n)
    ∙ append_assoc (painted_by past) (objects_of past nearer) (object_at (nearer ++ past) command)

-- with an open repeat it adds its object to the block, and paints nothing
blocks : (command : Command) (past : List Command) (r : Repeat) → is_repeat command ≡ false → repeat_at past ≡ Some r
    → (block_at (command ∷ past) ≡ block_at past ++ object_at past command) × (painted_by (command ∷ past) ≡ painted_by past)
blocks (commands.Format format) past r e n = (sym (append-nil (block_at past)), refl)
blocks (commands.Unit u in_block) past r e n = (sym (append-nil (block_at past)), refl)
blocks (commands.Polarity dark) past r e n = (sym (append-nil (block_at past)), refl)
blocks (commands.Mirror mirror) past r e n = (sym (append-nil (block_at past)), refl)
blocks (commands.Rotation angle) past r e n = (sym (append-nil (block_at past)), refl)
blocks (commands.Interpolation mode) past r e n = (sym (append-nil (block_at past)), refl)
blocks (commands.MultiQuadrant on) past r e n = (sym (append-nil (block_at past)), refl)
blocks commands.BeginRegion past r e n = (sym (append-nil (block_at past)), refl)
blocks commands.EndRegion past r e n = (
  ap (λ o. if is_none o then block_at past else block_at past ++ object_at past commands.EndRegion) n,
  ap (λ o. if is_none o then painted_by past ++ object_at past commands.EndRegion else painted_by past) n,
)
blocks (commands.Define number template) past r e n = (sym (append-nil (block_at past)), refl)
blocks (commands.Select number) past r e n = (sym (append-nil (block_at past)), refl)
blocks (commands.OpenRepeat columns rows dx dy) past r e n = absurd cc
blocks commands.CloseRepeat past r e n = absurd cc
blocks (commands.Operate o) past r e n = (
  ap (λ q. if is_none q then block_at past else block_at past ++ object_of (in_force past) o) n,
  ap (λ q. if is_none q then painted_by past ++ object_of (in_force past) o else painted_by past) n,
)
blocks commands.Ignored past r e n = (sym (append-nil (block_at past)), refl)
blocks commands.DeprecatedSetting past r e n = (sym (append-nil (block_at past)), refl)
blocks (commands.DefineMacro name body) past r e n = (sym (append-nil (block_at past)), refl)
blocks commands.Unsupported past r e n = (sym (append-nil (block_at past)), refl)
blocks commands.End past r e n = (sym (append-nil (block_at past)), refl)

block : (nearer past : List Command) (r : Repeat) → HasNoRepeat nearer → repeat_at past ≡ Some r
    → (block_at (nearer ++ past) ≡ block_at past ++ objects_of past nearer) × (painted_by (nearer ++ past) ≡ painted_by past)
block [] past r h n = (sym (append-nil (block_at past)), refl)
block (command ∷ nearer) past r h n =
    let one = blocks command (nearer ++ past) r h.0 (stays nearer past h.1 ∙ n) in let rest = block nearer past r h.1 n in (
      one.0 ∙ ap (λ l. l ++ object_at (nearer ++ past) command) rest.0 ∙ append_assoc (block_at past) (objects_of past nearer) (object_at (nearer ++ past) command),
      one.1 ∙ rest.1,
    )

closed : (nearer past : List Command) (columns rows dx dy : ℕ) (r : Repeat) → HasNoRepeat nearer → repeat_at (commands.OpenRepeat columns rows dx dy ∷ past) ≡ Some r
    → painted_by (commands.CloseRepeat ∷ nearer ++ commands.OpenRepeat columns rows dx dy ∷ past) ≡ painted_by (commands.OpenRepeat columns rows dx dy ∷ past) ++ copies_of r (objects_of (commands.OpenRepeat columns rows dx dy ∷ past) nearer)
closed nearer past columns rows dx dy r h n =
    let before = commands.OpenRepeat columns rows dx dy ∷ past in
    let all = block nearer before r h n in
    ap (λ o. painted_by (nearer ++ before) ++ copies o (block_at (nearer ++ before))) (stays nearer before h ∙ n)
    ∙ ap (λ l. l ++ copies_of r (block_at (nearer ++ before))) all.1
    ∙ ap (λ l. painted_by before ++ copies_of r l) all.0

pub image_law : ImageLaw
image_law = record {
  plain = plain;
  closed = closed;
  reopened = λ nearer past columns rows dx dy columns' rows' dx' dy' r h n. closed nearer past columns rows dx dy r h n;
}
