use Rattle.gerber_image.specs.State.{held_of}
use Rattle.gerber_words.specs.declared.commands.Command.TheVariants as commands
use Rattle.gerber_image.proofs.ReadyLaws.{taken, operated, ready_format, ready_unit, ready_polarity, ready_mirror, ready_rotation, ready_mode, ready_multi_quadrant, ready_begin, ready_end, ready_select, ready_define, ready_macro, ready_open, ready_close}
use Rattle.gerber_image.proofs.state.State.step.Goals as goal

pub returns-in-Format-clause-ready : goal.returns-in-Format-clause-ready
returns-in-Format-clause-ready c = taken (held_of c.args.self.now) (held_of c.set_format.new.self) (commands.Format c.in-Format.format) _ c.set_format.ensures (λ _. ready_format (held_of c.args.self.now) c.in-Format.format c.requires.ready (rw c.in-Format.is at c.requires.command))

pub returns-in-Unit-clause-ready : goal.returns-in-Unit-clause-ready
returns-in-Unit-clause-ready c = taken (held_of c.args.self.now) (held_of c.set_unit.new.self) (commands.Unit c.in-Unit.unit c.in-Unit.in_block) _ c.set_unit.ensures (λ _. ready_unit (held_of c.args.self.now) c.in-Unit.unit c.in-Unit.in_block c.requires.ready)

pub returns-in-Polarity-clause-ready : goal.returns-in-Polarity-clause-ready
returns-in-Polarity-clause-ready c = taken (held_of c.args.self.now) (held_of c.set_dark.new.self) (commands.Polarity c.in-Polarity.dark) _ c.set_dark.ensures (λ _. ready_polarity (held_of c.args.self.now) c.in-Polarity.dark c.requires.ready)

pub returns-in-Mirror-clause-ready : goal.returns-in-Mirror-clause-ready
returns-in-Mirror-clause-ready c = taken (held_of c.args.self.now) (held_of c.set_mirror.new.self) (commands.Mirror c.in-Mirror.mirror) _ c.set_mirror.ensures (λ _. ready_mirror (held_of c.args.self.now) c.in-Mirror.mirror c.requires.ready)

pub returns-in-Rotation-clause-ready : goal.returns-in-Rotation-clause-ready
returns-in-Rotation-clause-ready c = taken (held_of c.args.self.now) (held_of c.set_angle.new.self) (commands.Rotation c.in-Rotation.angle) _ c.set_angle.ensures (λ _. ready_rotation (held_of c.args.self.now) c.in-Rotation.angle c.requires.ready)

pub returns-in-Interpolation-clause-ready : goal.returns-in-Interpolation-clause-ready
returns-in-Interpolation-clause-ready c = taken (held_of c.args.self.now) (held_of c.set_mode.new.self) (commands.Interpolation c.in-Interpolation.mode) _ c.set_mode.ensures (λ _. ready_mode (held_of c.args.self.now) c.in-Interpolation.mode c.requires.ready)

pub returns-in-Select-clause-ready : goal.returns-in-Select-clause-ready
returns-in-Select-clause-ready c = taken (held_of c.args.self.now) (held_of c.select.new.self) (commands.Select c.in-Select.number) _ c.select.ensures (λ _. ready_select (held_of c.args.self.now) c.in-Select.number c.requires.ready)

pub returns-in-Define-clause-ready : goal.returns-in-Define-clause-ready
returns-in-Define-clause-ready c = taken (held_of c.args.self.now) (held_of c.define.new.self) (commands.Define c.in-Define.number c.in-Define.template) _ c.define.ensures (λ _. ready_define (held_of c.args.self.now) c.in-Define.number c.in-Define.template c.requires.ready)

pub returns-in-DefineMacro-clause-ready : goal.returns-in-DefineMacro-clause-ready
returns-in-DefineMacro-clause-ready c = taken (held_of c.args.self.now) (held_of c.define_macro.new.self) (commands.DefineMacro c.in-DefineMacro.name c.in-DefineMacro.body) _ c.define_macro.ensures (λ _. ready_macro (held_of c.args.self.now) c.in-DefineMacro.name c.in-DefineMacro.body c.requires.ready)

pub returns-in-OpenRepeat-clause-ready : goal.returns-in-OpenRepeat-clause-ready
returns-in-OpenRepeat-clause-ready c = taken (held_of c.args.self.now) (held_of c.open.new.self) (commands.OpenRepeat c.in-OpenRepeat.columns c.in-OpenRepeat.rows c.in-OpenRepeat.dx c.in-OpenRepeat.dy) _ c.open.ensures
    (λ e. ready_open (held_of c.args.self.now) c.in-OpenRepeat.columns c.in-OpenRepeat.rows c.in-OpenRepeat.dx c.in-OpenRepeat.dy c.requires.ready (rw c.in-OpenRepeat.is at c.requires.command) e)

pub returns-in-CloseRepeat-clause-ready : goal.returns-in-CloseRepeat-clause-ready
returns-in-CloseRepeat-clause-ready c = taken (held_of c.args.self.now) (held_of c.close.new.self) commands.CloseRepeat _ c.close.ensures (λ e. ready_close (held_of c.args.self.now) c.requires.ready e)

pub returns-in-Operate-clause-ready : goal.returns-in-Operate-clause-ready
returns-in-Operate-clause-ready c = operated (held_of c.args.self.now) (held_of c.operate.new.self) c.in-Operate.operation _ c.operate.ensures.steps c.operate.ensures.place c.requires.ready

pub returns-in-MultiQuadrant-clause-ready : goal.returns-in-MultiQuadrant-clause-ready
returns-in-MultiQuadrant-clause-ready c = taken (held_of c.args.self.now) (held_of c.set_multi_quadrant.new.self) (commands.MultiQuadrant c.in-MultiQuadrant.on) _ c.set_multi_quadrant.ensures (λ _. ready_multi_quadrant (held_of c.args.self.now) c.in-MultiQuadrant.on c.requires.ready)

pub returns-in-BeginRegion-clause-ready : goal.returns-in-BeginRegion-clause-ready
returns-in-BeginRegion-clause-ready c = taken (held_of c.args.self.now) (held_of c.begin_region.new.self) commands.BeginRegion _ c.begin_region.ensures (λ _. ready_begin (held_of c.args.self.now) c.requires.ready)

pub returns-in-EndRegion-clause-ready : goal.returns-in-EndRegion-clause-ready
returns-in-EndRegion-clause-ready c = taken (held_of c.args.self.now) (held_of c.end_region.new.self) commands.EndRegion _ c.end_region.ensures (λ e. ready_end (held_of c.args.self.now) c.requires.ready e)
