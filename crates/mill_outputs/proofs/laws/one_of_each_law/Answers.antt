use Rattle.mill_outputs.proofs.laws.one_of_each_law.Goals as goal

pub returns : goal.returns
returns c = record { side = c.one_side_law.ensures; drill = c.one_plan_law.ensures; outline = c.one_outline_law.ensures }
