use Rattle.std.proofs.Common.{◌*ℤ◌, sym, subst, ◌∙◌, rules}
use Rattle.std.proofs.lemmas.Int.{to_z-of_z}
use mir.Syntax.{w64}
use mir.Val.{SFits, to_z, of_z}
use Rattle.outline_plan.specs.Job.{IsDown}
use Rattle.outline_plan.proofs.JobLaws.{down_in, down_fits}
use Rattle.outline_plan.proofs.cutting.infeeds.Goals as goal

pub returns-clause-down : goal.returns-clause-down
returns-clause-down c =
    let a : SFits w64 c.args.count = search rules in
    let b : SFits w64 c.args.infeed = search rules in
    let d = down_in c.args.count c.args.infeed c.requires.some c.requires.few c.requires.low c.requires.high in
    let p : SFits w64 (c.args.count *ℤ c.args.infeed) = down_fits (c.args.count *ℤ c.args.infeed) d in
    subst IsDown (sym ((λ i. to_z w64 (of_z w64 (to_z-of_z w64 c.args.count a i *ℤ to_z-of_z w64 c.args.infeed b i))) ∙ to_z-of_z w64 (c.args.count *ℤ c.args.infeed) p))
    d
