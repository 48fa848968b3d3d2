use Rattle.std.proofs.Common.{sym, subst}
use Rattle.rs274_sim.specs.Evaluation.{value_of, expression_value}
use Rattle.rs274_sim.specs.Table.{table, Gives}
use Rattle.rs274_sim.proofs.TableLaws.{brackets_value}
use Rattle.rs274_sim.proofs.evaluate.+evaluate.Goals as goal

pub value_of-returns-in-Expr : goal.value_of-returns-in-Expr
value_of-returns-in-Expr t c =
    let ps = table c.args.params.now in
    let r = c.expression_value.result in
    subst (λ v. Gives r (value_of ps v)) (sym c.in-Expr.is) (subst (Gives r) (sym (brackets_value ps c.in-Expr.e)) (subst (λ e. Gives r (expression_value ps e)) c.get.ensures c.expression_value.ensures))
