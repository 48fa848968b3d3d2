use Rattle.std.proofs.Common.{rules, ◌≤◌, unsigned_abs, pos, get_or, ◌∙◌, arith}
use Rattle.std.proofs.lemmas.Int.{to_z-of_z}
use mir.Val.{SFits}
use mir.Syntax.{w64, w128}
use Rattle.side_check.proofs.SurfaceLaws.{share_small, sum_of, surface_sum}
use Rattle.side_check.proofs.heights.surface_by.Goals as goal

pub share-requires : goal.share-requires
share-requires c =
    let small : unsigned_abs (get_or c.weights_at-weights.result.w 0 (pos 0)) ≤ 1000000 = share_small c.weights_at-weights.result.w c.weights_at-weights.ensures.shares 0 (omega arith) in
    let fits : SFits w64 (get_or c.weights_at-weights.result.w 0 (pos 0)) = search rules in
    simp to_z-of_z small

pub share-requires-2 : goal.share-requires-2
share-requires-2 c =
    let small : unsigned_abs (get_or c.weights_at-weights.result.w 1 (pos 0)) ≤ 1000000 = share_small c.weights_at-weights.result.w c.weights_at-weights.ensures.shares 1 (omega arith) in
    let fits : SFits w64 (get_or c.weights_at-weights.result.w 1 (pos 0)) = search rules in
    simp to_z-of_z small

pub share-requires-3 : goal.share-requires-3
share-requires-3 c =
    let small : unsigned_abs (get_or c.weights_at-weights.result.w 2 (pos 0)) ≤ 1000000 = share_small c.weights_at-weights.result.w c.weights_at-weights.ensures.shares 2 (omega arith) in
    let fits : SFits w64 (get_or c.weights_at-weights.result.w 2 (pos 0)) = search rules in
    simp to_z-of_z small

pub share-requires-4 : goal.share-requires-4
share-requires-4 c =
    let small : unsigned_abs (get_or c.weights_at-weights.result.w 3 (pos 0)) ≤ 1000000 = share_small c.weights_at-weights.result.w c.weights_at-weights.ensures.shares 3 (omega arith) in
    let fits : SFits w64 (get_or c.weights_at-weights.result.w 3 (pos 0)) = search rules in
    simp to_z-of_z small

pub returns-clause-value : goal.returns-clause-value
returns-clause-value c =
    let small0 : unsigned_abs (get_or c.weights_at-weights.result.w 0 (pos 0)) ≤ 1000000 = share_small c.weights_at-weights.result.w c.weights_at-weights.ensures.shares 0 (omega arith) in
    let fits0 : SFits w64 (get_or c.weights_at-weights.result.w 0 (pos 0)) = search rules in
    let answer0 : SFits w64 c.answer.result = search rules in
    let share0 : SFits w128 c.share.result = search rules in
    let small1 : unsigned_abs (get_or c.weights_at-weights.result.w 1 (pos 0)) ≤ 1000000 = share_small c.weights_at-weights.result.w c.weights_at-weights.ensures.shares 1 (omega arith) in
    let fits1 : SFits w64 (get_or c.weights_at-weights.result.w 1 (pos 0)) = search rules in
    let answer1 : SFits w64 c.answer-2.result = search rules in
    let share1 : SFits w128 c.share-2.result = search rules in
    let small2 : unsigned_abs (get_or c.weights_at-weights.result.w 2 (pos 0)) ≤ 1000000 = share_small c.weights_at-weights.result.w c.weights_at-weights.ensures.shares 2 (omega arith) in
    let fits2 : SFits w64 (get_or c.weights_at-weights.result.w 2 (pos 0)) = search rules in
    let answer2 : SFits w64 c.answer-3.result = search rules in
    let share2 : SFits w128 c.share-3.result = search rules in
    let small3 : unsigned_abs (get_or c.weights_at-weights.result.w 3 (pos 0)) ≤ 1000000 = share_small c.weights_at-weights.result.w c.weights_at-weights.ensures.shares 3 (omega arith) in
    let fits3 : SFits w64 (get_or c.weights_at-weights.result.w 3 (pos 0)) = search rules in
    let answer3 : SFits w64 c.answer-4.result = search rules in
    let share3 : SFits w128 c.share-4.result = search rules in
    let fits : SFits w128 c.total.result = search rules in
    simp to_z-of_z (sum_of c.total.result c.share.result c.share-2.result c.share-3.result c.share-4.result (get_or c.weights_at-weights.result.w 0 (pos 0)) (get_or c.weights_at-weights.result.w 1 (pos 0)) (get_or c.weights_at-weights.result.w 2 (pos 0)) (get_or c.weights_at-weights.result.w 3 (pos 0))
    c.answer.result c.answer-2.result c.answer-3.result c.answer-4.result _ _ _ _
    (simp to_z-of_z at c.total.ensures.value) (simp to_z-of_z at c.share.ensures.value) (simp to_z-of_z at c.share-2.ensures.value) (simp to_z-of_z at c.share-3.ensures.value) (simp to_z-of_z at c.share-4.ensures.value)
    c.answer.ensures c.answer-2.ensures c.answer-3.ensures c.answer-4.ensures
    ∙ surface_sum c.args.grid.now c.args.answers.now.items c.args.q c.weights_at-weights.result c.weights_at-weights.ensures.value c.weights_at-weights.ensures.shares)
