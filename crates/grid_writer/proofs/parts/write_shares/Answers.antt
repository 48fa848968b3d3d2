use Rattle.std.proofs.Common.{rules, arith, ◌≡◌, ◌++◌, ◌+◌, ◌<◌, ◌≤◌, [], drop, ap, sym, ◌∙◌, length, get_or, pos}
use Rattle.std.proofs.lemmas.List.{append-nil}
use Rattle.grid_writer.specs.Parts.{share_text, shares_text}
use Rattle.grid_writer.proofs.PartLaws.{more_share, none_left}
use Rattle.grid_writer.proofs.parts.write_shares.Goals as goal

pub loop-k-preserved : goal.loop-k-preserved
loop-k-preserved c =
    let ws = c.args.weights in
    let ks = c.args.probes in
    let k = c.loop-k.k in
    let in_ws : k < length ws = search rules in
    let in_ks : k < length ks = search rules in
    let shared : c.write_share.new.out.items ≡ c.loop-k.out.items ++ share_text (get_or ws k (pos 0)) (get_or ks k 0) = search rules in
    ap (λ t. t ++ shares_text (drop (k + 1) ws) (drop (k + 1) ks)) shared
    ∙ more_share ws ks k c.loop-k.out.items in_ws in_ks ∙ c.loop-k.invariant

pub returns : goal.returns
returns c =
    let ws = c.args.weights in
    let k = c.loop-k.k in
    let four : length ws ≡ 4 = search rules in
    let past : length ws ≤ k = omega (arith, four, c.loop-k-test.false) in
    let none : shares_text (drop k ws) (drop k c.args.probes) ≡ [] = none_left ws (drop k c.args.probes) k past in
    sym (append-nil c.loop-k.out.items) ∙ ap (λ t. c.loop-k.out.items ++ t) (sym none) ∙ c.loop-k.invariant
