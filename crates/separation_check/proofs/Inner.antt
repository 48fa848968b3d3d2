-- Chains that begin in a frame whose border has no free cell stay in it.
use Rattle.std.proofs.Common.{◌≡◌, ℕ, zero, suc, ◌<◌, Bool, true, false, List, [], get_or, sym, ap, ◌∙◌, arith}
use Rattle.std.proofs.lemmas.Bool.{false≢true}
use Rattle.number_laws.proofs.Tests.{by_bool}
use Rattle.board_base.specs.declared.places.Cell.{Cell}
use Rattle.cell_grid.specs.declared.frames.Frame.{Frame}
use Rattle.cell_grid.specs.Cells.{in_frame}
use Rattle.cell_sets.specs.Chains.{Chain, IsLinked}
use Rattle.cell_sets.specs.Groups.{IsGroup, AreGroups}
use Rattle.cell_grid.proofs.CellsLaws.{in_frame_is, border_of}
use Rattle.separation_check.specs.Laws.{AgreeInside, InnerChains, InnerGroups}
use Rattle.cell_sets.proofs.Links.{chain_end}

module _ (f : Frame) (t u : Cell → Bool) (p : AgreeInside f t u) where
  stays_in : (a b : Cell) (n : ℕ) → in_frame f a ≡ true → Chain (λ c. t c ≡ true) a b n → in_frame f b ≡ true
  stays_in a b zero i q = ap (in_frame f) (sym q.0) ∙ i
  stays_in a b (suc n) i q =
      let k = stays_in a q.0 n i q.1.0 in
      by_bool (in_frame f b) (λ e. e)
      (λ out. absurd (false≢true (sym (p.border q.0 (border_of f q.0 b (in_frame_is f q.0 k) out q.1.1)) ∙ chain_end (λ c. t c ≡ true) a q.0 n q.1.0)))

  carried : (a b : Cell) (n : ℕ) → in_frame f a ≡ true → Chain (λ c. t c ≡ true) a b n → Chain (λ c. u c ≡ true) a b n
  carried a b zero i q = (q.0, sym (p.agree a i) ∙ q.1)
  carried a b (suc n) i q = (q.0, (carried a q.0 n i q.1.0, q.1.1, sym (p.agree b (stays_in a b (suc n) i q)) ∙ q.1.2))

  linked_too : (a b : Cell) → in_frame f a ≡ true → IsLinked t a b → IsLinked u a b
  linked_too a b i j = record { steps = j.steps; chain = carried a b j.steps i j.chain }

agree_sym : (f : Frame) (t u : Cell → Bool) → AgreeInside f t u → AgreeInside f u t
agree_sym f t u p = record { agree = λ c i. sym (p.agree c i); border = λ c b. sym (p.agree c b.inside) ∙ p.border c b }

pub inner_chains : InnerChains
inner_chains f t u p a b i = (linked_too f t u p a b i, linked_too f u t (agree_sym f t u p) a b i)

module _ (f : Frame) (t u : Cell → Bool) (number : Cell → ℕ) (p : AgreeInside f t u) (none : (c : Cell) → in_frame f c ≡ false → number c ≡ 0) where
  numbered : (c : Cell) → 0 < number c → in_frame f c ≡ true
  numbered c s = by_bool (in_frame f c) (λ e. e) (λ out. absurd (omega (arith, s, none c out)))

  there : (a b : Cell) → in_frame f a ≡ true → IsLinked t a b → IsLinked u a b
  there = linked_too f t u p

  back : (a b : Cell) → in_frame f a ≡ true → IsLinked u a b → IsLinked t a b
  back = linked_too f u t (agree_sym f t u p)

  one : (first : Cell) (group : List ℕ) → IsGroup (λ c. t c ≡ true) number first group → IsGroup (λ c. u c ≡ true) number first group
  one first group g =
      let i = numbered first g.island in
      record {
        island = g.island;
        free_there = sym (p.agree first i) ∙ g.free_there;
        earliest = λ c s j b. g.earliest c s (back first c i j) b;
        ascending = g.ascending;
        sound = λ v k. let m = g.sound v k in (m.0, (m.1.0, there first m.0 i m.1.1, m.1.2));
        whole = λ c s j. g.whole c s (back first c i j);
        two = g.two;
      }

  groups_too : (groups : List (List ℕ)) → AreGroups (λ c. t c ≡ true) number groups → AreGroups (λ c. u c ≡ true) number groups
  groups_too groups g = record {
    firsts = g.firsts;
    same_length = g.same_length;
    each = λ k d l. one (get_or g.firsts k d) (get_or groups k []) (g.each k d l);
    order = g.order;
    all = λ a b sa sb ne j.
        let r = g.all a b sa sb ne (back a b (numbered a sa) j) in
        (r.0, (r.1.0, λ d. there (get_or g.firsts r.0 d) a (numbered (get_or g.firsts r.0 d) (g.each r.0 d r.1.0).island) (r.1.1 d)));
  }

pub inner_groups : InnerGroups
inner_groups f t u number groups p none = groups_too f t u number p none groups
