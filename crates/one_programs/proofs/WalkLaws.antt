-- A set of cells has one list of walks, and a pass of an image one in the order of a program.
use Rattle.std.proofs.Common.{◌≡◌, ℕ, ℤ, Bool, true, List, [], map, length, get_or, ◌↔◌, inl, inr, sym, ap, subst, ◌∙◌, arith}
use Rattle.std.specs.List.{Contains}
use Rattle.std.proofs.lemmas.Bool.{cases_lt}
use Rattle.std.proofs.lemmas.Bool.Decides.{same_from_decides}
use Rattle.std.proofs.lemmas.List.{get_or_default, same_lists}
use Rattle.board_base.specs.declared.places.Cell.{Cell}
use Rattle.cell_sets.specs.Chains.{IsLinked}
use Rattle.cell_sets.specs.Contour.{IsContour}
use Rattle.cell_sets.proofs.Links.{IsFree, linked_sym}
use Rattle.shape_parts.specs.declared.shape.Painted.{Painted}
use Rattle.chain_walk.specs.Walk.{origin, entry, IsWalkFrom, IsWalk, AreWalks}
use Rattle.chain_walk.specs.RowRuns.{AreRowRuns}
use Rattle.chain_walk.proofs.Chaining.{not_both}
use Rattle.chain_walk.proofs.OneRuns.{one_list, rising, one_row_runs, before_trans, Stands}
use Rattle.chain_walk.proofs.Unique.{one_walk}
use Rattle.path_order.proofs.Unique.{one_order}
use Rattle.mill_plan.specs.declared.cutting.Cutting.{Cutting}
use Rattle.mill_plan.specs.Cutting.{guard, kept_by}
use Rattle.mill_plan.specs.Cuts.{starts_of, AreOrdered, ArePassWalks, AreClearingRuns}
use Rattle.mill_plan.proofs.SideLaws.{same_test}
use Rattle.board_base.specs.Places.{origin as start}
use Rattle.one_programs.proofs.CellOrder.{one_cell}

-- ---- the walks of a set

never_both : (x y : List Cell) → Stands x y → Stands y x → ⊥
never_both x y = not_both (entry x 0) (entry y 0)

stands_later : (x y z : List Cell) → Stands x y → Stands y z → Stands x z
stands_later x y z = before_trans (entry x 0) (entry y 0) (entry z 0)

module _ (taken : Cell → Bool) where
  -- walks of one component are one
  same_walk : (x y : List Cell) → IsWalk taken x → IsWalk taken y → IsLinked taken (entry y 0) (entry x 0) → x ≡ y
  same_walk x y p q linked =
      let e : entry x 0 ≡ entry y 0 =
      one_cell (entry x 0) (entry y 0) (λ h. q.begins.earliest (entry x 0) linked h) (λ h. p.begins.earliest (entry y 0) (linked_sym (IsFree taken) (entry y 0) (entry x 0) linked) h) in
      let both = one_walk taken (entry x 0) (entry x) (entry y) (length x) (length y) p.begins.taken_there p.goes (subst (λ (c : Cell). IsWalkFrom taken c (entry y) (length y)) (sym e) q.goes) in
      same_lists x y both.0 (λ k d l. (get_or_default x k d origin l ∙ both.1 k l ∙ get_or_default y k origin d (omega (arith, l, both.0))))

  among : (walks others : List (List Cell)) → AreWalks taken walks → AreWalks taken others → (x : List Cell) → Contains walks x → Contains others x
  among walks others p q x (k, l, e) =
      let walk : IsWalk taken x = subst (IsWalk taken) (get_or_default walks k [] x l ∙ e) (p.each k l) in
      let found = q.whole (entry x 0) walk.begins.taken_there in
      (found.0, found.1.0, get_or_default others found.0 x [] found.1.0 ∙ sym (same_walk x (get_or others found.0 []) walk (q.each found.0 found.1.0) found.1.1))

  pub one_walks : (walks others : List (List Cell)) → AreWalks taken walks → AreWalks taken others → walks ≡ others
  one_walks walks others p q =
      one_list Stands never_both walks others (rising Stands never_both stands_later [] walks p.order) (rising Stands never_both stands_later [] others q.order) (among walks others p q) (among others walks q p)

-- ---- the walks of a pass

-- walks have one order of a program
one_ordering : (pitch : ℤ) (rows walks others : List (List Cell)) → AreOrdered pitch rows walks → AreOrdered pitch rows others → walks ≡ others
one_ordering pitch rows walks others a b =
    let order : a.order ≡ b.order =
    elim (cases_lt 4096 (length rows)) as (λ _. a.order ≡ b.order) [
      | inl many ↦ a.rest many ∙ sym (b.rest many)
      | inr few ↦ one_order (starts_of pitch rows) start a.order b.order (a.nearest few) (b.nearest few)
    ] in
    a.walks_are ∙ ap (map (λ n. get_or rows n [])) order ∙ sym b.walks_are

module _ (k : Cutting) where
  -- images that keep the same cells have the same walks of a pass
  pub one_pass : (painted another : List Painted) → kept_by k painted ≡ kept_by k another → (pass : ℕ) (walks others : List (List Cell)) → ArePassWalks k painted pass walks → ArePassWalks k another pass others → walks ≡ others
  one_pass painted another same pass walks others a b =
      let member : a.contour.member ≡ b.contour.member = same_test a.contour.member b.contour.member (λ c. same_from_decides (a.contour.member c) (b.contour.member c) (a.contour.is_contour c) (there c (b.contour.is_contour c))) in
      let rows : a.rows ≡ b.rows = one_walks a.contour.member a.rows b.rows a.contour.walks (subst (λ (m : Cell → Bool). AreWalks m b.rows) (sym member) b.contour.walks) in
      one_ordering k.pitch a.rows walks others a.ordered (subst (λ (r : List (List Cell)). AreOrdered k.pitch r others) (sym rows) b.ordered)
    where
      there : (c : Cell) → b.contour.member c ≡ true ↔ IsContour (kept_by k another) (guard k pass) c → b.contour.member c ≡ true ↔ IsContour (kept_by k painted) (guard k pass) c
      there c h = subst (λ (kept : Cell → Bool). b.contour.member c ≡ true ↔ IsContour kept (guard k pass) c) (sym same) h

  -- an image has one list of clearing runs
  pub one_clearing : (painted : List Painted) (runs others : List (List Cell)) → AreClearingRuns k painted runs → AreClearingRuns k painted others → runs ≡ others
  one_clearing painted runs others a b =
      let member : a.member ≡ b.member = same_test a.member b.member (λ c. same_from_decides (a.member c) (b.member c) (a.is_cleared c) (b.is_cleared c)) in
      one_row_runs a.member runs others a.are (subst (λ (m : Cell → Bool). AreRowRuns m others) (sym member) b.are)
