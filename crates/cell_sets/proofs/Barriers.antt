-- Why the visited cells part what all allowed cells part.
use Rattle.std.proofs.Common.{◌≡◌, ◌↔◌, ℕ, zero, suc, List, ◌<◌, ◌+◌, ◌*◌, ◌≤◌, ℤ, pos, negsuc, ◌+ℤ◌, ◌-ℤ◌, ◌*ℤ◌, ◌≤ℤ◌, nat_abs, Bool, true, false, refl, sym, ap, ◌∙◌, arith}
use Rattle.std.proofs.lemmas.Bool.{false≢true}
use Rattle.std.proofs.lemmas.Nat.{mul-le}
use borrow.Author.Differences.{ints, le_out, at_most_in, sum_is_lem}
use Rattle.number_laws.proofs.Tests.{by_bool}
use Rattle.number_laws.proofs.Order.{le_trans_ℤ}
use Rattle.board_base.specs.declared.places.Cell.{Cell}
use Rattle.board_base.specs.Lattice.{dist2, IsBeside, AreNeighbours}
use Rattle.cell_sets.specs.Chains.{Chain, IsLinkedOver}
use Rattle.cell_sets.specs.Sweep.{IsSwept, IsUnswept}
use Rattle.cell_sets.specs.Groups.{AreGroups}
use Rattle.cell_sets.specs.Barrier.{IsBarrier, IsPast, Barrier, GroupsPast}
use Rattle.cell_sets.proofs.CellLaws.{same_cell, beside_sym}
use Rattle.cell_sets.proofs.Links.{chain_over, groups_carried}

-- ---- a step towards a cell

pub square_abs : (x : ℤ) → x *ℤ x ≡ pos (nat_abs x * nat_abs x)
square_abs (pos n) = refl
square_abs (negsuc n) = refl

pub pos_le : (m n : ℕ) → m ≤ n → pos m ≤ℤ pos n
pos_le m n h = omega (arith, ints)

-- a difference of no more has no larger square
pub lesser : (x y : ℤ) → nat_abs y ≤ nat_abs x → (y *ℤ y) ≤ℤ (x *ℤ x)
lesser x y h = rw (square_abs x, square_abs y) (pos_le _ _ (mul-le _ _ _ _ h h))

-- a step by which one of two differences gets smaller, and neither larger
record IsTowards (x y : ℤ) (n : ℕ) : Type 0 where
  pub dx : ℤ
  pub dy : ℤ
  pub west : negsuc 0 ≤ℤ dx
  pub east : dx ≤ℤ pos 1
  pub south : negsuc 0 ≤ℤ dy
  pub north : dy ≤ℤ pos 1
  pub left : nat_abs (x +ℤ dx) + nat_abs (y +ℤ dy) ≡ n
  pub less_x : nat_abs (x +ℤ dx) ≤ nat_abs x
  pub less_y : nat_abs (y +ℤ dy) ≤ nat_abs y

towards : (x y : ℤ) (n : ℕ) → nat_abs x + nat_abs y ≡ suc n → IsTowards x y n
towards (pos (suc m)) y n e = record { dx = negsuc 0; dy = pos 0; west = omega (arith, ints); east = omega (arith, ints); south = omega (arith, ints); north = omega (arith, ints); left = omega (arith, ints); less_x = omega (arith, ints); less_y = omega (arith, ints) }
towards (negsuc m) y n e = record { dx = pos 1; dy = pos 0; west = omega (arith, ints); east = omega (arith, ints); south = omega (arith, ints); north = omega (arith, ints); left = omega (arith, ints); less_x = omega (arith, ints); less_y = omega (arith, ints) }
towards (pos zero) (pos (suc m)) n e = record { dx = pos 0; dy = negsuc 0; west = omega (arith, ints); east = omega (arith, ints); south = omega (arith, ints); north = omega (arith, ints); left = omega (arith, ints); less_x = omega (arith, ints); less_y = omega (arith, ints) }
towards (pos zero) (negsuc m) n e = record { dx = pos 0; dy = pos 1; west = omega (arith, ints); east = omega (arith, ints); south = omega (arith, ints); north = omega (arith, ints); left = omega (arith, ints); less_x = omega (arith, ints); less_y = omega (arith, ints) }
towards (pos zero) (pos zero) n e = absurd (omega arith)

-- how many columns and rows lie between two cells
abbrev steps_between : Cell → Cell → ℕ
steps_between a q = nat_abs (a.i -ℤ q.i) + nat_abs (a.j -ℤ q.j)

-- one step of a walk from a to q, with n steps left
record IsStep (a q : Cell) (n : ℕ) : Type 0 where
  pub to : Cell
  pub beside : IsBeside a to
  pub left : steps_between to q ≡ n
  pub nearer : dist2 to q ≤ℤ dist2 a q

step_to : (a q : Cell) (n : ℕ) → steps_between a q ≡ suc n → IsStep a q n
unfolding dist2
step_to a q n e =
    let t = towards (a.i -ℤ q.i) (a.j -ℤ q.j) n e in
    let ei : (a.i +ℤ t.dx) -ℤ q.i ≡ (a.i -ℤ q.i) +ℤ t.dx = moved a.i q.i t.dx in
    let ej : (a.j +ℤ t.dy) -ℤ q.j ≡ (a.j -ℤ q.j) +ℤ t.dy = moved a.j q.j t.dy in
    record {
      to = record { i = a.i +ℤ t.dx; j = a.j +ℤ t.dy };
      beside = record { west = back a.i t.dx t.west; east = on a.i t.dx t.east; south = back a.j t.dy t.south; north = on a.j t.dy t.north };
      left = rw (ei, ej) t.left;
      nearer = rw (ei, ej) (add_le _ _ _ _ (lesser _ _ t.less_x) (lesser _ _ t.less_y));
    }
  where
    moved : (a q d : ℤ) → (a +ℤ d) -ℤ q ≡ (a -ℤ q) +ℤ d
    moved a q d = omega (arith, ints)

    back : (a d : ℤ) → negsuc 0 ≤ℤ d → (a -ℤ (a +ℤ d)) ≤ℤ pos 1
    back a d h = omega (arith, ints)

    on : (a d : ℤ) → d ≤ℤ pos 1 → ((a +ℤ d) -ℤ a) ≤ℤ pos 1
    on a d h = omega (arith, ints)

    add_le : (a b c d : ℤ) → a ≤ℤ c → b ≤ℤ d → (a +ℤ b) ≤ℤ (c +ℤ d)
    add_le a b c d h k = omega (arith, sum_is_lem, le_out, at_most_in)

at_goal : (a q : Cell) → steps_between a q ≡ 0 → a ≡ q
at_goal a q e = same_cell a.i a.j q.i q.j (equal a.i q.i (first (nat_abs (a.i -ℤ q.i)) (nat_abs (a.j -ℤ q.j)) e)) (equal a.j q.j (second (nat_abs (a.i -ℤ q.i)) (nat_abs (a.j -ℤ q.j)) e))
  where
    first : (m n : ℕ) → m + n ≡ 0 → m ≡ 0
    first m n e = omega arith

    second : (m n : ℕ) → m + n ≡ 0 → n ≡ 0
    second m n e = omega arith

    equal : (x y : ℤ) → nat_abs (x -ℤ y) ≡ 0 → x ≡ y
    equal x y e = omega (arith, ints)

-- ---- the border of a set on the way to a cell outside

-- two cells that meet, the one in the set and the other not
pub record IsEdge (allowed : Cell → Bool) (c b : Cell) : Type 0 where
  pub inside : allowed c ≡ true
  pub neighbours : AreNeighbours c b
  pub outside : allowed b ≡ false

-- such a pair, no farther from q than a is
pub record IsMet (allowed : Cell → Bool) (a q : Cell) : Type 0 where
  pub at : Cell
  pub outer : Cell
  pub edge : IsEdge allowed at outer
  pub nearer : dist2 at q ≤ℤ dist2 a q

pub edge_at : (allowed : Cell → Bool) (c b : Cell) → allowed c ≡ true → IsBeside c b → allowed b ≡ false → IsEdge allowed c b
edge_at allowed c b inside beside outside = record {
  inside = inside;
  neighbours = record { apart = λ e. false≢true (sym outside ∙ ap allowed (sym e) ∙ inside); beside = beside };
  outside = outside;
}

pub refl_le : (x : ℤ) → x ≤ℤ x
refl_le x = omega (arith, ints)

pub met : (allowed : Cell → Bool) (n : ℕ) (a q : Cell) → steps_between a q ≡ n → allowed a ≡ true → allowed q ≡ false → IsMet allowed a q
met allowed zero a q e a_in q_out = absurd (false≢true (sym q_out ∙ ap allowed (sym (at_goal a q e)) ∙ a_in))
met allowed (suc n) a q e a_in q_out =
    let s = step_to a q n e in
    by_bool (allowed s.to)
    (λ inside. let m = met allowed n s.to q s.left inside q_out in record { at = m.at; outer = m.outer; edge = m.edge; nearer = le_trans_ℤ (dist2 m.at q) (dist2 s.to q) (dist2 a q) m.nearer s.nearer })
    (λ outside. record { at = a; outer = s.to; edge = edge_at allowed a s.to a_in s.beside outside; nearer = refl_le (dist2 a q) })

no_distance : (w : ℕ) (c : Cell) → dist2 c c ≤ℤ pos w
unfolding dist2
no_distance w c =
    let i : c.i -ℤ c.i ≡ pos 0 = omega (arith, ints) in
    let j : c.j -ℤ c.j ≡ pos 0 = omega (arith, ints) in
    rw (i, j) (omega (arith, ints))

-- ---- the barrier

-- what makes a set of cells a barrier round the kept ones
pub record IsRoundKept (allowed kept : Cell → Bool) (Visited : Cell → Type 0) : Type 0 where
  pub clear : (c : Cell) → kept c ≡ true → allowed c ≡ false
  pub contour : (c b : Cell) → allowed c ≡ true → AreNeighbours c b → allowed b ≡ false → Visited c
  pub within : (c : Cell) → Visited c → allowed c ≡ true

module _ (w : ℕ) (allowed kept : Cell → Bool) (Visited : Cell → Type 0) (barrier : IsRoundKept allowed kept Visited) where
  edge_visited : (c b : Cell) → IsEdge allowed c b → Visited c
  edge_visited c b e = barrier.contour c b e.inside e.neighbours e.outside

  -- from a cell that isn't allowed the next cell past the visited ones isn't allowed
  next_out : (c b : Cell) → allowed c ≡ false → IsBeside c b → IsUnswept w Visited b → allowed b ≡ false
  next_out c b out beside clear =
      by_bool (allowed b)
      (λ inside. absurd (clear (record { from = b; member = edge_visited b c (edge_at allowed b c inside (beside_sym c b beside) out); within = no_distance w b })))
      (λ outside. outside)

  -- a cell that isn't allowed is swept from the visited cells where it is from any allowed one
  swept_too : (q : Cell) → allowed q ≡ false → IsSwept w (λ c. allowed c ≡ true) q → IsSwept w Visited q
  swept_too q out s =
      let m = met allowed _ s.from q refl s.member out in
      record { from = m.at; member = edge_visited m.at m.outer m.edge; within = le_trans_ℤ (dist2 m.at q) (dist2 s.from q) (pos w) m.nearer s.within }

  past_all : (q : Cell) → allowed q ≡ false → IsUnswept w Visited q → IsPast w allowed q
  past_all q out clear = λ s. clear (swept_too q out s)

  past_visited : (q : Cell) → IsPast w allowed q → IsUnswept w Visited q
  past_visited q clear = λ s. clear (record { from = s.from; member = barrier.within s.from s.member; within = s.within })

  -- a chain past the visited cells that begins outside stays outside
  chain_past : (a b : Cell) (n : ℕ) → allowed a ≡ false → Chain (IsUnswept w Visited) a b n → Chain (IsPast w allowed) a b n × allowed b ≡ false
  chain_past a b zero out p = ((p.0, past_all a out p.1), ap allowed (sym p.0) ∙ out)
  chain_past a b (suc n) out p =
      let r = chain_past a p.0 n out p.1.0 in
      let b_out = next_out p.0 b r.1 p.1.1 p.1.2 in
      ((p.0, (r.0, p.1.1, past_all b b_out p.1.2)), b_out)

  -- from a kept cell the chains are the same
  pub linked_past : (a b : Cell) → kept a ≡ true → IsLinkedOver (IsUnswept w Visited) a b ↔ IsLinkedOver (IsPast w allowed) a b
  linked_past a b a_kept = (
    λ l. record { steps = l.steps; chain = (chain_past a b l.steps (barrier.clear a a_kept) l.chain).0 },
    λ l. record { steps = l.steps; chain = chain_over (IsPast w allowed) (IsUnswept w Visited) past_visited a b l.steps l.chain },
  )

  -- and a kept cell is free past both or past neither
  pub past_same : (a : Cell) → kept a ≡ true → IsUnswept w Visited a ↔ IsPast w allowed a
  past_same a a_kept = (past_all a (barrier.clear a a_kept), past_visited a)

  -- so the groups are the same
  pub groups_same : (number : Cell → ℕ) (groups : List (List ℕ)) → ((c : Cell) → 0 < number c → kept c ≡ true) → AreGroups (IsUnswept w Visited) number groups → AreGroups (IsPast w allowed) number groups
  groups_same number groups islands =
      groups_carried (IsUnswept w Visited) (IsPast w allowed) number groups (λ a c a_in. linked_past a c (islands a a_in)) (λ a a_in. past_same a (islands a a_in))

round_kept : (allowed visited kept : Cell → Bool) → IsBarrier allowed visited kept → IsRoundKept allowed kept (λ c. visited c ≡ true)
round_kept allowed visited kept b = record { clear = b.clear; contour = b.contour; within = b.within }

pub barrier : Barrier
barrier w allowed visited kept b = linked_past w allowed kept (λ c. visited c ≡ true) (round_kept allowed visited kept b)

pub groups_past : GroupsPast
groups_past w allowed visited kept number groups b = groups_same w allowed kept (λ c. visited c ≡ true) (round_kept allowed visited kept b) number groups
