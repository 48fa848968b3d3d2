-- The cells before one in the order of rows are done.
use Rattle.std.proofs.Common.{◌≡◌, ◌≢◌, ℕ, ◌<◌, ◌+◌, Bool, false, nat_lt, List, map, length, get_or, set, refl, sym, ap, subst, ◌∙◌, arith, below_more, get_or-set_other, get_or-set_same}
use Rattle.std.proofs.lemmas.List.{length-set, length-map, get_or-map, get_or_default, same_lists}
use Rattle.cell_grid.specs.declared.frames.Frame.{Frame}
use Rattle.cell_grid.specs.declared.bits.Plane.TheVariants.{Allowed}
use Rattle.cell_grid.specs.Grid.{Grid, with_plane, IsSized}
use Rattle.cell_grid.specs.Place.{IsFrame, cells_of}

-- only Allowed changed, and its places before n are as they have to be
pub record IsDoneBelow (start : Grid) (frame : Frame) (limit : ℕ) (g : Grid) (n : ℕ) : Type 0 where
  pub rest : g ≡ record start { allowed = g.allowed }
  pub same_frame : frame ≡ start.frame
  pub valid : IsFrame frame
  pub sized : length g.allowed ≡ cells_of frame
  pub table : length start.clearances ≡ cells_of frame
  pub done : (k : ℕ) → k < n → get_or g.allowed k false ≡ nat_lt limit (get_or g.clearances k 0)

pub none_done : (start : Grid) (frame : Frame) (limit : ℕ) → frame ≡ start.frame → IsFrame frame → IsSized start → IsDoneBelow start frame limit start 0
none_done start frame limit e v s = record {
  rest = refl;
  same_frame = e;
  valid = v;
  sized = s.allowed ∙ ap cells_of (sym e);
  table = s.clearances ∙ ap cells_of (sym e);
  done = λ k h. absurd (omega arith);
}

written_one : (start g : Grid) (frame : Frame) (limit n : ℕ) (on : Bool) → IsDoneBelow start frame limit g n → n < cells_of frame
    → on ≡ nat_lt limit (get_or g.clearances n 0) → IsDoneBelow start frame limit (with_plane g Allowed (set g.allowed n on)) (n + 1)
written_one start g frame limit n on p below value = record {
  rest = ap (λ (h : Grid). record h { allowed = set g.allowed n on }) p.rest;
  same_frame = p.same_frame;
  valid = p.valid;
  sized = simp length-set p.sized;
  table = p.table;
  done =
      below_more (λ (k : ℕ). get_or (set g.allowed n on) k false ≡ nat_lt limit (get_or g.clearances k 0)) n
      (λ k h. let ne : k ≢ n = omega arith in rw get_or-set_other (p.done k h))
      (let lt : n < length g.allowed = omega (arith, p.sized) in rw get_or-set_same value);
}

pub one_done : (start g g' : Grid) (frame : Frame) (limit n n' : ℕ) (on : Bool) → IsDoneBelow start frame limit g n → n < cells_of frame → n' ≡ n + 1
    → g' ≡ with_plane g Allowed (set g.allowed n on) → on ≡ nat_lt limit (get_or g.clearances n 0) → IsDoneBelow start frame limit g' n'
one_done start g g' frame limit n n' on p below next written value =
    subst (λ (m : ℕ). IsDoneBelow start frame limit g' m) (sym next)
    (subst (λ (h : Grid). IsDoneBelow start frame limit h (n + 1)) (sym written) (written_one start g frame limit n on p below value))

-- all are done
pub all_done : (start g : Grid) (frame : Frame) (limit n : ℕ) → IsDoneBelow start frame limit g n → n ≡ cells_of frame
    → g ≡ record start { allowed = map (λ n. nat_lt limit n) start.clearances }
all_done start g frame limit n p e = p.rest ∙ ap (λ (xs : List Bool). record start { allowed = xs }) whole
  where
    same_table : g.clearances ≡ start.clearances
    same_table = ap (λ (h : Grid). h.clearances) p.rest

    size : length g.allowed ≡ length start.clearances
    size = p.sized ∙ sym p.table

    at : (k : ℕ) → k < length start.clearances → get_or g.allowed k false ≡ nat_lt limit (get_or start.clearances k 0)
    at k h = p.done k (omega (arith, p.table)) ∙ ap (λ (xs : List ℕ). nat_lt limit (get_or xs k 0)) same_table

    whole : g.allowed ≡ map (λ n. nat_lt limit n) start.clearances
    whole = same_lists _ _ (simp length-map size) (λ k d h.
        let in_table : k < length start.clearances = omega (arith, size) in
        get_or_default g.allowed k d false h ∙ at k in_table ∙ sym (get_or-map (λ (n : ℕ). nat_lt limit n) start.clearances k 0 d in_table))
