-- What is carried from one grid to another where only the numbers and the queue change.
use Rattle.std.proofs.Common.{◌≡◌, ℕ, zero, suc, replicate, Bool, List, slice_index, refl, sym, ap, subst, ◌∙◌}
use Rattle.board_base.specs.declared.places.Cell.{Cell}
use Rattle.cell_grid.specs.declared.frames.Frame.{Frame}
use Rattle.cell_grid.specs.declared.bits.Plane.{Plane}
use Rattle.cell_grid.specs.Grid.{Grid, plane_of}
use Rattle.cell_grid.specs.Place.{cells_of}
use Rattle.cell_grid.specs.Cells.{number_in}
use Rattle.cell_sets.specs.Chains.{IsClasses}
use Rattle.cell_sets.specs.Islands.{AreIslands}
use Rattle.islands.specs.Taken.{is_taken}
use Rattle.islands.specs.Floods.{ChangesNumbers}
use Rattle.islands.specs.Classes.{IsNumbered}
use Rattle.islands.proofs.Numbers.{plane_same}

pub changes_both : (g h k : Grid) → ChangesNumbers g h → ChangesNumbers h k → ChangesNumbers g k
changes_both g h k a b = b ∙ ap (λ (x : Grid). record x { works = k.works; waiting = k.waiting; put = k.put }) a

pub taken_as : (on : Bool) (f : Frame) (start g : Grid) (p : Plane) → f ≡ start.frame → ChangesNumbers start g → is_taken on f (plane_of g p) ≡ is_taken on start.frame (plane_of start p)
taken_as on f start g p e rest =
    ap (λ (h : Frame). is_taken on h (plane_of g p)) e
    ∙ ap (λ (xs : List Bool). is_taken on start.frame xs) (ap (λ (h : Grid). plane_of h p) rest ∙ plane_same start g p)

pub same_frames : (g h : Grid) → ChangesNumbers g h → h.frame ≡ g.frame
same_frames g h a = ap (λ (x : Grid). x.frame) a

module _ (on : Bool) (p : Plane) (P : Frame → (Cell → Bool) → Type 0) where
  -- what holds of the frame and the taken cells holds after
  pub carried : (g h : Grid) → ChangesNumbers g h → P g.frame (is_taken on g.frame (plane_of g p)) → P h.frame (is_taken on h.frame (plane_of h p))
  carried g h a q =
      subst (λ (f : Frame). P f (is_taken on h.frame (plane_of h p))) (sym (same_frames g h a))
      (subst (λ (test : Cell → Bool). P g.frame test) (sym (taken_as on h.frame g h p (same_frames g h a) a)) q)

  -- and before
  pub carried_back : (g h : Grid) → ChangesNumbers g h → P h.frame (is_taken on h.frame (plane_of h p)) → P g.frame (is_taken on g.frame (plane_of g p))
  carried_back g h a q =
      subst (λ (test : Cell → Bool). P g.frame test) (taken_as on h.frame g h p (same_frames g h a) a)
      (subst (λ (f : Frame). P f (is_taken on h.frame (plane_of h p))) (same_frames g h a) q)

-- a grid whose numbers are taken away
pub numbers_cleared : (g h : Grid) → h ≡ record g { works = replicate (cells_of g.frame) 0 } → ChangesNumbers g h × ((k : ℕ) → slice_index h.works k ≡ 0)
numbers_cleared g h e = (subst (λ (x : Grid). ChangesNumbers g x) (sym e) refl, subst (λ (x : Grid). (k : ℕ) → slice_index x.works k ≡ 0) (sym e) (zero_at (cells_of g.frame)))
  where
    zero_at : (n k : ℕ) → slice_index (replicate n 0) k ≡ 0
    zero_at zero k = refl
    zero_at (suc n) zero = refl
    zero_at (suc n) (suc k) = zero_at n k

-- numbered from 1 on, the classes are islands
pub islands_of : (f : Frame) (taken : Cell → Bool) (works : List ℕ) (count : ℕ) → IsNumbered f taken 0 works count → AreIslands taken (number_in f 0 works) count
islands_of f taken works count q = record { clear = q.clear; some = q.some; few = q.few; same = q.same; whole = q.whole; order = q.order; present = q.present }

pub classes_of : (f : Frame) (taken : Cell → Bool) (works : List ℕ) (count : ℕ) → IsNumbered f taken 1 works count → IsClasses taken (number_in f 1 works)
classes_of f taken works count q = record { clear = q.clear; some = q.some; same = λ a b k e. q.same a b (q.some a k) e; whole = q.whole }
