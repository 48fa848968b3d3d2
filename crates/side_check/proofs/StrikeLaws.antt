-- Cells that moves strike in a grid, and kept cells that they hit.
use Rattle.std.proofs.Common.{◌≡◌, ◌⊎◌, inl, inr, ℕ, zero, suc, ◌+◌, ◌<◌, ◌≤◌, ℤ, pos, ◌*ℤ◌, Bool, true, false, ◌&&◌, List, [], ◌∷◌, ◌++◌, take, drop, get_or, length, Option, Some, None, MatchOption, refl, sym, ap, subst, ◌∙◌, arith}
use Rattle.std.specs.List.{Contains}
use Rattle.std.proofs.lemmas.List.{take_more, take_all, drop_more, take-append-drop}
use Rattle.std.proofs.lemmas.List.Elements.{Contains-append_cases}
use Rattle.number_laws.proofs.Tests.{first_of, second_of, cond_true}
use Rattle.board_base.specs.declared.places.Cell.{Cell}
use Rattle.board_base.specs.declared.places.Point.{Point}
use Rattle.board_base.specs.declared.places.Move.{Move}
use Rattle.board_base.specs.declared.places.MoveKind.TheVariants.{Rapid}
use Rattle.board_base.specs.Lattice.{centre_of}
use Rattle.board_base.specs.Near.{near_of}
use Rattle.cell_grid.specs.declared.frames.Frame.{Frame}
use Rattle.cell_grid.specs.Grid.{Grid}
use Rattle.cell_grid.specs.declared.windows.Window.{Window}
use Rattle.cell_grid.specs.Windows.{IsInWindow}
use Rattle.cell_grid.specs.Place.{InFrame, place_of}
use Rattle.cell_grid.specs.Cells.{in_frame, in_plane}
use Rattle.cell_grid.proofs.CellsLaws.{in_frame_true}
use Rattle.mill_plan.proofs.MeasureLaws.{plane_inside}
use Rattle.rs274_sim.specs.Cutter.{nanometre, IsLow}
use Rattle.program_check.specs.Deep.{point_under}
use Rattle.program_check.proofs.ScanLaws.{none_there}
use Rattle.side_check.specs.Struck.{is_struck, is_struck_by, IsFirstCell, AreHarmless, IsFirstStrike}

-- ---- one cell

pub struck_inside : (g : Grid) (a b : Point) (d : ℤ) (c : Cell) → is_struck g a b d c ≡ true → InFrame g.frame c
struck_inside g a b d c e = plane_inside g.frame g.kept c (first_of (in_plane g.frame g.kept c) (near_of (centre_of g.frame.pitch c) a b d) e)

pub struck_near : (g : Grid) (a b : Point) (d : ℤ) (c : Cell) → is_struck g a b d c ≡ true → near_of (centre_of g.frame.pitch c) a b d ≡ true
struck_near g a b d c e = second_of (in_plane g.frame g.kept c) (near_of (centre_of g.frame.pitch c) a b d) e

-- the window of the cells near a segment has those that it strikes
pub window_struck : (g : Grid) (f : Frame) (a b : Point) (d : ℤ) (w : Window) → f ≡ g.frame → ((c : Cell) → InFrame f c → near_of (centre_of f.pitch c) a b d ≡ true → IsInWindow f w c)
    → (c : Cell) → is_struck g a b d c ≡ true → IsInWindow g.frame w c
window_struck g f a b d w is each c struck =
    subst (λ (h : Frame). (e : Cell) → InFrame h e → near_of (centre_of h.pitch e) a b d ≡ true → IsInWindow h w e) is each c (struck_inside g a b d c struck) (struck_near g a b d c struck)

-- a kept cell is struck where it is near
pub kept_struck : (g : Grid) (a b : Point) (d : ℤ) (c : Cell) → InFrame g.frame c → get_or g.kept (place_of g.frame c) false ≡ true → near_of (centre_of g.frame.pitch c) a b d ≡ is_struck g a b d c
kept_struck g a b d c inside on =
    sym (ap (λ (v : Bool). v && near_of (centre_of g.frame.pitch c) a b d) (cond_true (in_frame g.frame c) (get_or g.kept (place_of g.frame c) false) false (in_frame_true g.frame c inside) ∙ on))

-- what a segment strikes is what a move over it strikes, where that is low
pub struck_match : (g : Grid) (d safe : ℤ) (m : Move) (a b : Point) (r : Option Cell) → a ≡ point_under m.from → b ≡ point_under m.to → IsLow (safe *ℤ nanometre) m
    → MatchOption r ((c : Cell) → is_struck g a b d c ≡ true → ⊥) (IsFirstCell (is_struck g a b d))
    → MatchOption r (IsLow (safe *ℤ nanometre) m → (c : Cell) → is_struck_by g d m c ≡ true → ⊥) (λ c. IsLow (safe *ℤ nanometre) m × IsFirstCell (is_struck_by g d m) c)
struck_match g d safe m a b r from to low h =
    by_answer r (subst (λ (x : Point). MatchOption r ((c : Cell) → is_struck g (point_under m.from) x d c ≡ true → ⊥) (IsFirstCell (is_struck g (point_under m.from) x d))) to
    (subst (λ (x : Point). MatchOption r ((c : Cell) → is_struck g x b d c ≡ true → ⊥) (IsFirstCell (is_struck g x b d))) from h))
  where
    by_answer : (r : Option Cell) → MatchOption r ((c : Cell) → is_struck_by g d m c ≡ true → ⊥) (IsFirstCell (is_struck_by g d m))
        → MatchOption r (IsLow (safe *ℤ nanometre) m → (c : Cell) → is_struck_by g d m c ≡ true → ⊥) (λ c. IsLow (safe *ℤ nanometre) m × IsFirstCell (is_struck_by g d m) c)
    by_answer None h = λ _. h
    by_answer (Some c) h = (low, h)

-- ---- moves, one after the other

-- what stands for the moves past the end of a list
abbrev pub no_move : Move
no_move = record {
  from = record { x = pos 0; y = pos 0; z = pos 0 };
  to = record { x = pos 0; y = pos 0; z = pos 0 };
  kind = Rapid;
  turning = false;
  speed = 0;
  feed = pos 0;
  tool = 0;
  line = 0;
}

pub one_of : (a m : Move) → Contains (a ∷ []) m → a ≡ m
one_of a m (zero, h, e) = e
one_of a m (suc n, h, e) = absurd (omega (arith, h))

pub more_moves : (moves : List Move) (k : ℕ) (other m : Move) → k < length moves → m ≡ get_or moves k other → take (k + 1) moves ≡ take k moves ++ m ∷ []
more_moves moves k other m small is = take_more moves k other small ∙ ap (λ (x : Move). take k moves ++ x ∷ []) (sym is)

module _ (g : Grid) (d safe : ℤ) where
  pub none_yet : AreHarmless g d safe []
  none_yet m c there = absurd (none_there m there)

  pub one_harmless : (before : List Move) (m : Move) → AreHarmless g d safe before → (IsLow (safe *ℤ nanometre) m → (c : Cell) → is_struck_by g d m c ≡ true → ⊥) → AreHarmless g d safe (before ++ m ∷ [])
  one_harmless before m harmless none n c there low struck = by_place (Contains-append_cases before (m ∷ []) n there)
    where
      by_place : Contains before n ⊎ Contains (m ∷ []) n → ⊥
      by_place (inl early) = harmless n c early low struck
      by_place (inr last) =
          let same : m ≡ n = one_of m n last in
          none (subst (λ (x : Move). IsLow (safe *ℤ nanometre) x) (sym same) low) c (subst (λ (x : Move). is_struck_by g d x c ≡ true) (sym same) struck)

  pub next_harmless : (moves : List Move) (k : ℕ) (other m : Move) → k < length moves → m ≡ get_or moves k other → AreHarmless g d safe (take k moves)
      → (IsLow (safe *ℤ nanometre) m → (c : Cell) → is_struck_by g d m c ≡ true → ⊥) → AreHarmless g d safe (take (k + 1) moves)
  next_harmless moves k other m small is harmless none = subst (λ (xs : List Move). AreHarmless g d safe xs) (sym (more_moves moves k other m small is)) (one_harmless (take k moves) m harmless none)

  pub all_harmless : (moves : List Move) (k : ℕ) → length moves ≤ k → AreHarmless g d safe (take k moves) → AreHarmless g d safe moves
  all_harmless moves k all harmless = subst (λ (xs : List Move). AreHarmless g d safe xs) (take_all k moves all) harmless

  pub strike_found : (moves : List Move) (k : ℕ) (other m : Move) (c : Cell) → k < length moves → m ≡ get_or moves k other → AreHarmless g d safe (take k moves)
      → IsLow (safe *ℤ nanometre) m → IsFirstCell (is_struck_by g d m) c → IsFirstStrike g d safe moves c m.line
  strike_found moves k other m c small is harmless low first = record {
    before = take k moves;
    move = m;
    rest = drop (k + 1) moves;
    moves_are = sym (take-append-drop k moves) ∙ ap (λ (xs : List Move). take k moves ++ xs) (drop_more moves k other small ∙ ap (λ (x : Move). x ∷ drop (k + 1) moves) (sym is));
    harmless = harmless;
    low = low;
    first = first;
    of_line = refl;
  }
