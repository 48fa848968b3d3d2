-- Cells that deep moves mark, one move after the other.
use Rattle.std.proofs.Common.{◌≡◌, ◌⊎◌, inl, inr, ℕ, ◌+◌, ◌<◌, ◌≤◌, ℤ, true, ◌||◌, List, [], ◌∷◌, ◌++◌, take, get_or, length, refl, sym, ap, subst, ◌∙◌, arith}
use Rattle.std.specs.List.{Contains}
use Rattle.std.proofs.lemmas.List.{take_all}
use Rattle.std.proofs.lemmas.List.Elements.{Contains-append_cases, Contains-append_left, Contains-append_right}
use Rattle.number_laws.proofs.Tests.{left_true, right_true, either as either_true}
use Rattle.board_base.specs.declared.places.Cell.{Cell}
use Rattle.board_base.specs.declared.places.Point.{Point}
use Rattle.board_base.specs.declared.places.Move.{Move}
use Rattle.board_base.specs.Lattice.{centre_of}
use Rattle.board_base.specs.Near.{near_of}
use Rattle.cell_grid.specs.declared.frames.Frame.{Frame}
use Rattle.cell_grid.specs.Grid.{Grid}
use Rattle.cell_grid.specs.Place.{InFrame}
use Rattle.cell_grid.specs.Cells.{in_plane}
use Rattle.program_check.specs.Deep.{Surface, IsDeepOver, point_under}
use Rattle.side_check.specs.Struck.{IsPassedOver, MarksDeep}
use Rattle.side_check.proofs.StrikeLaws.{one_of, more_moves}

-- a cell that a move passes is passed by a list that begins or ends with it
passed_first : (over : Surface) (work pitch d : ℤ) (m : Move) (c : Cell) → IsPassedOver over work pitch d (m ∷ []) c
    → IsDeepOver over work m × (near_of (centre_of pitch c) (point_under m.from) (point_under m.to) d ≡ true)
passed_first over work pitch d m c (n, there, deep, near) =
    let same : m ≡ n = one_of m n there in
    (subst (λ (x : Move). IsDeepOver over work x) (sym same) deep, subst (λ (x : Move). near_of (centre_of pitch c) (point_under x.from) (point_under x.to) d ≡ true) (sym same) near)

passed_before : (over : Surface) (work pitch d : ℤ) (before : List Move) (m : Move) (c : Cell) → IsPassedOver over work pitch d before c → IsPassedOver over work pitch d (before ++ m ∷ []) c
passed_before over work pitch d before m c p = (p.0, Contains-append_left before (m ∷ []) p.0 p.1, p.2, p.3)

passed_last : (over : Surface) (work pitch d : ℤ) (before : List Move) (m : Move) (c : Cell) → IsPassedOver over work pitch d (m ∷ []) c → IsPassedOver over work pitch d (before ++ m ∷ []) c
passed_last over work pitch d before m c p = (p.0, Contains-append_right before (m ∷ []) p.0 p.1, p.2, p.3)

passed_cases : (over : Surface) (work pitch d : ℤ) (before : List Move) (m : Move) (c : Cell) → IsPassedOver over work pitch d (before ++ m ∷ []) c
    → IsPassedOver over work pitch d before c ⊎ IsPassedOver over work pitch d (m ∷ []) c
passed_cases over work pitch d before m c (n, there, deep, near) = by_place (Contains-append_cases before (m ∷ []) n there)
  where
    by_place : Contains before n ⊎ Contains (m ∷ []) n → IsPassedOver over work pitch d before c ⊎ IsPassedOver over work pitch d (m ∷ []) c
    by_place (inl early) = inl (n, early, deep, near)
    by_place (inr last) = inr (n, last, deep, near)

-- ---- one move

-- a move that isn't deep marks nothing
pub high_marked : (over : Surface) (work d : ℤ) (m : Move) (g : Grid) → (IsDeepOver over work m → ⊥) → MarksDeep over work d (m ∷ []) g g
high_marked over work d m g high = record {
  rest = refl;
  sound = λ c inside on. inl on;
  stays = λ c inside on. on;
  done = λ c inside passed. absurd (high (passed_first over work g.frame.pitch d m c passed).0);
}

-- a deep one marks what it passes
pub deep_marked : (over : Surface) (work d : ℤ) (m : Move) (a b : Point) (g h : Grid) → a ≡ point_under m.from → b ≡ point_under m.to → IsDeepOver over work m → h ≡ record g { swept = h.swept }
    → ((c : Cell) → InFrame g.frame c → in_plane g.frame h.swept c ≡ (in_plane g.frame g.swept c || near_of (centre_of g.frame.pitch c) a b d)) → MarksDeep over work d (m ∷ []) g h
deep_marked over work d m a b g h from to deep rest marks = record {
  rest = rest;
  sound = λ c inside on. either_true (in_plane g.frame g.swept c) (near_of (centre_of g.frame.pitch c) a b d) (sym (marks c inside) ∙ on) (λ was. inl was)
      (λ near. inr (m, (0, omega arith, refl), deep, sym (there c) ∙ near));
  stays = λ c inside on. marks c inside ∙ left_true (in_plane g.frame g.swept c) (near_of (centre_of g.frame.pitch c) a b d) on;
  done = λ c inside passed. marks c inside ∙ right_true (in_plane g.frame g.swept c) (near_of (centre_of g.frame.pitch c) a b d) (there c ∙ (passed_first over work g.frame.pitch d m c passed).1);
}
  where
    there : (c : Cell) → near_of (centre_of g.frame.pitch c) a b d ≡ near_of (centre_of g.frame.pitch c) (point_under m.from) (point_under m.to) d
    there c = ap (λ (x : Point). near_of (centre_of g.frame.pitch c) x b d) from ∙ ap (λ (x : Point). near_of (centre_of g.frame.pitch c) (point_under m.from) x d) to

-- ---- one after the other

module _ (over : Surface) (work d : ℤ) (start : Grid) where
  pub none_marked : MarksDeep over work d [] start start
  none_marked = record { rest = refl; sound = λ c inside on. inl on; stays = λ c inside on. on; done = λ c inside p. absurd (omega (arith, p.1.1)) }

  then_marked : (before : List Move) (m : Move) (g h : Grid) → MarksDeep over work d before start g → MarksDeep over work d (m ∷ []) g h → MarksDeep over work d (before ++ m ∷ []) start h
  then_marked before m g h p q = record {
    rest = q.rest ∙ ap (λ (x : Grid). record x { swept = h.swept }) p.rest;
    sound = λ c inside on. elim (sound c inside on) as (λ _. (in_plane start.frame start.swept c ≡ true) ⊎ IsPassedOver over work start.frame.pitch d (before ++ m ∷ []) c) [
      | inl was ↦ elim (p.sound c inside was) as (λ _. (in_plane start.frame start.swept c ≡ true) ⊎ IsPassedOver over work start.frame.pitch d (before ++ m ∷ []) c) [
        | inl first ↦ inl first
        | inr by ↦ inr (passed_before over work start.frame.pitch d before m c by)
      ]
      | inr by ↦ inr (passed_last over work start.frame.pitch d before m c by)
    ];
    stays = λ c inside on. stays c inside (p.stays c inside on);
    done = λ c inside passed. elim (passed_cases over work start.frame.pitch d before m c passed) as (λ _. in_plane start.frame h.swept c ≡ true) [
      | inl early ↦ stays c inside (p.done c inside early)
      | inr last ↦ done c inside last
    ];
  }
    where
      frame : g.frame ≡ start.frame
      frame = ap (λ (x : Grid). x.frame) p.rest

      sound : (c : Cell) → InFrame start.frame c → in_plane start.frame h.swept c ≡ true → (in_plane start.frame g.swept c ≡ true) ⊎ IsPassedOver over work start.frame.pitch d (m ∷ []) c
      sound = subst (λ (f : Frame). (c : Cell) → InFrame f c → in_plane f h.swept c ≡ true → (in_plane f g.swept c ≡ true) ⊎ IsPassedOver over work f.pitch d (m ∷ []) c) frame q.sound

      stays : (c : Cell) → InFrame start.frame c → in_plane start.frame g.swept c ≡ true → in_plane start.frame h.swept c ≡ true
      stays = subst (λ (f : Frame). (c : Cell) → InFrame f c → in_plane f g.swept c ≡ true → in_plane f h.swept c ≡ true) frame q.stays

      done : (c : Cell) → InFrame start.frame c → IsPassedOver over work start.frame.pitch d (m ∷ []) c → in_plane start.frame h.swept c ≡ true
      done = subst (λ (f : Frame). (c : Cell) → InFrame f c → IsPassedOver over work f.pitch d (m ∷ []) c → in_plane f h.swept c ≡ true) frame q.done

  pub next_marked : (moves : List Move) (k : ℕ) (other m : Move) (g h : Grid) → k < length moves → m ≡ get_or moves k other → MarksDeep over work d (take k moves) start g → MarksDeep over work d (m ∷ []) g h
      → MarksDeep over work d (take (k + 1) moves) start h
  next_marked moves k other m g h small is p q = subst (λ (xs : List Move). MarksDeep over work d xs start h) (sym (more_moves moves k other m small is)) (then_marked (take k moves) m g h p q)

  pub all_marked : (moves : List Move) (k : ℕ) (g : Grid) → length moves ≤ k → MarksDeep over work d (take k moves) start g → MarksDeep over work d moves start g
  all_marked moves k g all p = subst (λ (xs : List Move). MarksDeep over work d xs start g) (take_all k moves all) p
