-- The corners of a cut, one step after another.
use Rattle.std.proofs.Common.{◌≡◌, ℕ, ◌+◌, ◌<◌, ◌≤◌, ℤ, ◌-ℤ◌, Bool, true, false, ◌&&◌, cond, List, [], ◌∷◌, ◌++◌, length, get_or, drop, sym, ap, ◌∙◌, append_assoc, append-nil}
use Rattle.std.specs.List.{All}
use Rattle.std.specs.Ordering.{int_eq}
use Rattle.std.proofs.lemmas.List.{drop_more, drop_all}
use Rattle.std.proofs.lemmas.List.Elements.{All-cons, All-nil, All-head, All-tail}
use Rattle.board_base.specs.declared.places.Point.{Point}
use Rattle.board_base.specs.Places.{IsPlace}
use Rattle.mill_program.specs.declared.cuts.Corner.{Corner}
use Rattle.outline_bridges.specs.declared.steps.Step.{Step}
use Rattle.outline_bridges.specs.declared.steps.Lifting.{Lifting}
use Rattle.outline_bridges.specs.Steps.{steps_from, steps_along, step_of, HasPlaces}
use Rattle.outline_bridges.specs.Corners.{corner_at, is_straight_on, corners_between, corners_behind}

pub between_heights : (s t : Step) (cut mid end : List Corner) → int_eq s.z t.z ≡ false → mid ≡ cut ++ corner_at s.to s.z ∷ [] → end ≡ mid ++ corner_at s.to t.z ∷ [] → end ≡ cut ++ corners_between s t
unfolding corners_between
between_heights s t cut mid end e f g =
    g ∙ ap (λ (cs : List Corner). cs ++ corner_at s.to t.z ∷ []) f ∙ append_assoc cut (corner_at s.to s.z ∷ []) (corner_at s.to t.z ∷ [])
    ∙ ap (λ (b : Bool). cut ++ cond b (cond (is_straight_on s t) [] (corner_at s.to s.z ∷ [])) (corner_at s.to s.z ∷ corner_at s.to t.z ∷ [])) (sym e)

pub between_ways : (s t : Step) (cut end : List Corner) → int_eq s.z t.z ≡ true → is_straight_on s t ≡ false → end ≡ cut ++ corner_at s.to s.z ∷ [] → end ≡ cut ++ corners_between s t
unfolding corners_between
between_ways s t cut end e f g =
    g ∙ ap (λ (b : Bool). cut ++ cond b [] (corner_at s.to s.z ∷ [])) (sym f)
    ∙ ap (λ (b : Bool). cut ++ cond b (cond (is_straight_on s t) [] (corner_at s.to s.z ∷ [])) (corner_at s.to s.z ∷ corner_at s.to t.z ∷ [])) (sym e)

pub between_none : (s t : Step) (cut : List Corner) → int_eq s.z t.z ≡ true → is_straight_on s t ≡ true → cut ≡ cut ++ corners_between s t
unfolding corners_between
between_none s t cut e f =
    sym (append-nil cut) ∙ ap (λ (b : Bool). cut ++ cond b [] (corner_at s.to s.z ∷ [])) (sym f)
    ∙ ap (λ (b : Bool). cut ++ cond b (cond (is_straight_on s t) [] (corner_at s.to s.z ∷ [])) (corner_at s.to s.z ∷ corner_at s.to t.z ∷ [])) (sym e)

pub corners_on : (all cut now : List Corner) (last : Step) (rest : List Step) (i : ℕ) (d : Step) → i < length rest → cut ++ corners_behind last (drop i rest) ≡ all → now ≡ cut ++ corners_between last (get_or rest i d)
    → now ++ corners_behind (get_or rest i d) (drop (i + 1) rest) ≡ all
corners_on all cut now last rest i d h e f =
    ap (λ (cs : List Corner). cs ++ corners_behind (get_or rest i d) (drop (i + 1) rest)) f ∙ append_assoc cut (corners_between last (get_or rest i d)) (corners_behind (get_or rest i d) (drop (i + 1) rest))
    ∙ ap (λ (ss : List Step). cut ++ corners_behind last ss) (sym (drop_more rest i d h)) ∙ e

pub corners_done : (all cut now : List Corner) (last : Step) (rest : List Step) (i : ℕ) → length rest ≤ i → cut ++ corners_behind last (drop i rest) ≡ all → now ≡ cut ++ corner_at last.to last.z ∷ [] → now ≡ all
corners_done all cut now last rest i h e f = f ∙ ap (λ (ss : List Step). cut ++ corners_behind last ss) (sym (drop_all i rest h)) ∙ e

-- ---- places

steps_placed : (l : Lifting) (bridges : List Point) (u : Point) (vs : List Point) → IsPlace u → All IsPlace vs → All HasPlaces (steps_from l bridges u vs)
steps_placed l bridges u [] p h = All-nil HasPlaces
steps_placed l bridges u (v ∷ vs) p h =
    let q : IsPlace v = All-head IsPlace v vs h in
    All-cons HasPlaces (step_of l bridges u v) (steps_from l bridges v vs) (record { from_in = p; to_in = q }) (steps_placed l bridges v vs q (All-tail IsPlace v vs h))

pub along_placed : (l : Lifting) (bridges points : List Point) → All IsPlace points → All HasPlaces (steps_along l bridges points)
along_placed l bridges [] h = All-nil HasPlaces
along_placed l bridges (u ∷ []) h =
    let p : IsPlace u = All-head IsPlace u [] h in All-cons HasPlaces (step_of l bridges u u) [] (record { from_in = p; to_in = p }) (All-nil HasPlaces)
along_placed l bridges (u ∷ v ∷ vs) h = steps_placed l bridges u (v ∷ vs) (All-head IsPlace u (v ∷ vs) h) (All-tail IsPlace u (v ∷ vs) h)

pub straight_by : (s t : Step) (r along across : Bool) (a b c d : ℤ) → r ≡ (along && across) → along ≡ int_eq a b → across ≡ int_eq c d
    → a ≡ (s.to).x -ℤ (s.from).x → b ≡ (t.to).x -ℤ (t.from).x → c ≡ (s.to).y -ℤ (s.from).y → d ≡ (t.to).y -ℤ (t.from).y → r ≡ is_straight_on s t
unfolding is_straight_on
straight_by s t r along across a b c d e f g ea eb ec ed =
    e ∙ (λ i. f i && g i) ∙ (λ i. int_eq (ea i) (eb i) && int_eq (ec i) (ed i))
