-- The meetings of islands and classes are noted, cell by cell.
use Rattle.std.proofs.Common.{◌≡◌, ◌≢◌, ◌⊎◌, inl, inr, ℕ, zero, suc, ◌+◌, ◌<◌, Bool, true, false, not, cond, List, [], ◌∷◌, ◌++◌, length, set, replicate, get_or, refl, sym, ap, subst, ◌∙◌, arith, get_or-set_same, get_or-set_other}
use Rattle.std.proofs.lemmas.List.{length-set, length_push, map-append, length-replicate}
use Rattle.std.proofs.Math.ListN.{get_or-append}
use Rattle.std.proofs.Math.Seq.{get_or-append_seam}
use Rattle.std.proofs.lemmas.Grind.{get_or_default_zero}
use Rattle.std.proofs.lemmas.Bool.{cases_eq}
use Rattle.number_laws.proofs.Tests.{by_bool, cond_true, cond_false, not_true, not_false}
use Rattle.board_base.specs.declared.places.Cell.{Cell}
use Rattle.cell_grid.specs.declared.frames.Frame.{Frame}
use Rattle.cell_grid.specs.Place.{InFrame, place_of, cell_of_place}
use Rattle.cell_grid.specs.Grid.{Grid}
use Rattle.cell_grid.specs.Cells.{in_frame}
use Rattle.cell_sets.specs.Chains.{IsClasses}
use Rattle.cell_grid.proofs.PlaceLaws.{place_same, cell_of_place-place_of}
use Rattle.cell_grid.proofs.CellsLaws.{in_frame_true}
use Rattle.separation_check.specs.declared.meetings.Meeting.{Meeting}
use Rattle.separation_check.specs.Unswept.{is_unswept, island_of, class_of}
use Rattle.separation_check.specs.Meetings.{islands_of, classes_of, IsMet, IsNoted, AreMeetings}
use Rattle.separation_check.specs.Grouping.{at}
use Rattle.separation_check.proofs.Tables.{rising_push, islands_len, classes_len}

at_old : (xs : List ℕ) (y a : ℕ) → a < length xs → at (xs ++ y ∷ []) a ≡ at xs a
at_old xs y a l = get_or-append xs (y ∷ []) 0 a l

at_new : (xs : List ℕ) (y n : ℕ) → n ≡ length xs → at (xs ++ y ∷ []) n ≡ y
at_new xs y n e = ap (λ (i : ℕ). at (xs ++ y ∷ []) i) e ∙ get_or-append_seam xs y [] 0

zeros_at : (n u : ℕ) → at (replicate n 0) u ≡ 0
zeros_at zero u = refl
zeros_at (suc n) zero = refl
zeros_at (suc n) (suc u) = zeros_at n u

module _ (f : Frame) (free : Cell → Bool) (number class : Cell → ℕ) where
  met_as : (p u k p' u' k' : ℕ) → IsMet f free number class p u k → p' ≡ p → u' ≡ u → k' ≡ k → IsMet f free number class p' u' k'
  met_as p u k p' u' k' m e g h =
      subst (λ (x : ℕ). IsMet f free number class x u' k') (sym e) (subst (λ (x : ℕ). IsMet f free number class p x k') (sym g) (subst (λ (x : ℕ). IsMet f free number class p u x) (sym h) m))

  -- a cell of the frame, by its place
  met_here : (c : Cell) (n : ℕ) → InFrame f c → place_of f c ≡ n → free c ≡ true → 0 < number c → IsMet f free number class n (number c) (class c)
  met_here c n h place k s =
      let e : cell_of_place f n ≡ c = ap (cell_of_place f) (sym place) ∙ cell_of_place-place_of f c h in
      record {
        inside = ap (in_frame f) e ∙ in_frame_true f c h;
        place_is = ap (place_of f) e ∙ place;
        free_there = ap free e ∙ k;
        some = s;
        number_is = ap number e;
        class_is = ap class e;
      }

  pub met_none : (islands classes : List ℕ) → islands ≡ [] → classes ≡ [] → AreMeetings f free number class islands classes 0
  met_none islands classes e g = record {
    places = [];
    same_islands = ap length e;
    same_classes = ap length g;
    ascending = λ k l. absurd (omega (arith, l));
    below = λ a l. absurd (omega (arith, l));
    each = λ a l. absurd (omega (arith, l));
    whole = λ c h l. absurd (omega (arith, l));
  }

  module _ (islands classes : List ℕ) (n : ℕ) (p : AreMeetings f free number class islands classes n) (c : Cell) (h : InFrame f c) (place : place_of f c ≡ n) where
    -- the cell at n needs no entry of its own
    pub met_skip : (free c ≡ true → 0 < number c → IsNoted f number class p.places islands classes c) → AreMeetings f free number class islands classes (n + 1)
    met_skip found = record {
      places = p.places;
      same_islands = p.same_islands;
      same_classes = p.same_classes;
      ascending = p.ascending;
      below = λ a l. omega (arith, p.below a l);
      each = p.each;
      whole = λ d k l fr s. elim (cases_eq (place_of f d) n) as (λ _. IsNoted f number class p.places islands classes d) [
        | inl e ↦
            let same : c ≡ d = place_same f c d h k (place ∙ sym e) in
            subst (IsNoted f number class p.places islands classes) same (found (ap free same ∙ fr) (subst (λ (x : Cell). 0 < number x) (sym same) s))
        | inr ne ↦ p.whole d k (omega (arith, l, ne)) fr s
      ];
    }

    -- or it gets one
    pub met_push : free c ≡ true → 0 < number c → AreMeetings f free number class (islands ++ number c ∷ []) (classes ++ class c ∷ []) (n + 1)
    met_push fr some =
        let len = length_push p.places n in
        let new_island = at_new islands (number c) (length p.places) (sym p.same_islands) in
        let new_class = at_new classes (class c) (length p.places) (sym p.same_classes) in
        let new_place = at_new p.places n (length p.places) refl in
        record {
          places = p.places ++ n ∷ [];
          same_islands = omega (arith, length_push islands (number c), len, p.same_islands);
          same_classes = omega (arith, length_push classes (class c), len, p.same_classes);
          ascending = rising_push p.places n p.ascending (λ x m. let e : at p.places m.0 ≡ x = sym (get_or_default_zero p.places m.0 x m.1) ∙ m.2 in omega (arith, e, p.below m.0 m.1));
          below = λ a l. elim (cases_eq a (length p.places)) as (λ _. at (p.places ++ n ∷ []) a < n + 1) [
            | inl e ↦ omega (arith, ap (λ (x : ℕ). at (p.places ++ n ∷ []) x) e, new_place)
            | inr ne ↦ let a_in : a < length p.places = omega (arith, l, ne, len) in omega (arith, at_old p.places n a a_in, p.below a a_in)
          ];
          each = λ a l. elim (cases_eq a (length p.places)) as (λ _. IsMet f free number class (at (p.places ++ n ∷ []) a) (at (islands ++ number c ∷ []) a) (at (classes ++ class c ∷ []) a)) [
            | inl e ↦
                met_as n (number c) (class c) (at (p.places ++ n ∷ []) a) (at (islands ++ number c ∷ []) a) (at (classes ++ class c ∷ []) a) (met_here c n h place fr some)
                (ap (λ (x : ℕ). at (p.places ++ n ∷ []) x) e ∙ new_place) (ap (λ (x : ℕ). at (islands ++ number c ∷ []) x) e ∙ new_island)
                (ap (λ (x : ℕ). at (classes ++ class c ∷ []) x) e ∙ new_class)
            | inr ne ↦
                let a_in : a < length p.places = omega (arith, l, ne, len) in
                met_as (at p.places a) (at islands a) (at classes a) (at (p.places ++ n ∷ []) a) (at (islands ++ number c ∷ []) a) (at (classes ++ class c ∷ []) a) (p.each a a_in)
                (at_old p.places n a a_in) (at_old islands (number c) a (omega (arith, a_in, p.same_islands))) (at_old classes (class c) a (omega (arith, a_in, p.same_classes)))
          ];
          whole = λ d k l fr_d s. elim (cases_eq (place_of f d) n) as (λ _. IsNoted f number class (p.places ++ n ∷ []) (islands ++ number c ∷ []) (classes ++ class c ∷ []) d) [
            | inl e ↦
                let same : c ≡ d = place_same f c d h k (place ∙ sym e) in
                record {
                  at = length p.places;
                  at_in = omega (arith, len);
                  early = omega (arith, new_place, e);
                  island = new_island ∙ ap number same;
                  of_class = new_class ∙ ap class same;
                }
            | inr ne ↦
                let q = p.whole d k (omega (arith, l, ne)) fr_d s in
                record {
                  at = q.at;
                  at_in = omega (arith, len, q.at_in);
                  early = omega (arith, at_old p.places n q.at q.at_in, q.early);
                  island = at_old islands (number c) q.at (omega (arith, q.at_in, p.same_islands)) ∙ q.island;
                  of_class = at_old classes (class c) q.at (omega (arith, q.at_in, p.same_classes)) ∙ q.of_class;
                }
          ];
        }

  -- the meetings before place n, with the class that each island met last
  pub record IsCollecting (ms : List Meeting) (last : List ℕ) (n : ℕ) : Type 0 where
    pub met : AreMeetings f free number class (islands_of ms) (classes_of ms) n
    pub len : length last ≡ 65536
    pub last_met : (u : ℕ) → 0 < at last u → (a : ℕ) × ((a < length ms) × (at (islands_of ms) a ≡ u) × (at (classes_of ms) a ≡ at last u))

  pub collecting_begun : (ms : List Meeting) (last : List ℕ) → ms ≡ [] → last ≡ replicate 65536 0 → IsCollecting ms last 0
  collecting_begun ms last e g = record {
    met = met_none (islands_of ms) (classes_of ms) (ap islands_of e) (ap classes_of e);
    len = ap length g ∙ length-replicate {A = ℕ} 65536 0;
    last_met = λ u s. absurd (omega (arith, s, ap (λ (x : List ℕ). at x u) g, zeros_at 65536 u));
  }

  meeting : ℕ → ℕ → Meeting
  meeting i k = record { island = i; class = k }

  -- one cell more, by what `note` says of it
  pub collecting_on : (ms ms' : List Meeting) (last last' : List ℕ) (n i k : ℕ) (c : Cell) → IsCollecting ms last n → InFrame f c → place_of f c ≡ n → i < 65536 → k ≡ class c
      → (free c ≡ true → i ≡ number c) → (free c ≡ false → i ≡ 0) → (free c ≡ true → 0 < class c)
      → ((i ≡ 0) ⊎ (at last i ≡ k) → (ms' ≡ ms) × (last' ≡ last))
      → (i ≢ 0 → at last i ≢ k → (ms' ≡ ms ++ record { island = i; class = k } ∷ []) × (last' ≡ set last i k))
      → IsCollecting ms' last' (n + 1)
  collecting_on ms ms' last last' n i k c p h place small class_is free_island other_island some_class skipped added =
      elim (cases_eq i 0) as (λ _. IsCollecting ms' last' (n + 1)) [
        | inl none ↦
            let e = skipped (inl none) in
            kept e.0 e.1 (met_skip (islands_of ms) (classes_of ms) n p.met c h place (λ fr s. absurd (omega (arith, s, none, free_island fr))))
        | inr some ↦
            let fr : free c ≡ true = by_bool (free c) (λ e. e) (λ e. absurd (some (other_island e))) in
            let number_is : i ≡ number c = free_island fr in
            elim (cases_eq (at last i) k) as (λ _. IsCollecting ms' last' (n + 1)) [
              | inl again ↦
                  let e = skipped (inr again) in
                  let q = p.last_met i (omega (arith, again, class_is, some_class fr)) in
                  let a_in : q.0 < length p.met.places = omega (arith, q.1.0, islands_len ms, p.met.same_islands) in
                  kept e.0 e.1 (met_skip (islands_of ms) (classes_of ms) n p.met c h place (λ fr s. record {
                    at = q.0;
                    at_in = a_in;
                    early = omega (arith, p.met.below q.0 a_in, place);
                    island = q.1.1 ∙ number_is;
                    of_class = q.1.2 ∙ again ∙ class_is;
                  }))
              | inr new ↦ let e = added some new in pushed fr number_is some e.0 e.1
            ]
      ]
    where
      kept : ms' ≡ ms → last' ≡ last → AreMeetings f free number class (islands_of ms) (classes_of ms) (n + 1) → IsCollecting ms' last' (n + 1)
      kept e g m = subst (λ (x : List Meeting). IsCollecting x last' (n + 1)) (sym e) (subst (λ (x : List ℕ). IsCollecting ms x (n + 1)) (sym g) (record { met = m; len = p.len; last_met = p.last_met }))

      pushed : free c ≡ true → i ≡ number c → i ≢ 0 → ms' ≡ ms ++ record { island = i; class = k } ∷ [] → last' ≡ set last i k → IsCollecting ms' last' (n + 1)
      pushed fr number_is some e g =
          let islands : islands_of ms' ≡ islands_of ms ++ i ∷ [] = ap islands_of e ∙ map-append (λ (m : Meeting). m.island) ms (record { island = i; class = k } ∷ []) in
          let classes : classes_of ms' ≡ classes_of ms ++ k ∷ [] = ap classes_of e ∙ map-append (λ (m : Meeting). m.class) ms (record { island = i; class = k } ∷ []) in
          let more : length ms' ≡ length ms + 1 = ap length e ∙ length_push ms (record { island = i; class = k }) in
          let new_island : at (islands_of ms') (length ms) ≡ i = ap (λ (x : List ℕ). at x (length ms)) islands ∙ at_new (islands_of ms) i (length ms) (sym (islands_len ms)) in
          let new_class : at (classes_of ms') (length ms) ≡ k = ap (λ (x : List ℕ). at x (length ms)) classes ∙ at_new (classes_of ms) k (length ms) (sym (classes_len ms)) in
          record {
            met =
                subst (λ (x : List ℕ). AreMeetings f free number class x (classes_of ms') (n + 1)) (ap (λ (v : ℕ). islands_of ms ++ v ∷ []) (sym number_is) ∙ sym islands)
                (subst (λ (x : List ℕ). AreMeetings f free number class (islands_of ms ++ number c ∷ []) x (n + 1)) (ap (λ (v : ℕ). classes_of ms ++ v ∷ []) (sym class_is) ∙ sym classes)
                (met_push (islands_of ms) (classes_of ms) n p.met c h place fr (omega (arith, number_is, some))));
            len = ap length g ∙ length-set last i k ∙ p.len;
            last_met = λ u s. elim (cases_eq u i) as (λ _. (a : ℕ) × ((a < length ms') × (at (islands_of ms') a ≡ u) × (at (classes_of ms') a ≡ at last' u))) [
              | inl same ↦
                  let mark : at last' u ≡ k = ap (λ (x : List ℕ). at x u) g ∙ ap (λ (x : ℕ). at (set last i k) x) same ∙ get_or-set_same last i k 0 (omega (arith, small, p.len)) in
                  (length ms, (omega (arith, more), new_island ∙ sym same, new_class ∙ sym mark))
              | inr ne ↦
                  let mark : at last' u ≡ at last u = ap (λ (x : List ℕ). at x u) g ∙ get_or-set_other last i u k 0 ne in
                  let q = p.last_met u (omega (arith, s, mark)) in (
                    q.0,
                    (
                      omega (arith, q.1.0, more),
                      ap (λ (x : List ℕ). at x q.0) islands ∙ at_old (islands_of ms) i q.0 (omega (arith, q.1.0, islands_len ms)) ∙ q.1.1,
                      ap (λ (x : List ℕ). at x q.0) classes ∙ at_old (classes_of ms) k q.0 (omega (arith, q.1.0, classes_len ms)) ∙ q.1.2 ∙ sym mark,
                    ),
                  )
            ];
          }

-- what a grid says of a cell of its frame
pub swept_in : (g : Grid) (c : Cell) → in_frame g.frame c ≡ true → is_unswept g c ≡ not (get_or g.swept (place_of g.frame c) false)
swept_in g c i = ap not (cond_true (in_frame g.frame c) (get_or g.swept (place_of g.frame c) false) false i)

pub island_in : (g : Grid) (c : Cell) → in_frame g.frame c ≡ true → island_of g c ≡ at g.labels (place_of g.frame c)
island_in g c i = cond_true (in_frame g.frame c) (at g.labels (place_of g.frame c)) 0 i

pub class_in : (g : Grid) (c : Cell) → in_frame g.frame c ≡ true → class_of g c ≡ at g.works (place_of g.frame c)
class_in g c i = cond_true (in_frame g.frame c) (at g.works (place_of g.frame c)) 1 i

-- one cell of the grid more
pub noted : (g : Grid) (frame : Frame) (ms ms' : List Meeting) (last last' : List ℕ) (n i k : ℕ) (c : Cell) → IsClasses (is_unswept g) (class_of g) → frame ≡ g.frame
    → IsCollecting g.frame (is_unswept g) (island_of g) (class_of g) ms last n → InFrame frame c → place_of frame c ≡ n → i < 65536
    → i ≡ cond (get_or g.swept (place_of g.frame c) false) 0 (at g.labels (place_of g.frame c)) → k ≡ at g.works (place_of g.frame c)
    → ((i ≡ 0) ⊎ (at last i ≡ k) → (ms' ≡ ms) × (last' ≡ last))
    → (i ≢ 0 → at last i ≢ k → (ms' ≡ ms ++ record { island = i; class = k } ∷ []) × (last' ≡ set last i k))
    → IsCollecting g.frame (is_unswept g) (island_of g) (class_of g) ms' last' (n + 1)
noted g frame ms ms' last last' n i k c classes same p h place small island class_is skipped added =
    let h' : InFrame g.frame c = subst (λ (f : Frame). InFrame f c) same h in
    let inside = in_frame_true g.frame c h' in
    let swept = get_or g.swept (place_of g.frame c) false in
    let label = at g.labels (place_of g.frame c) in
    let free_is : is_unswept g c ≡ not swept = swept_in g c inside in
    collecting_on g.frame (is_unswept g) (island_of g) (class_of g) ms ms' last last' n i k c p h' (ap (λ (f : Frame). place_of f c) (sym same) ∙ place) small
    (class_is ∙ sym (class_in g c inside))
    (λ free. island ∙ cond_false swept 0 label (not_true swept (sym free_is ∙ free)) ∙ sym (island_in g c inside))
    (λ off. island ∙ cond_true swept 0 label (not_false swept (sym free_is ∙ off)))
    (λ free. classes.some c free) skipped added
