-- Watchers that were shown no move find what their bounds say.
use Rattle.std.proofs.Common.{◌≡◌, refl, ℕ, ◌<◌, ◌^◌, List, [], ◌∷◌, length, map, Option, None, ap, ◌∙◌}
use Rattle.std.specs.List.{All, AllByRecursion}
use Rattle.std.proofs.lemmas.List.Elements.{recursion_from_All}
use Rattle.board_base.specs.declared.places.Move.{Move}
use Rattle.move_watch.specs.declared.bounds.Limits.{Limits}
use Rattle.move_watch.specs.Watch.{Watch, fresh, IsFresh}
use Rattle.move_watch.specs.Watched.{watched, findings_from, FindingsLaw}
use Rattle.simulation.specs.Simulated.{findings_in}

-- a watcher that was shown no move
fresh_is : (l : Limits) (seen : ℕ) (first : Option ℕ) → seen ≡ 0 → first ≡ None → ◌≡◌ {A = Watch} (record { limits = l; seen = seen; first = first }) (fresh l)
fresh_is l seen first e f = rw (e, f) refl

all_fresh : {B : Type 0} (watch : B → Watch) (bs : List B) → AllByRecursion (λ b. IsFresh (watch b)) bs → map watch bs ≡ map fresh (map (λ b. (watch b).limits) bs)
all_fresh watch [] h = refl
all_fresh watch (b ∷ bs) h =
    ap (λ w. w ∷ map watch bs) (fresh_is (watch b).limits (watch b).seen (watch b).first h.0.seen h.0.first)
    ∙ ap (λ ws. fresh (watch b).limits ∷ ws) (all_fresh watch bs h.1)

pub all_found : {B : Type 0} (watch : B → Watch) (bs : List B) (moves : List Move) (ws : List Watch) → FindingsLaw → All (λ b. IsFresh (watch b)) bs → length moves < 2 ^ 64 → ws ≡ map watch bs
    → findings_from 0 (watched moves ws) ≡ findings_in (map (λ b. (watch b).limits) bs) moves
all_found watch bs moves ws law h few is =
    ap (λ ws. findings_from 0 (watched moves ws)) (is ∙ all_fresh watch bs (recursion_from_All (λ b. IsFresh (watch b)) bs h))
    ∙ ap (findings_from 0) (law moves (map (λ b. (watch b).limits) bs) few)
