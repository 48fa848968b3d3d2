-- What putting the lines of a command that is done leaves of its clauses.
use Rattle.std.proofs.Common.{◌≡◌, ◌≢◌, ◌⊎◌, [], inl, inr, sym, subst}
use Rattle.board_base.specs.declared.places.Role.{Role}
use Rattle.board_base.specs.declared.places.Role.TheVariants as roles
use Rattle.board_base.specs.Counts.{Rose}
use Rattle.board_base.specs.Files.{Files}
use Rattle.board_base.specs.Shelf.{ShelfState}
use Rattle.board_base.specs.Sink.{SinkState}
use Rattle.endings.specs.declared.status.Status.{Status}
use Rattle.endings.specs.declared.status.Status.TheVariants.{Done, ReadFault, WriteFault}
use Rattle.endings.specs.Answers.{IfTold}
use Rattle.endings.specs.Ending.{Ending, Command}
use Rattle.endings.specs.Reads.{Reading, held_in}
use Rattle.endings.specs.Run.{IsAnswer, Answers}
use Rattle.endings.specs.Works.{BecomesBehind}
use Rattle.endings.proofs.RunLaws.{PutsOk, told_weaker}

-- no refusal is Done
pub refusal_puts : (ends : Command) (status : Status) → (status ≡ Done → ⊥) → status ≡ Done → PutsOk ends
refusal_puts ends status other done = absurd (other done)

-- Done answers endings that are Done alone
is_done : (ends : Command) (files : Files) (e : Ending) (before now : ShelfState) → IsAnswer ends files e Done before now → e.status ≡ Done
is_done ends files e before now (inl is) = sym is
is_done ends files e before now (inr (inl is)) = absurd (cc)
is_done ends files e before now (inr (inr (inl read))) = absurd (not_read read.0 read.1)
  where
    not_read : (role : Role) → Done ≡ ReadFault role → ⊥
    not_read role e = cc
is_done ends files e before now (inr (inr (inr write))) = absurd (not_written write.0 write.1)
  where
    not_written : (role : Role) → Done ≡ WriteFault role → ⊥
    not_written role e = cc

-- what answers by Done, once its lines are put
pub done_answered : (ends : Command) (result : Status) (before now : ShelfState) (k l : SinkState) → ((given : Reading) (e : Ending) → ends given e → e.status ≡ Done → e.lines ≢ [])
    → IfTold before.files (λ files. (e : Ending) → ends (held_in files) e → IsAnswer ends files e Done before now) → BecomesBehind Done result k l
    → IfTold before.files (λ files. Answers ends files result before now k l)
done_answered ends result before now k l lines answers becomes =
    told_weaker before.files (λ files. (e : Ending) → ends (held_in files) e → IsAnswer ends files e Done before now) (λ files. Answers ends files result before now k l)
    (λ files each e h. answer files e h (each e h) becomes) answers
  where
    answer : (files : Files) (e : Ending) → ends (held_in files) e → IsAnswer ends files e Done before now → BecomesBehind Done result k l
        → IsAnswer ends files e result before now ⊎ ((result ≡ WriteFault roles.Lines) × (e.lines ≢ []) × Rose k.faults l.faults)
    answer files e h is (inl same) = inl (subst (λ s. IsAnswer ends files e s before now) (sym same) is)
    answer files e h is (inr (inl memory)) = inl (inr (inl memory))
    answer files e h is (inr (inr f)) = inr (f.0, lines (held_in files) e h (is_done ends files e before now is), f.1)
