-- What one put leaves.
use Rattle.std.proofs.Common.{◌≡◌, ℕ, List, Option, Result, Ok, Err, OnOk, IsErrOf, length, take, refl, sym, ap, ◌∙◌}
use Rattle.std.proofs.Math.Seq.{take-length}
use Rattle.board_base.specs.Sink.{appended, AppendsPrefix}
use Rattle.board_base.specs.declared.sink.SinkError.{SinkError}
use Rattle.board_base.specs.declared.sink.SinkError.TheVariants.{Failed, Memory}
use Rattle.endings.proofs.TellLaws.{appended_nothing}

-- the whole, a prefix, or nothing
pub put_prefix : (r : Result (Unit {0}) SinkError) (bytes : List ℕ) (before now : Option (List ℕ)) → OnOk r (now ≡ appended bytes before)
    → (IsErrOf r Failed → AppendsPrefix bytes before now) → (IsErrOf r Memory → now ≡ before) → AppendsPrefix bytes before now
put_prefix (Ok u) bytes before now whole part same = (length bytes, whole ∙ ap (λ l. appended l before) (sym (take-length bytes)))
put_prefix (Err Failed) bytes before now whole part same = part refl
put_prefix (Err Memory) bytes before now whole part same = (0, same refl ∙ sym (appended_nothing before))
