-- Where the words of a command are outside its grammar: what is answered, and what putting lines makes of it.
use Rattle.std.proofs.Common.{◌≡◌, ◌⊎◌, ℕ, Result, Ok, Err, inl, inr, sym, ap, ◌∙◌, subst}
use Rattle.board_base.specs.declared.places.Role.TheVariants as roles
use Rattle.board_base.specs.Sink.{SinkState}
use Rattle.endings.specs.declared.status.Status.{Status}
use Rattle.endings.specs.declared.status.Status.TheVariants.{Done, Usage, WriteFault, Memory}
use Rattle.endings.specs.Words.{IsExactUsage}
use Rattle.endings.specs.Works.{ComesBehind, Becomes, BecomesBehind}

-- ---- before any line is put

is_usage : (n word : ℕ) → Usage n ≡ Usage word → n ≡ word
is_usage n word e = cc

-- words that are wrong
pub usage_refused : {A : Type 0} (read : Result A ℕ) (n : ℕ) → read ≡ Err n → IsExactUsage read (Usage n)
usage_refused {A = A} read n e = record {
  only = λ word f. e ∙ ap Err (is_usage n word f);
  comes = λ word f. inl (ap Usage (same n word (sym e ∙ f)));
}
  where
    same : (n word : ℕ) → ◌≡◌ {A = Result A ℕ} (Err n) (Err word) → n ≡ word
    same n word e = cc

-- words that are right
pub usage_accepted : {A : Type 0} (read : Result A ℕ) (x : A) (status : Status) → read ≡ Ok x → ((word : ℕ) → status ≡ Usage word → ⊥) → IsExactUsage read status
usage_accepted {A = A} read x status e other = record {
  only = λ word f. absurd (other word f);
  comes = λ word f. absurd (apart x word (sym e ∙ f));
}
  where
    apart : (x : A) (word : ℕ) → ◌≡◌ {A = Result A ℕ} (Ok x) (Err word) → ⊥
    apart x word e = cc

-- ---- once lines are put

-- no line makes another status a Usage
memory_apart : (word : ℕ) → Memory ≡ Usage word → ⊥
memory_apart word e = cc

fault_apart : (word : ℕ) → WriteFault roles.Lines ≡ Usage word → ⊥
fault_apart word e = cc

-- Done is no answer to wrong words
done_apart : (word : ℕ) → (Done ≡ Usage word) ⊎ (Done ≡ Memory) → ⊥
done_apart word (inl e) = cc
done_apart word (inr e) = cc

-- once the line of a refusal is put
pub usage_told : {A : Type 0} (read : Result A ℕ) (status result : Status) (k l : SinkState) → IsExactUsage read status → Becomes status result k l → IsExactUsage read result
usage_told read status result k l usage (inl is) = subst (IsExactUsage read) (sym is) usage
usage_told read status result k l usage (inr (inl is)) = record {
  only = λ word e. absurd (memory_apart word (sym is ∙ e));
  comes = λ word e. inr is;
}
usage_told read status result k l usage (inr (inr f)) = record {
  only = λ word e. absurd (fault_apart word (sym f.1 ∙ e));
  comes = λ word e. absurd (done_apart word (subst (λ s. (s ≡ Usage word) ⊎ (s ≡ Memory)) f.0 (usage.comes word e)));
}

-- once the lines of a run are put
pub usage_behind : {A : Type 0} (read : Result A ℕ) (status result : Status) (k l : SinkState) → ComesBehind status → IsExactUsage read Done → BecomesBehind status result k l → IsExactUsage read result
usage_behind read status result k l comes usage becomes = record {
  only = λ word e. absurd (by_case word e becomes);
  comes = λ word e. absurd (done_apart word (usage.comes word e));
}
  where
    by_case : (word : ℕ) → result ≡ Usage word → BecomesBehind status result k l → ⊥
    by_case word e (inl is) = subst ComesBehind (sym is ∙ e) comes
    by_case word e (inr (inl is)) = memory_apart word (sym is ∙ e)
    by_case word e (inr (inr f)) = fault_apart word (sym f.0 ∙ e)
