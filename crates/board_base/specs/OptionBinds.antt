-- What may be missing, one after another. It stands apart from Binds, since `do` takes the one `>>=` in sight.
use Rattle.std.specs.Prelude.{Option, Some, None}

infixl 10 ◌>>=◌
-- what the next one makes of this one, where both are there
abbrev pub ◌>>=◌ : {A B : Type 0} → Option A → (A → Option B) → Option B
(Some x) >>= f = f x
None >>= f = None
