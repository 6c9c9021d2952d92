-- Chains of calls, each of which may fail.
use Rattle.std.specs.Prelude.{Result, Ok, Err}

-- What `f` gives for the value, if there is one, as `Result::and_then`.
infixl 10 ◌>>=◌
abbrev pub ◌>>=◌ : {A B E : Type 0} → Result A E → (A → Result B E) → Result B E
(Ok x) >>= f = f x
(Err e) >>= f = Err e
