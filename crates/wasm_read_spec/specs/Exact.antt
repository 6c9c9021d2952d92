-- Readers that find what is encoded and small, and nothing else.
use Rattle.std.specs.Prelude.{◌≡◌, ℕ, List, [], ◌∷◌, ◌++◌, Result, Ok}
use Rattle.wasm_bytes.specs.Prelude.{Takes, IsBytes}

-- What is read in front of bytes is encoded there and small, and the rest is left. What is encoded
-- and small is read, whatever follows it.
pub record Exact {A E : Type 0} (spells : List ℕ → A → Type 0) (small : A → Type 0) (reader : List ℕ → Result (A × List ℕ) E) : Type 0 where
  pub sound : (bytes : List ℕ) (x : A) (rest : List ℕ) → IsBytes bytes → reader bytes ≡ Ok (x, rest) → Takes spells bytes x rest × small x
  pub complete : (text rest : List ℕ) (x : A) → spells text x → small x → reader (text ++ rest) ≡ Ok (x, rest)

-- Each item is small in the state that those before it lead to.
abbrev pub Along : {A : Type 0} → (ℕ → A → Type 0) → (ℕ → A → ℕ) → ℕ → List A → Type 0
Along S next state [] = Unit {0}
Along S next state (x ∷ xs) = S state x × Along S next (next state x) xs
