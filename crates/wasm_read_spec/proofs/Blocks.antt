-- Blocks and sequences are read step by step.
use Rattle.base_lists.proofs.Common.{◌≡◌, ℕ, zero, suc, ◌<◌, ◌≤◌, List, [], ◌∷◌, ◌++◌, length, Ok, Err, true, false, Bool, refl, sym, ap, arith, append_assoc}
use Rattle.wasm_tree_spec.specs.Prelude.{BlockType, Instr}
use Rattle.wasm_read_spec.specs.declared.token.Opener.{Opener}
use Rattle.wasm_read_spec.specs.declared.token.Token.TheVariants.{Open, Else, End, Plain}
use Rattle.wasm_read_spec.specs.declared.token.Sequence.{Sequence}
use Rattle.wasm_read_spec.specs.Prelude.{ReadResult, behind}
use Rattle.wasm_read_spec.specs.BodyReading.{block_at, token_at, sequence_at, TokenByToken}

pub token_by_token : TokenByToken
unfolding sequence_at token_at
token_by_token many zero deeper [] enough = (zero, omega arith, refl)
token_by_token many zero deeper (b ∷ bs) enough = absurd (omega arith)
token_by_token many (suc fuel) deeper bytes enough = (fuel, omega arith, refl)

pub behind_none : (r : ReadResult Sequence) → behind [] r ≡ r
behind_none (Ok r) = refl
behind_none (Err e) = refl

pub behind_behind : (a b : List Instr) (r : ReadResult Sequence) → behind a (behind b r) ≡ behind (a ++ b) r
behind_behind a b (Ok r) = ap (λ xs. Ok (record { items = xs; by_else = r.0.by_else }, r.1)) (sym (append_assoc a b r.0.items))
behind_behind a b (Err e) = refl

module _ (many : Bool) (deeper : ℕ) where
  pub seq_end : (fuel : ℕ) (bs rest : List ℕ) → length bs ≤ fuel → token_at many bs ≡ Ok (End, rest) → sequence_at many fuel deeper bs ≡ Ok (record { items = []; by_else = false }, rest)
  unfolding sequence_at token_at
  seq_end zero [] rest enough h = cc
  seq_end zero (b ∷ bs) rest enough h = absurd (omega arith)
  seq_end (suc fuel) bs rest enough h = rw h

  pub seq_else : (fuel : ℕ) (bs rest : List ℕ) → length bs ≤ fuel → token_at many bs ≡ Ok (Else, rest) → sequence_at many fuel deeper bs ≡ Ok (record { items = []; by_else = true }, rest)
  unfolding sequence_at token_at
  seq_else zero [] rest enough h = cc
  seq_else zero (b ∷ bs) rest enough h = absurd (omega arith)
  seq_else (suc fuel) bs rest enough h = rw h

  pub seq_plain : (fuel : ℕ) (bs rest : List ℕ) (i : Instr) → length bs ≤ fuel → token_at many bs ≡ Ok (Plain i, rest) → length rest < length bs →
      (m : ℕ) × (length rest ≤ m) × (sequence_at many fuel deeper bs ≡ behind (i ∷ []) (sequence_at many m deeper rest))
  unfolding sequence_at token_at
  seq_plain zero [] rest i enough h less = absurd (omega arith)
  seq_plain zero (b ∷ bs) rest i enough h less = absurd (omega arith)
  seq_plain (suc fuel) bs rest i enough h less = (fuel, omega arith, rw h)

  pub seq_open : (fuel : ℕ) (bs rest after : List ℕ) (k : Opener) (ty : BlockType) (i : Instr) → length bs ≤ fuel → token_at many bs ≡ Ok (Open k ty, rest) → length rest < length bs →
      ((f : ℕ) → length rest ≤ f → block_at (sequence_at many f) deeper k ty rest ≡ Ok (i, after)) → length after ≤ length rest →
      (m : ℕ) × (length after ≤ m) × (sequence_at many fuel deeper bs ≡ behind (i ∷ []) (sequence_at many m deeper after))
  unfolding sequence_at
  seq_open zero bs rest after k ty i enough h less block shrunk = absurd (omega arith)
  seq_open (suc fuel) bs rest after k ty i enough h less block shrunk = (fuel, omega arith, rw (h, block fuel (omega arith)))
