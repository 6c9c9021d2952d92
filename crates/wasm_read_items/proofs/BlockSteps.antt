-- Blocks, and sequences with a fault, are read step by step.
use Rattle.base_lists.proofs.Common.{◌≡◌, ℕ, zero, suc, ◌-◌, ◌<◌, ◌≤◌, List, [], ◌∷◌, ◌++◌, length, Ok, Err, Bool, refl, sym, ap, arith, append_assoc}
use Rattle.wasm_bytes.specs.Prelude.{◌>>=◌}
use Rattle.wasm_tree_spec.specs.Prelude.{BlockType, Instr, Nesting}
use Rattle.wasm_read_spec.specs.declared.fault.Fault.{Fault}
use Rattle.wasm_read_spec.specs.declared.fault.Fault.TheVariants.{NoMemory, Malformed, Unsupported, Limit}
use Rattle.wasm_read_spec.specs.declared.token.Opener.{Opener}
use Rattle.wasm_read_spec.specs.declared.token.Token.TheVariants.{Open, Plain}
use Rattle.wasm_read_spec.specs.declared.token.Sequence.{Sequence}
use Rattle.wasm_read_spec.specs.Prelude.{Fails, ReadResult, behind, enclosed}
use Rattle.wasm_read_spec.specs.BodyReading.{after_token, block_at, token_at, sequence_at}
use Rattle.wasm_read_spec.proofs.Loops.{fails_through}

pub behind_fails : (e : Fault) (a : List Instr) (r : ReadResult Sequence) → Fails e r → Fails e (behind a r)
behind_fails NoMemory a r h = tt
behind_fails Malformed a r h = rw h
behind_fails Unsupported a r h = rw h
behind_fails (Limit w) a r h = rw h

pub block_none : (next : ℕ → List ℕ → ReadResult Sequence) (deeper : ℕ) (k : Opener) (ty : BlockType) (bs : List ℕ) → deeper ≡ 0 → block_at next deeper k ty bs ≡ Err (Limit Nesting)
unfolding block_at
block_none next zero k ty bs e = refl
block_none next (suc d) k ty bs e = absurd (omega arith)

block_suc : (next : ℕ → List ℕ → ReadResult Sequence) (deeper d : ℕ) (k : Opener) (ty : BlockType) (bs : List ℕ) → deeper ≡ suc d → block_at next deeper k ty bs ≡ (next d bs >>= enclosed k ty (next d))
unfolding block_at
block_suc next deeper d k ty bs e = rw e

pub block_some : (next : ℕ → List ℕ → ReadResult Sequence) (deeper : ℕ) (k : Opener) (ty : BlockType) (bs : List ℕ) → 0 < deeper → block_at next deeper k ty bs ≡ (next (deeper - 1) bs >>= enclosed k ty (next (deeper - 1)))
block_some next deeper k ty bs h = block_suc next deeper (deeper - 1) k ty bs (omega arith)

module _ (many : Bool) (deeper : ℕ) where
  pub seq_err : (fuel : ℕ) (bs : List ℕ) (e : Fault) → length bs ≤ fuel → Fails e (token_at many bs) → Fails e (sequence_at many fuel deeper bs)
  unfolding sequence_at token_at
  seq_err zero [] e enough h = fails_through e (Err Malformed) (λ _. Err Malformed) h
  seq_err zero (b ∷ bs) e enough h = absurd (omega arith)
  seq_err (suc fuel) bs e enough h = fails_through e (token_at many bs) _ h

  pub seq_open_err : (fuel : ℕ) (bs rest : List ℕ) (k : Opener) (ty : BlockType) (e : Fault) → length bs ≤ fuel → token_at many bs ≡ Ok (Open k ty, rest) → length rest < length bs →
      ((f : ℕ) → length rest ≤ f → Fails e (block_at (sequence_at many f) deeper k ty rest)) → Fails e (sequence_at many fuel deeper bs)
  unfolding sequence_at
  seq_open_err zero bs rest k ty e enough h less block = absurd (omega arith)
  seq_open_err (suc fuel) bs rest k ty e enough h less block = rw h (fails_through e _ _ (block fuel (omega arith)))

  -- ---- with the instructions that were read before in front

  item_behind : (items : List Instr) (i : Instr) (r : ReadResult Sequence) → behind items (behind (i ∷ []) r) ≡ behind (items ++ i ∷ []) r
  item_behind items i (Ok r) = ap (λ xs. Ok (record { items = xs; by_else = r.0.by_else }, r.1)) (sym (append_assoc items (i ∷ []) r.0.items))
  item_behind items i (Err e) = refl

  module _ (left : ℕ) (items : List Instr) (i : Instr) (bs rest : List ℕ) (all : ReadResult Sequence) (step : all ≡ (token_at many bs >>= (λ t. after_token (sequence_at many left) deeper t.0 t.1))) where
    pub plain_step : token_at many bs ≡ Ok (Plain i, rest) → behind items all ≡ behind (items ++ i ∷ []) (sequence_at many left deeper rest)
    plain_step h = rw (step, h) (item_behind items i (sequence_at many left deeper rest))

    pub open_step : (k : Opener) (ty : BlockType) (after : List ℕ) → token_at many bs ≡ Ok (Open k ty, rest) → block_at (sequence_at many left) deeper k ty rest ≡ Ok (i, after) →
        behind items all ≡ behind (items ++ i ∷ []) (sequence_at many left deeper after)
    open_step k ty after h b = rw (step, h, b) (item_behind items i (sequence_at many left deeper after))
