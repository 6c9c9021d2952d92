use Rattle.std.proofs.Common.{ℕ, ◌<◌}
use Rattle.wasm_valid.specs.Validity.{HoldsAt}
use Rattle.wasm_valid.proofs.first.first_of_kind.Given as goal

abbrev pub invariant-loop-place : goal.invariant-loop-place
invariant-loop-place l = (k : ℕ) → k < l.place → HoldsAt l.spaces.module.now l.kind k
