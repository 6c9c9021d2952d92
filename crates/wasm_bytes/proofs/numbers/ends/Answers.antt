use Rattle.std.proofs.Common.{refl}
use Rattle.wasm_bytes.proofs.Sizes.{small_fits}
use Rattle.wasm_bytes.proofs.numbers.ends.Goals as goal

pub returns-then-bits-ge7 : goal.returns-then-bits-ge7
returns-then-bits-ge7 c = (λ _. small_fits _ _ c.requires c.if-bits-ge7.true, λ _. refl)
