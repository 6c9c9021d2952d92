use Rattle.wasm_bytes.proofs.SignedShortest.{size}
use Rattle.wasm_bytes.proofs.spelled.+push_signed.Given as goal

abbrev pub decreases-push_signed : goal.decreases-push_signed
decreases-push_signed l = size l.value
