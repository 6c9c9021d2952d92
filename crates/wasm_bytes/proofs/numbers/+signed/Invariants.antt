use Rattle.wasm_bytes.proofs.numbers.+signed.Given as goal

abbrev pub decreases-signed : goal.decreases-signed
decreases-signed l = l.bits
