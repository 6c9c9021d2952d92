use Rattle.wasm_write.proofs.numbers.+spell_signed.Given as goal

abbrev pub decreases-spell_signed : goal.decreases-spell_signed
decreases-spell_signed g l = l.most
