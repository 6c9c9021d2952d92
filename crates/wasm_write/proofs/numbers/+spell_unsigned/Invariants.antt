use Rattle.wasm_write.proofs.numbers.+spell_unsigned.Given as goal

abbrev pub decreases-spell_unsigned : goal.decreases-spell_unsigned
decreases-spell_unsigned g l = l.most
