use Rattle.std.proofs.Common.{◌≡◌, true, take}
use Rattle.wasm_write_spec.specs.PlainValues.{all_funcs}
use Rattle.wasm_write.proofs.segments.all_funcs.Given as goal

abbrev pub invariant-loop-item : goal.invariant-loop-item
invariant-loop-item l = all_funcs (take l.item-index l.items) ≡ true
