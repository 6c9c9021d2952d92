use Rattle.std.proofs.Common.{◌≡◌, ◌*◌, map}
use Rattle.base_lists.specs.Places.{numbers}
use Rattle.wasm_gen.specs.Draws.{draw}
use Rattle.wasm_gen.specs.Modules.{first_func}
use Rattle.wasm_gen.proofs.first.first_funcs.Given as goal

abbrev pub invariant-loop : goal.invariant-loop
invariant-loop l = (l.all ≡ map (first_func l.initial.state) (numbers 0 l.counter)) × (l.state ≡ draw l.initial.state (l.counter * 2))
