use Rattle.base_lists.proofs.Common.{◌≡◌, [], drop, length, map, slice_get, nat_lt, option_and_then, option_map_or}
use Rattle.std.specs.Prelude.{sum}
use Rattle.wasm_tree_spec.specs.Prelude.{limit, Trampolines}
use Rattle.split_slots.proofs.fault_checks.too_many_params.Given as goal

abbrev pub invariant-loop-func : goal.invariant-loop-func
invariant-loop-func l =
    nat_lt (limit Trampolines) (sum (map (λ func. length (option_map_or (λ t. t.params) (option_and_then (slice_get l.types) (slice_get l.func_types func)) [])) l.moved))
    ≡ nat_lt l.left (sum (map (λ func. length (option_map_or (λ t. t.params) (option_and_then (slice_get l.types) (slice_get l.func_types func)) [])) (drop l.func-index l.moved)))
