use Rattle.base_lists.proofs.Common.{◌≤◌, ℕ, [], arith, length, map, slice_get, sym, ◌∙◌, nat_lt, option_and_then, option_map_or, le-ltb}
use Rattle.std.specs.Prelude.{sum}
use Rattle.std.proofs.lemmas.List.{at_drop_all}
use Rattle.split_slots.proofs.fault_checks.too_many_params.Goals as goal

pub returns : goal.returns
returns c =
    let left = c.loop-func.left in
    let count = λ (func : ℕ). length (option_map_or (λ t. t.params) (option_and_then (slice_get c.args.types.now) (slice_get c.args.func_types.now func)) []) in
    let end : length c.args.moved.now ≤ c.loop-func.func-index = omega (arith, c.loop-func-test.false) in
    sym (c.loop-func.invariant ∙ at_drop_all (λ xs. nat_lt left (sum (map count xs))) c.args.moved.now c.loop-func.func-index end ∙ le-ltb left 0 (omega arith))
