use Rattle.std.proofs.Common.{◌≡◌, false, filter, take, slice_get, unwrap_or}
use Rattle.split_slots.proofs.needed_trampolines.marked_among.Given as goal

abbrev pub invariant-loop-func : goal.invariant-loop-func
invariant-loop-func l = l.all ≡ filter (λ func. unwrap_or (slice_get l.marks func) false) (take l.func-index l.funcs)
