use Rattle.base_lists.proofs.Common.{◌≡◌, ◌<◌, ◌-◌, ℕ, Some, cond, slice_get}
use Rattle.base_lists.specs.Options.{◌>>=◌}
use Rattle.eval_machine.specs.Prelude.{item_slot, is_within, filled_at}
use Rattle.eval_machine.proofs.slots.Slots.copy_items.Given as goal

abbrev pub invariant-loop-i : goal.invariant-loop-i
invariant-loop-i l =
    (t p : ℕ) → p < 4294967296 → filled_at l.self t p ≡ cond (is_within l.table l.place l.i t p) (slice_get l.items (p - l.place) >>= λ x. Some (item_slot x)) (filled_at l.initial.self t p)
