use Rattle.base_lists.proofs.Common.{◌≡◌, ℕ, List, is_some, take, list_any, bytes_eq}
use Rattle.std.specs.HashMap.{get_by}
use Rattle.split_slots.proofs.taken_export_names.export_names.Given as goal

abbrev pub invariant-loop-export : goal.invariant-loop-export
invariant-loop-export l = (q : List ℕ) → is_some (get_by (λ k. bytes_eq q k.now) l.taken) ≡ list_any (λ e. bytes_eq e.name q) (take l.export-index l.exports)
