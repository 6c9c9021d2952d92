use Rattle.base_lists.proofs.Common.{◌≡◌, ℕ, List, Bool, drop, find, map, list_any, bytes_eq}
use Rattle.split_slots.proofs.taken_export_names.prefix_taken.Given as goal

abbrev pub invariant-loop-export : goal.invariant-loop-export
invariant-loop-export l =
    let has : List ℕ → Bool = λ name. list_any (λ e. bytes_eq e.name name) l.exports in
    find has (map (λ e. e.name) l.added) ≡ find has (map (λ e. e.name) (drop l.export-index l.added))
