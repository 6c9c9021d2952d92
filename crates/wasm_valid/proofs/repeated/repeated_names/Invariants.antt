use Rattle.base_lists.proofs.Common.{◌≡◌, ℕ, List, [], ◌++◌, map, take, drop, is_some, get_by, slice_cmp, nat_cmp, list_any, bytes_eq}
use Rattle.wasm_valid.specs.Names.{repeats_after}
use Rattle.wasm_valid.proofs.repeated.repeated_names.Given as goal

abbrev pub invariant-loop-export : goal.invariant-loop-export
invariant-loop-export l = record {
  known : (text : List ℕ) → is_some (get_by (λ k. slice_cmp nat_cmp text k.now) l.names) ≡ list_any (bytes_eq text) (map (λ e. e.name) (take l.export-index l.exports));
  joined : l.all.items ++ repeats_after (map (λ e. e.name) (take l.export-index l.exports)) (map (λ e. e.name) (drop l.export-index l.exports)) ≡ repeats_after [] (map (λ e. e.name) l.exports);
}
