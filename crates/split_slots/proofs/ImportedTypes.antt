-- The loop that collects the types of imported functions, one import at a time.
use Rattle.base_lists.proofs.Common.{◌≡◌, ℕ, ◌+◌, ◌<◌, List, [], ◌∷◌, ◌++◌, take, length, get_or, sym, ap, ◌∙◌, cons_option, take_more, filter_map-append}
use Rattle.wasm_tree_spec.specs.Prelude.{Import, func_of, imported_funcs}

pub imported_more : (imports : List Import) (k : ℕ) (x : Import) → k < length imports → x ≡ get_or imports k x → imported_funcs (take (k + 1) imports) ≡ imported_funcs (take k imports) ++ cons_option (func_of x.desc) []
imported_more imports k x lt is =
    ap imported_funcs (take_more imports k x lt ∙ ap (λ y. take k imports ++ y ∷ []) (sym is)) ∙ filter_map-append (λ i. func_of i.desc) (take k imports) (x ∷ [])
