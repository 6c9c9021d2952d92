use Rattle.std.proofs.Common.{◌≡◌, map, take, unwrap_or}
use Rattle.wasm_meaning.specs.Linking.{first_place}
use Rattle.wasm_tree.specs.SameTypes.{same_func_type}
use Rattle.merge_join.proofs.maps.type_map.Given as goal

abbrev pub invariant-loop-ty : goal.invariant-loop-ty
invariant-loop-ty l = l.map ≡ map (λ t. unwrap_or (first_place (same_func_type t) l.all.list 0) 0) (take l.ty-index l.types)
