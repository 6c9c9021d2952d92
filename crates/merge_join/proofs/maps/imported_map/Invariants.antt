use Rattle.base_lists.proofs.Common.{◌≡◌, map, take, length}
use Rattle.wasm_meaning.specs.Prelude.{numbers, places, has_kind}
use Rattle.merge_spec.specs.Prelude.{named_modules, new_index}
use Rattle.merge_join.proofs.maps.imported_map.Given as goal

abbrev pub invariant-loop-place : goal.invariant-loop-place
invariant-loop-place l = l.map ≡ map (new_index (named_modules l.into.parts.now) l.part l.into.space) (numbers 0 (length (places (has_kind l.into.space) (take l.place l.imports) 0)))
