-- The parts that are joined and their maps, at a place.
use Rattle.base_lists.proofs.Common.{◌≡◌, ◌∙◌, sym, ap, ℕ, List, length, slice_get, get_or, Some, get_or_from_slice_get}
use Rattle.wasm_tree_spec.specs.Prelude.{Module}
use Rattle.wasm_meaning.specs.Prelude.{Part, module_at}
use Rattle.index_remap.specs.declared.remap.Remap.{Remap}
use Rattle.merge_spec.specs.Prelude.{named_modules, map_of}
use Rattle.merge_join.specs.declared.mapped_parts.MappedParts.{MappedParts}
use Rattle.merge_join.specs.LinkedParts.{HaveTheirMaps}
use Rattle.merge_join.proofs.ByPart.{named_length, each_at, each_length}

pub maps_length : (j : MappedParts) → HaveTheirMaps j → length j.maps.now ≡ length j.parts.now
maps_length j is = ap length is.maps ∙ each_length (map_of (named_modules j.parts.now)) (named_modules j.parts.now) ∙ named_length j.parts.now

pub map_at : (j : MappedParts) (p : ℕ) (m : Module) (d : Remap) → HaveTheirMaps j → module_at (named_modules j.parts.now) p ≡ Some m → get_or j.maps.now p d ≡ map_of (named_modules j.parts.now) p m
map_at j p m d is at =
    let ps = named_modules j.parts.now in
    get_or_from_slice_get j.maps.now p (map_of ps p m) d (ap (λ maps. slice_get maps p) is.maps ∙ each_at (map_of ps) ps p m at)

pub same_module : (ps : List Part) (p : ℕ) (m n : Module) → module_at ps p ≡ Some m → module_at ps p ≡ Some n → m ≡ n
same_module ps p m n h k = let both : Some m ≡ Some n = sym h ∙ k in cc
