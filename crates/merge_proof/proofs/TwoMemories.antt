-- Examples for the premise on memories: two parts with a memory each have a fault of linking, and
-- their merged module would have two memories; a single part with a memory has neither.
use Rattle.base_lists.proofs.Common.{◌≡◌, false, refl, [], ◌∷◌, List, Some, None, length}
use Rattle.wasm_tree_spec.specs.Prelude.{Module, memories_of}
use Rattle.wasm_meaning.specs.Prelude.{Part}
use Rattle.merge_names.specs.declared.mode.Mode.TheVariants.{Refuse}
use Rattle.merge_spec.specs.declared.faults.LinkFault.TheVariants.{TooManyMemories}
use Rattle.merge_spec.specs.Faults.{link_fault, import_fault, clash_fault, memory_fault, memory_count, global_fault, defined_globals, stays, kept_limits}
use Rattle.merge_spec.specs.Merged.{merged, merged_import, staying, staying_of, merged_types, all_exports, starts, defined_funcs}
use Rattle.merge_spec.specs.Joined.{joined_module}

abbrev with_memory : Module
with_memory = record { types = []; imports = []; funcs = []; tables = []; mems = record { min = 1; max = None } ∷ []; globals = []; exports = []; start = None; elems = []; datas = [] }

abbrev part : Module → Part
part m = record { name = None; «module» = m }

abbrev two : List Part
two = part with_memory ∷ part with_memory ∷ []

two_memories_do_not_link : link_fault two false ≡ Some TooManyMemories
unfolding link_fault import_fault clash_fault kept_limits stays memory_fault memory_count global_fault defined_globals
two_memories_do_not_link = refl

both_would_stay : length (memories_of (joined_module two Refuse)) ≡ 2
unfolding joined_module merged merged_import staying staying_of stays merged_types all_exports starts defined_funcs
both_would_stay = refl

one_memory_links : link_fault (part with_memory ∷ []) false ≡ None
unfolding link_fault import_fault clash_fault kept_limits stays memory_fault memory_count global_fault defined_globals
one_memory_links = refl

and_stays : length (memories_of (joined_module (part with_memory ∷ []) Refuse)) ≡ 1
unfolding joined_module merged merged_import staying staying_of stays merged_types all_exports starts defined_funcs
and_stays = refl
