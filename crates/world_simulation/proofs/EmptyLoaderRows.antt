-- A loader that supplies an import begins, while its primary module alone is not linked; a loader
-- that supplies nothing begins as that module.
use Rattle.base_lists.proofs.Common.{◌≡◌, refl, List, [], ◌∷◌, Some, None, Bool, true, false, is_some}
use Rattle.base_lists.specs.Options.{◌>>=◌}
use Rattle.wasm_tree_spec.specs.Prelude.{FuncType, Import, Module}
use Rattle.wasm_tree.specs.declared.module.ImportDesc.TheVariants as im
use Rattle.wasm_meaning.specs.Prelude.{Func, Placeholder, links, instantiate, Secondary, LoaderWorld, begun_under}
use Rattle.world_simulation.specs.EmptyLoaders.{primary_world}
use Rattle.world_simulation.specs.DefinedPlaceholders.{ImportsThemLast, stubbed, placeholders_begun}

abbrev nothing : FuncType
nothing = record { params = []; results = [] }

abbrev importing : List Import → Module
importing imports = record { types = nothing ∷ []; imports = imports; funcs = []; tables = []; mems = []; globals = []; exports = []; start = None; elems = []; datas = [] }

abbrev one_import : Import
one_import = record { «module» = 112 ∷ []; field = 48 ∷ []; desc = im.Func 0 }

-- The loader has a primary module with one import, and these secondary modules.
abbrev loading : List Secondary → LoaderWorld
loading secondaries = record { primary = importing (one_import ∷ []); secondaries = secondaries; import_namespace = []; slot_table = 0; view = [] }

-- A loader with a placeholder for that import.
abbrev a_loader : LoaderWorld
a_loader = loading (record { «module» = importing []; placeholders = ((112 ∷ [], 48 ∷ []), nothing) ∷ [] } ∷ [])

it_is_supplied : is_some (begun_under [] a_loader) ≡ true
it_is_supplied = refl

alone_it_is_not_linked : links [] (primary_world a_loader) ≡ false
alone_it_is_not_linked = refl

-- Neither the loader nor the module begins if the import is not supplied.
it_is_not_supplied : is_some (begun_under [] (loading [])) ≡ false
it_is_not_supplied = refl

nor_is_it_linked : links [] (primary_world (loading [])) ≡ false
nor_is_it_linked = refl

-- The loader and the module begin alike if there is no import.
without_an_import : let w = record (loading []) { primary = importing [] } in begun_under [] w ≡ instantiate [] (primary_world w)
without_an_import = refl

-- ---- a function in place of the placeholder ----

its_placeholder_is_last : ImportsThemLast a_loader [] (0 ∷ [])
its_placeholder_is_last = record { slots = one_import ∷ []; all = refl; own = tt; placeholders = (refl, refl, refl, tt) }

it_begins_as_with_a_function : begun_under [] a_loader ≡ begun_under [] (stubbed a_loader [] (0 ∷ [])) >>= λ b. Some (placeholders_begun [] a_loader b)
it_begins_as_with_a_function = refl

-- The first store has the placeholder itself, the second a function in its place.
abbrev has_placeholder : List Func → Bool
has_placeholder (Placeholder slot ty ∷ fs) = true
has_placeholder fs = false

it_has_the_placeholder : begun_under [] a_loader >>= (λ b. Some (has_placeholder b.store.funcs)) ≡ Some true
it_has_the_placeholder = refl

the_other_has_a_function : begun_under [] (stubbed a_loader [] (0 ∷ [])) >>= (λ b. Some (has_placeholder b.store.funcs)) ≡ Some false
the_other_has_a_function = refl
