-- What a load preserves of the relation between a module alone and its split: stores stay related,
-- and the loaded functions are related to the moved ones.
use Rattle.std.specs.Prelude.{◌≡◌, ℕ, suc, ◌+◌, ◌-◌, ◌<◌, true, List, [], ◌∷◌, ◌++◌, length, Some, IsTrue, slice_get, slice_index}
use Rattle.wasm_tree_spec.specs.Prelude.{Space, Functions, Tables, Memories, Globals, Module, imported_funcs, funcs_of, tables_of, memories_of, globals_of}
use Rattle.wasm_tree.specs.declared.module.Func as tree
use Rattle.wasm_meaning.specs.Prelude.{Inst, Store, Environment, new_func, insts_from, Added, primary_added}
use Rattle.run_simulation.specs.Prelude.{AreIndicesRelated, StoreRel, CodeAt}
use Rattle.world_simulation.specs.Prelude.{one}
use Rattle.split_spec.specs.declared.names.SplitNames.{SplitNames}
use Rattle.split_spec.specs.Prelude.{slot_table, is_left, primary_map, HasSlots}
use Rattle.split_proof.specs.SplitWorlds.{type_in, split_world}
use Rattle.split_proof.specs.Addresses.{defined_address, is_partner, slot_table_address, split_pairing}
use Rattle.split_proof.specs.Loads.{IsLoaded}
use Rattle.split_proof.specs.SplitLaws.{CanBeSplit}

-- ---- instances ----

abbrev pub Partnered : Environment → Module → (moved : List ℕ) → Space → ℕ → ℕ → Type 0
Partnered env m moved k a b = IsTrue (is_partner env m moved k a b)

-- Each index in the instance of the module alone, and its entry in the instance of the primary
-- module, name partners, if the primary module has the entity. The slot table and the moved
-- functions are at their addresses.
pub record InstancesAreRelated (env : Environment) (m : Module) (moved : List ℕ) (first primary : Inst) : Type 0 where
  pub first_types : first.types ≡ m.types
  pub types : primary.types ≡ m.types
  pub funcs : (x : ℕ) → x < length (funcs_of m) → is_left m moved x ≡ true → AreIndicesRelated (Partnered env m moved) Functions first.funcs primary.funcs x (slice_index (primary_map m moved).funcs x)
  pub tables : (x : ℕ) → x < length (tables_of m) → AreIndicesRelated (Partnered env m moved) Tables first.tables primary.tables x x
  pub mems : (x : ℕ) → x < length (memories_of m) → AreIndicesRelated (Partnered env m moved) Memories first.mems primary.mems x x
  pub globals : (x : ℕ) → x < length (globals_of m) → AreIndicesRelated (Partnered env m moved) Globals first.globals primary.globals x x
  pub slots : slice_get primary.tables (slot_table m) ≡ Some (slot_table_address env m)
  pub moves : (p f : ℕ) → slice_get moved p ≡ Some f → slice_get first.funcs f ≡ Some (defined_address env m f)

-- The instances are related once both are instantiated.
abbrev pub InstancesOfSplitsAreRelated : Type 0
InstancesOfSplitsAreRelated =
    (namespace : ℕ → List ℕ) (names : SplitNames) (m : Module) (moved : List ℕ) (owns : List (List ℕ)) → CanBeSplit namespace names m moved owns → (env : Environment) (i : Inst) →
    insts_from env (one m) 0 (one m) ≡ Some (i ∷ []) →
    (a : Added) → primary_added env (split_world namespace names m moved owns) ≡ Some a → InstancesAreRelated env m moved i a.inst

-- ---- loaded functions ----

-- for each function of `own` its address in the first store, and then that in the second, where the
-- own functions begin at `from`
abbrev pub loaded_from : Environment → Module → (own : List ℕ) → (from : ℕ) → List (ℕ × ℕ)
loaded_from env m [] from = []
loaded_from env m (func ∷ funcs) from = (defined_address env m func, from) ∷ loaded_from env m funcs (suc from)

-- The stores are related, and each function of `own` is defined in both, in the second at the
-- addresses from `from` on, with its type and with related code.
pub record RelatedAsLoaded (env : Environment) (m : Module) (moved : List ℕ) (loaded : List (ℕ × ℕ)) (own : List ℕ) (from : ℕ) (s t : Store) : Type 0 where
  pub store : StoreRel (split_pairing env m moved loaded) s t
  pub code : (p f : ℕ) → slice_get own p ≡ Some f → CodeAt (split_pairing env m moved loaded) s t (type_in m f) (defined_address env m f) (from + p)

-- A load into the second of two related stores preserves the relation, whatever was loaded before,
-- if the first store has the moved functions as the module defines them. `loaded` then has the
-- functions of this load as well.
abbrev pub LoadsKeepTheRelation : Type 0
LoadsKeepTheRelation =
    (namespace : ℕ → List ℕ) (names : SplitNames) (m : Module) (moved : List ℕ) (owns : List (List ℕ)) → CanBeSplit namespace names m moved owns → (env : Environment) (i j : Inst) →
    InstancesAreRelated env m moved i j →
    (own : List ℕ) (before : ℕ) → HasSlots moved own before → (loaded : List (ℕ × ℕ)) (s z t : Store) (k : Inst) → IsLoaded m moved own before j k z t →
    ((slot func : ℕ) (f : tree.Func) → slice_get moved slot ≡ Some func → slice_get m.funcs (func - length (imported_funcs m.imports)) ≡ Some f → slice_get s.funcs (defined_address env m func) ≡
    new_func i f) → StoreRel (split_pairing env m moved loaded) s z →
    RelatedAsLoaded env m moved (loaded ++ loaded_from env m own (length z.funcs)) own (length z.funcs) s t
