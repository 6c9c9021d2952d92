-- Each index that a valid module names is below the number of entries of its index space
-- (WebAssembly Core 2.0, section 3.4).
use Rattle.base_lists.proofs.Common.{ℕ, ◌<◌, ◌≤◌, length, arith, IsTrue, nat_lt, ltb-true, length-numbers}
use Rattle.base_lists.specs.Places.{numbers}
use Rattle.wasm_tree_spec.specs.Prelude.{Module, funcs_of, tables_of, memories_of, globals_of}
use Rattle.wasm_valid.specs.Prelude.{IsValid}
use Rattle.index_remap.specs.declared.remap.Remap.{Remap}
use Rattle.index_remap.specs.Prelude.{fits_tree}
use Rattle.index_remap_proof.specs.Indices.{TreeNamesOnly, with_entry}
use Rattle.index_remap_proof.specs.Trees.{Covers}
use Rattle.world_simulation.specs.Prelude.{IndicesNameImportsOrDefinitions, SpacesAreImportsAndDefinitions}

-- The renumbering that maps each index of the module to itself.
abbrev pub each_index : Module → Remap
each_index m = record {
  types = numbers 0 (length m.types);
  funcs = numbers 0 (length (funcs_of m));
  tables = numbers 0 (length (tables_of m));
  mems = numbers 0 (length (memories_of m));
  globals = numbers 0 (length (globals_of m));
  elems = numbers 0 (length m.elems);
  datas = numbers 0 (length m.datas);
}

as_many : (n : ℕ) → n ≤ length (numbers 0 n)
as_many n = let e = length-numbers 0 n in omega (arith, e)

all_covered : (m : Module) → Covers (each_index m) m
all_covered m = record {
  types = as_many (length m.types);
  funcs = as_many (length (funcs_of m));
  tables = as_many (length (tables_of m));
  memories = as_many (length (memories_of m));
  globals = as_many (length (globals_of m));
  elems = as_many (length m.elems);
  datas = as_many (length m.datas);
}

-- The laws of `renumbering_keeps_typing` of index_remap_proof, and of
-- `index_spaces_list_imports_and_definitions` of world_simulation.
pub record NamingLaws : Type 0 where
  pub entries : (r : Remap) (t : Module) → IsValid t → Covers r t → IsTrue (fits_tree r t)
  pub named : (r : Remap) (t : Module) → IsTrue (fits_tree r t) → TreeNamesOnly (with_entry r) t
  pub spaces : SpacesAreImportsAndDefinitions
  pub indices : IndicesNameImportsOrDefinitions

pub names_there : NamingLaws → (m : Module) → IsValid m → TreeNamesOnly (with_entry (each_index m)) m
names_there laws m valid = laws.named (each_index m) m (laws.entries (each_index m) m valid (all_covered m))

-- An index that has an entry is below the number of entries.
pub below : (size n : ℕ) → IsTrue (nat_lt n (length (numbers 0 size))) → n < size
below size n h = let l = ltb-true n (length (numbers 0 size)) h in let e = length-numbers 0 size in omega (arith, l, e)
