-- The sizes of the index spaces, from the numbers of imports and of definitions.
use Rattle.base_lists.proofs.Common.{◌≡◌, ◌∙◌, sym, ap, arith, ◌+◌, List, length, map, length-append, length-map, places_many}
use Rattle.wasm_tree_spec.specs.Prelude.{Functions, Tables, Memories, Globals, Import, Module, func_of, table_of, memory_of, global_of, imported_funcs, imported_tables, imported_memories, imported_globals, funcs_of, tables_of, memories_of, globals_of}
use Rattle.wasm_meaning.specs.Prelude.{places, has_kind}
use Rattle.merge_join.specs.LinkedParts.{space_size}

-- The number of imported entries of an index space is the number of places of its imports.
functions_many : (is : List Import) → length (places (has_kind Functions) is 0) ≡ length (imported_funcs is)
functions_many is = places_many (has_kind Functions) (λ i. func_of i.desc) is (λ i. grind arith) 0

tables_many : (is : List Import) → length (places (has_kind Tables) is 0) ≡ length (imported_tables is)
tables_many is = places_many (has_kind Tables) (λ i. table_of i.desc) is (λ i. grind arith) 0

memories_many : (is : List Import) → length (places (has_kind Memories) is 0) ≡ length (imported_memories is)
memories_many is = places_many (has_kind Memories) (λ i. memory_of i.desc) is (λ i. grind arith) 0

globals_many : (is : List Import) → length (places (has_kind Globals) is 0) ≡ length (imported_globals is)
globals_many is = places_many (has_kind Globals) (λ i. global_of i.desc) is (λ i. grind arith) 0

pub funcs_size : (m : Module) → length (funcs_of m) ≡ space_size Functions m
funcs_size m =
    length-append (imported_funcs m.imports) (map (λ f. f.ty) m.funcs) ∙ ap (λ n. n + length (map (λ f. f.ty) m.funcs)) (sym (functions_many m.imports))
    ∙ ap (λ n. length (places (has_kind Functions) m.imports 0) + n) (length-map m.funcs (λ f. f.ty))

pub tables_size : (m : Module) → length (tables_of m) ≡ space_size Tables m
tables_size m =
    length-append (imported_tables m.imports) m.tables ∙ ap (λ n. n + length m.tables) (sym (tables_many m.imports))

pub memories_size : (m : Module) → length (memories_of m) ≡ space_size Memories m
memories_size m =
    length-append (imported_memories m.imports) m.mems ∙ ap (λ n. n + length m.mems) (sym (memories_many m.imports))

pub globals_size : (m : Module) → length (globals_of m) ≡ space_size Globals m
globals_size m =
    length-append (imported_globals m.imports) (map (λ g. g.ty) m.globals) ∙ ap (λ n. n + length (map (λ g. g.ty) m.globals)) (sym (globals_many m.imports))
    ∙ ap (λ n. length (places (has_kind Globals) m.imports 0) + n) (length-map m.globals (λ g. g.ty))
