-- The moves of an embedder, computed: it extends its own tables and memories, passes and calls its
-- own functions and those that it was shown, and makes moves that are not taken.
use Rattle.base_lists.proofs.Common.{◌≡◌, refl, [], ◌∷◌, Some, None, true, false}
use Rattle.wasm_tree.specs.declared.types.RefType.TheVariants as reft
use Rattle.wasm_tree.specs.declared.types.ValType.TheVariants as valt
use Rattle.wasm_tree.specs.declared.instr.Instr.{out-Instr}
use Rattle.wasm_tree.specs.declared.instr.Instr.TheVariants as i
use Rattle.wasm_tree.specs.declared.module.ImportDesc.TheVariants as im
use Rattle.wasm_tree.specs.declared.module.ExportDesc.TheVariants as ex
use Rattle.wasm_tree_spec.specs.Prelude.{ValType, Module}
use Rattle.wasm_num.specs.Operations.{wrapped, un_from, un_to, un_value, bin_from, bin_to, bin_value}
use Rattle.wasm_meaning.specs.Access.{load_to, load_width, loaded, store_from, stored}
use Rattle.wasm_meaning.specs.Prelude.{Environment, Shown, Number, Null, OwnFunc, ExternNumber, Function, World, Linked, Returned, Trapped, Asked, Got, Done, BadMove, Call, Invoke, Take, Answer, Refuse, Grant, Deny, Get, Size, Set, Extend, TableOf, MemoryOf, GlobalOf, Named, events}
use Rattle.wasm_meaning.proofs.SmallRuns.{f, g, e, m, i32, to_i32, empty, code, num, gives, plain, own, importing}

-- ---- modules, worlds and environments ----

-- An environment with a memory of no page and a table of one null, which may grow by one each.
abbrev room : Environment
room = record {
  pair = (e, m);
  funcs = [];
  table = Some (record { ty = reft.Func; limits = record { min = 1; max = Some 2 }; entries = Null ∷ [] });
  memory = Some (record { limits = record { min = 0; max = Some 1 }; pages = 0; bytes = [] });
  global = None;
} ∷ []

-- A module that gives the size of that memory.
abbrev sizing : World
sizing = plain (record (gives (i.MemorySize 0 ∷ [])) { imports = record { «module» = e; field = m; desc = im.Memory (record { min = 0; max = Some 1 }) } ∷ [] })

-- An environment with an immutable global that is 3.
abbrev fixed : Environment
fixed = record { pair = (e, m); funcs = []; table = None; memory = None; global = Some (record { ty = record { ty = i32; mutable = false }; value = Number 3 }) } ∷ []

-- A world whose view has the environment's function g of e as it is, and a function that gives 5.
abbrev around : World
around = record { parts = record { name = None; «module» = importing (num 5 ∷ []) } ∷ []; view = (g, record { part = 0; what = ex.Func 0 }) ∷ ((f, record { part = 0; what = ex.Func 1 }) ∷ []) }

-- The environment's function g of e, as a value.
abbrev its_own : Shown
its_own = OwnFunc (e, g) to_i32

-- In this module, f calls the function that it gets, through a table, and g gives 5.
abbrev applying : Module
applying = record empty {
  types = record { params = valt.Ref reft.Func ∷ []; results = i32 ∷ [] } ∷ (to_i32 ∷ []);
  funcs = code 0 (num 0 ∷ (i.LocalGet 0 ∷ (i.TableSet 0 ∷ (num 0 ∷ (i.CallIndirect 1 0 ∷ []))))) ∷ (code 1 (num 5 ∷ []) ∷ []);
  tables = record { ty = reft.Func; limits = record { min = 1; max = Some 1 } } ∷ [];
}

abbrev applied : World
applied = record { parts = record { name = None; «module» = applying } ∷ []; view = (f, record { part = 0; what = ex.Func 0 }) ∷ ((g, record { part = 0; what = ex.Func 1 }) ∷ []) }

-- An environment with the function g of e and a table of one null.
abbrev own_and_table : Environment
own_and_table = record { pair = (e, g); funcs = to_i32 ∷ []; table = Some (record { ty = reft.Func; limits = record { min = 1; max = Some 1 }; entries = Null ∷ [] }); memory = None; global = None } ∷ []

-- ---- what is the embedder's own is extended ----

an_extended_memory : events sizing room (Call f [] ∷ (Extend (MemoryOf (e, m)) 1 ∷ (Call f [] ∷ (Get (MemoryOf (e, m)) 65535 ∷ [])))) 25 ≡ Linked ∷ (Returned (Number 0 ∷ []) ∷ (Done ∷ (Returned (Number 1 ∷ []) ∷ (Got (Number 0) ∷ []))))
unfolding out-Instr denote.Hole.Carrier.out wrapped un_from un_to un_value bin_from bin_to bin_value load_to load_width loaded store_from stored
an_extended_memory = refl

a_memory_is_not_extended_past_its_maximum : events sizing room (Extend (MemoryOf (e, m)) 2 ∷ (Size (MemoryOf (e, m)) ∷ [])) 25 ≡ Linked ∷ (BadMove ∷ (Got (Number 0) ∷ []))
unfolding out-Instr denote.Hole.Carrier.out wrapped un_from un_to un_value bin_from bin_to bin_value load_to load_width loaded store_from stored
a_memory_is_not_extended_past_its_maximum = refl

an_extended_table : events (plain (gives (num 5 ∷ []))) room (Extend (TableOf (e, m)) 1 ∷ (Size (TableOf (e, m)) ∷ (Get (TableOf (e, m)) 1 ∷ []))) 25 ≡ Linked ∷ (Done ∷ (Got (Number 2) ∷ (Got Null ∷ [])))
unfolding out-Instr denote.Hole.Carrier.out wrapped un_from un_to un_value bin_from bin_to bin_value load_to load_width loaded store_from stored
an_extended_table = refl

a_table_is_not_extended_past_its_maximum : events (plain (gives (num 5 ∷ []))) room (Extend (TableOf (e, m)) 2 ∷ (Size (TableOf (e, m)) ∷ [])) 25 ≡ Linked ∷ (BadMove ∷ (Got (Number 1) ∷ []))
unfolding out-Instr denote.Hole.Carrier.out wrapped un_from un_to un_value bin_from bin_to bin_value load_to load_width loaded store_from stored
a_table_is_not_extended_past_its_maximum = refl

-- ---- functions as values ----

an_own_function_is_shown_by_its_names : events around own (Take g ∷ (Take f ∷ [])) 25 ≡ Linked ∷ (Got its_own ∷ (Got (Function 0) ∷ []))
unfolding out-Instr denote.Hole.Carrier.out wrapped un_from un_to un_value bin_from bin_to bin_value load_to load_width loaded store_from stored
an_own_function_is_shown_by_its_names = refl

an_own_function_is_passed_and_called : events applied own (Call f (its_own ∷ []) ∷ (Answer (Number 4 ∷ []) ∷ [])) 25 ≡ Linked ∷ (Asked (e, g) to_i32 [] ∷ (Returned (Number 4 ∷ []) ∷ []))
unfolding out-Instr denote.Hole.Carrier.out wrapped un_from un_to un_value bin_from bin_to bin_value load_to load_width loaded store_from stored
an_own_function_is_passed_and_called = refl

an_own_function_that_is_not_offered_is_not_passed : events applied own (Call f (OwnFunc (e, f) to_i32 ∷ []) ∷ []) 25 ≡ Linked ∷ (BadMove ∷ [])
unfolding out-Instr denote.Hole.Carrier.out wrapped un_from un_to un_value bin_from bin_to bin_value load_to load_width loaded store_from stored
an_own_function_that_is_not_offered_is_not_passed = refl

a_table_is_set_to_an_own_function : events (plain (gives (num 5 ∷ []))) own_and_table (Get (TableOf (e, g)) 0 ∷ (Set (TableOf (e, g)) 0 its_own ∷ (Get (TableOf (e, g)) 0 ∷ []))) 25 ≡ Linked ∷ (Got Null ∷ (Done ∷ (Got its_own ∷ [])))
unfolding out-Instr denote.Hole.Carrier.out wrapped un_from un_to un_value bin_from bin_to bin_value load_to load_width loaded store_from stored
a_table_is_set_to_an_own_function = refl

a_function_is_passed_back : events applied [] (Take g ∷ (Call f (Function 0 ∷ []) ∷ [])) 25 ≡ Linked ∷ (Got (Function 0) ∷ (Returned (Number 5 ∷ []) ∷ []))
unfolding out-Instr denote.Hole.Carrier.out wrapped un_from un_to un_value bin_from bin_to bin_value load_to load_width loaded store_from stored
a_function_is_passed_back = refl

a_function_that_was_not_shown_is_not_passed : events applied [] (Take g ∷ (Call f (Function 1 ∷ []) ∷ [])) 25 ≡ Linked ∷ (Got (Function 0) ∷ (BadMove ∷ []))
unfolding out-Instr denote.Hole.Carrier.out wrapped un_from un_to un_value bin_from bin_to bin_value load_to load_width loaded store_from stored
a_function_that_was_not_shown_is_not_passed = refl

-- ---- external references ----

abbrev externref : ValType
externref = valt.Ref reft.Extern

-- A module whose f gives back the external reference that it gets.
abbrev gives_back : Module
gives_back = record empty { types = record { params = externref ∷ []; results = externref ∷ [] } ∷ []; funcs = code 0 (i.LocalGet 0 ∷ []) ∷ [] }

a_null_is_passed_as_an_extern_reference : events (plain gives_back) [] (Call f (Null ∷ []) ∷ (Call f (ExternNumber 0 ∷ []) ∷ [])) 25 ≡ Linked ∷ (Returned (Null ∷ []) ∷ (Returned (ExternNumber 0 ∷ []) ∷ []))
unfolding out-Instr denote.Hole.Carrier.out wrapped un_from un_to un_value bin_from bin_to bin_value load_to load_width loaded store_from stored
a_null_is_passed_as_an_extern_reference = refl

-- An environment with a table of two external references, and a global that is one.
abbrev externs : Environment
externs = record {
  pair = (e, m);
  funcs = [];
  table = Some (record { ty = reft.Extern; limits = record { min = 2; max = Some 2 }; entries = Null ∷ (ExternNumber 7 ∷ []) });
  memory = None;
  global = Some (record { ty = record { ty = externref; mutable = true }; value = Null });
} ∷ []

an_own_table_of_extern_references : events (plain gives_back) externs (Get (TableOf (e, m)) 0 ∷ (Get (TableOf (e, m)) 1 ∷ (Set (TableOf (e, m)) 0 (ExternNumber 8) ∷ (Set (TableOf (e, m)) 1 Null ∷ (Get (TableOf (e, m)) 0 ∷ (Get (TableOf (e, m)) 1 ∷ (Set (TableOf (e, m)) 1 (Number 8) ∷ []))))))) 25 ≡
    Linked ∷ (Got Null ∷ (Got (ExternNumber 7) ∷ (Done ∷ (Done ∷ (Got (ExternNumber 8) ∷ (Got Null ∷ (BadMove ∷ [])))))))
unfolding out-Instr denote.Hole.Carrier.out wrapped un_from un_to un_value bin_from bin_to bin_value load_to load_width loaded store_from stored
an_own_table_of_extern_references = refl

an_own_global_of_an_extern_reference : events (plain gives_back) externs (Get (GlobalOf (e, m)) 0 ∷ (Set (GlobalOf (e, m)) 0 (ExternNumber 8) ∷ (Get (GlobalOf (e, m)) 0 ∷ []))) 25 ≡ Linked ∷ (Got Null ∷ (Done ∷ (Got (ExternNumber 8) ∷ [])))
unfolding out-Instr denote.Hole.Carrier.out wrapped un_from un_to un_value bin_from bin_to bin_value load_to load_width loaded store_from stored
an_own_global_of_an_extern_reference = refl

-- ---- an own function that the embedder calls ----

the_embedder_calls_its_own_function : events around own (Call g [] ∷ (Answer (Number 4 ∷ []) ∷ [])) 5 ≡ Linked ∷ (Asked (e, g) to_i32 [] ∷ (Returned (Number 4 ∷ []) ∷ []))
unfolding out-Instr denote.Hole.Carrier.out wrapped un_from un_to un_value bin_from bin_to bin_value load_to load_width loaded store_from stored
the_embedder_calls_its_own_function = refl

its_end_is_a_step_of_its_own : events around own (Call g [] ∷ (Answer (Number 4 ∷ []) ∷ [])) 4 ≡ Linked ∷ (Asked (e, g) to_i32 [] ∷ [])
unfolding out-Instr denote.Hole.Carrier.out wrapped un_from un_to un_value bin_from bin_to bin_value load_to load_width loaded store_from stored
its_end_is_a_step_of_its_own = refl

the_embedder_refuses_its_own_call : events around own (Call g [] ∷ (Refuse ∷ (Call f [] ∷ []))) 25 ≡ Linked ∷ (Asked (e, g) to_i32 [] ∷ (Trapped ∷ (Returned (Number 5 ∷ []) ∷ [])))
unfolding out-Instr denote.Hole.Carrier.out wrapped un_from un_to un_value bin_from bin_to bin_value load_to load_width loaded store_from stored
the_embedder_refuses_its_own_call = refl

-- ---- moves that are not taken ----

an_immutable_global_is_not_set : events (plain (gives (num 5 ∷ []))) fixed (Set (GlobalOf (e, m)) 0 (Number 4) ∷ (Get (GlobalOf (e, m)) 0 ∷ (Get (GlobalOf (e, m)) 1 ∷ (Size (GlobalOf (e, m)) ∷ [])))) 25 ≡ Linked ∷ (BadMove ∷ (Got (Number 3) ∷ (BadMove ∷ (Got (Number 1) ∷ []))))
unfolding out-Instr denote.Hole.Carrier.out wrapped un_from un_to un_value bin_from bin_to bin_value load_to load_width loaded store_from stored
an_immutable_global_is_not_set = refl

an_unknown_number_is_not_invoked : events (plain (gives (num 5 ∷ []))) [] (Invoke 0 [] ∷ (Call f [] ∷ [])) 25 ≡ Linked ∷ (BadMove ∷ (Returned (Number 5 ∷ []) ∷ []))
unfolding out-Instr denote.Hole.Carrier.out wrapped un_from un_to un_value bin_from bin_to bin_value load_to load_width loaded store_from stored
an_unknown_number_is_not_invoked = refl

nothing_waits : events (plain (gives (num 5 ∷ []))) [] (Grant ∷ (Deny ∷ (Answer [] ∷ (Refuse ∷ (Call f [] ∷ []))))) 25 ≡ Linked ∷ (BadMove ∷ (BadMove ∷ (BadMove ∷ (BadMove ∷ (Returned (Number 5 ∷ []) ∷ [])))))
unfolding out-Instr denote.Hole.Carrier.out wrapped un_from un_to un_value bin_from bin_to bin_value load_to load_width loaded store_from stored
nothing_waits = refl

a_function_is_no_place : events (plain (gives (num 5 ∷ []))) [] (Get (Named f) 0 ∷ (Size (Named f) ∷ (Set (Named f) 0 (Number 1) ∷ (Extend (Named f) 0 ∷ (Call f [] ∷ []))))) 25 ≡ Linked ∷ (BadMove ∷ (BadMove ∷ (BadMove ∷ (BadMove ∷ (Returned (Number 5 ∷ []) ∷ [])))))
unfolding out-Instr denote.Hole.Carrier.out wrapped un_from un_to un_value bin_from bin_to bin_value load_to load_width loaded store_from stored
a_function_is_no_place = refl
