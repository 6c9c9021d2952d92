-- What is copied into tables and memories has nothing to do with the functions of a store.
use Rattle.std.specs.Prelude.{◌≡◌, List, Option}
use Rattle.wasm_tree_spec.specs.Prelude.{ConstExpr, Module}
use Rattle.wasm_meaning.specs.Prelude.{Val, Inst, Func, Store, Filled, own_segments}

-- the store with other functions
abbrev pub with_funcs : List Func → Store → Store
with_funcs fs s = record s { funcs = fs }

abbrev pub filled_with : List Func → Filled → Filled
filled_with fs f = record f { store = with_funcs fs f.store }

-- The active segments of a module leave the functions of the store as they were.
abbrev pub SegmentsKeepFunctions : Type 0
SegmentsKeepFunctions = (value : ConstExpr → Option Val) (m : Module) (i : Inst) (s : Store) → (own_segments value m i s).store.funcs ≡ s.funcs

-- They do the same in a store with other functions.
abbrev pub SegmentsIgnoreFunctions : Type 0
SegmentsIgnoreFunctions = (fs : List Func) (value : ConstExpr → Option Val) (m : Module) (i : Inst) (s : Store) → own_segments value m i (with_funcs fs s) ≡ filled_with fs (own_segments value m i s)
