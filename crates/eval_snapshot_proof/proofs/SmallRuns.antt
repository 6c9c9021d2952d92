-- Small modules after evaluated constructors, and their snapshots: the traces of both, computed.
use Rattle.base_lists.proofs.Common.{◌≡◌, refl, option_map, rules, ℕ, pos, List, [], ◌∷◌, Some, None, true, false}
use Rattle.wasm_tree_spec.specs.Prelude.{Instr, the_lemmas, I32Store8, FuncType, GlobalType, I32, Ref, ConstExpr, Export, ExportDesc, Func, GlobalDef, Module}
use Rattle.wasm_tree.specs.declared.instr.Instr.{out-Instr}
use Rattle.wasm_tree.specs.declared.instr.Instr.TheVariants as i
use Rattle.wasm_tree.specs.declared.types.RefType.TheVariants.{Func as func_ref}
use Rattle.wasm_tree.specs.declared.module.ConstExpr.TheVariants as const
use Rattle.wasm_tree.specs.declared.module.DataMode.TheVariants as data'
use Rattle.wasm_tree.specs.declared.module.ExportDesc.TheVariants as ex
use Rattle.wasm_tree.specs.declared.module.ImportDesc.TheVariants as im
use Rattle.wasm_num.specs.Operations.{W32, wrapped, signed}
use Rattle.wasm_meaning.specs.Prelude.{Text, Global, Num, Environment, Number, OwnFunc, Begun, alone, Event, Linked, LinkFault, Asked, Returned, Got, Done, BadMove, Move, Call, Answer, Get, Set, Named, events}
use Rattle.wasm_meaning.specs.Access.{store_from, stored, little_bytes}
use Rattle.eval_spec.specs.Prelude.{State, state_at_end}
use Rattle.eval_snapshot_spec.specs.Evaluated.{evaluated_tree}
use Rattle.eval_snapshot_spec.specs.Snapshot.{declared_snapshot}
use Rattle.eval_snapshot_proof.specs.EvaluatedWorlds.{events_evaluated, started_begun}

-- ---- names, types and functions ----

abbrev pub a : Text
a = 97 ∷ []

abbrev pub b : Text
b = 98 ∷ []

abbrev pub c : Text
c = 99 ∷ []

abbrev pub own : Text
own = 111 ∷ 119 ∷ 110 ∷ []

abbrev pub nothing : FuncType
nothing = record { params = []; results = [] }

abbrev pub gives_number : FuncType
gives_number = record { params = []; results = I32 ∷ [] }

-- A module with two types: type 0 has one result, and type 1 has none.
abbrev pub empty : Module
empty = record { types = gives_number ∷ nothing ∷ []; imports = []; funcs = []; tables = []; mems = []; globals = []; exports = []; start = None; elems = []; datas = [] }

abbrev pub gives : List Instr → Func
gives body = record { ty = 0; locals = []; body = body }

abbrev pub does : List Instr → Func
does body = record { ty = 1; locals = []; body = body }

abbrev pub exported : Text → ExportDesc → Export
exported name what = record { name = name; desc = what }

abbrev pub num : ℕ → Instr
num n = i.I32Const (pos n)

abbrev pub mutable_i32 : GlobalType
mutable_i32 = record { ty = I32; mutable = true }

abbrev pub fixed_i32 : GlobalType
fixed_i32 = record { ty = I32; mutable = false }

abbrev pub mutable_ref : GlobalType
mutable_ref = record { ty = Ref func_ref; mutable = true }

abbrev pub global : GlobalType → ConstExpr → GlobalDef
global ty init = record { ty = ty; init = init }

abbrev pub number : ℕ → Event
number n = Returned (Number n ∷ [])

-- ---- a constructor that sets a global ----

-- A module in which a sets the global to 7, b returns its value, and c is the global itself.
abbrev pub setting : Module
setting = record empty {
  funcs = does (num 7 ∷ i.GlobalSet 0 ∷ []) ∷ gives (i.GlobalGet 0 ∷ []) ∷ [];
  globals = global mutable_i32 (const.I32 (pos 0)) ∷ [];
  exports = exported a (ex.Func 0) ∷ exported b (ex.Func 1) ∷ exported c (ex.Global 0) ∷ [];
}

abbrev pub setting_left : Module
setting_left = record setting { globals = global mutable_i32 (const.I32 (pos 7)) ∷ []; exports = exported b (ex.Func 1) ∷ exported c (ex.Global 0) ∷ [] }

pub setting_is_left : evaluated_tree setting (a ∷ []) [] ≡ setting_left
unfolding declared_snapshot out-Instr denote.Hole.Carrier.out wrapped signed
setting_is_left = search (rules, the_lemmas)

abbrev pub seven_is_asked : List Move
seven_is_asked = Call b [] ∷ (Get (Named c) 0 ∷ (Call a [] ∷ []))

abbrev pub seven_is_seen : List Event
seven_is_seen = Linked ∷ (number 7 ∷ (Got (Number 7) ∷ (BadMove ∷ [])))

-- The constructor was called, and its name is no longer in the view.
pub after_setting : events_evaluated setting (a ∷ []) [] [] seven_is_asked 20 ≡ seven_is_seen
unfolding out-Instr denote.Hole.Carrier.out wrapped
after_setting = refl

pub setting_left_shows : events (alone setting_left) [] seven_is_asked 20 ≡ seven_is_seen
unfolding out-Instr denote.Hole.Carrier.out wrapped
setting_left_shows = refl

-- The view is open after two steps.
the_view_opens_at_once : events_evaluated setting (a ∷ []) [] [] [] 2 ≡ Linked ∷ []
unfolding out-Instr denote.Hole.Carrier.out wrapped
the_view_opens_at_once = refl

-- The world without evaluated constructors is that of the module itself, in which a can be called.
before_setting : events_evaluated setting [] [] [] (Call b [] ∷ (Call a [] ∷ (Call b [] ∷ []))) 20 ≡ Linked ∷ (number 0 ∷ (Returned [] ∷ (number 7 ∷ [])))
unfolding out-Instr denote.Hole.Carrier.out wrapped
before_setting = refl

-- ---- the order of constructors ----

-- A module in which a sets the global to 7, b sets it to 8, and c is the global itself.
abbrev setting_twice : Module
setting_twice = record setting { funcs = does (num 7 ∷ i.GlobalSet 0 ∷ []) ∷ does (num 8 ∷ i.GlobalSet 0 ∷ []) ∷ [] }

the_second_is_last : events_evaluated setting_twice (a ∷ b ∷ []) [] [] (Get (Named c) 0 ∷ []) 20 ≡ Linked ∷ (Got (Number 8) ∷ [])
unfolding out-Instr denote.Hole.Carrier.out wrapped
the_second_is_last = refl

the_first_is_last : events_evaluated setting_twice (b ∷ a ∷ []) [] [] (Get (Named c) 0 ∷ []) 20 ≡ Linked ∷ (Got (Number 7) ∷ [])
unfolding out-Instr denote.Hole.Carrier.out wrapped
the_first_is_last = refl

-- ---- a start, where none is evaluated ----

-- A module whose start sets the global, in the quiet run and in an environment that offers nothing.
abbrev pub starting : Module
starting = record setting { start = Some 0 }

abbrev pub seven_is_left : List Global
seven_is_left = record { ty = mutable_i32; value = Num W32 7 } ∷ []

quiet_start : option_map (λ (s : State). s.store.globals) (state_at_end starting []) ≡ Some seven_is_left
unfolding out-Instr denote.Hole.Carrier.out wrapped
quiet_start = refl

start_there : option_map (λ (b : Begun). b.store.globals) (started_begun [] starting) ≡ Some seven_is_left
unfolding out-Instr denote.Hole.Carrier.out wrapped
start_there = refl

-- ---- a constructor whose name is kept ----

abbrev pub setting_kept : Module
setting_kept = record setting_left {
  funcs = does (num 7 ∷ i.GlobalSet 0 ∷ []) ∷ gives (i.GlobalGet 0 ∷ []) ∷ does [] ∷ [];
  exports = exported a (ex.Func 2) ∷ exported b (ex.Func 1) ∷ exported c (ex.Global 0) ∷ [];
}

pub setting_is_kept : evaluated_tree setting (a ∷ []) (a ∷ []) ≡ setting_kept
unfolding declared_snapshot out-Instr denote.Hole.Carrier.out wrapped signed
setting_is_kept = search (rules, the_lemmas)

-- A call of the kept constructor does nothing.
abbrev pub nine_is_set : List Move
nine_is_set = Set (Named c) 0 (Number 9) ∷ (Call a [] ∷ (Call b [] ∷ []))

abbrev pub nine_is_seen : List Event
nine_is_seen = Linked ∷ (Done ∷ (Returned [] ∷ (number 9 ∷ [])))

pub after_setting_kept : events_evaluated setting (a ∷ []) (a ∷ []) [] nine_is_set 20 ≡ nine_is_seen
unfolding out-Instr denote.Hole.Carrier.out wrapped
after_setting_kept = refl

pub setting_kept_shows : events (alone setting_kept) [] nine_is_set 20 ≡ nine_is_seen
unfolding out-Instr denote.Hole.Carrier.out wrapped
setting_kept_shows = refl

-- ---- a start and two constructors that store ----

-- Code that stores a byte in memory 0. In the module below, the start stores 5, a stores 42 behind
-- it, and c calls a and stores 1 over the 5; b calls the environment's function, and own is the
-- memory.
abbrev pub stores : (place value : ℕ) → List Instr
stores place value = num place ∷ num value ∷ i.Store I32Store8 (record { align = 0; offset = 0; memory = 0 }) ∷ []

abbrev pub storing : Module
storing = record empty {
  imports = record { «module» = own; field = a; desc = im.Func 1 } ∷ [];
  funcs = does (stores 0 5) ∷ does (stores 1 42) ∷ does (i.Call 2 ∷ stores 0 1) ∷ does (i.Call 0 ∷ []) ∷ [];
  mems = record { min = 1; max = None } ∷ [];
  exports = exported a (ex.Func 2) ∷ exported c (ex.Func 3) ∷ exported b (ex.Func 4) ∷ exported own (ex.Memory 0) ∷ [];
  start = Some 1;
}

abbrev pub storing_left : Module
storing_left = record storing {
  exports = exported b (ex.Func 4) ∷ exported own (ex.Memory 0) ∷ [];
  start = None;
  datas = record { mode = data'.Active 0 (const.I32 (pos 0)); bytes = 1 ∷ 42 ∷ [] } ∷ [];
}

abbrev pub offering : Environment
offering = record { pair = (own, a); funcs = nothing ∷ []; table = None; memory = None; global = None } ∷ []

abbrev pub bytes_are_read : List Move
bytes_are_read = Get (Named own) 0 ∷ (Get (Named own) 1 ∷ (Call b [] ∷ (Answer [] ∷ (Call c [] ∷ []))))

abbrev pub bytes_are_seen : List Event
bytes_are_seen = Linked ∷ (Got (Number 1) ∷ (Got (Number 42) ∷ (Asked (own, a) nothing [] ∷ (Returned [] ∷ (BadMove ∷ [])))))

pub after_storing : events_evaluated storing (a ∷ c ∷ []) [] offering bytes_are_read 20 ≡ bytes_are_seen
unfolding out-Instr denote.Hole.Carrier.out wrapped store_from stored little_bytes
after_storing = refl

pub storing_left_shows : events (alone storing_left) offering bytes_are_read 20 ≡ bytes_are_seen
unfolding out-Instr denote.Hole.Carrier.out wrapped
storing_left_shows = refl

-- An environment without offers does not link the module.
nothing_is_offered : events_evaluated storing (a ∷ c ∷ []) [] [] [] 20 ≡ LinkFault ∷ []
unfolding out-Instr denote.Hole.Carrier.out wrapped
nothing_is_offered = refl

-- ---- globals that begin with an imported one, and one that refers to an imported function ----

abbrev pub reading : Module
reading = record empty {
  imports = record { «module» = own; field = a; desc = im.Func 1 } ∷ record { «module» = own; field = b; desc = im.Global fixed_i32 } ∷ [];
  funcs = does (i.RefFunc 0 ∷ i.GlobalSet 3 ∷ num 6 ∷ i.GlobalSet 2 ∷ []) ∷ [];
  globals = global mutable_i32 (const.Global 0) ∷ global mutable_i32 (const.Global 0) ∷ global mutable_ref (const.Null func_ref) ∷ [];
  exports = exported a (ex.Func 1) ∷ exported b (ex.Global 1) ∷ exported c (ex.Global 2) ∷ exported own (ex.Global 3) ∷ [];
}

abbrev pub reading_left : Module
reading_left = record reading {
  globals = global mutable_i32 (const.Global 0) ∷ global mutable_i32 (const.I32 (pos 6)) ∷ global mutable_ref (const.Func 0) ∷ [];
  exports = exported b (ex.Global 1) ∷ exported c (ex.Global 2) ∷ exported own (ex.Global 3) ∷ [];
}

pub reading_is_left : evaluated_tree reading (a ∷ []) [] ≡ reading_left
unfolding declared_snapshot out-Instr denote.Hole.Carrier.out wrapped signed
reading_is_left = search (rules, the_lemmas)

abbrev pub offering_four : Environment
offering_four = record { pair = (own, a); funcs = nothing ∷ []; table = None; memory = None; global = None } ∷ record { pair = (own, b); funcs = []; table = None; memory = None; global = Some (record { ty = fixed_i32; value = Number 4 }) } ∷ []

abbrev pub globals_are_read : List Move
globals_are_read = Get (Named b) 0 ∷ (Get (Named c) 0 ∷ (Get (Named own) 0 ∷ []))

abbrev pub globals_are_seen : List Event
globals_are_seen = Linked ∷ (Got (Number 4) ∷ (Got (Number 6) ∷ (Got (OwnFunc (own, a) nothing) ∷ [])))

pub after_reading : events_evaluated reading (a ∷ []) [] offering_four globals_are_read 20 ≡ globals_are_seen
unfolding out-Instr denote.Hole.Carrier.out wrapped
after_reading = refl

pub reading_left_shows : events (alone reading_left) offering_four globals_are_read 20 ≡ globals_are_seen
unfolding out-Instr denote.Hole.Carrier.out wrapped
reading_left_shows = refl

-- ---- a passive segment that was not dropped ----

-- A module in which a does nothing, b copies the data segment into the memory, and c is the memory.
abbrev pub filling : Module
filling = record empty {
  funcs = does [] ∷ does (num 0 ∷ num 0 ∷ num 1 ∷ i.MemoryInit 0 0 ∷ []) ∷ [];
  mems = record { min = 1; max = None } ∷ [];
  exports = exported a (ex.Func 0) ∷ exported b (ex.Func 1) ∷ exported c (ex.Memory 0) ∷ [];
  datas = record { mode = data'.Passive; bytes = 9 ∷ [] } ∷ [];
}

abbrev pub filling_left : Module
filling_left = record filling { exports = exported b (ex.Func 1) ∷ exported c (ex.Memory 0) ∷ [] }

abbrev pub it_is_filled : List Move
it_is_filled = Call b [] ∷ (Get (Named c) 0 ∷ [])

abbrev pub it_is_seen : List Event
it_is_seen = Linked ∷ (Returned [] ∷ (Got (Number 9) ∷ []))

pub after_nothing : events_evaluated filling (a ∷ []) [] [] it_is_filled 20 ≡ it_is_seen
unfolding out-Instr denote.Hole.Carrier.out wrapped
after_nothing = refl

pub filling_left_shows : events (alone filling_left) [] it_is_filled 20 ≡ it_is_seen
unfolding out-Instr denote.Hole.Carrier.out wrapped
filling_left_shows = refl
