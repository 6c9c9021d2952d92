-- The law of steps where it says more than of equal stores: a dropped segment beside an empty one,
-- functions that are not one to one, and a list of functions of which only the types are known.
-- What the steps come to is computed.
use Rattle.base_lists.proofs.Common.{◌≡◌, refl, sym, subst, ◌∙◌, ℕ, zero, suc, List, [], ◌∷◌, Some, None, Bool, true, false, arith, slice_get}
use Rattle.std.proofs.lemmas.Bool.{true≢false}
use Rattle.wasm_tree_spec.specs.Prelude.{Space, Types, Functions, Tables, Memories, Globals, ElementSegments, DataSegments, FuncType, Instr}
use Rattle.wasm_tree.specs.declared.types.RefType.TheVariants as reft
use Rattle.wasm_tree.specs.declared.instr.Instr.{out-Instr}
use Rattle.wasm_tree.specs.declared.instr.Instr.TheVariants as i
use Rattle.wasm_num.specs.Operations.{W32}
use Rattle.wasm_meaning.specs.Prelude.{Outcome, Gives, Traps, FuncRef, Val, Num, Ref, Inst, Func, Code, Store, Entry, Running, Act, Ran, type_at, own_at, step}
use Rattle.run_simulation.specs.Related
use Rattle.run_simulation.specs.Prelude.{Pairing, OneToOne, OneToOneWhereWritten, is_written, some, ResRel, BothRel, both, ListRel, nil, cons, RefRel, ValRel, number, CodeRel, end, then, instead, FuncRel, defined, TableRel, ElemRel, StoreRel, EntryRel, running, NextRel, NotOpaque, TopSkips, passed}
use Rattle.run_simulation.specs.Prelude.{Above}
use Rattle.run_simulation.proofs.AboveSteps.{step_above}
use Rattle.run_simulation.proofs.KnownNames.{entries_known}
use Rattle.run_simulation.proofs.EqualTraces.{touches, skips}

-- ---- what is common ----

abbrev nothing : FuncType
nothing = record { params = []; results = [] }

abbrev pub nowhere : Inst
nowhere = record { types = []; funcs = []; tables = []; mems = []; globals = []; elems = []; datas = [] }

abbrev pub no_store : Store
no_store = record { funcs = []; tables = []; mems = []; globals = []; elems = []; datas = [] }

-- The frame of one level with these values and this code.
abbrev pub runs : Inst → List Val → List Instr → Entry
runs inst values code = Running (record { inst = inst; locals = []; results = []; levels = record { values = values; code = code; gives = 0; takes = 0; back = [] } ∷ [] })

pub no_more : {A : Type 0} → false ≡ true → A
no_more h = absurd (true≢false (sym h))

-- The law of steps, for stacks of one entry each.
steps_of_one : (R : Pairing) → OneToOneWhereWritten R → ((k : Space) (a b : ℕ) → R.named k a b → R.of k a b) → (s t : Store) (e f : Entry) → StoreRel R s t → EntryRel R e f → TopSkips R s (e ∷ []) →
    ResRel (NextRel R (Above R [] [])) (step s (e ∷ [])) (step t (f ∷ []))
steps_of_one R apart known s t e f stores entries skip = step_above R apart [] [] stores (cons entries nil) (touches s (e ∷ [])) skip (entries_known R known (e ∷ []) (f ∷ []))

-- ---- a dropped segment beside an empty one ----

-- The relation of memory 0, data segment 0, table 0 and element segment 0, each to itself.
abbrev zeros : Space → ℕ → ℕ → Bool
zeros Memories zero zero = true
zeros DataSegments zero zero = true
zeros Tables zero zero = true
zeros ElementSegments zero zero = true
zeros _ _ _ = false

abbrev Z : Pairing
Z = passed zeros zeros []

-- The relation holds of address 0 only.
only : (k : Space) (a b : ℕ) → Z.of k a b → (a ≡ 0) × (b ≡ 0)
only Memories zero zero h = (refl, refl)
only DataSegments zero zero h = (refl, refl)
only Tables zero zero h = (refl, refl)
only ElementSegments zero zero h = (refl, refl)
only Memories zero (suc b) h = no_more h
only DataSegments zero (suc b) h = no_more h
only Tables zero (suc b) h = no_more h
only ElementSegments zero (suc b) h = no_more h
only Memories (suc a) b h = no_more h
only DataSegments (suc a) b h = no_more h
only Tables (suc a) b h = no_more h
only ElementSegments (suc a) b h = no_more h
only Types a b h = no_more h
only Functions a b h = no_more h
only Globals a b h = no_more h

zeros_apart : OneToOneWhereWritten Z
zeros_apart = record { right = λ {k} w a b c h j. (only k a b h).1 ∙ sym (only k a c j).1; left = λ {k} w a b c h j. (only k a c h).0 ∙ sym (only k b c j).0 }

abbrev zeros_in : Inst
zeros_in = record nowhere { tables = 0 ∷ []; mems = 0 ∷ []; elems = 0 ∷ []; datas = 0 ∷ [] }

-- The store has a memory without a page, a table without an entry, and segments without bytes or
-- items, which were dropped or not.
abbrev with_segments : (dropped : Bool) → Store
with_segments dropped = record no_store {
  tables = record { ty = reft.Func; most = None; slots = [] } ∷ [];
  mems = record { most = None; pages = 0; bytes = [] } ∷ [];
  elems = record { items = []; dropped = dropped } ∷ [];
  datas = record { bytes = []; dropped = dropped } ∷ [];
}

tables_related : (a b : ℕ) → Z.of Tables a b → BothRel (TableRel Z) (slice_get (with_segments true).tables a) (slice_get (with_segments false).tables b)
tables_related zero zero h = both (record { type = refl; most = refl; slots = nil })
tables_related zero (suc b) h = no_more h
tables_related (suc a) b h = no_more h

memories_related : (a b : ℕ) → Z.of Memories a b → BothRel (λ m n. m ≡ n) (slice_get (with_segments true).mems a) (slice_get (with_segments false).mems b)
memories_related zero zero h = both refl
memories_related zero (suc b) h = no_more h
memories_related (suc a) b h = no_more h

elems_related : (a b : ℕ) → Z.of ElementSegments a b → BothRel (ElemRel Z) (slice_get (with_segments true).elems a) (slice_get (with_segments false).elems b)
elems_related zero zero h = both (record { items = nil })
elems_related zero (suc b) h = no_more h
elems_related (suc a) b h = no_more h

datas_related : (a b : ℕ) → Z.of DataSegments a b → BothRel (λ d e. d.bytes ≡ e.bytes) (slice_get (with_segments true).datas a) (slice_get (with_segments false).datas b)
datas_related zero zero h = both refl
datas_related zero (suc b) h = no_more h
datas_related (suc a) b h = no_more h

segments_related : StoreRel Z (with_segments true) (with_segments false)
segments_related = record {
  types = λ h. no_more h;
  owns = λ h. no_more h;
  funcs = λ h n. no_more h;
  tables = λ {a} {b} h. tables_related a b h;
  mems = λ {a} {b} h. memories_related a b h;
  globals = λ h. no_more h;
  elems = λ {a} {b} h. elems_related a b h;
  datas = λ {a} {b} h. datas_related a b h;
}

-- The operands that copy `n` bytes or items, from place 0 of the segment to place 0.
abbrev three_numbers : ℕ → List Val
three_numbers n = Num W32 n ∷ (Num W32 0 ∷ (Num W32 0 ∷ []))

abbrev initialises : ℕ → Entry
initialises n = runs zeros_in (three_numbers n) (i.MemoryInit 0 0 ∷ [])

abbrev fills : ℕ → Entry
fills n = runs zeros_in (three_numbers n) (i.TableInit 0 0 ∷ [])

same_bytes : (n : ℕ) → ResRel (NextRel Z (Above Z [] [])) (step (with_segments true) (initialises n ∷ [])) (step (with_segments false) (initialises n ∷ []))
unfolding out-Instr denote.Hole.Carrier.out
same_bytes n =
    let e : EntryRel Z (initialises n) (initialises n) =
    running (record { locals = nil; results = refl; levels = cons (record { values = cons number (cons number (cons number nil)); code = then (Related.memory_init (some refl) (some refl)) end; gives = refl; takes = refl; back = end }) nil }) in
    steps_of_one Z zeros_apart (λ k a b p. p) (with_segments true) (with_segments false) (initialises n) (initialises n) segments_related e (skips zeros (with_segments true) (initialises n ∷ []))

same_items : (n : ℕ) → ResRel (NextRel Z (Above Z [] [])) (step (with_segments true) (fills n ∷ [])) (step (with_segments false) (fills n ∷ []))
unfolding out-Instr denote.Hole.Carrier.out
same_items n =
    let e : EntryRel Z (fills n) (fills n) =
    running (record { locals = nil; results = refl; levels = cons (record { values = cons number (cons number (cons number nil)); code = then (Related.table_init (some refl) (some refl)) end; gives = refl; takes = refl; back = end }) nil }) in
    steps_of_one Z zeros_apart (λ k a b p. p) (with_segments true) (with_segments false) (fills n) (fills n) segments_related e (skips zeros (with_segments true) (fills n ∷ []))

-- A copy of no bytes or items does nothing, whether or not the segment was dropped; a copy of one
-- byte or item is out of bounds.
no_byte_is_copied : (dropped : Bool) → step (with_segments dropped) (initialises 0 ∷ []) ≡ Gives (Ran (with_segments dropped) (runs zeros_in [] [] ∷ []))
unfolding out-Instr denote.Hole.Carrier.out
no_byte_is_copied dropped = refl

one_byte_traps : (dropped : Bool) → step (with_segments dropped) (initialises 1 ∷ []) ≡ Traps
unfolding out-Instr denote.Hole.Carrier.out
one_byte_traps dropped = refl

no_item_is_copied : (dropped : Bool) → step (with_segments dropped) (fills 0 ∷ []) ≡ Gives (Ran (with_segments dropped) (runs zeros_in [] [] ∷ []))
unfolding out-Instr denote.Hole.Carrier.out
no_item_is_copied dropped = refl

one_item_traps : (dropped : Bool) → step (with_segments dropped) (fills 1 ∷ []) ≡ Traps
unfolding out-Instr denote.Hole.Carrier.out
one_item_traps dropped = refl

-- ---- functions that are not one to one ----

-- The relation of functions 0 and 1 of the first store to function 0 of the second.
abbrev two_for_one : Space → ℕ → ℕ → Bool
two_for_one Functions zero zero = true
two_for_one Functions (suc zero) zero = true
two_for_one _ _ _ = false

abbrev T : Pairing
T = passed two_for_one two_for_one []

not_one_to_one : OneToOne T → ⊥
not_one_to_one o = let e : 0 ≡ 1 = o.left {k = Functions} 0 1 0 refl refl in absurd (omega (arith, e))

no_written_related : (k : Space) → is_written k ≡ true → (a b : ℕ) → T.of k a b → ⊥
no_written_related Functions w a b h = no_more w
no_written_related Types w a b h = no_more h
no_written_related Tables w a b h = no_more h
no_written_related Memories w a b h = no_more h
no_written_related Globals w a b h = no_more h
no_written_related ElementSegments w a b h = no_more h
no_written_related DataSegments w a b h = no_more h

two_apart : OneToOneWhereWritten T
two_apart = record { right = λ {k} w a b c h j. absurd (no_written_related k w a b h); left = λ {k} w a b c h j. absurd (no_written_related k w a c h) }

abbrev does_nothing : Inst → Func
does_nothing inst = Code nothing inst [] (i.Nop ∷ [])

abbrev in_two : Inst
in_two = record nowhere { funcs = 0 ∷ (1 ∷ []) }

abbrev in_one : Inst
in_one = record nowhere { funcs = 0 ∷ [] }

abbrev two_functions : Store
two_functions = record no_store { funcs = does_nothing in_two ∷ (does_nothing in_two ∷ []) }

abbrev one_function : Store
one_function = record no_store { funcs = does_nothing in_one ∷ [] }

function_related : FuncRel T (does_nothing in_two) (does_nothing in_one)
unfolding out-Instr denote.Hole.Carrier.out
function_related = defined (then Related.nop end)

function_types : (a b : ℕ) → T.of Functions a b → BothRel (◌≡◌ {A = FuncType}) (type_at two_functions a) (type_at one_function b)
function_types zero zero h = both refl
function_types (suc zero) zero h = both refl
function_types zero (suc b) h = no_more h
function_types (suc zero) (suc b) h = no_more h
function_types (suc (suc a)) b h = no_more h

function_owners : (a b : ℕ) → T.of Functions a b → own_at two_functions a ≡ own_at one_function b
function_owners zero zero h = refl
function_owners (suc zero) zero h = refl
function_owners zero (suc b) h = no_more h
function_owners (suc zero) (suc b) h = no_more h
function_owners (suc (suc a)) b h = no_more h

functions_related : (a b : ℕ) → T.of Functions a b → ¬ T.listed a → BothRel (FuncRel T) (slice_get two_functions.funcs a) (slice_get one_function.funcs b)
functions_related zero zero h n = both function_related
functions_related (suc zero) zero h n = both function_related
functions_related zero (suc b) h n = no_more h
functions_related (suc zero) (suc b) h n = no_more h
functions_related (suc (suc a)) b h n = no_more h

two_related : StoreRel T two_functions one_function
two_related = record {
  types = λ {a} {b} h. function_types a b h;
  owns = λ {a} {b} h. function_owners a b h;
  funcs = λ {a} {b} h n. functions_related a b h n;
  tables = λ h. no_more h;
  mems = λ h. no_more h;
  globals = λ h. no_more h;
  elems = λ h. no_more h;
  datas = λ h. no_more h;
}

-- A call of function 1 in the first store agrees with a call of function 0 in the second.
two_calls_agree : ResRel (NextRel T (Above T [] [])) (step two_functions (runs in_two [] (i.Call 1 ∷ []) ∷ [])) (step one_function (runs in_one [] (i.Call 0 ∷ []) ∷ []))
unfolding out-Instr denote.Hole.Carrier.out
two_calls_agree =
    let e : EntryRel T (runs in_two [] (i.Call 1 ∷ [])) (runs in_one [] (i.Call 0 ∷ [])) =
    running (record { locals = nil; results = refl; levels = cons (record { values = nil; code = then (Related.call (some refl)) end; gives = refl; takes = refl; back = end }) nil }) in
    steps_of_one T two_apart (λ k a b p. p) two_functions one_function (runs in_two [] (i.Call 1 ∷ [])) (runs in_one [] (i.Call 0 ∷ [])) two_related e (skips two_for_one two_functions (runs in_two [] (i.Call 1 ∷ []) ∷ []))

the_second_is_entered : step two_functions (runs in_two [] (i.Call 1 ∷ []) ∷ []) ≡ Gives (Ran two_functions (runs in_two [] (i.Nop ∷ []) ∷ (runs in_two [] [] ∷ [])))
unfolding out-Instr denote.Hole.Carrier.out
the_second_is_entered = refl

the_one_is_entered : step one_function (runs in_one [] (i.Call 0 ∷ []) ∷ []) ≡ Gives (Ran one_function (runs in_one [] (i.Nop ∷ []) ∷ (runs in_one [] [] ∷ [])))
unfolding out-Instr denote.Hole.Carrier.out
the_one_is_entered = refl

-- ---- a list of functions ----

-- Function 0 is on the list: it traps in the first store, and does nothing in the second.
abbrev zero_alone : Space → ℕ → ℕ → Bool
zero_alone Functions zero zero = true
zero_alone _ _ _ = false

abbrev L : Pairing
L = passed zero_alone zero_alone (0 ∷ [])

no_written_listed : (k : Space) → is_written k ≡ true → (a b : ℕ) → L.of k a b → ⊥
no_written_listed Functions w a b h = no_more w
no_written_listed Types w a b h = no_more h
no_written_listed Tables w a b h = no_more h
no_written_listed Memories w a b h = no_more h
no_written_listed Globals w a b h = no_more h
no_written_listed ElementSegments w a b h = no_more h
no_written_listed DataSegments w a b h = no_more h

listed_apart : OneToOneWhereWritten L
listed_apart = record { right = λ {k} w a b c h j. absurd (no_written_listed k w a b h); left = λ {k} w a b c h j. absurd (no_written_listed k w a c h) }

abbrev it_traps : Store
it_traps = record no_store { funcs = Code nothing in_one [] (i.Unreachable ∷ []) ∷ [] }

listed_types : (a b : ℕ) → L.of Functions a b → BothRel (◌≡◌ {A = FuncType}) (type_at it_traps a) (type_at one_function b)
listed_types zero zero h = both refl
listed_types zero (suc b) h = no_more h
listed_types (suc a) b h = no_more h

listed_owners : (a b : ℕ) → L.of Functions a b → own_at it_traps a ≡ own_at one_function b
listed_owners zero zero h = refl
listed_owners zero (suc b) h = no_more h
listed_owners (suc a) b h = no_more h

listed_functions : (a b : ℕ) → L.of Functions a b → ¬ L.listed a → BothRel (FuncRel L) (slice_get it_traps.funcs a) (slice_get one_function.funcs b)
listed_functions zero zero h n = absurd (n refl)
listed_functions zero (suc b) h n = no_more h
listed_functions (suc a) b h n = no_more h

listed_related : StoreRel L it_traps one_function
listed_related = record {
  types = λ {a} {b} h. listed_types a b h;
  owns = λ {a} {b} h. listed_owners a b h;
  funcs = λ {a} {b} h n. listed_functions a b h n;
  tables = λ h. no_more h;
  mems = λ h. no_more h;
  globals = λ h. no_more h;
  elems = λ h. no_more h;
  datas = λ h. no_more h;
}

-- The code takes a reference to function 0, drops it and continues with `rest`: a call in the first
-- store, two other instructions in the second.
abbrev refers : List Instr → List Instr
refers rest = i.RefFunc 0 ∷ (i.Drop ∷ rest)

-- The result of a step, if there is one, is no call of a function on the list.
abbrev NoOpaque : Outcome Act → Type 0
NoOpaque (Gives x) = NotOpaque L x
NoOpaque _ = Unit {0}

a_listed_function_is_named : ResRel (NextRel L (Above L [] [])) (step it_traps (runs in_one [] (refers (i.Call 0 ∷ [])) ∷ [])) (step one_function (runs in_one [] (refers (i.Nop ∷ (i.Nop ∷ []))) ∷ []))
unfolding out-Instr denote.Hole.Carrier.out
a_listed_function_is_named =
    let e : EntryRel L (runs in_one [] (refers (i.Call 0 ∷ []))) (runs in_one [] (refers (i.Nop ∷ (i.Nop ∷ [])))) =
    running (record { locals = nil; results = refl; levels = cons (record { values = nil; code = then (Related.ref_func (some refl)) (then Related.drop (instead (i.Nop ∷ (i.Nop ∷ [])) refl refl refl refl end)); gives = refl; takes = refl; back = end }) nil }) in
    steps_of_one L listed_apart (λ k a b p. p) it_traps one_function (runs in_one [] (refers (i.Call 0 ∷ []))) (runs in_one [] (refers (i.Nop ∷ (i.Nop ∷ [])))) listed_related e (λ x e. subst NoOpaque e tt)

a_reference_to_it : (s : Store) (rest : List Instr) → step s (runs in_one [] (refers rest) ∷ []) ≡ Gives (Ran s (runs in_one (Ref (FuncRef (Some 0)) ∷ []) (i.Drop ∷ rest) ∷ []))
unfolding out-Instr denote.Hole.Carrier.out
a_reference_to_it s rest = refl

-- The law says nothing about a step that begins a call of function 0: in the first store it traps
-- once it has begun, in the second the two instructions do nothing.
it_traps_when_it_has_begun : step it_traps (runs in_one [] (i.Unreachable ∷ []) ∷ (runs in_one [] [] ∷ [])) ≡ Traps
unfolding out-Instr denote.Hole.Carrier.out
it_traps_when_it_has_begun = refl
