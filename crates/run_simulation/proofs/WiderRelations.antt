-- Related code, stores and stacks stay related under a wider relation, where more code may stand in
-- place of calls.
use Rattle.base_lists.proofs.Common.{ℕ, List, Option, Bool, true, false, both_map, each_rel}
use Rattle.wasm_tree_spec.specs.Prelude.{Space, Instr}
use Rattle.wasm_tree.specs.declared.instr.Instr.TheOpen.{Instr-F}
use Rattle.wasm_meaning.specs.Prelude.{RefVal, Val, Inst, Func, Store, Level, Frame, Growth, Entry, ExternalValue, Begun, Phase, Run}
use Rattle.run_simulation.specs.Related
use Rattle.run_simulation.specs.Prelude.{Pairing, OptRel, none, some, ListRel, nil, cons, RefRel, func, extern, ValRel, number, reference, OpRel, CodeRel, end, then, instead, FuncRel, defined, own, slot, StoreRel, LevelRel, FrameRel, GrowthRel, memory_grows, table_grows, EntryRel, running, mark}
use Rattle.run_simulation.specs.Prelude.{opening, waiting, ended, growing, ExternalValueRel, a_func, a_table, a_memory, a_global, KeyRel, BegunRel, PhaseRel, fresh, pending, opened, closed, RunRel, WithPassing, through, FramesBetween}
use Rattle.run_simulation.specs.Related.{by}
use Rattle.run_simulation.specs.Trampolines as between

module _ (R : Pairing) (Stands : Inst → ℕ → List Instr → Type 0) (may : (j : Inst) (a : ℕ) (e : List Instr) → R.stands j a e → Stands j a e) where
  abbrev pub W : Pairing
  W = record R { stands = Stands }

  names : (w : Bool) (k : Space) {o p : Option ℕ} → OptRel (by R w k) o p → OptRel (by W w k) o p
  names true k n = n
  names false k n = n

  -- ---- code ----

  module _ {i j : Inst} where
    mutual
      op_wider : {o p : Instr-F Instr} (w : Bool) → OpRel R i j w o p → OpRel W i j w o p
      op_wider w Related.unreachable = Related.unreachable
      op_wider w Related.nop = Related.nop
      op_wider w (Related.block b c) = Related.block b (code_wider c)
      op_wider w (Related.loop b c) = Related.loop b (code_wider c)
      op_wider w (Related.if_else b c d) = Related.if_else b (code_wider c) (code_wider d)
      op_wider w Related.br = Related.br
      op_wider w Related.br_if = Related.br_if
      op_wider w Related.br_table = Related.br_table
      op_wider w Related.return = Related.return
      op_wider w (Related.call n) = Related.call (names w _ n)
      op_wider w (Related.call_indirect t n) = Related.call_indirect t (names w _ n)
      op_wider w Related.drop = Related.drop
      op_wider w Related.select = Related.select
      op_wider w Related.select_typed = Related.select_typed
      op_wider w Related.local_get = Related.local_get
      op_wider w Related.local_set = Related.local_set
      op_wider w Related.local_tee = Related.local_tee
      op_wider w (Related.global_get n) = Related.global_get (names w _ n)
      op_wider w (Related.global_set n) = Related.global_set (names w _ n)
      op_wider w (Related.table_get n) = Related.table_get (names w _ n)
      op_wider w (Related.table_set n) = Related.table_set (names w _ n)
      op_wider w (Related.load a) = Related.load (record { offset = a.offset; memory = names w _ a.memory })
      op_wider w (Related.store a) = Related.store (record { offset = a.offset; memory = names w _ a.memory })
      op_wider w (Related.memory_size n) = Related.memory_size (names w _ n)
      op_wider w (Related.memory_grow n) = Related.memory_grow (names w _ n)
      op_wider w Related.i32_const = Related.i32_const
      op_wider w Related.i64_const = Related.i64_const
      op_wider w Related.un = Related.un
      op_wider w Related.bin = Related.bin
      op_wider w Related.ref_null = Related.ref_null
      op_wider w Related.ref_is_null = Related.ref_is_null
      op_wider w (Related.ref_func n) = Related.ref_func (names w _ n)
      op_wider w (Related.memory_init n m) = Related.memory_init (names w _ n) (names w _ m)
      op_wider w (Related.data_drop n) = Related.data_drop (names w _ n)
      op_wider w (Related.memory_copy n m) = Related.memory_copy (names w _ n) (names w _ m)
      op_wider w (Related.memory_fill n) = Related.memory_fill (names w _ n)
      op_wider w (Related.table_init n m) = Related.table_init (names w _ n) (names w _ m)
      op_wider w (Related.elem_drop n) = Related.elem_drop (names w _ n)
      op_wider w (Related.table_copy n m) = Related.table_copy (names w _ n) (names w _ m)
      op_wider w (Related.table_grow n) = Related.table_grow (names w _ n)
      op_wider w (Related.table_size n) = Related.table_size (names w _ n)
      op_wider w (Related.table_fill n) = Related.table_fill (names w _ n)

      pub code_wider : {c d : List Instr} → CodeRel R i j c d → CodeRel W i j c d
      code_wider end = end
      code_wider (then o c) = then (op_wider false o) (code_wider c)
      code_wider (instead e is at listed stands c) = instead e is at listed (may j _ e stands) (code_wider c)

  -- ---- values and stores ----

  ref_wider : {r s : RefVal} → RefRel R r s → RefRel W r s
  ref_wider (func a) = func a
  ref_wider extern = extern

  value_wider : {v w : Val} → ValRel R v w → ValRel W v w
  value_wider number = number
  value_wider (reference r) = reference (ref_wider r)

  values_wider : {vs ws : List Val} → ListRel (ValRel R) vs ws → ListRel (ValRel W) vs ws
  values_wider = each_rel (λ _ _ v. value_wider v)

  refs_wider : {rs ss : List RefVal} → ListRel (RefRel R) rs ss → ListRel (RefRel W) rs ss
  refs_wider = each_rel (λ _ _ r. ref_wider r)

  func_wider : {f g : Func} → FuncRel R f g → FuncRel W f g
  func_wider (defined c) = defined (code_wider c)
  func_wider own = own
  func_wider slot = slot

  pub store_wider : {s t : Store} → StoreRel R s t → StoreRel W s t
  store_wider h = record {
    types = λ r. h.types r;
    owns = λ r. h.owns r;
    funcs = λ r free. both_map (λ _ _ f. func_wider f) (h.funcs r free);
    tables = λ r. both_map (λ _ _ t. record { type = t.type; most = t.most; slots = refs_wider t.slots }) (h.tables r);
    mems = λ r. h.mems r;
    globals = λ r. both_map (λ _ _ g. record { type = g.type; value = value_wider g.value }) (h.globals r);
    elems = λ r. both_map (λ _ _ e. record { items = refs_wider e.items }) (h.elems r);
    datas = λ r. h.datas r;
  }

  -- ---- stacks ----

  level_wider : {i j : Inst} {l m : Level} → LevelRel R i j l m → LevelRel W i j l m
  level_wider l = record { values = values_wider l.values; code = code_wider l.code; gives = l.gives; takes = l.takes; back = code_wider l.back }

  frame_wider : {f g : Frame} → FrameRel R f g → FrameRel W f g
  frame_wider f = record { locals = values_wider f.locals; results = f.results; levels = each_rel (λ _ _ l. level_wider l) f.levels }

  growth_wider : {g h : Growth} → GrowthRel R g h → GrowthRel W g h
  growth_wider (memory_grows a) = memory_grows a
  growth_wider (table_grows a v) = table_grows a (ref_wider v)

  entry_wider : {e f : Entry} → EntryRel R e f → EntryRel W e f
  entry_wider (running f) = running (frame_wider f)
  entry_wider mark = mark
  entry_wider (opening x) = opening x
  entry_wider waiting = waiting
  entry_wider (ended v) = ended (values_wider v)
  entry_wider (growing g) = growing (growth_wider g)

  stack_wider : {es fs : List Entry} → WithPassing R es fs → WithPassing W es fs
  stack_wider between.WithPassing.nil = between.WithPassing.nil
  stack_wider (between.WithPassing.cons e es) = between.WithPassing.cons (entry_wider e) (stack_wider es)
  stack_wider (through f inst locals es) = through (frame_wider f) inst locals (stack_wider es)

  -- ---- runs ----

  thing_wider : {x y : ExternalValue} → ExternalValueRel R x y → ExternalValueRel W x y
  thing_wider (a_func a) = a_func a
  thing_wider (a_table a) = a_table a
  thing_wider (a_memory a) = a_memory a
  thing_wider (a_global a) = a_global a

  keys_wider : {K : Type 0} {xs ys : List (K × ExternalValue)} → ListRel (KeyRel R) xs ys → ListRel (KeyRel W) xs ys
  keys_wider = each_rel (λ _ _ k. record { key = k.key; thing = thing_wider k.thing })

  begun_wider : {b c : Begun} → BegunRel R (FramesBetween R) b c → BegunRel W (FramesBetween W) b c
  begun_wider b = record { store = store_wider b.store; entries = stack_wider b.entries; closed = stack_wider b.closed; trapped = b.trapped; view = keys_wider b.view; owned = keys_wider b.owned }

  phase_wider : {p o : Phase} → PhaseRel R (FramesBetween R) p o → PhaseRel W (FramesBetween W) p o
  phase_wider (fresh none) = fresh none
  phase_wider (fresh (some b)) = fresh (some (begun_wider b))
  phase_wider (pending v) = pending (keys_wider v)
  phase_wider opened = opened
  phase_wider closed = closed

  pub run_wider : {r q : Run} → RunRel R (FramesBetween R) (FramesBetween R) r q → RunRel W (FramesBetween W) (FramesBetween W) r q
  run_wider h = record { store = store_wider h.store; entries = stack_wider h.entries; phase = phase_wider h.phase; shown = h.shown; view = keys_wider h.view; owned = keys_wider h.owned; moves = h.moves }
