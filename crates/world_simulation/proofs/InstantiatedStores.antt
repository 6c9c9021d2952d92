-- The store that the instantiation of one module leaves: what the module defines comes after what
-- was there, and its segments are copied.
use Rattle.base_lists.proofs.Common.{◌≡◌, ℕ, ◌+◌, List, [], ◌∷◌, ◌++◌, map, length, Option, Some, false, refl, ap, subst, ◌∙◌, append-nil, slice_get, same_Some, slice_get_within, all_there_at, and_then_is, append_at_left, append_right, map_at, map_from, arith}
use Rattle.base_lists.specs.Options.{◌>>=◌}
use Rattle.wasm_tree_spec.specs.Prelude.{ConstExpr, ElemMode, ElemSeg, DataMode, DataSeg, Module}
use Rattle.wasm_tree.specs.declared.module.ElemMode.TheVariants as elem
use Rattle.wasm_tree.specs.declared.module.DataMode.TheVariants as data'
use Rattle.wasm_meaning.specs.Prelude.{Text, Entity, Val, Inst, Elem, Store, ref_of, Begun, Filled, PlacedSegment, address_in, all_there, const_value, value_of, elem_with, store_with, part_store, joined_stores, numbers, segments_in, run_elem_with, run_elem, run_data_with, run_data, and_then}
use Rattle.wasm_meaning.specs.Prelude.{one_by_one, segments, insts_from, stores_from, begun, own_store, alone, Added, added, next_inst, LoaderWorld, store_under, supplied, primary_added, begun_under, Environment, ExternalValue}
use Rattle.world_simulation.specs.SegmentCopies.{IsOf, Kind, left, memories, run, runs, tables}
use Rattle.world_simulation.specs.SegmentCopies.{OwnSegmentsLeave, OwnSegmentsRunAsCopies, SegmentsAloneRunAsCopies}
use Rattle.world_simulation.specs.InstantiatedStores.{Copy, all_over, elem_copy, elem_copies, data_copy, data_copies, Stands, elem_left, data_left, Leaves, ModulesAloneLeave, WorldsOfOneModuleLeave}
use Rattle.world_simulation.specs.Prelude.{one, WhatIsInstantiated, AddsWith, IsInst, IsInstantiated, new_data, new_memory, new_table}
use Rattle.world_simulation.proofs.AddedModules.{added_is}
use Rattle.world_simulation.proofs.SegmentCopies.{all_ran, all_stay, then_went}

-- ---- runs of copies ----

-- Segments that are each copied by `g` are run as the copies that `copy` makes of them.
turns_are : {C S A X : Type 0} (k : Kind C S A) (i : Inst) (copy : X → Copy A) (g : Store → PlacedSegment X → Filled) → ((s : Store) (n : ℕ) (x : X) → g s (record { part = 0; inst = i; address = n; segment = x }) ≡ run k s n (copy x)) →
    (xs : List X) (s : Store) (n : ℕ) → one_by_one g s (segments_in 0 i (numbers n (length xs)) xs) ≡ runs k s n (map copy xs)
turns_are k i copy g one [] s n = refl
turns_are k i copy g one (x ∷ xs) s n = rw (one s n x, turns_are k i copy g one xs)

-- All the segments of a module, each copied in turn, are run as the copies of element segments and
-- then of data segments.
pub copies_in_turn : (value : ConstExpr → Option Val) (m : Module) (i : Inst) (g : Store → PlacedSegment ElemSeg → Filled) (h : Store → PlacedSegment DataSeg → Filled) →
    ((s : Store) (n : ℕ) (e : ElemSeg) → g s (record { part = 0; inst = i; address = n; segment = e }) ≡ run tables s n (elem_copy value i e e.mode)) →
    ((s : Store) (n : ℕ) (d : DataSeg) → h s (record { part = 0; inst = i; address = n; segment = d }) ≡ run memories s n (data_copy value i d d.mode)) → (n k : ℕ) → i.elems ≡ numbers n (length m.elems) → i.datas ≡ numbers k (length m.datas) →
    (s : Store) → and_then (one_by_one g s (segments_in 0 i i.elems m.elems)) (λ s. one_by_one h s (segments_in 0 i i.datas m.datas)) ≡ and_then (runs tables s n (elem_copies value i m.elems)) (λ s. runs memories s k (data_copies value i m.datas))
copies_in_turn _ m i g h elem_runs data_runs n k elems datas s = simp (elems, datas, turns_are tables i _ g elem_runs, turns_are memories i _ h data_runs)

-- ---- what the copies of one kind leave ----

-- What `after` has when the segments `xs` of a module were copied in a store that had what is in
-- `before`, and then what is in `new`: each table or memory with the copies laid over it, for each
-- of `xs` what `result` says, and the segments of `before` as they were.
record CopiesLeave {C S A X : Type 0} (k : Kind C S A) (copy : X → Copy A) (result : X → Option S) (xs : List X) (before new after : Store) : Type 0 where
  holders : (a : ℕ) (c : C) → slice_get (k.holders before ++ k.holders new) a ≡ Some c → Stands (k.holders after) a (all_over a (map copy xs) (k.held c) >>= λ held. Some (k.holding c held))
  segments : (n : ℕ) (x : X) → slice_get xs n ≡ Some x → Stands (k.segments after) (length (k.segments before) + n) (result x)
  earlier : (n : ℕ) (e : S) → slice_get (k.segments before) n ≡ Some e → slice_get (k.segments after) n ≡ Some e

-- The store `after` is such a store, if the copies begin in a store `s` that has what is in
-- `before` and then what is in `new`, and leave `after`.
copies_leave : {C S A X : Type 0} (k : Kind C S A) (copy : X → Copy A) (result : X → Option S) (xs : List X) (before new s after : Store) → k.holders s ≡ k.holders before ++ k.holders new → k.segments s ≡ k.segments before ++ k.segments new →
    ((n : ℕ) (x : X) → slice_get xs n ≡ Some x → (e : S) × (slice_get (k.segments new) n ≡ Some e) × (IsOf k (copy x) e × (result x ≡ Some (left k (copy x) e)))) →
    let f = runs k s (length (k.segments before)) (map copy xs) in f.trapped ≡ false → k.holders after ≡ k.holders f.store → k.segments after ≡ k.segments f.store → CopiesLeave k copy result xs before new after
copies_leave k copy result xs before new s after holders_are segments_are of went holders_end segments_end =
    let all = all_ran k (map copy xs) s (length (k.segments before)) (λ j c h.
    let x = map_from _ _ j c h in
    let e = of j x.0 x.1 in
    (e.0, rw (segments_are, append_right) e.1, rw x.2 at e.2.0)) went in
    record {
      holders = λ a c h. let w = all.written a c (rw holders_are h) in (k.holding c w.0, rw w.1, rw holders_end w.2);
      segments = λ j x h. let e = of j x h in (_, e.2.1, rw segments_end (all.each j (copy x) e.0 (map_at _ _ j x h) (rw (segments_are, append_right) e.1)));
      earlier = λ j e h. rw (segments_end, all.earlier j (slice_get_within _ j e h), segments_are) (append_at_left _ _ j e h);
    }

-- The copy of an element segment copies what is allocated for the segment, and leaves of it what
-- `elem_left` says.
elem_is : (value : ConstExpr → Option Val) (i : Inst) (e : ElemSeg) (mode : ElemMode) (y : Elem) → elem_with value (record e { mode = mode }) ≡ Some y →
    IsOf tables (elem_copy value i e mode) y × (elem_left value (record e { mode = mode }) mode ≡ Some (left tables (elem_copy value i e mode) y))
elem_is value i e (elem.Active x offset) y h = let r = and_then_is (all_there (λ x. value x >>= ref_of) e.items) _ y h in (r.1 ∙ ap (λ (y : Elem). Some y.items) (same_Some _ _ r.2), refl)
elem_is value i e elem.Passive y h = (tt, h)
elem_is value i e elem.Declarative y h = (tt, (and_then_is (all_there (λ x. value x >>= ref_of) e.items) _ y h).2)

-- The copy of a data segment copies what is allocated for the segment, and leaves of it what
-- `data_left` says.
data_is : (value : ConstExpr → Option Val) (i : Inst) (d : DataSeg) (mode : DataMode) → IsOf memories (data_copy value i d mode) (new_data d) × (Some (data_left d mode) ≡ Some (left memories (data_copy value i d mode) (new_data d)))
data_is value i d (data'.Active x offset) = (refl, refl)
data_is value i d data'.Passive = (tt, refl)

-- ---- the store after the copies ----

module _ (value : ConstExpr → Option Val) (m : Module) (i : Inst) (before t : Store) (made : store_with value m i ≡ Some t) where
  abbrev start : Store
  start = joined_stores before t

  abbrev elems_run : Filled
  elems_run = runs tables start (length before.elems) (elem_copies value i m.elems)

  abbrev datas_run : Filled
  datas_run = runs memories elems_run.store (length before.datas) (data_copies value i m.datas)

  leaves : elems_run.trapped ≡ false → datas_run.trapped ≡ false → Leaves value m i before datas_run.store
  leaves went went_on =
      let adds : AddsWith value m i t = search arith in
      let first = all_stay tables (λ s. record s { tables = []; elems = [] }) (λ s a c. refl) (λ s n. refl) (elem_copies value i m.elems) _ _ went in
      let second = all_stay memories (λ s. record s { mems = []; datas = [] }) (λ s a c. refl) (λ s n. refl) (data_copies value i m.datas) _ _ went_on in
      let funcs_stay = ap (λ (s : Store). s.funcs) second ∙ ap (λ (s : Store). s.funcs) first in
      let globals_stay = ap (λ (s : Store). s.globals) second ∙ ap (λ (s : Store). s.globals) first in
      let elems = copies_leave tables (λ e. elem_copy value i e e.mode) (λ e. elem_left value e e.mode) m.elems before t start datas_run.store refl refl
      (λ n e h. let y = all_there_at _ _ _ adds.elems n e h in (y.0, y.2, elem_is value i e e.mode y.0 y.1)) went (ap tables.holders second) (ap tables.segments second) in
      let datas = copies_leave memories (λ d. data_copy value i d d.mode) (λ d. Some (data_left d d.mode)) m.datas before t elems_run.store datas_run.store (ap memories.holders first) (ap memories.segments first)
      (λ n d h. (new_data d, rw adds.datas (map_at _ _ n d h), data_is value i d d.mode)) went_on refl refl in
      record {
        funcs = λ n f h. let x = all_there_at _ _ _ adds.funcs n f h in (x.0, x.1, rw (funcs_stay, append_right) x.2);
        tables = λ n l h. elems.holders _ (new_table l) (rw (append_right, adds.tables) (map_at _ _ n l h));
        mems = λ n l h. datas.holders _ (new_memory l) (rw (append_right, adds.mems) (map_at _ _ n l h));
        globals = λ n g h. let x = all_there_at _ _ _ adds.globals n g h in (x.0, x.1, rw (globals_stay, append_right) x.2);
        elems = elems.segments;
        datas = λ n d h. let x = datas.segments n d h in rw x.1 x.2;
        earlier_funcs = λ a f h. rw funcs_stay (append_at_left _ _ a f h);
        earlier_tables = λ a x h. elems.holders a x (append_at_left _ _ a x h);
        earlier_mems = λ a x h. datas.holders a x (append_at_left _ _ a x h);
        earlier_globals = λ a g h. rw globals_stay (append_at_left _ _ a g h);
        earlier_elems = elems.earlier;
        earlier_datas = datas.earlier;
      }

  -- The same holds if `g` and `h` copy the segments in turn.
  pub left_in_turn : (g : Store → PlacedSegment ElemSeg → Filled) (h : Store → PlacedSegment DataSeg → Filled) → ((s : Store) (n : ℕ) (e : ElemSeg) → g s (record { part = 0; inst = i; address = n; segment = e }) ≡ run tables s n (elem_copy value i e e.mode)) →
      ((s : Store) (n : ℕ) (d : DataSeg) → h s (record { part = 0; inst = i; address = n; segment = d }) ≡ run memories s n (data_copy value i d d.mode)) → i.elems ≡ numbers (length before.elems) (length m.elems) → i.datas ≡ numbers (length before.datas) (length m.datas) →
      (f : Filled) → f ≡ and_then (one_by_one g start (segments_in 0 i i.elems m.elems)) (λ s. one_by_one h s (segments_in 0 i i.datas m.datas)) → f.trapped ≡ false → Leaves value m i before f.store
  left_in_turn g h elem_runs data_runs elems datas f is good =
      let all = is ∙ copies_in_turn _ m i g h elem_runs data_runs _ _ elems datas start in
      let went = then_went elems_run (λ s. runs memories s (length before.datas) (data_copies value i m.datas)) (rw all at good) in
      rw (all, went.2) (leaves went.0 went.1)

pub elem_runs : (value : ConstExpr → Option Val) (i : Inst) (s : Store) (n : ℕ) (e : ElemSeg) (mode : ElemMode) → run_elem_with value s (record { part = 0; inst = i; address = n; segment = e }) mode ≡ run tables s n (elem_copy value i e mode)
elem_runs value i s n e (elem.Active x offset) = refl
elem_runs value i s n e _ = refl

pub data_runs : (value : ConstExpr → Option Val) (i : Inst) (s : Store) (n : ℕ) (d : DataSeg) (mode : DataMode) → run_data_with value s (record { part = 0; inst = i; address = n; segment = d }) mode ≡ run memories s n (data_copy value i d mode)
data_runs value i s n d (data'.Active x offset) = refl
data_runs value i s n d data'.Passive = refl

-- ---- the laws ----

pub own_runs : OwnSegmentsRunAsCopies
own_runs value m i n k elems datas s =
    copies_in_turn value m i (λ s task. run_elem_with value s task task.segment.mode) (λ s task. run_data_with value s task task.segment.mode) (λ s n e. elem_runs value i s n e e.mode) (λ s n d. data_runs value i s n d d.mode) n k elems datas s

pub alone_runs : SegmentsAloneRunAsCopies
alone_runs env m i n k elems datas s =
    let value = value_of env (one m) (i ∷ []) 0 in
    rw (append-nil, append-nil) (copies_in_turn value m i (run_elem env (one m) (i ∷ [])) (run_data env (one m) (i ∷ [])) (λ s n e. elem_runs value i s n e e.mode) (λ s n d. data_runs value i s n d d.mode) n k elems datas s)

pub own_leave : OwnSegmentsLeave
own_leave value m i before t made elems datas good =
    left_in_turn value m i before t made (λ s task. run_elem_with value s task task.segment.mode) (λ s task. run_data_with value s task task.segment.mode) (λ s n e. elem_runs value i s n e e.mode) (λ s n d. data_runs value i s n d d.mode) elems datas _ refl good

pub added_leaves : (s : Store) (m : Module) (things : List ExternalValue) (a : Added) → added s m things ≡ Some a → a.filled.trapped ≡ false → Leaves (const_value s.globals a.inst) m a.inst s a.filled.store
added_leaves s m things a h good =
    let x = added_is s m things a h in
    let i = next_inst s m things in
    rw (← x.2) (left_in_turn _ m i s x.0 x.1 (λ s task. run_elem_with _ s task task.segment.mode) (λ s task. run_data_with _ s task task.segment.mode)
    (λ s n e. elem_runs _ i s n e e.mode) (λ s n d. data_runs _ i s n d d.mode) refl refl _ refl (rw (← x.2) at good))

-- The law on what is left, for a world of one module with any view, given its instance and its
-- allocated store.
world_left : (env : Environment) (m : Module) (view : List (Text × Entity)) (b : Begun) (i : Inst) (s : Store) (names : List (Text × ExternalValue)) → stores_from env (one m) (i ∷ []) (own_store env) 0 (one m) (i ∷ []) ≡ Some s →
    begun env (record { parts = one m; view = view }) (i ∷ []) names (segments env (one m) (i ∷ []) s) ≡ b → IsInst env (one m) 0 m i → b.trapped ≡ false → Leaves (value_of env (one m) (i ∷ []) 0) m i (own_store env) b.store
world_left env m view b i s names made is inst good =
    let t = and_then_is (part_store env (one m) (i ∷ []) 0 m i) _ _ made in
    let same = same_Some _ _ t.2 in
    rw (ap (λ (b : Begun). b.store) is) at (left_in_turn _ m i (own_store env) t.0 t.1 (run_elem env (one m) (i ∷ [])) (run_data env (one m) (i ∷ [])) (λ s n e. elem_runs _ i s n e e.mode) (λ s n d. data_runs _ i s n d d.mode) inst.elems inst.datas
    (segments env (one m) (i ∷ []) s) (rw (same, append-nil, append-nil)) (rw (← is) at good))

module _ (made : WhatIsInstantiated) where
  pub world_leaves : WorldsOfOneModuleLeave
  world_leaves env m view b h good = by (let are = w.are_insts in search arith)
    where
      w : IsInstantiated env (record { parts = one m; view = view }) b
      w = made env (record { parts = one m; view = view }) b h

      by : (i : Inst) × (w.insts ≡ i ∷ []) × IsInst env (one m) 0 m i → (i : Inst) × (insts_from env (one m) 0 (one m) ≡ Some (i ∷ [])) × Leaves (value_of env (one m) (i ∷ []) 0) m i (own_store env) b.store
      by x =
          let s = subst (λ is. stores_from env (one m) is (own_store env) 0 (one m) is ≡ Some w.allocated) x.1 w.is_allocated in
          let is = subst (λ is. begun env (record { parts = one m; view = view }) is w.view (segments env (one m) is w.allocated) ≡ b) x.1 w.is in
          (x.0, subst (λ is. insts_from env (one m) 0 (one m) ≡ Some is) x.1 w.are_insts, world_left env m view b x.0 w.allocated w.view s is x.2 good)

  pub alone_leaves : ModulesAloneLeave
  alone_leaves env m = world_leaves env m (alone m).view

pub primary_leaves : (env : Environment) (w : LoaderWorld) (b : Begun) → begun_under env w ≡ Some b → b.trapped ≡ false → (a : Added) × (primary_added env w ≡ Some a) × Leaves (const_value (store_under env w).globals a.inst) w.primary a.inst (store_under env w) b.store
primary_leaves env w b h good =
    let a = and_then_is (primary_added env w) _ b h in
    let things = and_then_is (all_there (supplied env w) w.primary.imports) _ a.0 a.1 in
    let view = and_then_is (all_there (λ v. address_in a.0.inst v.1 >>= λ x. Some (v.0, x)) w.view) _ b a.2 in
    let same = same_Some _ _ view.2 in
    (a.0, a.1, rw (ap (λ (b : Begun). b.store) same) at (added_leaves (store_under env w) w.primary things.0 a.0 things.2 (rw (← same) at good)))
