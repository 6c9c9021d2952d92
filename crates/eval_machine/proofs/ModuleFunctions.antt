-- The functions of an instantiated module: the imported ones, and then the code of those that it
-- defines.
use Rattle.base_lists.proofs.Common.{◌≡◌, ℕ, zero, suc, ◌+◌, ◌-◌, ◌<◌, ◌≤◌, arith, List, [], ◌∷◌, ◌++◌, length, map, slice_get, Bool, true, false, cond, Option, Some, None, refl, sym, ap, ◌∙◌, subst, nat_lt, filter_map, length-append, length-map, none-some, same_Some, slice_get_past, all_there_at}
use Rattle.base_lists.proofs.Common.{all_there_length, append_left, append_right, slice_get_there, none_past}
use Rattle.std.specs.Prelude.{unwrap_or}
use Rattle.base_lists.specs.Options.{◌>>=◌, all_there}
use Rattle.wasm_tree_spec.specs.Prelude.{FuncType, Import, ElemSeg, ElemMode, DataSeg, DataMode, Module, func_of, funcs_of, imported_funcs, memories_of}
use Rattle.wasm_tree.specs.declared.module.Func.{Func as FuncDef}
use Rattle.wasm_tree.specs.declared.module.ElemMode.TheVariants as elem
use Rattle.wasm_tree.specs.declared.module.DataMode.TheVariants as data'
use Rattle.wasm_num.specs.Operations.{W32}
use Rattle.wasm_meaning.specs.Prelude.{overwrite, Pair, RefVal, Func, Code, Own, Table, Memory, Global, Elem, Data, Store, declared, num_of, pair_of, Filled, PlacedSegment, copy_slots, copy_bytes, elem_with, global_with, new_func, or_trapped, run_elem_with, run_data_with, segments_in, Gives, Bytes}
use Rattle.eval_spec.specs.declared.limits.TheConstants.{MOST_TURNS}
use Rattle.eval_spec.specs.declared.stop.Stop.TheVariants as why
use Rattle.eval_spec.specs.Prelude.{State, Stage, Going, Stopped, Finished, Test, first_held, is_finished, state_of, stopped_or, written_after, copied_slots, data_tests, elem_tests, imported_func, place_in, in_order, instantiated, filled_from, own_inst, state_at_first, value_in, with_data}
use Rattle.eval_spec.specs.Prelude.{with_data_mode, with_elem, with_elem_mode, with_segments}
use Rattle.eval_proof.specs.ImportedFunctions.{ImportsAreTyped}
use Rattle.eval_machine.specs.declared.kept.Kept.{Kept}
use Rattle.eval_machine.specs.Prelude.{MachineFits, store_in}
use Rattle.eval_machine.specs.Kept.{base_of, no_state}

-- ---- segments leave functions unchanged ----

abbrev HasFuncs : List Func → Stage → Type 0
HasFuncs fs (Finished s) = s.store.funcs ≡ fs
HasFuncs fs _ = Unit {0}

module _ (fs : List Func) where
  tried_has : (o : Option Test) (t : Stage) → HasFuncs fs t → HasFuncs fs (stopped_or o t)
  tried_has None t h = h
  tried_has (Some x) t h = tt

  slots_filled : (s : Store) (e a : ℕ) (t : Table) (o : Option (List RefVal)) → s.funcs ≡ fs → (copy_slots s e a t o).store.funcs ≡ fs
  slots_filled s e a t None h = h
  slots_filled s e a t (Some slots) h = h

  bytes_filled : (s : Store) (e a : ℕ) (m : Memory) (o : Option (List ℕ)) → s.funcs ≡ fs → (copy_bytes s e a m o).store.funcs ≡ fs
  bytes_filled s e a m None h = h
  bytes_filled s e a m (Some bytes) h = h

  -- A result that has these functions, or else the store before it, which has them too.
  or_trapped_has : (s : Store) (o : Option Filled) → s.funcs ≡ fs → ((f : Filled) → o ≡ Some f → f.store.funcs ≡ fs) → (or_trapped s o).store.funcs ≡ fs
  or_trapped_has s None h k = h
  or_trapped_has s (Some f) h k = k f refl

module _ (m : Module) (fs : List Func) where
  elem_keeps : (s : State) (task : PlacedSegment ElemSeg) (mode : ElemMode) → s.store.funcs ≡ fs → (run_elem_with (value_in m) s.store task mode).store.funcs ≡ fs
  elem_keeps s task elem.Passive h = h
  elem_keeps s task elem.Declarative h = h
  elem_keeps s task (elem.Active x offset) h = or_trapped_has fs s.store _ h (λ f e. by_offset (value_in m offset >>= λ v. num_of W32 v) f e)
    where
      by_elem : (a : ℕ) (t : Table) (n : ℕ) (o : Option Elem) (f : Filled) → (o >>= λ e. Some (copy_slots s.store task.address a t (overwrite t.slots n e.items))) ≡ Some f → f.store.funcs ≡ fs
      by_elem a t n None f e = absurd (let k = e in cc)
      by_elem a t n (Some i) f e = let g : copy_slots s.store task.address a t (overwrite t.slots n i.items) ≡ f = cc in rw (← g) (slots_filled fs s.store task.address a t (overwrite t.slots n i.items) h)

      by_table : (a n : ℕ) (o : Option Table) (f : Filled) → (o >>= λ t. slice_get s.store.elems task.address >>= λ e. Some (copy_slots s.store task.address a t (overwrite t.slots n e.items))) ≡ Some f → f.store.funcs ≡ fs
      by_table a n None f e = absurd (let k = e in cc)
      by_table a n (Some t) f e = by_elem a t n (slice_get s.store.elems task.address) f e

      by_index : (n : ℕ) (o : Option ℕ) (f : Filled) →
          (o >>= λ a. slice_get s.store.tables a >>= λ t. slice_get s.store.elems task.address >>= λ e. Some (copy_slots s.store task.address a t (overwrite t.slots n e.items))) ≡ Some f → f.store.funcs ≡ fs
      by_index n None f e = absurd (let k = e in cc)
      by_index n (Some a) f e = by_table a n (slice_get s.store.tables a) f e

      by_offset : (o : Option ℕ) (f : Filled) →
          (o >>= λ n. slice_get task.inst.tables x >>= λ a. slice_get s.store.tables a >>= λ t. slice_get s.store.elems task.address >>= λ e. Some (copy_slots s.store task.address a t (overwrite t.slots n e.items))) ≡ Some f → f.store.funcs ≡ fs
      by_offset None f e = absurd (let k = e in cc)
      by_offset (Some n) f e = by_index n (slice_get task.inst.tables x) f e

  data_keeps : (s : State) (task : PlacedSegment DataSeg) (mode : DataMode) → s.store.funcs ≡ fs → (run_data_with (value_in m) s.store task mode).store.funcs ≡ fs
  data_keeps s task data'.Passive h = h
  data_keeps s task (data'.Active x offset) h = or_trapped_has fs s.store _ h (λ f e. by_offset (value_in m offset >>= λ v. num_of W32 v) f e)
    where
      by_data : (a : ℕ) (k : Memory) (n : ℕ) (o : Option Data) (f : Filled) → (o >>= λ d. Some (copy_bytes s.store task.address a k (overwrite k.bytes n d.bytes))) ≡ Some f → f.store.funcs ≡ fs
      by_data a k n None f e = absurd (let g = e in cc)
      by_data a k n (Some d) f e = let g : copy_bytes s.store task.address a k (overwrite k.bytes n d.bytes) ≡ f = cc in rw (← g) (bytes_filled fs s.store task.address a k (overwrite k.bytes n d.bytes) h)

      by_memory : (a n : ℕ) (o : Option Memory) (f : Filled) → (o >>= λ k. slice_get s.store.datas task.address >>= λ d. Some (copy_bytes s.store task.address a k (overwrite k.bytes n d.bytes))) ≡ Some f → f.store.funcs ≡ fs
      by_memory a n None f e = absurd (let g = e in cc)
      by_memory a n (Some k) f e = by_data a k n (slice_get s.store.datas task.address) f e

      by_index : (n : ℕ) (o : Option ℕ) (f : Filled) →
          (o >>= λ a. slice_get s.store.mems a >>= λ k. slice_get s.store.datas task.address >>= λ d. Some (copy_bytes s.store task.address a k (overwrite k.bytes n d.bytes))) ≡ Some f → f.store.funcs ≡ fs
      by_index n None f e = absurd (let g = e in cc)
      by_index n (Some a) f e = by_memory a n (slice_get s.store.mems a) f e

      by_offset : (o : Option ℕ) (f : Filled) →
          (o >>= λ n. slice_get task.inst.mems x >>= λ a. slice_get s.store.mems a >>= λ k. slice_get s.store.datas task.address >>= λ d. Some (copy_bytes s.store task.address a k (overwrite k.bytes n d.bytes))) ≡ Some f → f.store.funcs ≡ fs
      by_offset None f e = absurd (let g = e in cc)
      by_offset (Some n) f e = by_index n (slice_get task.inst.mems x) f e

  with_elem_has : (s : State) (task : PlacedSegment ElemSeg) (mode : ElemMode) → s.store.funcs ≡ fs → HasFuncs fs (with_elem_mode m s task mode)
  with_elem_has s task elem.Passive h = h
  with_elem_has s task elem.Declarative h = h
  with_elem_has s task (elem.Active x offset) h = tried_has fs (first_held (elem_tests m s x offset (run_elem_with (value_in m) s.store task task.segment.mode)))
      (Finished (record s { store = (run_elem_with (value_in m) s.store task task.segment.mode).store; unknown = copied_slots s task.address x (place_in m offset) (length task.segment.items) })) (elem_keeps s task task.segment.mode h)

  with_data_has : (s : State) (task : PlacedSegment DataSeg) (mode : DataMode) → s.store.funcs ≡ fs → HasFuncs fs (with_data_mode m s task mode)
  with_data_has s task data'.Passive h = h
  with_data_has s task (data'.Active x offset) h = tried_has fs (first_held (data_tests m s x offset (run_data_with (value_in m) s.store task task.segment.mode) (Gives (Bytes x (place_in m offset) (length task.segment.bytes)))))
      (Finished (record s { store = (run_data_with (value_in m) s.store task task.segment.mode).store; written = written_after s.written (Gives (Bytes x (place_in m offset) (length task.segment.bytes))) })) (data_keeps s task task.segment.mode h)

  in_order_has : {A : Type 0} (f : State → A → Stage) → ((s : State) (x : A) → s.store.funcs ≡ fs → HasFuncs fs (f s x)) → (t : Stage) (xs : List A) → HasFuncs fs t → HasFuncs fs (in_order f t xs)
  in_order_has f k (Finished s) [] h = h
  in_order_has f k (Finished s) (x ∷ xs) h = in_order_has f k (f s x) xs (k s x h)
  in_order_has f k (Stopped w n) xs h = tt
  in_order_has f k (Going s es) xs h = tt

  segments_have : (s : State) → s.store.funcs ≡ fs → HasFuncs fs (with_segments m s)
  segments_have s h =
      in_order_has (with_data m) (λ s x k. with_data_has s x x.segment.mode k) (in_order (with_elem m) (Finished s) (segments_in 0 (own_inst m) (own_inst m).elems m.elems)) (segments_in 0 (own_inst m) (own_inst m).datas m.datas)
      (in_order_has (with_elem m) (λ s x k. with_elem_has s x x.segment.mode k) (Finished s) (segments_in 0 (own_inst m) (own_inst m).elems m.elems) h)

-- ---- the functions before any segment is copied ----

-- The functions are the imported ones, and then the code of each function that the module defines.
pub record FuncsBegin (m : Module) (fs : List Func) : Type 0 where
  pub defined : List Func
  pub code : all_there (new_func (own_inst m)) m.funcs ≡ Some defined
  pub is : fs ≡ filter_map (imported_func m) m.imports ++ defined

module _ (m : Module) where
  ended_has : (t : Stage) (fs : List Func) → is_finished t ≡ true → HasFuncs fs t → (unwrap_or (state_of t) no_state).store.funcs ≡ fs
  ended_has (Finished s) fs e h = h
  ended_has (Stopped w n) fs e h = absurd (let k = e in cc)
  ended_has (Going s es) fs e h = absurd (let k = e in cc)

  funcs_first : (o : Option (List Func)) → all_there (new_func (own_inst m)) m.funcs ≡ o → is_finished (filled_from m MOST_TURNS (state_at_first m MOST_TURNS)) ≡ true →
      FuncsBegin m (unwrap_or (state_of (filled_from m MOST_TURNS (state_at_first m MOST_TURNS))) no_state).store.funcs
  funcs_first None is e = absurd (let k = rw is at e in cc)
  funcs_first (Some defined) is e = record { defined = defined; code = is; is = by (all_there (global_with (value_in m)) m.globals) refl }
    where
      has : List Func
      has = filter_map (imported_func m) m.imports ++ defined

      started : (s : State) → s.store.funcs ≡ has → HasFuncs has (filled_from m MOST_TURNS (Some s))
      started s h = segments_have m has s h

      by_elems : (globals : List Global) → all_there (global_with (value_in m)) m.globals ≡ Some globals → (o : Option (List Elem)) → all_there (elem_with (value_in m)) m.elems ≡ o →
          (unwrap_or (state_of (filled_from m MOST_TURNS (state_at_first m MOST_TURNS))) no_state).store.funcs ≡ has
      by_elems globals g None f = absurd (let k = rw (is, g, f) at e in cc)
      by_elems globals g (Some elems) f = ended_has (filled_from m MOST_TURNS (state_at_first m MOST_TURNS)) has e (rw (is, g, f) (started _ refl))

      by : (o : Option (List Global)) → all_there (global_with (value_in m)) m.globals ≡ o → (unwrap_or (state_of (filled_from m MOST_TURNS (state_at_first m MOST_TURNS))) no_state).store.funcs ≡ has
      by None f = absurd (let k = rw (is, f) at e in cc)
      by (Some globals) f = by_elems globals f (all_there (elem_with (value_in m)) m.elems) refl

  one_memory : (b : Bool) (t : Stage) → is_finished (cond b (Stopped why.Memory MOST_TURNS) t) ≡ true → cond b (Stopped why.Memory MOST_TURNS) t ≡ t
  one_memory true t e = absurd (let k = e in cc)
  one_memory false t e = refl

  pub funcs_begin : is_finished (instantiated m MOST_TURNS) ≡ true → FuncsBegin m (base_of m).store.funcs
  unfolding base_of
  funcs_begin e =
      let same = one_memory (nat_lt 1 (length (memories_of m))) (filled_from m MOST_TURNS (state_at_first m MOST_TURNS)) e in
      subst (λ t. FuncsBegin m (unwrap_or (state_of t) no_state).store.funcs) (sym same) (funcs_first (all_there (new_func (own_inst m)) m.funcs) refl (subst (λ t. is_finished t ≡ true) same e))

-- ---- each function ----

module _ (m : Module) where
  -- The function is the environment's own, as each import is.
  abbrev IsOwn : Func → Type 0
  IsOwn f = (q : Pair × FuncType) × (f ≡ Own q.0 q.1)

  own_place : (i : Import) (is : List Import) (f : Func) (q : Pair × FuncType) → imported_func m i ≡ Some (Own q.0 q.1) → ((n : ℕ) → slice_get (filter_map (imported_func m) is) n ≡ Some f → IsOwn f) → (n : ℕ) →
      slice_get (filter_map (imported_func m) (i ∷ is)) n ≡ Some f → IsOwn f
  own_place i is f q g rest zero e = let k = rw g at e in (q, cc)
  own_place i is f q g rest (suc n) e = rest n (rw g at e)

  own_type : (i : Import) (is : List Import) (f : Func) (ty : ℕ) → func_of i.desc ≡ Some ty → (o : Option FuncType) → slice_get m.types ty ≡ o → ((n : ℕ) → slice_get (filter_map (imported_func m) is) n ≡ Some f → IsOwn f) → (n : ℕ) →
      slice_get (filter_map (imported_func m) (i ∷ is)) n ≡ Some f → IsOwn f
  own_type i is f ty g None h rest n e = rest n (rw (g, h) at e)
  own_type i is f ty g (Some t) h rest n e = own_place i is f (pair_of i, t) (rw (g, h)) rest n e

  own_at_import : (i : Import) (is : List Import) (f : Func) (o : Option ℕ) → func_of i.desc ≡ o → ((n : ℕ) → slice_get (filter_map (imported_func m) is) n ≡ Some f → IsOwn f) → (n : ℕ) →
      slice_get (filter_map (imported_func m) (i ∷ is)) n ≡ Some f → IsOwn f
  own_at_import i is f None g rest n e = rest n (rw g at e)
  own_at_import i is f (Some ty) g rest n e = own_type i is f ty g (slice_get m.types ty) refl rest n e

  pub import_own : (is : List Import) (n : ℕ) (f : Func) → slice_get (filter_map (imported_func m) is) n ≡ Some f → (q : Pair × FuncType) × (f ≡ Own q.0 q.1)
  import_own [] n f e = absurd (let k = e in cc)
  import_own (i ∷ is) n f e = own_at_import i is f (func_of i.desc) refl (λ k. import_own is k f) n e

-- The functions of a module are its imports and its definitions.
pub funcs_size : (m : Module) → length (funcs_of m) ≡ length (imported_funcs m.imports) + length m.funcs
funcs_size m = length-append (imported_funcs m.imports) (map (λ f. f.ty) m.funcs) ∙ ap (λ k. length (imported_funcs m.imports) + k) (length-map m.funcs (λ f. f.ty))

-- The properties of the functions that the machine needs.
pub record FuncsAre (m : Module) (fs : List Func) : Type 0 where
  pub many : length fs ≡ length (funcs_of m)
  pub own : (n : ℕ) → n < length (imported_funcs m.imports) → (q : Pair × FuncType) × (slice_get fs n ≡ Some (Own q.0 q.1))
  pub code : (n : ℕ) (f : FuncDef) → slice_get m.funcs n ≡ Some f → (t : FuncType) × (slice_get m.types f.ty ≡ Some t) × (slice_get fs (length (imported_funcs m.imports) + n) ≡ Some (Code t (own_inst m) (declared f.locals) f.body))

-- A defined function is code of the module's instance, with the type and the locals that it
-- declares.
code_of : (m : Module) (f : FuncDef) (o : Option FuncType) (y : Func) → slice_get m.types f.ty ≡ o → new_func (own_inst m) f ≡ Some y → (t : FuncType) × (slice_get m.types f.ty ≡ Some t) × (y ≡ Code t (own_inst m) (declared f.locals) f.body)
code_of m f None y e g = absurd (let k = rw e at g in cc)
code_of m f (Some t) y e g = let k = rw e at g in (t, e, cc)

pub funcs_are : (m : Module) (fs : List Func) → ImportsAreTyped m → FuncsBegin m fs → FuncsAre m fs
funcs_are m fs h b =
    let imports = filter_map (imported_func m) m.imports in
    let n = h.many in
    let whole : length fs ≡ length imports + length b.defined = ap length b.is ∙ length-append imports b.defined in
    let defs : length b.defined ≡ length m.funcs = all_there_length (new_func (own_inst m)) m.funcs b.defined b.code in
    record {
      many = omega (arith, whole, defs, funcs_size m, n);
      own = λ i lt.
          let there = slice_get_there imports i (omega (arith, lt, n)) in
          let o = import_own m m.imports i there.0 there.1 in
          (o.0, ap (λ l. slice_get l i) b.is ∙ (append_left imports b.defined i (omega (arith, lt, n)) ∙ (there.1 ∙ ap Some o.1)));
      code = λ i f e.
          let y = all_there_at (new_func (own_inst m)) m.funcs b.defined b.code i f e in
          let c = code_of m f (slice_get m.types f.ty) y.0 refl y.1 in
          (c.0, c.1, ap (λ l. slice_get l (length (imported_funcs m.imports) + i)) b.is ∙ (ap (λ k. slice_get (imports ++ b.defined) (k + i)) (sym n) ∙ (append_right imports b.defined i ∙ (y.2 ∙ ap Some c.2))));
    }

-- ---- functions that the machine calls ----

module _ (m : Module) (k : Kept) (v : ImportsAreTyped m) (f : MachineFits m k) where
  abbrev pub funcs_now : List Func
  funcs_now = (store_in m k).funcs

  pub funcs_now_are : FuncsAre m funcs_now
  funcs_now_are = funcs_are m funcs_now v (funcs_begin m f.ready)

  counted : k.imports.funcs ≡ length (imported_funcs m.imports)
  counted = ap (λ i. i.funcs) f.imports

  pub own_call : (func : ℕ) → func < k.imports.funcs → (q : Pair × FuncType) × (slice_get funcs_now func ≡ Some (Own q.0 q.1))
  own_call func lt = funcs_now_are.own func (omega (arith, lt, counted))

  pub code_call : (func : ℕ) (g : FuncDef) → k.imports.funcs ≤ func → slice_get m.funcs (func - k.imports.funcs) ≡ Some g →
      (t : FuncType) × (slice_get m.types g.ty ≡ Some t) × (slice_get funcs_now func ≡ Some (Code t (own_inst m) (declared g.locals) g.body))
  code_call func g le e =
      let c = funcs_now_are.code (func - k.imports.funcs) g e in
      let at : length (imported_funcs m.imports) + (func - k.imports.funcs) ≡ func = omega (arith, le, counted) in
      (c.0, c.1, ap (slice_get funcs_now) (sym at) ∙ c.2)

  pub no_call : (func : ℕ) → k.imports.funcs ≤ func → slice_get m.funcs (func - k.imports.funcs) ≡ None → slice_get funcs_now func ≡ None
  no_call func le e =
      slice_get_past funcs_now func (omega (arith, le, counted, none_past m.funcs (func - k.imports.funcs) (sym e), funcs_size m, funcs_now_are.many))

  -- The called function is code of its type.
  module _ (func : ℕ) (g : FuncDef) (le : k.imports.funcs ≤ func) (is : slice_get m.funcs (func - k.imports.funcs) ≡ Some g) where
    pub callee_is : (t : FuncType) → slice_get m.types g.ty ≡ Some t → slice_get funcs_now func ≡ Some (Code t (own_inst m) (declared g.locals) g.body)
    callee_is t e = let c = code_call func g le is in let same : c.0 ≡ t = same_Some c.0 t (sym c.1 ∙ e) in rw same at c.2

    -- The called function has a type.
    pub callee_typed : slice_get m.types g.ty ≡ None → ⊥
    callee_typed e = let c = code_call func g le is in none-some c.0 (sym e ∙ c.1)
