-- The store after the instantiation of a module with valid items is related to itself.
use Rattle.base_lists.proofs.Common.{◌≡◌, ℕ, ◌*◌, ◌<◌, arith, List, [], ◌∷◌, length, map, Bool, true, false, Option, Some, None, slice_get, slice_set, refl, subst, nat_lt, cons_option, filter_map, length-append, length-map, length-set, same_Some, all_there_length, numbers_is, append_rel, copies_rel}
use Rattle.base_lists.proofs.Common.{get_rel, overwrite_rel, put_rel, all_rel, maps_rel, opt_self, self_rel}
use Rattle.base_lists.specs.Options.{◌>>=◌, all_there}
use Rattle.wasm_tree_spec.specs.Prelude.{Functions, GlobalType, Limits, TableType, ConstExpr, DataMode, DataSeg, ElemMode, ElemSeg, GlobalDef, Import, Module, func_of, imported_funcs, imported_tables, imported_memories, imported_globals, memories_of}
use Rattle.wasm_tree.specs.declared.module.ConstExpr.TheVariants as const
use Rattle.wasm_tree.specs.declared.module.DataMode.TheVariants as data'
use Rattle.wasm_tree.specs.declared.module.ElemMode.TheVariants as elem
use Rattle.wasm_tree.specs.declared.module.Func.{Func as FuncDef}
use Rattle.wasm_num.specs.Operations.{W32}
use Rattle.wasm_valid.specs.Prelude.{ItemsHold}
use Rattle.wasm_meaning.specs.Prelude.{Gives, copies, overwrite, RefVal, Val, Num, Ref, Func, Table, Memory, Global, Elem, Data, Store, num_of, ref_of, null_of, zero_of, no_bytes, no_items, Filled, PlacedSegment, copy_slots, copy_bytes, elem_with, global_with, joined_stores, new_elem, new_func}
use Rattle.wasm_meaning.specs.Prelude.{or_trapped, run_elem_with, run_data_with, segments_in, Bytes}
use Rattle.run_simulation.specs.Prelude.{ListRel, nil, cons, OptRel, none, some, RefRel, ValRel, number, reference, FuncRel, own, defined, TableRel, GlobalRel, ElemRel, func, CodeIsRelatedToItself}
use Rattle.eval_spec.specs.Prelude.{State, Stage, Going, Stopped, Finished, Test, first_held, stopped_or, written_after, copied_slots, data_tests, elem_tests, place_in, filled_from, imported_func, imported_store, in_order, instantiated, own_inst, state_at_first, value_in, with_data, with_data_mode}
use Rattle.eval_spec.specs.Prelude.{with_elem, with_elem_mode, with_segments}
use Rattle.eval_proof.specs.GlobalValues.{GlobalsAreTyped}
use Rattle.eval_proof.proofs.ImportTypes.{imports_are_typed}
use Rattle.eval_proof.proofs.InitialGlobals.{first_typed}
use Rattle.eval_proof.proofs.SelfRelation.{IsStored, R, count_in, itself, names_itself, null_itself, to_itself, zero_itself}

-- ---- lists that are related to themselves ----

-- An optional element is related to itself if the element is.
if_there : {A : Type 0} (P : A → A → Type 0) (o : Option A) → ((x : A) → o ≡ Some x → P x x) → OptRel P o o
if_there P None h = none
if_there P (Some x) h = some (h x refl)

-- The results that a function gives for all elements of a list are related to themselves if each of
-- them is.
from_all : {A B : Type 0} {P : B → B → Type 0} (f : A → Option B) (xs : List A) → ((x : A) (y : B) → f x ≡ Some y → P y y) → (ys : List B) → all_there f xs ≡ Some ys → ListRel P ys ys
from_all {P = P} f xs h ys e = opt_self (all_rel (self_rel xs (λ x. if_there P (f x) (h x)))) e

from_some : {A B : Type 0} {P : B → B → Type 0} (f : A → Option B) (xs : List A) → ((x : A) (y : B) → f x ≡ Some y → P y y) → ListRel P (filter_map f xs) (filter_map f xs)
from_some f [] h = nil
from_some {A} {B} {P} f (x ∷ xs) h = by (f x) (h x) (from_some f xs h)
  where
    by : (o : Option B) → ((y : B) → o ≡ Some y → P y y) → ListRel P (filter_map f xs) (filter_map f xs) → ListRel P (cons_option o (filter_map f xs)) (cons_option o (filter_map f xs))
    by None k r = r
    by (Some y) k r = cons (k y refl) r

-- The result of two look-ups in a row has a property if it has it for any result of the first.
then_holds : {A B : Type 0} (P : B → Type 0) (o : Option A) (f : A → Option B) → ((a : A) → o ≡ Some a → (b : B) → f a ≡ Some b → P b) → (b : B) → (o >>= f) ≡ Some b → P b
then_holds P None f h b e = absurd (let k = e in cc)
then_holds P (Some a) f h b e = h a refl b e

-- The store is related to itself, and its globals have their types.
abbrev pub IsMade : Module → Store → Type 0
IsMade m s = IsStored m s × GlobalsAreTyped m s

abbrev pub Stored : Module → Stage → Type 0
Stored m (Finished s) = IsMade m s.store
Stored m (Stopped x left) = Unit {0}
Stored m (Going s es) = ⊥

module _ (m : Module) (coded : CodeIsRelatedToItself) where
  -- ---- constant expressions ----

  value_itself : (x : ConstExpr) (v : Val) → value_in m x ≡ Some v → ValRel (R m) v v
  value_itself (const.I32 n) v e = subst (λ w. ValRel (R m) w w) (same_Some _ v e) number
  value_itself (const.I64 n) v e = subst (λ w. ValRel (R m) w w) (same_Some _ v e) number
  value_itself (const.Null t) v e = subst (λ w. ValRel (R m) w w) (same_Some _ v e) (reference (null_itself m t))
  value_itself (const.Func f) v e = then_holds (λ w. ValRel (R m) w w) (slice_get (own_inst m).funcs f) _ (λ a i w g.
      let k = numbers_is (count_in m Functions) f a i in subst (λ w. ValRel (R m) w w) (same_Some _ w g) (reference (func (some (to_itself m Functions a (subst (λ x. x < count_in m Functions) k.1 k.0)))))) v e
  value_itself (const.Global x) v e = then_holds (λ w. ValRel (R m) w w) (slice_get (own_inst m).globals x) _ (λ a i w g.
      then_holds (λ w. ValRel (R m) w w) (slice_get (imported_store m).globals a) _ (λ z j u q.
      subst (λ w. ValRel (R m) w w) (same_Some _ u q) (opt_self {P = λ g h. ValRel (R m) g.value h.value} (get_rel
      (maps_rel (λ (t : GlobalType). record { ty = t; value = zero_of t.ty }) (λ (t : GlobalType). record { ty = t; value = zero_of t.ty }) (self_rel (imported_globals m.imports) (λ t. zero_itself m t.ty))) a) j)) w g) v e

  -- ---- the parts that a module defines ----

  code_itself : (f : FuncDef) (y : Func) → new_func (own_inst m) f ≡ Some y → FuncRel (R m) y y
  code_itself f y e = then_holds (λ w. FuncRel (R m) w w) (slice_get m.types f.ty) _ (λ t i w g. subst (λ w. FuncRel (R m) w w) (same_Some _ w g) (defined (coded (itself m) (itself m) [] (own_inst m) f.body (names_itself m)))) y e

  import_itself : (i : Import) (y : Func) → imported_func m i ≡ Some y → FuncRel (R m) y y
  import_itself i y e = then_holds (λ w. FuncRel (R m) w w) (func_of i.desc) _ (λ ty j w g. then_holds (λ w. FuncRel (R m) w w) (slice_get m.types ty) _ (λ t k u q. subst (λ w. FuncRel (R m) w w) (same_Some _ u q) own) w g) y e

  global_itself : (g : GlobalDef) (y : Global) → global_with (value_in m) g ≡ Some y → GlobalRel (R m) y y
  global_itself g y e = then_holds (λ w. GlobalRel (R m) w w) (value_in m g.init) _ (λ v i w q. subst (λ w. GlobalRel (R m) w w) (same_Some _ w q) (record { type = refl; value = value_itself g.init v i })) y e

  ref_itself : (r : RefVal) (v : Val) → ref_of v ≡ Some r → ValRel (R m) v v → RefRel (R m) r r
  ref_itself r (Num w n) e h = absurd (let k = e in cc)
  ref_itself r (Ref x) e (reference h) = subst (λ y. RefRel (R m) y y) (same_Some x r e) h

  item_itself : (x : ConstExpr) (r : RefVal) → (value_in m x >>= ref_of) ≡ Some r → RefRel (R m) r r
  item_itself x r e = then_holds (λ w. RefRel (R m) w w) (value_in m x) ref_of (λ v i w q. ref_itself w v q (value_itself x v i)) r e

  mode_itself : (mode : ElemMode) (items : List RefVal) → ListRel (RefRel (R m)) items items → ElemRel (R m) (new_elem mode items) (new_elem mode items)
  mode_itself elem.Declarative items h = record { items = nil }
  mode_itself elem.Passive items h = record { items = h }
  mode_itself (elem.Active t o) items h = record { items = h }

  elem_itself : (x : ElemSeg) (y : Elem) → elem_with (value_in m) x ≡ Some y → ElemRel (R m) y y
  elem_itself x y e = then_holds (λ w. ElemRel (R m) w w) (all_there (λ x. value_in m x >>= ref_of) x.items) _ (λ items i w q.
      subst (λ w. ElemRel (R m) w w) (same_Some _ w q) (mode_itself x.mode items (from_all (λ x. value_in m x >>= ref_of) x.items item_itself items i))) y e

  -- ---- the store before any segment is copied ----

  module _ (v : ItemsHold m) (fs : List Func) (gs : List Global) (es : List Elem) (ef : all_there (new_func (own_inst m)) m.funcs ≡ Some fs) (eg : all_there (global_with (value_in m)) m.globals ≡ Some gs) (ee : all_there (elem_with (value_in m)) m.elems ≡ Some es) where
    abbrev first : Store
    first = joined_stores (imported_store m) (record {
      funcs = fs;
      globals = gs;
      elems = es;
      tables = map (λ t. record { ty = t.ty; most = t.limits.max; slots = copies t.limits.min (null_of t.ty) }) m.tables;
      mems = map (λ l. record { most = l.max; pages = l.min; bytes = copies (65536 * l.min) 0 }) m.mems;
      datas = map (λ d. record { bytes = d.bytes; dropped = false }) m.datas;
    })

    first_stored : IsStored m first
    first_stored =
        let imports = (imports_are_typed m v).many in
        let defs = all_there_length (new_func (own_inst m)) m.funcs fs ef in
        let globals = all_there_length (global_with (value_in m)) m.globals gs eg in
        let elems = all_there_length (elem_with (value_in m)) m.elems es ee in
        record {
          funcs = append_rel (from_some (imported_func m) m.imports import_itself) (from_all (new_func (own_inst m)) m.funcs code_itself fs ef);
          tables = append_rel (maps_rel _ _ (self_rel (imported_tables m.imports) (λ t. record { type = refl; most = refl; slots = nil }))) (maps_rel _ _ (self_rel m.tables (λ t. record { type = refl; most = refl; slots = copies_rel _ _ t.limits.min (null_itself m t.ty) })));
          globals = append_rel (maps_rel _ _ (self_rel (imported_globals m.imports) (λ t. record { type = refl; value = zero_itself m t.ty }))) (from_all (global_with (value_in m)) m.globals global_itself gs eg);
          elems = from_all (elem_with (value_in m)) m.elems elem_itself es ee;
          mems = self_rel _ (λ x. refl);
          datas = self_rel _ (λ x. refl);
          many_funcs = omega (arith, imports, defs, length-append (imported_funcs m.imports) (map (λ f. f.ty) m.funcs), length-map m.funcs (λ f. f.ty), length-append (filter_map (imported_func m) m.imports) fs);
          many_tables = omega (
            arith,
            length-append (imported_tables m.imports) m.tables,
            length-append (imported_store m).tables (map (λ t. record { ty = t.ty; most = t.limits.max; slots = copies t.limits.min (null_of t.ty) }) m.tables),
            length-map {B = Table} (imported_tables m.imports) (λ (t : TableType). record { ty = t.ty; most = t.limits.max; slots = [] }),
            length-map {B = Table} m.tables (λ (t : TableType). record { ty = t.ty; most = t.limits.max; slots = copies t.limits.min (null_of t.ty) }),
          );
          many_mems = omega (
            arith,
            length-append (imported_memories m.imports) m.mems,
            length-append (imported_store m).mems (map (λ l. record { most = l.max; pages = l.min; bytes = copies (65536 * l.min) 0 }) m.mems),
            length-map {B = Memory} (imported_memories m.imports) (λ (l : Limits). record { most = l.max; pages = 0; bytes = [] }),
            length-map {B = Memory} m.mems (λ (l : Limits). record { most = l.max; pages = l.min; bytes = copies (65536 * l.min) 0 }),
          );
          many_globals = omega (
            arith,
            globals,
            length-append (imported_globals m.imports) (map (λ g. g.ty) m.globals),
            length-map m.globals (λ g. g.ty),
            length-append (imported_store m).globals gs,
            length-map {B = Global} (imported_globals m.imports) (λ (t : GlobalType). record { ty = t; value = zero_of t.ty }),
          );
          many_elems = omega (arith, elems);
          many_datas = omega (arith, length-map {B = Data} m.datas (λ (d : DataSeg). record { bytes = d.bytes; dropped = false }));
          few_funcs = omega (arith, imports, defs, length-append (imported_funcs m.imports) (map (λ f. f.ty) m.funcs), length-map m.funcs (λ f. f.ty), length-append (filter_map (imported_func m) m.imports) fs);
        }

  -- ---- segments ----

  tried_stored : (o : Option Test) (t : Stage) → Stored m t → Stored m (stopped_or o t)
  tried_stored None t h = h
  tried_stored (Some x) t h = tt

  filled_stored : (s : Store) (o : Option Filled) → IsMade m s → ((f : Filled) → o ≡ Some f → IsMade m f.store) → IsMade m (or_trapped s o).store
  filled_stored s None h k = h
  filled_stored s (Some f) h k = k f refl

  slots_stored : (s : Store) (e a : ℕ) (t : Table) (o : Option (List RefVal)) → IsMade m s → ((slots : List RefVal) → o ≡ Some slots → TableRel (R m) (record t { slots = slots }) (record t { slots = slots })) → IsMade m (copy_slots s e a t o).store
  slots_stored s e a t None h k = h
  slots_stored s e a t (Some slots) h k =
      let tables : length (slice_set s.tables a (record t { slots = slots })) ≡ length s.tables = length-set s.tables a (record t { slots = slots }) in (
        record {
          funcs = h.0.funcs;
          tables = put_rel h.0.tables a (k slots refl);
          globals = h.0.globals;
          elems = put_rel h.0.elems e (record { items = nil });
          mems = h.0.mems;
          datas = h.0.datas;
          many_funcs = h.0.many_funcs;
          many_tables = let le = h.0.many_tables in omega (arith, tables, le);
          many_mems = h.0.many_mems;
          many_globals = h.0.many_globals;
          many_elems = let le = h.0.many_elems in omega (arith, length-set s.elems e no_items, le);
          many_datas = h.0.many_datas;
          few_funcs = h.0.few_funcs;
        },
        h.1,
      )

  bytes_stored : (s : Store) (e a : ℕ) (x : Memory) (o : Option (List ℕ)) → IsMade m s → IsMade m (copy_bytes s e a x o).store
  bytes_stored s e a x None h = h
  bytes_stored s e a x (Some bytes) h = (
    record {
      funcs = h.0.funcs;
      tables = h.0.tables;
      globals = h.0.globals;
      elems = h.0.elems;
      mems = put_rel h.0.mems a refl;
      datas = put_rel h.0.datas e refl;
      many_funcs = h.0.many_funcs;
      many_tables = h.0.many_tables;
      many_mems = let le = h.0.many_mems in omega (arith, length-set s.mems a (record x { bytes = bytes }), le);
      many_globals = h.0.many_globals;
      many_elems = h.0.many_elems;
      many_datas = let le = h.0.many_datas in omega (arith, length-set s.datas e no_bytes, le);
      few_funcs = h.0.few_funcs;
    },
    h.1,
  )

  elem_stored : (s : State) (task : PlacedSegment ElemSeg) (mode : ElemMode) → IsMade m s.store → IsMade m (run_elem_with (value_in m) s.store task mode).store
  elem_stored s task elem.Passive h = h
  elem_stored s task elem.Declarative h = h
  elem_stored s task (elem.Active x offset) h = filled_stored s.store _ h (λ f e.
      then_holds (λ f. IsMade m f.store) (value_in m offset >>= λ v. num_of W32 v) _ (λ n _ f e.
      then_holds (λ f. IsMade m f.store) (slice_get task.inst.tables x) _ (λ a _ f e.
      then_holds (λ f. IsMade m f.store) (slice_get s.store.tables a) _ (λ t it f e.
      then_holds (λ f. IsMade m f.store) (slice_get s.store.elems task.address) _ (λ i ii f e.
      let tr = opt_self (get_rel h.0.tables a) it in let ir = opt_self (get_rel h.0.elems task.address) ii in
      subst (λ f. IsMade m f.store) (same_Some _ f e) (slots_stored s.store task.address a t (overwrite t.slots n i.items) h (λ slots k. record { type = refl; most = refl; slots = opt_self (overwrite_rel n tr.slots ir.items) k }))) f e) f e) f e) f e)

  data_stored : (s : State) (task : PlacedSegment DataSeg) (mode : DataMode) → IsMade m s.store → IsMade m (run_data_with (value_in m) s.store task mode).store
  data_stored s task data'.Passive h = h
  data_stored s task (data'.Active x offset) h = filled_stored s.store _ h (λ f e.
      then_holds (λ f. IsMade m f.store) (value_in m offset >>= λ v. num_of W32 v) _ (λ n _ f e.
      then_holds (λ f. IsMade m f.store) (slice_get task.inst.mems x) _ (λ a _ f e.
      then_holds (λ f. IsMade m f.store) (slice_get s.store.mems a) _ (λ k _ f e.
      then_holds (λ f. IsMade m f.store) (slice_get s.store.datas task.address) _ (λ d _ f e.
      subst (λ f. IsMade m f.store) (same_Some _ f e) (bytes_stored s.store task.address a k (overwrite k.bytes n d.bytes) h)) f e) f e) f e) f e)

  with_elem_stored : (s : State) (task : PlacedSegment ElemSeg) (mode : ElemMode) → IsMade m s.store → Stored m (with_elem_mode m s task mode)
  with_elem_stored s task elem.Passive h = h
  with_elem_stored s task elem.Declarative h = h
  with_elem_stored s task (elem.Active x offset) h = tried_stored (first_held (elem_tests m s x offset (run_elem_with (value_in m) s.store task task.segment.mode)))
      (Finished (record s { store = (run_elem_with (value_in m) s.store task task.segment.mode).store; unknown = copied_slots s task.address x (place_in m offset) (length task.segment.items) })) (elem_stored s task task.segment.mode h)

  with_data_stored : (s : State) (task : PlacedSegment DataSeg) (mode : DataMode) → IsMade m s.store → Stored m (with_data_mode m s task mode)
  with_data_stored s task data'.Passive h = h
  with_data_stored s task (data'.Active x offset) h = tried_stored (first_held (data_tests m s x offset (run_data_with (value_in m) s.store task task.segment.mode) (Gives (Bytes x (place_in m offset) (length task.segment.bytes)))))
      (Finished (record s { store = (run_data_with (value_in m) s.store task task.segment.mode).store; written = written_after s.written (Gives (Bytes x (place_in m offset) (length task.segment.bytes))) })) (data_stored s task task.segment.mode h)

  in_order_stored : {A : Type 0} (f : State → A → Stage) → ((s : State) (x : A) → IsMade m s.store → Stored m (f s x)) → (t : Stage) (xs : List A) → Stored m t → Stored m (in_order f t xs)
  in_order_stored f k (Finished s) [] h = h
  in_order_stored f k (Finished s) (x ∷ xs) h = in_order_stored f k (f s x) xs (k s x h)
  in_order_stored f k (Stopped w n) xs h = tt
  in_order_stored f k (Going s es) xs h = elim h [ ]

  segments_stored : (s : State) → IsMade m s.store → Stored m (with_segments m s)
  segments_stored s h =
      in_order_stored (with_data m) (λ s x k. with_data_stored s x x.segment.mode k) (in_order (with_elem m) (Finished s) (segments_in 0 (own_inst m) (own_inst m).elems m.elems)) (segments_in 0 (own_inst m) (own_inst m).datas m.datas)
      (in_order_stored (with_elem m) (λ s x k. with_elem_stored s x x.segment.mode k) (Finished s) (segments_in 0 (own_inst m) (own_inst m).elems m.elems) h)

  module _ (v : ItemsHold m) (turns : ℕ) where
    by_elems : (fs : List Func) (gs : List Global) → all_there (new_func (own_inst m)) m.funcs ≡ Some fs → all_there (global_with (value_in m)) m.globals ≡ Some gs → (o : Option (List Elem)) → all_there (elem_with (value_in m)) m.elems ≡ o → Stored m (filled_from m turns (state_at_first m turns))
    by_elems fs gs ef eg None ee = rw (ef, eg, ee) tt
    by_elems fs gs ef eg (Some es) ee = rw (ef, eg, ee) (segments_stored _ (first_stored v fs gs es ef eg ee, first_typed m v gs eg))

    by_globals : (fs : List Func) → all_there (new_func (own_inst m)) m.funcs ≡ Some fs → (o : Option (List Global)) → all_there (global_with (value_in m)) m.globals ≡ o → Stored m (filled_from m turns (state_at_first m turns))
    by_globals fs ef None eg = rw (ef, eg) tt
    by_globals fs ef (Some gs) eg = by_elems fs gs ef eg (all_there (elem_with (value_in m)) m.elems) refl

    by_funcs : (o : Option (List Func)) → all_there (new_func (own_inst m)) m.funcs ≡ o → Stored m (filled_from m turns (state_at_first m turns))
    by_funcs None ef = rw ef tt
    by_funcs (Some fs) ef = by_globals fs ef (all_there (global_with (value_in m)) m.globals) refl

    by_count : (b : Bool) → nat_lt 1 (length (memories_of m)) ≡ b → Stored m (instantiated m turns)
    by_count true e = rw e tt
    by_count false e = rw e (by_funcs (all_there (new_func (own_inst m)) m.funcs) refl)

    pub instantiated_stored : Stored m (instantiated m turns)
    instantiated_stored = by_count (nat_lt 1 (length (memories_of m))) refl
