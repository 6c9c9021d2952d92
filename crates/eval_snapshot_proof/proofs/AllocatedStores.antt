-- The stores that are allocated for the quiet run, and for the module with additional functions in
-- an environment, are related except for what is unknown at first.
use Rattle.base_lists.proofs.Common.{◌≡◌, ◌∙◌, sym, ap, subst, refl, ℕ, zero, suc, ◌+◌, ◌<◌, List, [], ◌∷◌, map, length, Bool, true, false, not, Option, Some, None, arith, slice_get, option_and_then, get_or, nat_eq, ◌&&◌, and_from, eq-eqb, not-true, get_or_from_slice_get, same_Some, slice_get_past}
use Rattle.base_lists.proofs.Common.{slice_get_within, place_there, places_many, numbers_is, all_there_at, all_there_length, and_then_is, append_at_left, append_right, map_at, slice_get_none, slice_get_there, length-map, copies_rel, get_rel, both_at, opt_at, opt_both}
use Rattle.base_lists.specs.Members.{is_among}
use Rattle.std.proofs.lemmas.List.Folds.{list_any_at}
use Rattle.base_lists.specs.Places.{places}
use Rattle.wasm_tree_spec.specs.Prelude.{Space, Tables, Memories, Globals, ElementSegments, DataSegments, ConstExpr, ElemMode, ElemSeg, GlobalDef, Module, imported_globals, imported_memories, imported_tables}
use Rattle.wasm_tree.specs.declared.module.ElemMode.TheVariants as elem
use Rattle.wasm_tree.specs.declared.module.Func as tree
use Rattle.wasm_meaning.specs.Prelude.{RefVal, Inst, Store, Global, Elem, null_of, ref_of, imports_of, Environment, own_globals, own_memories, own_tables, all_there, defined_count, elem_with, global_with, joined_stores, new_elem, own_count, own_store, space}
use Rattle.run_simulation.specs.Prelude.{Pairing, OptRel, none, some, BothRel, RefRel, is_written, GlobalOff, RefsOff, StoreRelOff, TableOff, is_place_among}
use Rattle.index_remap_proof.specs.Indices.{TreeNamesOnly, with_entry}
use Rattle.world_simulation.specs.Prelude.{one, new_memory, new_table, AddsWith, SpaceEntry, IsInst, defines, imports, new_data}
use Rattle.world_simulation.proofs.EnvironmentEntities.{null_rel}
use Rattle.world_simulation.proofs.AllocatedStores.{own_same, ref_rel, type_same}
use Rattle.eval_spec.specs.Prelude.{imported_store, own_inst, reads_global, unknown_at_first, unknown_items, value_in}
use Rattle.eval_snapshot_proof.specs.QuietRunAddresses.{addresses_in}
use Rattle.eval_snapshot_proof.proofs.AddedFunctions.{with_funcs}
use Rattle.eval_snapshot_proof.proofs.NamedIndices.{NamingLaws, each_index}
use Rattle.eval_snapshot_proof.proofs.AllocatedFunctions.{behind, funcs_related}
use Rattle.eval_snapshot_proof.proofs.IndexRelation.{defined, named}
use Rattle.eval_snapshot_proof.proofs.Counterparts.{R, value_alike, value_there}

-- ---- what is unknown at first ----

pub place_among_at : (xs : List (ℕ × ℕ)) (n a p : ℕ) → slice_get xs n ≡ Some (a, p) → is_place_among xs a p ≡ true
place_among_at xs n a p h =
    let e = get_or_from_slice_get xs n (a, p) (0, 0) h in
    list_any_at (λ x. nat_eq x.0 a && nat_eq x.1 p) xs n (0, 0) (slice_get_within xs n (a, p) h)
    (ap (λ (x : ℕ × ℕ). nat_eq x.0 a && nat_eq x.1 p) e ∙ and_from (nat_eq a a) (nat_eq p p) (eq-eqb a a refl) (eq-eqb p p refl))

-- A global whose initialiser reads a global is among those that are unknown at first.
global_unknown : (gs : List GlobalDef) (from j : ℕ) (g : GlobalDef) → slice_get gs j ≡ Some g → reads_global g.init ≡ true → is_among (places (λ g. reads_global g.init) gs from) (from + j) ≡ true
global_unknown gs from j g h r =
    let xs = places (λ g. reads_global g.init) gs from in
    let x = place_there (λ g. reads_global g.init) gs from j g h r in
    list_any_at (nat_eq (from + j)) xs x.0 0 (slice_get_within xs x.0 (from + j) x.1) (eq-eqb (from + j) (get_or xs x.0 0) (sym (get_or_from_slice_get xs x.0 (from + j) 0 x.1)))

global_known : (gs : List GlobalDef) (from j n : ℕ) (g : GlobalDef) → n ≡ from + j → slice_get gs j ≡ Some g → not (is_among (places (λ g. reads_global g.init) gs from) n) ≡ true →
    reads_global g.init ≡ false
global_known gs from j n g e h k = by (reads_global g.init) refl
  where
    by : (b : Bool) → reads_global g.init ≡ b → b ≡ false
    by false r = refl
    by true r = sym (global_unknown gs from j g h r) ∙ ap (is_among (places (λ g. reads_global g.init) gs from)) (sym e) ∙ not-true _ k

-- An item of an element segment that reads a global is among those that are unknown at first.
item_unknown : (from : ℕ) (es : List ElemSeg) (j p : ℕ) (e : ElemSeg) (x : ConstExpr) → slice_get es j ≡ Some e → slice_get e.items p ≡ Some x → reads_global x ≡ true →
    (n : ℕ) × (slice_get (unknown_items from es) n ≡ Some (from + j, p))
item_unknown from [] j p e x h k r = absurd (let q = h in cc)
item_unknown from (d ∷ es) zero p e x h k r =
    let same = same_Some d e h in
    let c = place_there reads_global d.items 0 p x (ap (λ (d : ElemSeg). slice_get d.items p) same ∙ k) r in
    let z : 0 + p ≡ p = omega arith in
    let y : from ≡ from + 0 = omega arith in (
      c.0,
      append_at_left (map (λ k. (from, k)) (places reads_global d.items 0)) (unknown_items (from + 1) es) c.0 (from + 0, p)
          (map_at (λ k. (from, k)) (places reads_global d.items 0) c.0 (0 + p) c.1 ∙ ap (λ q. Some (from, q)) z ∙ ap (λ q. Some (q, p)) y),
    )
item_unknown from (d ∷ es) (suc j) p e x h k r =
    let c = item_unknown (from + 1) es j p e x h k r in
    let z : (from + 1) + j ≡ from + suc j = omega arith in (
      length (map (λ k. (from, k)) (places reads_global d.items 0)) + c.0,
      append_right (map (λ k. (from, k)) (places reads_global d.items 0)) (unknown_items (from + 1) es) c.0 ∙ c.1
          ∙ ap (λ q. Some (q, p)) z,
    )

item_known : (es : List ElemSeg) (j p : ℕ) (e : ElemSeg) (x : ConstExpr) → slice_get es j ≡ Some e → slice_get e.items p ≡ Some x → not (is_place_among (unknown_items 0 es) j p) ≡ true →
    reads_global x ≡ false
item_known es j p e x h k q = by (reads_global x) refl
  where
    by : (b : Bool) → reads_global x ≡ b → b ≡ false
    by false r = refl
    by true r =
        let c = item_unknown 0 es j p e x h k r in
        let z : 0 + j ≡ j = omega arith in
        sym (place_among_at (unknown_items 0 es) c.0 j p (c.1 ∙ ap (λ n. Some (n, p)) z)) ∙ not-true _ q

-- ---- what is defined ----

module _ (laws : NamingLaws) (env : Environment) (m : Module) (fs : List tree.Func) (i : Inst) (is : IsInst env (one (with_funcs m fs)) 0 (with_funcs m fs) i) where
  -- The place of a definition, and its index in the module and its address in the environment.
  record DefinedBoth (k : Space) (n a : ℕ) : Type 0 where
    place : ℕ
    first_at : n ≡ length (imports_of k m) + place
    second_at : a ≡ own_count k env + place
    low : place < defined_count k (with_funcs m fs)

  defined_both : (k : Space) → is_written k ≡ true → space env (one (with_funcs m fs)) k 0 (with_funcs m fs) ≡ Some (addresses_in i k) → (n a : ℕ) → (R env m fs i is).of k n a → DefinedBoth k n a
  defined_both k w h n a r = by (laws.indices env (one (with_funcs m fs)) k 0 (with_funcs m fs) (addresses_in i k)
      (laws.spaces env (one (with_funcs m fs)) k 0 (with_funcs m fs) (addresses_in i k) h) n a (named m i k n a r))
    where
      by : SpaceEntry env (one (with_funcs m fs)) k 0 (with_funcs m fs) n a → DefinedBoth k n a
      by (imports p at address) = let l = slice_get_within (imports_of k m) n p at in let g = defined m i k w n a r in absurd (omega (arith, l, g))
      by (defines j e low d) = record { place = j; first_at = e; second_at = let z : a ≡ own_count k env + j = omega (arith, d) in z; low = low }

  -- A segment has the same address in both.
  elem_both : (n a : ℕ) → (R env m fs i is).of ElementSegments n a → (n < length m.elems) × (a ≡ n)
  elem_both n a r = let x = numbers_is (length m.elems) n a (ap (λ l. slice_get l n) (sym is.elems) ∙ named m i ElementSegments n a r) in (x.0, sym x.1)

  data_both : (n a : ℕ) → (R env m fs i is).of DataSegments n a → (n < length m.datas) × (a ≡ n)
  data_both n a r = let x = numbers_is (length m.datas) n a (ap (λ l. slice_get l n) (sym is.datas) ∙ named m i DataSegments n a r) in (x.0, sym x.1)

  module _ (names_only : TreeNamesOnly (with_entry (each_index m)) m) (quiet there : Store) (q : AddsWith (value_in m) m (own_inst m) quiet)
      (t : AddsWith (value_there env m fs i is) (with_funcs m fs) i there) where
    abbrev S : Pairing
    S = R env m fs i is

    abbrev first : Store
    first = joined_stores (imported_store m) quiet

    abbrev second : Store
    second = joined_stores (own_store env) there

    table_off : (known : ℕ → Bool) (n a : ℕ) → S.of Tables n a → BothRel (TableOff S known) (slice_get first.tables n) (slice_get second.tables a)
    table_off known n a r =
        let p = defined_both Tables refl is.tables n a r in
        let ty = slice_get_there m.tables p.place p.low in
        let x = map_at new_table m.tables p.place ty.0 ty.1 in
        let counted : length (imports_of Tables m) ≡ length (imported_tables m.imports) = places_many _ _ m.imports (grind arith) 0 in
        let many = length-map (imported_tables m.imports) (λ t. record { ty = t.ty; most = t.limits.max; slots = [] }) ∙ sym counted in
        both_at first.tables second.tables n a (new_table ty.0) (new_table ty.0)
        (behind (imported_store m).tables quiet.tables n (length (imports_of Tables m)) p.place many p.first_at ∙ ap (λ l. slice_get l p.place) q.tables ∙ x)
        (behind (own_tables env) there.tables a (own_count Tables env) p.place refl p.second_at ∙ ap (λ l. slice_get l p.place) t.tables ∙ x)
        (record { type = refl; most = refl; slots = record { size = refl; each = λ n _. get_rel (copies_rel (null_of ty.0.ty) (null_of ty.0.ty) ty.0.limits.min (null_rel S ty.0.ty)) n } })

    memory_same : (n a : ℕ) → S.of Memories n a → BothRel (λ m n. m ≡ n) (slice_get first.mems n) (slice_get second.mems a)
    memory_same n a r =
        let p = defined_both Memories refl is.mems n a r in
        let l = slice_get_there m.mems p.place p.low in
        let x = map_at new_memory m.mems p.place l.0 l.1 in
        let counted : length (imports_of Memories m) ≡ length (imported_memories m.imports) = places_many _ _ m.imports (grind arith) 0 in
        let many = length-map (imported_memories m.imports) (λ l. record { most = l.max; pages = 0; bytes = [] }) ∙ sym counted in
        both_at first.mems second.mems n a (new_memory l.0) (new_memory l.0)
        (behind (imported_store m).mems quiet.mems n (length (imports_of Memories m)) p.place many p.first_at ∙ ap (λ l. slice_get l p.place) q.mems ∙ x)
        (behind (own_memories env) there.mems a (own_count Memories env) p.place refl p.second_at ∙ ap (λ l. slice_get l p.place) t.mems ∙ x) refl

    -- A global has related values in both if its initialiser reads no global.
    global_off : (known : Bool) (g : GlobalDef) (y z : Global) → (known ≡ true → reads_global g.init ≡ false) → global_with (value_in m) g ≡ Some y →
        global_with (value_there env m fs i is) g ≡ Some z → GlobalOff S known y z
    global_off known g y z reads f h =
        let v = and_then_is (value_in m g.init) (λ v. Some (record { ty = g.ty; value = v })) y f in
        let w = and_then_is (value_there env m fs i is g.init) (λ v. Some (record { ty = g.ty; value = v })) z h in
        subst (λ y. GlobalOff S known y z) (same_Some _ y v.2)
        (subst (λ z. GlobalOff S known (record { ty = g.ty; value = v.0 }) z) (same_Some _ z w.2) (record { type = refl; value = λ k. value_alike env m fs i is g.init v.0 w.0 (reads k) v.1 w.1 }))

    global_related : (n a : ℕ) → S.of Globals n a → BothRel (GlobalOff S (not (is_among (unknown_at_first m).globals n))) (slice_get first.globals n) (slice_get second.globals a)
    global_related n a r =
        let p = defined_both Globals refl is.globals n a r in
        let g = slice_get_there m.globals p.place p.low in
        let y = all_there_at (global_with (value_in m)) m.globals quiet.globals q.globals p.place g.0 g.1 in
        let z = all_there_at (global_with (value_there env m fs i is)) m.globals there.globals t.globals p.place g.0 g.1 in
        let counted : length (imports_of Globals m) ≡ length (imported_globals m.imports) = places_many _ _ m.imports (grind arith) 0 in
        let many = length-map (imported_globals m.imports) (λ t. record { ty = t; value = _ }) ∙ sym counted in
        let at = p.first_at in
        both_at first.globals second.globals n a y.0 z.0 (behind (imported_store m).globals quiet.globals n (length (imports_of Globals m)) p.place many p.first_at ∙ y.2)
        (behind (own_globals env) there.globals a (own_count Globals env) p.place refl p.second_at ∙ z.2)
        (global_off _ g.0 y.0 z.0 (λ k. global_known m.globals (length (imported_globals m.imports)) p.place n g.0 (omega (arith, at, counted)) g.1 k) y.1 z.1)

    -- ---- element segments ----

    item_related : (x : ConstExpr) (y z : RefVal) → reads_global x ≡ false → option_and_then ref_of (value_in m x) ≡ Some y →
        option_and_then ref_of (value_there env m fs i is x) ≡ Some z → RefRel S y z
    item_related x y z r f h =
        let v = and_then_is (value_in m x) ref_of y f in
        let w = and_then_is (value_there env m fs i is x) ref_of z h in
        opt_both (ref_rel S (value_alike env m fs i is x v.0 w.0 r v.1 w.1)) v.2 w.2

    items_off : (known : ℕ → Bool) (xs : List ConstExpr) (ys zs : List RefVal) → ((p : ℕ) (x : ConstExpr) → slice_get xs p ≡ Some x → known p ≡ true → reads_global x ≡ false) →
        all_there (λ x. option_and_then ref_of (value_in m x)) xs ≡ Some ys → all_there (λ x. option_and_then ref_of (value_there env m fs i is x)) xs ≡ Some zs → RefsOff S known ys zs
    items_off known xs ys zs reads f h = record { size = first_many ∙ sym second_many; each = λ p k. at p k (slice_get xs p) refl }
      where
        first_many : length ys ≡ length xs
        first_many = all_there_length _ xs ys f

        second_many : length zs ≡ length xs
        second_many = all_there_length _ xs zs h

        at : (p : ℕ) → known p ≡ true → (o : Option ConstExpr) → slice_get xs p ≡ o → OptRel (RefRel S) (slice_get ys p) (slice_get zs p)
        at p k None e =
            let past = slice_get_none xs p e in
            let m = first_many in
            let n = second_many in
            opt_at (slice_get_past ys p (omega (arith, past, m))) (slice_get_past zs p (omega (arith, past, n))) none
        at p k (Some x) e =
            let y = all_there_at _ xs ys f p x e in
            let z = all_there_at _ xs zs h p x e in
            opt_at y.2 z.2 (some (item_related x y.0 z.0 (reads p x e k) y.1 z.1))

    mode_off : (known : ℕ → Bool) (mode : ElemMode) (ys zs : List RefVal) → RefsOff S known ys zs → RefsOff S known (new_elem mode ys).items (new_elem mode zs).items
    mode_off known (elem.Active table offset) ys zs h = h
    mode_off known elem.Passive ys zs h = h
    mode_off known elem.Declarative ys zs h = record { size = refl; each = λ p k. none }

    elem_off : (known : ℕ → Bool) (e : ElemSeg) (y z : Elem) → ((p : ℕ) (x : ConstExpr) → slice_get e.items p ≡ Some x → known p ≡ true → reads_global x ≡ false) →
        elem_with (value_in m) e ≡ Some y → elem_with (value_there env m fs i is) e ≡ Some z → RefsOff S known y.items z.items
    elem_off known e y z reads f h =
        let v = and_then_is (all_there (λ x. option_and_then ref_of (value_in m x)) e.items) (λ items. Some (new_elem e.mode items)) y f in
        let w = and_then_is (all_there (λ x. option_and_then ref_of (value_there env m fs i is x)) e.items) (λ items. Some (new_elem e.mode items)) z h in
        subst (λ (y : Elem). RefsOff S known y.items z.items) (same_Some _ y v.2)
        (subst (λ (z : Elem). RefsOff S known (new_elem e.mode v.0).items z.items) (same_Some _ z w.2) (mode_off known e.mode v.0 w.0 (items_off known e.items v.0 w.0 reads v.1 w.1)))

    elem_related : (n a : ℕ) → S.of ElementSegments n a →
        BothRel (λ e f. RefsOff S (λ p. not (is_place_among (unknown_at_first m).items n p)) e.items f.items) (slice_get first.elems n) (slice_get second.elems a)
    elem_related n a r =
        let b = elem_both n a r in
        let e = slice_get_there m.elems n b.0 in
        let y = all_there_at (elem_with (value_in m)) m.elems quiet.elems q.elems n e.0 e.1 in
        let z = all_there_at (elem_with (value_there env m fs i is)) m.elems there.elems t.elems n e.0 e.1 in
        both_at first.elems second.elems n a y.0 z.0 y.2 (ap (slice_get there.elems) b.1 ∙ z.2) (elem_off _ e.0 y.0 z.0 (λ p x h k. item_known m.elems n p e.0 x e.1 h k) y.1 z.1)

    data_related : (n a : ℕ) → S.of DataSegments n a → BothRel (λ d e. d.bytes ≡ e.bytes) (slice_get first.datas n) (slice_get second.datas a)
    data_related n a r =
        let b = data_both n a r in
        let d = slice_get_there m.datas n b.0 in
        let x = map_at new_data m.datas n d.0 d.1 in
        both_at first.datas second.datas n a (new_data d.0) (new_data d.0) (ap (λ l. slice_get l n) q.datas ∙ x) (ap (slice_get there.datas) b.1 ∙ ap (λ l. slice_get l n) t.datas ∙ x) refl

    -- ---- all of it ----

    pub related_at_first : StoreRelOff S (unknown_at_first m) first second
    related_at_first = record {
      types = λ {a} {b} r. type_same S (funcs_related m names_only env fs i is quiet there q t laws a b r);
      owns = λ {a} {b} r. own_same S (funcs_related m names_only env fs i is quiet there q t laws a b r);
      funcs = λ {a} {b} r free. funcs_related m names_only env fs i is quiet there q t laws a b r;
      tables = λ {a} {b} r. table_off _ a b r;
      mems = λ {a} {b} r. memory_same a b r;
      globals = λ {a} {b} r. global_related a b r;
      elems = λ {a} {b} r. elem_related a b r;
      datas = λ {a} {b} r. data_related a b r;
    }
