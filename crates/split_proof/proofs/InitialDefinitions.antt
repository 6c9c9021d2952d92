-- The definitions, segments, views and start functions of a module alone correspond to those of its
-- primary module with stubs in place of the placeholders.
use Rattle.base_lists.proofs.Common.{◌≡◌, ◌∙◌, ap, sym, subst, refl, ℕ, zero, suc, ◌+◌, ◌<◌, List, [], ◌∷◌, ◌++◌, map, take, length, Option, Some, Bool, true, false, cond, arith, option_map, append-nil, ⊎_elim, slice_get, slice_index, cons_option, length-map, map-id, slice_get_within, same_Some}
use Rattle.base_lists.proofs.Common.{length-numbers, numbers_index, append_at_left, append_left, map_at, push_last, slice_get_there, cases_Bool, append_rel, then_rel, there_contains}
use Rattle.base_lists.proofs.Same.{text_is, text_self}
use Rattle.std.proofs.Common.{filter_map}
use Rattle.base_lists.specs.Places.{numbers}
use Rattle.wasm_num.specs.Operations.{wrapped}
use Rattle.wasm_tree_spec.specs.Prelude.{Space, Functions, Tables, Memories, Globals, ElementSegments, DataSegments, ConstExpr, DataSeg, DataMode, ElemMode, ElemSeg, Export, ExportDesc, Module, funcs_of, tables_of}
use Rattle.wasm_tree.specs.declared.module.ConstExpr.TheVariants as const
use Rattle.wasm_tree.specs.declared.module.Func as tree
use Rattle.wasm_valid.specs.declared.kinds.ItemKind.TheVariants as kind
use Rattle.wasm_meaning.specs.Prelude.{Inst, Text, Val, Environment, ExternalValue, export_named, same_text, LoaderWorld, PlacedSegment, own_count, defined_count, starts_of, seen_as, alone}
use Rattle.index_remap.specs.declared.remap.Remap.{Remap}
use Rattle.run_simulation.specs.Prelude.{Pairing, OptRel, none, some, ListRel, nil, cons, ValRel, number, reference, func, extern, ExternalValueRel, a_func, a_table, a_memory, a_global, KeyRel, HasNoPartner, turned}
use Rattle.index_remap.specs.Prelude.{declared_refs, new_const, new_data, new_elem, new_export_desc, new_func, new_global}
use Rattle.index_remap_proof.specs.Indices.{Indices, ConstNamesOnly, ExportNamesOnly, TreeNamesOnly}
use Rattle.world_simulation.specs.Prelude.{one, FuncsAt, GlobalsCorrespond, ElemsCorrespond, Partners, DefinitionsCorrespond, Instantiated, values_in, EntriesName, only_second, ElemsPartner, ElemAlone, DatasPartner, ElemsInOrder, DatasInOrder, WorldsCorrespond, IsInst, last_segments}
use Rattle.world_simulation.specs.CorrespondingDefinitions as partners
use Rattle.world_simulation.specs.EmptyLoaders.{primary_world}
use Rattle.world_simulation.specs.SegmentsInOrder as order
use Rattle.world_simulation.specs.DefinedPlaceholders.{stubbed}
use Rattle.world_simulation.proofs.EnlargedModules.{no_more, declared_alone, all_in_step, keeps_place}
use Rattle.world_simulation.proofs.RenumberedItems.{elems_alike, elem_mode_named, data_mode_named, start_named}
use Rattle.world_simulation.proofs.RenumberedItems as renamed
use Rattle.world_simulation.proofs.AllocatedStores.{alike_correspond}
use Rattle.split_spec.specs.declared.names.SplitNames.{SplitNames}
use Rattle.split_spec.specs.Prelude.{added_exports, primary_func, in_slots, place_among, slot_segment, slot_table, slot_table_type}
use Rattle.wasm_valid.specs.Prelude.{ItemsHold}
use Rattle.split_proof.specs.Addresses.{is_partner, slot_table_address, split_pairing}
use Rattle.split_proof.specs.SplitLaws.{CanBeSplit}
use Rattle.split_proof.proofs.AddressPartners.{LeftAt, own_stays, goes, is_else, is_its_partner, left_is, partner_is, place_left, shares_own}
use Rattle.split_proof.proofs.IndexEntries.{Laws, Q, consts, datas_are, elems_are, entries, globals_are, holds, k, keeps, left_func, mems_are, more_segments, named, outside, plain, r, split, start_is, stay, tables_are, types_moved}
use Rattle.split_proof.proofs.IndexEntries as entry_names
use Rattle.split_proof.proofs.RelatedBodies.{func_at, slots_there}

-- ---- what only the related addresses matter for ----

module _ (P R : Pairing) (same : (space : Space) (a b : ℕ) → P.of space a b → R.of space a b) where
  value_as : {v w : Val} → ValRel P v w → ValRel R v w
  value_as number = number
  value_as (reference (func none)) = reference (func none)
  value_as (reference (func (some p))) = reference (func (some (same _ _ _ p)))
  value_as (reference extern) = reference extern

  pub values_as : {o p : Option Val} → OptRel (ValRel P) o p → OptRel (ValRel R) o p
  values_as none = none
  values_as (some v) = some (value_as v)

  pub thing_as : {x y : ExternalValue} → ExternalValueRel P x y → ExternalValueRel R x y
  thing_as (a_func p) = a_func (same _ _ _ p)
  thing_as (a_table p) = a_table (same _ _ _ p)
  thing_as (a_memory p) = a_memory (same _ _ _ p)
  thing_as (a_global p) = a_global (same _ _ _ p)

  address_as : {space : Space} {o p : Option ℕ} → OptRel (P.of space) o p → OptRel (R.of space) o p
  address_as none = none
  address_as (some p) = some (same _ _ _ p)

  module _ {value second : ConstExpr → Option Val} where
    items_as : {xs ys : List ConstExpr} → ListRel (λ x y. OptRel (ValRel P) (value x) (second y)) xs ys → ListRel (λ x y. OptRel (ValRel R) (value x) (second y)) xs ys
    items_as nil = nil
    items_as (cons p ps) = cons (values_as p) (items_as ps)

    pub elems_as : {d e : ElemSeg} → ElemsCorrespond P value second d e → ElemsCorrespond R value second d e
    elems_as (partners.declared x y) = partners.declared x y
    elems_as (partners.kept x y items) = partners.kept x y (items_as items)

    pub elem_partner_as : {x y : PlacedSegment ElemSeg} {p q : ElemMode} → ElemsPartner P value second x y p q → ElemsPartner R value second x y p q
    elem_partner_as (order.ElemsPartner.active p t e) = order.ElemsPartner.active (same _ _ _ p) (address_as t) e
    elem_partner_as order.ElemsPartner.passive = order.ElemsPartner.passive
    elem_partner_as order.ElemsPartner.declarative = order.ElemsPartner.declarative

    pub data_partner_as : {x y : PlacedSegment DataSeg} {p q : DataMode} → DatasPartner P value second x y p q → DatasPartner R value second x y p q
    data_partner_as (order.DatasPartner.active p t e) = order.DatasPartner.active (same _ _ _ p) (address_as t) e
    data_partner_as order.DatasPartner.passive = order.DatasPartner.passive

-- ---- exports ----

taken_at : {A : Type 0} (n p : ℕ) (xs : List A) (x : A) → p < n → slice_get xs p ≡ Some x → slice_get (take n xs) p ≡ Some x
taken_at n p [] x lt h = cc
taken_at zero p (y ∷ xs) x lt h = absurd (omega (arith, lt))
taken_at (suc n) zero (y ∷ xs) x lt h = h
taken_at (suc n) (suc p) (y ∷ xs) x lt h = taken_at n p xs x (omega (arith, lt)) h

-- An export with a changed description.
abbrev described : (ExportDesc → ExportDesc) → Export → Export
described new e = record e { desc = new e.desc }

-- The first export of a name is found by the name, also where the descriptions are changed.
first_named : (new : ExportDesc → ExportDesc) (es : List Export) (n : ℕ) (e : Export) → slice_get es n ≡ Some e → ((p : ℕ) (x : Export) → p < n → slice_get es p ≡ Some x → x.name ≡ e.name → ⊥) →
    export_named (map (described new) es) e.name ≡ Some (new e.desc)
first_named new [] n e at others = cc
first_named new (x ∷ es) zero e at others =
    let is : x ≡ e = cc in
    ap (λ (x : Export). export_named (map (described new) (x ∷ es)) e.name) is ∙ ap (λ b. cond b (Some (new e.desc)) (export_named (map (described new) es) e.name)) (text_self e.name)
first_named new (x ∷ es) (suc n) e at others =
    let other : same_text x.name e.name ≡ false = ⊎_elim (λ h. absurd (others 0 x (omega arith) refl (text_is x.name e.name h))) (λ h. h) (cases_Bool (same_text x.name e.name)) in
    ap (λ b. cond b (Some (new x.desc)) (export_named (map (described new) es) e.name)) other ∙ first_named new es n e at (λ p y lt. others (suc p) y (omega (arith, lt)))

all_chosen_are : {A B : Type 0} (f : A → Option B) (h : A → B) (xs : List A) → ((n : ℕ) (x : A) → slice_get xs n ≡ Some x → f x ≡ Some (h x)) → filter_map f xs ≡ map h xs
all_chosen_are f h [] e = refl
all_chosen_are f h (x ∷ xs) e = ap (λ o. cons_option o (filter_map f xs)) (e 0 x refl) ∙ ap (λ ys. h x ∷ ys) (all_chosen_are f h xs (λ n. e (suc n)))

module _ (laws : Laws) (namespace : ℕ → List ℕ) (names : SplitNames) (m : Module) (moved : List ℕ) (owns : List (List ℕ)) (g : CanBeSplit namespace names m moved owns) where
  abbrev valid : ItemsHold m
  valid = holds laws namespace names m moved owns g

  abbrev map_of : Remap
  map_of = r laws namespace names m moved owns g

  abbrev pub primary : Module
  primary = Q laws namespace names m moved owns g

  abbrev world : LoaderWorld
  world = split laws namespace names m moved owns g

  abbrev pub stubs : LoaderWorld
  stubs = stubbed world m.imports (types_moved laws namespace names m moved owns g)

  abbrev imported : ℕ
  imported = k laws namespace names m moved owns g

  abbrev kept : Indices
  kept = stay laws namespace names m moved owns g

  abbrev outside_named : TreeNamesOnly kept (outside laws namespace names m moved owns g)
  outside_named = named laws namespace names m moved owns g

  -- No two exports have the same name.
  exports_apart : (n : ℕ) (e : Export) → slice_get m.exports n ≡ Some e → (p : ℕ) (x : Export) → p < n → slice_get m.exports p ≡ Some x → x.name ≡ e.name → ⊥
  exports_apart n e at p x lt there same =
      let z = valid kind.Export n (slice_get_within m.exports n e at) in
      let is : z.0 ≡ e = same_Some _ _ (sym z.1 ∙ at) in
      z.3 (there_contains (map (λ x. x.name) (take n m.exports)) p z.0.name (map_at (λ x. x.name) (take n m.exports) p x (taken_at n p m.exports x lt there) ∙ ap Some (same ∙ ap (λ (e : Export). e.name) (sym is))))

  -- The view of the loader has the exports of the module, with their new indices.
  pub view_is : world.view ≡ map (λ e. (e.name, new_export_desc map_of e.desc)) m.exports
  view_is = all_chosen_are (λ e. option_map (λ d. (e.name, d)) (export_named world.primary.exports e.name)) (λ e. (e.name, new_export_desc map_of e.desc)) m.exports (λ n e at.
      ap (option_map (λ d. (e.name, d))) (ap (λ es. export_named es e.name) (keeps laws namespace names m moved owns g).exports
      ∙ first_named (new_export_desc map_of) (m.exports ++ added_exports names.export_prefix m moved) n e (append_at_left m.exports (added_exports names.export_prefix m moved) n e at)
      (λ p x lt there. exports_apart n e at p x lt (let within = slice_get_within m.exports n e at in sym (append_left m.exports (added_exports names.export_prefix m moved) p (omega (arith, lt, within))) ∙ there))))

  module _ (env : Environment) (i j : Inst) (a : IsInst env (one m) 0 m i) (b : IsInst env (one (Q laws namespace names m moved owns g)) 0 (Q laws namespace names m moved owns g) j) (loaded : List (ℕ × ℕ)) where
    abbrev of : Space → ℕ → ℕ → Bool
    of = is_partner env m moved

    abbrev pub R : Pairing
    R = split_pairing env m moved loaded

    abbrev pub P : Pairing
    P = entry_names.P laws namespace names m moved owns g env

    abbrev names_there : EntriesName P map_of kept i j
    names_there = entries laws namespace names m moved owns g env i j a b

    abbrev pub v : Instantiated
    v = record { parts = one m; insts = i ∷ [] }

    abbrev pub w : Instantiated
    w = record { parts = one primary; insts = j ∷ [] }

    const_values : (e : ConstExpr) → ConstNamesOnly kept e → OptRel (ValRel P) (values_in env v 0 e) (values_in env w 0 (new_const map_of e))
    const_values = consts laws namespace names m moved owns g env i j a b

    its_partner : (space : Space) → is_else space ≡ true → (c : ℕ) → c < own_count space env + defined_count space m → R.of space c c
    its_partner = is_its_partner namespace names.export_prefix m valid moved g.can_move env

    partner_same : (space : Space) → is_else space ≡ true → (c d : ℕ) → R.of space c d → (c ≡ d) × (c < own_count space env + defined_count space m)
    partner_same = partner_is namespace names.export_prefix m valid moved g.can_move env

    -- ---- definitions ----

    funcs_placed : (c d : ℕ) → R.of Functions c d → Partners env v w Functions (λ t. t.funcs) (λ p i f q j g. FuncsAt R c i j f g) c d
    funcs_placed c d related = by (left_is namespace names.export_prefix m valid moved g.can_move env c d related)
      where
        by : LeftAt env m moved c d → Partners env v w Functions (λ t. t.funcs) (λ p i f q j g. FuncsAt R c i j f g) c d
        by (own_stays lt e) = partners.own e lt
        by (goes n e lt h f) =
            let x = slice_get_there m.funcs n lt in
            let y : tree.Func = new_func map_of (primary_func m moved (place_among moved (imported + n)) (imported + n) x.0) in
            partners.defined (record { part = 0; of = m; is_part = refl; inst = i; is_inst = refl; place = n; definition = x.0; stands = x.1; address = omega (arith, e) })
            (record { part = 0; of = primary; is_part = refl; inst = j; is_inst = refl; place = length moved + place_left m moved n; definition = y; stands = left_func laws namespace names m moved owns g n x.0 x.1 h; address = omega (arith, f) })
            (subst (λ c. FuncsAt R c i j x.0 y) (sym e) (func_at laws namespace names m moved owns g env i j a b loaded n x.0 x.1))

    -- The definitions of another index space keep their places.
    same_placed : {A : Type 0} (space : Space) → is_else space ≡ true → (definitions : Module → List A) (new : A → A) (more : List A) → ((t : Module) → defined_count space t ≡ length (definitions t)) → definitions primary ≡ map new (definitions m) ++ more →
        (correspond : ℕ → Inst → A → ℕ → Inst → A → Type 0) → ((x : ℕ) (d : A) → slice_get (definitions m) x ≡ Some d → correspond 0 i d 0 j (new d)) → (c d : ℕ) → R.of space c d → Partners env v w space definitions correspond c d
    same_placed space other definitions new more counts are correspond alike c d related =
        let s = partner_same space other c d related in
        subst (Partners env v w space definitions correspond c) s.0 (keeps_place env m primary i j space definitions new more counts are correspond alike c s.1)

    elem_alike : (x : ℕ) (e : ElemSeg) → slice_get m.elems x ≡ Some e → ElemsCorrespond R (values_in env v 0) (values_in env w 0) e (new_elem map_of e)
    elem_alike x e h =
        elems_as P R (λ space c d p. p) (alike_correspond P (values_in env v 0) (values_in env w 0) (elems_alike P map_of kept i j names_there (values_in env v 0) (values_in env w 0) const_values e (λ p c at. outside_named.items x p e c h at)))

    pub definitions : DefinitionsCorrespond R env v w
    definitions = record {
      funcs = funcs_placed;
      tables = same_placed Tables refl (λ t. t.tables) (λ x. x) (slot_table_type (length moved) ∷ []) (λ t. refl) (tables_are laws namespace names m moved owns g ∙ ap (λ ts. ts ++ slot_table_type (length moved) ∷ []) (sym (map-id m.tables))) (λ p i t q j u. t ≡ u) (λ x d h. refl);
      mems = same_placed Memories refl (λ t. t.mems) (λ x. x) [] (λ t. refl) (mems_are laws namespace names m moved owns g ∙ sym (map-id m.mems) ∙ sym (append-nil _)) (λ p i l q j n. l ≡ n) (λ x d h. refl);
      globals = same_placed Globals refl (λ t. t.globals) (new_global map_of) [] (λ t. refl) (globals_are laws namespace names m moved owns g ∙ sym (append-nil _)) (λ p i g q j h. GlobalsCorrespond R (values_in env v p) (values_in env w q) g h)
          (λ x d h. record { type = refl; init = values_as P R (λ space c d p. p) (const_values d.init (outside_named.globals x d h)) });
      elems = same_placed ElementSegments refl (λ t. t.elems) (new_elem map_of) (more_segments laws namespace names m moved owns g) (λ t. refl) (elems_are laws namespace names m moved owns g) (λ p i d q j e. ElemsCorrespond R (values_in env v p) (values_in env w q) d e) elem_alike;
      datas = same_placed DataSegments refl (λ t. t.datas) (new_data map_of) [] (λ t. refl) (datas_are laws namespace names m moved owns g ∙ sym (append-nil _)) (λ p i d q j e. d.bytes ≡ e.bytes) (λ x d h. refl);
    }

    -- ---- segments ----

    abbrev ElemPair : PlacedSegment ElemSeg → PlacedSegment ElemSeg → Type 0
    ElemPair x y = ElemsPartner R (values_in env v x.part) (values_in env w y.part) x y x.segment.mode y.segment.mode

    abbrev FirstElem : PlacedSegment ElemSeg → Type 0
    FirstElem x = ElemAlone (HasNoPartner (turned R)) env v x x.segment.mode

    abbrev SecondElem : PlacedSegment ElemSeg → Type 0
    SecondElem y = ElemAlone (HasNoPartner R) env w y y.segment.mode

    -- The segment of the slots fits in the slot table, and no other segment is copied to this
    -- table.
    abbrev slots : ElemSeg
    slots = new_elem map_of (slot_segment (slot_table m) 0 (in_slots m (length moved)))

    slots_alone : SecondElem (record { part = 0; inst = j; address = 0 + length m.elems; segment = slots })
    unfolding wrapped
    slots_alone =
        let entry : slice_index map_of.tables (slot_table m) ≡ slot_table m = numbers_index (suc (length (tables_of m))) (slot_table m) (omega arith) in
        let many = length-map (map const.Func (in_slots m (length moved))) (new_const map_of) in
        let each = length-map (in_slots m (length moved)) const.Func in
        let count = length-numbers (length (funcs_of m)) (length moved) in
        order.ElemAlone.active {n = 0} {a = slot_table_address env m} (ap (slice_get j.tables) entry ∙ slots_there laws namespace names m moved owns g env i j a b loaded)
        (λ c related. let s = partner_same Tables refl c (slot_table_address env m) related in let e = s.0 in let lt = s.1 in omega (arith, e, lt))
        (record {
          part = 0;
          of = primary;
          is_part = refl;
          inst = j;
          is_inst = refl;
          place = length m.tables;
          definition = slot_table_type (length moved);
          stands = ap (λ ts. slice_get ts (length m.tables)) (tables_are laws namespace names m moved owns g) ∙
              push_last m.tables (slot_table_type (length moved));
          address = omega arith;
        })
        (λ c related. let s = partner_same ElementSegments refl c (0 + length m.elems) related in let e = s.0 in let lt = s.1 in omega (arith, e, lt))
        refl (omega (arith, many, each, count))

    elem_pairs : (x : ℕ) (e : ElemSeg) → slice_get m.elems x ≡ Some e → ElemPair (record { part = 0; inst = i; address = 0 + x; segment = e }) (record { part = 0; inst = j; address = 0 + x; segment = new_elem map_of e })
    elem_pairs x e h =
        elem_partner_as P R (λ space c d p. p) (elem_mode_named P map_of kept i j names_there (values_in env v 0) (values_in env w 0) const_values _ _ refl refl
        (its_partner ElementSegments refl (0 + x) (let lt = slice_get_within m.elems x e h in omega (arith, lt))) e.mode (outside_named.elem_modes x e h))

    elems_in_order : ElemsInOrder R env v w
    elems_in_order =
        all_in_step ElemPair FirstElem SecondElem i j (new_elem map_of) (more_segments laws namespace names m moved owns g) m.elems primary.elems i.elems j.elems a.elems b.elems (elems_are laws namespace names m moved owns g)
        (only_second slots_alone (let refs = declared_refs (plain laws namespace names m moved owns g) in declared_alone j refs (numbers (suc (0 + length m.elems)) (length (last_segments refs))))) elem_pairs

    datas_in_order : DatasInOrder R env v w
    datas_in_order =
        all_in_step _ _ _ i j (new_data map_of) [] m.datas primary.datas i.datas j.datas a.datas b.datas (datas_are laws namespace names m moved owns g ∙ sym (append-nil _)) (no_more j (numbers (0 + length m.datas) 0))
        (λ x d h. data_partner_as P R (λ space c d p. p) (data_mode_named P map_of kept i j names_there (values_in env v 0) (values_in env w 0) const_values _ _ refl refl
        (its_partner DataSegments refl (0 + x) (let lt = slice_get_within m.datas x d h in omega (arith, lt))) d.mode (outside_named.data_modes x d h)))

    -- ---- views and starts ----

    pub view : ListRel (λ x y. OptRel (KeyRel R) (seen_as (i ∷ []) x) (seen_as (j ∷ []) y)) (alone m).view (primary_world stubs).view
    view = rw view_is (each m.exports outside_named.exports)
      where
        each : (es : List Export) → ((x : ℕ) (e : Export) → slice_get es x ≡ Some e → ExportNamesOnly kept e.desc) →
            ListRel (λ x y. OptRel (KeyRel R) (seen_as (i ∷ []) x) (seen_as (j ∷ []) y)) (map (λ e. (e.name, record { part = 0; what = e.desc })) es) (map (λ (v : Text × ExportDesc). (v.0, record { part = 0; what = v.1 })) (map (λ e. (e.name, new_export_desc map_of e.desc)) es))
        each [] h = nil
        each (e ∷ es) h = cons (then_rel (renamed.export_named P map_of kept i j names_there e.desc (h 0 e refl)) (λ _ _ q. some (record { key = refl; thing = thing_as P R (λ space c d p. p) q }))) (each es (λ x. h (suc x)))

    pub starts : ListRel (R.of Functions) (starts_of (one m) (i ∷ [])) (starts_of (one primary) (j ∷ []))
    starts = append_rel (rw (start_is laws namespace names m moved owns g) (start_named P map_of kept i j names_there m.start outside_named.start)) nil

    pub worlds : WorldsCorrespond R env (alone m) (primary_world stubs) (i ∷ []) (j ∷ [])
    worlds = record { own = shares_own namespace names.export_prefix m valid moved g.can_move env loaded; definitions = definitions; elems = elems_in_order; datas = datas_in_order; view = view }
