-- An environment links a module exactly where it links the primary module of its split with stubs
-- in place of the placeholders.
use Rattle.base_lists.proofs.Common.{◌≡◌, ◌∙◌, add-zero, ap, ap₂, sym, subst, refl, ℕ, zero, suc, ◌+◌, ◌<◌, ◌⊎◌, inl, inr, List, [], ◌∷◌, ◌++◌, map, length, Option, Some, None, Bool, true, false, cond, arith, option_and_then, slice_get, slice_index, length-append, length-map, slice_get_within}
use Rattle.base_lists.proofs.Common.{same_Some, length-numbers, numbers_at, and_then_is, all_there_at, all_there_from, all_there_length, is_some_there, places_many, append_at_left, append_from, map_at, map_from, slice_get_there, is_some, all_rel, left_there, right_there}
use Rattle.wasm_tree_spec.specs.Prelude.{Space, Functions, Tables, Memories, Globals, FuncType, ConstExpr, ElemSeg, GlobalDef, Module, imported_funcs, funcs_of}
use Rattle.wasm_tree.specs.declared.module.ConstExpr.TheVariants as const
use Rattle.wasm_tree.specs.declared.module.Func as tree
use Rattle.wasm_meaning.specs.Prelude.{Code, Elem, Func, Global, Inst, RefVal, FuncRef, Store, Text, declared, Environment, ExternalValue, all_of, sites, World, alone, all_there, defined_count, imports_of, inst_of, imported_external_value, insts_from, instantiate, is_matched, joined_stores, links}
use Rattle.wasm_meaning.specs.Prelude.{numbers, own_count, own_store, part_store, seen_as, starts_of, stores_from}
use Rattle.wasm_meaning.specs.World as world
use Rattle.index_remap.specs.declared.remap.Remap.{Remap}
use Rattle.run_simulation.specs.Prelude.{Pairing, OptRel, none, some, ListRel, GlobalRel, ElemRel, KeyRel, BegunRel, EntryByEntry}
use Rattle.index_remap.specs.Prelude.{declared_refs, new_const, new_elem, new_func, new_global}
use Rattle.index_remap_proof.specs.Indices.{Indices, TreeNamesOnly}
use Rattle.world_simulation.specs.Prelude.{one, site, external_value_in, addresses, Instantiated, values_in, AreSimilar, StartsCorrespond, WorldsCorrespond, Adds, IsInst, last_segments}
use Rattle.world_simulation.specs.EmptyLoaders.{primary_world}
use Rattle.world_simulation.specs.DefinedPlaceholders.{stub}
use Rattle.world_simulation.proofs.RenumberedItems.{elems_alike}
use Rattle.world_simulation.proofs.RelatedInstantiation.{instances_rel}
use Rattle.world_simulation.proofs.OneModuleWorlds.{all_matched}
use Rattle.world_simulation.proofs.AllocatedStores.{elem_rel, global_rel, stores_rel}
use Rattle.split_spec.specs.declared.names.SplitNames.{SplitNames}
use Rattle.split_spec.specs.Prelude.{primary_func, in_slots, place_among, slot_segment, slot_table, type_index}
use Rattle.split_proof.proofs.PrimaryItems as items
use Rattle.split_proof.proofs.PrimarySpaces as spaces
use Rattle.split_proof.proofs.DescribedSpaces.{func_holds}
use Rattle.wasm_valid.specs.Prelude.{ItemsHold}
use Rattle.split_proof.specs.Addresses.{split_pairing}
use Rattle.split_proof.specs.SplitLaws.{CanBeSplit}
use Rattle.split_proof.proofs.AddressPartners.{one_to_one, shares_own}
use Rattle.split_proof.proofs.PlaceholderImports.{moved_typed}
use Rattle.split_proof.proofs.IndexEntries.{Laws, Q, consts, elems_are, entries, globals_are, holds, k, keeps, named, outside, plain, r, stay, stubs_many, types_are, types_moved}
use Rattle.split_proof.proofs.IndexEntries as entry_names
use Rattle.split_proof.proofs.InitialDefinitions.{definitions, starts, stubs, view, worlds}

-- The index spaces of an instance exist also for a module with the same types and imports.
space_too : (env : Environment) (t u : Module) → u.types ≡ t.types → u.imports ≡ t.imports → (space : Space) (xs : List ℕ) → world.space env (one t) space 0 t ≡ Some xs → (ys : List ℕ) × (world.space env (one u) space 0 u ≡ Some ys)
space_too env t u types imports space xs h =
    let denoted : (v : Module) (n : ℕ) → imported_external_value env (one v) (site n) ≡ external_value_in env v.types (slice_get v.imports n) = λ v n. grind arith in
    let is : (v : Module) → world.space env (one v) space 0 v ≡ option_and_then (λ l. Some (l ++ numbers (own_count space env) (defined_count space v))) (addresses env v.types v.imports space) = λ v. simp (denoted v, add-zero) in
    let x = and_then_is (addresses env t.types t.imports space) _ xs (sym (is t) ∙ h) in
    (_, is u ∙ ap (λ o. option_and_then (λ l. Some (l ++ numbers (own_count space env) (defined_count space u))) o) (ap₂ (λ ts is. addresses env ts is space) types imports ∙ x.1))

-- An instance exists also for a module with the same types and imports.
inst_too : (env : Environment) (t u : Module) → u.types ≡ t.types → u.imports ≡ t.imports → (is : List Inst) → insts_from env (one t) 0 (one t) ≡ Some is → (js : List Inst) × (insts_from env (one u) 0 (one u) ≡ Some js)
inst_too env t u types imports is h =
    let i : (i : Inst) × (is ≡ i ∷ []) × IsInst env (one t) 0 t i = search (arith, h) in
    let a = i.2 in
    let fs = space_too env t u types imports Functions i.0.funcs a.funcs in
    let ts = space_too env t u types imports Tables i.0.tables a.tables in
    let ms = space_too env t u types imports Memories i.0.mems a.mems in
    let gs = space_too env t u types imports Globals i.0.globals a.globals in
    let j = is_some_there (inst_of env (one u) 0 u) (rw (fs.1, ts.1, ms.1, gs.1)) in
    (j.0 ∷ [], ap (option_and_then (λ i. option_and_then (λ is. Some (i ∷ is)) (Some []))) j.1)

module _ (laws : Laws) (namespace : ℕ → List ℕ) (names : SplitNames) (m : Module) (moved : List ℕ) (owns : List (List ℕ)) (g : CanBeSplit namespace names m moved owns) where
  abbrev valid : ItemsHold m
  valid = holds laws namespace names m moved owns g

  abbrev map_of : Remap
  map_of = r laws namespace names m moved owns g

  abbrev primary : Module
  primary = Q laws namespace names m moved owns g

  abbrev kept : Indices
  kept = stay laws namespace names m moved owns g

  abbrev imported : ℕ
  imported = k laws namespace names m moved owns g

  abbrev outside_named : TreeNamesOnly kept (outside laws namespace names m moved owns g)
  outside_named = named laws namespace names m moved owns g

  abbrev undeclared : Module
  undeclared = plain laws namespace names m moved owns g

  abbrev whole : World
  whole = primary_world (stubs laws namespace names m moved owns g)

  abbrev slots : ElemSeg
  slots = new_elem map_of (slot_segment (slot_table m) 0 (in_slots m (length moved)))

  same_types : primary.types ≡ m.types
  same_types = types_are laws namespace names m moved owns g

  module _ (env : Environment) where
    module _ (i j : Inst) (a : IsInst env (one m) 0 m i) (b : IsInst env (one (Q laws namespace names m moved owns g)) 0 (Q laws namespace names m moved owns g) j) where
      abbrev P : Pairing
      P = entry_names.P laws namespace names m moved owns g env

      abbrev v : Instantiated
      v = record { parts = one m; insts = i ∷ [] }

      abbrev w : Instantiated
      w = record { parts = one primary; insts = j ∷ [] }

      -- ---- functions: the types of all are there ----

      first_there : (n : ℕ) (f : tree.Func) → slice_get m.funcs n ≡ Some f → (x : Func) × (world.new_func i f ≡ Some x)
      first_there n f at =
          let t = slice_get_there m.types f.ty (func_holds m valid n f at) in
          (_, ap (option_and_then (λ t. Some (Code t i (declared f.locals) f.body))) (ap (λ ts. slice_get ts f.ty) a.types ∙ t.1))

      typed_there : (f : tree.Func) (t : FuncType) → slice_get m.types f.ty ≡ Some t → (x : Func) × (world.new_func j f ≡ Some x)
      typed_there f t h = (_, ap (option_and_then (λ t. Some (Code t j (declared f.locals) f.body))) (ap (λ ts. slice_get ts f.ty) (b.types ∙ same_types) ∙ h))

      stub_there : (n : ℕ) (f : tree.Func) → slice_get (map stub (types_moved laws namespace names m moved owns g)) n ≡ Some f → (x : Func) × (world.new_func j f ≡ Some x)
      stub_there n f at =
          let ty = map_from stub (types_moved laws namespace names m moved owns g) n f at in
          let x = map_from (type_index m) moved n ty.0 ty.1 in
          typed_there f _ (ap (λ (f : tree.Func). slice_get m.types f.ty) (sym ty.2) ∙ ap (slice_get m.types) (sym x.2) ∙ moved_typed namespace names m moved owns g valid n x.0 x.1)

      left_there_too : (n : ℕ) (f : tree.Func) → slice_get undeclared.funcs n ≡ Some f → (x : Func) × (world.new_func j f ≡ Some x)
      left_there_too n f at =
          let x = items.func_item laws.bodies namespace names.export_prefix m valid moved g.can_move n (slice_get_within undeclared.funcs n f at) in
          let is : f ≡ new_func map_of (primary_func m moved (place_among moved (imported + x.place)) (imported + x.place) x.func) = same_Some _ _ (sym at ∙ x.is) in
          let lt = func_holds m valid x.place x.func x.at in
          let t = slice_get_there m.types x.func.ty lt in
          let type : f.ty ≡ x.func.ty = ap (λ (f : tree.Func). f.ty) is ∙ items.same_type laws.bodies namespace names.export_prefix m valid moved g.can_move (place_among moved (imported + x.place)) (imported + x.place) x.func lt in
          typed_there f t.0 (ap (slice_get m.types) type ∙ t.1)

      second_there : (n : ℕ) (f : tree.Func) → slice_get primary.funcs n ≡ Some f → (x : Func) × (world.new_func j f ≡ Some x)
      second_there n f at = by (append_from (map stub (types_moved laws namespace names m moved owns g)) (entry_names.split laws namespace names m moved owns g).primary.funcs n f at)
        where
          by : (slice_get (map stub (types_moved laws namespace names m moved owns g)) n ≡ Some f) ⊎ ((l : ℕ) × (n ≡ length (map stub (types_moved laws namespace names m moved owns g)) + l) × (slice_get (entry_names.split laws namespace names m moved owns g).primary.funcs l ≡ Some f)) →
              (x : Func) × (world.new_func j f ≡ Some x)
          by (inl h) = stub_there n f h
          by (inr l) = left_there_too l.0 f (ap (λ fs. slice_get fs l.0) (sym (keeps laws namespace names m moved owns g).funcs) ∙ l.2)

      -- ---- globals and segments ----

      globals_rel : (n : ℕ) (d : GlobalDef) → slice_get m.globals n ≡ Some d → OptRel (GlobalRel P) (world.new_global env (one m) (i ∷ []) 0 d) (world.new_global env (one primary) (j ∷ []) 0 (new_global map_of d))
      globals_rel n d at = global_rel P (values_in env v 0) (values_in env w 0) {g = d} {h = new_global map_of d} (record { type = refl; init = consts laws namespace names m moved owns g env i j a b d.init (outside_named.globals n d at) })

      elems_rel : (n : ℕ) (e : ElemSeg) → slice_get m.elems n ≡ Some e → OptRel (ElemRel P) (world.elem_of env (one m) (i ∷ []) 0 e) (world.elem_of env (one primary) (j ∷ []) 0 (new_elem map_of e))
      elems_rel n e at =
          elem_rel P (values_in env v 0) (values_in env w 0) {d = e} {e = new_elem map_of e}
          (elems_alike P map_of kept i j (entries laws namespace names m moved owns g env i j a b) (values_in env v 0) (values_in env w 0) (consts laws namespace names m moved owns g env i j a b) e (λ p c h. outside_named.items n p e c at h))

      -- The instance of the primary module has an address for each function of the module.
      funcs_space : length j.funcs ≡ length (funcs_of undeclared)
      funcs_space =
          let s : length j.funcs ≡ length (imports_of Functions primary) + length primary.funcs = search (arith, b.funcs, length-append, length-numbers, all_there_length) in
          let counted : length (imports_of Functions m) ≡ length (imported_funcs m.imports) = places_many _ _ m.imports (grind arith) 0 in
          let stubs_are = stubs_many laws namespace names m moved owns g in
          let all = length-append (map stub (types_moved laws namespace names m moved owns g)) (entry_names.split laws namespace names m moved owns g).primary.funcs in
          let rest = ap length (keeps laws namespace names m moved owns g).funcs in
          let imports = ap length (spaces.imported_funcs_are namespace names.export_prefix m valid moved g.can_move) in
          let two = length-append (imported_funcs m.imports) (map (type_index m) moved) in
          let moving = length-map moved (type_index m) in
          let both = length-append (imported_funcs undeclared.imports) (map (λ f. f.ty) undeclared.funcs) in
          let types = length-map undeclared.funcs (λ f. f.ty) in
          omega (arith, s, counted, stubs_are, all, rest, imports, two, moving, both, types)

      slot_item : (n : ℕ) (e : ConstExpr) → slice_get slots.items n ≡ Some e → (x : RefVal) × (world.ref_value env (one primary) (j ∷ []) 0 e ≡ Some x)
      slot_item n e at =
          let c = map_from (new_const map_of) (map const.Func (in_slots m (length moved))) n e at in
          let f = map_from const.Func (in_slots m (length moved)) n c.0 c.1 in
          let many = length-numbers (length (funcs_of m)) (length moved) in
          let within = slice_get_within (in_slots m (length moved)) n f.0 f.1 in
          let lt : n < length moved = omega (arith, many, within) in
          let index = same_Some _ _ (sym (numbers_at (length (funcs_of m)) (length moved) n lt) ∙ f.1) in
          let entry = spaces.placeholder_entry namespace names.export_prefix m valid moved g.can_move n lt in
          let low = spaces.placeholder_within namespace names.export_prefix m valid moved g.can_move n lt in
          let size = funcs_space in
          let x = slice_get_there j.funcs (imported + n) (omega (arith, low, size)) in
          let is : const.Func (imported + n) ≡ e = ap const.Func (sym entry) ∙ ap (λ f. const.Func (slice_index map_of.funcs f)) index ∙ ap (new_const map_of) f.2 ∙ c.2 in
          let value : world.ref_value env (one primary) (j ∷ []) 0 (const.Func (imported + n)) ≡ Some (FuncRef (Some x.0)) = rw x.1 refl in
          (FuncRef (Some x.0), ap (world.ref_value env (one primary) (j ∷ []) 0) (sym is) ∙ value)

      slots_are_there : (x : Elem) × (world.elem_of env (one primary) (j ∷ []) 0 slots ≡ Some x)
      slots_are_there =
          let all = all_there_from (world.ref_value env (one primary) (j ∷ []) 0) slots.items slot_item in
          (_, ap (option_and_then (λ items. Some (world.new_elem slots.mode items))) all.are)

      more_there : (l : ℕ) (e : ElemSeg) → slice_get (slots ∷ last_segments (declared_refs undeclared)) l ≡ Some e → (x : Elem) × (world.elem_of env (one primary) (j ∷ []) 0 e ≡ Some x)
      more_there zero e h = let is : slots ≡ e = cc in (slots_are_there.0, ap (world.elem_of env (one primary) (j ∷ []) 0) (sym is) ∙ slots_are_there.1)
      more_there (suc l) e h =
          let last = laws.declared env primary j undeclared funcs_space in
          let x = all_there_at (world.elem_of env (one primary) (j ∷ []) 0) (last_segments (declared_refs undeclared)) last.0 last.1 l e h in
          (x.0, x.1)

      -- ---- each is allocated where the other is ----

      second_allocated : (s : Store) → part_store env (one m) (i ∷ []) 0 m i ≡ Some s → (z : Store) × (part_store env (one primary) (j ∷ []) 0 primary j ≡ Some z)
      second_allocated s made =
          is_some_there (part_store env (one primary) (j ∷ []) 0 primary j) (rw ((all_there_from _ primary.funcs second_there).are, (all_there_from _ primary.globals global_there).are, (all_there_from _ primary.elems elem_there).are))
        where
          first : Adds env (one m) (i ∷ []) 0 m i s
          first = search (arith, made)

          global_there : (n : ℕ) (d : GlobalDef) → slice_get primary.globals n ≡ Some d → (x : Global) × (world.new_global env (one primary) (j ∷ []) 0 d ≡ Some x)
          global_there n d at =
              let e = map_from (new_global map_of) m.globals n d (ap (λ ds. slice_get ds n) (sym (globals_are laws namespace names m moved owns g)) ∙ at) in
              let x = all_there_at (world.new_global env (one m) (i ∷ []) 0) m.globals s.globals first.globals n e.0 e.1 in
              let y = right_there (globals_rel n e.0 e.1) x.1 in
              (y.0, ap (world.new_global env (one primary) (j ∷ []) 0) (sym e.2) ∙ y.1)

          elem_there : (n : ℕ) (d : ElemSeg) → slice_get primary.elems n ≡ Some d → (x : Elem) × (world.elem_of env (one primary) (j ∷ []) 0 d ≡ Some x)
          elem_there n d at = by (append_from (map (new_elem map_of) m.elems) (slots ∷ last_segments (declared_refs undeclared)) n d (ap (λ ds. slice_get ds n) (sym (elems_are laws namespace names m moved owns g)) ∙ at))
            where
              by : (slice_get (map (new_elem map_of) m.elems) n ≡ Some d) ⊎ ((l : ℕ) × (n ≡ length (map (new_elem map_of) m.elems) + l) × (slice_get (slots ∷ last_segments (declared_refs undeclared)) l ≡ Some d)) → (x : Elem) × (world.elem_of env (one primary) (j ∷ []) 0 d ≡ Some x)
              by (inl h) =
                  let e = map_from (new_elem map_of) m.elems n d h in
                  let x = all_there_at (world.elem_of env (one m) (i ∷ []) 0) m.elems s.elems first.elems n e.0 e.1 in
                  let y = right_there (elems_rel n e.0 e.1) x.1 in
                  (y.0, ap (world.elem_of env (one primary) (j ∷ []) 0) (sym e.2) ∙ y.1)
              by (inr l) = more_there l.0 d l.2

      first_allocated : (z : Store) → part_store env (one primary) (j ∷ []) 0 primary j ≡ Some z → (s : Store) × (part_store env (one m) (i ∷ []) 0 m i ≡ Some s)
      first_allocated z made =
          is_some_there (part_store env (one m) (i ∷ []) 0 m i) (rw ((all_there_from _ m.funcs first_there).are, (all_there_from _ m.globals global_there).are, (all_there_from _ m.elems elem_there).are))
        where
          second : Adds env (one primary) (j ∷ []) 0 primary j z
          second = search (arith, made)

          global_there : (n : ℕ) (d : GlobalDef) → slice_get m.globals n ≡ Some d → (x : Global) × (world.new_global env (one m) (i ∷ []) 0 d ≡ Some x)
          global_there n d at =
              let h = ap (λ ds. slice_get ds n) (globals_are laws namespace names m moved owns g) ∙ map_at (new_global map_of) m.globals n d at in
              left_there (globals_rel n d at) (all_there_at (world.new_global env (one primary) (j ∷ []) 0) primary.globals z.globals second.globals n (new_global map_of d) h).1

          elem_there : (n : ℕ) (e : ElemSeg) → slice_get m.elems n ≡ Some e → (x : Elem) × (world.elem_of env (one m) (i ∷ []) 0 e ≡ Some x)
          elem_there n e at =
              let h = ap (λ ds. slice_get ds n) (elems_are laws namespace names m moved owns g) ∙ append_at_left (map (new_elem map_of) m.elems) (slots ∷ last_segments (declared_refs undeclared)) n (new_elem map_of e) (map_at (new_elem map_of) m.elems n e at) in
              left_there (elems_rel n e at) (all_there_at (world.elem_of env (one primary) (j ∷ []) 0) primary.elems z.elems second.elems n (new_elem map_of e) h).1

      -- ---- and linked ----

      abbrev R : Pairing
      R = split_pairing env m moved []

      linked_alike : insts_from env (one m) 0 (one m) ≡ Some (i ∷ []) → insts_from env (one primary) 0 (one primary) ≡ Some (j ∷ []) → links env (alone m) ≡ links env whole
      linked_alike e f = by (part_store env (one m) (i ∷ []) 0 m i) (part_store env (one primary) (j ∷ []) 0 primary j) refl refl
        where
          by : (o p : Option Store) → part_store env (one m) (i ∷ []) 0 m i ≡ o → part_store env (one primary) (j ∷ []) 0 primary j ≡ p → links env (alone m) ≡ links env whole
          by None None h l = rw (e, f, h, l) refl
          by (Some s) None h l = absurd (let z = second_allocated s h in let x = z.1 in cc)
          by None (Some z) h l = absurd (let s = first_allocated z l in let x = s.1 in cc)
          by (Some s) (Some z) h l = seen (all_there (seen_as (i ∷ [])) (alone m).view) (all_there (seen_as (j ∷ [])) whole.view) refl refl (all_rel (view laws namespace names m moved owns g env i j a b []))
            where
              first : stores_from env (one m) (i ∷ []) (own_store env) 0 (one m) (i ∷ []) ≡ Some (joined_stores (own_store env) s)
              first = rw h refl

              second : stores_from env (one primary) (j ∷ []) (own_store env) 0 (one primary) (j ∷ []) ≡ Some (joined_stores (own_store env) z)
              second = rw l refl

              matched : all_of (is_matched env (one m) (joined_stores (own_store env) s)) (sites (one m)) ≡ all_of (is_matched env (one primary) (joined_stores (own_store env) z)) (sites (one primary))
              matched =
                  let own = shares_own namespace names.export_prefix m valid moved g.can_move env [] in
                  all_matched R env own (joined_stores (own_store env) s) (joined_stores (own_store env) z)
                  (stores_rel R env v w own (definitions laws namespace names m moved owns g env i j a b []) (joined_stores (own_store env) s) (joined_stores (own_store env) z) first second) m primary same_types refl

              either : {A B : Type 0} (c d : Bool) (x : A) (y : B) → c ≡ d → is_some (cond c (Some x) None) ≡ is_some (cond d (Some y) None)
              either true true x y q = refl
              either false false x y q = refl
              either true false x y q = cc
              either false true x y q = cc

              seen : (o p : Option (List (Text × ExternalValue))) → all_there (seen_as (i ∷ [])) (alone m).view ≡ o → all_there (seen_as (j ∷ [])) whole.view ≡ p → OptRel (ListRel (KeyRel R)) o p → links env (alone m) ≡ links env whole
              seen None None x y none = rw (e, f, h, l, x, y) refl
              seen (Some o) (Some p) x y (some q) = rw (e, f, h, l, x, y) (either _ _ _ _ matched)
              seen None (Some p) x y q = elim q [ ]
              seen (Some o) None x y q = elim q [ ]

    pub linked : links env (alone m) ≡ links env whole
    linked = by (insts_from env (one m) 0 (one m)) (insts_from env (one primary) 0 (one primary)) refl refl
      where
        by : (o p : Option (List Inst)) → insts_from env (one m) 0 (one m) ≡ o → insts_from env (one primary) 0 (one primary) ≡ p → links env (alone m) ≡ links env whole
        by None None e f = rw (e, f) refl
        by (Some is) None e f = absurd (let j = inst_too env m primary same_types refl is e in let x = j.1 in cc)
        by None (Some js) e f = absurd (let i = inst_too env primary m (sym same_types) refl js f in let x = i.1 in cc)
        by (Some is) (Some js) e f =
            let i : (i : Inst) × (is ≡ i ∷ []) × IsInst env (one m) 0 m i = search (arith, e) in
            let j : (i : Inst) × (js ≡ i ∷ []) × IsInst env (one primary) 0 primary i = search (arith, f) in
            linked_alike i.0 j.0 i.2 j.2 (e ∙ ap Some i.1) (f ∙ ap Some j.1)

    -- ---- both are instantiated to what is related, or neither is ----

    module _ (loaded : List (ℕ × ℕ)) where
      abbrev S : Pairing
      S = split_pairing env m moved loaded

      for_instances : (P : List Inst → List Inst → Type 0) → ((i j : Inst) → IsInst env (one m) 0 m i → IsInst env (one primary) 0 primary j → P (i ∷ []) (j ∷ [])) → (is js : List Inst) → insts_from env (one m) 0 (one m) ≡ Some is → insts_from env (one primary) 0 (one primary) ≡ Some js → P is js
      for_instances P h is js e f =
          let i : (i : Inst) × (is ≡ i ∷ []) × IsInst env (one m) 0 m i = search (arith, e) in
          let j : (i : Inst) × (js ≡ i ∷ []) × IsInst env (one primary) 0 primary i = search (arith, f) in
          subst (λ is. P is js) (sym i.1) (subst (P (i.0 ∷ [])) (sym j.1) (h i.0 j.0 i.2 j.2))

      similar : AreSimilar S env (alone m) whole
      similar = for_instances (WorldsCorrespond S env (alone m) whole) (λ i j a b. worlds laws namespace names m moved owns g env i j a b loaded)

      start_alike : StartsCorrespond S env (alone m) whole
      start_alike = for_instances (λ is js. ListRel (S.of Functions) (starts_of (one m) is) (starts_of (one primary) js)) (λ i j a b. starts laws namespace names m moved owns g env i j a b loaded)

      pub instantiated : OptRel (BegunRel S (EntryByEntry S)) (instantiate env (alone m)) (instantiate env whole)
      instantiated = instances_rel S (one_to_one namespace names.export_prefix m valid moved g.can_move env loaded) env (alone m) whole similar start_alike linked
