-- The functions of the stores after a module and its split are instantiated.
use Rattle.base_lists.proofs.Common.{◌≡◌, ◌∙◌, ap, ap₂, sym, subst, refl, ℕ, zero, suc, ◌+◌, ◌-◌, ◌⊎◌, inl, inr, List, [], ◌∷◌, ◌++◌, map, length, Option, Some, None, true, arith, append-nil, option_and_then, slice_get, slice_index, pos, option_map_or, length-append, same_Some, numbers_index}
use Rattle.base_lists.proofs.Common.{and_then_is, all_there_at, append_at_left, append_from, append_right, map_from, map_twice, slice_get_there, slice_index_is, all_there_back, there_among, place_is, no_place}
use Rattle.wasm_tree_spec.specs.Prelude.{FuncType, Module, funcs_of, tables_of, type_of_func, Functions}
use Rattle.wasm_tree.specs.declared.module.Func as tree
use Rattle.wasm_meaning.specs.Prelude.{Code, Func, Inst, Own, Pair, Placeholder, Environment, own_funcs, Added, LoaderWorld, begun_under, placeholders_from, placeholders_of, primary_added, Begun, alone, insts_from}
use Rattle.wasm_meaning.specs.Prelude.{instantiate, new_func, own_count}
use Rattle.index_remap.specs.declared.remap.Remap.{Remap}
use Rattle.run_simulation.specs.Prelude.{gets, slot_call, trampoline}
use Rattle.index_remap.specs.Prelude.{renumbered_all}
use Rattle.index_remap.specs.Renumbered as tree_with
use Rattle.world_simulation.specs.Prelude.{one, IsInst}
use Rattle.split_spec.specs.declared.names.SplitNames.{SplitNames}
use Rattle.split_spec.specs.Prelude.{primary_func, params_of, place_among, slot_table, trampoline_body, type_index}
use Rattle.split_proof.proofs.PrimarySpaces as spaces
use Rattle.split_proof.proofs.DescribedSpaces.{func_holds}
use Rattle.wasm_valid.specs.Prelude.{ItemsHold}
use Rattle.split_proof.proofs.CallTypes.{trampoline_renumbered}
use Rattle.split_proof.specs.SplitWorlds.{placeholders_for, type_in}
use Rattle.split_proof.specs.Addresses.{defined_address, is_left_at}
use Rattle.split_proof.specs.SplitLaws.{CanBeSplit}
use Rattle.split_proof.proofs.AddressPartners.{LeftAt, own_stays, goes, left_is, place_left}
use Rattle.split_proof.proofs.PlaceholderImports.{imports_them_last, moved_typed, placeholders_are}
use Rattle.split_proof.proofs.IndexEntries.{Laws, Q, holds, k, left_there, r, split, types_are, types_moved}
use Rattle.split_proof.proofs.InitialDefinitions.{stubs}
use Rattle.split_proof.proofs.RelatedBodies.{moved_defined}
use Rattle.split_proof.proofs.InstantiatedSplits.{BeginsWith, begins_with, slots_many}

-- ---- lists ----

own_are_own : (env : Environment) (n : ℕ) (f : Func) → slice_get (own_funcs env) n ≡ Some f → (p : Pair) × (u : FuncType) × (f ≡ Own p u)
own_are_own [] n f at = absurd (let e = at in cc)
own_are_own (o ∷ env) n f at = by (own_are_own env) (append_from (map (Own o.pair) o.funcs) (own_funcs env) n f at)
  where
    by : ((n : ℕ) (f : Func) → slice_get (own_funcs env) n ≡ Some f → (p : Pair) × (u : FuncType) × (f ≡ Own p u)) → (slice_get (map (Own o.pair) o.funcs) n ≡ Some f) ⊎ ((l : ℕ) × (n ≡ length (map (Own o.pair) o.funcs) + l) × (slice_get (own_funcs env) l ≡ Some f)) →
        (p : Pair) × (u : FuncType) × (f ≡ Own p u)
    by rest (inl h) = let u = map_from (Own o.pair) o.funcs n f h in (o.pair, u.0, sym u.2)
    by rest (inr l) = rest l.0 f l.2

pub placeholder_at : (namespace : ℕ → List ℕ) (m : Module) (from : ℕ) (fs : List ℕ) (n f : ℕ) → slice_get fs n ≡ Some f → slice_get (placeholders_from from (placeholders_for namespace m from fs)) n ≡ Some (Placeholder (from + n) (type_in m f))
placeholder_at namespace m from [] n f at = cc
placeholder_at namespace m from (x ∷ fs) zero f at =
    let is : x ≡ f = cc in
    let e : from ≡ from + 0 = omega arith in
    ap₂ (λ slot f. Some (Placeholder slot (type_in m f))) e is
placeholder_at namespace m from (x ∷ fs) (suc n) f at = let e : suc from + n ≡ from + suc n = omega arith in placeholder_at namespace m (suc from) fs n f at ∙ ap (λ slot. Some (Placeholder slot (type_in m f))) e

module _ (laws : Laws) (namespace : ℕ → List ℕ) (names : SplitNames) (m : Module) (moved : List ℕ) (owns : List (List ℕ)) (g : CanBeSplit namespace names m moved owns) (env : Environment) where
  abbrev valid : ItemsHold m
  valid = holds laws namespace names m moved owns g

  abbrev w : LoaderWorld
  w = split laws namespace names m moved owns g

  abbrev map_of : Remap
  map_of = r laws namespace names m moved owns g

  abbrev imported : ℕ
  imported = k laws namespace names m moved owns g

  abbrev O : ℕ
  O = own_count Functions env

  -- ---- the module ----

  -- The world of a loader with the module alone and no secondary module.
  abbrev lone : LoaderWorld
  lone = record { primary = m; secondaries = []; import_namespace = []; slot_table = 0; view = map (λ e. (e.name, e.desc)) m.exports }

  lone_is : (b : Begun) → instantiate env (alone m) ≡ Some b → begun_under env lone ≡ Some b
  lone_is b h = laws.primary env lone refl ∙ ap (λ view. instantiate env (record { parts = one m; view = view })) (map_twice (λ v. (v.0, record { part = 0; what = v.1 })) (λ e. (e.name, e.desc)) m.exports) ∙ h

  module _ (b : Begun) (h : instantiate env (alone m) ≡ Some b) where
    pub first_begins : BeginsWith env lone b
    first_begins = begins_with laws.segments env lone b (lone_is b h)

    pub first_insts : insts_from env (one m) 0 (one m) ≡ Some (first_begins.made.inst ∷ [])
    first_insts = laws.inst env lone refl first_begins.made first_begins.is_made

    pub first_inst : IsInst env (one m) 0 m first_begins.made.inst
    first_inst =
        let i : (k : Inst) × (first_begins.made.inst ∷ [] ≡ k ∷ []) × IsInst env (one m) 0 m k = search (arith, first_insts) in
        let is : first_begins.made.inst ≡ i.0 = (let e = i.1 in cc) in
        subst (IsInst env (one m) 0 m) (sym is) i.2

    first_defined : (n : ℕ) (f : tree.Func) → slice_get m.funcs n ≡ Some f → slice_get b.store.funcs (O + n) ≡ new_func first_begins.made.inst f
    first_defined n f at =
        let x = all_there_at (new_func first_begins.made.inst) m.funcs first_begins.defined first_begins.are_defined n f at in
        let own = ap length (append-nil (own_funcs env)) in
        let index : O + n ≡ length (own_funcs env ++ []) + n = omega (arith, own) in
        ap (λ fs. slice_get fs (O + n)) first_begins.funcs ∙ ap (slice_get ((own_funcs env ++ []) ++ first_begins.defined)) index ∙ append_right (own_funcs env ++ []) first_begins.defined n ∙ x.2 ∙ sym x.1

    pub first_moves : (slot func : ℕ) (f : tree.Func) → slice_get moved slot ≡ Some func → slice_get m.funcs (func - imported) ≡ Some f → slice_get b.store.funcs (defined_address env m func) ≡ new_func first_begins.made.inst f
    first_moves slot func f at there = first_defined (func - imported) f there

    pub first_plain : (a n : ℕ) (u : FuncType) → slice_get b.store.funcs a ≡ Some (Placeholder n u) → ⊥
    first_plain a n u at = by (append_from (own_funcs env ++ []) first_begins.defined a (Placeholder n u) (ap (λ fs. slice_get fs a) (sym first_begins.funcs) ∙ at))
      where
        by : (slice_get (own_funcs env ++ []) a ≡ Some (Placeholder n u)) ⊎ ((l : ℕ) × (a ≡ length (own_funcs env ++ []) + l) × (slice_get first_begins.defined l ≡ Some (Placeholder n u))) → ⊥
        by (inl e) = let o = own_are_own env a (Placeholder n u) (ap (λ fs. slice_get fs a) (sym (append-nil (own_funcs env))) ∙ e) in let z = o.2 in cc
        by (inr l) =
            let f = all_there_back (new_func first_begins.made.inst) m.funcs first_begins.defined first_begins.are_defined l.0 (Placeholder n u) l.2 in
            let t = and_then_is (slice_get first_begins.made.inst.types f.0.ty) _ (Placeholder n u) f.2 in
            let z = t.2 in
            cc

  -- ---- its split ----

  module _ (c : Begun) (h : begun_under env w ≡ Some c) where
    pub second_begins : BeginsWith env w c
    second_begins = begins_with laws.segments env w c h

    pub second_inst : IsInst env (one (Q laws namespace names m moved owns g)) 0 (Q laws namespace names m moved owns g) second_begins.made.inst
    second_inst =
        let stubbed = stubs laws namespace names m moved owns g in
        let same = laws.adds env w m.imports (types_moved laws namespace names m moved owns g) (imports_them_last namespace names m moved owns g valid) in
        let a = and_then_is (primary_added env stubbed) _ second_begins.made (sym same ∙ second_begins.is_made) in
        let inst : a.0.inst ≡ second_begins.made.inst = ap (λ (x : Added). x.inst) (same_Some _ _ a.2) in
        let made = laws.inst env stubbed refl a.0 a.1 in
        let i : (k : Inst) × (a.0.inst ∷ [] ≡ k ∷ []) × IsInst env (one (Q laws namespace names m moved owns g)) 0 (Q laws namespace names m moved owns g) k = search (arith, made) in
        let head : (x y : Inst) → x ∷ [] ≡ y ∷ [] → x ≡ y = λ x y e. cc in
        let is = head a.0.inst i.0 i.1 in
        subst (IsInst env (one (Q laws namespace names m moved owns g)) 0 (Q laws namespace names m moved owns g)) (sym is ∙ inst) i.2

    many : length (placeholders_from 0 (placeholders_of w)) ≡ length moved
    many = slots_length 0 (placeholders_of w) ∙ ap length (placeholders_are namespace names m moved owns g valid) ∙ slots_many namespace m 0 moved
      where
        slots_length : (n : ℕ) (ps : List (Pair × FuncType)) → length (placeholders_from n ps) ≡ length ps
        slots_length n [] = refl
        slots_length n (p ∷ ps) = ap suc (slots_length (suc n) ps)

    pub second_waits : (slot func : ℕ) → slice_get moved slot ≡ Some func → slice_get c.store.funcs (O + slot) ≡ Some (Placeholder slot (type_in m func))
    second_waits slot func at =
        let e : 0 + slot ≡ slot = omega arith in
        let there = ap (λ ps. slice_get (placeholders_from 0 ps) slot) (placeholders_are namespace names m moved owns g valid) ∙ placeholder_at namespace m 0 moved slot func at ∙ ap (λ n. Some (Placeholder n (type_in m func))) e in
        ap (λ fs. slice_get fs (O + slot)) second_begins.funcs
        ∙ append_at_left (own_funcs env ++ placeholders_from 0 (placeholders_of w)) second_begins.defined (O + slot) (Placeholder slot (type_in m func)) (append_right (own_funcs env) (placeholders_from 0 (placeholders_of w)) slot ∙ there)

    second_defined : (n : ℕ) (f : tree.Func) → slice_get w.primary.funcs n ≡ Some f → slice_get c.store.funcs (O + (length moved + n)) ≡ new_func second_begins.made.inst f
    second_defined n f at =
        let x = all_there_at (new_func second_begins.made.inst) w.primary.funcs second_begins.defined second_begins.are_defined n f at in
        let count = many in
        let own = length-append (own_funcs env) (placeholders_from 0 (placeholders_of w)) in
        let index : O + (length moved + n) ≡ length (own_funcs env ++ placeholders_from 0 (placeholders_of w)) + n = omega (arith, own, count) in
        ap (λ fs. slice_get fs (O + (length moved + n))) second_begins.funcs ∙ ap (slice_get ((own_funcs env ++ placeholders_from 0 (placeholders_of w)) ++ second_begins.defined)) index
        ∙ append_right (own_funcs env ++ placeholders_from 0 (placeholders_of w)) second_begins.defined n ∙ x.2 ∙ sym x.1

    -- The place of a moved function on the list is its slot.
    slot_is : (slot func : ℕ) → slice_get moved slot ≡ Some func → place_among moved func ≡ Some slot
    slot_is slot func at = by (place_among moved func) refl
      where
        by : (o : Option ℕ) → place_among moved func ≡ o → o ≡ Some slot
        by (Some p) e = let q = place_is func moved 0 p e in let shift = q.1 in let same = g.once q.0 slot func q.2 at in ap Some (omega (arith, shift, same))
        by None e = absurd (let z = no_place func moved 0 e in let x = there_among moved slot func at in cc)

    trampoline_is : (slot func : ℕ) (f : tree.Func) → slice_get moved slot ≡ Some func → slice_get m.funcs (func - imported) ≡ Some f →
        new_func second_begins.made.inst (tree_with.new_func map_of (primary_func m moved (Some slot) func f)) ≡ Some (trampoline second_begins.made.inst (type_in m func) (type_index m func) (slot_table m) (pos slot))
    trampoline_is slot func f at there =
        let x = spaces.moved_moves namespace names.export_prefix m valid moved g.can_move slot func at in
        let same : x.func ≡ f = same_Some _ _ (sym x.is ∙ there) in
        let index : type_index m func ≡ f.ty = slice_index_is (funcs_of m) func x.func.ty x.typed ∙ ap (λ (f : tree.Func). f.ty) same in
        let typed = moved_typed namespace names m moved owns g valid slot func at in
        let lt = func_holds m valid (func - imported) f there in
        let entry : slice_index map_of.types f.ty ≡ f.ty = numbers_index (length m.types) f.ty lt in
        let type_there : slice_get second_begins.made.inst.types (slice_index map_of.types f.ty) ≡ Some (type_in m func) =
        ap (slice_get second_begins.made.inst.types) entry ∙ ap (λ ts. slice_get ts f.ty) (second_inst.types ∙ types_are laws namespace names m moved owns g) ∙ ap (slice_get m.types) (sym index) ∙ typed in
        let of_type : type_of_func m func ≡ Some (type_in m func) = ap (option_and_then (slice_get m.types)) x.typed ∙ ap (slice_get m.types) (ap (λ (f : tree.Func). f.ty) same ∙ sym index) ∙ typed in
        let params : params_of m func ≡ (type_in m func).params = ap (λ (o : Option FuncType). option_map_or (λ t. t.params) o []) of_type in
        let types : slice_index map_of.types (type_index m func) ≡ type_index m func = ap (slice_index map_of.types) index ∙ entry ∙ sym index in
        let table : slice_index map_of.tables (slot_table m) ≡ slot_table m = numbers_index (suc (length (tables_of m))) (slot_table m) (omega arith) in
        let body : renumbered_all map_of (trampoline_body m func slot) ≡ gets 0 (type_in m func).params ++ slot_call (type_index m func) (slot_table m) (pos slot) =
        trampoline_renumbered map_of (params_of m func) (type_index m func) (slot_table m) (pos slot) ∙ ap (λ ts. gets 0 ts ++ slot_call (slice_index map_of.types (type_index m func)) (slice_index map_of.tables (slot_table m)) (pos slot)) params
        ∙ ap₂ (λ ty table. gets 0 (type_in m func).params ++ slot_call ty table (pos slot)) types table in
        ap (option_and_then (λ t. Some (Code t second_begins.made.inst [] (renumbered_all map_of (trampoline_body m func slot))))) type_there ∙ ap (λ code. Some (Code (type_in m func) second_begins.made.inst [] code)) body

    pub second_trampolines : (slot func b : ℕ) → slice_get moved slot ≡ Some func → is_left_at env m moved (defined_address env m func) b ≡ true →
        slice_get c.store.funcs b ≡ Some (trampoline second_begins.made.inst (type_in m func) (type_index m func) (slot_table m) (pos slot))
    second_trampolines slot func b at related = by (left_is namespace names.export_prefix m valid moved g.can_move env (defined_address env m func) b related)
      where
        by : LeftAt env m moved (defined_address env m func) b → slice_get c.store.funcs b ≡ Some (trampoline second_begins.made.inst (type_in m func) (type_index m func) (slot_table m) (pos slot))
        by (own_stays lt e) = absurd (omega (arith, lt))
        by (goes n e lt left f) =
            let d = moved_defined laws namespace names m moved owns g slot func at in
            let le = d.0 in
            let back : imported + n ≡ func = omega (arith, e, le) in
            let x = slice_get_there m.funcs n lt in
            let place : n ≡ func - imported = omega (arith, e) in
            let there = left_there laws namespace names m moved owns g n x.0 x.1 left in
            let primary : slice_get w.primary.funcs (place_left m moved n) ≡ Some (tree_with.new_func map_of (primary_func m moved (Some slot) func x.0)) =
            there ∙ ap (λ f. Some (tree_with.new_func map_of (primary_func m moved (place_among moved f) f x.0))) back ∙ ap (λ o. Some (tree_with.new_func map_of (primary_func m moved o func x.0))) (slot_is slot func at) in
            ap (slice_get c.store.funcs) f ∙ second_defined (place_left m moved n) (tree_with.new_func map_of (primary_func m moved (Some slot) func x.0)) primary ∙ trampoline_is slot func x.0 at (ap (slice_get m.funcs) (sym place) ∙ x.1)
