-- A renumbered call through a slot has the type of the function, and the values of the slots are
-- function references.
use Rattle.base_lists.proofs.Common.{lt-ltb, ◌≡◌, ◌∙◌, ap, ap₂, sym, subst, ℕ, length, Some, slice_get, slice_index, map, ◌+◌, ◌<◌, arith, pos, slice_get_within, numbers_index, length-numbers, numbers_at, slice_index_is, map_from}
use Rattle.base_lists.specs.Places.{numbers}
use Rattle.wasm_tree.specs.declared.types.RefType.TheVariants.{Func as func_ref}
use Rattle.wasm_tree_spec.specs.Prelude.{FuncType, Ref, ConstExpr, Module, funcs_of}
use Rattle.wasm_tree.specs.declared.module.ConstExpr.TheVariants as const
use Rattle.wasm_valid.specs.Prelude.{const_type, table_types}
use Rattle.wasm_valid_bodies.specs.Typing.{Context, WellTyped, only}
use Rattle.index_remap.specs.declared.remap.Remap.{Remap}
use Rattle.index_remap.specs.Prelude.{renumbered_all, new_const}
use Rattle.split_spec.specs.Prelude.{call_by_slot, slot_table, type_index, in_slots}
use Rattle.split_proof.proofs.CallTypes.{slot_call_renumbered, slot_call_typed}

module _ (r : Remap) (m u : Module) (f ty slot : ℕ) (t : FuncType) (types_stay : r.types ≡ numbers 0 (length m.types)) (types_same : u.types ≡ m.types)
    (slots : slice_get (table_types u) (slice_index r.tables (slot_table m)) ≡ Some func_ref) (at : slice_get (funcs_of m) f ≡ Some ty) (is : slice_get m.types ty ≡ Some t)
  where
    -- The type index of the function stays.
    pub type_stays : slice_index r.types (type_index m f) ≡ ty
    type_stays = ap (λ ts. slice_index ts (type_index m f)) types_stay ∙ ap (slice_index (numbers 0 (length m.types))) (slice_index_is (funcs_of m) f ty at) ∙ numbers_index (length m.types) ty (slice_get_within m.types ty t is)

    pub type_new : (d : Context) → d.types ≡ u.types → slice_get d.types (slice_index r.types (type_index m f)) ≡ Some t
    type_new d types = ap₂ (λ ts n. slice_get ts n) (types ∙ types_same) type_stays ∙ is

    pub slots_new : (d : Context) → d.tables ≡ table_types u → slice_get d.tables (slice_index r.tables (slot_table m)) ≡ Some func_ref
    slots_new d tables = ap (λ ts. slice_get ts (slice_index r.tables (slot_table m))) tables ∙ slots

    pub through_slot_typed : (d : Context) → d.types ≡ u.types → d.tables ≡ table_types u → WellTyped d (renumbered_all r (call_by_slot m (Some slot) f)) t.params t.results
    through_slot_typed d types tables =
        subst (λ z. WellTyped d z t.params t.results) (sym (slot_call_renumbered r (type_index m f) (slot_table m) (pos slot)))
        (slot_call_typed d (slice_index r.types (type_index m f)) (slice_index r.tables (slot_table m)) (pos slot) t (type_new d types) (slots_new d tables))

-- The value of a slot is a function reference, where its new index is in the index space of
-- functions.
pub slot_typed : (r : Remap) (m u : Module) (count : ℕ) → ((j : ℕ) → j < count → slice_index r.funcs (length (funcs_of m) + j) < length (funcs_of u)) →
    (j : ℕ) (e : ConstExpr) → slice_get (map (new_const r) (map const.Func (in_slots m count))) j ≡ Some e → const_type u e ≡ Some (Ref func_ref)
slot_typed r m u count inside j e at =
    let c = map_from (new_const r) (map const.Func (in_slots m count)) j e at in
    let f = map_from const.Func (in_slots m count) j c.0 c.1 in
    let many = length-numbers (length (funcs_of m)) count in
    let within = slice_get_within (in_slots m count) j f.0 f.1 in
    let lt : j < count = omega (arith, many, within) in
    let both : Some (length (funcs_of m) + j) ≡ Some f.0 = sym (numbers_at (length (funcs_of m)) count j lt) ∙ f.1 in
    let index : length (funcs_of m) + j ≡ f.0 = cc in
    let below : slice_index r.funcs f.0 < length (funcs_of u) = subst (λ n. slice_index r.funcs n < length (funcs_of u)) index (inside j lt) in
    ap (const_type u) (sym (ap (new_const r) f.2 ∙ c.2)) ∙ ap (λ b. only b (Some (Ref func_ref))) (lt-ltb (slice_index r.funcs f.0) (length (funcs_of u)) below)
