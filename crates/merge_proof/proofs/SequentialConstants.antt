-- A constant expression of a part has one value, whether it is read from the store in the part's
-- turn or along its path through joined globals.
use Rattle.merge_proof.proofs.PartLaws.{Instances}
use Rattle.base_lists.proofs.Common.{◌≡◌, ◌∙◌, refl, sym, ap, ℕ, zero, suc, ◌+◌, ◌-◌, ◌<◌, List, [], ◌∷◌, length, Some, true, false, inl, inr, arith, add-zero, zero-add, option_and_then, slice_get, right_true, same_Some, slice_get_there, slice_get_within, and_then_is, unwrap_or_false_is, add_next}
use Rattle.base_lists.proofs.Common.{all_there_length, length-map}
use Rattle.wasm_tree_spec.specs.Prelude.{Space, Globals, GlobalType, Import, ConstExpr, Module, index_of_export, space_of_import}
use Rattle.wasm_tree.specs.declared.module.ImportDesc.TheVariants as im
use Rattle.wasm_tree.specs.declared.module.ConstExpr.TheVariants as const
use Rattle.wasm_meaning.specs.Prelude.{Val, Inst, Global, Store, same_type, walk, walk_on, Part, Site, End, Defined, Outside, Read, places, has_kind, space_index, imports_of, module_at, import_at, end_of, global_import, initial, outside_read, end_step, read_step, initials_from, read_of, Environment}
use Rattle.wasm_meaning.specs.Prelude.{GlobalAt, own_globals, base, imported_external_value, own_store, stores_from, same_bool, const_value, value_of, address_of, JoinsEarlier}
use Rattle.world_simulation.proofs.AllocatedParts.{keeps}
use Rattle.merge_proof.proofs.ExternalValues.{walk_more, thing_has, part_inst}
use Rattle.merge_proof.proofs.JoinedImports.{ExportsThere}
use Rattle.merge_proof.proofs.PartInstantiation.{EachMatches}
use Rattle.merge_proof.proofs.AddressOrder.{AtDefined, AtOwn, HasAddress, import_address, imported_at, imported_low}

-- The place of an import in the index space of its kind.
index_place : (k : Space) (is : List Import) (n off : ℕ) (i : Import) → slice_get is n ≡ Some i → space_of_import i.desc ≡ k → slice_get (places (has_kind k) is off) (space_index is n k) ≡ Some (off + n)
index_place k [] n off i e h = cc
index_place k (j ∷ js) zero off i e h =
    let same : has_kind k j ≡ true = grind (arith, same_Some _ _ e) in
    rw (same, add-zero)
index_place k (j ∷ js) (suc n) off i e h = rw add_next (grind (arith, index_place k js n (suc off) i e h))

-- ---- constant expressions ----

-- An import of an immutable global.
pub record ReadsImport (m : Module) (x : ℕ) : Type 0 where
  pub at : ℕ
  pub is_place : slice_get (imports_of Globals m) x ≡ Some at
  pub import : Import
  pub is_import : slice_get m.imports at ≡ Some import
  pub type : GlobalType
  pub is_global : import.desc ≡ im.Global type
  pub fixed : type.mutable ≡ false

-- A constant expression that reads only immutable imported globals.
abbrev pub Constant : Module → ConstExpr → Type 0
Constant m e = (x : ℕ) → e ≡ const.Global x → ReadsImport m x

-- The immutable globals below those of part k have the values that were allocated.
abbrev pub HoldsFixed : Environment → List Part → (allocated : Store) → ℕ → Store → Type 0
HoldsFixed env parts allocated k t = (a : ℕ) (g : Global) → a < base env parts Globals k → slice_get allocated.globals a ≡ Some g → g.ty.mutable ≡ false → (h : Global) × (slice_get t.globals a ≡ Some h) × (h.value ≡ g.value)

module _ (env : Environment) (parts : List Part) (insts : List Inst) (are : Instances env parts insts) where
  module _ (allocated : Store) (stores_are : stores_from env parts insts (own_store env) 0 parts insts ≡ Some allocated) (matched : EachMatches env parts allocated) (size : length insts ≡ length parts) (there : ExportsThere parts) (earlier : JoinsEarlier parts) where
    part_there : (k : ℕ) (m : Module) → module_at parts k ≡ Some m → (i : Inst) × (slice_get insts k ≡ Some i)
    part_there k m is_part = (let b = and_then_is (slice_get parts k) (λ part. Some part.«module») m is_part in slice_get_there insts k (omega (arith, slice_get_within parts k b.0 b.1)))

    -- The value of a global that a part defines is that of its initialiser.
    defined_value : (p : ℕ) (m : Module) (j : ℕ) (g : Global) → module_at parts p ≡ Some m → j < length m.globals → slice_get allocated.globals (base env parts Globals p + j) ≡ Some g →
        (e : ConstExpr) × (option_and_then (λ d. Some d.init) (slice_get m.globals j) ≡ Some e) × (value_of env parts insts p e ≡ Some g.value)
    defined_value p m j g is_part low at =
        let i = part_there p m is_part in
        let d = slice_get_there m.globals j low in
        let x = (are.placed env (record { parts = parts; insts = insts }) allocated stores_are).globals (record { part = p; of = m; is_part = is_part; inst = i.0; is_inst = i.1; place = j; definition = d.0; stands = d.1; address = refl }) in
        let v = and_then_is (value_of env parts insts p d.0.init) _ x.0 x.2 in
        (d.0.init, rw d.1, v.1 ∙ ap (λ g. Some g.value) (same_Some _ _ (v.2 ∙ sym x.1 ∙ at)))

    module _ (k : ℕ) (m : Module) (i : Inst) (is_part : module_at parts k ≡ Some m) (is_inst : slice_get insts k ≡ Some i) (t : Store) (holds : HoldsFixed env parts allocated k t) where
      -- An imported global is read with one value.
      read_same : (x : ℕ) → ReadsImport m x → (r : Read) → read_of parts k (const.Global x) ≡ Some r → const_value t.globals i (const.Global x) ≡ value_of env parts insts k (const.Global x)
      read_same x c r reads = from_store ∙ sym (elim (imported_at env parts there earlier Globals s d.thing d.address d.is d.has) [ inl w ↦ defined w | inr w ↦ own w ])
        where
          s : Site
          s = record { part = k; import = c.at }

          d : HasAddress env parts Globals s i x
          d = import_address env parts k m i (part_inst env parts insts are k m i is_part is_inst) Globals x c.at c.is_place

          -- The global that the import denotes is immutable, because the import matches.
          fixed : (g : Global) × (slice_get allocated.globals d.address ≡ Some g) × (g.ty.mutable ≡ false)
          fixed =
              let import_is : import_at parts s ≡ Some c.import = rw is_part c.is_import in
              let thing : imported_external_value env parts s ≡ Some (GlobalAt d.address) = d.is ∙ sym (thing_has Globals d.thing d.address d.has) in
              let matches = rw (thing, is_part, c.is_import, c.is_global) at (matched s c.import import_is) in
              let g = and_then_is (slice_get allocated.globals d.address) _ true (unwrap_or_false_is _ matches) in
              (g.0, g.1, grind (arith, c.fixed, right_true (same_type c.type.ty g.0.ty.ty) (same_bool c.type.mutable g.0.ty.mutable) (same_Some _ _ g.2)))

          from_store : const_value t.globals i (const.Global x) ≡ Some fixed.0.value
          from_store = let h = holds d.address fixed.0 (imported_low env parts there earlier are.next Globals s d.thing d.address d.is d.has) fixed.1 fixed.2 in rw (d.at, h.1, h.2)

          at_end : (end : End) → end_of parts s ≡ Some end → walk_on (walk (read_step parts) (length (initials_from 0 parts))) (end_step parts (Some end)) ≡ Some r
          at_end end e =
              let imports : global_import parts k x ≡ Some s = rw (is_part, c.is_place) in
              rw (imports, e) at reads

          defined : AtDefined env parts Globals s d.address → value_of env parts insts k (const.Global x) ≡ Some fixed.0.value
          defined w =
              let v = defined_value w.entity.part w.is.of (index_of_export w.entity.what - length (imports_of Globals w.is.of)) fixed.0 w.is.is_part w.within (rw (← w.address) fixed.1) in
              let first : initial parts w.entity ≡ Some v.0 = rw w.is.is_part v.1 in
              let far : read_of parts w.entity.part v.0 ≡ Some r = walk_more (read_step parts) (length (initials_from 0 parts)) (record { part = w.entity.part; expr = v.0 }) r (rw first at (at_end (Defined w.entity) w.end)) in
              rw reads (rw far at v.2)

          own : AtOwn env parts Globals s d.address → value_of env parts insts k (const.Global x) ≡ Some fixed.0.value
          own w =
              let y = space_index w.of.imports w.last.import Globals in
              let last : outside_read parts w.last ≡ Some (record { part = w.last.part; expr = const.Global y }) = rw w.is_part in
              let r_is = same_Some _ _ (rw last at (at_end (Outside w.last) w.end)) in
              let j = part_there w.last.part w.of w.is_part in
              let stands = rw zero-add at (index_place Globals w.of.imports w.last.import 0 w.import w.is_import w.kind) in
              let a = import_address env parts w.last.part w.of j.0 (part_inst env parts insts are w.last.part w.of j.0 w.is_part j.1) Globals y w.last.import stands in
              let same : a.address ≡ d.address = same_Some _ _ (sym a.has ∙ ap (λ o. option_and_then (address_of Globals) o) (sym a.is ∙ w.thing)) in
              let g = slice_get_there (own_globals env) d.address w.low in
              let here = g.1 ∙ sym (keeps env parts insts {k = Globals} {get = λ s. s.globals} (search (arith, all_there_length, length-map)) 0 parts insts (own_store env) allocated stores_are d.address g.0 g.1) ∙ fixed.1 in
              rw (reads, ← r_is, j.1, a.at, same, here)

      -- Other constant expressions have one value, because they read no import.
      pub value_same : (e : ConstExpr) → Constant m e → (r : Read) → read_of parts k e ≡ Some r → const_value t.globals i e ≡ value_of env parts insts k e
      value_same (const.Global x) c r reads = read_same x (c x refl) r reads
      value_same _ c r reads = rw is_inst

      pub value_given : (e : ConstExpr) → Constant m e → (v : Val) → value_of env parts insts k e ≡ Some v → const_value t.globals i e ≡ Some v
      value_given e c v h = let r = and_then_is (read_of parts k e) _ v h in value_same e c r.0 r.1 ∙ h
