-- Indices of the definitions of a module and their addresses in an environment, which correspond in
-- a quiet run.
use Rattle.base_lists.proofs.Common.{◌≡◌, ◌∙◌, ap, refl, ℕ, suc, ◌<◌, ◌≤◌, List, [], ◌∷◌, length, true, false, cond, Option, Some, arith, slice_get, IsTrue, eq-eqb, le-ltb, lt-ltb, length-numbers}
use Rattle.base_lists.specs.Places.{places}
use Rattle.wasm_tree_spec.specs.Prelude.{Space, Memories, Globals, DataSegments, Import, ImportDesc, Module, same_space, memories_of, globals_of, space_of_import}
use Rattle.wasm_tree.specs.declared.module.ImportDesc.TheVariants as im
use Rattle.wasm_meaning.specs.Prelude.{Inst, has_kind, imports_of}
use Rattle.world_simulation.specs.InstantiatedStores.{is_address}
use Rattle.eval_spec.specs.Prelude.{is_imported, own_inst}
use Rattle.eval_snapshot_proof.specs.QuietRunAddresses.{addresses_in, names_at, stands_at}

module _ (m : Module) (i : Inst) where
  -- No import is a data segment.
  no_data : (is : List Import) (n : ℕ) → places (has_kind DataSegments) is n ≡ []
  no_data [] n = refl
  no_data (x ∷ xs) n = ap (λ b. cond b (n ∷ places (has_kind DataSegments) xs (suc n)) (places (has_kind DataSegments) xs (suc n))) (by x.desc) ∙ no_data xs (suc n)
    where
      by : (d : ImportDesc) → same_space DataSegments (space_of_import d) ≡ false
      by (im.Func ty) = refl
      by (im.Table t) = refl
      by (im.Memory l) = refl
      by (im.Global t) = refl

  address_of : (o : Option ℕ) (a : ℕ) → o ≡ Some a → is_address o a ≡ true
  address_of o a h = ap (λ o. is_address o a) h ∙ eq-eqb a a refl

  named : (k : Space) (n a : ℕ) → n < length (addresses_in (own_inst m) k) → slice_get (addresses_in i k) n ≡ Some a → names_at m i k n a ≡ true
  named k n a lt at = rw (lt-ltb n (length (addresses_in (own_inst m) k)) lt, address_of (slice_get (addresses_in i k) n) a at) refl

  pub not_imported : (k : Space) (n : ℕ) → length (imports_of k m) ≤ n → is_imported m k n ≡ false
  not_imported k n le = le-ltb n (length (imports_of k m)) le

  -- A definition corresponds to the address that its index denotes.
  pub global_stands : (n a : ℕ) → length (imports_of Globals m) ≤ n → n < length (globals_of m) → slice_get i.globals n ≡ Some a → IsTrue (stands_at m i Globals n a)
  global_stands n a le lt at =
      let c = length-numbers 0 (length (globals_of m)) in
      rw (named Globals n a (omega (arith, lt, c)) at, not_imported Globals n le) refl

  pub memory_stands : (n a : ℕ) → length (imports_of Memories m) ≤ n → n < length (memories_of m) → slice_get i.mems n ≡ Some a → IsTrue (stands_at m i Memories n a)
  memory_stands n a le lt at =
      let c = length-numbers 0 (length (memories_of m)) in
      rw (named Memories n a (omega (arith, lt, c)) at, not_imported Memories n le) refl

  pub data_stands : (n : ℕ) → n < length m.datas → slice_get i.datas n ≡ Some n → IsTrue (stands_at m i DataSegments n n)
  data_stands n lt at =
      let c = length-numbers 0 (length m.datas) in
      let none : length (imports_of DataSegments m) ≡ 0 = ap length (no_data m.imports 0) in
      rw (named DataSegments n n (omega (arith, lt, c)) at, not_imported DataSegments n (omega (arith, none))) refl
