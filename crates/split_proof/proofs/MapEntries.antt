-- The maps of a split have an entry for each index that is named in the trees that they renumber.
use Rattle.base_lists.proofs.Common.{slice_get_within, ◌≡◌, ◌∙◌, ap, sym, subst, refl, ℕ, suc, ◌<◌, ◌≤◌, List, [], ◌∷◌, ◌++◌, length, Bool, true, ◌&&◌, Some, slice_get, arith, map, ◌+◌, IsTrue, ℤ, pos, list_all, lt-ltb, ltb-true, list_all-append, left_true, right_true, list_all_each, list_all_from}
use Rattle.base_lists.proofs.Common.{length-numbers, numbers_at, slice_get_there, slice_index_is, map_from, and_from}
use Rattle.base_lists.specs.Places.{numbers}
use Rattle.wasm_tree_spec.specs.Prelude.{Operand, Types, Tables, ValType, Call, CallIndirect, I32Const, LocalGet, fold_out-Instr, Func, ImportDesc, Module, all_operands_pass, called, operands_pass, funcs_of, tables_of, memories_of, globals_of}
use Rattle.wasm_tree.specs.declared.instr.Instr.{out-Instr}
use Rattle.wasm_tree.specs.declared.module.ConstExpr.TheVariants as const
use Rattle.wasm_tree.specs.declared.module.ImportDesc.TheVariants as im
use Rattle.wasm_tree.specs.Operands.{all_pass_step, named}
use Rattle.wasm_valid.specs.Prelude.{IsValid, ImportHolds, ItemsHold}
use Rattle.index_remap.specs.declared.remap.Remap.{Remap}
use Rattle.run_simulation.specs.Prelude.{gets, slot_call}
use Rattle.index_remap.specs.Prelude.{fits_func, fits_import, fits_tree, has, has_entry, fits_const, fits_import_desc}
use Rattle.index_remap_proof.specs.Trees.{Covers}
use Rattle.split_spec.specs.Prelude.{call_by_slot, slot_table, type_index, in_slots}
use Rattle.split_proof.proofs.DescribedSpaces.{type_there}

-- A remap that is as long as each index space has an entry for each index that a valid module
-- names.
abbrev pub EntriesAreThere : Type 0
EntriesAreThere = (r : Remap) (t : Module) → IsValid t → Covers r t → IsTrue (fits_tree r t)

pub has_below : (xs : List ℕ) (n i : ℕ) → length xs ≡ n → i < n → has xs i ≡ true
has_below xs n i many lt = lt-ltb i (length xs) (omega (arith, many, lt))

pub below_has : (xs : List ℕ) (n i : ℕ) → length xs ≡ n → has xs i ≡ true → i < n
below_has xs n i many h = let lt = ltb-true i (length xs) h in omega (arith, many, lt)

pub longer : (xs ys : List ℕ) (i : ℕ) → length xs ≤ length ys → has xs i ≡ true → has ys i ≡ true
longer xs ys i le h = let lt = ltb-true i (length xs) h in lt-ltb i (length ys) (omega (arith, le, lt))

-- The type index of an import of the module has an entry where all types have one.
pub desc_fits : (r : Remap) (m : Module) → length r.types ≡ length m.types → (d : ImportDesc) → ImportHolds m d → fits_import_desc r d ≡ true
desc_fits r m many (im.Func ty) h = has_below r.types (length m.types) ty many h
desc_fits r m many (im.Table t) h = refl
desc_fits r m many (im.Memory l) h = refl
desc_fits r m many (im.Global g) h = refl

-- The references in the slots have entries where each placeholder has one.
pub slots_fit : (r : Remap) (m : Module) (count : ℕ) → length r.funcs ≡ length (funcs_of m) + count → list_all (fits_const r) (map const.Func (in_slots m count)) ≡ true
slots_fit r m count all = list_all_from (fits_const r) (map const.Func (in_slots m count)) (λ n e at.
    let f = map_from const.Func (in_slots m count) n e at in
    let many = length-numbers (length (funcs_of m)) count in
    let within = slice_get_within (in_slots m count) n f.0 f.1 in
    let lt : n < count = omega (arith, many, within) in
    let both : Some (length (funcs_of m) + n) ≡ Some f.0 = sym (numbers_at (length (funcs_of m)) count n lt) ∙ f.1 in
    let index : length (funcs_of m) + n ≡ f.0 = cc in
    ap (fits_const r) (sym f.2) ∙ has_below r.funcs (length (funcs_of m) + count) f.0 all (omega (arith, index, lt)))

-- ---- what stands in place of calls ----

module _ (test : Operand → Bool) where
  pub call_passes : (f : ℕ) → test (called f) ≡ true → all_operands_pass test (Call f ∷ []) ≡ true
  unfolding out-Instr denote.Hole.Carrier.out
  call_passes f h = and_from (operands_pass test (Call f)) true (fold_out-Instr Bool (all_pass_step test) (Call f) ∙ and_from (test (called f) && true) true (and_from (test (called f)) true h refl) refl) refl

  indirect_passes : (ty table : ℕ) → test (named Types ty) ≡ true → test (named Tables table) ≡ true → operands_pass test (CallIndirect ty table) ≡ true
  unfolding out-Instr denote.Hole.Carrier.out
  indirect_passes ty table h k = fold_out-Instr Bool (all_pass_step test) (CallIndirect ty table) ∙ and_from (test (named Types ty) && (test (named Tables table) && true)) true
      (and_from (test (named Types ty)) (test (named Tables table) && true) h (and_from (test (named Tables table)) true k refl)) refl

  const_passes : (v : ℤ) → operands_pass test (I32Const v) ≡ true
  unfolding out-Instr denote.Hole.Carrier.out
  const_passes v = fold_out-Instr Bool (all_pass_step test) (I32Const v)

  get_passes : (n : ℕ) → operands_pass test (LocalGet n) ≡ true
  unfolding out-Instr denote.Hole.Carrier.out
  get_passes n = fold_out-Instr Bool (all_pass_step test) (LocalGet n)

  pub slot_call_passes : (ty table : ℕ) (slot : ℤ) → test (named Types ty) ≡ true → test (named Tables table) ≡ true → all_operands_pass test (slot_call ty table slot) ≡ true
  slot_call_passes ty table slot h k =
      and_from (operands_pass test (I32Const slot)) (operands_pass test (CallIndirect ty table) && true) (const_passes slot) (and_from (operands_pass test (CallIndirect ty table)) true (indirect_passes ty table h k) refl)

  gets_pass : (n : ℕ) (ts : List ValType) → all_operands_pass test (gets n ts) ≡ true
  gets_pass n [] = refl
  gets_pass n (t ∷ ts) = and_from (operands_pass test (LocalGet n)) (all_operands_pass test (gets (suc n) ts)) (get_passes n) (gets_pass (suc n) ts)

  pub trampoline_passes : (ts : List ValType) (ty table : ℕ) (slot : ℤ) → test (named Types ty) ≡ true → test (named Tables table) ≡ true → all_operands_pass test (gets 0 ts ++ slot_call ty table slot) ≡ true
  trampoline_passes ts ty table slot h k =
      list_all-append (operands_pass test) (gets 0 ts) (slot_call ty table slot) ∙ and_from (all_operands_pass test (gets 0 ts)) (all_operands_pass test (slot_call ty table slot)) (gets_pass 0 ts) (slot_call_passes ty table slot h k)

module _ (entries_there : EntriesAreThere) (m : Module) (valid : IsValid m) (holds : ItemsHold m) where
  -- A remap with an entry for each index of the module, and for no other.
  abbrev pub exact : Remap
  exact = record {
    types = numbers 0 (length m.types);
    funcs = numbers 0 (length (funcs_of m));
    tables = numbers 0 (length (tables_of m));
    mems = numbers 0 (length (memories_of m));
    globals = numbers 0 (length (globals_of m));
    elems = numbers 0 (length m.elems);
    datas = numbers 0 (length m.datas);
  }

  pub covers_exact : Covers exact m
  covers_exact =
      let types = length-numbers 0 (length m.types) in
      let funcs = length-numbers 0 (length (funcs_of m)) in
      let tables = length-numbers 0 (length (tables_of m)) in
      let mems = length-numbers 0 (length (memories_of m)) in
      let globals = length-numbers 0 (length (globals_of m)) in
      let elems = length-numbers 0 (length m.elems) in
      let datas = length-numbers 0 (length m.datas) in
      record { types = omega (arith, types); funcs = omega (arith, funcs); tables = omega (arith, tables); memories = omega (arith, mems); globals = omega (arith, globals); elems = omega (arith, elems); datas = omega (arith, datas) }

  pub body_exact : (p : ℕ) (f : Func) → slice_get m.funcs p ≡ Some f → all_operands_pass (has_entry exact) f.body ≡ true
  body_exact p f at =
      let fit = entries_there exact m valid covers_exact in
      right_true (has exact.types f.ty) (all_operands_pass (has_entry exact) f.body)
      (list_all_each (fits_func exact) m.funcs (left_true (list_all (fits_func exact) m.funcs) _ (right_true (list_all (fits_import exact) m.imports) _ fit)) p f at)

  pub called_below : (f : ℕ) → has_entry exact (called f) ≡ true → f < length (funcs_of m)
  called_below f h = below_has (numbers 0 (length (funcs_of m))) (length (funcs_of m)) f (length-numbers 0 (length (funcs_of m))) h

  pub type_below : (f : ℕ) → f < length (funcs_of m) → type_index m f < length m.types
  type_below f lt =
      let ty = slice_get_there (funcs_of m) f lt in
      subst (λ n. n < length m.types) (sym (slice_index_is (funcs_of m) f ty.0 ty.1)) (type_there m holds f ty.0 ty.1)

  -- A call through a slot passes a test that all types and the slot table pass.
  pub through_slot_passes : (test : Operand → Bool) (f slot : ℕ) → f < length (funcs_of m) → ((ty : ℕ) → ty < length m.types → test (named Types ty) ≡ true) → test (named Tables (slot_table m)) ≡ true → all_operands_pass test (call_by_slot m (Some slot) f) ≡ true
  through_slot_passes test f slot lt types table = slot_call_passes test (type_index m f) (slot_table m) (pos slot) (types (type_index m f) (type_below f lt)) table
