-- If a remap has the entries that an instruction needs, it has one for each index that the
-- instruction names, and those that the code inside it needs.
use Rattle.base_lists.proofs.Common.{◌≡◌, ℕ, ◌<◌, List, [], ◌∷◌, Bool, true, ◌&&◌, IsTrue, refl, sym, ap, ap₂, ◌∙◌, length, list_all, map, list_all-append, list_all-map, left_true, right_true, ltb-true}
use Rattle.wasm_tree_spec.specs.Prelude.{Space, BlockType, MemArg, Instr, fold_out-Instr, out-Instr, map-Instr, Block, Loop, If, outs-Block, outs-Loop, outs-If, all_pass_step, map_operands}
use Rattle.wasm_tree.specs.declared.instr.Instr.TheOpen.{Instr-F}
use Rattle.index_remap.specs.declared.remap.Remap.{Remap}
use Rattle.index_remap.specs.Prelude.{has_entry, fits_all}
use Rattle.index_remap.specs.Renumbered.{entries, entry, has, fits_type, fits, renumbered}

module _ (m : Remap) where
  abbrev step : Instr-F Instr → Bool
  step l = all_pass_step (has_entry m) (map-Instr Instr Bool (fits m) l)

  each : (is : List Instr) → list_all (λ b. b) (map (fits m) is) ≡ fits_all m is
  each is = list_all-map (λ b. b) (fits m) is

  -- What an instruction needs, as a test of its layer.
  pub layer : (i : Instr) → IsTrue (fits m i) → IsTrue (step (out-Instr i))
  layer i h = sym (fold_out-Instr Bool (all_pass_step (has_entry m)) i) ∙ h

  -- The only index that an instruction names, the first of two, the second, and the memory of a
  -- memory argument. `j` is the index, or the argument, as the code reads it.
  pub fits_one : (s : Space) (i j : ℕ) → j ≡ i → IsTrue ((has (entries m s) i && true) && true) → j < length (entries m s)
  fits_one s i j is h = rw is (ltb-true i _ (left_true (has (entries m s) i) true (left_true _ true h)))

  pub fits_first : (s r : Space) (i k j : ℕ) → j ≡ i → IsTrue ((has (entries m s) i && (has (entries m r) k && true)) && true) → j < length (entries m s)
  fits_first s r i k j is h = rw is (ltb-true i _ (left_true (has (entries m s) i) _ (left_true _ true h)))

  pub fits_second : (s r : Space) (i k j : ℕ) → j ≡ k → IsTrue ((has (entries m s) i && (has (entries m r) k && true)) && true) → j < length (entries m r)
  fits_second s r i k j is h = rw is (ltb-true k _ (left_true (has (entries m r) k) true (right_true (has (entries m s) i) _ (left_true _ true h))))

  pub fits_arg : (a j : MemArg) → j ≡ a → IsTrue ((has m.mems a.memory && true) && true) → IsTrue (has m.mems j.memory)
  fits_arg a j is h = rw is (left_true (has m.mems a.memory) true (left_true _ true h))

  both_block : (ty : BlockType) (is : List Instr) → IsTrue (fits m (Block ty is)) → IsTrue (fits_type m ty && fits_all m is)
  both_block ty is h = sym (fold_out-Instr Bool (all_pass_step (has_entry m)) (Block ty is) ∙ ap step (outs-Block ty is) ∙ ap (λ b. fits_type m ty && b) (each is)) ∙ h

  both_loop : (ty : BlockType) (is : List Instr) → IsTrue (fits m (Loop ty is)) → IsTrue (fits_type m ty && fits_all m is)
  both_loop ty is h = sym (fold_out-Instr Bool (all_pass_step (has_entry m)) (Loop ty is) ∙ ap step (outs-Loop ty is) ∙ ap (λ b. fits_type m ty && b) (each is)) ∙ h

  all_if : (ty : BlockType) (is os : List Instr) → IsTrue (fits m (If ty is os)) → IsTrue (fits_type m ty && (fits_all m is && fits_all m os))
  all_if ty is os h =
      let held = list_all-append (λ b. b) (map (fits m) is) (map (fits m) os) ∙ ap₂ (λ a b. a && b) (each is) (each os) in
      sym (fold_out-Instr Bool (all_pass_step (has_entry m)) (If ty is os) ∙ ap step (outs-If ty is os) ∙ ap (λ b. fits_type m ty && b) held) ∙ h

  pub fits_block_type : (ty j : BlockType) (is : List Instr) → j ≡ ty → IsTrue (fits m (Block ty is)) → IsTrue (fits_type m j)
  fits_block_type ty j is same h = rw same (left_true (fits_type m ty) (fits_all m is) (both_block ty is h))

  pub fits_block : (ty : BlockType) (is : List Instr) → IsTrue (fits m (Block ty is)) → IsTrue (fits_all m is)
  fits_block ty is h = right_true (fits_type m ty) (fits_all m is) (both_block ty is h)

  pub fits_loop_type : (ty j : BlockType) (is : List Instr) → j ≡ ty → IsTrue (fits m (Loop ty is)) → IsTrue (fits_type m j)
  fits_loop_type ty j is same h = rw same (left_true (fits_type m ty) (fits_all m is) (both_loop ty is h))

  pub fits_loop : (ty : BlockType) (is : List Instr) → IsTrue (fits m (Loop ty is)) → IsTrue (fits_all m is)
  fits_loop ty is h = right_true (fits_type m ty) (fits_all m is) (both_loop ty is h)

  pub fits_if_type : (ty j : BlockType) (is os : List Instr) → j ≡ ty → IsTrue (fits m (If ty is os)) → IsTrue (fits_type m j)
  fits_if_type ty j is os same h = rw same (left_true (fits_type m ty) (fits_all m is && fits_all m os) (all_if ty is os h))

  pub fits_then : (ty : BlockType) (is os : List Instr) → IsTrue (fits m (If ty is os)) → IsTrue (fits_all m is)
  fits_then ty is os h = left_true (fits_all m is) (fits_all m os) (right_true (fits_type m ty) _ (all_if ty is os h))

  pub fits_else : (ty : BlockType) (is os : List Instr) → IsTrue (fits m (If ty is os)) → IsTrue (fits_all m os)
  fits_else ty is os h = right_true (fits_all m is) (fits_all m os) (right_true (fits_type m ty) _ (all_if ty is os h))

  -- An instruction with new indices is its layer with new indices.
  pub renewed : (i : Instr) → map_operands (entry m) (map-Instr Instr Instr (renumbered m) (out-Instr i)) ≡ renumbered m i
  renewed i = sym (fold_out-Instr Instr (map_operands (entry m)) i)
