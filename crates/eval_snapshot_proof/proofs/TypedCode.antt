-- Code stays well typed in a module with more functions, other declared functions and other data
-- segments, of which there are as many as before if the code names one.
use Rattle.base_lists.proofs.Common.{◌≡◌, ◌∙◌, ap, refl, ℕ, Bool, true, false, not, ◌&&◌, ◌||◌, List, [], ◌∷◌, ◌++◌, Some, slice_get, arith, nat_lt, nat_le, list_all, list_any, append_at_left, and_from, left_either, right_either, keeps_only, keeps_then, and_then_is, only_true, Option, None}
use Rattle.base_lists.specs.Every.{Every}
use Rattle.wasm_tree_spec.specs.Prelude.{Operand, ValType, FuncType, Instr, Row_of-Instr, end_of-Instr, more_of-Instr, Block', Loop', If', Call, RefFunc, MemoryInit, DataDrop, names_data, uses_data, uses_data_in, Layers, RowLayers, ListLayers, all_operands_pass, held, operands, operands_of}
use Rattle.wasm_tree_spec.specs.Prelude.{operands_pass, AnyInside, PassesInside, PassesLayerByLayer}
use Rattle.wasm_tree.specs.declared.instr.Instr.{out-Instr}
use Rattle.wasm_tree.specs.declared.instr.Instr.TheOpen.{Instr-F}
use Rattle.wasm_tree.proofs.OperandLaws.{by_held}
use Rattle.wasm_valid_bodies.specs.Typing.{Context, Effect, Fits, Leads, LeadsAll, Stack, WellTyped, effect_of, gives_of, signature_in}
use Rattle.index_remap.specs.Prelude.{Keeps, labelled}
use Rattle.eval_snapshot_proof.specs.GlobalsAndSegments.{no_data_or}

-- ---- code that names a data segment only where there are as many ----

either_so : (b so : Bool) → (b ≡ true → so ≡ true) → (not b || so) ≡ true
either_so true so h = h refl
either_so false so h = refl

module _ (inside : PassesInside) (any : AnyInside) (so : Bool) where
  own_pass : (os : List Operand) → (list_any names_data os ≡ true → so ≡ true) → list_all (no_data_or so) os ≡ true
  own_pass [] h = refl
  own_pass (o ∷ os) h =
      and_from (no_data_or so o) (list_all (no_data_or so) os) (either_so (names_data o) so (λ e. h (left_either (names_data o) (list_any names_data os) e)))
      (own_pass os (λ e. h (right_either (names_data o) (list_any names_data os) e)))

  abbrev Passes : Instr → Type 0
  Passes i = (uses_data_in i ≡ true → so ≡ true) → operands_pass (no_data_or so) i ≡ true

  all_pass : (is : List Instr) → Every Passes is → (uses_data is ≡ true → so ≡ true) → all_operands_pass (no_data_or so) is ≡ true
  all_pass [] p h = refl
  all_pass (i ∷ is) p h =
      and_from (operands_pass (no_data_or so) i) (all_operands_pass (no_data_or so) is) (p.0 (λ e. h (left_either (uses_data_in i) (uses_data is) e))) (all_pass is p.1 (λ e. h (right_either (uses_data_in i) (uses_data is) e)))

  one_passes : (i : Instr) → Passes i
  one_passes = by_held Passes (λ i p h.
      inside (no_data_or so) i
      ∙ and_from (list_all (no_data_or so) (operands_of i)) (all_operands_pass (no_data_or so) (held (out-Instr i)))
      (own_pass (operands_of i) (λ e. h (any names_data i ∙ left_either (list_any names_data (operands_of i)) (uses_data (held (out-Instr i))) e)))
      (all_pass (held (out-Instr i)) p (λ e. h (any names_data i ∙ right_either (list_any names_data (operands_of i)) (uses_data (held (out-Instr i))) e))))

  each_passes : (is : List Instr) → Every Passes is
  each_passes [] = tt
  each_passes (i ∷ is) = (one_passes i, each_passes is)

  pub code_passes : (is : List Instr) → (uses_data is ≡ true → so ≡ true) → all_operands_pass (no_data_or so) is ≡ true
  code_passes is = all_pass is (each_passes is)

-- ---- typing ----

below_more : (x n k : ℕ) → nat_le n k ≡ true → nat_lt x n ≡ true → nat_lt x k ≡ true
below_more x n k le h = grind (arith, le, h)

left_keeps : (a b r : Bool) → (a ≡ true → b ≡ true) → a && r ≡ true → b && r ≡ true
left_keeps true b r k h = ap (λ z. z && r) (k refl) ∙ h
left_keeps false b r k h = cc

-- A call has the same effect as before if the type of its function is still there.
call_keeps : (o p : Option FuncType) (e : Effect) → Keeps o p → gives_of (signature_in o) ≡ Some e → gives_of (signature_in p) ≡ Some e
call_keeps None p e k h = cc
call_keeps (Some t) p e k h = ap (λ q. gives_of (signature_in q)) (k t refl) ∙ h

module _ (c : Context) (more : List ℕ) (count : ℕ) (marks : List Bool) (marked : (x : ℕ) → slice_get c.named x ≡ Some true → slice_get marks x ≡ Some true) where
  abbrev wider : List (List ValType) → Context
  wider ls = record c { funcs = c.funcs ++ more; datas = count; named = marks; labels = ls }

  abbrev DatasAreThere : Instr-F Instr → Type 0
  DatasAreThere l = Every (λ o. no_data_or (nat_le c.datas count) o ≡ true) (operands l)

  types_keep : (i : ℕ) → Keeps (slice_get c.types i) (slice_get c.types i)
  types_keep i t e = e

  effect_wider : (ls : List (List ValType)) (i : Instr) (e : Effect) → DatasAreThere (out-Instr i) → effect_of (labelled c ls) i ≡ Some e → effect_of (wider ls) i ≡ Some e
  unfolding out-Instr denote.Hole.Carrier.out
  effect_wider ls (Call f) e q h =
      call_keeps _ _ e (keeps_then (slice_get c.funcs f) (slice_get (c.funcs ++ more) f) (slice_get c.types) (slice_get c.types) (append_at_left c.funcs more f) types_keep) h
  effect_wider ls (RefFunc x) e q h =
      let b = and_then_is (slice_get c.named x) _ e h in
      let may : slice_get c.named x ≡ Some true = b.1 ∙ ap Some (only_true b.0 _ e b.2) in
      rw (marked x may) (rw may at h)
  effect_wider ls (MemoryInit x y) e q h = keeps_only _ _ _ _ (left_keeps (nat_lt x c.datas) (nat_lt x count) (nat_lt y c.memories) (below_more x c.datas count q.0)) (λ z p. p) e h
  effect_wider ls (DataDrop x) e q h = keeps_only _ _ _ _ (below_more x c.datas count q.0) (λ z p. p) e h
  effect_wider ls _ e q h = h

  mutual
    instr_wider : (ls : List (List ValType)) (i : Instr) (s t : Stack) → Layers DatasAreThere i → Fits (labelled c ls) i s t → Fits (wider ls) i s t
    instr_wider ls (Block' bt n body) s t q (f, e, (u, l, r), a) = (f, e, (u, row_wider (f.results ∷ ls) body q.1 _ u l, r), a)
    instr_wider ls (Loop' bt n body) s t q (f, e, (u, l, r), a) = (f, e, (u, row_wider (f.params ∷ ls) body q.1 _ u l, r), a)
    instr_wider ls (If' bt n body o other) s t q (f, e, (u, l, r), (v, k, o'), a) =
        (f, e, (u, row_wider (f.results ∷ ls) body q.1 _ u l, r), (v, row_wider (f.results ∷ ls) other q.2 _ v k, o'), a)
    instr_wider ls i s t q h = (h.0, effect_wider ls i h.0 q h.1, h.2)

    row_wider : {n : _} (ls : List (List ValType)) (is : Row_of-Instr n) → RowLayers DatasAreThere is → (s t : Stack) → Leads (labelled c ls) is s t → Leads (wider ls) is s t
    row_wider ls end_of-Instr q s t h = h
    row_wider ls (more_of-Instr i is) q s t (u, f, l) = (u, instr_wider ls i s u q.0 f, row_wider ls is q.1 u t l)

  all_wider : (ls : List (List ValType)) (is : List Instr) → ListLayers DatasAreThere is → (s t : Stack) → LeadsAll (labelled c ls) is s t → LeadsAll (wider ls) is s t
  all_wider ls [] q s t h = h
  all_wider ls (i ∷ is) q s t (u, f, l) = (u, instr_wider ls i s u q.0 f, all_wider ls is q.1 u t l)

  pub typed_wider : PassesInside → AnyInside → PassesLayerByLayer → (is : List Instr) (ps rs : List ValType) → (uses_data is ≡ true → nat_le c.datas count ≡ true) → WellTyped c is ps rs →
      WellTyped (record c { funcs = c.funcs ++ more; datas = count; named = marks }) is ps rs
  typed_wider inside any layers is ps rs h (last, l, a) =
      (last, all_wider c.labels is ((layers (no_data_or (nat_le c.datas count)) is).0 (code_passes inside any (nat_le c.datas count) is h)) _ last l, a)
