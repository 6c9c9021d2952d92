-- The constants of code with replaced calls are in range where those of the code and of the
-- replacements are.
use Rattle.base_lists.proofs.Common.{◌≡◌, ◌∙◌, ap, ap₂, sym, refl, ℕ, suc, ◌+◌, ◌≤◌, ◌<◌, ◌^◌, List, [], ◌∷◌, length, Option, Some, None, Bool, true, ◌&&◌, list_all-map, map, arith, pos, and_from, lt-ltb, list_all-append, slice_get_within, left_true, right_true, place_is}
use Rattle.wasm_tree_spec.specs.Prelude.{BlockType, ValType, Instr, fold_out-Instr, map-Instr, Row_of-Instr, items-the_row-Instr, end_of-Instr, more_of-Instr, Block, Block', Loop, Loop', If, If', Call, CallIndirect, I32Const, LocalGet, outs-Block, outs-Loop, outs-If, Module}
use Rattle.wasm_tree.specs.declared.instr.Instr.{out-Instr}
use Rattle.wasm_tree.specs.declared.instr.Instr.TheOpen.{Instr-F}
use Rattle.run_simulation.specs.Prelude.{gets, slot_call}
use Rattle.wasm_write_proof.specs.Ranges.{small, number_step, numbers_in, all_numbers_in}
use Rattle.split_spec.specs.Prelude.{calls_in, calls_step, with_calls, call_by_slot, call_through_slot, params_of, place_among, slot_table, trampoline_body, type_index}
use Rattle.split_proof.proofs.ReplacedBlocks.{block_calls, block_layer, if_calls, if_layer, loop_calls, loop_layer}

-- ---- what a block holds ----

block_numbers : (i : Instr) (ty : BlockType) (body : List Instr) → out-Instr i ≡ Instr-F.Block ty body → numbers_in i ≡ all_numbers_in body
block_numbers i ty body is = fold_out-Instr Bool number_step i ∙ ap (λ l. number_step (map-Instr Instr Bool numbers_in l)) is ∙ list_all-map (λ b. b) numbers_in body

loop_numbers : (i : Instr) (ty : BlockType) (body : List Instr) → out-Instr i ≡ Instr-F.Loop ty body → numbers_in i ≡ all_numbers_in body
loop_numbers i ty body is = fold_out-Instr Bool number_step i ∙ ap (λ l. number_step (map-Instr Instr Bool numbers_in l)) is ∙ list_all-map (λ b. b) numbers_in body

if_numbers : (i : Instr) (ty : BlockType) (body other : List Instr) → out-Instr i ≡ Instr-F.If ty body other → numbers_in i ≡ all_numbers_in body && all_numbers_in other
if_numbers i ty body other is =
    fold_out-Instr Bool number_step i ∙ ap (λ l. number_step (map-Instr Instr Bool numbers_in l)) is ∙ list_all-append (λ b. b) (map numbers_in body) (map numbers_in other)
    ∙ ap₂ (λ a b. a && b) (list_all-map (λ b. b) numbers_in body) (list_all-map (λ b. b) numbers_in other)

-- ---- where other code stands in place of calls ----

module _ (code : ℕ → List Instr) (codes : (f : ℕ) → all_numbers_in (code f) ≡ true) where
  mutual
    unfolding out-Instr denote.Hole.Carrier.out

    instr_numbers : (i : Instr) → numbers_in i ≡ true → all_numbers_in (calls_in code i) ≡ true
    instr_numbers (Block' ty n row) h =
        let is = items-the_row-Instr _ row in
        let old : all_numbers_in is ≡ true = sym (block_numbers (Block' ty n row) ty is (block_layer ty n row)) ∙ h in
        ap all_numbers_in (block_calls code ty n row) ∙ and_from (numbers_in (Block ty (with_calls code is))) true (block_numbers (Block ty (with_calls code is)) ty (with_calls code is) (outs-Block ty (with_calls code is)) ∙ row_numbers row old) refl
    instr_numbers (Loop' ty n row) h =
        let is = items-the_row-Instr _ row in
        let old : all_numbers_in is ≡ true = sym (loop_numbers (Loop' ty n row) ty is (loop_layer ty n row)) ∙ h in
        ap all_numbers_in (loop_calls code ty n row) ∙ and_from (numbers_in (Loop ty (with_calls code is))) true (loop_numbers (Loop ty (with_calls code is)) ty (with_calls code is) (outs-Loop ty (with_calls code is)) ∙ row_numbers row old) refl
    instr_numbers (If' ty n row k other) h =
        let is = items-the_row-Instr _ row in
        let os = items-the_row-Instr _ other in
        let old : (all_numbers_in is && all_numbers_in os) ≡ true = sym (if_numbers (If' ty n row k other) ty is os (if_layer ty n row k other)) ∙ h in
        let one = row_numbers row (left_true (all_numbers_in is) (all_numbers_in os) old) in
        let two = row_numbers other (right_true (all_numbers_in is) (all_numbers_in os) old) in
        let new = if_numbers (If ty (with_calls code is) (with_calls code os)) ty (with_calls code is) (with_calls code os) (outs-If ty (with_calls code is) (with_calls code os)) ∙ and_from (all_numbers_in (with_calls code is)) (all_numbers_in (with_calls code os)) one two in
        ap all_numbers_in (if_calls code ty n row k other) ∙ and_from (numbers_in (If ty (with_calls code is) (with_calls code os))) true new refl
    instr_numbers (Call f) h = ap all_numbers_in (fold_out-Instr (List Instr) (calls_step code) (Call f)) ∙ codes f
    instr_numbers i h = ap all_numbers_in (fold_out-Instr (List Instr) (calls_step code) i) ∙ and_from (numbers_in i) true h refl

    row_numbers : {n : _} (is : Row_of-Instr n) → all_numbers_in (items-the_row-Instr n is) ≡ true → all_numbers_in (with_calls code (items-the_row-Instr n is)) ≡ true
    row_numbers end_of-Instr h = refl
    row_numbers (more_of-Instr i is) h =
        let js = items-the_row-Instr _ is in
        let first = instr_numbers i (left_true (numbers_in i) (all_numbers_in js) h) in
        let rest = row_numbers is (right_true (numbers_in i) (all_numbers_in js) h) in
        list_all-append numbers_in (calls_in code i) (with_calls code js) ∙ and_from (all_numbers_in (calls_in code i)) (all_numbers_in (with_calls code js)) first rest

  pub calls_numbers : (is : List Instr) → all_numbers_in is ≡ true → all_numbers_in (with_calls code is) ≡ true
  calls_numbers [] h = refl
  calls_numbers (i ∷ is) h =
      let first = instr_numbers i (left_true (numbers_in i) (all_numbers_in is) h) in
      let rest = calls_numbers is (right_true (numbers_in i) (all_numbers_in is) h) in
      list_all-append numbers_in (calls_in code i) (with_calls code is) ∙ and_from (all_numbers_in (calls_in code i)) (all_numbers_in (with_calls code is)) first rest

-- ---- what stands there ----

pub call_numbers : (f : ℕ) → all_numbers_in (Call f ∷ []) ≡ true
unfolding out-Instr denote.Hole.Carrier.out
call_numbers f = and_from (numbers_in (Call f)) true (fold_out-Instr Bool number_step (Call f)) refl

slot_call_numbers : (ty table slot : ℕ) → slot < 2 ^ 31 → all_numbers_in (slot_call ty table (pos slot)) ≡ true
unfolding out-Instr denote.Hole.Carrier.out
slot_call_numbers ty table slot few =
    and_from (numbers_in (I32Const (pos slot))) _ (fold_out-Instr Bool number_step (I32Const (pos slot)) ∙ and_from _ true (lt-ltb slot (2 ^ 31) few) refl)
    (and_from (numbers_in (CallIndirect ty table)) true (fold_out-Instr Bool number_step (CallIndirect ty table)) refl)

get_numbers : (n : ℕ) → n < 2 ^ 32 → numbers_in (LocalGet n) ≡ true
unfolding out-Instr denote.Hole.Carrier.out
get_numbers n few = fold_out-Instr Bool number_step (LocalGet n) ∙ and_from (small n) true (lt-ltb n (2 ^ 32) few) refl

gets_numbers : (n : ℕ) (ts : List ValType) → n + length ts ≤ 2 ^ 32 → all_numbers_in (gets n ts) ≡ true
gets_numbers n [] few = refl
gets_numbers n (t ∷ ts) few = and_from (numbers_in (LocalGet n)) (all_numbers_in (gets (suc n) ts)) (get_numbers n (omega (arith, few))) (gets_numbers (suc n) ts (omega (arith, few)))

-- The slot of a function is below the number of moved functions.
pub slot_below : (moved : List ℕ) (f slot : ℕ) → place_among moved f ≡ Some slot → slot < length moved
slot_below moved f slot e =
    let p = place_is f moved 0 slot e in
    let same = p.1 in
    let within = slice_get_within moved p.0 f p.2 in
    omega (arith, same, within)

pub through_slot_numbers : (m : Module) (moved : List ℕ) → length moved ≤ 2 ^ 31 → (f : ℕ) → all_numbers_in (call_through_slot m moved f) ≡ true
through_slot_numbers m moved few f = by (place_among moved f) refl
  where
    by : (o : Option ℕ) → place_among moved f ≡ o → all_numbers_in (call_by_slot m o f) ≡ true
    by None e = call_numbers f
    by (Some slot) e = let below = slot_below moved f slot e in slot_call_numbers (type_index m f) (slot_table m) slot (omega (arith, below, few))

pub trampoline_numbers : (m : Module) (f slot : ℕ) → slot < 2 ^ 31 → length (params_of m f) < 2 ^ 32 → all_numbers_in (trampoline_body m f slot) ≡ true
trampoline_numbers m f slot few params =
    let ts = params_of m f in
    let call = slot_call (type_index m f) (slot_table m) (pos slot) in
    let passed = gets_numbers 0 ts (omega (arith, params)) in
    list_all-append numbers_in (gets 0 ts) call ∙ and_from (all_numbers_in (gets 0 ts)) (all_numbers_in call) passed (slot_call_numbers (type_index m f) (slot_table m) slot few)
