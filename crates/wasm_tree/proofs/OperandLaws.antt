-- Laws of the operands that an instruction names.
use Rattle.base_lists.proofs.Common.{◌≡◌, ℕ, Bool, true, ◌&&◌, ◌||◌, List, [], ◌∷◌, ◌++◌, map, refl, sym, ap, ◌∙◌, ◌↔◌, subst, list_all, list_any, map-append, list_all-append, list_all-map, and_from, and_parts}
use Rattle.base_lists.specs.Every.{Every}
use Rattle.wasm_tree.specs.declared.space.Space.{Space}
use Rattle.wasm_tree.specs.declared.space.Operand.{Operand}
use Rattle.wasm_tree.specs.declared.types.BlockType.{BlockType}
use Rattle.wasm_tree.specs.declared.types.BlockType.TheVariants as block
use Rattle.wasm_tree.specs.declared.instr.Instr.{Instr, fold-Instr, fold_out-Instr, map-Instr, out-Instr, Row_of-Instr, end_of-Instr, more_of-Instr, items-the_row-Instr, items_shown-the_row-Instr-0, ind-Instr, roll-Instr, out-roll-Instr}
use Rattle.wasm_tree.specs.declared.instr.Instr.TheBlock.{shown-the_row-Instr-0}
use Rattle.wasm_tree.specs.declared.instr.Instr.TheOpen.{Instr-F}
use Rattle.wasm_tree.specs.declared.instr.Instr.TheVariants.{Block, Block', Loop, Loop', If, If', outs-Block, outs-Loop, outs-If}
use Rattle.wasm_tree.specs.Layers.{Layers, RowLayers, ListLayers}
use Rattle.wasm_tree.specs.Operands.{operands, operands_of, block_operands, held, map_block, map_operands, mapped, mapped_all, operands_pass, all_operands_pass, any_pass_step, operand_passes, any_operand_passes}
use Rattle.wasm_tree.specs.OperandLaws.{moved}

-- The operands of a layer do not depend on the instructions that it holds.
pub operands_map : {X Y : Type 0} (g : X → Y) (layer : Instr-F X) → operands (map-Instr X Y g layer) ≡ operands layer
operands_map g (Instr-F.Block ty body) = refl
operands_map g layer = refl

pub held_map : {X Y : Type 0} (g : X → Y) (layer : Instr-F X) → held (map-Instr X Y g layer) ≡ map g (held layer)
held_map g (Instr-F.If ty body other) = sym (map-append g body other)
held_map g layer = refl

-- ---- other indices ----

block_moved : (f : Space → ℕ → ℕ) (ty : BlockType) → block_operands (map_block f ty) ≡ map (moved f) (block_operands ty)
block_moved f block.Empty = refl
block_moved f (block.Value t) = refl
block_moved f (block.Index ty) = refl

pub layer_moved : (f : Space → ℕ → ℕ) (layer : Instr-F Instr) → operands_of (map_operands f layer) ≡ map (moved f) (operands layer)
unfolding out-Instr denote.Hole.Carrier.out
layer_moved f (Instr-F.Block ty body) = ap operands (outs-Block (map_block f ty) body) ∙ block_moved f ty
layer_moved f (Instr-F.Loop ty body) = ap operands (outs-Loop (map_block f ty) body) ∙ block_moved f ty
layer_moved f (Instr-F.If ty body other) = ap operands (outs-If (map_block f ty) body other) ∙ block_moved f ty
layer_moved f layer = refl

held_moved : (f : Space → ℕ → ℕ) (layer : Instr-F Instr) → held (out-Instr (map_operands f layer)) ≡ held layer
unfolding out-Instr denote.Hole.Carrier.out
held_moved f (Instr-F.Block ty body) = ap held (outs-Block (map_block f ty) body)
held_moved f (Instr-F.Loop ty body) = ap held (outs-Loop (map_block f ty) body)
held_moved f (Instr-F.If ty body other) = ap held (outs-If (map_block f ty) body other)
held_moved f layer = refl

pub instr_moved : (f : Space → ℕ → ℕ) (i : Instr) → operands_of (mapped f i) ≡ map (moved f) (operands_of i)
instr_moved f i =
    ap operands_of (fold_out-Instr Instr (map_operands f) i) ∙ layer_moved f (map-Instr Instr Instr (mapped f) (out-Instr i)) ∙ ap (map (moved f)) (operands_map (mapped f) (out-Instr i))

pub held_mapped : (f : Space → ℕ → ℕ) (i : Instr) → held (out-Instr (mapped f i)) ≡ map (mapped f) (held (out-Instr i))
held_mapped f i =
    ap (λ x. held (out-Instr x)) (fold_out-Instr Instr (map_operands f) i) ∙ held_moved f (map-Instr Instr Instr (mapped f) (out-Instr i)) ∙ held_map (mapped f) (out-Instr i)

-- ---- layer by layer ----

any_map : {X : Type 0} (p : X → Bool) (xs : List X) → list_any (λ b. b) (map p xs) ≡ list_any p xs
any_map p [] = refl
any_map p (x ∷ xs) = ap (λ b. p x || b) (any_map p xs)

-- A test of each layer that does not look at the instructions that the layer holds.
module _ (step : Instr-F Bool → Bool) (own : Instr-F Instr → Bool) (kept : (g : Instr → Bool) (layer : Instr-F Instr) → step (map-Instr Instr Bool g layer) ≡ own layer) where
  abbrev Whole : Instr → Bool
  Whole = fold-Instr Bool (λ layer. step layer && list_all (λ b. b) (held layer))

  pub tested_inside : (i : Instr) → Whole i ≡ own (out-Instr i) && list_all Whole (held (out-Instr i))
  tested_inside i =
      let layer : Instr-F Bool = map-Instr Instr Bool Whole (out-Instr i) in
      fold_out-Instr Bool (λ l. step l && list_all (λ b. b) (held l)) i
      ∙ ap (λ b. b && list_all (λ p. p) (held layer)) (kept Whole (out-Instr i))
      ∙ ap (λ bs. own (out-Instr i) && list_all (λ p. p) bs) (held_map Whole (out-Instr i))
      ∙ ap (λ b. own (out-Instr i) && b) (list_all-map (λ p. p) Whole (held (out-Instr i)))

pub passes_inside : (test : Operand → Bool) (i : Instr) → operands_pass test i ≡ list_all test (operands_of i) && all_operands_pass test (held (out-Instr i))
passes_inside test i = tested_inside (λ l. list_all test (operands l)) (λ l. list_all test (operands l)) (λ g l. ap (list_all test) (operands_map g l)) i

pub any_inside : (test : Operand → Bool) (i : Instr) → operand_passes test i ≡ (list_any test (operands_of i) || any_operand_passes test (held (out-Instr i)))
any_inside test i =
    let layer : Instr-F Bool = map-Instr Instr Bool (operand_passes test) (out-Instr i) in
    fold_out-Instr Bool (any_pass_step test) i
    ∙ ap (λ os. list_any test os || list_any (λ b. b) (held layer)) (operands_map (operand_passes test) (out-Instr i))
    ∙ ap (λ bs. list_any test (operands_of i) || list_any (λ b. b) bs) (held_map (operand_passes test) (out-Instr i))
    ∙ ap (λ b. list_any test (operands_of i) || b) (any_map (operand_passes test) (held (out-Instr i)))

pub block_passes : (test : Operand → Bool) (ty : BlockType) (body : List Instr) → operands_pass test (Block ty body) ≡ list_all test (block_operands ty) && all_operands_pass test body
block_passes test ty body = passes_inside test (Block ty body) ∙ ap (λ l. list_all test (operands l) && all_operands_pass test (held l)) (outs-Block ty body)

pub loop_passes : (test : Operand → Bool) (ty : BlockType) (body : List Instr) → operands_pass test (Loop ty body) ≡ list_all test (block_operands ty) && all_operands_pass test body
loop_passes test ty body = passes_inside test (Loop ty body) ∙ ap (λ l. list_all test (operands l) && all_operands_pass test (held l)) (outs-Loop ty body)

pub if_passes : (test : Operand → Bool) (ty : BlockType) (body other : List Instr) →
    operands_pass test (If ty body other) ≡ list_all test (block_operands ty) && (all_operands_pass test body && all_operands_pass test other)
if_passes test ty body other =
    passes_inside test (If ty body other)
    ∙ ap (λ l. list_all test (operands l) && all_operands_pass test (held l)) (outs-If ty body other)
    ∙ ap (λ b. list_all test (block_operands ty) && b) (list_all-append (operands_pass test) body other)

every_of : (test : Operand → Bool) (os : List Operand) → list_all test os ≡ true → Every (λ o. test o ≡ true) os
every_of test [] h = tt
every_of test (o ∷ os) h = let s = and_parts (test o) (list_all test os) h in (s.0, every_of test os s.1)

all_of : (test : Operand → Bool) (os : List Operand) → Every (λ o. test o ≡ true) os → list_all test os ≡ true
all_of test [] h = refl
all_of test (o ∷ os) h = and_from (test o) (list_all test os) h.0 (all_of test os h.1)

module _ (test : Operand → Bool) where
  abbrev Passed : Instr-F Instr → Type 0
  Passed l = Every (λ o. test o ≡ true) (operands l)

  all_append : (xs ys : List Instr) → all_operands_pass test (xs ++ ys) ≡ all_operands_pass test xs && all_operands_pass test ys
  all_append xs ys = list_all-append (operands_pass test) xs ys

  -- Blocks, loops and ifs pass if their own operands and the instructions that they hold pass.
  in_block : (ty : BlockType) (n : _) (row : Row_of-Instr _) → operands_pass test (Block' ty n row) ≡ list_all test (block_operands ty) && all_operands_pass test (items-the_row-Instr _ row)
  unfolding out-Instr denote.Hole.Carrier.out
  in_block ty n row = passes_inside test (Block' ty n row) ∙ ap (λ xs. list_all test (block_operands ty) && all_operands_pass test xs) (items_shown-the_row-Instr-0 n row)

  in_loop : (ty : BlockType) (n : _) (row : Row_of-Instr _) → operands_pass test (Loop' ty n row) ≡ list_all test (block_operands ty) && all_operands_pass test (items-the_row-Instr _ row)
  unfolding out-Instr denote.Hole.Carrier.out
  in_loop ty n row = passes_inside test (Loop' ty n row) ∙ ap (λ xs. list_all test (block_operands ty) && all_operands_pass test xs) (items_shown-the_row-Instr-0 n row)

  in_if : (ty : BlockType) (n : _) (row : Row_of-Instr _) (k : _) (other : Row_of-Instr _) →
      operands_pass test (If' ty n row k other) ≡ list_all test (block_operands ty) && (all_operands_pass test (items-the_row-Instr _ row) && all_operands_pass test (items-the_row-Instr _ other))
  unfolding out-Instr denote.Hole.Carrier.out
  in_if ty n row k other =
      passes_inside test (If' ty n row k other)
      ∙ ap (λ xs. list_all test (block_operands ty) && all_operands_pass test (xs ++ shown-the_row-Instr-0 k other)) (items_shown-the_row-Instr-0 n row)
      ∙ ap (λ xs. list_all test (block_operands ty) && all_operands_pass test (items-the_row-Instr _ row ++ xs)) (items_shown-the_row-Instr-0 k other)
      ∙ ap (λ b. list_all test (block_operands ty) && b) (all_append (items-the_row-Instr _ row) (items-the_row-Instr _ other))

  plain_layers : (i : Instr) → operands_pass test i ≡ true → Passed (out-Instr i)
  plain_layers i h = every_of test (operands_of i) (and_parts (list_all test (operands_of i)) (all_operands_pass test (held (out-Instr i))) (sym (passes_inside test i) ∙ h)).0

  plain_passes : (i : Instr) → all_operands_pass test (held (out-Instr i)) ≡ true → Passed (out-Instr i) → operands_pass test i ≡ true
  plain_passes i none q = passes_inside test i ∙ and_from (list_all test (operands_of i)) (all_operands_pass test (held (out-Instr i))) (all_of test (operands_of i) q) none

  mutual
    unfolding out-Instr denote.Hole.Carrier.out

    layers_of : (i : Instr) → operands_pass test i ≡ true → Layers Passed i
    layers_of (Block' ty n row) h =
        let s = and_parts (list_all test (block_operands ty)) (all_operands_pass test (items-the_row-Instr _ row)) (sym (in_block ty n row) ∙ h) in (every_of test (block_operands ty) s.0, row_layers_of _ row s.1)
    layers_of (Loop' ty n row) h =
        let s = and_parts (list_all test (block_operands ty)) (all_operands_pass test (items-the_row-Instr _ row)) (sym (in_loop ty n row) ∙ h) in (every_of test (block_operands ty) s.0, row_layers_of _ row s.1)
    layers_of (If' ty n row k other) h =
        let s = and_parts (list_all test (block_operands ty)) (all_operands_pass test (items-the_row-Instr _ row) && all_operands_pass test (items-the_row-Instr _ other)) (sym (in_if ty n row k other) ∙ h) in
        let t = and_parts (all_operands_pass test (items-the_row-Instr _ row)) (all_operands_pass test (items-the_row-Instr _ other)) s.1 in
        (every_of test (block_operands ty) s.0, row_layers_of _ row t.0, row_layers_of _ other t.1)
    layers_of i h = plain_layers i h

    row_layers_of : (n : _) (row : Row_of-Instr n) → all_operands_pass test (items-the_row-Instr _ row) ≡ true → RowLayers Passed row
    row_layers_of _ end_of-Instr h = tt
    row_layers_of _ (more_of-Instr i row) h = let s = and_parts (operands_pass test i) (all_operands_pass test (items-the_row-Instr _ row)) h in (layers_of i s.0, row_layers_of _ row s.1)

  mutual
    unfolding out-Instr denote.Hole.Carrier.out

    passes_of : (i : Instr) → Layers Passed i → operands_pass test i ≡ true
    passes_of (Block' ty n row) q = in_block ty n row ∙ and_from (list_all test (block_operands ty)) (all_operands_pass test (items-the_row-Instr _ row)) (all_of test (block_operands ty) q.0) (row_passes_of _ row q.1)
    passes_of (Loop' ty n row) q = in_loop ty n row ∙ and_from (list_all test (block_operands ty)) (all_operands_pass test (items-the_row-Instr _ row)) (all_of test (block_operands ty) q.0) (row_passes_of _ row q.1)
    passes_of (If' ty n row k other) q =
        in_if ty n row k other
        ∙ and_from (list_all test (block_operands ty)) (all_operands_pass test (items-the_row-Instr _ row) && all_operands_pass test (items-the_row-Instr _ other)) (all_of test (block_operands ty) q.0)
        (and_from (all_operands_pass test (items-the_row-Instr _ row)) (all_operands_pass test (items-the_row-Instr _ other)) (row_passes_of _ row q.1) (row_passes_of _ other q.2))
    passes_of i q = plain_passes i refl q

    row_passes_of : (n : _) (row : Row_of-Instr n) → RowLayers Passed row → all_operands_pass test (items-the_row-Instr _ row) ≡ true
    row_passes_of _ end_of-Instr q = refl
    row_passes_of _ (more_of-Instr i row) q = and_from (operands_pass test i) (all_operands_pass test (items-the_row-Instr _ row)) (passes_of i q.0) (row_passes_of _ row q.1)

  list_layers_of : (code : List Instr) → all_operands_pass test code ≡ true → ListLayers Passed code
  list_layers_of [] h = tt
  list_layers_of (i ∷ is) h = let s = and_parts (operands_pass test i) (all_operands_pass test is) h in (layers_of i s.0, list_layers_of is s.1)

  list_passes_of : (code : List Instr) → ListLayers Passed code → all_operands_pass test code ≡ true
  list_passes_of [] q = refl
  list_passes_of (i ∷ is) q = and_from (operands_pass test i) (all_operands_pass test is) (passes_of i q.0) (list_passes_of is q.1)

  pub layer_by_layer : (code : List Instr) → (all_operands_pass test code ≡ true) ↔ ListLayers Passed code
  layer_by_layer code = (list_layers_of code, list_passes_of code)

-- ---- what two tests say of the operands, a third says ----

module _ (P Q R : Instr-F Instr → Type 0) (both : (l : Instr-F Instr) → P l → Q l → R l) where
  mutual
    unfolding out-Instr denote.Hole.Carrier.out

    layers_both : (i : Instr) → Layers P i → Layers Q i → Layers R i
    layers_both (Block' ty n row) h k = (both _ h.0 k.0, row_layers_both _ row h.1 k.1)
    layers_both (Loop' ty n row) h k = (both _ h.0 k.0, row_layers_both _ row h.1 k.1)
    layers_both (If' ty n row m other) h k = (both _ h.0 k.0, row_layers_both _ row h.1 k.1, row_layers_both _ other h.2 k.2)
    layers_both i h k = both _ h k

    row_layers_both : (n : _) (row : Row_of-Instr n) → RowLayers P row → RowLayers Q row → RowLayers R row
    row_layers_both _ end_of-Instr h k = tt
    row_layers_both _ (more_of-Instr i row) h k = (layers_both i h.0 k.0, row_layers_both _ row h.1 k.1)

  list_layers_both : (code : List Instr) → ListLayers P code → ListLayers Q code → ListLayers R code
  list_layers_both [] h k = tt
  list_layers_both (i ∷ is) h k = (layers_both i h.0 k.0, list_layers_both is h.1 k.1)

each_both : (p q r : Operand → Bool) → ((o : Operand) → p o ≡ true → q o ≡ true → r o ≡ true) → (os : List Operand) → Every (λ o. p o ≡ true) os → Every (λ o. q o ≡ true) os → Every (λ o. r o ≡ true) os
each_both p q r both [] h k = tt
each_both p q r both (o ∷ os) h k = (both o h.0 k.0, each_both p q r both os h.1 k.1)

pub passes_both : (p q r : Operand → Bool) → ((o : Operand) → p o ≡ true → q o ≡ true → r o ≡ true) → (code : List Instr) → all_operands_pass p code ≡ true → all_operands_pass q code ≡ true → all_operands_pass r code ≡ true
passes_both p q r both code h k =
    (layer_by_layer r code).1 (list_layers_both (Passed p) (Passed q) (Passed r) (λ l a b. each_both p q r both (operands l) a b) code ((layer_by_layer p code).0 h) ((layer_by_layer q code).0 k))

pub passes_more : (p r : Operand → Bool) → ((o : Operand) → p o ≡ true → r o ≡ true) → (code : List Instr) → all_operands_pass p code ≡ true → all_operands_pass r code ≡ true
passes_more p r more code h = passes_both p p r (λ o a b. more o a) code h h

-- ---- code with other indices ----

-- An induction on instructions: a property that each instruction has if all that it holds have it
-- is a property of all instructions.
module _ (P : Instr → Type 0) (inside : (i : Instr) → Every P (held (out-Instr i)) → P i) where
  abbrev Such : Type 0
  Such = (i : Instr) × P i

  each : (es : List Such) → Every P (map (λ e. e.0) es)
  each [] = tt
  each (e ∷ es) = (e.1, each es)

  pub by_held : (i : Instr) → P i
  by_held = ind-Instr P (λ x y is. subst (λ z. P (roll-Instr z)) is (
      let z = map-Instr Such Instr (λ e. e.0) y in
      inside (roll-Instr z) (subst (λ l. Every P (held l)) (sym (out-roll-Instr z)) (subst (Every P) (sym (held_map (λ e. e.0) y)) (each (held y))))))

-- Two tests by layers agree, the first on code with other indices and the second on the code, if
-- they agree on each layer.
module _
    (f : Space → ℕ → ℕ) (first second : Instr → Bool) (one other : Instr-F Instr → Bool)
    (first_inside : (i : Instr) → first i ≡ one (out-Instr i) && list_all first (held (out-Instr i)))
    (second_inside : (i : Instr) → second i ≡ other (out-Instr i) && list_all second (held (out-Instr i)))
    (own : (i : Instr) → one (out-Instr (mapped f i)) ≡ other (out-Instr i))
  where
    abbrev Same : Instr → Type 0
    Same i = first (mapped f i) ≡ second i

    all_same : (xs : List Instr) → Every Same xs → list_all first (mapped_all f xs) ≡ list_all second xs
    all_same [] q = refl
    all_same (x ∷ xs) q = ap (λ b. b && list_all first (mapped_all f xs)) q.0 ∙ ap (λ b. second x && b) (all_same xs q.1)

    same_inside : (i : Instr) → Every Same (held (out-Instr i)) → Same i
    same_inside i q =
        first_inside (mapped f i)
        ∙ ap (λ b. b && list_all first (held (out-Instr (mapped f i)))) (own i)
        ∙ ap (λ xs. other (out-Instr i) && list_all first xs) (held_mapped f i)
        ∙ ap (λ b. other (out-Instr i) && b) (all_same (held (out-Instr i)) q)
        ∙ sym (second_inside i)

    same_all : (xs : List Instr) → Every Same xs
    same_all [] = tt
    same_all (x ∷ xs) = (by_held Same same_inside x, same_all xs)

    pub mapped_all_same : (code : List Instr) → list_all first (mapped_all f code) ≡ list_all second code
    mapped_all_same code = all_same code (same_all code)

pub mapped_code_passes : (f : Space → ℕ → ℕ) (test : Operand → Bool) (code : List Instr) → all_operands_pass test (mapped_all f code) ≡ all_operands_pass (λ o. test (moved f o)) code
mapped_code_passes f test =
    let then : Operand → Bool = λ o. test (moved f o) in
    mapped_all_same f (operands_pass test) (operands_pass then) (λ l. list_all test (operands l)) (λ l. list_all then (operands l)) (passes_inside test) (passes_inside then)
    (λ i. ap (list_all test) (instr_moved f i) ∙ list_all-map test (moved f) (operands_of i))
