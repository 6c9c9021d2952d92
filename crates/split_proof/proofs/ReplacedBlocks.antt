-- A block, a loop or an if is replaced by one with the same type, in which the calls of its bodies
-- are replaced.
use Rattle.base_lists.proofs.Common.{◌≡◌, ◌∙◌, ℕ, List, [], ◌∷◌, ◌++◌, refl, ap, ap₂, map, flat_map}
use Rattle.wasm_tree_spec.specs.Prelude.{BlockType, Instr, Row_of-Instr, items-the_row-Instr, items_shown-the_row-Instr-0, fold_out-Instr, map-Instr, out-Instr, Block, Block', Loop, Loop', If, If'}
use Rattle.wasm_tree.specs.declared.instr.Instr.TheOpen.{Instr-F}
use Rattle.wasm_tree.specs.declared.instr.Instr.TheViews.{outs-Block', outs-Loop', outs-If'}
use Rattle.split_spec.specs.Prelude.{calls_in, calls_step, with_calls}

-- ---- what a block holds, as a list ----

pub block_layer : (bt : BlockType) (n : _) (row : Row_of-Instr _) → out-Instr (Block' bt n row) ≡ Instr-F.Block bt (items-the_row-Instr _ row)
block_layer bt n row = outs-Block' bt n row ∙ ap (Instr-F.Block bt) (items_shown-the_row-Instr-0 n row)

pub loop_layer : (bt : BlockType) (n : _) (row : Row_of-Instr _) → out-Instr (Loop' bt n row) ≡ Instr-F.Loop bt (items-the_row-Instr _ row)
loop_layer bt n row = outs-Loop' bt n row ∙ ap (Instr-F.Loop bt) (items_shown-the_row-Instr-0 n row)

pub if_layer : (bt : BlockType) (n : _) (row : Row_of-Instr _) (k : _) (other : Row_of-Instr _) → out-Instr (If' bt n row k other) ≡ Instr-F.If bt (items-the_row-Instr _ row) (items-the_row-Instr _ other)
if_layer bt n row k other = outs-If' bt n row k other ∙ ap₂ (Instr-F.If bt) (items_shown-the_row-Instr-0 n row) (items_shown-the_row-Instr-0 k other)

-- ---- what replaces it ----

joined_is : {A B : Type 0} (f : A → List B) (xs : List A) → flat_map (λ ys. ys) (map f xs) ≡ flat_map f xs
joined_is f [] = refl
joined_is f (x ∷ xs) = ap (λ ys. f x ++ ys) (joined_is f xs)

module _ (code : ℕ → List Instr) where
  abbrev step : Instr-F Instr → List Instr
  step l = calls_step code (map-Instr Instr (List Instr) (calls_in code) l)

  pub block_calls : (bt : BlockType) (n : _) (row : Row_of-Instr _) → calls_in code (Block' bt n row) ≡ Block bt (with_calls code (items-the_row-Instr _ row)) ∷ []
  block_calls bt n row =
      fold_out-Instr (List Instr) (calls_step code) (Block' bt n row) ∙ ap step (block_layer bt n row) ∙ ap (λ is. Block bt is ∷ []) (joined_is (calls_in code) (items-the_row-Instr _ row))

  pub loop_calls : (bt : BlockType) (n : _) (row : Row_of-Instr _) → calls_in code (Loop' bt n row) ≡ Loop bt (with_calls code (items-the_row-Instr _ row)) ∷ []
  loop_calls bt n row =
      fold_out-Instr (List Instr) (calls_step code) (Loop' bt n row) ∙ ap step (loop_layer bt n row) ∙ ap (λ is. Loop bt is ∷ []) (joined_is (calls_in code) (items-the_row-Instr _ row))

  pub if_calls : (bt : BlockType) (n : _) (row : Row_of-Instr _) (k : _) (other : Row_of-Instr _) →
      calls_in code (If' bt n row k other) ≡ If bt (with_calls code (items-the_row-Instr _ row)) (with_calls code (items-the_row-Instr _ other)) ∷ []
  if_calls bt n row k other =
      fold_out-Instr (List Instr) (calls_step code) (If' bt n row k other) ∙ ap step (if_layer bt n row k other)
      ∙ ap₂ (λ is os. If bt is os ∷ []) (joined_is (calls_in code) (items-the_row-Instr _ row)) (joined_is (calls_in code) (items-the_row-Instr _ other))
