-- Samples of seed 1, computed: with one function each, and with two. (A test shows the spelling of
-- the names, because `decimal` does not compute here.)
use Rattle.base_lists.proofs.Common.{◌≡◌, refl, [], ◌∷◌, map, pos}
use Rattle.base_lists.specs.Places.{numbers}
use Rattle.wasm_num.specs.declared.BinOp.TheVariants.{I32Add, I32Xor}
use Rattle.wasm_tree_spec.specs.Prelude.{LocalGet, I32Const, Bin, Call}
use Rattle.wasm_tree.specs.declared.module.ImportDesc.TheVariants as imported
use Rattle.wasm_tree.specs.declared.module.ExportDesc.TheVariants as exported
use Rattle.wasm_gen.specs.Draws.{draw}
use Rattle.wasm_gen.specs.Modules.{exports_of, first_func, second_func, second_imports, numbered, f, g}

first_of_one : (first_func 1 0).body ≡ LocalGet 0 ∷ (I32Const (pos 1103527590) ∷ (Bin I32Add ∷ []))
first_of_one = refl

second_of_one : (second_func (draw 1 2) 1 0).body ≡ LocalGet 0 ∷ (Call 0 ∷ [])
second_of_one = refl

-- The second function takes the third and the fourth draw.
next_of_two : (first_func 1 1).body ≡ LocalGet 0 ∷ (I32Const (pos 662824084) ∷ (Bin I32Xor ∷ []))
next_of_two = refl

-- The fifth draw is even and the sixth is odd.
callees_of_two : map (λ i. (second_func (draw 1 4) 2 i).body) (numbers 0 2) ≡ (LocalGet 0 ∷ (Call 0 ∷ [])) ∷ ((LocalGet 0 ∷ (Call 1 ∷ [])) ∷ [])
callees_of_two = refl

imports_of_one : second_imports 1 ≡ record { «module» = 97 ∷ []; field = numbered f 0; desc = imported.Func 0 } ∷ []
imports_of_one = refl

exports_of_one : exports_of f 0 1 ≡ record { name = numbered f 0; desc = exported.Func 0 } ∷ []
exports_of_one = refl

-- The second module exports the functions behind its imports.
exports_behind_imports : exports_of g 1 1 ≡ record { name = numbered g 0; desc = exported.Func 1 } ∷ []
exports_behind_imports = refl
