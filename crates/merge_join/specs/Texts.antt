-- Function types as texts: a letter for each parameter, `>`, and a letter for each result.
use Rattle.std.specs.Prelude.{ℕ, List, ◌∷◌, ◌++◌, map}
use Rattle.wasm_tree.specs.declared.types.RefType.TheVariants as reft
use Rattle.wasm_tree_spec.specs.Prelude.{ValType, FuncType}
use Rattle.wasm_tree.specs.declared.types.ValType.TheVariants as valt

abbrev pub letter_of : ValType → ℕ
letter_of valt.I32 = 105
letter_of valt.I64 = 108
letter_of (valt.Ref reft.Func) = 102
letter_of (valt.Ref reft.Extern) = 101

unfoldable pub text_of_type : FuncType → List ℕ
text_of_type t = map letter_of t.params ++ 62 ∷ map letter_of t.results
