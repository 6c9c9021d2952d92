-- Tests whether two types are equal (WebAssembly Core 2.0, section 2.3).
use Rattle.std.specs.Prelude.{Bool, true, false, ◌&&◌, List}
use Rattle.base_lists.specs.Same.{each_same}
use Rattle.wasm_tree.specs.declared.types.RefType.{RefType}
use Rattle.wasm_tree.specs.declared.types.RefType.TheVariants.{Func, Extern}
use Rattle.wasm_tree.specs.declared.types.ValType.{ValType}
use Rattle.wasm_tree.specs.declared.types.ValType.TheVariants.{I32, I64, Ref}
use Rattle.wasm_tree.specs.declared.types.FuncType.{FuncType}

abbrev pub same_ref : RefType → RefType → Bool
same_ref Func Func = true
same_ref Func Extern = false
same_ref Extern Func = false
same_ref Extern Extern = true

abbrev pub same_type : ValType → ValType → Bool
same_type I32 I32 = true
same_type I32 I64 = false
same_type I32 (Ref r) = false
same_type I64 I32 = false
same_type I64 I64 = true
same_type I64 (Ref r) = false
same_type (Ref r) I32 = false
same_type (Ref r) I64 = false
same_type (Ref r) (Ref q) = same_ref r q

abbrev pub same_types : List ValType → List ValType → Bool
same_types = each_same same_type

abbrev pub same_func_type : FuncType → FuncType → Bool
same_func_type s t = same_types s.params t.params && same_types s.results t.results
