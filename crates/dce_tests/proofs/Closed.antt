-- What is reached names only what is reached, and a u32 can count the functions.
use Rattle.base_lists.proofs.Common.{◌≡◌, ◌<◌, ◌^◌, ℕ, zero, suc, refl, arith, Some, slice_get, [], ◌∷◌}
use Rattle.wasm_tree.specs.declared.module.ExportDesc.TheVariants as ex
use Rattle.wasm_tree_spec.specs.Prelude.{IsBounded, Space, Types, Functions, Tables, Memories, Globals, ElementSegments, DataSegments, Func, Export, local_count}
use Rattle.wasm_meaning.specs.Prelude.{imports_of}
use Rattle.index_remap_proof.specs.Indices.{FuncNamesOnly, ExportNamesOnly}
use Rattle.dce_spec.specs.Marks.{stays}
use Rattle.dce_spec.specs.Closed.{AreClosed}
use Rattle.dce_spec.specs.Reached.{marks_of}
use Rattle.dce_tests.specs.Two.{blank, two, second}

func_names : (i : ℕ) (f : Func) → slice_get (blank ∷ []) i ≡ Some f → FuncNamesOnly (stays (marks_of second)) f
func_names zero f h = let same : f ≡ blank = cc in rw same (refl, tt)
func_names (suc i) f h = absurd (let k = h in cc)

export_names : (i : ℕ) (e : Export) → slice_get two.exports i ≡ Some e → ExportNamesOnly (stays (marks_of second)) e.desc
export_names zero e h = let same : e ≡ record { name = 102 ∷ []; desc = ex.Func 1 } = cc in rw same refl
export_names (suc i) e h = absurd (let k = h in cc)

pub closed : AreClosed (marks_of second) two
closed = record {
  exports_many = refl;
  imports_many = refl;
  funcs_many = refl;
  globals_many = refl;
  imported = λ space i n h. absurd (let k = h in cc);
  names = record {
    imports = λ i x h. absurd (let k = h in cc);
    funcs = func_names;
    globals = λ i x h. absurd (let k = h in cc);
    exports = export_names;
    start = λ f h. absurd (let k = h in cc);
    items = λ i p a e h. absurd (let k = h in cc);
    elem_modes = λ i a h. absurd (let k = h in cc);
    data_modes = λ i a h. absurd (let k = h in cc);
  };
}

locals_few : (i : ℕ) (f : Func) → slice_get two.funcs i ≡ Some f → local_count two.types f < 2 ^ 32
locals_few zero f h = let same : f ≡ blank = cc in rw same (omega arith)
locals_few (suc zero) f h = let same : f ≡ blank = cc in rw same (omega arith)
locals_few (suc (suc i)) f h = absurd (let k = h in cc)

pub bounded : IsBounded two
bounded = record { types = omega arith; imports = omega arith; funcs = omega arith; tables = omega arith; memories = omega arith; globals = omega arith; exports = omega arith; elems = omega arith; datas = omega arith; locals = locals_few }
