-- The modules of a sample are within the limits.
use Rattle.base_lists.proofs.Common.{◌≡◌, ◌∙◌, ℕ, ◌*◌, ◌≤◌, length, map, arith, length-map, length-numbers}
use Rattle.base_lists.specs.Every.{Every}
use Rattle.base_lists.specs.Places.{numbers}
use Rattle.wasm_tree_spec.specs.Prelude.{Import}
use Rattle.wasm_gen.specs.Draws.{draw}
use Rattle.wasm_gen.specs.Modules.{numbered, first_func, second_func, a, f}
use Rattle.tools_cli_spec.specs.Prelude.{SampleTask, sample_modules}
use Rattle.tools_cli_decide.specs.Prelude.{IsWithinLimits}
use Rattle.wasm_tree.specs.declared.module.ImportDesc.TheVariants as imported

many : {A : Type 0} (make : ℕ → A) (count : ℕ) → length (map make (numbers 0 count)) ≡ count
many make count = length-map (numbers 0 count) make ∙ length-numbers 0 count

abbrev import_at : ℕ → Import
import_at i = record { «module» = a; field = numbered f i; desc = imported.Func 0 }

pub sample_within : (sample : SampleTask) → sample.count ≤ 100000 → Every IsWithinLimits (sample_modules sample)
sample_within sample few = (
  record {
    types = omega arith;
    imports = omega arith;
    funcs = let n = many (first_func sample.seed) sample.count in omega (arith, few, n);
    tables = omega arith;
    mems = omega arith;
    globals = omega arith;
    elems = omega arith;
    datas = omega arith;
  },
  (
    record {
      types = omega arith;
      imports = let n = many import_at sample.count in omega (arith, few, n);
      funcs = let n = many (second_func (draw sample.seed (sample.count * 2)) sample.count) sample.count in omega (arith, few, n);
      tables = omega arith;
      mems = omega arith;
      globals = omega arith;
      elems = omega arith;
      datas = omega arith;
    },
    tt,
  ),
)
