use Rattle.base_lists.proofs.Common.{◌≡◌, ◌<◌, ℕ, Some}
use Rattle.wasm_tree_spec.specs.Prelude.{Module, IsBounded}
use Rattle.wasm_valid.specs.Prelude.{IsValid}
use Rattle.wasm_meaning.specs.Prelude.{module_at}
use Rattle.merge_spec.specs.Prelude.{named_modules}
use Rattle.merge_join.proofs.linked.parts_hold.Given as goal

abbrev pub invariant-loop-part : goal.invariant-loop-part
invariant-loop-part l = (p : ℕ) (m : Module) → p < l.part → module_at (named_modules l.parts) p ≡ Some m → IsValid m × IsBounded m
