use Rattle.std.proofs.Common.{ap, sym, ◌∙◌, append-nil}
use Rattle.wasm_tree.specs.Spaces.{imported_funcs}
use Rattle.wasm_valid.proofs.spaces.func_types.Goals as goal

pub loop-func-init : goal.loop-func-init
loop-func-init c = c.in_ok-all.ensures ∙ ap (λ is. imported_funcs is) c.as_slice.ensures ∙ sym (append-nil _)
