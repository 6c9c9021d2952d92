use Rattle.std.proofs.Common.{ap, sym, ◌∙◌, append-nil}
use Rattle.wasm_tree.specs.Spaces.{imported_globals}
use Rattle.wasm_valid.proofs.spaces.global_types.Goals as goal

pub loop-global-init : goal.loop-global-init
loop-global-init c = c.in_ok-all.ensures ∙ ap (λ is. imported_globals is) c.as_slice.ensures ∙ sym (append-nil _)
