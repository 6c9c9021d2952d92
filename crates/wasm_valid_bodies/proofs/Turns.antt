-- Popping the operands of an instruction: first the topmost, then those below it.
use Rattle.base_lists.proofs.Common.{◌≡◌, Bool, List, [], ◌∷◌, ◌++◌, reverse, Option, ap, ◌∙◌, option_and_then, reverse-append}
use Rattle.wasm_tree_spec.specs.Prelude.{ValType}
use Rattle.wasm_valid_bodies.specs.Typing.{Stack}
use Rattle.wasm_valid_bodies.specs.Tracking.{pop_type, pop_all}

over : (under : List ValType) (top : ValType) (xs : Stack) (o : Bool) (m : Option Stack) → pop_type xs o top ≡ m → pop_all xs o (reverse (under ++ top ∷ [])) ≡ option_and_then (λ ys. pop_all ys o (reverse under)) m
over under top xs o m h =
    ap (pop_all xs o) (reverse-append under (top ∷ [])) ∙ ap (option_and_then (λ ys. pop_all ys o (reverse under))) h
