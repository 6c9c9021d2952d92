use Rattle.base_lists.proofs.Common.{◌++◌, ◌∷◌, [], map, ap, ◌∙◌, append_assoc, map-append}
use Rattle.wasm_meaning.specs.Prelude.{copies, zero_of, zeros}
use Rattle.eval_machine.specs.Prelude.{val_of}
use Rattle.eval_machine.proofs.DeclaredLocals.{zeros_more}
use Rattle.eval_machine.proofs.locals.Locals.declare.Goals as goal

pub loop-preserved : goal.loop-preserved
loop-preserved c =
    let first = map val_of c.self.inside.items in
    ap (map val_of) c.in_ok-keep.ensures.ok
    ∙ (map-append val_of c.loop.self-inside.items (c.zero.result ∷ [])
    ∙ (ap (λ l. map val_of c.loop.self-inside.items ++ l ∷ []) c.zero.ensures
    ∙ (ap (λ l. l ++ zero_of c.args.ty ∷ []) c.loop.invariant
    ∙ (append_assoc first (zeros (copies c.loop.counter c.args.ty)) (zero_of c.args.ty ∷ []) ∙ ap (λ l. first ++ l) (zeros_more c.loop.counter c.args.ty)))))
