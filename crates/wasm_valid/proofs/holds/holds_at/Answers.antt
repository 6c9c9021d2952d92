use Rattle.std.proofs.Common.{◌↔◌, IsTrue, IfOk, sym, subst}
use Rattle.wasm_valid.specs.Validity.{HoldsAt}
use Rattle.wasm_valid.proofs.holds.holds_at.Goals as goal

pub returns-in-Body : goal.returns-in-Body
returns-in-Body c =
    subst (λ k. IfOk c.body_holds.result (λ ok. IsTrue ok ↔ HoldsAt c.args.spaces.now.module.now k c.args.place)) (sym c.in-Body.is) c.body_holds.ensures
