use Rattle.std.proofs.Common.{◌+◌, ◌<◌, ◌^◌, sym, subst}
use Rattle.wasm_tree.specs.Bounds.{param_count, declared_count}
use Rattle.wasm_valid.proofs.items.body_holds.Goals as goal

pub new-requires : goal.new-requires
new-requires c =
    let m = c.args.spaces.now.module.now in
    let f = c.in-Some.func.now in
    let few = c.requires.locals c.args.place f (sym c.in-Some.ensures.value) in
    let typed = subst (λ z. param_count z + declared_count f.locals < 2 ^ 32) (sym c.in-Some-get.ensures.value) few in
    rw (c.as_slice.ensures, c.as_slice-2.ensures) typed
