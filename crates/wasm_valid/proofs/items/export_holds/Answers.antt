use Rattle.std.proofs.Common.{sym}
use Rattle.wasm_valid.proofs.Repeats.{export_new, export_old}
use Rattle.wasm_valid.proofs.items.export_holds.Goals as goal

pub returns-then-came_before : goal.returns-then-came_before
returns-then-came_before c =
    export_old c.args.spaces.now.module.now c.args.place c.in-Some.export.now c.args.spaces.now.repeated.items c.came_before.result (sym c.in-Some.ensures.value) c.args.spaces.now.repeated_are c.came_before.ensures c.if-came_before.true

pub returns : goal.returns
returns c =
    export_new c.args.spaces.now.module.now c.args.place c.in-Some.export.now c.args.spaces.now.repeated.items c.came_before.result (sym c.in-Some.ensures.value) c.args.spaces.now.repeated_are c.came_before.ensures c.is_in_space.result c.if-came_before.false c.is_in_space.ensures
