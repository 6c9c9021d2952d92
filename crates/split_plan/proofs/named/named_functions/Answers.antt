use Rattle.std.proofs.Common.{List, sym, ◌∙◌, arith}
use Rattle.wasm_names.specs.declared.func_name.FuncName.{FuncName}
use Rattle.split_plan.specs.NameTable.{entry_of}
use Rattle.split_plan.specs.NamedFunctions.{exported_among}
use Rattle.split_plan.proofs.Tables.{at_one_before, name_enters, name_passes}
use Rattle.split_plan.proofs.named.named_functions.Goals as goal

pub loop-at-preserved-in-Continue-branch-2 : goal.loop-at-preserved-in-Continue-branch-2
loop-at-preserved-in-Continue-branch-2 c = λ word.
    let m = c.args.module.now in
    let step = at_one_before (λ (ns : List FuncName). entry_of m ns word) c.args.names.now c.loop-at.at c.index-names-at.result (omega arith) c.loop-at.auto.at c.index-names-at.is in
    let is = sym (rw (c.imported_funcs.ensures.value, c.func_space.ensures) at c.has.ensures) ∙ c.if-has.true in
    let enters = name_enters m c.index-names-at.result _ word (exported_among m m.exports word) is in
    rw (c.in_ok-enter.ensures word, c.loop-at.invariant word, c.as_str.ensures.text) (sym (step ∙ enters))

pub loop-at-preserved : goal.loop-at-preserved
loop-at-preserved c = λ word.
    let m = c.args.module.now in
    let step = at_one_before (λ (ns : List FuncName). entry_of m ns word) c.args.names.now c.loop-at.at c.index-names-at.result (omega arith) c.loop-at.auto.at c.index-names-at.is in
    let is = sym (rw (c.imported_funcs.ensures.value, c.func_space.ensures) at c.has.ensures) ∙ c.if-has.false in
    c.loop-at.invariant word ∙ sym (step ∙ name_passes m c.index-names-at.result _ word (exported_among m m.exports word) is)
