use Rattle.base_lists.proofs.Common.{◌≡◌, ◌∙◌, ◌<◌, ◌+◌, ◌++◌, sym, ap, refl, Some, map, drop, length, arith, drop_all, length-map, slice_get_read}
use Rattle.wasm_tree_spec.specs.Prelude.{Globals}
use Rattle.std.proofs.lemmas.List.{append-nil, append_assoc}
use Rattle.wasm_meaning.specs.Linking as linking
use Rattle.merge_spec.specs.Faults as faults
use Rattle.merge_spec.specs.Prelude.{named_module, named_modules}
use Rattle.merge_link.specs.Prelude.{the_own}
use Rattle.merge_link.proofs.Joins.{module_read}
use Rattle.merge_link.proofs.Reading.{globals_fit, own_begin}
use Rattle.merge_link.proofs.part_tables.PartTables.defined_globals.Goals as goal

pub loop-at-init : goal.loop-at-init
loop-at-init c = ap (λ xs. map the_own xs ++ faults.defined_globals_from 0 (named_modules c.args.self.now.parts.now)) c.new-all.ensures.items

pub loop-place-init : goal.loop-place-init
loop-place-init c =
    let ps = c.args.self.now.parts.now in
    let lp = named_modules ps in
    let ts = c.args.self.now.tables.items in
    let n = c.loop-at.at in
    let m = c.module.result.now in
    let within : n < length ps = omega arith in
    let at : linking.module_at lp n ≡ Some m = module_read ps n c.part-item.result m within c.part-item.is c.module.ensures.value in
    let table = slice_get_read ts (length ts) n c.index.result.now refl (omega (arith, within, c.requires.joining.tables.one_each, length-map ps named_module)) c.index.ensures in
    let count = c.imported-imported.ensures ∙ ap length ((c.requires.joining.tables.right n m c.index.result.now at table).places Globals) in
    let begin = own_begin ps n c.part-item.result m c.imported-imported.result within c.part-item.is (c.module.ensures.value) count in
    let old = map the_own c.loop-at.all.items in
    let rest = faults.defined_globals_from (n + 1) (named_modules (drop (n + 1) ps)) in
    append_assoc old (faults.defined_globals_in n (c.imported-imported.result + 0) (drop 0 c.as_slice-globals.result.now)) rest
    ∙ ap (λ xs. old ++ xs) (ap (λ gs. faults.defined_globals_in n (c.imported-imported.result + 0) (drop 0 gs) ++ rest) c.as_slice-globals.ensures ∙ sym begin) ∙ c.loop-at.invariant

pub overflow_cast-imported : goal.overflow_cast-imported
overflow_cast-imported c =
    let ps = c.args.self.now.parts.now in
    let lp = named_modules ps in
    let ts = c.args.self.now.tables.items in
    let n = c.loop-at.at in
    let m = c.module.result.now in
    let within : n < length ps = omega arith in
    let at : linking.module_at lp n ≡ Some m = module_read ps n c.part-item.result m within c.part-item.is c.module.ensures.value in
    let table = slice_get_read ts (length ts) n c.index.result.now refl (omega (arith, within, c.requires.joining.tables.one_each, length-map ps named_module)) c.index.ensures in
    let count = c.imported-imported.ensures ∙ ap length ((c.requires.joining.tables.right n m c.index.result.now at table).places Globals) in
    omega (arith, count, globals_fit m c.loop-place.place c.module.ensures.bounded.globals (omega (arith, ap length c.as_slice-globals.ensures)))

pub returns : goal.returns
unfolding faults.defined_globals
returns c =
    let ps = c.args.self.now.parts.now in
    sym (ap (λ qs. map the_own c.loop-at.all.items ++ faults.defined_globals_from c.loop-at.at (named_modules qs)) (drop_all c.loop-at.at ps (omega arith)) ∙ append-nil (map the_own c.loop-at.all.items)) ∙ c.loop-at.invariant
