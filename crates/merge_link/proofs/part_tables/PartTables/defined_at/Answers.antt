use Rattle.base_lists.proofs.Common.{length, Option, Some, ap, sym, ◌<◌, arith, slice_get, ◌≡◌, ◌∙◌, option_and_then, length-map}
use Rattle.wasm_tree_spec.specs.Prelude.{Module}
use Rattle.wasm_meaning.specs.Linking as linking
use Rattle.merge_spec.specs.declared.parts.Part.{Part}
use Rattle.merge_spec.specs.Faults as faults
use Rattle.merge_spec.specs.Prelude.{named_module, named_modules}
use Rattle.merge_link.specs.Prelude.{the_entity}
use Rattle.merge_link.proofs.Joins.{module_past, module_read, read_at}
use Rattle.merge_link.proofs.Types.{not_imported}
use Rattle.merge_link.proofs.part_tables.PartTables.defined_at.Goals as goal

pub defined-requires-clause-places : goal.defined-requires-clause-places
defined-requires-clause-places c =
    let ps = c.args.self.now.parts.now in
    let p = c.args.entity.part in
    let within : p < length ps = omega (arith, c.in-Some.ensures.lookup.3.0, ap length c.deref.ensures.value, c.requires.joining.tables.one_each, length-map ps named_module) in
    let at : linking.module_at (named_modules ps) p ≡ Some c.module-module.result.now =
    module_read ps p c.index-self-entity.result c.module-module.result.now within c.index-self-entity.is (c.module-module.ensures.value ∙ ap (λ (x : Part). x.«module») (sym c.index-self-entity.is)) in
    let table : slice_get c.args.self.now.tables.items p ≡ Some c.in-Some.table.now = read_at c.args.self.now.tables.items c.deref.result.now p c.in-Some.table.now c.deref.ensures.value c.in-Some.ensures.lookup.3.0 c.in-Some.ensures.lookup.1 in
    (c.requires.joining.tables.right p c.module-module.result.now c.in-Some.table.now at table).places

pub defined-requires-clause-own : goal.defined-requires-clause-own
defined-requires-clause-own c =
    let ps = c.args.self.now.parts.now in
    let p = c.args.entity.part in
    let within : p < length ps = omega (arith, c.in-Some.ensures.lookup.3.0, ap length c.deref.ensures.value, c.requires.joining.tables.one_each, length-map ps named_module) in
    let at : linking.module_at (named_modules ps) p ≡ Some c.module-module.result.now =
    module_read ps p c.index-self-entity.result c.module-module.result.now within c.index-self-entity.is (c.module-module.ensures.value ∙ ap (λ (x : Part). x.«module») (sym c.index-self-entity.is)) in
    not_imported (named_modules ps) (the_entity c.args.entity) c.module-module.result.now at c.requires.own

pub returns-in-Some : goal.returns-in-Some
returns-in-Some c =
    let ps = c.args.self.now.parts.now in
    let p = c.args.entity.part in
    let within : p < length ps = omega (arith, c.in-Some.ensures.lookup.3.0, ap length c.deref.ensures.value, c.requires.joining.tables.one_each, length-map ps named_module) in
    let at : linking.module_at (named_modules ps) p ≡ Some c.module-module.result.now =
    module_read ps p c.index-self-entity.result c.module-module.result.now within c.index-self-entity.is (c.module-module.ensures.value ∙ ap (λ (x : Part). x.«module») (sym c.index-self-entity.is)) in
    c.defined.ensures ∙ ap (λ (o : Option Module). option_and_then (λ m. faults.external_of m c.args.entity.what) o) (sym at)

pub returns-in-None : goal.returns-in-None
returns-in-None c =
    let lp = named_modules c.args.self.now.parts.now in
    let past = module_past lp c.args.entity.part (omega (arith, c.in-None.ensures.lookup.3, ap length c.deref.ensures.value, c.requires.joining.tables.one_each)) in
    ap (λ (o : Option Module). option_and_then (λ m. faults.external_of m c.args.entity.what) o) (sym past)
