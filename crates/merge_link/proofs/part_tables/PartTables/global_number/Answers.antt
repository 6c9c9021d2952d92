use Rattle.base_lists.proofs.Common.{◌≡◌, ◌∙◌, sym, ap, subst, ℕ, ◌<◌, ◌+◌, Some, length, slice_get, arith, length-map, slice_get_within}
use Rattle.wasm_meaning.specs.Linking as linking
use Rattle.merge_spec.specs.Faults as faults
use Rattle.merge_spec.specs.Prelude.{named_module, named_modules}
use Rattle.merge_link.specs.Prelude.{the_entity, IsOwn}
use Rattle.merge_link.proofs.Joins.{module_read, read_at}
use Rattle.merge_link.proofs.Reading.{own_none, own_past, own_place, own_some}
use Rattle.merge_link.proofs.part_tables.PartTables.global_number.Goals as goal

pub overflow_add-result : goal.overflow_add-result
overflow_add-result c =
    let ps = c.args.self.now.parts.now in
    let lp = named_modules ps in
    let ts = c.args.self.now.tables.items in
    let e = the_entity c.args.entity in
    let t = c.in-Some.table.now in
    let m = c.module.result.now in
    let table : slice_get ts e.part ≡ Some t = read_at ts c.deref.result.now e.part t c.deref.ensures.value c.in-Some.ensures.lookup.3.0 c.in-Some.ensures.lookup.1 in
    let within : e.part < length ps = omega (arith, c.in-Some.ensures.lookup.3.0, ap length c.deref.ensures.value, c.requires.tables.one_each, length-map ps named_module) in
    let at : linking.module_at lp e.part ≡ Some m = module_read ps e.part c.index-self-entity.result m within c.index-self-entity.is (c.module.ensures.value ∙ ap (λ x. x.«module») (sym c.index-self-entity.is)) in
    let place : c.saturating_sub-place.result ≡ own_place t e = omega (arith, c.saturating_sub-place.ensures, c.index-index.ensures, c.imported.ensures) in
    let own = own_some lp ts e t m c.requires.tables table at (omega (arith, place, c.if-place-globals.true, ap length c.as_slice-globals.ensures)) in
    omega (arith, place, slice_get_within (faults.defined_globals lp) (t.first_global + own_place t e) own.0 own.1, c.requires.globals, c.first_global.ensures)

pub returns-then-place-globals : goal.returns-then-place-globals
returns-then-place-globals c =
    let ps = c.args.self.now.parts.now in
    let lp = named_modules ps in
    let ts = c.args.self.now.tables.items in
    let e = the_entity c.args.entity in
    let t = c.in-Some.table.now in
    let m = c.module.result.now in
    let table : slice_get ts e.part ≡ Some t = read_at ts c.deref.result.now e.part t c.deref.ensures.value c.in-Some.ensures.lookup.3.0 c.in-Some.ensures.lookup.1 in
    let within : e.part < length ps = omega (arith, c.in-Some.ensures.lookup.3.0, ap length c.deref.ensures.value, c.requires.tables.one_each, length-map ps named_module) in
    let at : linking.module_at lp e.part ≡ Some m = module_read ps e.part c.index-self-entity.result m within c.index-self-entity.is (c.module.ensures.value ∙ ap (λ x. x.«module») (sym c.index-self-entity.is)) in
    let place : c.saturating_sub-place.result ≡ own_place t e = omega (arith, c.saturating_sub-place.ensures, c.index-index.ensures, c.imported.ensures) in
    let number : t.first_global + own_place t e ≡ c.first_global.result + c.saturating_sub-place.result = omega (arith, place, c.first_global.ensures) in
    subst (λ (n : ℕ). IsOwn lp e (Some n)) number (own_some lp ts e t m c.requires.tables table at (omega (arith, place, c.if-place-globals.true, ap length c.as_slice-globals.ensures)))

pub returns-else-place-globals : goal.returns-else-place-globals
returns-else-place-globals c =
    let ps = c.args.self.now.parts.now in
    let lp = named_modules ps in
    let ts = c.args.self.now.tables.items in
    let e = the_entity c.args.entity in
    let t = c.in-Some.table.now in
    let m = c.module.result.now in
    let table : slice_get ts e.part ≡ Some t = read_at ts c.deref.result.now e.part t c.deref.ensures.value c.in-Some.ensures.lookup.3.0 c.in-Some.ensures.lookup.1 in
    let within : e.part < length ps = omega (arith, c.in-Some.ensures.lookup.3.0, ap length c.deref.ensures.value, c.requires.tables.one_each, length-map ps named_module) in
    let at : linking.module_at lp e.part ≡ Some m = module_read ps e.part c.index-self-entity.result m within c.index-self-entity.is (c.module.ensures.value ∙ ap (λ x. x.«module») (sym c.index-self-entity.is)) in
    let place : c.saturating_sub-place.result ≡ own_place t e = omega (arith, c.saturating_sub-place.ensures, c.index-index.ensures, c.imported.ensures) in
    own_none lp ts e t m c.requires.tables table at (omega (arith, place, c.if-place-globals.false, ap length c.as_slice-globals.ensures))

pub returns-in-None : goal.returns-in-None
returns-in-None c = own_past (named_modules c.args.self.now.parts.now) c.args.self.now.tables.items (the_entity c.args.entity) c.requires.tables (omega (arith, c.in-None.ensures.lookup.3, ap length c.deref.ensures.value))
