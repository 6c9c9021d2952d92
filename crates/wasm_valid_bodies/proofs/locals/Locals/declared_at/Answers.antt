use Rattle.base_lists.proofs.Common.{◌≡◌, Some, None, sym, ap, ◌∙◌, slice_get, option_map, slice_get-get_or, slice_get_past}
use Rattle.wasm_valid_bodies.proofs.Grouped.{local_at, ends_ascend}
use Rattle.wasm_valid_bodies.proofs.locals.Locals.declared_at.Goals as goal

pub first_above-group-requires : goal.first_above-group-requires
first_above-group-requires c = ends_ascend _ c.args.self.now.groups.now c.deref.result.now c.args.self.now.ends.items c.deref.ensures.value c.args.self.now.ends_are

pub returns-in-Some : goal.returns-in-Some
returns-in-Some c =
    let groups = c.args.self.now.groups.now in
    let place = c.first_above-group.result in
    let h = c.in-Some.ensures.lookup in
    let found : slice_get groups place ≡ Some c.in-Some.group.now = slice_get-get_or groups place c.in-Some.group.now h.3.0 ∙ ap Some (sym h.1) in
    ap (option_map (λ g. g.ty)) (sym found) ∙ local_at c.args.self.now.params.now groups c.deref.result.now c.args.local place (c.deref.ensures.value ∙ c.args.self.now.ends_are) c.requires c.first_above-group.ensures

pub returns-in-None : goal.returns-in-None
returns-in-None c =
    let groups = c.args.self.now.groups.now in
    let place = c.first_above-group.result in
    let found : slice_get groups place ≡ None = slice_get_past groups place c.in-None.ensures.lookup.3 in
    ap (option_map (λ g. g.ty)) (sym found) ∙ local_at c.args.self.now.params.now groups c.deref.result.now c.args.local place (c.deref.ensures.value ∙ c.args.self.now.ends_are) c.requires c.first_above-group.ensures
