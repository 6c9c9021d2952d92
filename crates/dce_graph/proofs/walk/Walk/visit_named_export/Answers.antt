use Rattle.base_lists.proofs.Common.{◌≡◌, ◌∙◌, ◌∷◌, [], ap, sym, Some, None, option_map, cons_option}
use Rattle.dce_graph.specs.declared.point.Point.TheVariants.{Export}
use Rattle.dce_graph.specs.Prelude.{export_place, export_of_node}
use Rattle.dce_graph.proofs.Marking.{spread_none}
use Rattle.dce_graph.proofs.walk.Walk.visit_named_export.Goals as goal

pub returns-in-Some-get : goal.returns-in-Some-get
returns-in-Some-get c =
    let exports = c.args.self.now.module.now.exports in
    let at : export_place exports c.in-Some.name ≡ Some c.in-Some-get.place.now = sym (c.in-Some-get.ensures.value ∙ c.requires.lookups.exports c.as_str.result.now ∙ ap (export_place exports) c.as_str.ensures.text) in
    let is : export_of_node exports c.args.name.now ≡ Export c.in-Some-get.place.now ∷ [] = ap (export_of_node exports) c.in-Some.is ∙ ap (λ o. cons_option (option_map Export o) []) at in
    rw is c.visit.ensures

pub returns-in-None-get : goal.returns-in-None-get
returns-in-None-get c =
    let exports = c.args.self.now.module.now.exports in
    let at : export_place exports c.in-Some.name ≡ None = sym (c.in-None-get.ensures.value ∙ c.requires.lookups.exports c.as_str.result.now ∙ ap (export_place exports) c.as_str.ensures.text) in
    let is : export_of_node exports c.args.name.now ≡ [] = ap (export_of_node exports) c.in-Some.is ∙ ap (λ o. cons_option (option_map Export o) []) at in
    rw is (spread_none c.args.search.now)
