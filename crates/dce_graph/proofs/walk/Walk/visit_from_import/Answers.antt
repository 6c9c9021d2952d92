use Rattle.base_lists.proofs.Common.{◌∙◌, sym, ap, subst, false, get_or}
use Rattle.dce_graph.specs.Prelude.{from_import, denotes_import, AreFollowed}
use Rattle.dce_graph.proofs.Following.{met_already, none_stands, one_followed, stands_last}
use Rattle.dce_graph.proofs.walk.Walk.visit_from_import.Goals as goal

pub returns-then-is_set-clause-spread : goal.returns-then-is_set-clause-spread
returns-then-is_set-clause-spread c =
    let import = c.args.import.now in
    let w = c.args.self.now in
    let last = stands_last w import.«module» import.field _ _ _ c.requires.lookups c.in-Some.ensures.value c.as_str.ensures.text c.as_str-2.ensures.text in
    met_already c.args.search.now (from_import w.graph.now.nodes import)
    (c.requires.followed import.«module» import.field c.in-Some.last.now last (ap (λ fs. get_or fs c.in-Some.last.now false) (sym c.as_slice.ensures) ∙ sym c.is_set.ensures ∙ c.if-is_set.true))

pub visit_standing-requires-clause-last : goal.visit_standing-requires-clause-last
visit_standing-requires-clause-last c =
    let import = c.args.import.now in
    stands_last c.args.self.now import.«module» import.field _ _ _ c.requires.lookups c.in-Some.ensures.value c.as_str.ensures.text c.as_str-2.ensures.text

pub returns-in_ok-visit_standing-in-Some-clause-followed : goal.returns-in_ok-visit_standing-in-Some-clause-followed
returns-in_ok-visit_standing-in-Some-clause-followed c =
    let import = c.args.import.now in
    let nodes = c.args.self.now.graph.now.nodes in
    let followed = c.args.followed.now in
    let new = c.visit_standing.new.search in
    let last = stands_last c.args.self.now import.«module» import.field _ _ _ c.requires.lookups c.in-Some.ensures.value c.as_str.ensures.text c.as_str-2.ensures.text in
    subst (λ fs. AreFollowed nodes fs new.marks) (sym c.set_flag.ensures)
    (one_followed nodes followed c.args.search.now new import.«module» import.field c.in-Some.last.now c.requires.followed last c.in_ok-visit_standing-in-Some.ensures)

pub returns-in-None-clause-spread : goal.returns-in-None-clause-spread
returns-in-None-clause-spread c =
    let import = c.args.import.now in
    let w = c.args.self.now in
    none_stands w.graph.now.nodes (denotes_import import) c.args.search.now
    (stands_last w import.«module» import.field _ _ _ c.requires.lookups c.in-None.ensures.value c.as_str.ensures.text c.as_str-2.ensures.text)
