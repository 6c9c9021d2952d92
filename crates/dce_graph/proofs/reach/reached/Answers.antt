use Rattle.base_lists.proofs.Common.{◌≡◌, ◌∙◌, true, sym, ap, subst, length, ◌↔◌}
use Rattle.dce_graph.specs.Prelude.{IsReached, edges, routes, roots, flags, marked, Spread, AreFollowed}
use Rattle.dce_graph.specs.Marks.{with_stack}
use Rattle.dce_graph.proofs.Following.{none_followed}
use Rattle.dce_graph.proofs.Searching.{blank_search, good_start, good_more, good_end}
use Rattle.dce_graph.proofs.reach.reached.Goals as goal

pub loop-point-init : goal.loop-point-init
loop-point-init c =
    let g = c.args.graph.now in
    let m = c.args.input.now in
    let spread : Spread (blank_search g m) (roots g m) c.visit_roots.new.search = rw (c.in_ok-walk.ensures.graph, c.in_ok-walk.ensures.tree, c.in_ok-blank.ensures, c.new.ensures, c.module-module.ensures.value) at c.in_ok-visit_roots.ensures in
    record {
      good = good_start g m c.visit_roots.new.search spread;
      followed = subst (λ fs. AreFollowed g.nodes fs c.visit_roots.new.search.marks) (sym c.in_ok-followed.ensures) (none_followed g.nodes _ c.visit_roots.new.search.marks);
    }

pub visit_edges-requires-clause-followed : goal.visit_edges-requires-clause-followed
visit_edges-requires-clause-followed c =
    let followed = c.loop-point.followed in
    subst (λ g. AreFollowed g.nodes followed c.next.new.search.marks) (sym c.in_ok-walk.ensures.graph) (subst (λ s. AreFollowed c.args.graph.now.nodes followed s.marks) (sym c.in-Some.ensures.1) c.loop-point.invariant.followed)

pub loop-point-preserved : goal.loop-point-preserved
loop-point-preserved c =
    let g = c.args.graph.now in
    let m = c.args.input.now in
    let s = c.loop-point.search in
    let new = c.visit_edges.new.search in
    let p = c.in-Some.point in
    let st = c.next.new.search.stack in
    let after : Spread c.next.new.search (edges g m p) new = rw (c.in_ok-walk.ensures.graph, c.in_ok-walk.ensures.tree, c.module-module.ensures.value) at c.in_ok-visit_edges.ensures.spread in
    let spread : Spread (with_stack s st) (edges g m p) new = subst (λ b. Spread b (edges g m p) new) c.in-Some.ensures.1 after in
    record {
      good = good_more (routes g m) s new st p c.loop-point.invariant.good c.in-Some.ensures.0 spread;
      followed = subst (λ h. AreFollowed h.nodes c.visit_edges.new.followed new.marks) c.in_ok-walk.ensures.graph c.in_ok-visit_edges.ensures.followed;
    }

pub returns-clause-exactly : goal.returns-clause-exactly
returns-clause-exactly c = λ p.
    let g = c.args.graph.now in
    let m = c.args.input.now in
    subst (λ s. (marked s.marks p ≡ true) ↔ IsReached g m p) (sym c.in_default.ensures.1) (good_end (routes g m) c.loop-point.search c.loop-point.invariant.good c.in_default.ensures.0 p)

pub returns-clause-one_each : goal.returns-clause-one_each
returns-clause-one_each c = λ p. ap (λ s. length (flags s.marks p)) c.in_default.ensures.1 ∙ c.loop-point.invariant.good.as_many p
