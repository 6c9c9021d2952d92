use Rattle.base_lists.proofs.Common.{◌++◌, flat_map}
use Rattle.dce_graph.specs.Prelude.{data_points, elem_points, import_points, root_nodes, roots, start_points}
use Rattle.dce_graph.proofs.Marking.{spread_then}
use Rattle.dce_graph.proofs.Walking.{then_ok, five_joined}
use Rattle.dce_graph.proofs.walk.Walk.visit_roots.Goals as goal

pub returns : goal.returns
returns c =
    let m = c.args.self.now.module.now in
    let s = c.args.search.now in
    let nodes = root_nodes c.args.self.now.graph.now.nodes in
    let start = start_points m.start in
    let imports = import_points m.imports in
    let elems = flat_map (λ e. elem_points e.mode e.items) m.elems in
    let datas = flat_map (λ d. data_points d.mode) m.datas in
    let a = spread_then s c.visit_root_nodes.new.search c.visit_start.new.search nodes start (rw c.as_slice.ensures at c.in_ok-visit_root_nodes.ensures) c.in_ok-visit_start.ensures in
    let b = spread_then s c.visit_start.new.search c.visit_imports.new.search (nodes ++ start) imports a (rw c.as_slice-2.ensures at c.in_ok-visit_imports.ensures) in
    let d = spread_then s c.visit_imports.new.search c.visit_elems.new.search ((nodes ++ start) ++ imports) elems b (rw c.as_slice-3.ensures at c.in_ok-visit_elems.ensures) in
    then_ok c.visit_datas.result s c.visit_elems.new.search c.visit_datas.new.search (((nodes ++ start) ++ imports) ++ elems) datas (roots c.args.self.now.graph.now m)
    (five_joined nodes start imports elems datas) d (rw c.as_slice-4.ensures at c.visit_datas.ensures)
