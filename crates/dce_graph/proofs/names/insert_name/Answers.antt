use Rattle.base_lists.proofs.Common.{btree_map_updates_str}
use Rattle.dce_graph.proofs.names.insert_name.Goals as goal

pub returns-clause-noted : goal.returns-clause-noted
returns-clause-noted c = λ q. btree_map_updates_str c.args.name.now c.args.names.now c.insert.new.self _ c.in_ok-insert.ensures.updates q
