use Rattle.base_lists.proofs.Common.{hash_map_updates_str}
use Rattle.split_slots.proofs.taken_export_names.note.Goals as goal

pub returns : goal.returns
returns c = λ q. hash_map_updates_str c.args.name.now c.args.taken.now c.insert.new.self _ c.in_ok-insert.ensures.updates q
