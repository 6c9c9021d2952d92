use Rattle.base_lists.proofs.Common.{sym, ap, ◌∙◌, hash_map_updates_str}
use Rattle.split_plan.specs.NameTable.{held_of, once_more}
use Rattle.split_plan.proofs.Tables.{put_once_more}
use Rattle.split_plan.proofs.named.enter.Goals as goal

pub returns : goal.returns
returns c = λ word.
    let now = hash_map_updates_str c.args.name.now c.args.table.now c.insert.new.self _ c.in_ok-insert.ensures.updates word in
    let found = c.copied.ensures ∙ c.get.ensures.value in
    now ∙ put_once_more c.args.func c.once_more-new.result c.args.name.now (held_of c.args.table.now) (sym (c.once_more-new.ensures ∙ ap (once_more c.args.func) found)) word
