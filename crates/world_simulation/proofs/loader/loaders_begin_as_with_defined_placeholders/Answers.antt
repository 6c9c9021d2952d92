use Rattle.world_simulation.proofs.DefinedPlaceholders.{add_as_stubbed, begin_as_stubbed, placeholders_many}
use Rattle.world_simulation.proofs.loader.loaders_begin_as_with_defined_placeholders.Goals as goal

pub returns : goal.returns
returns c =
    let funcs = c.segments_leave_functions_alone.ensures in
    record { added = add_as_stubbed funcs.kept funcs.ignored; begin = begin_as_stubbed funcs.kept funcs.ignored; counted = placeholders_many }
