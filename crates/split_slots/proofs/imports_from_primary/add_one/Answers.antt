use Rattle.base_lists.proofs.Common.{◌++◌, [], append-nil, ap, sym, ◌∙◌, cons_option, option_map, slice_get_past}
use Rattle.split_spec.specs.Prelude.{name_from_primary}
use Rattle.split_slots.proofs.imports_from_primary.add_one.Goals as goal

pub returns-in-None : goal.returns-in-None
returns-in-None c =
    let old = c.args.imports.now in
    let space = c.args.space in
    let at = c.args.at in
    let names = c.args.names.now in
    sym (append-nil old)
    ∙ sym (ap (λ o. old ++ cons_option (option_map (λ d. record { «module» = names.import_namespace; field = name_from_primary names.export_prefix space at; desc = d }) o) [])
    (slice_get_past c.args.entities.now at c.in-None.ensures.lookup.3))
