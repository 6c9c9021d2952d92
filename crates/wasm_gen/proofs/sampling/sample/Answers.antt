use Rattle.wasm_gen.proofs.Validity.{first_valid, first_bounded, second_valid, second_bounded}
use Rattle.wasm_gen.proofs.sampling.sample.Goals as goal

-- src/sampling.rt:24:9
pub known-first-requires-clause-valid : goal.known-first-requires-clause-valid
known-first-requires-clause-valid c = first_valid c.valid_where_items_hold.ensures c.args.seed c.args.count c.in_ok-first_module.field-0 c.requires.most c.in_ok-first_module.ensures.value

-- src/sampling.rt:24:9
pub known-first-requires-clause-bounded : goal.known-first-requires-clause-bounded
known-first-requires-clause-bounded c = first_bounded c.args.seed c.args.count c.in_ok-first_module.field-0 c.requires.most c.in_ok-first_module.ensures.value

-- src/sampling.rt:25:9
pub known-second-requires-clause-valid : goal.known-second-requires-clause-valid
known-second-requires-clause-valid c =
    second_valid c.valid_where_items_hold.ensures c.first_module.new.state c.args.count c.in_ok-second_module.field-0 c.requires.some c.requires.most c.in_ok-second_module.ensures

-- src/sampling.rt:25:9
pub known-second-requires-clause-bounded : goal.known-second-requires-clause-bounded
known-second-requires-clause-bounded c =
    second_bounded c.first_module.new.state c.args.count c.in_ok-second_module.field-0 c.requires.some c.requires.most c.in_ok-second_module.ensures
