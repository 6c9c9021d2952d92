use Rattle.std.proofs.Common.{[], ◌∙◌, sym, append-nil}
use Rattle.dce_proof.proofs.SweptModuleLinking.{Laws}
use Rattle.dce_proof.proofs.SweptModuleTraces.{shows_the_same}
use Rattle.dce_proof.proofs.NamedIndices.{named_both, tree_imports}
use Rattle.dce_proof.proofs.behaves.swept_module_equivalent.Goals as goal

laws : (c : goal.After-corresponding_worlds_have_equal_traces) → Laws
laws c = record {
  spaces = c.imports_of_one_module_denote_the_environment.ensures.spaces;
  constants = c.constants_of_one_module_read_the_environment.ensures.values;
  declared = c.declared_references_are_one_more_segment.ensures.allocated;
  items = c.what_is_kept_fits.ensures.items;
  made = c.corresponding_worlds_have_equal_traces.ensures.made;
  equal_traces = c.corresponding_worlds_have_equal_traces.ensures.equal_traces;
}

pub returns : goal.returns
returns c k t valid closed env offers linked moves n =
    let named = named_both k t c.operands_pass_layer_by_layer.ensures.layers closed.names (c.renumbering_keeps_typing.ensures.tree_named _ _ (c.what_is_kept_fits.ensures.entries k t valid closed)) in
    let e = shows_the_same (laws c) k t closed (tree_imports k t closed named) named c.steps_agree.ensures.code env linked moves n in
    (([], append-nil _ ∙ e), ([], append-nil _ ∙ sym e))
