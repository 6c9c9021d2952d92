use Rattle.std.proofs.Common.{[], ◌∙◌, sym, subst, append-nil, IsTrue}
use Rattle.wasm_meaning.specs.Prelude.{alone, links, Same, events}
use Rattle.dce_proof.specs.UnreachableFunction.{all_but, removed}
use Rattle.dce_proof.proofs.NamedIndices.{named_both, tree_imports}
use Rattle.dce_proof.proofs.SweptModuleLinking.{Laws}
use Rattle.dce_proof.proofs.SweptModuleTraces.{shows_the_same}
use Rattle.dce_proof.proofs.UnreachableFunctionMarks.{closed, all_in_view}
use Rattle.dce_proof.proofs.behaves.unreachable_function_removal_equivalent.Goals as goal

laws : (c : goal.After-corresponding_worlds_have_equal_traces) → Laws
laws c = record {
  spaces = c.imports_of_one_module_denote_the_environment.ensures.spaces;
  constants = c.constants_of_one_module_read_the_environment.ensures.values;
  declared = c.declared_references_are_one_more_segment.ensures.allocated;
  items = c.what_is_kept_fits.ensures.items;
  made = c.corresponding_worlds_have_equal_traces.ensures.made;
  equal_traces = c.corresponding_worlds_have_equal_traces.ensures.equal_traces;
}

pub returns : goal.returns
returns c = record {
  equivalent = λ t n there unreachable.
      let k = all_but n t in
      let marks = closed t n there unreachable in
      let named = named_both k t c.operands_pass_layer_by_layer.ensures.layers unreachable.not_named unreachable.all_exist in
      subst (λ w. Same (λ env. IsTrue (links env w)) (events w) (events (alone (removed n t))) (λ n. n) (λ n. n)) (all_in_view t n)
      (λ env offers linked moves m.
      let e = shows_the_same (laws c) k t marks (tree_imports k t marks named) named c.steps_agree.ensures.code env linked moves m in
      (([], append-nil _ ∙ e), ([], append-nil _ ∙ sym e)));
}
