use Rattle.merge_proof.proofs.ExtensionLaws.{ExtensionLaws}
use Rattle.merge_proof.proofs.WellBegunWorlds.{turns_not_seen}
use Rattle.merge_proof.proofs.sequential.sequential_instantiation_equivalent.Goals as goal

extension : (c : goal.After-linked_imports_have_ends) → ExtensionLaws
extension c = record {
  reflexive = c.store_extension_is_a_preorder.ensures.reflexive;
  transitive = c.store_extension_is_a_preorder.ensures.transitive;
  step = c.stores_are_extended.ensures.step;
  own_segments = c.stores_are_extended.ensures.own_segments;
  segments = c.stores_are_extended.ensures.segments;
}

pub returns : goal.returns
returns c =
    let spaces = c.index_spaces_list_imports_and_definitions.ensures in
    record {
      equivalent = turns_not_seen c.valid_where_items_hold.ensures c.start_depends_only_on_its_frames.ensures.own_frames (extension c) c.related_steps_agree.ensures.reflexive c.related_runs_have_equal_traces.ensures.steps c.related_runs_have_equal_traces.ensures.unrelated
          c.own_entities_correspond.ensures.own c.linked_imports_have_ends.ensures.sites
          spaces.instances spaces.spaces spaces.indices c.allocated_stores_have_what_parts_define.ensures.placed c.definitions_are_counted_by_part.ensures.next c.found_exports_are_there.ensures.there;
    }
