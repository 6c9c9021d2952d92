use Rattle.merge_proof.proofs.SpaceLaws.{SpaceLaws}
use Rattle.merge_proof.proofs.ValueLaws.{Laws}
use Rattle.merge_proof.proofs.MergedWorlds.{show_the_same}
use Rattle.merge_proof.proofs.behaves.merged_module_equivalent.Goals as goal

pub returns : goal.returns
returns c =
    let alone = c.imports_of_one_module_denote_the_environment.ensures in
    let own = c.own_entities_correspond.ensures.own in
    let ends = c.linked_imports_have_ends.ensures in
    let maps = c.maps_have_entries.ensures in
    let worlds = c.corresponding_worlds_have_equal_traces.ensures in
    let counted = c.definitions_are_counted_by_part.ensures in
    let indices = c.index_spaces_list_imports_and_definitions.ensures in
    let allocated = c.allocated_stores_have_what_parts_define.ensures in
    let listed = c.segments_are_listed_by_part.ensures in
    let spaces : SpaceLaws = record {
      ends = ends.ends;
      stays = ends.stays;
      sites = ends.sites;
      places = ends.places;
      indices = ends.indices;
      defined = ends.defined;
      types = ends.types;
      counts = ends.counts;
      things = alone.external_values;
      spaces = alone.spaces;
      own = own;
      index_spaces = indices.spaces;
      names = indices.indices;
      instances = indices.instances;
      placed = allocated.placed;
      within = counted.all;
    } in
    let laws : Laws = record {
      items = c.valid_where_items_hold.ensures;
      valid = c.merged_modules_are_valid.ensures.valid;
      entries = maps.entries;
      reads = maps.reads;
      there = maps.there;
      alone_reads = alone.reads;
      alone_spaces = alone.spaces;
      own = own;
      named = c.remapped_code_is_related.ensures.fitting;
      index_spaces = indices.spaces;
      names = indices.indices;
      placed = allocated.placed;
      added = allocated.added;
      declared = c.declared_references_are_one_more_segment.ensures.allocated;
      elems_listed = listed.elems;
      datas_listed = listed.datas;
      none_before = counted.none;
      before_next = counted.next;
      code = c.steps_agree.ensures.code;
    } in
    record {
      equivalent = λ parts mode can env offers named moves n.
          show_the_same spaces laws c.starts_take_nothing.ensures.starts worlds.begin worlds.made worlds.allocated c.related_instances_have_equal_traces.ensures.begun c.one_start_for_several_equivalent.ensures.calls env parts mode can moves n;
    }
