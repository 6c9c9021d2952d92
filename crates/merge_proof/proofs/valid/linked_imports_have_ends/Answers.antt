use Rattle.merge_proof.proofs.EndsAndSites.{ended, stays_there, sites_are_imports, have_places, indices_are_places, defined_have_places, types_have_places, defines_all}
use Rattle.merge_proof.proofs.valid.linked_imports_have_ends.Goals as goal

pub returns : goal.returns
returns c = record {
  ends = ended c.ends_and_reads_are_paths.ensures.ends;
  stays = stays_there c.ends_and_reads_are_paths.ensures.ends;
  sites = sites_are_imports;
  places = have_places;
  indices = indices_are_places;
  defined = defined_have_places;
  types = types_have_places;
  counts = defines_all;
}
