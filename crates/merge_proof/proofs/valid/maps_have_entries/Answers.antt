use Rattle.std.specs.Prelude.{[]}
use Rattle.merge_spec.specs.Merged.{map_of}
use Rattle.merge_proof.proofs.LinkFaults.{are_linked}
use Rattle.merge_proof.proofs.PartAgreement.{map_covers}
use Rattle.merge_proof.proofs.ConstantTypes.{map_fits, read_fits, read_there}
use Rattle.merge_proof.proofs.valid.maps_have_entries.Goals as goal

pub returns : goal.returns
returns c = record {
  entries = λ parts p m valid. c.renumbering_keeps_typing.ensures.tree_entries (map_of parts p m) m valid (map_covers parts p m);
  constants = map_fits;
  reads = λ parts p m e ty r valid linked is t reads.
      read_fits c.ends_and_reads_are_paths.ensures.ends parts [] (are_linked parts linked) c.ends_and_reads_are_paths.ensures.reads (λ p m is. (c.valid_where_items_hold.ensures m).0 (valid p m is)) p e m ty r is t reads;
  there = λ parts p m e ty valid linked is t.
      read_there c.ends_and_reads_are_paths.ensures.ends parts [] (are_linked parts linked) c.ends_and_reads_are_paths.ensures.reads (λ p m is. (c.valid_where_items_hold.ensures m).0 (valid p m is)) p e m ty is t;
}
