use Rattle.split_proof.proofs.ModuleCounts.{imports_many, primary_few, secondary_few}
use Rattle.split_proof.proofs.valid.split_modules_are_counted.Goals as goal

pub returns : goal.returns
returns c = record {
  imports = imports_many;
  primary = λ namespace prefix m moved valid can. primary_few namespace prefix m moved ((c.valid_where_items_hold.ensures m).0 valid) can;
  secondary = λ names m moved own before valid can. secondary_few names m moved own before ((c.valid_where_items_hold.ensures m).0 valid) can;
}
