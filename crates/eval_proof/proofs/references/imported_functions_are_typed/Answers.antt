use Rattle.eval_proof.proofs.ImportTypes.{imports_are_typed}
use Rattle.eval_proof.proofs.references.imported_functions_are_typed.Goals as goal

pub returns : goal.returns
returns c = λ m valid. imports_are_typed m ((c.valid_where_items_hold.ensures m).0 valid)
