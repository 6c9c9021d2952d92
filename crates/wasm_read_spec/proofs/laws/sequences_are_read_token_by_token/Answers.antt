use Rattle.wasm_read_spec.proofs.Blocks.{token_by_token}
use Rattle.wasm_read_spec.proofs.laws.sequences_are_read_token_by_token.Goals as goal

pub returns : goal.returns
returns c = token_by_token
