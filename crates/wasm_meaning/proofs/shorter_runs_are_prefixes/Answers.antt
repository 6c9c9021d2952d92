use Rattle.base_simulation.proofs.Prefixes.{shorter}
use Rattle.wasm_meaning.specs.Prelude.{instantiate, tick, fresh_run, tick_sequential, tick_loader, fresh_loader}
use Rattle.wasm_meaning.specs.Sequential.{before_parts}
use Rattle.wasm_meaning.proofs.shorter_runs_are_prefixes.Goals as goal

pub returns : goal.returns
returns c = record {
  prefixes = λ w env moves n k. shorter tick (fresh_run env (instantiate env w) moves) n k;
  sequential = λ w env moves n k. shorter tick_sequential (before_parts env w moves) n k;
  loaded = λ w env moves n k. shorter (tick_loader w) (fresh_loader env w moves) n k;
}
