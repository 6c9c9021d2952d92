-- A module without lists is bounded.
use Rattle.std.proofs.Common.{ℕ, [], Option, arith}
use Rattle.wasm_tree.specs.Bounds.{IsBounded}

pub empty_bounded : (s : Option ℕ) → IsBounded (record { types = []; imports = []; funcs = []; tables = []; mems = []; globals = []; exports = []; start = s; elems = []; datas = [] })
empty_bounded s = record {
  types = omega arith;
  imports = omega arith;
  funcs = omega arith;
  tables = omega arith;
  memories = omega arith;
  globals = omega arith;
  exports = omega arith;
  elems = omega arith;
  datas = omega arith;
  locals = λ i f e. cc;
}
