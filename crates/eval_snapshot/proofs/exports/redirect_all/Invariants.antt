use Rattle.base_lists.proofs.Common.{◌≡◌, List, length, map, take, part}
use Rattle.wasm_meaning.specs.Prelude.{Text}
use Rattle.eval_snapshot.specs.Names.{HasEvaluated, redirected, stays}
use Rattle.eval_snapshot.proofs.exports.redirect_all.Given as goal

abbrev pub invariant-loop-at : goal.invariant-loop-at
invariant-loop-at l = record {
  redirected : (evaluated kept : List Text) → HasEvaluated evaluated kept l.names → l.exports ≡ part (redirected evaluated l.empty) l.initial.exports l.at;
  many : length l.marks ≡ l.at;
  size : length l.exports ≡ length l.initial.exports;
  stay : (evaluated kept : List Text) → HasEvaluated evaluated kept l.names → l.marks ≡ map (stays evaluated kept) (take l.at l.initial.exports);
}
