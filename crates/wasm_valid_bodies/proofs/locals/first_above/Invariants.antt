use Rattle.base_lists.proofs.Common.{ℕ, ◌-◌, ◌<◌, ◌≤◌, length, slice_index}
use Rattle.wasm_valid_bodies.proofs.locals.first_above.Given as goal

abbrev pub invariant-loop-low : goal.invariant-loop-low
invariant-loop-low l = record {
  ordered : l.low ≤ l.high;
  within : l.high ≤ length l.ends;
  before : (k : ℕ) → k < l.low → slice_index l.ends k ≤ l.bound;
  after : (k : ℕ) → l.high ≤ k → k < length l.ends → l.bound < slice_index l.ends k;
}

abbrev pub decreases-loop-low : goal.decreases-loop-low
decreases-loop-low l = l.high - l.low
