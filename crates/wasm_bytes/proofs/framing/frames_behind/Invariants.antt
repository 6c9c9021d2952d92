use Rattle.std.proofs.Common.{ℕ, length, drop, ◌-◌, ◌≡◌, ◌≤◌, ◌+◌}
use Rattle.wasm_bytes.specs.Frames.{frames_at}
use Rattle.wasm_bytes.specs.FrameViews.{framed_all, in_front, frames_behind, Stand, Whole}
use Rattle.wasm_bytes.proofs.framing.frames_behind.Given as goal

abbrev pub invariant-loop-at : goal.invariant-loop-at
invariant-loop-at l = record {
  inside : l.at ≤ length l.bytes;
  few : l.count ≤ l.at;
  counted : length l.frames ≡ l.count;
  stand : Stand l.bytes 8 l.frames l.at;
  each : Whole l.bytes l.frames;
  goes_on : (fuel : ℕ) × (length l.bytes ≤ fuel + l.at) × (frames_behind l.bytes ≡ in_front (framed_all l.bytes l.frames) (frames_at fuel l.last l.count (drop l.at l.bytes)));
}

abbrev pub decreases-loop-at : goal.decreases-loop-at
decreases-loop-at l = length l.bytes - l.at
