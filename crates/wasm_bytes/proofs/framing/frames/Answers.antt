use Rattle.wasm_bytes.proofs.FramedLaws.{found, only, bad, only_bad}
use Rattle.wasm_bytes.proofs.framing.frames.Goals as goal

pub returns-clause-ok : goal.returns-clause-ok
returns-clause-ok c = found _ _ c.frames_behind.ensures.bytes (c.has_header.ensures.0 c.if-not-has_header.false) c.frames_behind.ensures.gives

pub returns-clause-only : goal.returns-clause-only
returns-clause-only c = only _ _ c.frames_behind.ensures.gives

pub returns-clause-bad : goal.returns-clause-bad
returns-clause-bad c = bad _ _ c.frames_behind.ensures.bytes (c.has_header.ensures.0 c.if-not-has_header.false) c.frames_behind.ensures.gives

pub returns-clause-only_bad : goal.returns-clause-only_bad
returns-clause-only_bad c = only_bad _ _ c.frames_behind.ensures.bytes c.frames_behind.ensures.gives
