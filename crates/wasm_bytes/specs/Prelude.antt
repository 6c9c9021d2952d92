-- The names of bytes, passed on from one place. This file declares nothing.
pub use Rattle.wasm_bytes.specs.FrameViews.{FramesAreRead, Stand, framed, framed_all, frames_behind}
pub use Rattle.wasm_bytes.specs.Frames.{FirstBad, Framed, Frames, HasHeader, Section, frame_at, frames_at, header, may_follow, order_after}
pub use Rattle.wasm_bytes.specs.Joins.{Each, Named, Sized, Then, TakesOff, U32, Vector}
pub use Rattle.wasm_bytes.specs.Numbers.{IsWithin, Signed, Takes, join_signed, join_unsigned, last_signed, last_unsigned}
pub use Rattle.wasm_bytes.specs.Reading.{IsBytes, signed_at, sized_at, unsigned_at, ◌>>=◌}
pub use Rattle.wasm_bytes.specs.Writing.{s32_text, s64_text, signed_text, sized_text, u32_text, unsigned_text}
