use Rattle.std.proofs.Common.{◌≡◌, drop}
use Rattle.wasm_bytes.specs.FrameViews.{framed_all}
use Rattle.wasm_names.specs.Reading.{first_content}
use Rattle.wasm_names.proofs.file.first_names_content.Given as goal

abbrev pub invariant-loop-frame : goal.invariant-loop-frame
invariant-loop-frame l = first_content (framed_all l.bytes l.all) ≡ first_content (framed_all l.bytes (drop l.frame-index l.all))
