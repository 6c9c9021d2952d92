-- The frames of a file and their contents, as results of the reader.
use Rattle.std.specs.Prelude.{◌≡◌, ℕ, List, Result, Ok, Err}
use Rattle.wasm_bytes.specs.declared.framing.Frame.{Frame as Place}
use Rattle.wasm_bytes.specs.FrameViews.{framed_all}
use Rattle.wasm_read_spec.specs.declared.fault.ReadFault.{ReadFault}
use Rattle.wasm_read_spec.specs.declared.parts.Parts.{Parts}
use Rattle.wasm_read_spec.specs.Contents.{FileFails, framed_at}
use Rattle.wasm_read.specs.declared.sections.Found.{Found}

abbrev pub GivesFramed : List ℕ → Result (List Place) ReadFault → Type 0
GivesFramed bytes (Ok fs) = framed_at bytes ≡ Ok (framed_all bytes fs)
GivesFramed bytes (Err e) = FileFails e (framed_at bytes)

abbrev pub GivesParts : Result Found ReadFault → Result Parts ReadFault → Type 0
GivesParts (Ok c) read = read ≡ Ok c.parts
GivesParts (Err e) read = FileFails e read
