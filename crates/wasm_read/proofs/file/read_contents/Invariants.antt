use Rattle.base_lists.proofs.Common.{◌≡◌, ◌≤◌, length, drop}
use Rattle.wasm_bytes.specs.Prelude.{framed_all}
use Rattle.wasm_tree_spec.specs.Prelude.{any_uses_data, limit, Imports}
use Rattle.wasm_read_spec.specs.Prelude.{nothing, contents_at}
use Rattle.wasm_read.proofs.file.read_contents.Given as goal

abbrev pub invariant-loop-frame : goal.invariant-loop-frame
invariant-loop-frame l = record {
  goes_on : contents_at l.many 0 nothing (framed_all l.bytes l.all) ≡ contents_at l.many l.frame-index l.found.parts (framed_all l.bytes (drop l.frame-index l.all));
  number : l.section ≡ l.frame-index;
  few : length l.found.parts.imports ≤ limit Imports;
  uses : l.found.uses_data ≡ any_uses_data l.found.parts.codes;
}
