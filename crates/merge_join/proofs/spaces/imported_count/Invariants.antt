use Rattle.std.proofs.Common.{◌≡◌, length, take}
use Rattle.wasm_meaning.specs.Linking.{places, has_kind}
use Rattle.merge_join.proofs.spaces.imported_count.Given as goal

abbrev pub invariant-loop-import : goal.invariant-loop-import
invariant-loop-import l = l.count ≡ length (places (has_kind l.space) (take l.import-index l.imports) 0)
