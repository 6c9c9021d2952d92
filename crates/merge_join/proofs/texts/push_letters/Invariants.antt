use Rattle.std.proofs.Common.{◌≡◌, ◌++◌, map, take, string_bytes}
use Rattle.merge_join.specs.Texts.{letter_of}
use Rattle.merge_join.proofs.texts.push_letters.Given as goal

abbrev pub invariant-loop-ty : goal.invariant-loop-ty
invariant-loop-ty l = string_bytes l.text ≡ string_bytes l.initial.text ++ map letter_of (take l.ty-index l.types)
