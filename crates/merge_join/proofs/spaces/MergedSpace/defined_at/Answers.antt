use Rattle.std.proofs.Common.{◌≡◌, refl, length, arith}
use Rattle.wasm_meaning.specs.Prelude.{imports_of}
use Rattle.merge_spec.specs.Parts.{named_modules}
use Rattle.merge_join.specs.LinkedParts.{place_at}
use Rattle.merge_join.specs.Spaces.{first_of, imported_in}
use Rattle.merge_join.proofs.ByPart.{each_within, each_index}
use Rattle.merge_join.proofs.spaces.MergedSpace.defined_at.Goals as goal

pub number_at-imported-requires : goal.number_at-imported-requires
number_at-imported-requires c =
    let s = c.args.self.now in
    let ps = named_modules s.parts.now in
    let (m, at, within) = c.requires in
    omega (arith, each_within (imported_in ps s.space) ps s.imported c.args.part m s.is.imported_are at)

pub number_at-requires : goal.number_at-requires
number_at-requires c =
    let s = c.args.self.now in
    let ps = named_modules s.parts.now in
    let (m, at, within) = c.requires in
    omega (arith, each_within (first_of ps s.space) ps s.firsts c.args.part m s.is.firsts_are at)

pub overflow_add-result : goal.overflow_add-result
overflow_add-result c =
    let s = c.args.self.now in
    let ps = named_modules s.parts.now in
    let k = s.space in
    let (m, at, within) = c.requires in
    let many : imported_in ps k c.args.part m ≡ length (imports_of k m) = rw at refl in
    omega (
      arith,
      s.few,
      s.is.count_is,
      c.definitions_are_counted_by_part.ensures.all k ps c.args.part m at,
      many,
      within,
      c.number_at.ensures,
      c.saturating_sub.ensures,
      c.number_at-imported.ensures,
      each_index (first_of ps k) ps s.firsts c.args.part m s.is.firsts_are at,
      each_index (imported_in ps k) ps s.imported c.args.part m s.is.imported_are at,
    )

pub returns : goal.returns
unfolding place_at
returns c =
    let s = c.args.self.now in
    let ps = named_modules s.parts.now in
    let k = s.space in
    let (m, at, within) = c.requires in
    omega (
      arith,
      c.number_at.ensures,
      c.saturating_sub.ensures,
      c.number_at-imported.ensures,
      each_index (first_of ps k) ps s.firsts c.args.part m s.is.firsts_are at,
      each_index (imported_in ps k) ps s.imported c.args.part m s.is.imported_are at,
    )
