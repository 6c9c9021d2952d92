use Rattle.base_lists.proofs.Common.{◌≡◌, ◌∙◌, sym, ap, ◌+◌, ◌++◌, Some, length, map, arith}
use Rattle.wasm_meaning.specs.Prelude.{numbers, defined_before, defined_count, imports_of}
use Rattle.merge_spec.specs.Prelude.{named_modules, new_index, staying_of}
use Rattle.merge_join.specs.Spaces.{first_of}
use Rattle.merge_join.proofs.ByPart.{each_within, each_index, module_exists}
use Rattle.merge_join.proofs.Counts.{staying_few}
use Rattle.merge_join.proofs.NewIndex.{all_indices}
use Rattle.merge_join.proofs.maps.space_map.Goals as goal

pub number_at-first-requires : goal.number_at-first-requires
number_at-first-requires c =
    let s = c.args.into.now in
    let ps = named_modules s.parts.now in
    let (m, at) = module_exists s.parts.now c.args.part c.requires.there in
    each_within (first_of ps s.space) ps s.firsts c.args.part m s.is.firsts_are at

pub add_numbers-requires : goal.add_numbers-requires
add_numbers-requires c =
    let s = c.args.into.now in
    let ps = named_modules s.parts.now in
    let k = s.space in
    let m = c.module_of.result.now in
    let at = c.module_of.ensures.at in
    omega (arith, c.number_at-first.ensures, each_index (first_of ps k) ps s.firsts c.args.part m s.is.firsts_are at, c.defined_count-defined.ensures, c.definitions_are_counted_by_part.ensures.all k ps c.args.part m at, staying_few ps k, c.requires.linked.few.entries k)

pub returns : goal.returns
returns c = λ m at.
    let s = c.args.into.now in
    let ps = named_modules s.parts.now in
    let k = s.space in
    let p = c.args.part in
    let there : Some c.module_of.result.now ≡ Some m = sym c.module_of.ensures.at ∙ at in
    let same : c.module_of.result.now ≡ m = cc in
    let first : c.number_at-first.result ≡ length (staying_of ps k) + defined_before k ps p = c.number_at-first.ensures ∙ each_index (first_of ps k) ps s.firsts p m s.is.firsts_are at in
    let count : c.defined_count-defined.result ≡ defined_count k m = c.defined_count-defined.ensures ∙ ap (defined_count k) same in
    c.in_ok-add_numbers.ensures ∙ ap (λ x. x ++ numbers c.number_at-first.result c.defined_count-defined.result) (c.in_ok-map.ensures m at)
    ∙ ap (λ x. map (new_index ps p k) (numbers 0 (length (imports_of k m))) ++ numbers x c.defined_count-defined.result) first
    ∙ ap (λ x. map (new_index ps p k) (numbers 0 (length (imports_of k m))) ++ numbers (length (staying_of ps k) + defined_before k ps p) x) count
    ∙ all_indices ps p k m (defined_count k m) at
