use Rattle.base_lists.proofs.Common.{◌≡◌, ◌∙◌, sym, ap, refl, subst, ◌+◌, ◌++◌, ◌∷◌, [], Some, Bool, true, false, cond, length, map, take, slice_get, arith, slice_get_read, map_push, take_all, numbers_more}
use Rattle.wasm_tree_spec.specs.Prelude.{Module, space_of_import}
use Rattle.wasm_meaning.specs.Prelude.{numbers, places, has_kind, imports_of}
use Rattle.merge_spec.specs.Prelude.{named_modules, new_index}
use Rattle.merge_join.specs.LinkedParts.{EndExists}
use Rattle.merge_join.proofs.Fits.{entry_there}
use Rattle.merge_join.proofs.NewIndex.{new_index_at, import_place}
use Rattle.merge_join.proofs.Sites.{places_length}
use Rattle.merge_join.proofs.maps.imported_map.Goals as goal

pub loop-place-preserved : goal.loop-place-preserved
loop-place-preserved c =
    let ps = named_modules c.args.into.now.parts.now in
    let k = c.args.into.now.space in
    let p = c.args.part in
    let i = c.loop-place.place in
    let m = c.module_of.result.now in
    let imports = c.as_slice-imports.result.now in
    let import = c.index-imports-place.result in
    let at : slice_get imports i ≡ Some import = slice_get_read imports (length imports) i import refl c.loop-place-test.true c.index-imports-place.is in
    let held : has_kind k import ≡ true = ap (has_kind k) c.index-imports-place.is ∙ sym c.is_in.ensures ∙ c.if-not-is_in.false in
    let count = length (places (has_kind k) (take i imports) 0) in
    let more : length (places (has_kind k) (take (i + 1) imports) 0) ≡ count + 1 = places_length (has_kind k) imports import i at ∙ ap (λ (b : Bool). count + cond b 1 0) held in
    let place_is : slice_get (imports_of k m) count ≡ Some i = ap (λ is. slice_get (places (has_kind k) is 0) count) (sym c.as_slice-imports.ensures) ∙ import_place (has_kind k) imports import i at held in
    let z : count ≡ 0 + count = omega arith in
    c.in_ok-keep.ensures.ok ∙ ap (λ x. x ++ c.place_of_end.result ∷ []) c.loop-place.invariant
    ∙ ap (λ x. map (new_index ps p k) (numbers 0 count) ++ x ∷ []) (c.place_of_end.ensures ∙ sym (new_index_at ps p k count i m c.end_of.result c.module_of.ensures.at place_is c.end_of.ensures) ∙ ap (new_index ps p k) z)
    ∙ sym (ap (λ n. map (new_index ps p k) (numbers 0 n)) more ∙ ap (map (new_index ps p k)) (numbers_more 0 count) ∙ map_push (new_index ps p k) (numbers 0 count) (0 + count))

pub loop-place-preserved-then-not-is_in : goal.loop-place-preserved-then-not-is_in
loop-place-preserved-then-not-is_in c =
    let ps = named_modules c.args.into.now.parts.now in
    let k = c.args.into.now.space in
    let i = c.loop-place.place in
    let imports = c.as_slice-imports.result.now in
    let import = c.index-imports-place.result in
    let at : slice_get imports i ≡ Some import = slice_get_read imports (length imports) i import refl c.loop-place-test.true c.index-imports-place.is in
    let missing : has_kind k import ≡ false = ap (has_kind k) c.index-imports-place.is ∙ sym c.is_in.ensures ∙ c.if-not-is_in.true in
    let count = length (places (has_kind k) (take i imports) 0) in
    let same : count ≡ count + 0 = omega arith in
    c.loop-place.invariant ∙ ap (λ n. map (new_index ps c.args.part k) (numbers 0 n)) (same ∙ sym (places_length (has_kind k) imports import i at ∙ ap (λ (b : Bool). count + cond b 1 0) missing))

pub place_of_end-requires : goal.place_of_end-requires
place_of_end-requires c =
    let ps = named_modules c.args.into.now.parts.now in
    let m = c.module_of.result.now in
    let i = c.loop-place.place in
    let imports = c.as_slice-imports.result.now in
    let import = c.index-imports-place.result in
    let here : slice_get m.imports i ≡ Some import = ap (λ is. slice_get is i) (sym c.as_slice-imports.ensures) ∙ slice_get_read imports (length imports) i import refl c.loop-place-test.true c.index-imports-place.is in
    let kind : c.args.into.now.space ≡ space_of_import import.desc = grind (arith, ap (has_kind c.args.into.now.space) c.index-imports-place.is ∙ sym c.is_in.ensures ∙ c.if-not-is_in.false) in
    subst (λ k. EndExists ps k c.end_of.result) (sym kind) (entry_there ps c.args.part i m import c.end_of.result c.requires.linked.no_fault c.module_of.ensures.at here c.end_of.ensures)

pub returns : goal.returns
returns c = λ m at.
    let ps = named_modules c.args.into.now.parts.now in
    let k = c.args.into.now.space in
    let there : Some c.module_of.result.now ≡ Some m = sym c.module_of.ensures.at ∙ at in
    let same : c.module_of.result.now ≡ m = cc in
    c.loop-place.invariant ∙ ap (λ is. map (new_index ps c.args.part k) (numbers 0 (length (places (has_kind k) is 0))))
    (take_all c.loop-place.place c.as_slice-imports.result.now c.loop-place-test.false ∙ c.as_slice-imports.ensures ∙ ap (λ (x : Module). x.imports) same)
