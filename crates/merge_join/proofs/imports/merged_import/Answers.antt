use Rattle.base_lists.proofs.Common.{ap, ◌<◌, length, arith}
use Rattle.wasm_tree_spec.specs.Prelude.{Module}
use Rattle.merge_spec.specs.Prelude.{named_modules}
use Rattle.merge_join.specs.LinkedParts.{site}
use Rattle.merge_join.proofs.PartMaps.{same_module}
use Rattle.merge_join.proofs.Holding.{import_fits}
use Rattle.merge_join.proofs.Staying.{import_made}
use Rattle.merge_join.proofs.imports.merged_import.Goals as goal

pub merged_desc-requires : goal.merged_desc-requires
merged_desc-requires c =
    let ps = named_modules c.args.joining.now.parts.now in
    let m = c.module_of.result.now in
    let lt : c.args.place < length c.as_slice.result.now = let s = ap (λ (m : Module). length m.imports) (same_module ps c.args.part m c.requires.there.0 c.module_of.ensures.at c.requires.there.1) in let e = ap length c.as_slice.ensures in let l = c.requires.there.2 in omega (arith, s, e, l) in
    record { fits = import_fits c.map.result.now m c.as_slice.result.now c.args.place c.index-as_slice-place.result (c.map.ensures.fits m c.module_of.ensures.at) c.as_slice.ensures lt c.index-as_slice-place.is }

pub returns : goal.returns
returns c =
    let ps = named_modules c.args.joining.now.parts.now in
    let m = c.module_of.result.now in
    let lt : c.args.place < length c.as_slice.result.now = let s = ap (λ (m : Module). length m.imports) (same_module ps c.args.part m c.requires.there.0 c.module_of.ensures.at c.requires.there.1) in let e = ap length c.as_slice.ensures in let l = c.requires.there.2 in omega (arith, s, e, l) in
    import_made ps (site c.args.part c.args.place) m c.map.result.now c.limits_of-kept.result c.as_slice.result.now c.index-as_slice-place.result _ _ _ c.requires.stays c.module_of.ensures.at c.as_slice.ensures lt c.index-as_slice-place.is
    (c.map.ensures.is m c.module_of.ensures.at) c.limits_of-kept.ensures c.in_ok-copy.ensures c.in_ok-copy-2.ensures c.merged_desc.ensures
