use Rattle.base_lists.proofs.Common.{◌≡◌, ◌∙◌, sym, ap, ◌+◌, ◌<◌, ◌++◌, ◌∷◌, [], length, map, cond, Some, None, Bool, arith, map_push}
use Rattle.wasm_tree_spec.specs.Prelude.{Module}
use Rattle.wasm_meaning.specs.Prelude.{sites_in}
use Rattle.merge_spec.specs.Prelude.{named_modules}
use Rattle.merge_join.specs.LinkedParts.{site}
use Rattle.merge_join.specs.Spaces.{staying_place, picked, count_before}
use Rattle.merge_join.proofs.Counts.{count_more, count_part, count_few, staying_few}
use Rattle.merge_join.proofs.Sites.{sites_in_more, staying_place_is}
use Rattle.merge_join.proofs.spaces.staying_in.Goals as goal

pub next_place-requires : goal.next_place-requires
next_place-requires c =
    let ps = named_modules c.args.parts.now in
    let k = c.args.space in
    let p = c.args.part in
    let n = c.loop-import.import in
    let m = c.module_of.result.now in
    let taken = ap (λ (b : Bool). c.loop-import.count + cond b 1 0) c.is_picked-taken.ensures in
    omega (arith, taken, c.loop-import.invariant.count_is, count_few ps k p n m c.module_of.ensures.at (omega (arith, c.len-import-end.ensures)), staying_few ps k, c.requires.linked.few.entries k)

pub loop-import-preserved : goal.loop-import-preserved
loop-import-preserved c =
    let ps = named_modules c.args.parts.now in
    let k = c.args.space in
    let p = c.args.part in
    let n = c.loop-import.import in
    let m = c.module_of.result.now in
    let i = c.loop-import.invariant in
    let within : n < length m.imports = omega (arith, c.len-import-end.ensures) in
    record {
      row_is = c.in_ok-keep.ensures.ok ∙ ap (λ r. r ++ c.next_place.result ∷ []) i.row_is
          ∙ ap (λ e. map (staying_place ps k) (sites_in p n 0) ++ e ∷ []) (c.next_place.ensures.place ∙ ap (λ (b : Bool). cond b (Some c.loop-import.count) None) c.is_picked-taken.ensures ∙ ap (λ x. cond (picked ps k (site p n)) (Some x) None) i.count_is ∙
          sym (staying_place_is ps k p n m c.module_of.ensures.at within))
          ∙ sym (ap (map (staying_place ps k)) (sites_in_more p n) ∙ map_push (staying_place ps k) (sites_in p n 0) (site p n));
      count_is = c.next_place.ensures.count ∙ ap (λ (b : Bool). c.loop-import.count + cond b 1 0) c.is_picked-taken.ensures ∙ ap (λ x. x + cond (picked ps k (site p n)) 1 0) i.count_is ∙ sym (count_more ps k p n);
    }

pub returns-clause-count : goal.returns-clause-count
returns-clause-count c =
    let ps = named_modules c.args.parts.now in
    let k = c.args.space in
    let m = c.module_of.result.now in
    let end : c.loop-import.import ≡ length m.imports = omega (arith, c.len-import-end.ensures) in
    c.loop-import.invariant.count_is ∙ ap (count_before ps k c.args.part) end ∙ count_part ps k c.args.part m c.module_of.ensures.at

pub returns-clause-row : goal.returns-clause-row
returns-clause-row c = λ m at.
    let ps = named_modules c.args.parts.now in
    let k = c.args.space in
    let there : Some c.module_of.result.now ≡ Some m = sym c.module_of.ensures.at ∙ at in
    let same : c.module_of.result.now ≡ m = cc in
    let end : c.loop-import.import ≡ length m.imports = omega (arith, c.len-import-end.ensures, ap (λ (x : Module). length x.imports) same) in
    c.loop-import.invariant.row_is ∙ ap (λ n. map (staying_place ps k) (sites_in c.args.part n 0)) end
