use Rattle.base_lists.proofs.Common.{◌≡◌, ◌∙◌, ◌∷◌, ◌-◌, ◌<◌, ap, List, ℕ, Some, Bool, cond, drop, length, get_or, arith, get_by, nat_cmp, ordering_then, slice_cmp, get_or_default, slice_get-get_or}
use Rattle.base_lists.proofs.Walk.{left_back}
use Rattle.wasm_meaning.specs.Linking as linking
use Rattle.merge_link.specs.declared.sites.Site.{Site}
use Rattle.merge_link.specs.declared.part_tables.Ending.{Ending}
use Rattle.merge_link.specs.declared.part_tables.Ending.TheVariants.{Defined}
use Rattle.wasm_tree.specs.declared.module.ExportDesc.TheVariants.{Func}
use Rattle.merge_link.specs.Prelude.{the_end}
use Rattle.merge_link.proofs.Found.{there_at, known_at, known_size}
use Rattle.merge_link.proofs.Gathers.{firsts_new, firsts_same, pair_tested, passed, taken}
use Rattle.merge_link.proofs.part_tables.PartTables.first_memories.Goals as goal

pub staying_memory-requires : goal.staying_memory-requires
staying_memory-requires c =
    let d : Site = record { part = 0; import = 0 } in
    record { there = there_at c.args.self.now.parts.now c.args.sites.now (c.loop-at.at - 1) (get_or c.args.sites.now (c.loop-at.at - 1) d) c.requires.sites (slice_get-get_or c.args.sites.now (c.loop-at.at - 1) d (omega arith)) }

pub loop-at-preserved-in-None : goal.loop-at-preserved-in-None
loop-at-preserved-in-None c = λ a b.
    let ps = c.args.self.now.parts.now in
    let sites = c.args.sites.now in
    let n = c.loop-at.at - 1 in
    let d : Site = record { part = 0; import = 0 } in
    let e : Ending = Defined (record { part = 0; what = Func 0 }) in
    let within : n < length sites = omega arith in
    let back : drop n sites ≡ get_or sites n d ∷ drop c.loop-at.at sites = left_back sites c.loop-at.at (get_or sites n d) (omega arith) (omega arith) (get_or_default sites n d (get_or sites n d) within) in
    let end = known_at ps sites c.args.ends.now n (get_or sites n d) (get_or c.args.ends.now n e) c.requires.ends (slice_get-get_or sites n d within) (slice_get-get_or c.args.ends.now n e (omega (arith, known_size ps sites c.args.ends.now c.requires.ends))) in
    firsts_same ps (a, b) sites c.loop-at.at (get_or sites n d) _ back (passed ps (a, b) (get_or sites n d) (the_end (get_or c.args.ends.now n e)) end c.in-None.ensures) (c.loop-at.invariant a b)

pub loop-at-preserved : goal.loop-at-preserved
loop-at-preserved c = λ a b.
    let ps = c.args.self.now.parts.now in
    let sites = c.args.sites.now in
    let n = c.loop-at.at - 1 in
    let i = c.in-Some.import.now in
    let d : Site = record { part = 0; import = 0 } in
    let e : Ending = Defined (record { part = 0; what = Func 0 }) in
    let within : n < length sites = omega arith in
    let back : drop n sites ≡ get_or sites n d ∷ drop c.loop-at.at sites = left_back sites c.loop-at.at (get_or sites n d) (omega arith) (omega arith) (get_or_default sites n d (get_or sites n d) within) in
    let end = known_at ps sites c.args.ends.now n (get_or sites n d) (get_or c.args.ends.now n e) c.requires.ends (slice_get-get_or sites n d within) (slice_get-get_or c.args.ends.now n e (omega (arith, known_size ps sites c.args.ends.now c.requires.ends))) in
    let is = taken ps (a, b) (get_or sites n d) (the_end (get_or c.args.ends.now n e)) i end c.in-Some.ensures.0 c.in-Some.ensures.1 c.in-Some.ensures.2 in
    let test : linking.same_pair (a, b) (c.as_str.result.now, c.as_str-in-Some.result.now) ≡ linking.same_pair (a, b) (linking.pair_of i) =
    ap (λ (x : List ℕ). linking.same_pair (a, b) (x, c.as_str-in-Some.result.now)) c.as_str.ensures.text ∙ ap (λ (x : List ℕ). linking.same_pair (a, b) (i.«module», x)) c.as_str-in-Some.ensures.text in
    let new = c.in_ok-insert-in-Some.ensures.updates.0 (record { ref_ptr = (0, 0); now = a }, record { ref_ptr = (0, 0); now = b }) in
    let tested = pair_tested c.as_str.result.now c.as_str-in-Some.result.now a b ∙ test in
    firsts_new ps (a, b) sites c.loop-at.at (get_or sites n d) (linking.same_pair (a, b) (linking.pair_of i)) _ _ back is
    (new ∙ ap (λ (x : Bool). cond x (Some (get_or sites n d)) (get_by (λ k. ordering_then (slice_cmp nat_cmp a k.0.now) (slice_cmp nat_cmp b k.1.now)) c.loop-at.firsts)) tested)
    (c.loop-at.invariant a b)
