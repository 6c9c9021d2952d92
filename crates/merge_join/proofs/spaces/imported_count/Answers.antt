use Rattle.base_lists.proofs.Common.{◌≡◌, ◌∙◌, sym, ap, refl, ◌+◌, Some, cond, Bool, length, slice_get, take, arith, slice_get_read, length-take-le}
use Rattle.wasm_meaning.specs.Prelude.{places, has_kind}
use Rattle.merge_join.proofs.Sites.{places_length, places_short}
use Rattle.merge_join.proofs.spaces.imported_count.Goals as goal
use Rattle.merge_join.proofs.spaces.imported_count.Goals.{then-is_in, else-is_in}

pub loop-import-preserved : goal.loop-import-preserved
loop-import-preserved c =
    let imports = c.args.imports.now in
    let i = c.loop-import.import-index in
    let k = c.args.space in
    let at : slice_get imports i ≡ Some c.import-item.result = slice_get_read imports (length imports) i c.import-item.result refl c.loop-import-test.true c.import-item.is in
    let more = places_length (has_kind k) imports c.import-item.result i at in
    elim c.if-is_in.branch [
      | then-is_in w ↦ w.count-is ∙ ap (λ n. n + 1) c.loop-import.invariant ∙ ap (λ (b : Bool). length (places (has_kind k) (take i imports) 0) + cond b 1 0) (sym w.if-is_in.true ∙ c.is_in.ensures) ∙ sym more
      | else-is_in w ↦
          let same : c.loop-import.count ≡ c.loop-import.count + 0 = omega arith in
          w.count-is ∙ same ∙ ap (λ n. n + 0) c.loop-import.invariant ∙ ap (λ (b : Bool). length (places (has_kind k) (take i imports) 0) + cond b 1 0) (sym w.if-is_in.false ∙ c.is_in.ensures) ∙ sym more
    ]

pub overflow_add-count : goal.overflow_add-count
overflow_add-count c =
    let imports = c.args.imports.now in
    let i = c.loop-import.import-index in
    omega (arith, c.loop-import.invariant, places_short (has_kind c.args.space) (take i imports), length-take-le i imports (omega arith), c.requires)
