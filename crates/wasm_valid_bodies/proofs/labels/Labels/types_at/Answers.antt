use Rattle.base_lists.proofs.Common.{◌≡◌, ◌<◌, length, get_or, Some, sym, ap, ◌∙◌, arith, slice_get, slice_get-get_or}
use Rattle.wasm_valid_bodies.proofs.Places.{mapped_at}
use Rattle.wasm_valid_bodies.proofs.labels.Labels.types_at.Goals as goal

pub returns-in-Some : goal.returns-in-Some
returns-in-Some c =
    let items = c.args.self.now.open.items in
    let at = c.in_ok-at.at in
    let types = c.in-Some.types.now in
    let same : c.deref.result.now ≡ items = c.deref.ensures.value in
    let within : at < length items = omega (arith, c.in-Some.ensures.lookup.3.0, ap length same) in
    let found : slice_get items at ≡ Some types = slice_get-get_or items at types within ∙ ap Some (sym (c.in-Some.ensures.lookup.1 ∙ ap (λ zs. get_or zs at types) same)) in
    mapped_at (λ ts. ts.now) items c.args.label at types (omega (arith, c.in_ok-at.ensures, c.in_ok-below.ensures, c.len.ensures, c.deref.ensures.len, ap length same)) found
