use Rattle.std.proofs.Common.{◌≡◌, ◌≤◌, ◌-◌, ◌∷◌, length, drop, refl, sym, ◌∙◌, arith}
use Rattle.wasm_bytes.proofs.Places.{good_frame, IsPlace, rest_of, first_of, sized_fails}
use Rattle.wasm_bytes.proofs.framing.read_frame.Goals as goal

pub returns-in_default-read_sized-clause-gives : goal.returns-in_default-read_sized-clause-gives
returns-in_default-read_sized-clause-gives c =
    let whole : drop c.args.at c.args.bytes.now ≡ c.in-Ok.id ∷ c.byte.new.self = sym (rest_of c.args.at c.args.bytes.now) ∙ sym c.new-cursor.ensures ∙ first_of _ _ _ c.in-Ok.ensures.gives in
    λ n. sized_fails _ c.args.last c.in-Ok.id n c.byte.new.self _ whole (sym c.if-not-follows.ensures.value) c.in_default-read_sized.ensures.err

place : (c : goal.After-left) → (length c.read_sized.new.cursor ≤ length c.args.bytes.now) × (length c.in-Ok-read_sized.content.now ≤ length c.args.bytes.now - length c.read_sized.new.cursor)
    × IsPlace c.args.bytes.now c.args.last c.args.at c.in-Ok.id (length c.args.bytes.now - length c.read_sized.new.cursor - length c.in-Ok-read_sized.content.now) (length c.in-Ok-read_sized.content.now)
place c =
    let whole : drop c.args.at c.args.bytes.now ≡ c.in-Ok.id ∷ c.byte.new.self = sym (rest_of c.args.at c.args.bytes.now) ∙ sym c.new-cursor.ensures ∙ first_of _ _ _ c.in-Ok.ensures.gives in
    good_frame c.args.bytes.now c.args.last c.args.at c.in-Ok.id c.byte.new.self c.in-Ok-read_sized.content.now c.read_sized.new.cursor (λ i. omega (arith, c.type_inv.bytes i)) c.requires whole (sym c.if-not-follows.ensures.value) c.in-Ok-read_sized.ensures.gives

pub overflow_sub-start : goal.overflow_sub-start
overflow_sub-start c = let p = place c in omega (arith, p.0, c.left.ensures)

pub overflow_sub-start-2 : goal.overflow_sub-start-2
overflow_sub-start-2 c = let p = place c in omega (arith, p.0, p.1, c.left.ensures)

pub returns-clause-gives : goal.returns-clause-gives
returns-clause-gives c = rw c.left.ensures (place c).2.gives

pub returns-clause-inside : goal.returns-clause-inside
returns-clause-inside c = let p = (place c).2 in rw c.left.ensures (p.further, p.inside, c.if-not-follows.ensures.known refl)

pub returns-clause-stands : goal.returns-clause-stands
returns-clause-stands c = rw c.left.ensures (place c).2.stands
