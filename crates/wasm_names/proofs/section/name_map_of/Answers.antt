use Rattle.std.proofs.Common.{◌≡◌, Err, sym, ◌∙◌, arith}
use Rattle.wasm_names.specs.Reading.{lent_option}
use Rattle.wasm_names.proofs.Subsections.{ends, goes_on, stops, twice, other_kind, first_map, second_map}
use Rattle.wasm_names.proofs.section.name_map_of.Goals as goal

pub returns-in_err-part : goal.returns-in_err-part
returns-in_err-part c =
    let gone : c.from_residual.result ≡ Err c.in_err-part.field-0.0 = grind arith in
    record { gives = rw gone (stops c.args.content.now (lent_option c.loop-id.found) c.loop-id.cursor c.byte.new.self c.in-Ok.id _ c.in-Ok.ensures.gives c.in_err-part.ensures.gives c.loop-id.invariant) }

pub returns-then-is_some : goal.returns-then-is_some
returns-then-is_some c = record {
  gives = twice c.args.content.now (lent_option c.loop-id.found) c.loop-id.cursor c.byte.new.self c.in_ok-part.part.now _ c.in-Ok.id c.in-Ok.ensures.gives c.in_ok-part.ensures.gives
      (second_map c.loop-id.found c.in-Ok.id c.in_ok-part.part.now c.if-id-eq-FUNCTION_NAMES.true (sym c.is_some.ensures ∙ c.if-is_some.true)) c.loop-id.invariant;
}

pub loop-id-preserved-then-id-eq-FUNCTION_NAMES : goal.loop-id-preserved-then-id-eq-FUNCTION_NAMES
loop-id-preserved-then-id-eq-FUNCTION_NAMES c = goes_on c.args.content.now (lent_option c.loop-id.found) _ c.loop-id.cursor c.byte.new.self c.in_ok-part.part.now _ c.in-Ok.id c.in-Ok.ensures.gives c.in_ok-part.ensures.gives (omega (arith, c.in_ok-part.ensures.shorter))
    (first_map c.loop-id.found c.in-Ok.id c.in_ok-part.part.now c.if-id-eq-FUNCTION_NAMES.true (sym c.is_some.ensures ∙ c.if-is_some.false)) c.loop-id.invariant

pub loop-id-preserved : goal.loop-id-preserved
loop-id-preserved c = goes_on c.args.content.now (lent_option c.loop-id.found) _ c.loop-id.cursor c.byte.new.self c.in_ok-part.part.now _ c.in-Ok.id c.in-Ok.ensures.gives c.in_ok-part.ensures.gives (omega (arith, c.in_ok-part.ensures.shorter))
    (other_kind (lent_option c.loop-id.found) c.in-Ok.id c.in_ok-part.part.now c.if-id-eq-FUNCTION_NAMES.false) c.loop-id.invariant

pub returns : goal.returns
returns c = record { gives = ends c.args.content.now (lent_option c.loop-id.found) c.loop-id.cursor (c.in_default.ensures.short.0 c.in_default.ensures.err.0) c.loop-id.invariant }
