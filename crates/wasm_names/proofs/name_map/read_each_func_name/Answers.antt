use Rattle.std.proofs.Common.{◌≡◌, Err, arith}
use Rattle.wasm_read_spec.proofs.Loops.{each_more, each_stop}
use Rattle.wasm_names.specs.Reading.{func_name_at, least_after}
use Rattle.wasm_names.proofs.name_map.read_each_func_name.Goals as goal

pub returns-in_err-name : goal.returns-in_err-name
returns-in_err-name c =
    let gone : c.from_residual.result ≡ Err c.in_err-name.field-0.0 = grind arith in
    let l = c.loop-i in
    record { gives = rw gone (each_stop func_name_at least_after _ c.args.count l._i l.least l.names l.cursor _ c.loop-i-test.true c.in_err-name.ensures.gives l.invariant) }

pub loop-i-preserved : goal.loop-i-preserved
loop-i-preserved c =
    let l = c.loop-i in
    rw c.from-least.ensures (each_more func_name_at least_after _ c.args.count l._i l.least l.names c.keep.new.self c.in_ok-name.name l.cursor c.read_func_name.new.cursor c.loop-i-test.true c.in_ok-name.ensures.gives c.in_ok-keep.ensures.ok l.invariant)
