use Rattle.std.proofs.Common.{◌≡◌, Err, arith}
use Rattle.wasm_read_spec.specs.Reading.{each_from, local_at, with_group}
use Rattle.wasm_read_spec.proofs.Loops.{each_more, each_stop}
use Rattle.wasm_read_items.proofs.entry.read_groups.Goals as goal

pub returns-in_err-group-clause-gives : goal.returns-in_err-group-clause-gives
returns-in_err-group-clause-gives c =
    let gone : c.from_residual.result ≡ Err c.in_err-group.field-0.0 = grind arith in
    let l = c.loop-i in
    rw gone (each_stop local_at with_group (each_from local_at with_group c.args.count 0 c.args.cursor.now) c.args.count l._i l.sum l.groups l.cursor c.in_err-group.field-0.0 c.loop-i-test.true c.in_err-group.ensures.gives l.invariant.reads)

pub loop-i-preserved : goal.loop-i-preserved
loop-i-preserved c =
    let l = c.loop-i in record {
      reads = each_more local_at with_group (each_from local_at with_group c.args.count 0 c.args.cursor.now) c.args.count l._i l.sum l.groups c.keep.new.self c.in_ok-group.group l.cursor c.read_group.new.cursor c.loop-i-test.true c.in_ok-group.ensures.gives c.in_ok-keep.ensures.ok l.invariant.reads;
      left = omega (arith, c.in_ok-group.ensures.shorter, l.invariant.left);
      few = c.in_ok-group.ensures.few;
    }
