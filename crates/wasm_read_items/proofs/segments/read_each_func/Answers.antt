use Rattle.std.proofs.Common.{◌≡◌, Err, arith}
use Rattle.wasm_read_spec.specs.Reading.{each_at, func_item_at}
use Rattle.wasm_read_spec.proofs.Loops.{each_more, each_stop}
use Rattle.wasm_read_items.proofs.segments.read_each_func.Goals as goal

pub returns-in_err-read_func_item-clause-gives : goal.returns-in_err-read_func_item-clause-gives
returns-in_err-read_func_item-clause-gives c =
    let gone : c.from_residual.result ≡ Err c.in_err-read_func_item.field-0.0 = grind arith in
    let l = c.loop-i in
    rw gone (each_stop (λ s. func_item_at) (λ s x. 0) (each_at func_item_at c.args.count c.args.cursor.now) c.args.count l._i 0 l.items l.cursor c.in_err-read_func_item.field-0.0 c.loop-i-test.true c.in_err-read_func_item.ensures.gives l.invariant.reads)

pub loop-i-preserved : goal.loop-i-preserved
loop-i-preserved c =
    let l = c.loop-i in record {
      reads = each_more (λ s. func_item_at) (λ s x. 0) (each_at func_item_at c.args.count c.args.cursor.now) c.args.count l._i 0 l.items c.keep.new.self c.in_ok-read_func_item.field-0 l.cursor c.read_func_item.new.cursor c.loop-i-test.true c.in_ok-read_func_item.ensures.gives
          c.in_ok-keep.ensures.ok l.invariant.reads;
      left = omega (arith, c.in_ok-read_func_item.ensures.shorter, l.invariant.left);
    }
