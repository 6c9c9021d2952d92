use Rattle.std.proofs.Common.{◌≡◌, Err, arith, [], ◌∷◌, length-append}
use Rattle.wasm_read_spec.specs.Reading.{each_at}
use Rattle.wasm_read_spec.proofs.Loops.{each_more, each_stop}
use Rattle.wasm_read_items.proofs.vectors.read_each.Goals as goal

pub returns-in_err-read-clause-gives : goal.returns-in_err-read-clause-gives
returns-in_err-read-clause-gives g c =
    let gone : c.from_residual.result ≡ Err c.in_err-read.field-0.0 = grind arith in
    let l = c.loop-i in
    rw gone (each_stop (λ s. g.T.Spelled.reading) (λ s x. 0) (each_at g.T.Spelled.reading c.args.count c.args.cursor.now) c.args.count l._i 0 l.items l.cursor c.in_err-read.field-0.0 c.loop-i-test.true c.in_err-read.ensures.gives l.invariant.reads)

pub loop-i-preserved : goal.loop-i-preserved
loop-i-preserved g c =
    let l = c.loop-i in record {
      reads = each_more (λ s. g.T.Spelled.reading) (λ s x. 0) (each_at g.T.Spelled.reading c.args.count c.args.cursor.now) c.args.count l._i 0 l.items c.keep.new.self c.in_ok-read.field-0 l.cursor c.read.new.cursor c.loop-i-test.true c.in_ok-read.ensures.gives c.in_ok-keep.ensures.ok
          l.invariant.reads;
      count = rw (c.in_ok-keep.ensures.ok) (omega (arith, length-append l.items (c.in_ok-read.field-0 ∷ []), l.invariant.count));
      left = omega (arith, c.in_ok-read.ensures.shorter, l.invariant.left);
    }
