use Rattle.std.proofs.Common.{◌≡◌, Err, arith}
use Rattle.wasm_read.proofs.Steps.{contents_more, contents_stop, contents_end}
use Rattle.wasm_read.proofs.file.read_contents.Goals as goal

pub returns-in_err-read_section-clause-gives : goal.returns-in_err-read_section-clause-gives
returns-in_err-read_section-clause-gives c =
    let gone : c.from_residual.result ≡ Err c.in_err-read_section.field-0.0 = grind arith in
    let l = c.loop-frame in
    rw gone (contents_stop c.args.many c.args.bytes.now c.args.all.now _ l.frame-index l.section _ l.found.parts _ c.loop-frame-test.true l.invariant.number (rw c.content_of-content.ensures at c.in_err-read_section.ensures.gives) l.invariant.goes_on)

pub loop-frame-preserved : goal.loop-frame-preserved
loop-frame-preserved c =
    let l = c.loop-frame in record {
      goes_on = contents_more c.args.many c.args.bytes.now c.args.all.now _ l.frame-index l.section _ l.found.parts c.read_section.new.found.parts c.loop-frame-test.true l.invariant.number (rw c.content_of-content.ensures at c.in_ok-read_section.ensures.gives) l.invariant.goes_on;
      number = omega (arith, l.invariant.number);
      few = c.in_ok-read_section.ensures.few;
      uses = c.in_ok-read_section.ensures.uses;
    }

pub returns-clause-gives : goal.returns-clause-gives
returns-clause-gives c = let l = c.loop-frame in contents_end c.args.many c.args.bytes.now c.args.all.now _ l.frame-index l.found.parts c.loop-frame-test.false l.invariant.goes_on
