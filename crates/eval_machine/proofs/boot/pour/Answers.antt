use Rattle.base_lists.proofs.Common.{◌≡◌, ◌+◌, ◌≤◌, ◌<◌, false, length, arith, refl, to_z, of_z, w32, ints}
use Rattle.wasm_tree_spec.specs.Prelude.{imported_memories}
use Rattle.wasm_num.specs.Operations.{wrapped}
use Rattle.block_pool.specs.Pages.{size}
use Rattle.eval_spec.specs.Prelude.{reads_global}
use Rattle.eval_machine.specs.Prelude.{HoldsMost}
use Rattle.eval_machine.proofs.ActiveData.{fits_most, fits_still, goes, no_memory, past_the_end, too_many}
use Rattle.eval_machine.proofs.boot.pour.Goals as goal

pub returns-in_default-clause-pours : goal.returns-in_default-clause-pours
returns-in_default-clause-pours c =
    let known : reads_global c.args.offset ≡ false = rw c.in-I32.is refl in
    rw c.in_default.is (no_memory c.args.input.now c.args.index c.args.offset (length c.args.bytes.now) (omega (arith, c.if-index-imported.false, c.requires.counted)) known)

pub returns-then-from-bytes-clause-pours : goal.returns-then-from-bytes-clause-pours
returns-then-from-bytes-clause-pours c =
    let same : to_z w32 (of_z w32 c.in-I32.place) ≡ c.in-I32.place = omega (arith, ints) in
    let is : c.args.index ≡ length (imported_memories c.args.input.now.imports) = omega (arith, c.if-index-imported-2.false, c.requires.counted) in
    let past : size c.in-Some.paged < c.unsigned-place.result + length c.args.bytes.now = omega (arith, c.if-from-bytes.true, c.from.ensures, c.size.ensures) in
    rw (c.in-I32.is, c.in-Some.is) (past_the_end c.args.input.now c.in-Some.paged c.args.index c.in-I32.place c.unsigned-place.result (length c.args.bytes.now) (rw same at c.unsigned-place.ensures) is past)

pub returns-in-Ok-clause-pours : goal.returns-in-Ok-clause-pours
returns-in-Ok-clause-pours c =
    let same : to_z w32 (of_z w32 c.in-I32.place) ≡ c.in-I32.place = omega (arith, ints) in
    let at : c.unsigned-place.result ≡ wrapped 32 c.in-I32.place = rw same at c.unsigned-place.ensures in
    let is : c.args.index ≡ length (imported_memories c.args.input.now.imports) = omega (arith, c.if-index-imported-2.false, c.requires.counted) in
    let fits : c.unsigned-place.result + length c.args.bytes.now ≤ size c.in-Some.paged = omega (arith, c.if-from-bytes.false, c.from.ensures, c.size.ensures) in
    let most : HoldsMost c.in-Some.paged = fits_most c.args.input.now.mems c.in-Some.paged (rw c.in-Some.is at c.requires.fits) in
    rw (c.in-I32.is, c.in-Some.is) (
      goes c.args.input.now c.in-Some.paged c.args.index c.in-I32.place c.unsigned-place.result (length c.args.bytes.now) at is most fits (λ q. absurd (let k = c.in-Ok.ensures.full.1 (rw c.from-2.ensures q) in cc)),
      rw (← at, ← c.from-2.ensures) c.in-Ok.ensures.ok,
    )

pub returns-in-Ok-clause-fits : goal.returns-in-Ok-clause-fits
returns-in-Ok-clause-fits c = fits_still c.args.input.now.mems c.in-Some.paged c.write.new.self c.from-2.result c.args.bytes.now c.in-Ok.ensures.ok (rw c.in-Some.is at c.requires.fits)

pub returns-in-Err-clause-pours : goal.returns-in-Err-clause-pours
returns-in-Err-clause-pours c =
    let same : to_z w32 (of_z w32 c.in-I32.place) ≡ c.in-I32.place = omega (arith, ints) in
    let at : c.unsigned-place.result ≡ wrapped 32 c.in-I32.place = rw same at c.unsigned-place.ensures in
    let is : c.args.index ≡ length (imported_memories c.args.input.now.imports) = omega (arith, c.if-index-imported-2.false, c.requires.counted) in
    let fits : c.unsigned-place.result + length c.args.bytes.now ≤ size c.in-Some.paged = omega (arith, c.if-from-bytes.false, c.from.ensures, c.size.ensures) in
    let most : HoldsMost c.in-Some.paged = fits_most c.args.input.now.mems c.in-Some.paged (rw c.in-Some.is at c.requires.fits) in
    rw (c.in-I32.is, c.in-Some.is)
    (too_many c.args.input.now c.in-Some.paged c.args.index c.in-I32.place c.unsigned-place.result (length c.args.bytes.now) at is most fits (rw c.from-2.ensures at (c.in-Err.ensures.full.0 refl)))
