use Rattle.base_lists.proofs.Common.{◌≡◌, Err, refl, arith, sym, to_z, of_z, w32, w64, ints}
use Rattle.wasm_bytes.specs.Prelude.{last_signed, join_signed}
use Rattle.wasm_bytes.specs.Reading.{signed_at}
use Rattle.wasm_bytes.proofs.NumberLaws.{read_of, signed_ends}
use Rattle.wasm_bytes.proofs.cursor.Cursor.s32.Goals as goal

pub returns-in_err-value-clause-read : goal.returns-in_err-value-clause-read
unfolding signed_at
returns-in_err-value-clause-read c =
    let gone : c.from_residual.result ≡ Err c.in_err-value.field-0.0 = grind arith in
    rw (gone, ← c.self.view_is) (read_of last_signed join_signed signed_ends 32 _ _ _ _ (omega arith) c.signed.ensures.bytes (sym c.in_err-value.ensures.reads) (refl, refl))

pub returns-clause-read : goal.returns-clause-read
unfolding signed_at
returns-clause-read c =
    let low = c.in_ok-value.ensures.fits.0 in
    let high = c.in_ok-value.ensures.fits.1 in
    let same : to_z w32 (of_z w32 (to_z w64 (of_z w64 c.in_ok-value.value))) ≡ c.in_ok-value.value = omega (arith, ints) in
    rw (same, ← c.self.view_is) (read_of last_signed join_signed signed_ends 32 _ _ _ _ (omega arith) c.signed.ensures.bytes (sym c.in_ok-value.ensures.reads) (refl, refl))
