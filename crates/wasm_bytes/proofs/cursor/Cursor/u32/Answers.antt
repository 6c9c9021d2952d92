use Rattle.std.proofs.Common.{◌≡◌, Err, refl, arith, sym}
use Rattle.wasm_bytes.specs.Numbers.{last_unsigned, join_unsigned}
use Rattle.wasm_bytes.specs.Reading.{unsigned_at}
use Rattle.wasm_bytes.proofs.NumberLaws.{read_of, unsigned_ends}
use Rattle.wasm_bytes.proofs.cursor.Cursor.u32.Goals as goal

pub returns-in_err-value-clause-read : goal.returns-in_err-value-clause-read
unfolding unsigned_at
returns-in_err-value-clause-read c =
    let gone : c.from_residual.result ≡ Err c.in_err-value.field-0.0 = grind arith in
    rw (gone, ← c.self.view_is) (read_of last_unsigned join_unsigned unsigned_ends 32 _ _ _ _ (omega arith) c.unsigned.ensures.bytes (sym c.in_err-value.ensures.reads) (refl, refl))

pub returns-clause-read : goal.returns-clause-read
unfolding unsigned_at
returns-clause-read c =
    rw (← c.self.view_is) (read_of last_unsigned join_unsigned unsigned_ends 32 _ _ _ _ (omega arith) c.unsigned.ensures.bytes (sym c.in_ok-value.ensures.reads) (refl, refl))
