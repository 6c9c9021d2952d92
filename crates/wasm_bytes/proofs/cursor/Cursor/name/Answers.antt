use Rattle.std.proofs.Common.{refl}
use Rattle.wasm_bytes.proofs.NameLaws.{name_read}
use Rattle.wasm_bytes.proofs.cursor.Cursor.name.Goals as goal

pub returns-in-Ok-clause-read : goal.returns-in-Ok-clause-read
returns-in-Ok-clause-read c = rw (← c.self.view_is) (name_read _ _ _ _ c.named.ensures.bytes c.in-Ok.ensures.gives (refl, refl))

pub returns-in-Err-clause-read : goal.returns-in-Err-clause-read
returns-in-Err-clause-read c = rw (← c.self.view_is) (name_read _ _ _ _ c.named.ensures.bytes c.in-Err.ensures.gives (refl, refl))
