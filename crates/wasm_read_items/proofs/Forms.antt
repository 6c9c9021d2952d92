-- The opcodes of instructions on variables and items of tables are no operation, load or store.
use Rattle.std.proofs.Common.{◌≡◌, ℕ, zero, suc, ◌+◌, ◌-◌, ◌≤◌, Bool, List, Ok, refl, ap, subst, arith}
use Rattle.wasm_read_spec.specs.Operations.{un_of, bin_of, load_of, store_of}
use Rattle.wasm_read_spec.specs.Reading.{byte_at}
use Rattle.wasm_read_spec.specs.Tokens.{the_form, rest_form}
use Rattle.wasm_read_spec.specs.BodyReading.{token_of, token_at}

from_local_get : (n : ℕ) → n ≤ 6 → the_form (n + 0x20) ≡ rest_form (n + 0x20)
unfolding the_form un_of bin_of load_of store_of
from_local_get zero h = refl
from_local_get (suc zero) h = refl
from_local_get (suc (suc zero)) h = refl
from_local_get (suc (suc (suc zero))) h = refl
from_local_get (suc (suc (suc (suc zero)))) h = refl
from_local_get (suc (suc (suc (suc (suc zero))))) h = refl
from_local_get (suc (suc (suc (suc (suc (suc zero)))))) h = refl
from_local_get (suc (suc (suc (suc (suc (suc (suc n))))))) h = absurd (omega arith)

pub variable_form : (b : ℕ) → 0x20 ≤ b → b ≤ 0x26 → the_form b ≡ rest_form b
variable_form b least most = let same : (b - 0x20) + 0x20 ≡ b = omega arith in subst (λ m. the_form m ≡ rest_form m) same (from_local_get (b - 0x20) (omega arith))

-- A token that begins with such an opcode is read by the form of this opcode.
pub variable_token : (many : Bool) (bs rest : List ℕ) (b : ℕ) → 0x20 ≤ b → b ≤ 0x26 → byte_at bs ≡ Ok (b, rest) → token_at many bs ≡ token_of many (rest_form b) rest
unfolding token_at
variable_token many bs rest b least most e = rw e (ap (λ f. token_of many f rest) (variable_form b least most))
