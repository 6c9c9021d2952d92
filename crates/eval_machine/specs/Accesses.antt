-- The numbers that loads give, and the bytes of data segments.
use Rattle.std.specs.Prelude.{ℕ, List, Option, Some, slice_get}
use Rattle.wasm_num.specs.Operations.{Width, extended}
use Rattle.wasm_tree_spec.specs.Prelude.{LoadOp}
use Rattle.wasm_tree.specs.declared.instr.LoadOp.TheVariants as load
use Rattle.base_lists.specs.Options.{◌>>=◌}
use Rattle.wasm_meaning.specs.Prelude.{Val, Num, Data, load_to}

-- The number that a load gives: sign-extended if the load has a sign.
abbrev pub extended_by : LoadOp → ℕ → ℕ
extended_by load.I32Load8S n = extended 8 32 n
extended_by load.I32Load16S n = extended 16 32 n
extended_by load.I64Load8S n = extended 8 64 n
extended_by load.I64Load16S n = extended 16 64 n
extended_by load.I64Load32S n = extended 32 64 n
extended_by _ n = n

abbrev pub val_at : Width → ℕ → Val
val_at w n = Num w n

abbrev pub loaded_from : LoadOp → ℕ → Val
loaded_from op n = Num (load_to op) (extended_by op n)

-- The bytes of a data segment, if the segment exists.
abbrev pub bytes_in : List Data → (segment : ℕ) → Option (List ℕ)
bytes_in datas segment = slice_get datas segment >>= λ d. Some d.bytes
