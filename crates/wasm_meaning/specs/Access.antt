-- What loads read and stores write: little-endian numbers of 1, 2, 4 or 8 bytes (WebAssembly Core
-- 2.0, section 4.4.7).
use Rattle.std.specs.Prelude.{ℕ, zero, suc, ◌+◌, ◌*◌, ◌/◌, ◌%◌, List, [], ◌∷◌}
use Rattle.wasm_num.specs.Operations.{Width, W32, W64, extended}
use Rattle.wasm_tree_spec.specs.Prelude.{LoadOp, StoreOp, read_width}
use Rattle.wasm_tree.specs.declared.instr.LoadOp.TheVariants as load
use Rattle.wasm_tree.specs.declared.instr.StoreOp.TheVariants as store

-- The number that the bytes encode, the lowest byte first.
unfoldable pub little : List ℕ → ℕ
little [] = 0
little (b ∷ bs) = b + 256 * little bs

-- The lowest bytes of a number, as many as the first argument says, the lowest first.
unfoldable pub little_bytes : ℕ → ℕ → List ℕ
little_bytes zero n = []
little_bytes (suc count) n = n % 256 ∷ little_bytes count (n / 256)

-- How many bytes a load reads: `read_width`, unfolded only where a proof names it.
unfoldable pub load_width : LoadOp → ℕ
load_width op = read_width op

unfoldable pub load_to : LoadOp → Width
load_to load.I32Load = W32
load_to load.I64Load = W64
load_to load.I32Load8S = W32
load_to load.I32Load8U = W32
load_to load.I32Load16S = W32
load_to load.I32Load16U = W32
load_to load.I64Load8S = W64
load_to load.I64Load8U = W64
load_to load.I64Load16S = W64
load_to load.I64Load16U = W64
load_to load.I64Load32S = W64
load_to load.I64Load32U = W64

-- The number that a load makes of the bytes that it reads.
unfoldable pub loaded : LoadOp → List ℕ → ℕ
unfolding little extended
loaded load.I32Load bytes = little bytes
loaded load.I64Load bytes = little bytes
loaded load.I32Load8S bytes = extended 8 32 (little bytes)
loaded load.I32Load8U bytes = little bytes
loaded load.I32Load16S bytes = extended 16 32 (little bytes)
loaded load.I32Load16U bytes = little bytes
loaded load.I64Load8S bytes = extended 8 64 (little bytes)
loaded load.I64Load8U bytes = little bytes
loaded load.I64Load16S bytes = extended 16 64 (little bytes)
loaded load.I64Load16U bytes = little bytes
loaded load.I64Load32S bytes = extended 32 64 (little bytes)
loaded load.I64Load32U bytes = little bytes

unfoldable pub store_from : StoreOp → Width
store_from store.I32Store = W32
store_from store.I64Store = W64
store_from store.I32Store8 = W32
store_from store.I32Store16 = W32
store_from store.I64Store8 = W64
store_from store.I64Store16 = W64
store_from store.I64Store32 = W64

-- The bytes that a store writes for a number.
unfoldable pub stored : StoreOp → ℕ → List ℕ
unfolding little_bytes
stored store.I32Store n = little_bytes 4 n
stored store.I64Store n = little_bytes 8 n
stored store.I32Store8 n = little_bytes 1 n
stored store.I32Store16 n = little_bytes 2 n
stored store.I64Store8 n = little_bytes 1 n
stored store.I64Store16 n = little_bytes 2 n
stored store.I64Store32 n = little_bytes 4 n
