-- The limits as numbers: each constant of the program is the number that the specification gives.
use Rattle.std.proofs.Common.{◌≡◌, refl}
use Rattle.wasm_tree.specs.declared.which.Which.TheVariants.{InputBytes, Parts, Types, Imports, Functions, Tables, Memories, Globals, Exports, ElementSegments, DataSegments, Nesting, Locals, Parameters, Results, Trampolines, OutputBytes}
use Rattle.wasm_tree.specs.Limits.{limit}

pub input_bytes : limit InputBytes ≡ 16777216
input_bytes = refl

pub parts : limit Parts ≡ 1000
parts = refl

pub types : limit Types ≡ 1000000
types = refl

pub imports : limit Imports ≡ 1000000
imports = refl

pub functions : limit Functions ≡ 1000000
functions = refl

pub tables : limit Tables ≡ 10000
tables = refl

pub memories : limit Memories ≡ 10000
memories = refl

pub globals : limit Globals ≡ 1000000
globals = refl

pub exports : limit Exports ≡ 1000000
exports = refl

pub element_segments : limit ElementSegments ≡ 300000
element_segments = refl

pub data_segments : limit DataSegments ≡ 300000
data_segments = refl

pub nesting : limit Nesting ≡ 1000
nesting = refl

pub locals : limit Locals ≡ 50000
locals = refl

pub parameters : limit Parameters ≡ 1000
parameters = refl

pub results : limit Results ≡ 1000
results = refl

pub trampolines : limit Trampolines ≡ 4000000
trampolines = refl

pub output_bytes : limit OutputBytes ≡ 268435456
output_bytes = refl
