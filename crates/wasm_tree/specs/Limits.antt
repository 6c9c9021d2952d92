-- The limit of each quantity: one table, with the program's own constants. proofs/LimitRows has
-- them as numbers.
use Rattle.std.specs.Prelude.{ℕ}
use Rattle.wasm_tree.specs.declared.which.Which.{Which}
use Rattle.wasm_tree.specs.declared.which.Which.TheVariants.{InputBytes, Parts, Types, Imports, Functions, Tables, Memories, Globals, Exports, ElementSegments, DataSegments, Nesting, Locals}
use Rattle.wasm_tree.specs.declared.which.Which.TheVariants.{Parameters, Results, Trampolines, OutputBytes}
use Rattle.wasm_tree.specs.declared.which.TheConstants.{MOST_INPUT_BYTES, MOST_PARTS, MOST_TYPES, MOST_IMPORTS, MOST_FUNCTIONS, MOST_TABLES, MOST_MEMORIES, MOST_GLOBALS, MOST_EXPORTS}
use Rattle.wasm_tree.specs.declared.which.TheConstants.{MOST_ELEMENT_SEGMENTS, MOST_DATA_SEGMENTS, MOST_NESTING, MOST_LOCALS, MOST_PARAMETERS, MOST_RESULTS, MOST_TRAMPOLINES, MOST_OUTPUT_BYTES}

abbrev pub limit : Which → ℕ
limit InputBytes = MOST_INPUT_BYTES
limit Parts = MOST_PARTS
limit Types = MOST_TYPES
limit Imports = MOST_IMPORTS
limit Functions = MOST_FUNCTIONS
limit Tables = MOST_TABLES
limit Memories = MOST_MEMORIES
limit Globals = MOST_GLOBALS
limit Exports = MOST_EXPORTS
limit ElementSegments = MOST_ELEMENT_SEGMENTS
limit DataSegments = MOST_DATA_SEGMENTS
limit Nesting = MOST_NESTING
limit Locals = MOST_LOCALS
limit Parameters = MOST_PARAMETERS
limit Results = MOST_RESULTS
limit Trampolines = MOST_TRAMPOLINES
limit OutputBytes = MOST_OUTPUT_BYTES
