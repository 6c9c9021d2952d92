-- The counts of a module, compared with their limits.
use Rattle.std.specs.Prelude.{◌≡◌, ℕ, ◌≤◌, length, Option, Some, None, cond, nat_lt}
use Rattle.wasm_tree_spec.specs.Prelude.{Which, limit, Module}
use Rattle.wasm_tree.specs.declared.which.Which.TheVariants as which

-- The quantity if its count is over its limit, and otherwise `rest`.
abbrev pub or_above : (count : ℕ) → Which → Option Which → Option Which
or_above count which rest = cond (nat_lt (limit which) count) (Some which) rest

-- The first count over its limit, in the order of the sections.
unfoldable pub over_limit : Module → Option Which
over_limit m =
    or_above (length m.types) which.Types
    (or_above (length m.imports) which.Imports
    (or_above (length m.funcs) which.Functions
    (or_above (length m.tables) which.Tables
    (or_above (length m.mems) which.Memories
    (or_above (length m.globals) which.Globals
    (or_above (length m.exports) which.Exports
    (or_above (length m.elems) which.ElementSegments
    (or_above (length m.datas) which.DataSegments
    None))))))))

-- Each count is at most its limit.
pub record CountsAreWithin (m : Module) : Type 0 where
  pub types : length m.types ≤ limit which.Types
  pub imports : length m.imports ≤ limit which.Imports
  pub funcs : length m.funcs ≤ limit which.Functions
  pub tables : length m.tables ≤ limit which.Tables
  pub mems : length m.mems ≤ limit which.Memories
  pub globals : length m.globals ≤ limit which.Globals
  pub exports : length m.exports ≤ limit which.Exports
  pub elems : length m.elems ≤ limit which.ElementSegments
  pub datas : length m.datas ≤ limit which.DataSegments

-- If no count is over its limit, each is at most its limit.
abbrev pub CountsAreWithinWhereNoneIsOver : Type 0
CountsAreWithinWhereNoneIsOver = (m : Module) → over_limit m ≡ None → CountsAreWithin m
