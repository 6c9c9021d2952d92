-- A module is within the limits if no count is over its limit.
use Rattle.base_lists.proofs.Common.{◌≡◌, ℕ, ◌≤◌, length, Option, Some, None, Bool, true, false, cond, nat_lt, refl, ltb-false}
use Rattle.wasm_tree_spec.specs.Prelude.{Which, Module, limit}
use Rattle.wasm_tree.specs.declared.which.Which.TheVariants as which
use Rattle.module_limits.specs.Counts.{or_above, over_limit, CountsAreWithin}

not_above : (count : ℕ) (w : Which) (rest : Option Which) → or_above count w rest ≡ None → count ≤ limit w
not_above count w rest h = ltb-false (limit w) count (by (nat_lt (limit w) count) h)
  where
    by : (b : Bool) → cond b (Some w) rest ≡ None → b ≡ false
    by true h = cc
    by false h = refl

not_later : (count : ℕ) (w : Which) (rest : Option Which) → or_above count w rest ≡ None → rest ≡ None
not_later count w rest h = by (nat_lt (limit w) count) h
  where
    by : (b : Bool) → cond b (Some w) rest ≡ None → rest ≡ None
    by true h = cc
    by false h = h

pub within_limits : (m : Module) → over_limit m ≡ None → CountsAreWithin m
unfolding over_limit
within_limits m h =
    let h1 = not_later (length m.types) which.Types _ h in
    let h2 = not_later (length m.imports) which.Imports _ h1 in
    let h3 = not_later (length m.funcs) which.Functions _ h2 in
    let h4 = not_later (length m.tables) which.Tables _ h3 in
    let h5 = not_later (length m.mems) which.Memories _ h4 in
    let h6 = not_later (length m.globals) which.Globals _ h5 in
    let h7 = not_later (length m.exports) which.Exports _ h6 in
    let h8 = not_later (length m.elems) which.ElementSegments _ h7 in
    record {
      types = not_above (length m.types) which.Types _ h;
      imports = not_above (length m.imports) which.Imports _ h1;
      funcs = not_above (length m.funcs) which.Functions _ h2;
      tables = not_above (length m.tables) which.Tables _ h3;
      mems = not_above (length m.mems) which.Memories _ h4;
      globals = not_above (length m.globals) which.Globals _ h5;
      exports = not_above (length m.exports) which.Exports _ h6;
      elems = not_above (length m.elems) which.ElementSegments _ h7;
      datas = not_above (length m.datas) which.DataSegments None h8;
    }
