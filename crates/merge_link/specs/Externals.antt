-- External types, and those of what modules define.
use Rattle.std.specs.Prelude.{ℕ, Option, option_map, option_and_then, slice_get}
use Rattle.wasm_tree_spec.specs.Prelude.{Module}
use Rattle.merge_spec.specs.Faults as faults
use Rattle.merge_link.specs.declared.externals.External.{External}
use Rattle.merge_link.specs.declared.externals.External.TheVariants.{Func, Table, Memory, Global}

abbrev pub the_external : External → faults.External
the_external (Func t) = faults.FuncOf t.now
the_external (Table t) = faults.TableOf t
the_external (Memory l) = faults.MemoryOf l
the_external (Global t) = faults.GlobalOf t

-- the external type of what a module defines at a place
abbrev pub own_func : Module → ℕ → Option faults.External
own_func m n = option_map faults.FuncOf (option_and_then (slice_get m.types) (option_map (λ f. f.ty) (slice_get m.funcs n)))

abbrev pub own_table : Module → ℕ → Option faults.External
own_table m n = option_map faults.TableOf (slice_get m.tables n)

abbrev pub own_memory : Module → ℕ → Option faults.External
own_memory m n = option_map faults.MemoryOf (slice_get m.mems n)

abbrev pub own_global : Module → ℕ → Option faults.External
own_global m n = option_map (λ g. faults.GlobalOf g.ty) (slice_get m.globals n)
