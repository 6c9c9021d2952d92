-- A module alone: all its imports stay, so that its types and imports determine what the imports
-- denote, its index spaces, and what its constant expressions read.
use Rattle.std.specs.Prelude.{◌≡◌, ℕ, List, [], ◌∷◌, ◌++◌, Option, Some, None, slice_get}
use Rattle.wasm_tree_spec.specs.Prelude.{Space, Globals, FuncType, Import, ImportDesc, ConstExpr, Module}
use Rattle.base_lists.specs.Options.{◌>>=◌}
use Rattle.wasm_tree.specs.declared.module.ImportDesc.TheVariants as im
use Rattle.wasm_tree.specs.declared.module.ConstExpr.TheVariants as const
use Rattle.wasm_meaning.specs.Prelude.{Pair, Part, Site, Outside, Read, places, has_kind, pair_of, end_of, read_of, space_index, Environment, ExternalValue, OwnKey, FuncKey, TableKey, MemoryKey}
use Rattle.wasm_meaning.specs.Prelude.{GlobalKey, owned_of, owned_at, imported_external_value, address_of, all_there, numbers, own_count, defined_count, space}

abbrev pub one : Module → List Part
one t = record { name = None; «module» = t } ∷ []

-- the place of an import of the only part
abbrev pub site : ℕ → Site
site n = record { part = 0; import = n }

-- ---- what an import denotes ----

-- the environment's entity that an import names
abbrev pub key_in : List FuncType → Pair → ImportDesc → Option OwnKey
key_in types pair (im.Func ty) = slice_get types ty >>= λ t. Some (FuncKey pair t)
key_in types pair (im.Table t) = Some (TableKey pair)
key_in types pair (im.Memory l) = Some (MemoryKey pair)
key_in types pair (im.Global t) = Some (GlobalKey pair)

abbrev pub external_value_in : Environment → List FuncType → Option Import → Option ExternalValue
external_value_in env types o = o >>= λ i. key_in types (pair_of i) i.desc >>= λ key. owned_at (owned_of env) key

-- each import is its own end
abbrev pub ImportsStay : Type 0
ImportsStay = (t : Module) (n : ℕ) → end_of (one t) (site n) ≡ slice_get t.imports n >>= λ i. Some (Outside (site n))

-- each import denotes the environment's entity that it names, if there is one
abbrev pub ImportsDenoteTheEnvironment : Type 0
ImportsDenoteTheEnvironment = (env : Environment) (t : Module) (n : ℕ) → imported_external_value env (one t) (site n) ≡ external_value_in env t.types (slice_get t.imports n)

-- ---- index spaces ----

abbrev pub address_in : Environment → List FuncType → List Import → Space → ℕ → Option ℕ
address_in env types imports k n = external_value_in env types (slice_get imports n) >>= address_of k

abbrev pub import_places : Space → List Import → List ℕ
import_places k imports = places (has_kind k) imports 0

abbrev pub addresses : Environment → List FuncType → List Import → Space → Option (List ℕ)
addresses env types imports k = all_there (address_in env types imports k) (import_places k imports)

-- the addresses of the imports, then those of what the module defines, which come after all that is
-- the environment's
abbrev pub SpacesAreImportsAndOwn : Type 0
SpacesAreImportsAndOwn =
    (env : Environment) (t : Module) (k : Space) → space env (one t) k 0 t ≡ addresses env t.types t.imports k >>= λ l. Some (l ++ numbers (own_count k env) (defined_count k t))

-- ---- what is read ----

abbrev pub read_place : List Import → ℕ → Option ℕ
read_place imports x = slice_get (import_places Globals imports) x >>= λ n. slice_get imports n >>= λ i. Some (space_index imports n Globals)

abbrev pub read_in : List Import → ConstExpr → Option Read
read_in imports (const.Global x) = read_place imports x >>= λ y. Some (record { part = 0; expr = const.Global y })
read_in imports e = Some (record { part = 0; expr = e })

-- a constant expression reads itself, or the `global.get` of the import that it names, or nothing
abbrev pub ReadsStay : Type 0
ReadsStay = (t : Module) (e : ConstExpr) → read_of (one t) 0 e ≡ read_in t.imports e
