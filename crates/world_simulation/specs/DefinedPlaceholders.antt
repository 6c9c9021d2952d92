-- A loader's primary module with functions of its own in place of the placeholders that it imports,
-- so that the world of one module determines what it begins as (WebAssembly Core 2.0, section
-- 4.5.4).
use Rattle.std.specs.Prelude.{◌≡◌, ℕ, suc, ◌+◌, List, [], ◌∷◌, ◌++◌, map, drop, length, Some, None, slice_get}
use Rattle.base_lists.specs.Every.{Every}
use Rattle.base_lists.specs.Options.{◌>>=◌}
use Rattle.wasm_tree_spec.specs.Prelude.{Functions, FuncType, Unreachable, Import}
use Rattle.wasm_tree.specs.declared.module.Func as tree
use Rattle.wasm_tree.specs.declared.module.ImportDesc.TheVariants as im
use Rattle.wasm_meaning.specs.Prelude.{Pair, Store, Environment, own_funcs, Begun, own_count, Added, LoaderWorld, placeholders_of, placeholders_from, slot_of, primary_added, begun_under}

-- ---- a primary that imports its placeholders last ----

-- from slot `n` on, each of these imports is that of the placeholder of its slot, with the type at
-- this index
abbrev pub ArePlaceholders : LoaderWorld → (slot : ℕ) → List Import → List (Pair × FuncType) → (types : List ℕ) → Type 0
ArePlaceholders w n [] [] [] = Unit {0}
ArePlaceholders w n (i ∷ is) (p ∷ ps) (ty ∷ tys) = (i.desc ≡ im.Func ty) × (slot_of w i ≡ Some n) × (slice_get w.primary.types ty ≡ Some p.1) × ArePlaceholders w (suc n) is ps tys
ArePlaceholders w n _ _ _ = ⊥

-- The primary module imports `others` from the environment, and then the placeholders in the order
-- of their slots.
pub record ImportsThemLast (w : LoaderWorld) (others : List Import) (types : List ℕ) : Type 0 where
  pub slots : List Import
  pub all : w.primary.imports ≡ others ++ slots
  pub own : Every (λ i. slot_of w i ≡ None) others
  pub placeholders : ArePlaceholders w 0 slots (placeholders_of w) types

-- ---- with functions of its own ----

-- a function of this type, which traps
abbrev pub stub : (ty : ℕ) → tree.Func
stub ty = record { ty = ty; locals = []; body = Unreachable ∷ [] }

-- a loader that supplies nothing, whose primary module has these stubs before its own functions, so
-- that each function keeps its index and its address
abbrev pub stubbed : LoaderWorld → (others : List Import) → (types : List ℕ) → LoaderWorld
stubbed w others types = record w { primary = record w.primary { imports = others; funcs = map stub types ++ w.primary.funcs }; secondaries = [] }

-- the store with the placeholders at the addresses of the stubs
abbrev pub with_placeholders : Environment → LoaderWorld → Store → Store
with_placeholders env w s = record s { funcs = own_funcs env ++ (placeholders_from 0 (placeholders_of w) ++ drop (own_count Functions env + length (placeholders_of w)) s.funcs) }

abbrev pub placeholders_in : Environment → LoaderWorld → Added → Added
placeholders_in env w a = record a { filled = record a.filled { store = with_placeholders env w a.filled.store } }

abbrev pub placeholders_begun : Environment → LoaderWorld → Begun → Begun
placeholders_begun env w b = record b { store = with_placeholders env w b.store }

-- ---- the laws ----

-- In the store, the placeholders are one function each.
abbrev pub PlaceholdersAreCounted : Type 0
PlaceholdersAreCounted = (slot : ℕ) (ps : List (Pair × FuncType)) → length (placeholders_from slot ps) ≡ length ps

-- The instances are the same, and the stores too, except for the placeholders; both are linked or
-- neither, and both trap or neither.
abbrev pub LoadersAddAsStubbed : Type 0
LoadersAddAsStubbed =
    (env : Environment) (w : LoaderWorld) (others : List Import) (types : List ℕ) → ImportsThemLast w others types → primary_added env w ≡ primary_added env (stubbed w others types) >>= λ a.
    Some (placeholders_in env w a)

abbrev pub LoadersBeginAsStubbed : Type 0
LoadersBeginAsStubbed =
    (env : Environment) (w : LoaderWorld) (others : List Import) (types : List ℕ) → ImportsThemLast w others types → begun_under env w ≡ begun_under env (stubbed w others types) >>= λ b.
    Some (placeholders_begun env w b)
