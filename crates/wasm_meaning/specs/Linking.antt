-- Imports that are joined by name: where each ends, which limits are asked of a staying import, and
-- what constant expressions read through joined globals. An import is joined if its module name is
-- the name of a part and that part exports its field name. Otherwise it stays an import.
use Rattle.wasm_tree_spec.specs.Prelude.{Memories, Globals, Space, same_space, Limits, Import, ImportDesc, Export, ExportDesc, ConstExpr, Module, space_of_import, space_of_export, index_of_export}
use Rattle.std.proofs.Common.{ℕ, zero, suc, ◌-◌, List, [], ◌∷◌, ◌++◌, map, length, Option, Some, None, Bool, false, cond, slice_get, ◌&&◌}
use Rattle.base_lists.specs.Same.{each_same}
use Rattle.base_lists.specs.Options.{◌>>=◌}
pub use Rattle.base_lists.specs.Places.{first_place, places, count_of}
use Rattle.std.specs.Prelude.{nat_eq, max, min}
use Rattle.std.specs.List.{cons_option}
use Rattle.wasm_tree.specs.declared.module.ImportDesc.TheVariants as im
use Rattle.wasm_tree.specs.declared.module.ExportDesc.TheVariants as ex
use Rattle.wasm_tree.specs.declared.module.ConstExpr.TheVariants as const
use Rattle.wasm_meaning.specs.State.{Text, Pair}
use Rattle.wasm_meaning.specs.Paths.{PathStep, EndsWith, LeadsTo, Path, walk}

-- A module, and the name, if it has one, by which the other parts import from it.
pub record Part : Type 0 where
  pub name : Option Text
  pub «module» : Module

-- The place of an import: its part, and its position in the import section.
pub record Site : Type 0 where
  pub part : ℕ
  pub import : ℕ

-- ---- comparing names ----

abbrev pub same_text : Text → Text → Bool
same_text = each_same nat_eq

abbrev pub same_pair : Pair → Pair → Bool
same_pair p q = same_text p.0 q.0 && same_text p.1 q.1

-- ---- kinds ----

abbrev pub has_kind : Space → Import → Bool
has_kind k i = same_space k (space_of_import i.desc)

-- The positions in the import section of the imports of kind `k`, which come first in that index
-- space.
abbrev pub imports_of : Space → Module → List ℕ
imports_of k m = places (has_kind k) m.imports 0

-- The number of imports of kind `k` before `place`. It is the index of the import at `place` if
-- that is of kind `k`.
abbrev pub space_index : List Import → (place : ℕ) → Space → ℕ
space_index [] n k = 0
space_index (i ∷ is) zero k = 0
space_index (i ∷ is) (suc n) k = cond (has_kind k i) (suc (space_index is n k)) (space_index is n k)

-- ---- joining ----

abbrev pub module_at : List Part → ℕ → Option Module
module_at parts p = slice_get parts p >>= λ part. Some part.«module»

abbrev pub import_at : List Part → Site → Option Import
import_at parts site = module_at parts site.part >>= λ m. slice_get m.imports site.import

abbrev pub is_text : Text → Option Text → Bool
is_text text None = false
is_text text (Some name) = same_text text name

abbrev pub is_named : Text → Part → Bool
is_named text part = is_text text part.name

abbrev pub export_named : List Export → Text → Option ExportDesc
export_named [] field = None
export_named (e ∷ es) field = cond (same_text e.name field) (Some e.desc) (export_named es field)

-- The first part whose name is the module name of the import.
abbrev pub source_of : List Part → Import → Option ℕ
source_of parts i = first_place (is_named i.«module») parts 0

-- An entity of a part: its kind, and its index in that kind's index space.
pub record Entity : Type 0 where
  pub part : ℕ
  pub what : ExportDesc

-- The entity that an import is joined with; `None` if it stays an import.
abbrev pub joined : List Part → Import → Option Entity
joined parts i =
    source_of parts i >>= λ p. module_at parts p >>= λ m. export_named m.exports i.field >>= λ d. Some (record { part = p; what = d })

-- The import that is this entity; `None` if its part defines it.
abbrev pub imported_as : List Part → Entity → Option Site
imported_as parts e =
    module_at parts e.part >>= λ m. slice_get (imports_of (space_of_export e.what) m) (index_of_export e.what) >>= λ n. Some (record { part = e.part; import = n })

-- ---- where an import ends ----

pub data End : Type 0 where
  -- An entity that its part defines.
  Defined : Entity → End
  -- A staying import, possibly the import itself.
  Outside : Site → End

-- The step from an entity: it ends there if the part defines the entity, and leads to the import
-- otherwise.
abbrev pub entity_step : Entity → Option Site → PathStep Site End
entity_step e None = EndsWith (Defined e)
entity_step e (Some t) = LeadsTo t

-- The step from an import: it ends there if the import stays, and goes on from the joined entity
-- otherwise.
abbrev pub joined_step : List Part → Site → Option Entity → PathStep Site End
joined_step parts s None = EndsWith (Outside s)
joined_step parts s (Some e) = entity_step e (imported_as parts e)

abbrev pub import_step : List Part → Site → Option (PathStep Site End)
import_step parts s = import_at parts s >>= λ i. Some (joined_step parts s (joined parts i))

-- A path of joined imports and exports leads from an import to its end.
abbrev pub LeadsToEnd : List Part → Site → End → Type 0
LeadsToEnd parts = Path (import_step parts)

-- The places of `count` imports of a part, beginning with the position `from`.
abbrev pub sites_in : (part count from : ℕ) → List Site
sites_in p zero n = []
sites_in p (suc count) n = record { part = p; import = n } ∷ sites_in p count (suc n)

-- The places of all imports, by part, and within a part in order.
abbrev pub sites_from : ℕ → List Part → List Site
sites_from p [] = []
sites_from p (part ∷ parts) = sites_in p (length part.«module».imports) 0 ++ sites_from (suc p) parts

abbrev pub sites : List Part → List Site
sites = sites_from 0

-- The end of an import, if it has one: a path that ends meets no import twice.
abbrev pub end_of : List Part → Site → Option End
end_of parts = walk (import_step parts) (suc (length (sites parts)))

-- ---- limits of staying imports ----

abbrev pub same_site : Site → Site → Bool
same_site s t = nat_eq s.part t.part && nat_eq s.import t.import

abbrev pub is_outside : Site → Option End → Bool
is_outside s (Some (Outside t)) = same_site s t
is_outside s _ = false

abbrev pub pair_of : Import → Pair
pair_of i = (i.«module», i.field)

-- Both are memory imports with the same module and field name.
abbrev pub same_memory : Import → Option Import → Bool
same_memory i None = false
same_memory i (Some j) = has_kind Memories i && (has_kind Memories j && same_pair (pair_of i) (pair_of j))

-- The import at `t` stays, and it and `i` are memory imports with the same names.
abbrev pub stays_as : List Part → Import → Site → Bool
stays_as parts i t = is_outside t (end_of parts t) && same_memory i (import_at parts t)

abbrev pub first_site : (Site → Bool) → List Site → Site → Site
first_site is [] other = other
first_site is (s ∷ ss) other = cond (is s) s (first_site is ss other)

abbrev pub gathered_at : List Part → Site → Option Import → End
gathered_at parts s None = Outside s
gathered_at parts s (Some i) = Outside (first_site (stays_as parts i) (sites parts) s)

-- Staying memory imports with the same module and field name have one end: the first of them.
abbrev pub gathered : List Part → End → End
gathered parts (Defined e) = Defined e
gathered parts (Outside s) = gathered_at parts s (import_at parts s)

-- The end of an import, with staying memory imports of the same names taken as one (`gathered`).
abbrev pub linked_end : List Part → Site → Option End
linked_end parts s = end_of parts s >>= λ end. Some (gathered parts end)

abbrev pub limits_of : ImportDesc → Option Limits
limits_of (im.Func t) = None
limits_of (im.Table t) = Some t.limits
limits_of (im.Memory l) = Some l
limits_of (im.Global t) = None

-- The limits of those imports in the list that end at the staying import `s`.
abbrev pub demands : List Part → Site → List Site → List Limits
demands parts s [] = []
demands parts s (t ∷ ts) =
    cond (is_outside s (linked_end parts t)) (cons_option (import_at parts t >>= λ i. limits_of i.desc) (demands parts s ts)) (demands parts s ts)

abbrev pub least : Option ℕ → Option ℕ → Option ℕ
least None b = b
least (Some a) None = Some a
least (Some a) (Some b) = Some (min a b)

-- The greatest minimum, and the least of the maxima that are present.
abbrev pub met : List Limits → Limits
met [] = record { min = 0; max = None }
met (l ∷ ls) = record { min = max l.min (met ls).min; max = least l.max (met ls).max }

abbrev pub met_limits : List Part → Site → Limits
met_limits parts s = met (demands parts s (sites parts))

-- ---- constant reads ----

-- A constant expression, with the part whose index spaces its index refers to.
pub record Read : Type 0 where
  pub part : ℕ
  pub expr : ConstExpr

-- The import that global `x` of part `p` is; `None` if the part defines it.
abbrev pub global_import : List Part → ℕ → ℕ → Option Site
global_import parts p x = imported_as parts (record { part = p; what = ex.Global x })

-- The initialiser of a global that a part defines.
abbrev pub initial : List Part → Entity → Option ConstExpr
initial parts e =
    module_at parts e.part >>= λ m. (slice_get m.globals (index_of_export e.what - length (imports_of Globals m))) >>= λ g. Some g.init

-- The `global.get` of a staying import.
abbrev pub outside_read : List Part → Site → Option Read
outside_read parts s =
    module_at parts s.part >>= λ m. Some (record { part = s.part; expr = const.Global (space_index m.imports s.import Globals) })

-- The step from a read through an import. It leads to the initialiser of the defined global in
-- which the import ends, or it ends with the `global.get` of the staying import.
abbrev pub end_step : List Part → Option End → Option (PathStep Read Read)
end_step parts None = None
end_step parts (Some (Outside s)) = outside_read parts s >>= λ r. Some (EndsWith r)
end_step parts (Some (Defined e)) = initial parts e >>= λ expr. Some (LeadsTo (record { part = e.part; expr = expr }))

-- The step from an expression: a `global.get` of an import goes on through it, one of a defined
-- global (which is not valid) has no step, and any other expression is what is read.
abbrev pub expr_step : List Part → ℕ → ConstExpr → Option (PathStep Read Read)
expr_step parts p (const.Global x) = end_step parts (global_import parts p x >>= end_of parts)
expr_step parts p expr = Some (EndsWith (record { part = p; expr = expr }))

abbrev pub read_step : List Part → Read → Option (PathStep Read Read)
read_step parts r = expr_step parts r.part r.expr

-- A path through joined globals leads from an expression to what it reads.
abbrev pub Reads : List Part → Read → Read → Type 0
Reads parts = Path (read_step parts)

-- The initialisers of all defined globals.
abbrev pub initials_from : ℕ → List Part → List Read
initials_from p [] = []
initials_from p (part ∷ parts) = map (λ g. record { part = p; expr = g.init }) part.«module».globals ++ initials_from (suc p) parts

-- What an expression reads, if its path ends: such a path meets no initialiser twice.
abbrev pub read_of : List Part → ℕ → ConstExpr → Option Read
read_of parts p expr = walk (read_step parts) (suc (length (initials_from 0 parts))) (record { part = p; expr = expr })
