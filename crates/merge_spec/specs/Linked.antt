-- The links of parts: for each import its end, the limits that it keeps, and what is read through
-- it.
use Rattle.std.specs.Prelude.{◌≡◌, ℕ, suc, List, [], ◌∷◌, map, length, Option, Some, None, option_map, Bool, true, false}
use Rattle.wasm_tree_spec.specs.Prelude.{Globals, GlobalType, ImportDesc, index_of_export}
use Rattle.base_lists.specs.Options.{◌>>=◌}
use Rattle.wasm_tree.specs.declared.module.ImportDesc.TheVariants as im
use Rattle.wasm_tree.specs.declared.module.ConstExpr.TheVariants as const
use Rattle.wasm_meaning.specs.Prelude.{Part, Site, module_at, import_at, space_index, sites_in, linked_end, read_of}
use Rattle.wasm_meaning.specs.Linking as linking
use Rattle.merge_spec.specs.Faults.{kept_limits}
use Rattle.merge_spec.specs.declared.links.End.{End}
use Rattle.merge_spec.specs.declared.links.End.TheVariants.{Defined, Outside}
use Rattle.merge_spec.specs.declared.links.Read.{Read}
use Rattle.merge_spec.specs.declared.links.Links.{Links}

-- one list for each part, with one entry for each of its imports
abbrev pub by_import_from : {A : Type 0} → (Site → A) → ℕ → List Part → List (List A)
by_import_from f p [] = []
by_import_from f p (part ∷ parts) = map f (sites_in p (length part.«module».imports) 0) ∷ by_import_from f (suc p) parts

abbrev pub by_import : {A : Type 0} → (Site → A) → List Part → List (List A)
by_import f = by_import_from f 0

-- an end as the links record it: a part, with the index of an entity or the place of an import
abbrev pub end_entry : linking.End → End
end_entry (linking.Defined e) = Defined e.part (index_of_export e.what)
end_entry (linking.Outside s) = Outside s.part s.import

abbrev pub read_entry : linking.Read → Read
read_entry r = record { part = r.part; expr = r.expr }

abbrev pub when_fixed : {A : Type 0} → (mutable : Bool) → Option A → Option A
when_fixed true x = None
when_fixed false x = x

-- what is read through the import at this site, if it is an immutable global
abbrev pub read_through : List Part → Site → GlobalType → Option linking.Read
read_through parts s t = when_fixed t.mutable (module_at parts s.part >>= λ m. read_of parts s.part (const.Global (space_index m.imports s.import Globals)))

abbrev pub read_at_desc : List Part → Site → ImportDesc → Option linking.Read
read_at_desc parts s (im.Global t) = read_through parts s t
read_at_desc parts s _ = None

abbrev pub read_at : List Part → Site → Option Read
read_at parts s = option_map read_entry (import_at parts s >>= λ i. read_at_desc parts s i.desc)

-- `links` are the links of the parts
pub record AreLinks (parts : List Part) (links : Links) : Type 0 where
  pub ends : map (map Some) links.ends ≡ by_import (λ s. option_map end_entry (linked_end parts s)) parts
  pub limits : links.limits ≡ by_import (kept_limits parts) parts
  pub reads : links.reads ≡ by_import (read_at parts) parts
