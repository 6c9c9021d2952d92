-- Staying memories, gathered by their module and field names.
use Rattle.std.specs.Prelude.{◌≡◌, ℕ, List, [], ◌∷◌, Option, Some, None, Bool, true, false, cond, map, slice_get, ◌&&◌}
use Rattle.wasm_tree_spec.specs.Prelude.{Memories, Import}
use Rattle.std.specs.BTreeMap.{BTreeMap, get_by}
use Rattle.std.specs.Ordering.{nat_cmp, ordering_then}
use Rattle.std.specs.Cmp.Lexicographic.{slice_cmp}
use denote.Ref.{Bor}
use Rattle.wasm_meaning.specs.Prelude.{Pair}
use Rattle.wasm_meaning.specs.Linking as linking
use Rattle.merge_spec.specs.declared.parts.Part.{Part}
use Rattle.merge_spec.specs.Prelude.{named_modules}
use Rattle.merge_link.specs.declared.sites.Site.{Site}
use Rattle.merge_link.specs.declared.part_tables.Ending.{Ending}
use Rattle.merge_link.specs.declared.part_tables.Ending.TheVariants.{Defined, Outside}
use Rattle.merge_link.specs.Sites.{ImportExists, the_site}
use Rattle.merge_link.specs.PartTables.{the_end}

-- there is an import, and it is a memory
abbrev pub is_memory_at : Option Import → Bool
is_memory_at None = false
is_memory_at (Some i) = linking.has_kind Memories i

abbrev pub IsStayingMemory : List linking.Part → Site → Ending → Option (Bor Import) → Type 0
IsStayingMemory lp s e None = linking.is_outside (the_site s) (Some (the_end e)) && is_memory_at (linking.import_at lp (the_site s)) ≡ false
IsStayingMemory lp s e (Some i) =
    (linking.is_outside (the_site s) (Some (the_end e)) ≡ true) × (linking.import_at lp (the_site s) ≡ Some i.now) × (linking.has_kind Memories i.now ≡ true)

-- there is an import, and it is a memory with this module and field name
abbrev pub is_of_pair : Pair → Option Import → Bool
is_of_pair pair None = false
is_of_pair pair (Some i) = linking.has_kind Memories i && linking.same_pair pair (linking.pair_of i)

-- the import at this place is a staying memory with this module and field name
unfoldable pub is_memory_of : List Part → Pair → Site → Bool
is_memory_of parts pair s =
    linking.is_outside (the_site s) (linking.end_of (named_modules parts) (the_site s)) && is_of_pair pair (linking.import_at (named_modules parts) (the_site s))

-- the first such place in the list
abbrev pub first_memory : List Part → Pair → List Site → Option Site
first_memory parts pair [] = None
first_memory parts pair (s ∷ ss) = cond (is_memory_of parts pair s) (Some s) (first_memory parts pair ss)

-- the map has for each pair of names the first of the sites that import a memory by it
abbrev pub HasFirstSites : List Part → List Site → BTreeMap (Bor (List ℕ) × Bor (List ℕ)) Site → Type 0
HasFirstSites parts sites firsts = (a b : List ℕ) → get_by (λ k. ordering_then (slice_cmp nat_cmp a k.0.now) (slice_cmp nat_cmp b k.1.now)) firsts ≡ first_memory parts (a, b) sites

-- the end of an import, where staying memories with the same module and field name are one
unfoldable pub linked_at : List Part → Site → Option linking.End
linked_at parts s = linking.linked_end (named_modules parts) (the_site s)

-- if the end is an import, there is one at its place
abbrev pub EndsThere : List Part → Ending → Type 0
EndsThere parts (Defined e) = Unit {0}
EndsThere parts (Outside s) = ImportExists parts s

-- `linked` are the linked ends of the imports
pub record AreLinkedEnds (parts : List Part) (sites : List Site) (linked : List Ending) : Type 0 where
  pub same : map (λ e. Some (the_end e)) linked ≡ map (linked_at parts) sites
  pub there : (n : ℕ) (e : Ending) → slice_get linked n ≡ Some e → EndsThere parts e
