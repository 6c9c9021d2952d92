-- What the embedder sees of parts that are linked by name: their exports under the names that a
-- mode gives them.
use Rattle.std.specs.Prelude.{List, [], ◌∷◌, map, Option, Some, None}
use Rattle.wasm_meaning.specs.Prelude.{Text, Part, Entity, World}
use Rattle.merge_names.specs.declared.mode.Mode.{Mode}
use Rattle.merge_names.specs.Names.{new_names}
use Rattle.merge_spec.specs.Merged.{by_part, export_names}

-- what the exports of all parts denote, part by part, in order
unfoldable pub all_entities : List Part → List Entity
all_entities parts = by_part (λ p m. map (λ e. record { part = p; what = e.desc }) m.exports) parts

-- each entity under its name; one without a name is dropped
abbrev pub named_entities : List Entity → List (Option Text) → List (Text × Entity)
named_entities (e ∷ es) (Some name ∷ names) = (name, e) ∷ named_entities es names
named_entities (e ∷ es) (None ∷ names) = named_entities es names
named_entities _ _ = []

-- the names that the embedder sees, each with what it denotes
unfoldable pub merge_view : List Part → Mode → List (Text × Entity)
merge_view parts mode = named_entities (all_entities parts) (new_names mode (export_names parts))

-- the parts, linked by name, with a view of the exports that the merged module has
abbrev pub linked_world : List Part → Mode → World
linked_world parts mode = record { parts = parts; view = merge_view parts mode }
