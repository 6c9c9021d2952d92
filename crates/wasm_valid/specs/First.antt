-- The first invalid item.
use Rattle.std.specs.Prelude.{◌≡◌, ℕ, ◌+◌, Bool, List, ◌∷◌, ◌++◌, length, Option, Some, None, ◌⊎◌}
use Rattle.wasm_tree_spec.specs.Prelude.{Module, imported_funcs, imported_tables, imported_memories, imported_globals, memories_of}
use Rattle.wasm_valid.specs.declared.kinds.ItemKind.{ItemKind}
use Rattle.wasm_valid.specs.declared.kinds.ItemKind.TheVariants as kind
use Rattle.wasm_valid.specs.declared.kinds.Invalid.{Invalid}
use Rattle.wasm_valid.specs.Validity.{Item, HoldsAt, EachHolds, items}

-- The index with which an item is reported: the one in its index space, if its kind has one; the
-- number of memories for that item; else its position in the section.
abbrev pub index_of : Module → ItemKind → ℕ → ℕ
index_of m kind.Import place = place
index_of m kind.Memories place = length (memories_of m)
index_of m kind.Func place = length (imported_funcs m.imports) + place
index_of m kind.Table place = length (imported_tables m.imports) + place
index_of m kind.Memory place = length (imported_memories m.imports) + place
index_of m kind.Global place = length (imported_globals m.imports) + place
index_of m kind.Export place = place
index_of m kind.Start place = place
index_of m kind.Elem place = place
index_of m kind.Segment place = place
index_of m kind.Body place = length (imported_funcs m.imports) + place

-- `e` is the first item of the list that is not valid.
abbrev pub IsFirstOf : Module → List Item → Invalid → Type 0
IsFirstOf m xs e =
    (x : Item) × (before after : List Item) × (xs ≡ before ++ x ∷ after) × EachHolds m before × (HoldsAt m x.kind x.place → ⊥) × (e.kind ≡ x.kind) × (e.index ≡ index_of m x.kind x.place)

-- `e` is the first invalid item. The number of memories is tested exactly if `many` is false.
abbrev pub IsFirstInvalid : Module → Bool → Invalid → Type 0
IsFirstInvalid m many e = IsFirstOf m (items m many) e

-- Which of these items is the first invalid one, if any.
abbrev pub IsAnswer : Module → List Item → Option Invalid → Type 0
IsAnswer m xs None = EachHolds m xs
IsAnswer m xs (Some e) = IsFirstOf m xs e

-- Every module is valid, or has a first invalid item.
abbrev pub ValidOrFirstInvalid : Type 0
ValidOrFirstInvalid = (m : Module) (many : Bool) → EachHolds m (items m many) ⊎ ((e : Invalid) × IsFirstInvalid m many e)
