-- The segments of a world are listed part by part, in the order in which they are copied
-- (WebAssembly Core 2.0, section 4.5.4).
use Rattle.std.specs.Prelude.{◌≡◌, ℕ, suc, List, [], ◌∷◌, ◌++◌}
use Rattle.wasm_tree_spec.specs.Prelude.{Module}
use Rattle.wasm_meaning.specs.Prelude.{Inst, Part, PlacedSegment, segments_in, placed_elems, placed_datas}

-- the segments of one kind, by part from part `p` on, each with the address that the part's
-- instance has for it
abbrev pub segments_by_part : {A : Type 0} → (Module → List A) → (Inst → List ℕ) → ℕ → List Part → List Inst → List (PlacedSegment A)
segments_by_part segs adds p (part ∷ parts) (i ∷ is) = segments_in p i (adds i) (segs part.«module») ++ segments_by_part segs adds (suc p) parts is
segments_by_part segs adds p _ _ = []

abbrev pub ElemsAreListedByPart : Type 0
ElemsAreListedByPart = (p : ℕ) (parts : List Part) (is : List Inst) → placed_elems p parts is ≡ segments_by_part (λ m. m.elems) (λ i. i.elems) p parts is

abbrev pub DatasAreListedByPart : Type 0
DatasAreListedByPart = (p : ℕ) (parts : List Part) (is : List Inst) → placed_datas p parts is ≡ segments_by_part (λ m. m.datas) (λ i. i.datas) p parts is
