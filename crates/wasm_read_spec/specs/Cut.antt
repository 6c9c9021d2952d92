-- Files that are cut short.
use Rattle.std.specs.Prelude.{◌≡◌, ◌≢◌, ◌⊎◌, ℕ, List, [], ◌∷◌, ◌++◌, Bool}
use Rattle.wasm_bytes.specs.Prelude.{Section, header, Framed}
use Rattle.wasm_tree_spec.specs.Prelude.{Module}
use Rattle.wasm_read_spec.specs.Files.{Spells}

-- `prefix` ends where a frame of the file `bytes` ends.
abbrev pub EndsWithAFrame : (prefix bytes : List ℕ) → Type 0
EndsWithAFrame prefix bytes = (front : List Section) × (last : Section) × (back : List Section) × Framed bytes (front ++ last ∷ back) × Framed prefix (front ++ last ∷ [])

-- If a file encodes a tree and so does a proper prefix of it, the prefix is the header alone or
-- ends where a frame ends.
abbrev pub CutFiles : Type 0
CutFiles = (many : Bool) (prefix rest : List ℕ) (whole part : Module) → rest ≢ [] → Spells (prefix ++ rest) whole many → Spells prefix part many →
    (prefix ≡ header) ⊎ EndsWithAFrame prefix (prefix ++ rest)
