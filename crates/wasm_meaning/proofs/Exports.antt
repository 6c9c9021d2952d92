-- The export that is found under a name.
use Rattle.base_lists.proofs.Common.{◌≡◌, refl, ℕ, suc, List, [], ◌∷◌, Bool, true, false, cond, Some, slice_get, same_Some}
use Rattle.base_lists.proofs.Same.{text_is}
use Rattle.wasm_tree_spec.specs.Prelude.{Export, ExportDesc}
use Rattle.wasm_meaning.specs.Prelude.{Text, export_named, same_text}

-- An export of this name has this description.
abbrev Exported : List Export → Text → ExportDesc → Type 0
Exported es name d = (n : ℕ) × (e : Export) × (slice_get es n ≡ Some e) × (e.desc ≡ d) × (e.name ≡ name)

-- A description found under a name is that of an export of this name.
pub exported_there : (es : List Export) (name : Text) (d : ExportDesc) → export_named es name ≡ Some d → Exported es name d
exported_there [] name d h = absurd (let k = h in cc)
exported_there (e ∷ es) name d h = by (same_text e.name name) refl h (exported_there es name d)
  where
    by : (b : Bool) → same_text e.name name ≡ b → cond b (Some e.desc) (export_named es name) ≡ Some d → (export_named es name ≡ Some d → Exported es name d) → Exported (e ∷ es) name d
    by true same q again = (0, e, refl, same_Some e.desc d q, text_is e.name name same)
    by false same q again = let r = again q in (suc r.0, r.1, r.2, r.3, r.4)
