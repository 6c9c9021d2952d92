-- The canonical encoding of a code entry encodes it, and code entries use data segments exactly if
-- the functions do.
use Rattle.base_lists.proofs.Common.{◌≡◌, ◌<◌, ◌^◌, List, [], ◌∷◌, map, length, true, false, ◌||◌, refl, ap, arith, left_true, right_true}
use Rattle.base_lists.proofs.Every.{every_with}
use Rattle.std.proofs.Common.{length-append}
use Rattle.base_lists.specs.Every.{Every}
use Rattle.wasm_bytes.specs.Prelude.{u32_text}
use Rattle.wasm_tree_spec.specs.Prelude.{LocalGroup, Func, uses_data, any_uses_data, memory_zero_all, memory_zero_funcs}
use Rattle.wasm_read_spec.specs.Prelude.{SpellsGroup, SpellsCode, SpellsEntry, code_in, untyped}
use Rattle.wasm_write_spec.specs.PlainValues.{vector_text, val_text}
use Rattle.wasm_write_spec.specs.PlainCode.{group_text, body_text, code_text, entry_text}
use Rattle.wasm_write_proof.specs.Ranges.{IsU32, FuncInRange}
use Rattle.wasm_write_proof.proofs.Parts.{TextLaws, u32_some, u32_spells, sized_spells, vector_spells}
use Rattle.wasm_write_proof.proofs.ItemTexts.{val_spells}
use Rattle.wasm_write_proof.proofs.BodyTexts.{body_spells}
use Rattle.wasm_write_proof.proofs.Inside.{spellable_of}

group_spells : TextLaws → (g : LocalGroup) → IsU32 g.count → SpellsGroup (group_text g) g
unfolding group_text
group_spells laws g h = (u32_text g.count, val_text g.ty, u32_spells laws g.count h, val_spells g.ty, refl)

pub group_some : (g : LocalGroup) → 0 < length (group_text g)
unfolding group_text
group_some g = omega (arith, u32_some g.count, length-append (u32_text g.count) (val_text g.ty))

code_spells : TextLaws → (f : Func) → FuncInRange f → memory_zero_all f.body ≡ true → length (code_text f) < 2 ^ 32 → SpellsCode false (code_text f) (code_in f)
code_spells laws f h zero few =
    let groups = vector_text group_text f.locals in
    let body = body_text f.body in
    let both = length-append groups body in (
      groups,
      body,
      vector_spells laws SpellsGroup group_text f.locals group_some (omega (arith, few, both)) (every_with (λ (g : LocalGroup). IsU32 g.count) (λ g. SpellsGroup (group_text g) g) f.locals (group_spells laws) h.1.0),
      body_spells laws f.body (spellable_of f.body h.1.1 zero) (omega (arith, few, both)),
      refl,
    )

-- A function that has a canonical encoding: it is in range and names no memory other than memory 0.
abbrev pub Spellable : Func → Type 0
Spellable f = FuncInRange f × (memory_zero_all f.body ≡ true)

pub entry_spells : TextLaws → (f : Func) → Spellable f → length (entry_text f) < 2 ^ 32 → SpellsEntry false (entry_text f) (code_in f)
unfolding entry_text
entry_spells laws f h few =
    let short : length (code_text f) < 2 ^ 32 = omega (arith, few, length-append (u32_text (length (code_text f))) (code_text f)) in
    (code_text f, sized_spells laws (code_text f) short, code_spells laws f h.0 h.1 short)

pub entry_some : (f : Func) → 0 < length (entry_text f)
unfolding entry_text
entry_some f = omega (arith, u32_some (length (code_text f)), length-append (u32_text (length (code_text f))) (code_text f))

-- ---- memory.init and data.drop

pub funcs_use_same : (fs : List Func) → any_uses_data fs ≡ any_uses_data (map untyped (map code_in fs))
funcs_use_same [] = refl
funcs_use_same (f ∷ fs) = ap (λ b. uses_data f.body || b) (funcs_use_same fs)

pub all_spellable : (fs : List Func) → Every FuncInRange fs → memory_zero_funcs fs ≡ true → Every Spellable fs
all_spellable [] h zero = tt
all_spellable (f ∷ fs) h zero = ((h.0, left_true (memory_zero_all f.body) (memory_zero_funcs fs) zero), all_spellable fs h.1 (right_true (memory_zero_all f.body) (memory_zero_funcs fs) zero))
