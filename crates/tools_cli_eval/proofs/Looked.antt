-- Exports and functions that are looked up by their names.
use Rattle.base_lists.proofs.Common.{◌≡◌, ◌∙◌, ap, sym, refl, subst, ℕ, zero, suc, ◌+◌, ◌-◌, ◌<◌, ◌≤◌, arith, List, [], ◌∷◌, ◌++◌, append_assoc, length, drop, get_or, is_some, cond, Option, Some, None, bytes_eq, at_drop_more, drop_more, same_Some, bytes_eq-Decides, same_tests, slice_get_within}
use Rattle.base_lists.proofs.Same.{text_is, text_self}
use Rattle.base_lists.specs.Options.{◌>>=◌}
use Rattle.wasm_tree_spec.specs.Prelude.{Export, ExportDesc, Module, funcs_of}
use Rattle.wasm_tree.specs.declared.module.ExportDesc.TheVariants as ex
use Rattle.wasm_valid.specs.declared.kinds.ItemKind.{ItemKind}
use Rattle.wasm_valid.specs.declared.kinds.ItemKind.TheVariants as kind
use Rattle.wasm_valid.specs.Prelude.{InSpace, ItemsHold}
use Rattle.wasm_meaning.specs.Prelude.{Text, export_named, same_text}
use Rattle.wasm_meaning.specs.Counted.{FoundExportsAreThere}
use Rattle.eval_snapshot_spec.specs.Evaluated.{first_missing, func_exported, func_named, funcs_named}
use Rattle.tools_cli_eval.specs.Named.{AreFuncsOf}

same_bytes : (x y : Text) → same_text x y ≡ bytes_eq x y
same_bytes x y = same_tests (same_text x y) (bytes_eq x y) (λ h. (bytes_eq-Decides x y).1 (text_is x y h)) (λ h. ap (same_text x) (sym ((bytes_eq-Decides x y).0 h)) ∙ text_self x)

-- The look-up from one export before: its own name is tested first.
pub export_before : (es : List Export) (at : ℕ) (e : Export) (name : Text) → 0 < at → at ≤ length es → e ≡ get_or es (at - 1) e →
    export_named (drop (at - 1) es) name ≡ cond (bytes_eq e.name name) (Some e.desc) (export_named (drop at es) name)
export_before es at e name above within is =
    let same : at - 1 + 1 ≡ at = omega (arith, above) in
    at_drop_more (λ l. export_named l name) es (at - 1) e (omega (arith, above, within))
    ∙ (ap (λ x. export_named (x ∷ drop (at - 1 + 1) es) name) (sym is) ∙ (ap (λ n. export_named (e ∷ drop n es) name) same ∙ ap (λ b. cond b (Some e.desc) (export_named (drop at es) name)) (same_bytes e.name name)))

func_there : FoundExportsAreThere → (m : Module) → ItemsHold m → (name : Text) (func : ℕ) → func_named m name ≡ Some func → func < length (funcs_of m)
func_there exported m hold name func h = by (export_named m.exports name) refl h
  where
    by : (o : Option ExportDesc) → export_named m.exports name ≡ o → (o >>= func_exported) ≡ Some func → func < length (funcs_of m)
    by None e k = absurd (cc)
    by (Some (ex.Table t)) e k = absurd (cc)
    by (Some (ex.Memory t)) e k = absurd (cc)
    by (Some (ex.Global t)) e k = absurd (cc)
    by (Some (ex.Func f)) e k =
        let is : f ≡ func = same_Some f func k in
        let (n, x, at, desc, same_name) = exported m.exports name (ex.Func f) e in
        let item = hold kind.Export n (slice_get_within m.exports n x at) in
        let same : item.0 ≡ x = same_Some item.0 x (sym item.1 ∙ at) in
        let space : InSpace m (ex.Func f) = subst (InSpace m) (ap (λ (y : Export). y.desc) same ∙ desc) item.2 in
        subst (λ g. g < length (funcs_of m)) is space

-- ---- names in order ----

-- The first `n` names are looked up, and the functions of the others are found from the remaining
-- names.
pub record Found (m : Module) (names : List Text) (n : ℕ) (funcs : List ℕ) : Type 0 where
  pub named : funcs ++ funcs_named m (drop n names) ≡ funcs_named m names
  pub missing : first_missing m names ≡ first_missing m (drop n names)
  pub there : AreFuncsOf m funcs

pub found_first : (m : Module) (names : List Text) → Found m names 0 []
found_first m names = record { named = refl; missing = refl; there = λ n f e. absurd (cc) }

added_there : (m : Module) (funcs : List ℕ) (func : ℕ) → AreFuncsOf m funcs → func < length (funcs_of m) → AreFuncsOf m (funcs ++ func ∷ [])
added_there m [] func h lt zero g e = subst (λ x. x < length (funcs_of m)) (same_Some func g e) lt
added_there m [] func h lt (suc n) g e = absurd (cc)
added_there m (f ∷ funcs) func h lt zero g e = h 0 g e
added_there m (f ∷ funcs) func h lt (suc n) g e = added_there m funcs func (λ i x k. h (suc i) x k) lt n g e

module _ (m : Module) (names : List Text) (n : ℕ) (x : Text) (funcs : List ℕ) (h : Found m names n funcs) (inside : n < length names) (is : x ≡ get_or names n x) where
  abbrev rest : List Text
  rest = drop (n + 1) names

  next : drop n names ≡ x ∷ rest
  next = drop_more names n x inside ∙ ap (λ y. y ∷ rest) (sym is)

  pub found_more : FoundExportsAreThere → ItemsHold m → (func : ℕ) → func_named m x ≡ Some func → Found m names (n + 1) (funcs ++ func ∷ [])
  found_more exported hold func e = record {
    named =
        let one : funcs_named m (x ∷ rest) ≡ func ∷ funcs_named m rest = rw e refl in
        append_assoc funcs (func ∷ []) (funcs_named m rest) ∙ (ap (λ l. funcs ++ l) (sym one ∙ ap (funcs_named m) (sym next)) ∙ h.named);
    missing = h.missing ∙ (ap (first_missing m) next ∙ ap (λ o. cond (is_some o) (first_missing m rest) (Some x)) e);
    there = added_there m funcs func h.there (func_there exported m hold x func e);
  }
