-- The names of exports that repeat an earlier name.
use Rattle.base_lists.proofs.Common.{◌≡◌, ℕ, zero, suc, ◌+◌, ◌<◌, ◌↔◌, Bool, true, false, IsTrue, List, [], ◌∷◌, ◌++◌, length, take, drop, get_or, map, Option, Some, refl, sym, ap, ◌∙◌, subst, append_assoc, append-nil, slice_get, Contains, list_any, bytes_eq, take-map, at_drop_more, mapped_more}
use Rattle.base_lists.proofs.Texts.{text_among, text_not_among}
use Rattle.std.specs.Prelude.{unwrap_or}
use Rattle.std.specs.Cmp.{IsEquivalence}
use Rattle.wasm_tree_spec.specs.Prelude.{Export, Module}
use Rattle.wasm_valid.specs.declared.kinds.ItemKind.TheVariants as kind
use Rattle.wasm_valid.specs.Names.{repeats_after}
use Rattle.wasm_valid.specs.Prelude.{InSpace, HoldsAt}

repeats_at : (before ns : List (List ℕ)) (i : ℕ) (n : List ℕ) → slice_get ns i ≡ Some n → slice_get (repeats_after before ns) i ≡ Some (list_any (bytes_eq n) (before ++ take i ns))
repeats_at before [] i n e = cc
repeats_at before (x ∷ ns) zero n e =
    let same : x ≡ n = cc in ap Some (ap (λ z. list_any (bytes_eq z) before) same ∙ ap (list_any (bytes_eq n)) (sym (append-nil before)))
repeats_at before (x ∷ ns) (suc i) n e =
    repeats_at (before ++ x ∷ []) ns i n e ∙ ap (λ z. Some (list_any (bytes_eq n) z)) (append_assoc before (x ∷ []) (take i ns))

name_at : (es : List Export) (i : ℕ) (e : Export) → slice_get es i ≡ Some e → slice_get (map (λ x. x.name) es) i ≡ Some e.name
name_at [] i e h = cc
name_at (x ∷ es) zero e h = let same : x ≡ e = cc in ap (λ z. Some z.name) same
name_at (x ∷ es) (suc i) e h = name_at es i e h

-- The table of repeated names says whether the name of an export occurs before it.
table_says : (es : List Export) (i : ℕ) (e : Export) (repeated : List Bool) (b : Bool) → slice_get es i ≡ Some e → repeated ≡ repeats_after [] (map (λ x. x.name) es) → b ≡ unwrap_or (slice_get repeated i) false → b ≡ list_any (bytes_eq e.name) (map (λ x. x.name) (take i es))
table_says es i e repeated b g r h =
    h ∙ ap (λ z. unwrap_or (slice_get z i) false) r ∙ ap (λ z. unwrap_or z false) (repeats_at [] (map (λ x. x.name) es) i e.name (name_at es i e g))
    ∙ ap (list_any (bytes_eq e.name)) (take-map (λ x. x.name) i es)

module _ (m : Module) (i : ℕ) (e : Export) (repeated : List Bool) (b : Bool) (g : slice_get m.exports i ≡ Some e) (r : repeated ≡ repeats_after [] (map (λ x. x.name) m.exports)) (h : b ≡ unwrap_or (slice_get repeated i) false) where
  pub export_new : (ok : Bool) → b ≡ false → IsTrue ok ↔ InSpace m e.desc → IsTrue ok ↔ HoldsAt m kind.Export i
  export_new ok fresh (to, from) = (
    λ t. (e, g, to t, text_not_among _ e.name (sym (table_says m.exports i e repeated b g r h) ∙ fresh)),
    λ (x, gx, space, new). let same : x ≡ e = cc in from (subst (λ z. InSpace m z.desc) same space),
  )

  pub export_old : b ≡ true → IsTrue false ↔ HoldsAt m kind.Export i
  export_old found = (
    λ t. cc,
    λ (x, gx, space, new). let same : x ≡ e = cc in
        absurd (new (subst (λ z. Contains (map (λ x. x.name) (take i m.exports)) z.name) (sym same) (text_among _ e.name (sym (table_says m.exports i e repeated b g r h) ∙ found)))),
  )

-- An iteration of the loop over the exports adds one entry to the table.
pub joined_more : (all new : List Bool) (b : Bool) (es : List Export) (i : ℕ) (e : Export) → i < length es → e ≡ get_or es i e → new ≡ all ++ b ∷ [] → b ≡ list_any (bytes_eq e.name) (map (λ x. x.name) (take i es)) →
    new ++ repeats_after (map (λ x. x.name) (take (i + 1) es)) (map (λ x. x.name) (drop (i + 1) es)) ≡ all ++ repeats_after (map (λ x. x.name) (take i es)) (map (λ x. x.name) (drop i es))
joined_more all new b es i e lt is n h =
    let before = map (λ (x : Export). x.name) (take i es) in
    let rest = map (λ (x : Export). x.name) (drop (i + 1) es) in
    ap (λ z. z ++ repeats_after (map (λ x. x.name) (take (i + 1) es)) rest) n
    ∙ append_assoc all (b ∷ []) (repeats_after (map (λ x. x.name) (take (i + 1) es)) rest)
    ∙ ap (λ z. all ++ (b ∷ repeats_after z rest)) (mapped_more (λ x. x.name) es i e lt is)
    ∙ ap (λ z. all ++ (z ∷ repeats_after (before ++ e.name ∷ []) rest)) h
    ∙ ap (λ (z : Export). all ++ repeats_after before (z.name ∷ rest)) is
    ∙ sym (at_drop_more (λ zs. all ++ repeats_after before (map (λ x. x.name) zs)) es i e lt)
