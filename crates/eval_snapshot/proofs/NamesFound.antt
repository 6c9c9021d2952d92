-- Names that are looked up: the step from the first names to one more.
use Rattle.base_lists.proofs.Common.{◌≡◌, ◌∙◌, ap, sym, refl, ℕ, ◌+◌, ◌<◌, List, [], ◌∷◌, ◌++◌, take, length, get_or, Bool, true, false, ◌||◌, cond, Option, Some, None, list_any, bytes_eq, take_more, list_any-append, bytes_eq-Decides, same_tests}
use Rattle.base_lists.proofs.Same.{text_is, text_self}
use Rattle.wasm_meaning.specs.Prelude.{Text, same_text}
use Rattle.eval_snapshot_spec.specs.Snapshot.{is_among_names}

same_bytes : (q x : Text) → same_text q x ≡ bytes_eq x q
same_bytes q x = same_tests (same_text q x) (bytes_eq x q) (λ h. (bytes_eq-Decides x q).1 (sym (text_is q x h))) (λ h. ap (same_text q) ((bytes_eq-Decides x q).0 h) ∙ text_self q)

-- A name is among the first `i + 1` names if it is among the first `i` or is the next one.
among_more : (names : List Text) (i : ℕ) (x q : Text) → i < length names → x ≡ get_or names i x → is_among_names (take (i + 1) names) q ≡ (is_among_names (take i names) q || bytes_eq x q)
among_more names i x q lt is =
    ap (list_any (same_text q)) (take_more names i x lt ∙ ap (λ y. take i names ++ y ∷ []) (sym is))
    ∙ (list_any-append (same_text q) (take i names) (x ∷ []) ∙ ap (λ b. list_any (same_text q) (take i names) || b) (last (same_text q x) ∙ same_bytes q x))
  where
    last : (b : Bool) → (b || false) ≡ b
    last true = refl
    last false = refl

-- The result of looking up a name after the next one is added.
pub found_more : (names : List Text) (value : Text → Bool) (i : ℕ) (x q : Text) (v : Bool) (before now : Option Bool) → i < length names → x ≡ get_or names i x → v ≡ value x → before ≡ cond (is_among_names (take i names) q) (Some (value q)) None →
    now ≡ cond (bytes_eq x q) (Some v) before → now ≡ cond (is_among_names (take (i + 1) names) q) (Some (value q)) None
found_more names value i x q v before now lt is w b n =
    n ∙ (ap (cond (bytes_eq x q) (Some v)) b ∙ (by (is_among_names (take i names) q) (bytes_eq x q) refl ∙ ap (λ t. cond t (Some (value q)) None) (sym (among_more names i x q lt is))))
  where
    by : (a e : Bool) → bytes_eq x q ≡ e → cond e (Some v) (cond a (Some (value q)) None) ≡ cond (a || e) (Some (value q)) None
    by true true h = ap Some (w ∙ ap value ((bytes_eq-Decides x q).0 h))
    by false true h = ap Some (w ∙ ap value ((bytes_eq-Decides x q).0 h))
    by true false h = refl
    by false false h = refl
