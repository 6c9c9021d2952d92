-- The result of looking up an export's name among the evaluated constructors tells whether the
-- export is kept and what it denotes.
use Rattle.base_lists.proofs.Common.{◌≡◌, ◌∙◌, ap, sym, refl, ℕ, ◌+◌, ◌<◌, List, [], ◌∷◌, map, length, drop, get_or, is_some, Result, Ok, Err, IfOk, Bool, true, false, not, ◌&&◌, ◌||◌, cond, Some, None, cons_option, list_any, drop_more}
use Rattle.std.proofs.Common.{filter_map}
use Rattle.base_kept.specs.Kept.{kept as keeping}
use Rattle.wasm_tree_spec.specs.Prelude.{Export}
use Rattle.wasm_tree.specs.declared.module.ExportDesc.TheVariants as ex
use Rattle.wasm_meaning.specs.Prelude.{Text}
use Rattle.eval_snapshot_spec.specs.Snapshot.{export_left, is_among_names}
use Rattle.eval_snapshot.specs.Names.{redirected, stays}

module _ (a k : Bool) (e : Export) (empty : ℕ) where
  pub none_redirected : None ≡ cond a (Some k) None → e ≡ cond a (record e { desc = ex.Func empty }) e
  none_redirected h = by a h
    where
      by : (a : Bool) → None ≡ cond a (Some k) None → e ≡ cond a (record e { desc = ex.Func empty }) e
      by true h = cc
      by false h = refl

  pub none_stays : None ≡ cond a (Some k) None → true ≡ (not a || k)
  none_stays h = by a h
    where
      by : (a : Bool) → None ≡ cond a (Some k) None → true ≡ (not a || k)
      by true h = cc
      by false h = refl

  pub some_redirected : (b : Bool) → Some b ≡ cond a (Some k) None → record e { desc = ex.Func empty } ≡ cond a (record e { desc = ex.Func empty }) e
  some_redirected b h = by a h
    where
      by : (a : Bool) → Some b ≡ cond a (Some k) None → record e { desc = ex.Func empty } ≡ cond a (record e { desc = ex.Func empty }) e
      by true h = refl
      by false h = cc

  pub some_stays : (b : Bool) → Some b ≡ cond a (Some k) None → b ≡ (not a || k)
  some_stays b h = by a h
    where
      by : (a : Bool) → Some b ≡ cond a (Some k) None → b ≡ (not a || k)
      by true h = cc
      by false h = cc

  -- The export of an evaluated constructor is kept exactly if the look-up says so.
  pub some_kept : (b : Bool) → Some b ≡ cond a (Some k) None → b ≡ a && k
  some_kept b h = by a h
    where
      by : (a : Bool) → Some b ≡ cond a (Some k) None → b ≡ a && k
      by true h = cc
      by false h = cc

  pub none_kept : None ≡ cond a (Some k) None → false ≡ a && k
  none_kept h = by a h
    where
      by : (a : Bool) → None ≡ cond a (Some k) None → false ≡ a && k
      by true h = cc
      by false h = refl

-- The exports of the snapshot are those that stay, each with what it then denotes.
pub exports_left_are : (evaluated kept : List Text) (empty : ℕ) (es : List Export) → keeping (map (stays evaluated kept) es) (map (redirected evaluated empty) es) ≡ filter_map (export_left evaluated kept empty) es
exports_left_are evaluated kept empty [] = refl
exports_left_are evaluated kept empty (e ∷ es) =
    one (is_among_names evaluated e.name) (is_among_names kept e.name) (record e { desc = ex.Func empty }) _ _ (exports_left_are evaluated kept empty es)
  where
    one : (a k : Bool) (x : Export) (ks fs : List Export) → ks ≡ fs → cond (not a || k) (cond a x e ∷ ks) ks ≡ cons_option (cond a (cond k (Some x) None) (Some e)) fs
    one true true x ks fs h = ap (λ ys. x ∷ ys) h
    one true false x ks fs h = h
    one false k x ks fs h = ap (λ ys. e ∷ ys) h

-- ---- one of a list passes ----

any_on : {A : Type 0} (test : A → Bool) (xs : List A) (i : ℕ) (x : A) → i < length xs → x ≡ get_or xs i x → list_any test xs ≡ list_any test (drop i xs) → list_any test xs ≡ (test x || list_any test (drop (i + 1) xs))
any_on test xs i x lt is e = e ∙ (ap (list_any test) (drop_more xs i x lt) ∙ ap (λ y. test y || list_any test (drop (i + 1) xs)) (sym is))

pub any_here : {A : Type 0} (test : A → Bool) (xs : List A) (i : ℕ) (x : A) → i < length xs → x ≡ get_or xs i x → list_any test xs ≡ list_any test (drop i xs) → test x ≡ true → true ≡ list_any test xs
any_here test xs i x lt is e h = sym (any_on test xs i x lt is e ∙ ap (λ b. b || list_any test (drop (i + 1) xs)) h)

pub any_behind : {A : Type 0} (test : A → Bool) (xs : List A) (i : ℕ) (x : A) → i < length xs → x ≡ get_or xs i x → list_any test xs ≡ list_any test (drop i xs) → test x ≡ false → list_any test xs ≡ list_any test (drop (i + 1) xs)
any_behind test xs i x lt is e h = any_on test xs i x lt is e ∙ ap (λ b. b || list_any test (drop (i + 1) xs)) h

pub some_of : (b : Bool) → is_some (cond b (Some true) None) ≡ b
some_of true = refl
some_of false = refl

pub if_ok : {T E : Type 0} (r : Result T E) (P Q : T → Type 0) → ((x : T) → P x → Q x) → IfOk r P → IfOk r Q
if_ok (Ok x) P Q f h = f x h
if_ok (Err e) P Q f h = tt
