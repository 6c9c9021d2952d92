-- Texts, as lists of bytes: whether one is among others, and what a map of texts has.
use Rattle.std.proofs.Common.{◌≡◌, ◌∙◌, ap, refl, sym, ℕ, List, [], ◌∷◌, ◌++◌, Contains, bytes_eq, Option, Some, is_some, Bool, true, false, cond, ◌||◌}
use Rattle.std.specs.List.{list_any}
use Rattle.std.specs.Cmp.{IsEquivalence}
use Rattle.std.proofs.lemmas.Slice.Eq.{bytes_eq-Decides}
use Rattle.std.proofs.lemmas.Map.Views.{list_any-from_Contains, Contains-from_any}
use Rattle.std.proofs.lemmas.List.Folds.{list_any-append}
use Rattle.base_lists.proofs.Bools.{same_tests}

pub same_texts : IsEquivalence bytes_eq
same_texts = record {
  refl = λ x. (bytes_eq-Decides x x).1 refl;
  symm = λ x y. same_tests (bytes_eq x y) (bytes_eq y x) (λ e. (bytes_eq-Decides y x).1 (sym ((bytes_eq-Decides x y).0 e))) (λ e. (bytes_eq-Decides x y).1 (sym ((bytes_eq-Decides y x).0 e)));
  congr = λ x y z e. ap (λ w. bytes_eq w z) ((bytes_eq-Decides x y).0 e);
}

pub text_among : (before : List (List ℕ)) (n : List ℕ) → list_any (bytes_eq n) before ≡ true → Contains before n
text_among before n e = Contains-from_any (λ x y. (bytes_eq-Decides x y).0) n before e

pub text_not_among : (before : List (List ℕ)) (n : List ℕ) → list_any (bytes_eq n) before ≡ false → Contains before n → ⊥
text_not_among before n e h = let yes : list_any (bytes_eq n) before ≡ true = list_any-from_Contains same_texts n before h in cc

some_of : (b : Bool) (o : Option (Unit {0})) → is_some (cond b (Some tt) o) ≡ (b || is_some o)
some_of false o = refl
some_of true o = refl

-- After a text is put into a map, a text is found there if it is this one, which b says, or was
-- found before.
pub map_more : (b : Bool) (m n : Option (Unit {0})) → n ≡ cond b (Some tt) m → is_some n ≡ (b || is_some m)
map_more b m n e = ap is_some e ∙ some_of b m

-- If f tells whether a text is in the list, and g whether the text is n or f says so, then g tells
-- whether it is in the list with n behind it.
pub known_more : (f : List ℕ → Bool) (g : List ℕ → Bool) (before : List (List ℕ)) (n : List ℕ) → ((text : List ℕ) → f text ≡ list_any (bytes_eq text) before) → ((text : List ℕ) → g text ≡ (bytes_eq n text || f text)) → (text : List ℕ) → g text ≡ list_any (bytes_eq text) (before ++ n ∷ [])
known_more f g before n h k text =
    k text ∙ ap (λ b. bytes_eq n text || b) (h text) ∙ swap (bytes_eq n text) (list_any (bytes_eq text) before)
    ∙ ap (λ b. list_any (bytes_eq text) before || (b || false)) (same_texts.symm n text) ∙ sym (list_any-append (bytes_eq text) before (n ∷ []))
  where
    swap : (a b : Bool) → (a || b) ≡ (b || (a || false))
    swap false false = refl
    swap false true = refl
    swap true false = refl
    swap true true = refl
