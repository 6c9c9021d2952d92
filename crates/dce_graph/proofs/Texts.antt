-- Lists of values that are texts.
use Rattle.base_lists.proofs.Common.{◌≡◌, ◌≢◌, ◌∙◌, sym, ap, refl, List, [], ◌∷◌, map, length, Option, Some, None, true, false, is_some, option_and_then, list_all, all_there_length, length-map, and_parts}
use Rattle.base_lists.specs.Options.{all_there}
use Rattle.serde_json.specs.Data.{Data}
use Rattle.serde_json.specs.Find.{as_array, as_str}
use Rattle.serde_json.specs.View.{view, items_of, items_view}
use Rattle.serde_json.specs.declared.value.Value.{Value}
use Rattle.dce_graph.specs.Prelude.{Text, texts_in}
use Rattle.dce_graph.specs.GraphFile.{listed, texts_of, import_pair_of_two}

pub listed_items : (ds : List Data) → listed (items_of ds) ≡ ds
listed_items [] = refl
listed_items (d ∷ ds) = ap (λ xs. d ∷ xs) (listed_items ds)

-- The texts of an array are those of its values, if each value is a text.
pub texts_are : (d : Data) (vs : List Value) → Some (items_view vs) ≡ as_array d → texts_of d ≡ all_there as_str (map view vs)
texts_are d vs e = ap (option_and_then (λ ds. all_there as_str (listed ds))) (sym e) ∙ ap (all_there as_str) (listed_items (map view vs))

text_there : (o : Option Text) → is_some o ≡ true → (t : Text) × (o ≡ Some t)
text_there None h = cc
text_there (Some t) h = (t, refl)

one_more : (t : Text) (o : Option (List Text)) (ts : List Text) → o ≡ Some ts → option_and_then (λ ys. Some (t ∷ ys)) o ≡ Some (t ∷ ts)
one_more t o ts e = rw e refl

pub all_texts : (vs : List Value) → list_all (λ v. is_some (as_str (view v))) vs ≡ true → all_there as_str (map view vs) ≡ Some (texts_in vs)
all_texts [] h = refl
all_texts (v ∷ vs) h =
    let both = and_parts (is_some (as_str (view v))) (list_all (λ w. is_some (as_str (view w))) vs) h in
    let first = text_there (as_str (view v)) both.0 in
    rw first.1 (one_more first.0 (all_there as_str (map view vs)) (texts_in vs) (all_texts vs both.1))

-- An array with a value that is no text has no texts.
pub not_all_texts : (vs : List Value) → list_all (λ v. is_some (as_str (view v))) vs ≡ false → all_there as_str (map view vs) ≡ None
not_all_texts [] h = cc
not_all_texts (v ∷ vs) h = by (as_str (view v)) refl (λ e. not_all_texts vs e)
  where
    by : (o : Option Text) → as_str (view v) ≡ o → (list_all (λ w. is_some (as_str (view w))) vs ≡ false → all_there as_str (map view vs) ≡ None) → all_there as_str (map view (v ∷ vs)) ≡ None
    by None e on = rw e refl
    by (Some t) e on = let rest = rw e at h in rw (e, on rest) refl

-- An array of another length than two gives no import pair.
pub not_two : (vs : List Value) → length vs ≢ 2 → None ≡ option_and_then import_pair_of_two (all_there as_str (map view vs))
not_two vs h = by (all_there as_str (map view vs)) refl
  where
    by : (o : Option (List Text)) → all_there as_str (map view vs) ≡ o → None ≡ option_and_then import_pair_of_two o
    by None e = refl
    by (Some []) e = refl
    by (Some (a ∷ [])) e = refl
    by (Some (a ∷ b ∷ [])) e = let l = all_there_length as_str (map view vs) (a ∷ b ∷ []) e in absurd (h (sym (length-map vs view) ∙ sym l))
    by (Some (a ∷ b ∷ c ∷ more)) e = refl
