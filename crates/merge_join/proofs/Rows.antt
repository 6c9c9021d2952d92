-- Rows with an entry for each import, read at an import.
use Rattle.base_lists.proofs.Common.{◌≡◌, ◌∙◌, sym, ap, refl, ℕ, zero, suc, ◌<◌, List, [], ◌∷◌, length, map, arith, slice_get, get_or, Option, Some, None, length-map, slice_get_within, get_or_from_slice_get}
use Rattle.wasm_meaning.specs.Prelude.{Part, Site, sites_in}
use Rattle.merge_spec.specs.Prelude.{by_import}
use Rattle.merge_join.specs.LinkedParts.{site, IsSite}
use Rattle.merge_join.proofs.ByPart.{row_at, entry_at, sites_in_length}

-- The bounds of the reads of a row and of its entry, and the entry that they give.
pub record IsRow {A : Type 0} (f : Site → A) (rows : List (List A)) (p n : ℕ) : Type 0 where
  pub part_within : p < length rows
  pub import_within : (row : List A) → row ≡ get_or rows p row → n < length row
  pub entry_is : (row : List A) (d : A) → row ≡ get_or rows p row → get_or row n d ≡ f (site p n)

pub row_of : {A : Type 0} (f : Site → A) (ps : List Part) (rows : List (List A)) (p n : ℕ) → rows ≡ by_import f ps → IsSite ps p n → IsRow f rows p n
row_of {A} f ps rows p n is (m, at, within) =
    let there : slice_get rows p ≡ Some (map f (sites_in p (length m.imports) 0)) = row_at f ps rows p m is at in
    let same : (row : List A) → row ≡ get_or rows p row → row ≡ map f (sites_in p (length m.imports) 0) = λ row e. e ∙ get_or_from_slice_get rows p (map f (sites_in p (length m.imports) 0)) row there in
    record {
      part_within = slice_get_within rows p (map f (sites_in p (length m.imports) 0)) there;
      import_within = λ row e. let l : length row ≡ length m.imports = ap length (same row e) ∙ length-map (sites_in p (length m.imports) 0) f ∙ sites_in_length p (length m.imports) 0 in omega arith;
      entry_is = λ row d e. ap (λ x. get_or x n d) (same row e) ∙ get_or_from_slice_get (map f (sites_in p (length m.imports) 0)) n (f (site p n)) d (entry_at f p (length m.imports) n within);
    }

pub map_get_or : {A B : Type 0} (g : A → B) (xs : List A) (i : ℕ) (d : A) (e : B) → i < length xs → get_or (map g xs) i e ≡ g (get_or xs i d)
map_get_or g [] i d e h = absurd (omega arith)
map_get_or g (x ∷ xs) zero d e h = refl
map_get_or g (x ∷ xs) (suc i) d e h = map_get_or g xs i d e (omega arith)

-- The bounds and the result of these reads for rows in which each entry exists.
pub record IsFullRow {A : Type 0} (f : Site → Option A) (rows : List (List A)) (p n : ℕ) : Type 0 where
  pub part_within : p < length rows
  pub import_within : (row : List A) → row ≡ get_or rows p row → n < length row
  pub entry_is : (row : List A) (d : A) → row ≡ get_or rows p row → f (site p n) ≡ Some (get_or row n d)

pub full_row_of : {A : Type 0} (f : Site → Option A) (ps : List Part) (rows : List (List A)) (p n : ℕ) → map (map Some) rows ≡ by_import f ps → IsSite ps p n → IsFullRow f rows p n
full_row_of {A} f ps rows p n is there =
    let r = row_of f ps (map (map Some) rows) p n is there in
    let within : p < length rows = let e = length-map rows (map (λ (x : A). Some x)) in let w = r.part_within in omega arith in
    let same : (row : List A) → row ≡ get_or rows p row → map Some row ≡ get_or (map (map Some) rows) p (map Some row) = λ row e. ap (map Some) e ∙ sym (map_get_or (map Some) rows p row (map Some row) within) in
    let short : (row : List A) → row ≡ get_or rows p row → n < length row = λ row e. let w = r.import_within (map Some row) (same row e) in let l = length-map row (λ (x : A). Some x) in omega arith in
    record {
      part_within = within;
      import_within = short;
      entry_is = λ row d e. sym (sym (map_get_or Some row n d None (short row e)) ∙ r.entry_is (map Some row) None (same row e));
    }
