-- Lists cut by the numbers of imports.
use Rattle.std.proofs.Common.{◌≡◌, ◌∙◌, sym, ap, refl, ℕ, suc, ◌+◌, ◌<◌, List, [], ◌∷◌, ◌++◌, map, length, drop, take, get_or}
use Rattle.std.proofs.lemmas.List.{append_assoc, drop-drop, drop_at, drop_more, map-append, length-map, take-map, drop-map, take_at}
use Rattle.wasm_meaning.specs.Linking as linking
use Rattle.merge_spec.specs.declared.parts.Part.{Part}
use Rattle.merge_spec.specs.Linked.{by_import_from}
use Rattle.merge_spec.specs.Parts.{named_modules}
use Rattle.merge_link.specs.Cutting.{cut_by, import_count, import_counts}
use Rattle.merge_link.proofs.Numbers.{length-sites_in}

-- One more piece is cut off the rest of the list.
pub one_cut : {A : Type 0} (ps : List Part) (n : ℕ) (x : Part) (k from : ℕ) (flat : List A) (lists : List (List A)) → n < length ps → x ≡ get_or ps n x → k ≡ import_count x
    → (lists ++ take k (drop from flat) ∷ []) ++ cut_by (import_counts (drop (n + 1) ps)) (drop (from + k) flat) ≡ lists ++ cut_by (import_counts (drop n ps)) (drop from flat)
one_cut ps n x k from flat lists h is count =
    append_assoc lists (take k (drop from flat) ∷ []) (cut_by (import_counts (drop (n + 1) ps)) (drop (from + k) flat))
    ∙ ap (λ ys. lists ++ take k (drop from flat) ∷ cut_by (import_counts (drop (n + 1) ps)) ys) (sym (drop-drop k from flat))
    ∙ ap (λ j. lists ++ take j (drop from flat) ∷ cut_by (import_counts (drop (n + 1) ps)) (drop j (drop from flat))) count
    ∙ sym (ap (λ qs. lists ++ cut_by (import_counts qs) (drop from flat)) (drop_more ps n x h ∙ ap (λ y. y ∷ drop (n + 1) ps) (sym is)))

pub cut_map : {A B : Type 0} (f : A → B) (ns : List ℕ) (xs : List A) → map (map f) (cut_by ns xs) ≡ cut_by ns (map f xs)
cut_map f [] xs = refl
cut_map f (n ∷ ns) xs =
    ap (λ ys. map f (take n xs) ∷ ys) (cut_map f ns (drop n xs)) ∙ ap (λ y. y ∷ cut_by ns (map f (drop n xs))) (sym (take-map f n xs)) ∙ ap (λ ys. take n (map f xs) ∷ cut_by ns ys) (sym (drop-map f n xs))

-- A list with an entry for each import, cut by the numbers of imports, has a list of entries for
-- each part.
pub cut_sites : {A : Type 0} (f : linking.Site → A) (first : ℕ) (ps : List Part) → cut_by (import_counts ps) (map f (linking.sites_from first (named_modules ps))) ≡ by_import_from f first (named_modules ps)
cut_sites f first [] = refl
cut_sites f first (x ∷ ps) =
    let here = linking.sites_in first (import_count x) 0 in
    let rest = linking.sites_from (suc first) (named_modules ps) in
    let size : length (map f here) ≡ import_count x = length-map here f ∙ length-sites_in first (import_count x) 0 in
    ap (λ ys. take (import_count x) ys ∷ cut_by (import_counts ps) (drop (import_count x) ys)) (map-append f here rest)
    ∙ ap (λ y. y ∷ cut_by (import_counts ps) (drop (import_count x) (map f here ++ map f rest))) (take_at (map f here) (map f rest) (import_count x) size)
    ∙ ap (λ ys. map f here ∷ cut_by (import_counts ps) ys) (drop_at (map f here) (map f rest) (import_count x) size)
    ∙ ap (λ ys. map f here ∷ ys) (cut_sites f (suc first) ps)
