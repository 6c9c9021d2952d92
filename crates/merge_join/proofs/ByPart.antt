-- Lists that are joined by part: their elements at a place, and their construction part by part.
use Rattle.base_lists.proofs.Common.{◌≡◌, ◌∙◌, sym, ap, refl, ℕ, zero, suc, ◌+◌, ◌<◌, ◌≤◌, List, [], ◌∷◌, ◌++◌, length, map, take, arith, slice_get, slice_index, Some, append_assoc, append-nil, length-map, length-append, take_all, flat_map, slice_get-map, slice_get_within, get_or_from_slice_get}
use Rattle.base_lists.proofs.Common.{and_then_is}
use Rattle.std.specs.Option.{option_map}
use Rattle.wasm_tree_spec.specs.Prelude.{Module}
use Rattle.wasm_meaning.specs.Prelude.{Part, Site, module_at, sites_in}
use Rattle.merge_spec.specs.declared.parts.Part as declared
use Rattle.merge_spec.specs.Prelude.{named_module, named_modules, by_import, by_part_from, by_part}
use Rattle.merge_spec.specs.Linked.{by_import_from}
use Rattle.merge_join.specs.LinkedParts.{site, each_part}
use Rattle.merge_proof.proofs.ListsByPart.{by_part_flat}

pub named_length : (parts : List declared.Part) → length (named_modules parts) ≡ length parts
named_length parts = length-map parts named_module

pub part_there : (parts : List declared.Part) (p : ℕ) (m : Module) → module_at (named_modules parts) p ≡ Some m → p < length parts
part_there parts p m h =
    let part = and_then_is (slice_get (named_modules parts) p) (λ part. Some part.«module») m h in
    omega (arith, slice_get_within (named_modules parts) p part.0 part.1, named_length parts)

module_is : (ps : List Part) (p : ℕ) → p < length ps → (m : Module) × (module_at ps p ≡ Some m)
module_is [] p h = absurd (omega arith)
module_is (part ∷ ps) zero h = (part.«module», refl)
module_is (part ∷ ps) (suc p) h = module_is ps p (omega arith)

-- A part at a place within the list has a module.
pub module_exists : (parts : List declared.Part) (p : ℕ) → p < length parts → (m : Module) × (module_at (named_modules parts) p ≡ Some m)
module_exists parts p h = module_is (named_modules parts) p (omega (arith, h, named_length parts))

-- ---- one thing for each part ----

each_from : {A : Type 0} → (ℕ → Module → A) → ℕ → List Part → List A
each_from f q ps = by_part_from (λ p m. f p m ∷ []) q ps

each_from_at : {A : Type 0} (f : ℕ → Module → A) (q : ℕ) (ps : List Part) (p : ℕ) (m : Module) → module_at ps p ≡ Some m → slice_get (by_part_from (λ p m. f p m ∷ []) q ps) p ≡ Some (f (q + p) m)
each_from_at f q [] p m h = cc
each_from_at f q (part ∷ ps) zero m h = let same : part.«module» ≡ m = cc in let n : q ≡ q + 0 = omega arith in ap Some (ap (f q) same ∙ ap (λ k. f k m) n)
each_from_at f q (part ∷ ps) (suc p) m h = let n : suc q + p ≡ q + suc p = omega arith in each_from_at f (suc q) ps p m h ∙ ap (λ k. Some (f k m)) n

-- The list with an element for each part has, at a place, the element of the part there.
pub each_at : {A : Type 0} (f : ℕ → Module → A) (ps : List Part) (p : ℕ) (m : Module) → module_at ps p ≡ Some m → slice_get (each_part f ps) p ≡ Some (f p m)
each_at f ps p m h = each_from_at f 0 ps p m h ∙ ap (λ k. Some (f k m)) (omega arith)

each_from_length : {A : Type 0} (f : ℕ → Module → A) (q : ℕ) (ps : List Part) → length (by_part_from (λ p m. f p m ∷ []) q ps) ≡ length ps
each_from_length f q [] = refl
each_from_length f q (part ∷ ps) = ap suc (each_from_length f (suc q) ps)

pub each_length : {A : Type 0} (f : ℕ → Module → A) (ps : List Part) → length (each_part f ps) ≡ length ps
each_length f ps = each_from_length f 0 ps

-- ---- one thing for each import ----

by_import_is_from : {A : Type 0} (f : Site → A) (q : ℕ) (ps : List Part) → by_import_from f q ps ≡ by_part_from (λ p m. map f (sites_in p (length m.imports) 0) ∷ []) q ps
by_import_is_from f q [] = refl
by_import_is_from f q (part ∷ ps) = ap (λ rest. map f (sites_in q (length part.«module».imports) 0) ∷ rest) (by_import_is_from f (suc q) ps)

pub by_import_is : {A : Type 0} (f : Site → A) (ps : List Part) → by_import f ps ≡ each_part (λ p m. map f (sites_in p (length m.imports) 0)) ps
by_import_is f ps = by_import_is_from f 0 ps

pub site_in_at : (p count q n : ℕ) → n < count → slice_get (sites_in p count q) n ≡ Some (site p (q + n))
site_in_at p zero q n h = absurd (omega arith)
site_in_at p (suc count) q zero h = let e : q ≡ q + 0 = omega arith in ap (λ k. Some (site p k)) e
site_in_at p (suc count) q (suc n) h = let e : suc q + n ≡ q + suc n = omega arith in site_in_at p count (suc q) n (omega arith) ∙ ap (λ k. Some (site p k)) e

pub sites_in_length : (p count q : ℕ) → length (sites_in p count q) ≡ count
sites_in_length p zero q = refl
sites_in_length p (suc count) q = ap suc (sites_in_length p count (suc q))

-- The row of a part has an entry for each of its imports.
pub row_at : {A : Type 0} (f : Site → A) (ps : List Part) (rows : List (List A)) (p : ℕ) (m : Module) → rows ≡ by_import f ps → module_at ps p ≡ Some m →
    slice_get rows p ≡ Some (map f (sites_in p (length m.imports) 0))
row_at f ps rows p m is at = ap (λ x. slice_get x p) (is ∙ by_import_is f ps) ∙ each_at (λ p m. map f (sites_in p (length m.imports) 0)) ps p m at

-- The entry of a row at a place is that of the import there.
pub entry_at : {A : Type 0} (f : Site → A) (p count n : ℕ) → n < count → slice_get (map f (sites_in p count 0)) n ≡ Some (f (site p n))
entry_at f p count n h = slice_get-map f (sites_in p count 0) n ∙ ap (option_map f) (site_in_at p count 0 n h ∙ ap (λ k. Some (site p k)) (omega arith))

-- ---- one part after the other ----

pub part_push : {A : Type 0} (f : ℕ → Module → List A) (q : ℕ) (ps : List Part) (p : ℕ) (m : Module) → module_at ps p ≡ Some m →
    by_part_from f q (take (suc p) ps) ≡ by_part_from f q (take p ps) ++ f (q + p) m
part_push f q [] p m h = cc
part_push f q (part ∷ ps) zero m h =
    let same : part.«module» ≡ m = cc in
    let n : q ≡ q + 0 = omega arith in
    append-nil (f q part.«module») ∙ ap (f q) same ∙ ap (λ k. f k m) n
part_push f q (part ∷ ps) (suc p) m h =
    let n : suc q + p ≡ q + suc p = omega arith in
    ap (λ rest. f q part.«module» ++ rest) (part_push f (suc q) ps p m h ∙ ap (λ k. by_part_from f (suc q) (take p ps) ++ f k m) n)
    ∙ sym (append_assoc (f q part.«module») (by_part_from f (suc q) (take p ps)) (f (q + suc p) m))

-- The joined list of the first parts, extended by one part.
pub part_more : {A : Type 0} (f : ℕ → Module → List A) (ps : List Part) (p : ℕ) (m : Module) (old new : List A) → module_at ps p ≡ Some m →
    old ≡ by_part_from f 0 (take p ps) → new ≡ old ++ f p m → new ≡ by_part_from f 0 (take (p + 1) ps)
part_more f ps p m old new at was is =
    let next : p + 1 ≡ suc p = omega arith in
    let here : 0 + p ≡ p = omega arith in
    is ∙ ap (λ x. x ++ f p m) was ∙ sym (ap (λ k. by_part_from f 0 (take k ps)) next ∙ part_push f 0 ps p m at ∙ ap (λ k. by_part_from f 0 (take p ps) ++ f k m) here)

-- The joined list of the first parts is that of all parts once all are done.
pub part_all : {A : Type 0} (f : ℕ → Module → List A) (parts : List declared.Part) (p : ℕ) (all : List A) → length parts ≤ p →
    all ≡ by_part_from f 0 (take p (named_modules parts)) → all ≡ by_part f (named_modules parts)
part_all f parts p all end is = is ∙ ap (by_part_from f 0) (take_all p (named_modules parts) (omega (arith, named_length parts)))

-- ---- lists of the first parts ----

part_short : {A : Type 0} (f : ℕ → Module → List A) (q : ℕ) (ps : List Part) (k : ℕ) → length (by_part_from f q (take k ps)) ≤ length (by_part_from f q ps)
part_short f q ps zero = omega arith
part_short f q [] (suc k) = omega arith
part_short f q (part ∷ ps) (suc k) = omega (arith, part_short f (suc q) ps k, length-append (f q part.«module») (by_part_from f (suc q) (take k ps)), length-append (f q part.«module») (by_part_from f (suc q) ps))

-- The elements of the parts before a part and its own are at most those of all parts.
pub part_room : {A : Type 0} (f : ℕ → Module → List A) (ps : List Part) (p : ℕ) (m : Module) → module_at ps p ≡ Some m → length (by_part_from f 0 (take p ps)) + length (f p m) ≤ length (by_part f ps)
part_room f ps p m at =
    let next : p + 1 ≡ suc p = omega arith in
    let here : 0 + p ≡ p = omega arith in
    let e : length (by_part_from f 0 (take (suc p) ps)) ≡ length (by_part_from f 0 (take p ps)) + length (f p m) =
    ap length (part_push f 0 ps p m at ∙ ap (λ k. by_part_from f 0 (take p ps) ++ f k m) here) ∙ length-append (by_part_from f 0 (take p ps)) (f p m) in
    omega (arith, e, part_short f 0 ps (suc p))

pub flat_is : {A : Type 0} (f : Module → List A) (ps : List Part) → flat_map (λ p. f p.«module») ps ≡ by_part (λ p m. f m) ps
flat_is f ps = by_part_flat f 0 ps

-- ---- one number for each part ----

pub each_within : {A : Type 0} (f : ℕ → Module → A) (ps : List Part) (all : List A) (p : ℕ) (m : Module) → all ≡ each_part f ps → module_at ps p ≡ Some m → p < length all
each_within f ps all p m is at = slice_get_within all p (f p m) (ap (λ x. slice_get x p) is ∙ each_at f ps p m at)

pub each_index : (f : ℕ → Module → ℕ) (ps : List Part) (all : List ℕ) (p : ℕ) (m : Module) → all ≡ each_part f ps → module_at ps p ≡ Some m → slice_index all p ≡ f p m
each_index f ps all p m is at = get_or_from_slice_get all p (f p m) 0 (ap (λ x. slice_get x p) is ∙ each_at f ps p m at)
