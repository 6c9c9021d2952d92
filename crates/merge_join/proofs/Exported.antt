-- The exports of all parts.
use Rattle.base_lists.proofs.Common.{◌≡◌, ◌∙◌, sym, ap, refl, ℕ, zero, suc, ◌+◌, ◌≤◌, List, [], ◌∷◌, ◌++◌, length, map, take, arith, slice_get, Option, Some, None, append_assoc, option_and_then, length-map, map-append, length-append, length-take-le, slice_get_within}
use Rattle.wasm_tree_spec.specs.Prelude.{Module, Export}
use Rattle.wasm_meaning.specs.Prelude.{Text, Part, module_at}
use Rattle.index_remap.specs.declared.remap.Remap.{Remap}
use Rattle.index_remap.specs.Prelude.{new_export}
use Rattle.merge_names.specs.declared.mode.Mode.{Mode}
use Rattle.merge_names.specs.Names.{conflict}
use Rattle.merge_spec.specs.Prelude.{map_of, by_part_from, export_names, named_exports}
use Rattle.merge_spec.specs.Merged.{all_exports}
use Rattle.merge_spec.specs.Joined.{repeated_name}
use Rattle.merge_join.proofs.ByPart.{part_push}

-- The exports of one part, with the new indices.
abbrev pub new_exports : List Part → ℕ → Module → List Export
new_exports ps p m = map (new_export (map_of ps p m)) m.exports

-- ---- names ----

same_names : (r : Remap) (es : List Export) → map (λ e. e.name) (map (new_export r) es) ≡ map (λ e. e.name) es
same_names r [] = refl
same_names r (e ∷ es) = ap (λ ns. e.name ∷ ns) (same_names r es)

names_from : (qs : List Part) (q : ℕ) (ps : List Part) → map (λ e. e.name) (by_part_from (new_exports qs) q ps) ≡ by_part_from (λ p m. map (λ e. e.name) m.exports) q ps
names_from qs q [] = refl
names_from qs q (part ∷ ps) =
    map-append (λ e. e.name) (new_exports qs q part.«module») (by_part_from (new_exports qs) (suc q) ps)
    ∙ ap (λ ns. ns ++ map (λ e. e.name) (by_part_from (new_exports qs) (suc q) ps)) (same_names (map_of qs q part.«module») part.«module».exports)
    ∙ ap (λ ns. map (λ e. e.name) part.«module».exports ++ ns) (names_from qs (suc q) ps)

-- The names of all exports are those that the parts give them.
pub names_are : (ps : List Part) → export_names ps ≡ by_part_from (λ p m. map (λ e. e.name) m.exports) 0 ps
unfolding all_exports
names_are ps = names_from ps 0 ps

pub names_many : (ps : List Part) → length (export_names ps) ≡ length (all_exports ps)
names_many ps = length-map (all_exports ps) (λ e. e.name)

-- Without a conflict no name is repeated.
pub none_repeated : (ps : List Part) (mode : Mode) (names : List Text) → names ≡ export_names ps → conflict mode names ≡ None → repeated_name ps mode ≡ None
unfolding repeated_name
none_repeated ps mode names same none = ap (λ o. option_and_then (slice_get (export_names ps)) o) (ap (conflict mode) (sym same) ∙ none)

-- A conflict is at the place of a repeated name.
pub repeated_at : (ps : List Part) (mode : Mode) (names : List Text) (n : ℕ) → names ≡ export_names ps → conflict mode names ≡ Some n → slice_get names n ≡ repeated_name ps mode
unfolding repeated_name
repeated_at ps mode names n same at =
    ap (λ x. slice_get x n) same ∙ sym (ap (λ o. option_and_then (slice_get (export_names ps)) o) (ap (conflict mode) (sym same) ∙ at))

-- ---- exports with names ----

pub named_push : (es : List Export) (e : Export) (names : List (Option Text)) (name : Option Text) → slice_get names (length es) ≡ Some name →
    named_exports es names ++ named_exports (e ∷ []) (name ∷ []) ≡ named_exports (es ++ e ∷ []) names
named_push [] e [] name h = cc
named_push [] e (n ∷ names) name h = let same : n ≡ name = cc in alone n same
  where
    alone : (n : Option Text) → n ≡ name → named_exports (e ∷ []) (name ∷ []) ≡ named_exports (e ∷ []) (n ∷ names)
    alone None is = ap (λ k. named_exports (e ∷ []) (k ∷ [])) (sym is)
    alone (Some t) is = ap (λ k. named_exports (e ∷ []) (k ∷ [])) (sym is)
named_push (x ∷ es) e [] name h = cc
named_push (x ∷ es) e (None ∷ names) name h = named_push es e names name h
named_push (x ∷ es) e (Some t ∷ names) name h = ap (λ rest. record x { name = t } ∷ rest) (named_push es e names name h)

-- ---- how many ----

take_few : {A : Type 0} (f : ℕ → Module → List A) (q n : ℕ) (ps : List Part) → length (by_part_from f q (take n ps)) ≤ length (by_part_from f q ps)
take_few f q zero [] = omega arith
take_few f q (suc n) [] = omega arith
take_few f q zero (part ∷ ps) = omega arith
take_few f q (suc n) (part ∷ ps) =
    omega (arith, take_few f (suc q) n ps, length-append (f q part.«module») (by_part_from f (suc q) (take n ps)), length-append (f q part.«module») (by_part_from f (suc q) ps))

-- The exports of the first parts and of one more are at most all exports.
pub exports_few : (ps : List Part) (p : ℕ) (m : Module) → module_at ps p ≡ Some m → length (by_part_from (new_exports ps) 0 (take p ps)) + length m.exports ≤ length (all_exports ps)
unfolding all_exports
exports_few ps p m at =
    let first = by_part_from (new_exports ps) 0 (take p ps) in
    let more = new_exports ps (0 + p) m in
    omega (arith, take_few (new_exports ps) 0 (suc p) ps, ap length (part_push (new_exports ps) 0 ps p m at), length-append first more, length-map m.exports (new_export (map_of ps (0 + p) m)))

take_more : {A : Type 0} (xs : List A) (n : ℕ) (x : A) → slice_get xs n ≡ Some x → take (suc n) xs ≡ take n xs ++ x ∷ []
take_more [] n x h = cc
take_more (y ∷ ys) zero x h = let same : y ≡ x = cc in ap (λ z. z ∷ []) same
take_more (y ∷ ys) (suc n) x h = ap (λ zs. y ∷ zs) (take_more ys n x h)

-- The list of named exports, extended by one export.
pub export_more : (all new : List Export) (before es : List Export) (n : ℕ) (e : Export) (r : Remap) (names : List (Option Text)) (name : Option Text) →
    all ≡ named_exports (before ++ map (new_export r) (take n es)) names → slice_get es n ≡ Some e → slice_get names (length before + n) ≡ Some name →
    new ≡ all ++ named_exports (new_export r e ∷ []) (name ∷ []) → new ≡ named_exports (before ++ map (new_export r) (take (n + 1) es)) names
export_more all new before es n e r names name was at named is =
    let first = map (new_export r) (take n es) in
    let short : length (take n es) ≡ n = length-take-le n es (omega (arith, slice_get_within es n e at)) in
    let many : length before + n ≡ length (before ++ first) = omega (arith, length-append before first, length-map (take n es) (new_export r), short) in
    let one : n + 1 ≡ suc n = omega arith in
    let next : take (n + 1) es ≡ take n es ++ e ∷ [] = ap (λ k. take k es) one ∙ take_more es n e at in
    is ∙ ap (λ x. x ++ named_exports (new_export r e ∷ []) (name ∷ [])) was
    ∙ named_push (before ++ first) (new_export r e) names name (ap (slice_get names) (sym many) ∙ named)
    ∙ ap (λ x. named_exports x names) (append_assoc before first (new_export r e ∷ []) ∙ ap (λ x. before ++ x) (sym (ap (map (new_export r)) next ∙ map-append (new_export r) (take n es) (e ∷ []))))

-- The exports of the first parts, extended by those of one part.
pub exports_next : (ps : List Part) (p : ℕ) (m : Module) → module_at ps p ≡ Some m →
    by_part_from (new_exports ps) 0 (take p ps) ++ new_exports ps p m ≡ by_part_from (new_exports ps) 0 (take (p + 1) ps)
exports_next ps p m at =
    let one : p + 1 ≡ suc p = omega arith in
    let here : 0 + p ≡ p = omega arith in
    sym (ap (λ k. by_part_from (new_exports ps) 0 (take k ps)) one ∙ part_push (new_exports ps) 0 ps p m at ∙ ap (λ k. by_part_from (new_exports ps) 0 (take p ps) ++ new_exports ps k m) here)

pub exports_grow : (ps : List Part) (p : ℕ) (m : Module) → module_at ps p ≡ Some m →
    length (by_part_from (new_exports ps) 0 (take (p + 1) ps)) ≡ length (by_part_from (new_exports ps) 0 (take p ps)) + length m.exports
exports_grow ps p m at =
    omega (arith, ap length (exports_next ps p m at), length-append (by_part_from (new_exports ps) 0 (take p ps)) (new_exports ps p m), length-map m.exports (new_export (map_of ps p m)))
