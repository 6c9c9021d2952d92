-- The exports of the merged module come from exports of parts, under names that differ.
use Rattle.base_lists.proofs.Common.{◌≡◌, ◌∙◌, ap, sym, subst, refl, ℕ, zero, suc, ◌+◌, ◌^◌, ◌<◌, ◌≤◌, List, [], ◌∷◌, ◌++◌, map, take, length, Option, Some, None, arith, option_and_then, slice_get, Contains, length-map, map_at, map_from, Has}
use Rattle.wasm_tree_spec.specs.Prelude.{Export, Module}
use Rattle.wasm_meaning.specs.Prelude.{Text, Part, module_at}
use Rattle.index_remap.specs.Prelude.{new_export}
use Rattle.merge_names.specs.declared.mode.Mode.{Mode}
use Rattle.merge_names.specs.declared.mode.Mode.TheVariants.{Refuse, Rename, Skip}
use Rattle.merge_names.specs.Names.{new_name, renamed_behind, kept_behind, new_names, given, conflict}
use Rattle.merge_names.specs.Laws.{GivenNamesDiffer, ConflictsAreFirst}
use Rattle.merge_spec.specs.Joined.{repeated_name}
use Rattle.merge_spec.specs.Prelude.{map_of, export_names, named_exports}
use Rattle.merge_spec.specs.Merged.{merged, all_exports}
use Rattle.merge_proof.proofs.ListsByPart.{by_part_back}

exports_are : (parts : List Part) (names : List (Option Text)) → (merged parts names).exports ≡ named_exports (all_exports parts) names
unfolding merged
exports_are parts names = refl

-- ---- as many names as exports ----

renamed_many : (all old chosen names : List Text) → length (renamed_behind all old chosen names) ≡ length names
unfolding renamed_behind
renamed_many all old chosen [] = refl
renamed_many all old chosen (n ∷ ns) = ap suc (renamed_many all (old ++ n ∷ []) (chosen ++ new_name all old chosen n ∷ []) ns)

kept_many : (old names : List Text) → length (kept_behind old names) ≡ length names
unfolding kept_behind
kept_many old [] = refl
kept_many old (n ∷ ns) = ap suc (kept_many (old ++ n ∷ []) ns)

names_many : (mode : Mode) (names : List Text) → length (new_names mode names) ≡ length names
names_many Refuse names = length-map names Some
names_many Rename names = length-map (renamed_behind names [] [] names) Some ∙ renamed_many names [] [] names
names_many Skip names = kept_many [] names

-- ---- exports under other names ----

pub named_back : (es : List Export) (names : List (Option Text)) (j : ℕ) (e : Export) → slice_get (named_exports es names) j ≡ Some e → (x : Export) × Has es x × (e.desc ≡ x.desc)
named_back [] names j e h = absurd (let k = h in cc)
named_back (x ∷ es) [] j e h = absurd (let k = h in cc)
named_back (x ∷ es) (None ∷ names) j e h = let r = named_back es names j e h in (r.0, (suc r.1.0, r.1.1), r.2)
named_back (x ∷ es) (Some n ∷ names) zero e h = let same : record x { name = n } ≡ e = cc in (x, (0, refl), ap (λ (e : Export). e.desc) (sym same))
named_back (x ∷ es) (Some n ∷ names) (suc j) e h = let r = named_back es names j e h in (r.0, (suc r.1.0, r.1.1), r.2)

-- The names of the renamed exports are the names that were given.
names_given : (es : List Export) (names : List (Option Text)) → length names ≤ length es → map (λ e. e.name) (named_exports es names) ≡ given names
names_given [] [] l = refl
names_given [] (n ∷ names) l = absurd (omega (arith, l))
names_given (x ∷ es) [] l = refl
names_given (x ∷ es) (None ∷ names) l = names_given es names (omega (arith, l))
names_given (x ∷ es) (Some n ∷ names) l = ap (λ z. n ∷ z) (names_given es names (omega (arith, l)))

map_take : {A B : Type 0} (f : A → B) (n : ℕ) (xs : List A) → map f (take n xs) ≡ take n (map f xs)
map_take f zero xs = refl
map_take f (suc n) [] = refl
map_take f (suc n) (x ∷ xs) = ap (λ z. f x ∷ z) (map_take f n xs)

-- Each export of the merged module comes from an export of a part.
pub export_from : (parts : List Part) (names : List (Option Text)) (j : ℕ) (e : Export) → slice_get (merged parts names).exports j ≡ Some e →
    (p : ℕ) × (m : Module) × (i : ℕ) × (x : Export) × (module_at parts p ≡ Some m) × (slice_get m.exports i ≡ Some x) × (e.desc ≡ (new_export (map_of parts p m) x).desc)
unfolding all_exports
export_from parts names j e h =
    let r = named_back (all_exports parts) names j e (ap (λ z. slice_get z j) (sym (exports_are parts names)) ∙ h) in
    let f = by_part_back (λ p m. map (new_export (map_of parts p m)) m.exports) 0 parts r.1.0 r.0 r.1.1 in
    let z : 0 + f.part ≡ f.part = omega arith in
    let x = map_from (new_export (map_of parts f.part f.«module»)) f.«module».exports f.place r.0 (ap (λ p. slice_get (map (new_export (map_of parts p f.«module»)) f.«module».exports) f.place) (sym z) ∙ f.got) in
    (f.part, f.«module», f.place, x.0, f.is_part, x.1, r.2 ∙ ap (λ (e : Export). e.desc) (sym x.2))

-- ---- names that differ ----

no_conflict : ConflictsAreFirst → (parts : List Part) (mode : Mode) → repeated_name parts mode ≡ None → conflict mode (export_names parts) ≡ None
unfolding repeated_name
no_conflict law parts mode h = by (conflict mode (export_names parts)) refl h
  where
    by : (o : Option ℕ) → conflict mode (export_names parts) ≡ o → option_and_then (slice_get (export_names parts)) o ≡ None → conflict mode (export_names parts) ≡ None
    by None e h = e
    by (Some n) e h =
        let c = (law mode (export_names parts) n e).1.came in
        absurd (let z : Some c.0 ≡ None = sym c.1 ∙ h in cc)

pub names_differ : GivenNamesDiffer → ConflictsAreFirst → (parts : List Part) (mode : Mode) → repeated_name parts mode ≡ None → length (merged parts (new_names mode (export_names parts))).exports < 2 ^ 62 →
    (j : ℕ) (e : Export) → slice_get (merged parts (new_names mode (export_names parts))).exports j ≡ Some e → Contains (map (λ x. x.name) (take j (merged parts (new_names mode (export_names parts))).exports)) e.name → ⊥
names_differ differ first parts mode h few j e at c =
    let names = new_names mode (export_names parts) in
    let es = (merged parts names).exports in
    let many : length names ≡ length (all_exports parts) = names_many mode (export_names parts) ∙ length-map (all_exports parts) (λ e. e.name) in
    let same : map (λ (e : Export). e.name) es ≡ given names = ap (map (λ (e : Export). e.name)) (exports_are parts names) ∙ names_given (all_exports parts) names (omega (arith, many)) in
    let count : length (given names) ≡ length es = ap length (sym same) ∙ length-map es (λ e. e.name) in
    let low : length (given names) < 2 ^ 62 = omega (arith, count, few) in
    let got : slice_get (given names) j ≡ Some e.name = ap (λ z. slice_get z j) (sym same) ∙ map_at (λ (e : Export). e.name) es j e at in
    let came : Contains (take j (given names)) e.name = subst (λ z. Contains z e.name) (map_take (λ (e : Export). e.name) j es ∙ ap (take j) same) c in
    differ mode (export_names parts) (no_conflict first parts mode h) low j e.name got came
