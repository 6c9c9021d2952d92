-- Places in lists, and what is looked up by name.
use Rattle.base_lists.proofs.Common.{◌≡◌, ◌∙◌, sym, ap, refl, ℕ, zero, suc, ◌+◌, ◌<◌, List, [], ◌∷◌, ◌++◌, Some, Bool, true, false, cond, length, get_or, slice_get, nat_eq, arith, inl, inr, bytes_eq, cases_eq, nat_tests, push_last}
use Rattle.wasm_tree_spec.specs.Prelude.{Space, Types, Functions, Tables, Memories, Globals, ElementSegments, DataSegments, same_space, space_of_import, ImportDesc, Module, Export, Import}
use Rattle.wasm_tree.specs.declared.module.ImportDesc.TheVariants as im
use Rattle.merge_link.specs.declared.tables.Table.{Table}
use Rattle.merge_link.specs.Tables.{HasPlaces}
use Rattle.std.specs.Option.{option_map}
use Rattle.base_paths.proofs.Lists.{got_left}
use Rattle.wasm_meaning.specs.Linking as linking
use Rattle.merge_spec.specs.declared.parts.Part.{Part}
use Rattle.merge_spec.specs.Prelude.{named_modules}

pub module_named : (ps : List Part) (p : ℕ) → linking.module_at (named_modules ps) p ≡ option_map (λ (x : Part). x.«module») (slice_get ps p)
module_named [] p = refl
module_named (x ∷ ps) zero = refl
module_named (x ∷ ps) (suc p) = module_named ps p

pub same_text_is : (xs ys : List ℕ) → linking.same_text xs ys ≡ bytes_eq xs ys
same_text_is [] [] = refl
same_text_is [] (y ∷ ys) = refl
same_text_is (x ∷ xs) [] = refl
same_text_is (x ∷ xs) (y ∷ ys) = by (nat_eq x y) refl (same_text_is xs ys)
  where
    by : (b : Bool) → nat_eq x y ≡ b → linking.same_text xs ys ≡ bytes_eq xs ys → linking.same_text (x ∷ xs) (y ∷ ys) ≡ bytes_eq (x ∷ xs) (y ∷ ys)
    by true e rest = rw e rest
    by false e rest = rw e refl

pub same_text_back : (xs ys : List ℕ) → linking.same_text xs ys ≡ linking.same_text ys xs
same_text_back [] [] = refl
same_text_back [] (y ∷ ys) = refl
same_text_back (x ∷ xs) [] = refl
same_text_back (x ∷ xs) (y ∷ ys) = by (nat_eq x y) refl (same_text_back xs ys)
  where
    by : (b : Bool) → nat_eq x y ≡ b → linking.same_text xs ys ≡ linking.same_text ys xs → linking.same_text (x ∷ xs) (y ∷ ys) ≡ linking.same_text (y ∷ ys) (x ∷ xs)
    by true e rest = let b : nat_eq y x ≡ true = grind (arith, nat_tests) in rw (e, b) rest
    by false e rest = let b : nat_eq y x ≡ false = grind (arith, nat_tests) in rw (e, b) refl

-- The number of imports of a kind before a place, and before the next one.
pub space_zero : (imports : List Import) (k : Space) → linking.space_index imports 0 k ≡ 0
space_zero [] k = refl
space_zero (i ∷ is) k = refl

one_if : Bool → ℕ
one_if true = 1
one_if false = 0

space_suc : (imports : List Import) (n : ℕ) (k : Space) (i : Import) → n < length imports → i ≡ get_or imports n i → linking.space_index imports (suc n) k ≡ linking.space_index imports n k + one_if (linking.has_kind k i)
unfolding one_if
space_suc [] n k i h is = absurd (omega arith)
space_suc (x ∷ xs) zero k i h is = by (linking.has_kind k x) (ap (linking.has_kind k) is)
  where
    by : (b : Bool) → linking.has_kind k i ≡ b → cond b (suc (linking.space_index xs 0 k)) (linking.space_index xs 0 k) ≡ 0 + one_if (linking.has_kind k i)
    by true e = rw e (omega (arith, space_zero xs k))
    by false e = rw e (space_zero xs k)
space_suc (x ∷ xs) (suc n) k i h is = by (linking.has_kind k x) (space_suc xs n k i (omega arith) is)
  where
    by : (b : Bool) → linking.space_index xs (suc n) k ≡ linking.space_index xs n k + one_if (linking.has_kind k i)
        → cond b (suc (linking.space_index xs (suc n) k)) (linking.space_index xs (suc n) k) ≡ cond b (suc (linking.space_index xs n k)) (linking.space_index xs n k) + one_if (linking.has_kind k i)
    by true e = omega (arith, e)
    by false e = e

pub space_more : (imports : List Import) (n : ℕ) (k : Space) (i : Import) → n < length imports → i ≡ get_or imports n i → linking.has_kind k i ≡ true → linking.space_index imports (n + 1) k ≡ linking.space_index imports n k + 1
unfolding one_if
space_more imports n k i h is e = let s : n + 1 ≡ suc n = omega arith in ap (λ m. linking.space_index imports m k) s ∙ space_suc imports n k i h is ∙ ap (λ b. linking.space_index imports n k + one_if b) e

pub space_same : (imports : List Import) (n : ℕ) (k : Space) (i : Import) → n < length imports → i ≡ get_or imports n i → linking.has_kind k i ≡ false → linking.space_index imports (n + 1) k ≡ linking.space_index imports n k
unfolding one_if
space_same imports n k i h is e = let s : n + 1 ≡ suc n = omega arith in ap (λ m. linking.space_index imports m k) s ∙ space_suc imports n k i h is ∙ ap (λ b. linking.space_index imports n k + one_if b) e ∙ omega arith

-- A list whose entries are determined by their places grows by one entry.
pub grown : {A : Type 0} (xs : List A) (y : A) (i : ℕ) (f : ℕ → A) → length xs ≡ i → ((n : ℕ) → n < i → slice_get xs n ≡ Some (f n)) → y ≡ f i → (n : ℕ) → n < i + 1 → slice_get (xs ++ y ∷ []) n ≡ Some (f n)
grown xs y i f size all here n h = elim (cases_eq n i) [
  | inl e ↦ ap (slice_get (xs ++ y ∷ [])) (e ∙ sym size) ∙ push_last xs y ∙ ap Some (here ∙ ap f (sym e))
  | inr ne ↦ got_left xs y n (f n) (all n (omega arith))
]

-- The export of a name is the first export if that has the name, and else it is among the others.
pub exported_step : (e : Export) (es : List Export) (name : List ℕ) → linking.export_named (e ∷ es) name ≡ cond (bytes_eq e.name name) (Some e.desc) (linking.export_named es name)
exported_step e es name = ap (λ b. cond b (Some e.desc) (linking.export_named es name)) (same_text_is e.name name)

-- The part of a name is the first part if that has the name, and else it is among the others.
pub named_step : (x : Part) (ps : List Part) (n : ℕ) (name : List ℕ)
    → linking.first_place (linking.is_named name) (named_modules (x ∷ ps)) n ≡ cond (bytes_eq x.name name) (Some n) (linking.first_place (linking.is_named name) (named_modules ps) (suc n))
named_step x ps n name = ap (λ b. cond b (Some n) (linking.first_place (linking.is_named name) (named_modules ps) (suc n))) (same_text_back name x.name ∙ same_text_is x.name name)

pub nothing_at : {A : Type 0} (xs : List A) (n : ℕ) (x : A) → xs ≡ [] → slice_get xs n ≡ Some x → ⊥
nothing_at xs n x e h = let k = ap (λ ys. slice_get ys n) e in absurd (cc)

-- No import adds to the index spaces of types, element segments and data segments.
no_import_in : (d : ImportDesc) → (same_space Types (space_of_import d) ≡ false) × (same_space ElementSegments (space_of_import d) ≡ false) × (same_space DataSegments (space_of_import d) ≡ false)
no_import_in (im.Func t) = (refl, refl, refl)
no_import_in (im.Table t) = (refl, refl, refl)
no_import_in (im.Memory l) = (refl, refl, refl)
no_import_in (im.Global t) = (refl, refl, refl)

no_places : (k : Space) → ((d : ImportDesc) → same_space k (space_of_import d) ≡ false) → (imports : List Import) (n : ℕ) → [] ≡ linking.places (linking.has_kind k) imports n
no_places k none [] n = refl
no_places k none (i ∷ imports) n =
    let rest = linking.places (linking.has_kind k) imports (suc n) in
    no_places k none imports (suc n) ∙ ap (λ b. cond b (n ∷ rest) rest) (sym (none i.desc))

-- A table with the places of the imports of four index spaces has the places of all.
pub all_places : (m : Module) (t : Table) → t.funcs.items ≡ linking.imports_of Functions m → t.tables.items ≡ linking.imports_of Tables m → t.memories.items ≡ linking.imports_of Memories m → t.globals.items ≡ linking.imports_of Globals m → HasPlaces m t
all_places m t funcs tables memories globals Functions = funcs
all_places m t funcs tables memories globals Tables = tables
all_places m t funcs tables memories globals Memories = memories
all_places m t funcs tables memories globals Globals = globals
all_places m t funcs tables memories globals Types = no_places Types (λ d. (no_import_in d).0) m.imports 0
all_places m t funcs tables memories globals ElementSegments = no_places ElementSegments (λ d. (no_import_in d).1) m.imports 0
all_places m t funcs tables memories globals DataSegments = no_places DataSegments (λ d. (no_import_in d).2) m.imports 0
