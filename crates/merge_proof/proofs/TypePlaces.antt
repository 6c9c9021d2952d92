-- Each type of a part is among the merged types, at the entry that the part's map has for it.
use Rattle.base_lists.proofs.Common.{◌≡◌, ◌∙◌, ap, sym, subst, refl, ℕ, zero, suc, ◌+◌, List, [], ◌∷◌, ◌++◌, map, Some, Bool, true, false, cond, arith, unwrap_or, slice_get, slice_index, flat_map, list_any, slice_index_is, map_at, has_left, has_right, Has, first_at, list_any_there, each_same_is}
use Rattle.base_lists.proofs.Common.{each_same_self}
use Rattle.wasm_tree_spec.specs.Prelude.{FuncType, Module, same_type}
use Rattle.wasm_meaning.specs.Prelude.{same_func_type, Part, module_at, first_place}
use Rattle.merge_spec.specs.Prelude.{with_type, with_types}
use Rattle.merge_spec.specs.Merged.{merged_types, place_of_type, map_of}

type_kept : (ts : List FuncType) (t x : FuncType) → Has ts x → Has (with_type ts t) x
type_kept ts t x h = by (list_any (same_func_type t) ts)
  where
    by : (b : Bool) → Has (cond b ts (ts ++ t ∷ [])) x
    by true = h
    by false = has_left ts (t ∷ []) x h

type_there : (ts : List FuncType) (t : FuncType) → Has (with_type ts t) t
type_there ts t = by (list_any (same_func_type t) ts) refl
  where
    by : (b : Bool) → list_any (same_func_type t) ts ≡ b → Has (cond b ts (ts ++ t ∷ [])) t
    by true e = let r = list_any_there (same_func_type t) ts e in let same : same_func_type t r.0 ≡ true = r.2 in let is : t ≡ r.0 = grind (arith, each_same_is same_type (λ a b e. grind arith)) in subst (Has ts) (sym is) r.1
    by false e = has_right ts (t ∷ []) t (0, refl)

types_kept : (ts us : List FuncType) (x : FuncType) → Has ts x → Has (with_types ts us) x
types_kept ts [] x h = h
types_kept ts (u ∷ us) x h = types_kept (with_type ts u) us x (type_kept ts u x h)

types_there : (ts us : List FuncType) (x : FuncType) (n : ℕ) → slice_get us n ≡ Some x → Has (with_types ts us) x
types_there ts [] x n h = cc
types_there ts (u ∷ us) x zero h = let same : u ≡ x = cc in types_kept (with_type ts u) us x (subst (Has (with_type ts u)) same (type_there ts u))
types_there ts (u ∷ us) x (suc n) h = types_there (with_type ts u) us x n h

flat_has : {A : Type 0} (f : Module → List A) (parts : List Part) (p : ℕ) (m : Module) (x : A) → module_at parts p ≡ Some m → Has (f m) x → Has (flat_map (λ p. f p.«module») parts) x
flat_has f [] p m x e h = absurd (let k = e in cc)
flat_has f (part ∷ parts) zero m x e h = let same : m ≡ part.«module» = cc in has_left (f part.«module») (flat_map (λ p. f p.«module») parts) x (subst (λ z. Has (f z) x) same h)
flat_has f (part ∷ parts) (suc p) m x e h = has_right (f part.«module») (flat_map (λ p. f p.«module») parts) x (flat_has f parts p m x e h)

merged_has : (parts : List Part) (p : ℕ) (m : Module) (t : FuncType) → module_at parts p ≡ Some m → Has m.types t → Has (merged_types parts) t
unfolding merged_types
merged_has parts p m t e h = let r = flat_has (λ m. m.types) parts p m t e h in types_there [] (flat_map (λ p. p.«module».types) parts) t r.0 r.1

pub type_placed : (parts : List Part) (p : ℕ) (m : Module) (t : FuncType) → module_at parts p ≡ Some m → Has m.types t → slice_get (merged_types parts) (place_of_type parts t) ≡ Some t
unfolding place_of_type
type_placed parts p m t e h =
    let r = merged_has parts p m t e h in
    let f = first_at (same_func_type t) (merged_types parts) 0 r.0 t r.1 (simp (each_same_self same_type (λ a. grind arith))) in
    let from_0 : 0 + f.at ≡ f.at = omega arith in
    let yes : same_func_type t f.item ≡ true = f.yes in
    let is : t ≡ f.item = grind (arith, each_same_is same_type (λ a b e. grind arith)) in
    let place : first_place (same_func_type t) (merged_types parts) 0 ≡ Some f.at = f.is ∙ ap Some from_0 in
    ap (λ o. slice_get (merged_types parts) (unwrap_or o 0)) place ∙ f.got ∙ ap Some (sym is)

pub types_map : (parts : List Part) (p : ℕ) (m : Module) → (map_of parts p m).types ≡ map (place_of_type parts) m.types
unfolding map_of
types_map parts p m = refl

pub type_entry : (parts : List Part) (p : ℕ) (m : Module) (ty : ℕ) (t : FuncType) → slice_get m.types ty ≡ Some t → slice_index (map_of parts p m).types ty ≡ place_of_type parts t
type_entry parts p m ty t h = ap (λ z. slice_index z ty) (types_map parts p m) ∙ slice_index_is (map (place_of_type parts) m.types) ty (place_of_type parts t) (map_at (place_of_type parts) m.types ty t h)

pub type_stands : (parts : List Part) (p : ℕ) (m : Module) (ty : ℕ) (t : FuncType) → module_at parts p ≡ Some m → slice_get m.types ty ≡ Some t → slice_get (merged_types parts) (slice_index (map_of parts p m).types ty) ≡ Some t
type_stands parts p m ty t e h = ap (slice_get (merged_types parts)) (type_entry parts p m ty t h) ∙ type_placed parts p m t e (ty, h)
