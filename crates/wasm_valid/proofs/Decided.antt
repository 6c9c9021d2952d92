-- All items of a module hold, or there is a first that does not.
use Rattle.base_lists.proofs.Common.{◌≡◌, ◌∙◌, refl, sym, ap, subst, Bool, true, false, ℕ, zero, suc, ◌<◌, ◌≤◌, ltb, List, [], ◌∷◌, ◌++◌, map, take, length, Option, Some, None, slice_get, Contains, ◌⊎◌, inl, inr, arith, nat_tests, bytes_eq, bytes_eq-Decides}
use Rattle.wasm_tree_spec.specs.Prelude.{RefType, ValType, I32, I64, Ref, FuncType, Limits, ImportDesc, ExportDesc, ElemMode, DataMode, ConstExpr, Func, Export, Module, funcs_of, tables_of, memories_of, globals_of, type_of_func}
use Rattle.wasm_tree.specs.declared.types.RefType.TheVariants as reft
use Rattle.wasm_tree.specs.declared.module.ImportDesc.TheVariants as imported
use Rattle.wasm_tree.specs.declared.module.ExportDesc.TheVariants as exported
use Rattle.wasm_tree.specs.declared.module.ElemMode.TheVariants as elem
use Rattle.wasm_tree.specs.declared.module.DataMode.TheVariants as «data»
use Rattle.wasm_valid.specs.declared.kinds.ItemKind.{ItemKind}
use Rattle.wasm_valid.specs.declared.kinds.ItemKind.TheVariants as kind
use Rattle.wasm_valid.specs.declared.kinds.Invalid.{Invalid}
use Rattle.wasm_valid_bodies.specs.Typing.{WellTyped, TypingIsDecided}
use Rattle.wasm_valid.specs.Prelude.{const_type, table_types, LimitsHold, ImportHolds, InSpace, ElemModeHolds, DataModeHolds, body_context, HoldsAt, Item, EachHolds, ValidOrFirstInvalid, index_of, items}
use Rattle.wasm_valid.specs.Validity.{MostIsAtLeast, MostIsAtMost, PagesHold}
use Rattle.wasm_valid.specs.First.{IsFirstOf}

abbrev Either : Type 0 → Type 0
Either P = P ⊎ (P → ⊥)

both : {P Q : Type 0} → Either P → Either Q → Either (P × Q)
both (inl p) (inl q) = inl (p, q)
both (inr n) q = inr (λ h. n h.0)
both (inl p) (inr n) = inr (λ h. n h.1)

all_three : {P Q R : Type 0} → Either P → Either Q → Either R → Either (P × Q × R)
all_three (inl p) (inl q) (inl r) = inl (p, q, r)
all_three (inr n) q r = inr (λ h. n h.0)
all_three (inl p) (inr n) r = inr (λ h. n h.1)
all_three (inl p) (inl q) (inr n) = inr (λ h. n h.2)

less : (a b : ℕ) → Either (a < b)
less a b = by (ltb a b) refl
  where
    by : (t : Bool) → ltb a b ≡ t → Either (a < b)
    by true e = inl (grind (arith, nat_tests))
    by false e = inr (λ h. absurd (let no : b ≤ a = grind (arith, nat_tests) in omega arith))

at_most : (a b : ℕ) → Either (a ≤ b)
at_most a b = by (ltb b a) refl
  where
    by : (t : Bool) → ltb b a ≡ t → Either (a ≤ b)
    by true e = inr (λ h. absurd (let no : b < a = grind (arith, nat_tests) in omega arith))
    by false e = inl (grind (arith, nat_tests))

-- Whether there is an entry at a position that has a property can be decided.
entry : {A : Type 0} (xs : List A) (i : ℕ) (P : A → Type 0) → ((x : A) → Either (P x)) → Either ((x : A) × (slice_get xs i ≡ Some x) × P x)
entry {A} xs i P either = by (slice_get xs i) refl
  where
    at : (x : A) → slice_get xs i ≡ Some x → Either (P x) → Either ((x : A) × (slice_get xs i ≡ Some x) × P x)
    at x e (inl p) = inl (x, e, p)
    at x e (inr n) = inr (λ (y, is, p). let same : ◌≡◌ {A = Option A} (Some y) (Some x) = sym is ∙ e in let one : y ≡ x = cc in n (subst P one p))

    by : (o : Option A) → slice_get xs i ≡ o → Either ((x : A) × (slice_get xs i ≡ Some x) × P x)
    by None e = inr (λ (y, is, p). let same : ◌≡◌ {A = Option A} None (Some y) = sym e ∙ is in cc)
    by (Some x) e = at x e (either x)

-- Whether there is an entry at a position that has two properties can be decided.
entry_both : {A : Type 0} (xs : List A) (i : ℕ) (P Q : A → Type 0) → ((x : A) → Either (P x)) → ((x : A) → Either (Q x)) → Either ((x : A) × (slice_get xs i ≡ Some x) × P x × Q x)
entry_both {A} xs i P Q one other = flat (entry xs i (λ x. P x × Q x) (λ x. both (one x) (other x)))
  where
    flat : Either ((x : A) × (slice_get xs i ≡ Some x) × (P x × Q x)) → Either ((x : A) × (slice_get xs i ≡ Some x) × P x × Q x)
    flat (inl h) = inl (h.0, h.1, h.2.0, h.2.1)
    flat (inr n) = inr (λ h. n (h.0, h.1, (h.2, h.3)))

same_type : (t u : ValType) → Either (t ≡ u)
same_type I32 I32 = inl refl
same_type I64 I64 = inl refl
same_type (Ref reft.Func) (Ref reft.Func) = inl refl
same_type (Ref reft.Extern) (Ref reft.Extern) = inl refl
same_type I32 I64 = inr (λ e. cc)
same_type I32 (Ref r) = inr (λ e. cc)
same_type I64 I32 = inr (λ e. cc)
same_type I64 (Ref r) = inr (λ e. cc)
same_type (Ref r) I32 = inr (λ e. cc)
same_type (Ref r) I64 = inr (λ e. cc)
same_type (Ref reft.Func) (Ref reft.Extern) = inr (λ e. cc)
same_type (Ref reft.Extern) (Ref reft.Func) = inr (λ e. cc)

same_ref : (r s : RefType) → Either (r ≡ s)
same_ref reft.Func reft.Func = inl refl
same_ref reft.Extern reft.Extern = inl refl
same_ref reft.Func reft.Extern = inr (λ e. cc)
same_ref reft.Extern reft.Func = inr (λ e. cc)

is_some_of : {A : Type 0} (o : Option A) (y : A) → ((x : A) → Either (x ≡ y)) → Either (o ≡ Some y)
is_some_of None y either = inr (λ e. cc)
is_some_of {A} (Some x) y either = by (either x)
  where
    by : Either (x ≡ y) → Either (◌≡◌ {A = Option A} (Some x) (Some y))
    by (inl e) = inl (ap Some e)
    by (inr n) = inr (λ e. let same : x ≡ y = cc in n same)

typed : (m : Module) (e : ConstExpr) (t : ValType) → Either (const_type m e ≡ Some t)
typed m e t = is_some_of (const_type m e) t (λ u. same_type u t)

empty : {A : Type 0} (xs : List A) → Either (xs ≡ [])
empty [] = inl refl
empty (x ∷ xs) = inr (λ e. cc)

least : (o : Option ℕ) (min : ℕ) → Either (MostIsAtLeast o min)
least None min = inl tt
least (Some max) min = at_most min max

most : (o : Option ℕ) (bound : ℕ) → Either (MostIsAtMost o bound)
most None bound = inl tt
most (Some max) bound = at_most max bound

pages : (l : Limits) → Either (PagesHold l)
pages l = all_three (least l.max l.min) (at_most l.min 65536) (most l.max 65536)

imports : (m : Module) (d : ImportDesc) → Either (ImportHolds m d)
imports m (imported.Func ty) = less ty (length m.types)
imports m (imported.Table ty) = least ty.limits.max ty.limits.min
imports m (imported.Memory limits) = pages limits
imports m (imported.Global ty) = inl tt

in_space : (m : Module) (d : ExportDesc) → Either (InSpace m d)
in_space m (exported.Func x) = less x (length (funcs_of m))
in_space m (exported.Table x) = less x (length (tables_of m))
in_space m (exported.Memory x) = less x (length (memories_of m))
in_space m (exported.Global x) = less x (length (globals_of m))

elem_mode : (m : Module) (ty : RefType) (mode : ElemMode) → Either (ElemModeHolds m ty mode)
elem_mode m ty (elem.Active table offset) = both (is_some_of (slice_get (table_types m) table) ty (λ r. same_ref r ty)) (typed m offset I32)
elem_mode m ty elem.Passive = inl tt
elem_mode m ty elem.Declarative = inl tt

data_mode : (m : Module) (mode : DataMode) → Either (DataModeHolds m mode)
data_mode m («data».Active memory offset) = both (less memory (length (memories_of m))) (typed m offset I32)
data_mode m «data».Passive = inl tt

contains : (xs : List (List ℕ)) (y : List ℕ) → Either (Contains xs y)
contains [] y = inr (λ (k, lt, is). absurd (omega arith))
contains (x ∷ xs) y = by (bytes_eq x y) refl (contains xs y)
  where
    by : (b : Bool) → bytes_eq x y ≡ b → Either (Contains xs y) → Either (Contains (x ∷ xs) y)
    by true e rest = inl (zero, omega arith, (bytes_eq-Decides x y).0 e)
    by false e (inl (k, lt, is)) = inl (suc k, omega arith, is)
    by false e (inr n) = inr no
      where
        no : Contains (x ∷ xs) y → ⊥
        no (zero, lt, is) = let same : bytes_eq x y ≡ true = (bytes_eq-Decides x y).1 is in cc
        no (suc k, lt, is) = n (k, omega arith, is)

not_contains : (xs : List (List ℕ)) (y : List ℕ) → Either (Contains xs y → ⊥)
not_contains xs y = by (contains xs y)
  where
    by : Either (Contains xs y) → Either (Contains xs y → ⊥)
    by (inl h) = inr (λ n. n h)
    by (inr n) = inl n

each_typed : (m : Module) (t : ValType) (es : List ConstExpr) → Either ((j : ℕ) (e : ConstExpr) → slice_get es j ≡ Some e → const_type m e ≡ Some t)
each_typed m t [] = inl (λ j e at. cc)
each_typed m t (x ∷ es) = by (typed m x t) (each_typed m t es)
  where
    by : Either (const_type m x ≡ Some t) → Either ((j : ℕ) (e : ConstExpr) → slice_get es j ≡ Some e → const_type m e ≡ Some t) → Either ((j : ℕ) (e : ConstExpr) → slice_get (x ∷ es) j ≡ Some e → const_type m e ≡ Some t)
    by (inr n) rest = inr (λ h. n (h zero x refl))
    by (inl is) (inr n) = inr (λ h. n (λ j e at. h (suc j) e at))
    by (inl is) (inl rest) = inl all
      where
        all : (j : ℕ) (e : ConstExpr) → slice_get (x ∷ es) j ≡ Some e → const_type m e ≡ Some t
        all zero e at = let same : x ≡ e = cc in ap (const_type m) (sym same) ∙ is
        all (suc j) e at = rest j e at

abbrev Starts : Module → Type 0
Starts m = (x : ℕ) × (t : FuncType) × (m.start ≡ Some x) × (type_of_func m x ≡ Some t) × (t.params ≡ []) × (t.results ≡ [])

same_start : (m : Module) (x y : ℕ) → m.start ≡ Some x → m.start ≡ Some y → y ≡ x
same_start m x y e is = let same : ◌≡◌ {A = Option ℕ} (Some y) (Some x) = sym is ∙ e in cc

starts_with : (m : Module) (x : ℕ) (t : FuncType) → m.start ≡ Some x → type_of_func m x ≡ Some t → Either ((t.params ≡ []) × (t.results ≡ [])) → Either (Starts m)
starts_with m x t s e (inl h) = inl (x, t, s, e, h.0, h.1)
starts_with m x t s e (inr n) = inr (λ h.
    let number = same_start m x h.0 s h.2 in
    let types : ◌≡◌ {A = Option FuncType} (Some h.1) (Some t) = sym h.3 ∙ ap (type_of_func m) number ∙ e in
    let same : h.1 ≡ t = cc in
    n (subst (λ (v : FuncType). (v.params ≡ []) × (v.results ≡ [])) same (h.4, h.5)))

starts_at : (m : Module) (x : ℕ) → m.start ≡ Some x → (o : Option FuncType) → type_of_func m x ≡ o → Either (Starts m)
starts_at m x s None e = inr (λ h.
    let number = same_start m x h.0 s h.2 in
    let types : ◌≡◌ {A = Option FuncType} (Some h.1) None = sym h.3 ∙ ap (type_of_func m) number ∙ e in cc)
starts_at m x s (Some t) e = starts_with m x t s e (both (empty t.params) (empty t.results))

starts : (m : Module) (o : Option ℕ) → m.start ≡ o → Either (Starts m)
starts m None s = inr (λ h. let numbers : ◌≡◌ {A = Option ℕ} None (Some h.0) = sym s ∙ h.2 in cc)
starts m (Some x) s = starts_at m x s (type_of_func m x) refl

-- The type of a function exists, and its body is well typed in the context of this type.
abbrev Body : Module → Func → Type 0
Body m f = (t : FuncType) × (slice_get m.types f.ty ≡ Some t) × WellTyped (body_context m f t) f.body [] t.results

body_of : (m : Module) (i : ℕ) → Either ((f : Func) × (slice_get m.funcs i ≡ Some f) × Body m f) → Either (HoldsAt m kind.Body i)
body_of m i (inl h) = inl (h.0, h.2.0, h.1, h.2.1, h.2.2)
body_of m i (inr n) = inr (λ h. n (h.0, h.2, (h.1, h.3, h.4)))

bodies : TypingIsDecided → (m : Module) (i : ℕ) → Either (HoldsAt m kind.Body i)
bodies typing m i =
    body_of m i (entry m.funcs i (Body m) (λ f. entry m.types f.ty (λ t. WellTyped (body_context m f t) f.body [] t.results) (λ t. typing (body_context m f t) f.body [] t.results)))

holds : TypingIsDecided → (m : Module) (k : ItemKind) (i : ℕ) → Either (HoldsAt m k i)
holds typing m kind.Import i = entry m.imports i (λ x. ImportHolds m x.desc) (λ x. imports m x.desc)
holds typing m kind.Memories i = at_most (length (memories_of m)) 1
holds typing m kind.Func i = entry m.funcs i (λ f. f.ty < length m.types) (λ f. less f.ty (length m.types))
holds typing m kind.Table i = entry m.tables i (λ t. LimitsHold t.limits) (λ t. least t.limits.max t.limits.min)
holds typing m kind.Memory i = entry m.mems i PagesHold (λ l. pages l)
holds typing m kind.Global i = entry m.globals i (λ g. const_type m g.init ≡ Some g.ty.ty) (λ g. typed m g.init g.ty.ty)
holds typing m kind.Export i =
    entry_both m.exports i (λ e. InSpace m e.desc) (λ e. Contains (map (λ (x : Export). x.name) (take i m.exports)) e.name → ⊥) (λ e. in_space m e.desc) (λ e. not_contains (map (λ (x : Export). x.name) (take i m.exports)) e.name)
holds typing m kind.Start i = starts m m.start refl
holds typing m kind.Elem i =
    entry_both m.elems i (λ s. (j : ℕ) (e : ConstExpr) → slice_get s.items j ≡ Some e → const_type m e ≡ Some (Ref s.ty)) (λ s. ElemModeHolds m s.ty s.mode) (λ s. each_typed m (Ref s.ty) s.items) (λ s. elem_mode m s.ty s.mode)
holds typing m kind.Segment i = entry m.datas i (λ s. DataModeHolds m s.mode) (λ s. data_mode m s.mode)
holds typing m kind.Body i = bodies typing m i

abbrev AllOrFirst : Module → List Item → Type 0
AllOrFirst m xs = EachHolds m xs ⊎ ((e : Invalid) × IsFirstOf m xs e)

and_more : (m : Module) (x : Item) (xs : List Item) → Either (HoldsAt m x.kind x.place) → AllOrFirst m xs → AllOrFirst m (x ∷ xs)
and_more m x xs (inr fails) rest = inr (record { kind = x.kind; index = index_of m x.kind x.place }, (x, [], xs, refl, tt, fails, refl, refl))
and_more m x xs (inl here) (inl all) = inl (here, all)
and_more m x xs (inl here) (inr (e, (y, before, after, split, hold, fails, kind_is, index_is))) = inr (e, (y, x ∷ before, after, ap (λ l. x ∷ l) split, (here, hold), fails, kind_is, index_is))

all_or_first : TypingIsDecided → (m : Module) (xs : List Item) → AllOrFirst m xs
all_or_first typing m [] = inl tt
all_or_first typing m (x ∷ xs) = and_more m x xs (holds typing m x.kind x.place) (all_or_first typing m xs)

pub valid_or_first_invalid : TypingIsDecided → ValidOrFirstInvalid
valid_or_first_invalid typing m many = all_or_first typing m (items m many)
