-- Where imports end and which values are read: the definitions by paths agree with those that
-- compute.
use Rattle.base_lists.proofs.Common.{◌≡◌, ◌∙◌, ap, subst, refl, ℕ, zero, suc, ◌+◌, ◌-◌, ◌<◌, ◌≤◌, List, [], ◌∷◌, ◌++◌, map, length, arith, Option, Some, None, ◌↔◌, Bool, true, false, cond, option_and_then, slice_get}
use Rattle.wasm_tree_spec.specs.Prelude.{Globals, Import, GlobalDef, ConstExpr, Module, index_of_export, space_of_export}
use Rattle.wasm_tree.specs.declared.module.ConstExpr.TheVariants as const
use Rattle.wasm_meaning.specs.Prelude.{PathStep, EndsWith, LeadsTo, Part, Site, End, Defined, Outside, Entity, Read, places, module_at, import_at, imports_of, has_kind, joined, imported_as, entity_step, joined_step, import_step, sites_in, sites_from, sites, end_of, initial, outside_read}
use Rattle.wasm_meaning.specs.Prelude.{global_import, end_step, read_step, initials_from, read_of}
use Rattle.wasm_meaning.specs.Paths.{In, here, there}
use Rattle.wasm_meaning.specs.Linking.{LeadsToEnd, expr_step, Reads}
use Rattle.wasm_meaning.proofs.Walks.{walk_is}

in_front : {A : Type 0} {x : A} {xs : List A} (ys : List A) → In x xs → In x (xs ++ ys)
in_front ys here = here
in_front ys (there i) = there (in_front ys i)

in_back : {A : Type 0} {x : A} (xs : List A) {ys : List A} → In x ys → In x (xs ++ ys)
in_back [] i = i
in_back (y ∷ xs) i = there (in_back xs i)

-- ---- imports ----

record Between (n low high : ℕ) : Type 0 where
  least : low ≤ n
  most : n < high

placed : {A : Type 0} (test : A → Bool) (xs : List A) (k i n : ℕ) → slice_get (places test xs k) i ≡ Some n → Between n k (k + length xs)
placed test [] k i n h = cc
placed test (x ∷ xs) k i n h = by (placed test xs (suc k)) (test x) i h
  where
    wider : Between n (suc k) (suc k + length xs) → Between n k (k + suc (length xs))
    wider b = record { least = omega (arith, b.least); most = omega (arith, b.most) }

    by : ((i n : ℕ) → slice_get (places test xs (suc k)) i ≡ Some n → Between n (suc k) (suc k + length xs)) → (b : Bool) (i : ℕ) → slice_get (cond b (k ∷ places test xs (suc k)) (places test xs (suc k))) i ≡ Some n →
        Between n k (k + suc (length xs))
    by more true zero e = let same : k ≡ n = cc in record { least = omega (arith, same); most = omega (arith, same) }
    by more true (suc i) e = wider (more i n e)
    by more false i e = wider (more i n e)

site_in : (p count from n : ℕ) → from ≤ n → n < from + count → In {A = Site} (record { part = p; import = n }) (sites_in p count from)
site_in p zero from n l h = absurd (omega (arith, l, h))
site_in p (suc count) from n l h = by (site_in p count (suc from)) (n - from) (omega (arith, l))
  where
    by : ((n : ℕ) → suc from ≤ n → n < suc from + count → In {A = Site} (record { part = p; import = n }) (sites_in p count (suc from))) → (d : ℕ) → n ≡ from + d →
        In {A = Site} (record { part = p; import = n }) (sites_in p (suc count) from)
    by more zero e = let same : n ≡ from = omega (arith, e) in rw same here
    by more (suc d) e = there (more n (omega (arith, e)) (omega (arith, h)))

in_sites : (parts : List Part) (first p : ℕ) (m : Module) (n : ℕ) → module_at parts p ≡ Some m → n < length m.imports → In {A = Site} (record { part = first + p; import = n }) (sites_from first parts)
in_sites [] first p m n h l = cc
in_sites (part ∷ parts) first zero m n h l =
    let same : part.«module» ≡ m = cc in
    let l : n < length part.«module».imports = rw same l in
    let e : first + 0 ≡ first = omega arith in rw e (in_front (sites_from (suc first) parts) (site_in first (length part.«module».imports) 0 n (omega arith) (omega (arith, l))))
in_sites (part ∷ parts) first (suc p) m n h l =
    let e : first + suc p ≡ suc first + p = omega arith in rw e (in_back (sites_in first (length part.«module».imports) 0) (in_sites parts (suc first) p m n h l))

import_in : (parts : List Part) (e : Entity) (t : Site) → imported_as parts e ≡ Some t → In t (sites parts)
import_in parts e t h = by (module_at parts e.part) refl h
  where
    inner : (m : Module) → module_at parts e.part ≡ Some m → (o : Option ℕ) → slice_get (imports_of (space_of_export e.what) m) (index_of_export e.what) ≡ o →
        option_and_then {U = Site} (λ n. Some (record { part = e.part; import = n })) o ≡ Some t → In t (sites parts)
    inner m is None at k = cc
    inner m is (Some n) at k =
        let same : record { part = e.part; import = n } ≡ t = cc in
        let b = placed (has_kind (space_of_export e.what)) m.imports 0 (index_of_export e.what) n at in
        let from_0 : 0 + e.part ≡ e.part = omega arith in
        subst (λ t. In t (sites parts)) (ap (λ p. record { part = p; import = n }) from_0 ∙ same) (in_sites parts 0 e.part m n is (omega (arith, b.most)))

    by : (o : Option Module) → module_at parts e.part ≡ o → option_and_then (λ m. option_and_then (λ n. Some (record { part = e.part; import = n })) (slice_get (imports_of (space_of_export e.what) m) (index_of_export e.what))) o ≡ Some t → In t (sites parts)
    by None is k = cc
    by (Some m) is k = inner m is (slice_get (imports_of (space_of_export e.what) m) (index_of_export e.what)) refl k

goes_to_import : (parts : List Part) (s t : Site) → import_step parts s ≡ Some (LeadsTo t) → In t (sites parts)
goes_to_import parts s t h = by (import_at parts s) h
  where
    at_entity : (e : Entity) (o : Option Site) → imported_as parts e ≡ o → Some (entity_step e o) ≡ Some (LeadsTo t) → In t (sites parts)
    at_entity e None is k = cc
    at_entity e (Some u) is k = let same : u ≡ t = cc in import_in parts e t (is ∙ ap Some same)

    at_joined : (o : Option Entity) → Some (joined_step parts s o) ≡ Some (LeadsTo t) → In t (sites parts)
    at_joined None k = cc
    at_joined (Some e) k = at_entity e (imported_as parts e) refl k

    by : (o : Option Import) → option_and_then (λ i. Some (joined_step parts s (joined parts i))) o ≡ Some (LeadsTo t) → In t (sites parts)
    by None k = cc
    by (Some i) k = at_joined (joined parts i) k

pub ends_are : (parts : List Part) (s : Site) (e : End) → LeadsToEnd parts s e ↔ (end_of parts s ≡ Some e)
ends_are parts = walk_is (import_step parts) (sites parts) (goes_to_import parts)

-- ---- reads ----

initial_in : (p : ℕ) (gs : List GlobalDef) (i : ℕ) (g : GlobalDef) → slice_get gs i ≡ Some g → In {A = Read} (record { part = p; expr = g.init }) (map {B = Read} (λ g. record { part = p; expr = g.init }) gs)
initial_in p [] i g h = cc
initial_in p (x ∷ gs) zero g h = let same : x ≡ g = cc in rw same here
initial_in p (x ∷ gs) (suc i) g h = there (initial_in p gs i g h)

in_initials : (parts : List Part) (first p : ℕ) (m : Module) (i : ℕ) (g : GlobalDef) → module_at parts p ≡ Some m → slice_get m.globals i ≡ Some g → In {A = Read} (record { part = first + p; expr = g.init }) (initials_from first parts)
in_initials [] first p m i g h at = cc
in_initials (part ∷ parts) first zero m i g h at =
    let same : part.«module» ≡ m = cc in
    let at : slice_get part.«module».globals i ≡ Some g = rw same at in
    let e : first + 0 ≡ first = omega arith in rw e (in_front (initials_from (suc first) parts) (initial_in first part.«module».globals i g at))
in_initials (part ∷ parts) first (suc p) m i g h at =
    let e : first + suc p ≡ suc first + p = omega arith in rw e (in_back (map {B = Read} (λ g. record { part = first; expr = g.init }) part.«module».globals) (in_initials parts (suc first) p m i g h at))

initial_known : (parts : List Part) (e : Entity) (expr : ConstExpr) → initial parts e ≡ Some expr → In {A = Read} (record { part = e.part; expr = expr }) (initials_from 0 parts)
initial_known parts e expr h = by (module_at parts e.part) refl h
  where
    inner : (m : Module) → module_at parts e.part ≡ Some m → (o : Option GlobalDef) → slice_get m.globals (index_of_export e.what - length (imports_of Globals m)) ≡ o → option_and_then (λ g. Some g.init) o ≡ Some expr →
        In {A = Read} (record { part = e.part; expr = expr }) (initials_from 0 parts)
    inner m is None at k = cc
    inner m is (Some g) at k = let same : g.init ≡ expr = cc in
        let from_0 : 0 + e.part ≡ e.part = omega arith in
        subst (λ x. In {A = Read} (record { part = e.part; expr = x }) (initials_from 0 parts)) same (subst (λ p. In {A = Read} (record { part = p; expr = g.init }) (initials_from 0 parts)) from_0 (in_initials parts 0 e.part m _ g is at))

    by : (o : Option Module) → module_at parts e.part ≡ o → option_and_then (λ m. option_and_then (λ g. Some g.init) (slice_get m.globals (index_of_export e.what - length (imports_of Globals m)))) o ≡ Some expr →
        In {A = Read} (record { part = e.part; expr = expr }) (initials_from 0 parts)
    by None is k = cc
    by (Some m) is k = inner m is (slice_get m.globals (index_of_export e.what - length (imports_of Globals m))) refl k

goes_to_read : (parts : List Part) (r q : Read) → read_step parts r ≡ Some (LeadsTo q) → In q (initials_from 0 parts)
goes_to_read parts r q h = by r.expr h
  where
    at_value : (e : Entity) (o : Option ConstExpr) → initial parts e ≡ o → option_and_then {U = PathStep Read Read} (λ expr. Some (LeadsTo (record { part = e.part; expr = expr }))) o ≡ Some (LeadsTo q) → In q (initials_from 0 parts)
    at_value e None is k = cc
    at_value e (Some expr) is k = let same : record { part = e.part; expr = expr } ≡ q = cc in subst (λ x. In x (initials_from 0 parts)) same (initial_known parts e expr is)

    at_outside : (o : Option Read) → option_and_then {U = PathStep Read Read} (λ r. Some (EndsWith r)) o ≡ Some (LeadsTo q) → In q (initials_from 0 parts)
    at_outside None k = cc
    at_outside (Some x) k = cc

    at_end : (o : Option End) → end_step parts o ≡ Some (LeadsTo q) → In q (initials_from 0 parts)
    at_end None k = cc
    at_end (Some (Outside s)) k = at_outside (outside_read parts s) k
    at_end (Some (Defined e)) k = at_value e (initial parts e) refl k

    by : (x : ConstExpr) → expr_step parts r.part x ≡ Some (LeadsTo q) → In q (initials_from 0 parts)
    by (const.Global x) k = at_end (option_and_then (end_of parts) (global_import parts r.part x)) k
    by (const.I32 v) k = cc
    by (const.I64 v) k = cc
    by (const.Null t) k = cc
    by (const.Func f) k = cc

pub reads_are : (parts : List Part) (p : ℕ) (expr : ConstExpr) (r : Read) → Reads parts (record { part = p; expr = expr }) r ↔ (read_of parts p expr ≡ Some r)
reads_are parts p expr = walk_is (read_step parts) (initials_from 0 parts) (goes_to_read parts) (record { part = p; expr = expr })
