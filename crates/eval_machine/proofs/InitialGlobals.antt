-- The globals of a machine at first, imported ones and then those that the module defines.
use Rattle.base_lists.proofs.Common.{◌≡◌, ℕ, suc, ◌+◌, ◌<◌, ◌≤◌, List, [], ◌∷◌, ◌++◌, map, length, Bool, true, false, cond, Option, Some, None, refl, sym, ap, ap₂, ◌∙◌, inl, inr, arith, nat_lt, slice_get, lt-ltb, le-ltb, map-append, length-map, same_Some, slice_get_within, append_from, map_at}
use Rattle.base_lists.proofs.Common.{map_from, map_twice}
use Rattle.base_lists.specs.Options.{◌>>=◌, all_there}
use Rattle.base_lists.specs.Places.{places}
use Rattle.wasm_tree_spec.specs.Prelude.{Globals, GlobalType, ConstExpr, GlobalDef, Module, imported_globals}
use Rattle.wasm_tree.specs.declared.module.ConstExpr.TheVariants as const
use Rattle.wasm_meaning.specs.Prelude.{Val, Global, global_with}
use Rattle.eval_spec.specs.Prelude.{is_imported, imported_store, reads_global, value_in}
use Rattle.eval_machine.specs.declared.globals.GlobalSlot.{GlobalSlot}
use Rattle.eval_machine.specs.declared.globals.Standing.TheVariants as standing
use Rattle.eval_machine.specs.InstantiationParts.{AreFirst, standing_of}
use Rattle.eval_machine.specs.Prelude.{global_of, is_of_import, is_unset}
use Rattle.eval_machine.proofs.InitialContents.{zero_global}
use Rattle.eval_machine.proofs.IndexSpaces.{globals_many}

-- ---- which globals are unknown ----

places_append : {A : Type 0} (f : A → Bool) (xs ys : List A) (i : ℕ) → places f (xs ++ ys) i ≡ places f xs i ++ places f ys (i + length xs)
places_append f [] ys i = let z : i ≡ i + 0 = omega arith in ap (places f ys) z
places_append f (x ∷ xs) ys i = by (f x) (places_append f xs ys (suc i))
  where
    z : suc i + length xs ≡ i + suc (length xs)
    z = omega arith

    by : (b : Bool) → places f (xs ++ ys) (suc i) ≡ places f xs (suc i) ++ places f ys (suc i + length xs) →
        cond b (i ∷ places f (xs ++ ys) (suc i)) (places f (xs ++ ys) (suc i)) ≡ cond b (i ∷ places f xs (suc i)) (places f xs (suc i)) ++ places f ys (i + suc (length xs))
    by true on = ap (λ ns. i ∷ ns) (on ∙ ap (λ n. places f xs (suc i) ++ places f ys n) z)
    by false on = on ∙ ap (λ n. places f xs (suc i) ++ places f ys n) z

none_unset : (gs : List GlobalSlot) (ts : List GlobalType) (i : ℕ) → map (λ g. g.standing) gs ≡ map (λ t. standing.Imported) ts → places (λ g. is_unset g.standing) gs i ≡ []
none_unset [] ts i e = refl
none_unset (g ∷ gs) [] i e = absurd (let k = e in cc)
none_unset (g ∷ gs) (t ∷ ts) i e =
    let one : g.standing ≡ standing.Imported = cc in
    let rest : map (λ g. g.standing) gs ≡ map (λ t. standing.Imported) ts = cc in
    rw one (none_unset gs ts (suc i) rest)

unset_reads : (x : ConstExpr) → is_unset (standing_of x) ≡ reads_global x
unset_reads (const.I32 v) = refl
unset_reads (const.I64 v) = refl
unset_reads (const.Null t) = refl
unset_reads (const.Func f) = refl
unset_reads (const.Global x) = refl

own_standing : (x : ConstExpr) → is_of_import (standing_of x) ≡ false
own_standing (const.I32 v) = refl
own_standing (const.I64 v) = refl
own_standing (const.Null t) = refl
own_standing (const.Func f) = refl
own_standing (const.Global x) = refl

unset_alike : (gs : List GlobalSlot) (ds : List GlobalDef) (i : ℕ) → map (λ g. g.standing) gs ≡ map (λ d. standing_of d.init) ds → places (λ g. is_unset g.standing) gs i ≡ places (λ d. reads_global d.init) ds i
unset_alike [] [] i e = refl
unset_alike [] (d ∷ ds) i e = absurd (let k = e in cc)
unset_alike (g ∷ gs) [] i e = absurd (let k = e in cc)
unset_alike (g ∷ gs) (d ∷ ds) i e =
    let one : g.standing ≡ standing_of d.init = cc in
    let rest : map (λ g. g.standing) gs ≡ map (λ d. standing_of d.init) ds = cc in
    let b : is_unset g.standing ≡ reads_global d.init = ap is_unset one ∙ unset_reads d.init in
    ap₂ (λ b ns. cond b (i ∷ ns) ns) b (unset_alike gs ds (suc i) rest)

-- ---- their types ----

zero_types : (ts : List GlobalType) → map (λ g. g.ty) (map zero_global ts) ≡ ts
zero_types [] = refl
zero_types (t ∷ ts) = ap (λ us. t ∷ us) (zero_types ts)

value_types : (value : ConstExpr → Option Val) (ds : List GlobalDef) (ys : List Global) → all_there (global_with value) ds ≡ Some ys → map (λ g. g.ty) ys ≡ map (λ d. d.ty) ds
value_types value [] ys e = ap (map (λ g. g.ty)) (sym (same_Some [] ys e))
value_types value (d ∷ ds) ys e = by (value d.init) (all_there (global_with value) ds) refl e (value_types value ds)
  where
    by : (o : Option Val) (a : Option (List Global)) → all_there (global_with value) ds ≡ a → ((o >>= λ v. Some (record { ty = d.ty; value = v })) >>= λ y. a >>= λ ys. Some (y ∷ ys)) ≡ Some ys →
        ((ys : List Global) → all_there (global_with value) ds ≡ Some ys → map (λ g. g.ty) ys ≡ map (λ d. d.ty) ds) → map (λ g. g.ty) ys ≡ map (λ d. d.ty) (d ∷ ds)
    by None a is h on = absurd (let k = h in cc)
    by (Some v) None is h on = absurd (let k = h in cc)
    by (Some v) (Some zs) is h on = ap (map (λ g. g.ty)) (sym (same_Some (record { ty = d.ty; value = v } ∷ zs) ys h)) ∙ ap (λ us. d.ty ∷ us) (on zs is)

-- ---- all of them ----

module _ (m : Module) (imports own : List GlobalSlot) (a : map global_of imports ≡ (imported_store m).globals) (b : map (λ g. g.standing) imports ≡ map (λ t. standing.Imported) (imported_globals m.imports))
    (c : all_there (global_with (value_in m)) m.globals ≡ Some (map global_of own)) (d : map (λ g. g.standing) own ≡ map (λ d. standing_of d.init) m.globals) where
  many : length imports ≡ length (imported_globals m.imports)
  many = sym (length-map imports global_of) ∙ (ap length a ∙ length-map (imported_globals m.imports) zero_global)

  imported_at : (n : ℕ) (g : GlobalSlot) → slice_get (imports ++ own) n ≡ Some g → is_of_import g.standing ≡ is_imported m Globals n
  imported_at n g e = elim (append_from imports own n g e) [
    | inl at ↦
        let k = map_from (λ t. standing.Imported) (imported_globals m.imports) n g.standing (ap (λ xs. slice_get xs n) (sym b) ∙ map_at (λ g. g.standing) imports n g at) in
        let lt : n < length (imported_globals m.imports) = omega (arith, slice_get_within imports n g at, many) in
        ap is_of_import (sym k.2) ∙ sym (ap (nat_lt n) (globals_many m) ∙ lt-ltb n (length (imported_globals m.imports)) lt)
    | inr k ↦
        let s = map_from (λ d. standing_of d.init) m.globals k.0 g.standing (ap (λ xs. slice_get xs k.0) (sym d) ∙ map_at (λ g. g.standing) own k.0 g k.2) in
        let le : length (imported_globals m.imports) ≤ n = omega (arith, k.1, many) in
        ap is_of_import (sym s.2) ∙ (own_standing s.0.init ∙ sym (ap (nat_lt n) (globals_many m) ∙ le-ltb n (length (imported_globals m.imports)) le))
  ]

  pub are_first : AreFirst m (imports ++ own)
  are_first = record {
    defined = map global_of own;
    there = c;
    values = map-append global_of imports own ∙ ap (λ xs. xs ++ map global_of own) a;
    unset =
        let z : 0 + length imports ≡ length (imported_globals m.imports) = omega (arith, many) in
        places_append (λ g. is_unset g.standing) imports own 0 ∙ (ap₂ (λ xs n. xs ++ places (λ g. is_unset g.standing) own n) (none_unset imports (imported_globals m.imports) 0 b) z ∙ unset_alike own m.globals (length (imported_globals m.imports)) d);
    types =
        sym (map_twice (λ g. g.ty) global_of (imports ++ own))
        ∙ (ap (map (λ g. g.ty)) (map-append global_of imports own ∙ ap (λ xs. xs ++ map global_of own) a)
        ∙ (map-append (λ g. g.ty) (map zero_global (imported_globals m.imports)) (map global_of own)
        ∙ ap₂ (λ xs ys. xs ++ ys) (zero_types (imported_globals m.imports)) (value_types (value_in m) m.globals (map global_of own) c)));
    imported = imported_at;
  }
