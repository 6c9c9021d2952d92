-- Each index of a module that is added names what the module says, in the store after it and in
-- every extension of this store.
use Rattle.base_lists.proofs.Common.{◌≡◌, ◌∙◌, refl, sym, ap, subst, ℕ, zero, suc, ◌+◌, List, [], ◌∷◌, ◌++◌, map, length, Option, Some, None, Bool, true, false, ◌&&◌, ⊎_elim, arith, slice_get, true≢false, nat_le, cons_option, le-leb, and_parts, and_from, same_Some, cond_is, numbers_at, and_then_is}
use Rattle.base_lists.proofs.Common.{all_there_at, unwrap_or_false_is, append_at_left, append_from, append_right, map_at, map_from, slice_get_within, length-map, copies_length, each_same_self}
use Rattle.std.proofs.Common.{filter_map}
use Rattle.base_lists.specs.Options.{◌>>=◌}
use Rattle.wasm_tree_spec.specs.Prelude.{same_func_type, same_ref, same_type, Functions, Tables, Memories, Globals, FuncType, Limits, TableType, GlobalType, Import, ImportDesc, Module, func_of, table_of, memory_of, global_of, imported_funcs, imported_tables, imported_memories, imported_globals}
use Rattle.wasm_tree.specs.declared.module.ImportDesc.TheVariants as im
use Rattle.wasm_meaning.specs.Prelude.{Inst, Func, Table, Memory, Global, Store, null_of, type_of_func, ExternalValue, FuncAt, TableAt, MemoryAt, GlobalAt, address_of, numbers, new_func, global_with, const_value, import_type, joined_stores, same_bool, meets_most, meets, is_match, Added}
use Rattle.wasm_meaning.specs.Prelude.{addresses_of, next_inst, all_match, added_as, store_with}
use Rattle.world_simulation.specs.Prelude.{new_table, new_memory, AddsWith}
use Rattle.world_simulation.specs.StoreExtension.{StaysIn}
use Rattle.world_simulation.specs.TypedInstances.{Offers, IsTyped, AddedModulesAreTyped, InstancesStayTyped}
use Rattle.world_simulation.proofs.AddedModuleExtension.{stays_in, joined_stays, own_segments_fill, added_with}

-- ---- what matches goes on to match ----

-- Whether what was found is of the type.
abbrev same_func : Option FuncType → Option Func → Option Bool
same_func t o = t >>= λ t. (o >>= λ f. Some (type_of_func f)) >>= λ u. Some (same_func_type t u)

abbrev same_table : TableType → Option Table → Option Bool
same_table t o = o >>= λ u. Some (same_ref t.ty u.ty && meets (length u.slots) u.most t.limits)

abbrev same_memory : Limits → Option Memory → Option Bool
same_memory l o = o >>= λ u. Some (meets u.pages u.most l)

abbrev same_global : GlobalType → Option Global → Option Bool
same_global t o = o >>= λ u. Some (same_type t.ty u.ty.ty && same_bool t.mutable u.ty.mutable)

module _ (s t : Store) (stays : StaysIn s t) (m : Module) where
  pub match_stays : (d : ImportDesc) (x : ExternalValue) → is_match s m d x ≡ Some true → is_match t m d x ≡ Some true
  match_stays (im.Func ty) (FuncAt a) h = go (slice_get s.funcs a) refl h
    where
      go : (o : Option Func) → slice_get s.funcs a ≡ o → same_func (import_type m ty) o ≡ Some true → same_func (import_type m ty) (slice_get t.funcs a) ≡ Some true
      go None e h = let u = and_then_is (import_type m ty) _ true h in absurd (let k = u.2 in cc)
      go (Some f) e h = ap (same_func (import_type m ty)) (stays.funcs a f e) ∙ h
  match_stays (im.Table ty) (TableAt a) h = go (slice_get s.tables a) refl h
    where
      go : (o : Option Table) → slice_get s.tables a ≡ o → same_table ty o ≡ Some true → same_table ty (slice_get t.tables a) ≡ Some true
      go None e h = cc
      go (Some u) e h =
          let y = stays.tables a u e in
          let c = and_parts (same_ref ty.ty u.ty) (meets (length u.slots) u.most ty.limits) (same_Some _ _ h) in
          let size : meets (length y.0.slots) y.0.most ty.limits ≡ true = grind (arith, y.2.size, y.2.most, c.1) in
          ap (same_table ty) y.1 ∙ ap Some (and_from (same_ref ty.ty y.0.ty) (meets (length y.0.slots) y.0.most ty.limits) (ap (same_ref ty.ty) y.2.type ∙ c.0) size)
  match_stays (im.Memory l) (MemoryAt a) h = go (slice_get s.mems a) refl h
    where
      go : (o : Option Memory) → slice_get s.mems a ≡ o → same_memory l o ≡ Some true → same_memory l (slice_get t.mems a) ≡ Some true
      go None e h = cc
      go (Some u) e h =
          let y = stays.mems a u e in
          let size : meets y.0.pages y.0.most l ≡ true = grind (arith, y.2.size, y.2.most, h) in
          ap (same_memory l) y.1 ∙ ap Some size
  match_stays (im.Global ty) (GlobalAt a) h = go (slice_get s.globals a) refl h
    where
      go : (o : Option Global) → slice_get s.globals a ≡ o → same_global ty o ≡ Some true → same_global ty (slice_get t.globals a) ≡ Some true
      go None e h = cc
      go (Some u) e h = let y = stays.globals a u e in ap (same_global ty) y.1 ∙ ap (λ (z : GlobalType). Some (same_type ty.ty z.ty && same_bool ty.mutable z.mutable)) y.2.type ∙ h
  match_stays _ _ h = cc

pub stays_typed : InstancesStayTyped
stays_typed m i s t stays h = record {
  funcs = λ n ty e. on (im.Func ty) _ (h.funcs n ty e);
  tables = λ n u e. on (im.Table u) _ (h.tables n u e);
  mems = λ n l e. on (im.Memory l) _ (h.mems n l e);
  globals = λ n g e. on (im.Global g) _ (h.globals n g e);
}
  where
    on : (d : ImportDesc) (o : Option ExternalValue) → Offers s m d o → Offers t m d o
    on d o x = (x.0, x.1, match_stays s t stays m d x.0 x.2)

-- ---- what imports denote ----

-- Neither is there, or both are and P holds of them.
data Kinds {A : Type 0} (P : A → ℕ → Type 0) : Option A → Option ℕ → Type 0 where
  neither : Kinds P None None
  both : {y : A} {a : ℕ} → P y a → Kinds P (Some y) (Some a)

-- The lists are of equal length, and P holds place by place.
record Alike {A : Type 0} (P : A → ℕ → Type 0) (ys : List A) (xs : List ℕ) : Type 0 where
  pub count : length xs ≡ length ys
  pub each : (n : ℕ) (y : A) → slice_get ys n ≡ Some y → (a : ℕ) × (slice_get xs n ≡ Some a) × P y a

one_more : {A : Type 0} {P : A → ℕ → Type 0} {o : Option A} {q : Option ℕ} {ys : List A} {xs : List ℕ} → Kinds P o q → Alike P ys xs → Alike P (cons_option o ys) (cons_option q xs)
one_more neither r = r
one_more {A} {P} {ys = ys} {xs = xs} (both {y = y} {a = a} p) r = record { count = ap suc r.count; each = each }
  where
    each : (n : ℕ) (z : A) → slice_get (y ∷ ys) n ≡ Some z → (b : ℕ) × (slice_get (a ∷ xs) n ≡ Some b) × P z b
    each zero z e = (a, refl, subst (λ z. P z a) (same_Some _ _ e) p)
    each (suc n) z e = r.each n z e

module _ (s : Store) (m : Module) where
  things_alike : {A : Type 0} (P : A → ℕ → Type 0) (of : ImportDesc → Option A) (address : ExternalValue → Option ℕ) → ((d : ImportDesc) (x : ExternalValue) → is_match s m d x ≡ Some true → Kinds P (of d) (address x)) →
      (is : List Import) (xs : List ExternalValue) → all_match s m is xs ≡ true → Alike P (filter_map (λ i. of i.desc) is) (filter_map address xs)
  things_alike P of address kinds [] [] h = record { count = refl; each = λ n y e. absurd (let k = e in cc) }
  things_alike P of address kinds (i ∷ is) (x ∷ xs) h =
      let p = and_parts _ _ h in one_more (kinds i.desc x (unwrap_or_false_is _ p.0)) (things_alike P of address kinds is xs p.1)
  things_alike P of address kinds [] (x ∷ xs) h = absurd (true≢false (sym h))
  things_alike P of address kinds (i ∷ is) [] h = absurd (true≢false (sym h))

  func_kinds : (d : ImportDesc) (x : ExternalValue) → is_match s m d x ≡ Some true → Kinds (λ ty a. is_match s m (im.Func ty) (FuncAt a) ≡ Some true) (func_of d) (address_of Functions x)
  func_kinds (im.Func ty) (FuncAt a) h = both h
  func_kinds (im.Table ty) (TableAt a) h = neither
  func_kinds (im.Memory l) (MemoryAt a) h = neither
  func_kinds (im.Global ty) (GlobalAt a) h = neither
  func_kinds _ _ h = absurd (let k = h in cc)

  table_kinds : (d : ImportDesc) (x : ExternalValue) → is_match s m d x ≡ Some true → Kinds (λ ty a. is_match s m (im.Table ty) (TableAt a) ≡ Some true) (table_of d) (address_of Tables x)
  table_kinds (im.Func ty) (FuncAt a) h = neither
  table_kinds (im.Table ty) (TableAt a) h = both h
  table_kinds (im.Memory l) (MemoryAt a) h = neither
  table_kinds (im.Global ty) (GlobalAt a) h = neither
  table_kinds _ _ h = absurd (let k = h in cc)

  memory_kinds : (d : ImportDesc) (x : ExternalValue) → is_match s m d x ≡ Some true → Kinds (λ l a. is_match s m (im.Memory l) (MemoryAt a) ≡ Some true) (memory_of d) (address_of Memories x)
  memory_kinds (im.Func ty) (FuncAt a) h = neither
  memory_kinds (im.Table ty) (TableAt a) h = neither
  memory_kinds (im.Memory l) (MemoryAt a) h = both h
  memory_kinds (im.Global ty) (GlobalAt a) h = neither
  memory_kinds _ _ h = absurd (let k = h in cc)

  global_kinds : (d : ImportDesc) (x : ExternalValue) → is_match s m d x ≡ Some true → Kinds (λ ty a. is_match s m (im.Global ty) (GlobalAt a) ≡ Some true) (global_of d) (address_of Globals x)
  global_kinds (im.Func ty) (FuncAt a) h = neither
  global_kinds (im.Table ty) (TableAt a) h = neither
  global_kinds (im.Memory l) (MemoryAt a) h = neither
  global_kinds (im.Global ty) (GlobalAt a) h = both h
  global_kinds _ _ h = absurd (let k = h in cc)

-- ---- what is allocated ----

size_meets : (n : ℕ) (most : Option ℕ) → nat_le n n && meets_most most most ≡ true
size_meets n None = and_from (nat_le n n) true (le-leb n n (omega arith)) refl
size_meets n (Some k) = and_from (nat_le n n) (nat_le k k) (le-leb n n (omega arith)) (le-leb k k (omega arith))

module _ (s : Store) (m : Module) (things : List ExternalValue) (matched : all_match s m m.imports things ≡ true) (t : Store) (made : AddsWith (const_value s.globals (next_inst s m things)) m (next_inst s m things) t) where
  abbrev inst : Inst
  inst = next_inst s m things

  abbrev all : Store
  all = joined_stores s t

  -- An index space has what the imports denote, and then what the module defines.
  each_offers : {A : Type 0} (c : A → ImportDesc) (thing : ℕ → ExternalValue) (old own : List A) (xs : List ℕ) (from : ℕ) → Alike (λ y a. is_match s m (c y) (thing a) ≡ Some true) old xs → ((k : ℕ) (y : A) → slice_get own k ≡ Some y → is_match all m (c y) (thing (from + k)) ≡ Some true) →
      (count : ℕ) → length own ≡ count → (n : ℕ) (y : A) → slice_get (old ++ own) n ≡ Some y → Offers all m (c y) (slice_get (xs ++ numbers from count) n >>= λ a. Some (thing a))
  each_offers c thing old own xs from alike defined count many n y e =
      ⊎_elim
      (λ h. let x = alike.each n y h in (thing x.0, ap (λ o. o >>= λ a. Some (thing a)) (append_at_left xs (numbers from count) n x.0 x.1), match_stays s all (joined_stays s t) m (c y) (thing x.0) x.2))
      (λ h.
      let l = slice_get_within own h.0 y h.2 in
      let place : n ≡ length xs + h.0 = h.1 ∙ ap (λ z. z + h.0) (sym alike.count) in
      (thing (from + h.0), ap (λ o. o >>= λ a. Some (thing a)) (ap (slice_get (xs ++ numbers from count)) place ∙ append_right xs (numbers from count) h.0 ∙ numbers_at from count h.0 (omega (arith, l, many))), defined h.0 y h.2))
      (append_from old own n y e)

  new_function : (k ty : ℕ) → slice_get (map (λ f. f.ty) m.funcs) k ≡ Some ty → is_match all m (im.Func ty) (FuncAt (length s.funcs + k)) ≡ Some true
  new_function k ty e =
      let f = map_from (λ f. f.ty) m.funcs k ty e in
      let g = all_there_at (new_func inst) m.funcs t.funcs made.funcs k f.0 f.1 in
      let u = and_then_is (slice_get inst.types f.0.ty) _ g.0 g.1 in
      let same : type_of_func g.0 ≡ u.0 = ap type_of_func (sym (same_Some _ _ u.2)) in
      let named : import_type m ty ≡ Some u.0 = ap (slice_get m.types) (sym f.2) ∙ u.1 in
      let there : slice_get all.funcs (length s.funcs + k) ≡ Some g.0 = append_right s.funcs t.funcs k ∙ g.2 in
      ap (λ o. o >>= λ t. (slice_get all.funcs (length s.funcs + k) >>= λ f. Some (type_of_func f)) >>= λ u. Some (same_func_type t u)) named
      ∙ ap (λ o. (o >>= λ f. Some (type_of_func f)) >>= λ v. Some (same_func_type u.0 v)) there
      ∙ ap (λ v. Some (same_func_type u.0 v)) same ∙ (let self : same_func_type u.0 u.0 ≡ true = simp (each_same_self same_type (λ a. grind arith)) in ap Some self)

  new_table_is : (k : ℕ) (u : TableType) → slice_get m.tables k ≡ Some u → is_match all m (im.Table u) (TableAt (length s.tables + k)) ≡ Some true
  new_table_is k u e =
      let own : same_ref u.ty u.ty ≡ true = grind arith in
      let there : slice_get all.tables (length s.tables + k) ≡ Some (new_table u) = append_right s.tables t.tables k ∙ ap (λ l. slice_get l k) made.tables ∙ map_at new_table m.tables k u e in
      ap (λ o. o >>= λ (x : Table). Some (same_ref u.ty x.ty && meets (length x.slots) x.most u.limits)) there
      ∙ ap (λ n. Some (same_ref u.ty u.ty && (nat_le u.limits.min n && meets_most u.limits.max u.limits.max))) (copies_length u.limits.min (null_of u.ty))
      ∙ ap Some (and_from (same_ref u.ty u.ty) (nat_le u.limits.min u.limits.min && meets_most u.limits.max u.limits.max) own (size_meets u.limits.min u.limits.max))

  new_memory_is : (k : ℕ) (l : Limits) → slice_get m.mems k ≡ Some l → is_match all m (im.Memory l) (MemoryAt (length s.mems + k)) ≡ Some true
  new_memory_is k l e =
      let there : slice_get all.mems (length s.mems + k) ≡ Some (new_memory l) = append_right s.mems t.mems k ∙ ap (λ l. slice_get l k) made.mems ∙ map_at new_memory m.mems k l e in
      ap (λ o. o >>= λ (x : Memory). Some (meets x.pages x.most l)) there ∙ ap Some (size_meets l.min l.max)

  new_global_is : (k : ℕ) (ty : GlobalType) → slice_get (map (λ g. g.ty) m.globals) k ≡ Some ty → is_match all m (im.Global ty) (GlobalAt (length s.globals + k)) ≡ Some true
  new_global_is k ty e =
      let g = map_from (λ g. g.ty) m.globals k ty e in
      let x = all_there_at (global_with (const_value s.globals inst)) m.globals t.globals made.globals k g.0 g.1 in
      let v = and_then_is (const_value s.globals inst g.0.init) _ x.0 x.1 in
      let same : x.0.ty ≡ ty = ap (λ (z : Global). z.ty) (sym (same_Some _ _ v.2)) ∙ g.2 in
      let own : same_type ty.ty ty.ty ≡ true = grind arith in
      ap (λ o. o >>= λ (u : Global). Some (same_type ty.ty u.ty.ty && same_bool ty.mutable u.ty.mutable)) (append_right s.globals t.globals k ∙ x.2)
      ∙ ap (λ (z : GlobalType). Some (same_type ty.ty z.ty && same_bool ty.mutable z.mutable)) same ∙ ap Some (and_from (same_type ty.ty ty.ty) (same_bool ty.mutable ty.mutable) own (either ty.mutable))
    where
      either : (b : Bool) → same_bool b b ≡ true
      either true = refl
      either false = refl

  allocated_typed : IsTyped m inst all
  allocated_typed = record {
    funcs = each_offers im.Func FuncAt (imported_funcs m.imports) (map (λ f. f.ty) m.funcs) (addresses_of Functions things) (length s.funcs) (things_alike s m _ func_of (address_of Functions) (func_kinds s m) m.imports things matched) new_function (length m.funcs) (length-map m.funcs (λ f. f.ty));
    tables = each_offers im.Table TableAt (imported_tables m.imports) m.tables (addresses_of Tables things) (length s.tables) (things_alike s m _ table_of (address_of Tables) (table_kinds s m) m.imports things matched) new_table_is (length m.tables) refl;
    mems = each_offers im.Memory MemoryAt (imported_memories m.imports) m.mems (addresses_of Memories things) (length s.mems) (things_alike s m _ memory_of (address_of Memories) (memory_kinds s m) m.imports things matched) new_memory_is (length m.mems) refl;
    globals = each_offers im.Global GlobalAt (imported_globals m.imports) (map (λ g. g.ty) m.globals) (addresses_of Globals things) (length s.globals) (things_alike s m _ global_of (address_of Globals) (global_kinds s m) m.imports things matched) new_global_is (length m.globals)
        (length-map m.globals (λ g. g.ty));
  }

pub added_typed : AddedModulesAreTyped
added_typed s m things a h =
    let i = next_inst s m things in
    let matched : all_match s m m.imports things ≡ true =
    ⊎_elim (λ e. e.0) (λ e. let k : None ≡ Some a = e.1 in absurd (let z = k in cc)) (cond_is (all_match s m m.imports things) (added_as s m i) None (Some a) h) in
    let x : (t : Store) × (store_with (const_value s.globals i) m i ≡ Some t) × (added_with s m things t ≡ a) = grind (arith, h) in
    let start = joined_stores s x.0 in
    subst (λ (a : Added). IsTyped m a.inst a.filled.store) x.2
    (stays_typed m i start _ (stays_in start _ (own_segments_fill (const_value s.globals i) m i start)) (allocated_typed s m things matched x.0 (let made = x.1 in search arith)))
