-- Stores that refer only to entities of the environment and the first parts, and the entities that
-- a part adds to such a store.
use Rattle.base_lists.proofs.Common.{◌≡◌, refl, ℕ, suc, ◌<◌, List, [], ◌∷◌, Some, true, slice_get, and_then_is, same_Some, all_there_back, each_rel, copies_rel, then_same_is, opt_self, self_rel, all_rel, maps_rel, arith}
use Rattle.wasm_tree_spec.specs.Prelude.{Space, Functions, Tables, Memories, Globals, ElementSegments, DataSegments, FuncType, Instr, ConstExpr, Module}
use Rattle.wasm_tree.specs.declared.module.ConstExpr.TheVariants as const
use Rattle.wasm_meaning.specs.Prelude.{base, RefVal, Val, Inst, Func, Code, Own, Table, Global, Elem, Store, Part, Environment, new_func, store_with, const_value}
use Rattle.run_simulation.specs.Prelude.{Pairing, OptRel, none, some, ListRel, nil, cons, RefRel, func, extern, ValRel, number, reference, FuncRel, defined, own, TableRel, GlobalRel, ElemRel, NamesItself, CodeIsRelatedToItself}
use Rattle.merge_proof.proofs.ExternalValues.{space_in}
use Rattle.merge_proof.proofs.ReachedAddresses.{count_upto, is_reached, reaching, reached_at}
use Rattle.world_simulation.proofs.EnvironmentEntities.{null_rel}
use Rattle.world_simulation.specs.Prelude.{new_table, AddsWith}
use Rattle.world_simulation.proofs.AllocatedStores.{global_rel, elem_rel}

-- ---- more parts reach more ----

module _ (R Q : Pairing) (more : (k : Space) (a b : ℕ) → R.of k a b → Q.of k a b) where
  ref_more : {r s : RefVal} → RefRel R r s → RefRel Q r s
  ref_more (func none) = func none
  ref_more (func (some p)) = func (some (more Functions _ _ p))
  ref_more extern = extern

  pub val_more : {v w : Val} → ValRel R v w → ValRel Q v w
  val_more number = number
  val_more (reference r) = reference (ref_more r)

  pub table_more : (t u : Table) → TableRel R t u → TableRel Q t u
  table_more t u r = record { type = r.type; most = r.most; slots = each_rel (λ _ _ p. ref_more p) r.slots }

  pub global_more : (g h : Global) → GlobalRel R g h → GlobalRel Q g h
  global_more g h r = record { type = r.type; value = val_more r.value }

  pub elem_more : (e f : Elem) → ElemRel R e f → ElemRel Q e f
  elem_more e f r = record { items = each_rel (λ _ _ p. ref_more p) r.items }

-- A list is related to itself if its elements are.
pub self_by : {A : Type 0} {P : A → A → Type 0} (xs : List A) → ((n : ℕ) (x : A) → slice_get xs n ≡ Some x → P x x) → ListRel P xs xs
self_by [] h = nil
self_by (x ∷ xs) h = cons (h 0 x refl) (self_by xs (λ n x e. h (suc n) x e))

-- A closed store: its entities are related to themselves.
pub record Closed (R : Pairing) (t : Store) : Type 0 where
  pub funcs : ListRel (FuncRel R) t.funcs t.funcs
  pub tables : ListRel (TableRel R) t.tables t.tables
  pub globals : ListRel (GlobalRel R) t.globals t.globals
  pub elems : ListRel (ElemRel R) t.elems t.elems

-- ---- one part ----

-- The addresses of an instance are those of the environment and the first parts.
pub record Reaches (env : Environment) (parts : List Part) (p : ℕ) (i : Inst) : Type 0 where
  pub spaces : (k : Space) (n a : ℕ) → slice_get (space_in i k) n ≡ Some a → a < base env parts k p
  pub elems : (n a : ℕ) → slice_get i.elems n ≡ Some a → a < count_upto env parts p ElementSegments
  pub datas : (n a : ℕ) → slice_get i.datas n ≡ Some a → a < count_upto env parts p DataSegments

pub names_itself : (env : Environment) (parts : List Part) (p : ℕ) (i : Inst) → Reaches env parts p i → NamesItself (reaching env parts p) i
names_itself env parts p i r = record {
  funcs = at Functions;
  tables = at Tables;
  mems = at Memories;
  globals = at Globals;
  elems = λ n a e. reached_at env parts p ElementSegments a (r.elems n a e);
  datas = λ n a e. reached_at env parts p DataSegments a (r.datas n a e);
}
  where
    at : (k : Space) (n a : ℕ) → slice_get (space_in i k) n ≡ Some a → is_reached env parts p k a a ≡ true
    at k n a e = reached_at env parts p k a (r.spaces k n a e)

-- A function that reaches no further than the first parts: one of the environment's own, or code of
-- an instance that reaches no further.
pub data Sound (env : Environment) (parts : List Part) (p : ℕ) : Func → Type 0 where
  own_func : {pair : _} {t : FuncType} → Sound env parts p (Own pair t)
  code : {t : FuncType} {i : Inst} {ls : List _} {c : List Instr} → Reaches env parts p i → Sound env parts p (Code t i ls c)

pub func_self : CodeIsRelatedToItself → (env : Environment) (parts : List Part) (p : ℕ) (f : Func) → Sound env parts p f → FuncRel (reaching env parts p) f f
func_self law env parts p f own_func = own
func_self law env parts p f (code {i = i} {c = c} r) = defined (law (is_reached env parts p) (is_reached env parts p) [] i c (names_itself env parts p i r))

module _ (law : CodeIsRelatedToItself) (env : Environment) (parts : List Part) (p : ℕ) (m : Module) (i : Inst) (globals : List Global) (reaches : Reaches env parts p i) (values : (a : ℕ) (g : Global) → slice_get globals a ≡ Some g → ValRel (reaching env parts p) g.value g.value) where
  abbrev R : Pairing
  R = reaching env parts p

  value_self : (e : ConstExpr) → OptRel (ValRel R) (const_value globals i e) (const_value globals i e)
  value_self (const.I32 z) = some number
  value_self (const.I64 z) = some number
  value_self (const.Null t) = some (reference (null_rel R t))
  value_self (const.Func f) = then_same_is (slice_get i.funcs f) (λ a e. some (reference (func (some (reached_at env parts p Functions a (reaches.spaces Functions f a e))))))
  value_self (const.Global x) = then_same_is (slice_get i.globals x) (λ a _. then_same_is (slice_get globals a) (λ g e. some (values a g e)))

  -- The functions that a part adds reach no further than the part.
  pub added_sound : (t : Store) → store_with (const_value globals i) m i ≡ Some t → (n : ℕ) (f : Func) → slice_get t.funcs n ≡ Some f → Sound env parts p f
  added_sound t h n f e =
      let adds : AddsWith (const_value globals i) m i t = search (arith, h) in
      let x = all_there_back (new_func i) m.funcs t.funcs adds.funcs n f e in
      let t = and_then_is (slice_get i.types x.0.ty) _ f x.2 in
      rw (← same_Some _ _ t.2) (code reaches)

  pub added_closed : (t : Store) → store_with (const_value globals i) m i ≡ Some t → Closed R t
  added_closed t h =
      let a : AddsWith (const_value globals i) m i t = search (arith, h) in
      record {
        funcs = self_by t.funcs (λ n f e. func_self law env parts p f (added_sound t h n f e));
        tables = rw a.tables (maps_rel new_table new_table (self_rel m.tables (λ t. record { type = refl; most = refl; slots = copies_rel _ _ t.limits.min (null_rel R t.ty) })));
        globals = opt_self (all_rel (self_rel m.globals (λ g. global_rel R (const_value globals i) (const_value globals i) {g = g} {h = g} (record { type = refl; init = value_self g.init })))) a.globals;
        elems = opt_self (all_rel (self_rel m.elems (λ s. elem_rel R (const_value globals i) (const_value globals i) {d = s} {e = s} (record { declarative = refl; items = self_rel s.items value_self })))) a.elems;
      }
