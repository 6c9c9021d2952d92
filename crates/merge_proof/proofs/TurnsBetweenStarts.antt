-- The turn of a part between two starts: the sequential store still corresponds to the store of all
-- parts at once.
use Rattle.base_lists.proofs.Common.{◌≡◌, ◌∙◌, refl, sym, ap, subst, ℕ, suc, ◌≤◌, List, [], length, Some, arith, drop, slice_get, slice_get_within, true, Option, each_rel, length_rel, there, left_there, right_there, opt_both, number_is}
use Rattle.wasm_tree_spec.specs.Prelude.{Space, Functions, Tables, Memories, Globals, DataSegments, ElementSegments}
use Rattle.wasm_meaning.specs.Prelude.{RefVal, FuncRef, Val, Ref, Inst, Func, Global, Store, Part, module_at, Environment, ExternalValue, World, joined_stores, defined_before, Run, StartDependsOnlyOnItsFrames, SequentialRun, goes_on}
use Rattle.run_simulation.specs.Prelude.{BothRel, none, some, RefRel, func, extern, ValRel, number, reference, nil, cons, opening, ExternalValueRel, a_func, a_table, a_memory, a_global, KeyRel, pending, CodeIsRelatedToItself, RelatedTicksAgree, OthersStay}
use Rattle.world_simulation.specs.StoreExtension.{Extends}
use Rattle.merge_proof.proofs.JoinedImports.{module_is, inst_of_part}
use Rattle.merge_proof.proofs.ReachedAddresses.{is_reached, reaching, reached_at, reached_is}
use Rattle.merge_proof.proofs.InstanceAddresses.{inst_low}
use Rattle.merge_proof.proofs.PartInstantiation.{Holds}
use Rattle.merge_proof.proofs.ClosedStores.{val_more, Closed, Sound, Reaches, added_closed, added_sound}
use Rattle.merge_proof.proofs.SideBySideStores.{Beside, beside_next, more}
use Rattle.merge_proof.proofs.ExtensionLaws.{ExtensionLaws}
use Rattle.merge_proof.proofs.StartSteps.{Abreast}
use Rattle.merge_proof.proofs.PartTurns.{IsGiven}

-- ---- related entities of the two stores ----

module _ (env : Environment) (parts : List Part) (p : ℕ) where
  ref_same : {r s : RefVal} → RefRel (reaching env parts p) r s → r ≡ s
  ref_same (func none) = refl
  ref_same (func (some {a = a} {b = b} h)) = ap {A = ℕ} {B = RefVal} (λ a. FuncRef (Some a)) (reached_is env parts p Functions a b h).0
  ref_same extern = refl

  val_same : {v w : Val} → ValRel (reaching env parts p) v w → v ≡ w
  val_same number = refl
  val_same (reference r) = ap Ref (ref_same r)

  val_self : {v w : Val} → ValRel (reaching env parts p) v w → ValRel (reaching env parts p) v v
  val_self {v = v} h = subst (λ w. ValRel (reaching env parts p) v w) (sym (val_same h)) h

  -- The sequential store extends what was allocated for the first parts.
  pub holds_of : (allocated t s : Store) → Beside env parts p allocated t s → Extends allocated s → Holds env parts p allocated t
  holds_of allocated t s h e = record {
    funcs = h.same_funcs;
    tables = λ a x l at_x. let y = e.tables a x at_x in found (h.related.tables (reached_at env parts p Tables a l)) y.1 (λ z q. let n = length_rel q.slots in record { type = q.type ∙ y.2.type; most = q.most ∙ y.2.most; size = omega (arith, n, y.2.size) });
    mems = λ a x l at_x. let y = e.mems a x at_x in found (h.related.mems (reached_at env parts p Memories a l)) y.1 (λ z q. rw q y.2);
    globals = λ a x l at_x. let y = e.globals a x at_x in found (h.related.globals (reached_at env parts p Globals a l)) y.1 (λ z q. record { type = q.type ∙ y.2.type; fixed = λ f. val_same q.value ∙ y.2.fixed f });
  }
    where
      -- An element related to an element of the second list exists, and has each property that
      -- follows from the relation.
      found : {A : Type 0} {P : A → A → Type 0} {E : A → Type 0} {o q : Option A} {y : A} → BothRel P o q → q ≡ Some y → ((z : A) → P z y → E z) → (z : A) × (o ≡ Some z) × E z
      found r e h = let z = left_there (there r) e in (z.0, z.1, h z.0 (opt_both (there r) z.1 e))

module _ (env : Environment) (w : World) (insts : List Inst) (allocated : Store) (g : IsGiven env w insts allocated) (itself : CodeIsRelatedToItself) (k : ℕ) (part : Part) (i : Inst) (at_part : slice_get w.parts k ≡ Some part) (at_inst : slice_get insts k ≡ Some i) where
  is_part : module_at w.parts k ≡ Some part.«module»
  is_part = module_is w.parts k part at_part

  reaches : Reaches env w.parts (suc k) i
  reaches =
      let is = inst_of_part env w.parts insts g.are g.size g.earlier k part.«module» i is_part at_inst in
      record {
        spaces = inst_low env w.parts insts g.are g.size g.earlier g.own k part.«module» i is_part at_inst;
        elems = λ n a h. let r = number_is (defined_before ElementSegments w.parts k) (length part.«module».elems) n a (rw is.elems at h) in omega (arith, r.0, r.1, g.are.next ElementSegments w.parts k part.«module» is_part);
        datas = λ n a h. let r = number_is (defined_before DataSegments w.parts k) (length part.«module».datas) n a (rw is.datas at h) in omega (arith, r.0, r.1, g.are.next DataSegments w.parts k part.«module» is_part);
      }

  pub within : suc k ≤ length w.parts
  within = omega (arith, slice_get_within w.parts k part at_part)

  -- The addresses that the first parts reach are reached by them and the next part.
  pub still_reached : (kind : Space) (a b : ℕ) → is_reached env w.parts k kind a b ≡ true → is_reached env w.parts (suc k) kind a b ≡ true
  still_reached = more itself env w.parts insts allocated g.laid k part.«module» is_part within

  pub more_values : {v u : Val} → ValRel (reaching env w.parts k) v u → ValRel (reaching env w.parts (suc k)) v u
  more_values = val_more (reaching env w.parts k) (reaching env w.parts (suc k)) still_reached

  -- The entities that the part adds reach no further than the part, if the values of globals do
  -- not.
  pub adds_within : (t : Store) → Holds env w.parts k allocated t → ((a : ℕ) (x : Global) → slice_get t.globals a ≡ Some x → ValRel (reaching env w.parts (suc k)) x.value x.value) →
      Closed (reaching env w.parts (suc k)) (g.laid.adds k) × ((n : ℕ) (f : Func) → slice_get (g.laid.adds k).funcs n ≡ Some f → Sound env w.parts (suc k) f)
  adds_within t holds values =
      let is = g.store_is k part.«module» i t is_part at_inst holds in
      (added_closed itself env w.parts (suc k) part.«module» i t.globals reaches values (g.laid.adds k) is, added_sound itself env w.parts (suc k) part.«module» i t.globals reaches values (g.laid.adds k) is)

  -- ---- a part without an active segment ----

  key_more : {K : Type 0} (x y : K × ExternalValue) → KeyRel (reaching env w.parts k) x y → KeyRel (reaching env w.parts (suc k)) x y
  key_more x y h = record { key = h.key; thing = thing_more h.thing }
    where
      thing_more : {x y : ExternalValue} → ExternalValueRel (reaching env w.parts k) x y → ExternalValueRel (reaching env w.parts (suc k)) x y
      thing_more (a_func h) = a_func (still_reached Functions _ _ h)
      thing_more (a_table h) = a_table (still_reached Tables _ _ h)
      thing_more (a_memory h) = a_memory (still_reached Memories _ _ h)
      thing_more (a_global h) = a_global (still_reached Globals _ _ h)

  module _ (below : StartDependsOnlyOnItsFrames) (extend : ExtensionLaws) (ticks : RelatedTicksAgree) (others : OthersStay) where
    -- The two runs still correspond after the part is added.
    pub abreast_next : (r : Run) (q : SequentialRun) → Abreast below extend ticks others env w.parts allocated k [] [] r q.run → Abreast below extend ticks others env w.parts allocated (suc k) [] [] r (goes_on q part (drop (suc k) w.parts) i (joined_stores q.run.store (g.laid.adds k))).run
    abreast_next r q h =
        let t = q.run.store in
        let adds = adds_within t (holds_of env w.parts k allocated t r.store h.beside h.extends) values in
        let b = beside_next itself env w.parts insts allocated g.laid k part.«module» is_part within t r.store h.beside adds.0 adds.1 in
        record {
          related = record {
            store = b.related;
            entries = cons (opening nil) nil;
            phase = pending nil;
            shown = each_rel (still_reached Functions) h.related.shown;
            view = each_rel key_more h.related.view;
            owned = each_rel key_more h.related.owned;
            moves = h.related.moves;
          };
          beside = b;
          extends = h.extends;
          first_owned = h.first_owned;
          second_owned = h.second_owned;
        }
      where
        values : (a : ℕ) (x : Global) → slice_get q.run.store.globals a ≡ Some x → ValRel (reaching env w.parts (suc k)) x.value x.value
        values a x at_x =
            let l = slice_get_within q.run.store.globals a x at_x in
            let r = there (h.beside.related.globals (reached_at env w.parts k Globals a (omega (arith, l, h.beside.sized.globals)))) in
            more_values (val_self env w.parts k (opt_both r at_x (right_there r at_x).1).value)
