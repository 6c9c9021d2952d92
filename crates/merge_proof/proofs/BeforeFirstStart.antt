-- The sequential run before the first start: the parts are added one after the other, with their
-- segments, and then the sequential store corresponds to the store of all parts at once.
use Rattle.base_lists.proofs.Common.{◌≡◌, ◌∙◌, refl, sym, ap, subst, ℕ, suc, ◌+◌, ◌-◌, ◌<◌, ◌≤◌, List, [], ◌∷◌, ◌++◌, map, length, Some, None, false, inl, inr, arith, drop, slice_get, length-append, append_left, append_right, append_at_left, append_from, map_from, each_rel, append_rel, self_rel}
use Rattle.base_lists.specs.Related.{EachRelated}
use Rattle.wasm_tree_spec.specs.Prelude.{Module}
use Rattle.wasm_meaning.specs.Prelude.{Text, Inst, Func, Own, Store, Opening, Part, module_at, Environment, Offer, ExternalValue, flat, owned_of, World, own_store, const_value, joined_stores, all_there, starts_of, seen_as, segments, Pending, Move, Run, StartDependsOnlyOnItsFrames, SequentialRun}
use Rattle.wasm_meaning.specs.Prelude.{view_over, own_segments, goes_on, tick_sequential, HasNoActive}
use Rattle.run_simulation.specs.Prelude.{BothRel, ListRel, CodeIsRelatedToItself, RelatedTicksAgree, OthersStay}
use Rattle.world_simulation.specs.Prelude.{OwnCorrespond}
use Rattle.world_simulation.specs.StoreExtension.{TableExtends, MemoryExtends, GlobalExtends, Extends, StoresExtendThemselves}
use Rattle.merge_proof.proofs.JoinedImports.{made_upto, module_is}
use Rattle.merge_proof.proofs.ReachedAddresses.{is_reached, reaching, shares_own}
use Rattle.merge_proof.proofs.PartInstantiation.{Sized, Holds}
use Rattle.merge_proof.proofs.ClosedStores.{table_more, global_more, elem_more, self_by, Closed, Sound, own_func, func_self}
use Rattle.merge_proof.proofs.SideBySideStores.{both_list, Beside, stores_related, sound_joined}
use Rattle.merge_proof.proofs.CopyReferences.{self_at, own_closed}
use Rattle.merge_proof.proofs.ExtensionLaws.{ExtensionLaws}
use Rattle.merge_proof.proofs.PartTurns.{IsGiven, IsTurn, starts_from, filled_in, turned}
use Rattle.merge_proof.proofs.TurnsBetweenStarts.{within, still_reached, more_values, adds_within}

-- ---- joined stores ----

each_joined : {A : Type 0} (P : A → A → Type 0) (xs ys zs : List A) → EachRelated P zs zs → length ys ≡ length xs → EachRelated P xs ys → EachRelated P (xs ++ zs) (ys ++ zs)
each_joined P xs ys zs same size h a x e = elim (append_from xs zs a x e) [
  | inl e ↦ let r = h a x e in (r.0, append_at_left ys zs a r.0 r.1, r.2)
  | inr l ↦ let r = same l.0 x l.2 in (r.0, rw (l.1, ← size, append_right) r.1, r.2)
]

joined_extends : StoresExtendThemselves → (s t u : Store) → Extends s t → Extends (joined_stores s u) (joined_stores t u)
joined_extends reflexive s t u h = record {
  funcs = rw h.funcs;
  tables = each_joined TableExtends s.tables t.tables u.tables (reflexive u).tables h.table_count h.tables;
  mems = each_joined MemoryExtends s.mems t.mems u.mems (reflexive u).mems h.memory_count h.mems;
  globals = each_joined GlobalExtends s.globals t.globals u.globals (reflexive u).globals h.global_count h.globals;
  table_count = simp (length-append, h.table_count);
  memory_count = simp (length-append, h.memory_count);
  global_count = simp (length-append, h.global_count);
  elem_count = simp (length-append, h.elem_count);
  data_count = simp (length-append, h.data_count);
}

-- An element of the front list has a related element in a later state of that list.
each_front : {A : Type 0} (P : A → A → Type 0) (front back now : List A) {n : ℕ} → length front ≡ n → EachRelated P front now → (a : ℕ) (x : A) → a < n → slice_get (front ++ back) a ≡ Some x → (y : A) × (slice_get now a ≡ Some y) × P x y
each_front P front back now size h a x l e = h a x (rw (← append_left front back a (omega arith)) e)

-- A list that is related to itself is related, element by element, to a longer list that begins
-- with it.
both_front : {A : Type 0} {P : A → A → Type 0} (now back : List A) {n : ℕ} → length now ≡ n → ListRel P now now → (a : ℕ) → a < n → BothRel P (slice_get now a) (slice_get (now ++ back) a)
both_front now back size r a l = rw (append_left now back a (omega arith)) (both_list r a (omega arith))

same_back : {A : Type 0} (now front back : List A) {n : ℕ} → length now ≡ n → length front ≡ n → (a : ℕ) → n ≤ a → slice_get (now ++ back) a ≡ slice_get (front ++ back) a
same_back now front back {n} e f a l =
    let j = a - n in
    let x : a ≡ length now + j = omega arith in
    let y : a ≡ length front + j = omega arith in
    ap (slice_get (now ++ back)) x ∙ append_right now back j ∙ sym (append_right front back j) ∙ ap (slice_get (front ++ back)) (sym y)

-- The environment's functions reach no address of a part.
pub own_sound : (env : Environment) (parts : List Part) (p : ℕ) (offers : List Offer) (a : ℕ) (f : Func) → slice_get (flat (λ o. map (Own o.pair) o.funcs) offers) a ≡ Some f → Sound env parts p f
own_sound env parts p [] a f e = cc
own_sound env parts p (o ∷ os) a f e = elim (append_from (map (Own o.pair) o.funcs) (flat (λ o. map (Own o.pair) o.funcs) os) a f e) [
  | inl e ↦ rw (← (map_from (Own o.pair) o.funcs a f e).2) own_func
  | inr l ↦ own_sound env parts p os l.0 f l.2
]

module _ (env : Environment) (w : World) (insts : List Inst) (allocated : Store) (g : IsGiven env w insts allocated) where
  -- A store that extends the store of the first parts holds what was allocated for them.
  front_holds : (k : ℕ) (t : Store) → k ≤ length w.parts → Extends (g.laid.first k) t → Holds env w.parts k allocated t
  front_holds k t l h =
      let sizes = g.laid.first_sized k l in
      let back = g.laid.rest k in
      subst (λ s. Holds env w.parts k s t) (sym (g.laid.parted k l)) (record {
        funcs = λ a low. rw (h.funcs, append_left (g.laid.first k).funcs back.funcs a (omega arith));
        tables = each_front TableExtends (g.laid.first k).tables back.tables t.tables sizes.tables h.tables;
        mems = each_front MemoryExtends (g.laid.first k).mems back.mems t.mems sizes.mems h.mems;
        globals = each_front GlobalExtends (g.laid.first k).globals back.globals t.globals sizes.globals h.globals;
      })

  -- A store that extends the store of the first parts and refers to nothing beyond them.
  pub record OfFirst (k : ℕ) (t : Store) : Type 0 where
    pub extends : Extends (g.laid.first k) t
    pub closed : Closed (reaching env w.parts k) t
    pub sound : (a : ℕ) (f : Func) → slice_get t.funcs a ≡ Some f → Sound env w.parts k f

  -- ---- the correspondence of the stores ----

  pub beside_after : (k : ℕ) (t : Store) → k ≤ length w.parts → (segments env w.parts insts allocated).store ≡ joined_stores t (g.laid.rest k) → Sized env w.parts k t → OfFirst k t → Beside env w.parts k allocated t (segments env w.parts insts allocated).store
  beside_after k t l whole sized h =
      let sizes = g.laid.first_sized k l in
      let front = g.laid.first k in
      let back = g.laid.rest k in
      subst (λ s. Beside env w.parts k allocated t s) (sym whole) (subst (λ s. Beside env w.parts k s t (joined_stores t back)) (sym (g.laid.parted k l)) (record {
        related = stores_related env w.parts k t (joined_stores t back) (both_front t.funcs back.funcs sized.funcs h.closed.funcs) (both_front t.tables back.tables sized.tables h.closed.tables)
            (both_front t.mems back.mems sized.mems (self_rel t.mems (λ m. refl))) (both_front t.globals back.globals sized.globals h.closed.globals)
            (both_front t.elems back.elems sized.elems h.closed.elems) (both_front t.datas back.datas sized.datas (self_rel t.datas (λ d. refl)));
        sized = sized;
        sound = h.sound;
        same_funcs = λ a low. rw (h.extends.funcs, append_left front.funcs back.funcs a (omega arith));
        all_funcs = rw h.extends.funcs;
        untouched = record {
          tables = same_back t.tables front.tables back.tables sized.tables sizes.tables;
          mems = same_back t.mems front.mems back.mems sized.mems sizes.mems;
          globals = same_back t.globals front.globals back.globals sized.globals sizes.globals;
          elems = same_back t.elems front.elems back.elems sized.elems sizes.elems;
          datas = same_back t.datas front.datas back.datas sized.datas sizes.datas;
        };
      }))

  pub own_related : (k : ℕ) → OwnCorrespond (reaching env w.parts k) env
  own_related k = g.own (is_reached env w.parts k) env (shares_own env w.parts k)

module _ (env : Environment) (w : World) (insts : List Inst) (allocated : Store) (g : IsGiven env w insts allocated) (itself : CodeIsRelatedToItself) (below : StartDependsOnlyOnItsFrames) (extend : ExtensionLaws) (ticks : RelatedTicksAgree) (others : OthersStay) (view : List (Text × ExternalValue))
    (view_is : all_there (seen_as insts) w.view ≡ Some view) (IsFilled : ℕ → Store → Type 0) where
  abbrev after : Store
  after = (segments env w.parts insts allocated).store

  -- The laws on stores into which the segments of the first parts were copied.
  pub record FillLaws : Type 0 where
    pub filled_none : IsFilled 0 (own_store env)
    pub filled_next : (k : ℕ) (m : Module) (i : Inst) (t : Store) → module_at w.parts k ≡ Some m → slice_get insts k ≡ Some i → IsFilled k t →
        ((own_segments (const_value t.globals i) m i (joined_stores t (g.laid.adds k))).trapped ≡ false) × IsFilled (suc k) (own_segments (const_value t.globals i) m i (joined_stores t (g.laid.adds k))).store
    pub filled_all : (k : ℕ) (t : Store) → k ≤ length w.parts → IsFilled k t → ((p : ℕ) (m : Module) → k ≤ p → module_at w.parts p ≡ Some m → HasNoActive m) → after ≡ joined_stores t (g.laid.rest k)
    pub filled_sized : (k : ℕ) (t : Store) → k ≤ length w.parts → IsFilled k t → Sized env w.parts k t

  abbrev at_once : List Move → Run
  at_once moves = record { store = after; entries = Opening (starts_of w.parts insts) ∷ []; phase = Pending view; shown = []; view = []; owned = owned_of env; moves = moves }

  abbrev opened_run : ℕ → Store → List Move → Run
  opened_run k t moves = record { store = t; entries = Opening [] ∷ []; phase = Pending (view_over (made_upto k w.parts insts) w.view); shown = []; view = []; owned = owned_of env; moves = moves }

  module _ (laws : FillLaws) (moves : List Move) where
    -- The first parts are instantiated, and none of them has a start.
    pub record Fills (k : ℕ) (r : Run) (q : SequentialRun) : Type 0 where
      pub filled : IsFilled k q.run.store
      pub of_first : OfFirst env w insts allocated g k q.run.store
      pub first : r ≡ at_once moves
      pub second_run : q.run ≡ opened_run k q.run.store moves
      pub turn : IsTurn w insts k q
      pub none_before : starts_from w insts k ≡ starts_of w.parts insts
      pub most : k < length w.parts

    -- ---- the next part ----

    -- The step of the sequential run that adds the next part.
    pub record Advances (k : ℕ) (part : Part) (i : Inst) (q : SequentialRun) : Type 0 where
      pub next_store : Store
      pub is : tick_sequential q ≡ (goes_on q part (drop (suc k) w.parts) i next_store, None)
      pub filled : IsFilled (suc k) next_store
      pub of_first : OfFirst env w insts allocated g (suc k) next_store

    pub advances : (k : ℕ) (part : Part) (i : Inst) (r : Run) (q : SequentialRun) → slice_get w.parts k ≡ Some part → slice_get insts k ≡ Some i → Fills k r q → Advances k part i q
    advances k part i r q at_part at_inst h =
        let t = q.run.store in
        let is_part = module_is w.parts k part at_part in
        let low : k ≤ length w.parts = omega arith in
        let holds = front_holds env w insts allocated g k t low h.of_first.extends in
        let a = laws.filled_next k part.«module» i t is_part at_inst h.filled in
        let m = still_reached env w insts allocated g itself k part i at_part at_inst in
        let adds = adds_within env w insts allocated g itself k part i at_part at_inst t holds (λ n x at_x. more_values env w insts allocated g itself k part i at_part at_inst (self_at t.globals n x h.of_first.closed.globals at_x).value) in
        let sound = sound_joined itself env w.parts insts allocated g.laid k part.«module» is_part (within env w insts allocated g itself k part i at_part at_inst) t.funcs h.of_first.sound adds.1 in
        let f = extend.own_segments (const_value t.globals i) part.«module» i (joined_stores t (g.laid.adds k)) in
        record {
          next_store = (filled_in env w insts allocated g k part i at_part at_inst t).store;
          is = turned env w insts allocated g k part i at_part at_inst q h.turn (ap (λ r. r.entries) h.second_run) (ap (λ r. r.owned) h.second_run) (laws.filled_sized k t low h.filled) holds a.0;
          filled = a.1;
          of_first = record {
            extends = extend.transitive (g.laid.first (suc k)) (joined_stores t (g.laid.adds k)) _ (rw (g.laid.first_next k part.«module» is_part) (joined_extends extend.reflexive (g.laid.first k) t (g.laid.adds k) h.of_first.extends)) f;
            closed = own_closed (reaching env w.parts (suc k)) (const_value t.globals i) part.«module» i (joined_stores t (g.laid.adds k)) (record {
              funcs = self_by (t.funcs ++ (g.laid.adds k).funcs) (λ n f e. func_self itself env w.parts (suc k) f (sound n f e));
              tables = append_rel (each_rel (table_more (reaching env w.parts k) (reaching env w.parts (suc k)) m) h.of_first.closed.tables) adds.0.tables;
              globals = append_rel (each_rel (global_more (reaching env w.parts k) (reaching env w.parts (suc k)) m) h.of_first.closed.globals) adds.0.globals;
              elems = append_rel (each_rel (elem_more (reaching env w.parts k) (reaching env w.parts (suc k)) m) h.of_first.closed.elems) adds.0.elems;
            });
            sound = λ n x e. sound n x (rw f.funcs at e);
          };
        }
