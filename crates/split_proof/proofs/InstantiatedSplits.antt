-- The instantiation of a split module under its loader compared with that of the module alone.
use Rattle.base_lists.proofs.Common.{◌≡◌, ◌∙◌, ap, sym, subst, refl, ℕ, suc, ◌+◌, ◌-◌, ◌<◌, ◌≤◌, ◌⊎◌, inl, inr, List, [], ◌∷◌, ◌++◌, drop, length, Option, Some, None, Bool, true, false, arith, slice_get, same_Some, and_then_is, append_at_left, append_right, drop_at, slice_get_there}
use Rattle.base_lists.specs.Options.{◌>>=◌}
use Rattle.wasm_tree_spec.specs.Prelude.{Functions, Module}
use Rattle.wasm_meaning.specs.Prelude.{Entry, Func, Store, Text, Environment, ExternalValue, own_funcs, owned_of, Added, added, next_inst, LoaderWorld, begun_of, begun_under, placeholders_from, placeholders_of, primary_added, store_under, supplied, Move, began, fresh_run, tick, Begun, address_in}
use Rattle.wasm_meaning.specs.Prelude.{all_there, alone, const_value, instantiate, joined_stores, new_func, own_count, own_segments, start_in, store_with, Inst}
use Rattle.run_simulation.specs.Prelude.{Pairing, OptRel, none, some, ListRel, nil, cons, EntryRel, StoreRel, BegunRel, closed, pending, EntryByEntry, FramesBetween, WithPassing}
use Rattle.run_simulation.specs.Trampolines as between
use Rattle.world_simulation.specs.Prelude.{AddsWith}
use Rattle.world_simulation.specs.DefinedPlaceholders.{PlaceholdersAreCounted, placeholders_begun, with_placeholders}
use Rattle.world_simulation.specs.FunctionIndependence.{SegmentsKeepFunctions}
use Rattle.split_spec.specs.declared.names.SplitNames.{SplitNames}
use Rattle.wasm_valid.specs.Prelude.{ItemsHold}
use Rattle.split_proof.specs.SplitWorlds.{placeholders_for}
use Rattle.split_proof.specs.Addresses.{split_pairing}
use Rattle.split_proof.specs.SplitInstantiation.{FirstStepsAgree, unlinked, trapped, begun}
use Rattle.split_proof.specs.SplitLaws.{CanBeSplit}
use Rattle.split_proof.proofs.AddressPartners.{LeftAt, own_stays, goes, left_is}
use Rattle.split_proof.proofs.PlaceholderImports.{imports_them_last, placeholders_are}
use Rattle.split_proof.proofs.IndexEntries.{Laws, holds, split, types_moved}
use Rattle.split_proof.proofs.InitialDefinitions.{stubs}
use Rattle.split_proof.proofs.PrimaryLinking.{instantiated}

-- ---- placeholders in place of stubs ----

pub slots_many : (namespace : ℕ → List ℕ) (m : Module) (n : ℕ) (fs : List ℕ) → length (placeholders_for namespace m n fs) ≡ length fs
slots_many namespace m n [] = refl
slots_many namespace m n (f ∷ fs) = ap suc (slots_many namespace m (suc n) fs)

-- The placeholders replace the stubs in the store, and every other function stays.
module _ (counted : PlaceholdersAreCounted) (env : Environment) (w : LoaderWorld) (z : Store) (own : (n : ℕ) (f : Func) → slice_get (own_funcs env) n ≡ Some f → slice_get z.funcs n ≡ Some f) where
  abbrev slots : List Func
  slots = placeholders_from 0 (placeholders_of w)

  abbrev rest : List Func
  rest = drop (own_count Functions env + length (placeholders_of w)) z.funcs

  elsewhere : (b : ℕ) → (b < own_count Functions env) ⊎ (own_count Functions env + length (placeholders_of w) ≤ b) → slice_get (with_placeholders env w z).funcs b ≡ slice_get z.funcs b
  elsewhere b (inl lt) = let f = slice_get_there (own_funcs env) b lt in append_at_left (own_funcs env) (slots ++ rest) b f.0 f.1 ∙ sym (own b f.0 f.1)
  elsewhere b (inr le) =
      let many = counted 0 (placeholders_of w) in
      let from = own_count Functions env + length (placeholders_of w) in
      let c = b - from in
      let back : from + c ≡ b = omega (arith, le) in
      let index : b ≡ length (own_funcs env) + (length slots + c) = omega (arith, back, many) in
      ap (slice_get (own_funcs env ++ (slots ++ rest))) index ∙ append_right (own_funcs env) (slots ++ rest) (length slots + c) ∙ append_right slots rest c ∙ drop_at z.funcs from c ∙ ap (slice_get z.funcs) back

  -- Related stores stay related with the placeholders, where these have no partner.
  with_slots : (R : Pairing) (s : Store) → ((a b : ℕ) → R.of Functions a b → (b < own_count Functions env) ⊎ (own_count Functions env + length (placeholders_of w) ≤ b)) → StoreRel R s z → StoreRel R s (with_placeholders env w z)
  with_slots R s free like = record {
    types = λ {a} {b} r. rw (elsewhere b (free a b r)) (like.types r);
    owns = λ {a} {b} r. rw (elsewhere b (free a b r)) (like.owns r);
    funcs = λ {a} {b} r l. rw (elsewhere b (free a b r)) (like.funcs r l);
    tables = λ r. like.tables r;
    mems = λ r. like.mems r;
    globals = λ r. like.globals r;
    elems = λ r. like.elems r;
    datas = λ r. like.datas r;
  }

pub begun_store : (env : Environment) (w : LoaderWorld) (a : Added) (c : Begun) → begun_of env w a ≡ Some c → a.filled.store ≡ c.store
begun_store env w a c h = by (all_there (λ v. address_in a.inst v.1 >>= λ x. Some (v.0, x)) w.view) h
  where
    by : (o : Option (List (Text × ExternalValue))) → (o >>= λ view. Some (record { store = a.filled.store; trapped = a.filled.trapped; starts = start_in a.inst w.primary.start; view = view; owned = owned_of env })) ≡ Some c → a.filled.store ≡ c.store
    by None e = absurd (let z = e in cc)
    by (Some view) e = ap (λ (b : Begun). b.store) (same_Some _ _ e)

-- ---- what a loader begins as ----

-- The instance of the primary module, and the functions of the store: the environment's own, the
-- placeholders, and then the definitions of the primary module.
pub record BeginsWith (env : Environment) (w : LoaderWorld) (c : Begun) : Type 0 where
  pub made : Added
  pub is_made : primary_added env w ≡ Some made
  pub store : made.filled.store ≡ c.store
  pub things : List _
  pub is_added : added (store_under env w) w.primary things ≡ Some made
  pub defined : List Func
  pub are_defined : all_there (new_func made.inst) w.primary.funcs ≡ Some defined
  pub funcs : c.store.funcs ≡ (own_funcs env ++ placeholders_from 0 (placeholders_of w)) ++ defined

-- The instantiation of the primary module adds its definitions to the store.
primary_adds : (env : Environment) (w : LoaderWorld) (i : Inst) (t : Store) → store_with (const_value (store_under env w).globals i) w.primary i ≡ Some t → AddsWith (const_value (store_under env w).globals i) w.primary i t
primary_adds env w i t h = search arith

pub begins_with : SegmentsKeepFunctions → (env : Environment) (w : LoaderWorld) (c : Begun) → begun_under env w ≡ Some c → BeginsWith env w c
begins_with segments env w c h =
    let a = and_then_is (primary_added env w) (begun_of env w) c h in
    let things = and_then_is (all_there (supplied env w) w.primary.imports) (added (store_under env w) w.primary) a.0 a.1 in
    let is_added = things.2 in
    let i = next_inst (store_under env w) w.primary things.0 in
    let made : (t : Store) × (store_with (const_value (store_under env w).globals i) w.primary i ≡ Some t) × (record { inst = i; filled = own_segments (const_value (store_under env w).globals i) w.primary i (joined_stores (store_under env w) t) } ≡ a.0) = grind (arith, is_added) in
    let adds : AddsWith (const_value (store_under env w).globals i) w.primary i made.0 = primary_adds env w i made.0 made.1 in
    let inst : i ≡ a.0.inst = ap (λ (x : Added). x.inst) made.2 in
    record {
      made = a.0;
      is_made = a.1;
      store = begun_store env w a.0 c a.2;
      things = things.0;
      is_added = things.2;
      defined = made.0.funcs;
      are_defined = ap (λ i. all_there (new_func i) w.primary.funcs) (sym inst) ∙ adds.funcs;
      funcs = ap (λ (s : Store). s.funcs) (sym (begun_store env w a.0 c a.2)) ∙ ap (λ (x : Added). x.filled.store.funcs) (sym made.2) ∙ segments (const_value (store_under env w).globals i) w.primary i (joined_stores (store_under env w) made.0);
    }

-- The functions of the environment come first in the store.
own_there : SegmentsKeepFunctions → (env : Environment) (w : LoaderWorld) (c : Begun) → begun_under env w ≡ Some c → (n : ℕ) (f : Func) → slice_get (own_funcs env) n ≡ Some f → slice_get c.store.funcs n ≡ Some f
own_there segments env w c h n f at =
    let b = begins_with segments env w c h in
    ap (λ fs. slice_get fs n) b.funcs ∙ append_at_left (own_funcs env ++ placeholders_from 0 (placeholders_of w)) b.defined n f (append_at_left (own_funcs env) (placeholders_from 0 (placeholders_of w)) n f at)

stacks : {R : Pairing} {es fs : List Entry} → ListRel (EntryRel R) es fs → WithPassing R es fs
stacks nil = between.WithPassing.nil
stacks (cons p ps) = between.WithPassing.cons p (stacks ps)

module _ (laws : Laws) (namespace : ℕ → List ℕ) (names : SplitNames) (m : Module) (moved : List ℕ) (owns : List (List ℕ)) (g : CanBeSplit namespace names m moved owns) (env : Environment) where
  abbrev valid : ItemsHold m
  valid = holds laws namespace names m moved owns g

  abbrev w : LoaderWorld
  w = split laws namespace names m moved owns g

  abbrev stubbed_world : LoaderWorld
  stubbed_world = stubs laws namespace names m moved owns g

  abbrev R : Pairing
  R = split_pairing env m moved []

  abbrev O : ℕ
  O = own_count Functions env

  many : length (placeholders_of w) ≡ length moved
  many = ap length (placeholders_are namespace names m moved owns g valid) ∙ slots_many namespace m 0 moved

  free : (a b : ℕ) → R.of Functions a b → (b < O) ⊎ (O + length (placeholders_of w) ≤ b)
  free a b r = by (left_is namespace names.export_prefix m valid moved g.can_move env a b r)
    where
      by : LeftAt env m moved a b → (b < O) ⊎ (O + length (placeholders_of w) ≤ b)
      by (own_stays lt e) = inl (omega (arith, lt, e))
      by (goes n e lt h f) = let count = many in inr (omega (arith, f, count))

  begun_rel : (b c : Begun) → begun_under env stubbed_world ≡ Some c → BegunRel R (EntryByEntry R) b c → BegunRel R (FramesBetween R) b (placeholders_begun env w c)
  begun_rel b c is h = record {
    store = with_slots laws.counted env w c.store (own_there laws.segments env stubbed_world c is) R b.store free h.store;
    entries = stacks h.entries;
    closed = stacks h.closed;
    trapped = h.trapped;
    view = h.view;
    owned = h.owned;
  }

  pub begin_alike : OptRel (BegunRel R (FramesBetween R)) (instantiate env (alone m)) (begun_under env w)
  begin_alike =
      subst (OptRel (BegunRel R (FramesBetween R)) (instantiate env (alone m))) (sym (laws.stubs env w m.imports (types_moved laws namespace names m moved owns g) (imports_them_last namespace names m moved owns g valid)))
      (go (instantiate env (alone m)) (begun_under env stubbed_world) refl
      (subst (OptRel (BegunRel R (EntryByEntry R)) (instantiate env (alone m))) (sym (laws.primary env stubbed_world refl)) (instantiated laws namespace names m moved owns g env [])))
    where
      go : (o p : Option Begun) → begun_under env stubbed_world ≡ p → OptRel (BegunRel R (EntryByEntry R)) o p → OptRel (BegunRel R (FramesBetween R)) o (p >>= λ b. Some (placeholders_begun env w b))
      go None None e none = none
      go (Some b) (Some c) e (some h) = some (begun_rel b c e h)
      go None (Some c) e h = elim h [ ]
      go (Some b) None e h = elim h [ ]

  -- ---- the first step ----

  pub first_steps : (moves : List Move) → FirstStepsAgree R (tick (fresh_run env (instantiate env (alone m)) moves)) (tick (fresh_run env (begun_under env w) moves))
  first_steps moves = by (instantiate env (alone m)) (begun_under env w) begin_alike
    where
      step : (b c : Begun) → BegunRel R (FramesBetween R) b c → (t u : Bool) → b.trapped ≡ t → c.trapped ≡ u → FirstStepsAgree R (began (fresh_run env (Some b) moves) (Some b)) (began (fresh_run env (Some c) moves) (Some c))
      step b c h true true e f = rw (e, f) (trapped refl refl (record { store = h.store; entries = h.closed; phase = closed; shown = nil; view = nil; owned = h.owned; moves = refl }))
      step b c h false false e f = rw (e, f) (begun tt (record { store = h.store; entries = h.entries; phase = pending h.view; shown = nil; view = nil; owned = h.owned; moves = refl }))
      step b c h true false e f = absurd (let t = h.trapped in cc)
      step b c h false true e f = absurd (let t = h.trapped in cc)

      by : (o p : Option Begun) → OptRel (BegunRel R (FramesBetween R)) o p → FirstStepsAgree R (began (fresh_run env o moves) o) (began (fresh_run env p moves) p)
      by None None none = unlinked _ refl refl
      by (Some b) (Some c) (some h) = step b c h b.trapped c.trapped refl refl
      by None (Some c) h = elim h [ ]
      by (Some b) None h = elim h [ ]
