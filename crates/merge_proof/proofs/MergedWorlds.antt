-- The world of linked parts and that of their merged module: both are instantiated or neither, and
-- then they have equal traces.
use Rattle.base_lists.proofs.Common.{subst, ◌≡◌, ◌∙◌, ap, refl, ℕ, ◌+◌, List, [], ◌∷◌, Option, Some, arith, option_and_then, is_some, opt_both, all_rel}
use Rattle.wasm_tree_spec.specs.Prelude.{Functions, Module}
use Rattle.wasm_meaning.specs.Prelude.{Part, Environment, Begun, alone, insts_from, own_store, stores_from, segments, starts_of, begun, instantiate, links, World, Event, Move, tick, events_of, IsPrefix, fresh_run}
use Rattle.base_simulation.proofs.Prefixes.{shorter, in_more_steps}
use Rattle.run_simulation.specs.Prelude.{Pairing, OptRel, none, some, nil, cons, opening}
use Rattle.world_simulation.specs.Prelude.{one, RelatedBegunHaveEqualTraces, IsInstantiated, AreSimilar}
use Rattle.world_simulation.specs.StartFunctions.{CallsEach, OneStartMayCallSeveral}
use Rattle.base_lists.proofs.Related.{alike_there}
use Rattle.merge_names.specs.declared.mode.Mode.{Mode}
use Rattle.merge_spec.specs.Prelude.{starts, joined_module, linked_world}
use Rattle.merge_proof.specs.Joinable.{CanBeJoined}
use Rattle.merge_proof.specs.StartTypes.{StartsTakeNothing}
use Rattle.merge_proof.specs.SharedAddresses.{shared_count, sharing}
use Rattle.merge_proof.specs.AgreeingInstances.{InstancesAgree}
use Rattle.merge_proof.proofs.SpaceLaws.{SpaceLaws}
use Rattle.merge_proof.proofs.SharedPairing.{one_to_one, shares_own}
use Rattle.merge_proof.proofs.ValueLaws.{Laws}
use Rattle.merge_proof.proofs.ConstantValues.{is_inst}
use Rattle.merge_proof.proofs.MergedInstances.{instances_agree}
use Rattle.merge_proof.proofs.NamedEntities.{AllFit, view_agrees}
use Rattle.merge_proof.proofs.MergedSegments.{elems_in_order, datas_in_order}
use Rattle.merge_proof.proofs.MergedDefinitions.{definitions_correspond, stores_both}
use Rattle.world_simulation.specs.CorrespondingWorlds.{WhatIsInstantiated, AllocatedStoresCorrespond, CorrespondingWorldsBeginRelated}
use Rattle.merge_proof.proofs.ImportMatching.{all_matched}
use Rattle.merge_proof.proofs.StartedFunctions.{StartsAgree, starts_agree, segments_keep_funcs, caller_code, starts_typed}

-- An instantiated world with other start functions.
abbrev started : Begun → List ℕ → Begun
started c starts = record c { starts = starts }

-- If two optional values both exist or neither, and for those that exist the results of `f` and `g`
-- do so too, then the composed results both exist or neither.
there_after : {A B C D : Type 0} {P : A → B → Type 0} {o : Option A} {p : Option B} (f : A → Option C) (g : B → Option D) →
    OptRel P o p → ((a : A) (b : B) → o ≡ Some a → p ≡ Some b → P a b → is_some (f a) ≡ is_some (g b)) → is_some (option_and_then f o) ≡ is_some (option_and_then g p)
there_after f g none h = refl
there_after f g (some r) h = h _ _ refl refl r

-- ---- instantiation ----

module _ (spaces : SpaceLaws) (laws : Laws) (nothing : StartsTakeNothing) (similar_law : CorrespondingWorldsBeginRelated) (made_law : WhatIsInstantiated)
    (allocated_law : AllocatedStoresCorrespond) (alike_law : RelatedBegunHaveEqualTraces) (calls_law : OneStartMayCallSeveral)
    (env : Environment) (parts : List Part) (mode : Mode) (can : CanBeJoined parts mode) where
  abbrev R : Pairing
  R = sharing env parts

  abbrev J : Module
  J = joined_module parts mode

  abbrev M : List Part
  M = one J

  abbrev V : World
  V = linked_world parts mode

  abbrev W : World
  W = alone J

  fit : AllFit parts
  fit p m is = laws.entries parts p m (can.valid p m is)

  -- Either all instances of the parts and that of the merged module exist and agree, or both are
  -- missing.
  insts_agree : OptRel (InstancesAgree env parts) (insts_from env parts 0 parts) (insts_from env M 0 M)
  insts_agree = instances_agree spaces env parts mode can

  -- ---- the worlds correspond ----

  similar : AreSimilar R env V W
  similar insts js f g =
      let k = opt_both insts_agree f g in
      record {
        own = shares_own env parts;
        definitions = rw k.alone (definitions_correspond laws env parts mode can insts k.merged k.each (g ∙ ap Some k.alone));
        elems = elems_in_order laws env parts mode can insts js k g;
        datas = datas_in_order laws env parts mode can insts js k g;
        view = view_agrees env parts fit insts js k mode;
      }

  -- The environment links both worlds or neither.
  linked : links env V ≡ links env W
  linked = there_after _ _ insts_agree (λ insts js f g k.
      let worlds = similar insts js f g in
      there_after {P = λ s z. Unit {0}} _ _ (rw (k.alone, k.alone) (stores_both laws env parts mode can insts k.merged k.each (g ∙ ap Some k.alone))) (λ s z h i _.
      there_after _ _ (all_rel worlds.view) (λ _ _ _ _ _.
      rw (all_matched spaces env parts can.linked mode (allocated_law _ _ [] env V W insts js s z worlds.own worlds.definitions h i) insts js k h) (grind arith))))

  -- ---- traces ----

  module _ (moves : List Move) where
    abbrev shown : Option Begun → ℕ → List Event
    shown b = events_of tick (fresh_run env b moves)

    -- The trace of n steps of each world is a prefix of that of n + 4 steps of the other.
    abbrev ShowInFourMore : Option Begun → Option Begun → ℕ → Type 0
    ShowInFourMore b c n = IsPrefix (shown b n) (shown c (n + 4)) × IsPrefix (shown c n) (shown b (n + 4))

    module _ (b c : Begun) (x : IsInstantiated env V b) (y : IsInstantiated env W c) where
      k : InstancesAgree env parts x.insts y.insts
      k = opt_both insts_agree x.are_insts y.are_insts

      abbrev several : List ℕ
      several = starts_of parts x.insts

      abbrev merged_begun : Begun
      merged_begun = begun env W y.insts y.view (segments env M y.insts y.allocated)

      agreed : StartsAgree env parts k.merged several (starts_of M y.insts)
      agreed = starts_agree spaces env parts can.linked mode fit x.insts y.insts k y.are_insts

      calls_each : (f g : ℕ) (fs : List ℕ) → starts parts ≡ f ∷ g ∷ fs → CallsEach merged_begun.store (shared_count env parts Functions) several
      calls_each f g fs e =
          -- The store after the segments are copied has the functions that were allocated.
          let same_funcs = segments_keep_funcs env M y.insts y.allocated in
          let inst = is_inst laws env J k.merged (y.are_insts ∙ ap Some k.alone) in
          let there = subst (λ js. stores_from env M js (own_store env) 0 M js ≡ Some y.allocated) k.alone y.is_allocated in
          record {
            inst = k.merged;
            calls = starts parts;
            code = rw same_funcs (caller_code spaces nothing env parts mode can k.merged y.allocated inst there f g fs e);
            each = starts_typed spaces nothing env parts mode can k.merged y.allocated inst there y.matched several agreed.named _ (λ f a named typed. record { named = named; typed = rw same_funcs typed });
          }

      starts_alike : (n : ℕ) → ShowInFourMore (Some (started merged_begun several)) (Some merged_begun) n
      starts_alike n = go (starts parts) refl
        where
          go : (l : List ℕ) → starts parts ≡ l → ShowInFourMore (Some (started merged_begun several)) (Some merged_begun) n
          go (f ∷ g ∷ fs) e =
              let two_more = calls_law env (started merged_begun several) (shared_count env parts Functions) (calls_each f g fs e) moves n in
              rw (agreed.calls f g fs e) (in_more_steps tick _ (n + 2) (n + 4) _ (omega arith) two_more.0, in_more_steps tick _ n (n + 4) _ (omega arith) two_more.1)
          go l e = rw (agreed.few (grind arith)) (shorter tick _ n 4, shorter tick _ n 4)

    both_show : (n : ℕ) (b c : Begun) → instantiate env V ≡ Some b → instantiate env W ≡ Some c → ShowInFourMore (Some b) (Some c) n
    both_show n b c f g =
        let x = made_law env V b f in
        let y = made_law env W c g in
        let q = similar_law _ _ [] (one_to_one env parts) env V W similar b c f g in
        let equal = alike_law _ (one_to_one env parts) env (Some b) (Some (started c b.starts)) (some (record {
          store = q.store;
          entries = cons (opening (rw (← x.is) (agreed b c x y).shared)) nil;
          closed = nil;
          trapped = q.trapped;
          view = q.view;
          owned = q.owned;
        })) moves in
        rw (equal n, equal (n + 4), ← x.is, ← y.is) (starts_alike b c x y n)

    pub show_the_same : (n : ℕ) → ShowInFourMore (instantiate env (linked_world parts mode)) (instantiate env (alone (joined_module parts mode))) n
    show_the_same n = go (alike_there _ _ linked (both_show n))
      where
        go : {b c : Option Begun} → OptRel (λ b c. ShowInFourMore (Some b) (Some c) n) b c → ShowInFourMore b c n
        go none = (shorter tick _ n 4, shorter tick _ n 4)
        go (some r) = r
