-- The start functions of the parts, and the start function of the merged module that takes their
-- place.
use Rattle.base_lists.proofs.Common.{◌≡◌, ◌∙◌, sym, refl, ℕ, suc, ◌<◌, List, [], ◌∷◌, length, Option, Some, None, true, arith, slice_get, map, ltb-true, append_right, place_of, append_at_left, length-append, option_map_is, append_rel, each_same_is}
use Rattle.wasm_tree_spec.specs.Prelude.{Functions, FuncType, Module, Call, func_of, imported_funcs, type_of_func, same_type, same_func_type}
use Rattle.wasm_meaning.specs.Prelude.{Inst, Code, Store, Part, has_kind, sites, Environment, all_of, defined_before, start_in, starts_of, insts_from, own_store, stores_from, is_matched, Filled, run_elem, run_data, one_by_one, segments, type_at, FuncAt}
use Rattle.run_simulation.specs.Prelude.{ListRel, nil, cons}
use Rattle.index_remap.specs.Prelude.{fits_start}
use Rattle.merge_names.specs.declared.mode.Mode.{Mode}
use Rattle.merge_spec.specs.Prelude.{link_fault, FuncOf, map_of, start_of, by_part_from, nullary, start_calls, place_of_type, joined_module}
use Rattle.merge_spec.specs.Merged.{starts, defined_funcs}
use Rattle.world_simulation.specs.Prelude.{Instantiated, one, site, IsInst, imports, defines}
use Rattle.merge_proof.specs.SharedAddresses.{shared_count, sharing}
use Rattle.merge_proof.specs.AgreeingInstances.{PartAgrees, InstancesAgree}
use Rattle.merge_proof.proofs.SpaceLaws.{SpaceLaws}
use Rattle.merge_proof.proofs.SharedPairing.{shares}
use Rattle.merge_proof.proofs.MergedAlone.{joined_keeps, names_of, joined_types, joined_start, joined_funcs}
use Rattle.merge_proof.proofs.MergedInstances.{entry_is, along, own_at}
use Rattle.merge_proof.proofs.NamedEntities.{AllFit, start_fits}
use Rattle.merge_proof.specs.Joinable.{CanBeJoined}
use Rattle.merge_proof.specs.StartTypes.{StartsTakeNothing}
use Rattle.merge_proof.proofs.ExternalTypes.{site_fits}
use Rattle.merge_proof.proofs.ImportMatching.{func_typed}

-- ---- the started functions: the same one, none, or the function that calls several ----

-- An address, and the index by which the merged module's instance names it.
pub record IsNamed (env : Environment) (parts : List Part) (j : Inst) (a f : ℕ) : Type 0 where
  pub names : slice_get j.funcs f ≡ Some a
  pub shared : a < shared_count env parts Functions

-- The addresses of the functions that the parts start one after the other, those of what the merged
-- module starts, and the new indices of the parts' starts.
pub record StartsAgree (env : Environment) (parts : List Part) (j : Inst) (several joined : List ℕ) : Type 0 where
  pub named : ListRel (IsNamed env parts j) several (starts parts)
  pub shared : ListRel ((sharing env parts).of Functions) several several
  -- If at most one part has a start, the merged module starts the same function.
  pub few : length (starts parts) < 2 → joined ≡ several
  -- If several parts have a start, the merged module starts its last function, which calls these.
  pub calls : (f g : ℕ) (fs : List ℕ) → starts parts ≡ f ∷ g ∷ fs → joined ≡ shared_count env parts Functions ∷ []

-- ---- several starts ----

module _ {env : Environment} {parts : List Part} {j : Inst} where
  shared_with_self : {several fs : List ℕ} → ListRel (IsNamed env parts j) several fs → ListRel ((sharing env parts).of Functions) several several
  shared_with_self nil = nil
  shared_with_self (cons w r) = cons (shares env parts Functions _ w.shared) (shared_with_self r)

  -- A property of the index of each start and the address that it names holds of the two lists,
  -- entry by entry.
  each_start : (P : ℕ → ℕ → Type 0) {several fs : List ℕ} → ListRel (IsNamed env parts j) several fs → ((n f a : ℕ) → slice_get fs n ≡ Some f → slice_get j.funcs f ≡ Some a → P f a) → ListRel P fs several
  each_start P nil h = nil
  each_start P (cons w r) h = cons (h 0 _ _ refl w.names) (each_start P r (λ n. h (suc n)))

module _ (laws : SpaceLaws) (env : Environment) (parts : List Part) (linked : link_fault parts true ≡ None) (mode : Mode) (fit : AllFit parts) (insts js : List Inst) (agree : InstancesAgree env parts insts js) where
  abbrev J : Module
  J = joined_module parts mode

  one_named : (p : ℕ) (m : Module) (i : Inst) → PartAgrees env parts p m i agree.merged → (start : Option ℕ) → fits_start (map_of parts p m) start ≡ true → ListRel (IsNamed env parts agree.merged) (start_in i start) (start_of parts p start)
  one_named p m i agrees None h = nil
  one_named p m i agrees (Some f) h = let s = agrees.funcs.each f (ltb-true _ _ h) in grind (arith, nil, cons, s, entry_is parts p m Functions refl f (ltb-true _ _ h))

  all_named : ListRel (IsNamed env parts agree.merged) (starts_of parts insts) (starts parts)
  unfolding starts
  all_named = along agree (λ p rest is. ListRel (IsNamed env parts agree.merged) (starts_of rest is) (by_part_from (λ p m. start_of parts p m.start) p rest)) (λ p is. nil)
      (λ p part i rest is at a later. let m = part.«module» in append_rel (one_named p m i a m.start (start_fits (map_of parts p m) m (fit p m at))) later)

  pub starts_agree : insts_from env (one J) 0 (one J) ≡ Some js → StartsAgree env parts agree.merged (starts_of parts insts) (starts_of (one J) js)
  starts_agree there = rw (agree.alone, joined_start parts mode) (record {
    named = all_named;
    shared = shared_with_self all_named;
    few = λ l. grind (arith, all_named);
    -- The merged module has an additional function, which its instance names by the last index.
    calls = λ f g fs e.
        let j : (j : Inst) × (js ≡ j ∷ []) × IsInst env (one J) 0 J j = search (arith, there) in
        grind (arith, e, j.1, own_at laws env parts linked mode j.0 j.2 Functions refl (defined_before Functions parts (length parts)));
  })

-- ---- the started functions in the store: those of the parts, and the one that calls several ----

-- ---- segments leave the functions as they are ----

-- A sequence of runs leaves the functions as they are, if each of them does.
in_turn_keeps : {A : Type 0} (run : Store → A → Filled) → ((s : Store) (x : A) → (run s x).store.funcs ≡ s.funcs) → (s : Store) (xs : List A) → (one_by_one run s xs).store.funcs ≡ s.funcs
in_turn_keeps run h s [] = refl
in_turn_keeps run h s (x ∷ xs) = grind (arith, h, in_turn_keeps run h (run s x).store xs)

pub segments_keep_funcs : (env : Environment) (parts : List Part) (insts : List Inst) (s : Store) → (segments env parts insts s).store.funcs ≡ s.funcs
segments_keep_funcs env parts insts s = grind (arith, in_turn_keeps (run_elem env parts insts) (λ s x. grind arith), in_turn_keeps (run_data env parts insts) (λ s x. grind arith))

-- ---- the merged module's functions ----

-- A function type that passes the test of sameness with the type of a start is that type.
nullary_is : (t : FuncType) → same_func_type nullary t ≡ true → nullary ≡ t
nullary_is t h = grind (arith, each_same_is same_type (λ a b e. grind arith))

module _ (laws : SpaceLaws) (nothing : StartsTakeNothing) (env : Environment) (parts : List Part) (mode : Mode) (can : CanBeJoined parts mode) (j : Inst) (z : Store) (inst : IsInst env (one (joined_module parts mode)) 0 (joined_module parts mode) j)
    (there : stores_from env (one (joined_module parts mode)) (j ∷ []) (own_store env) 0 (one (joined_module parts mode)) (j ∷ []) ≡ Some z) where
  abbrev whole : Module
  whole = joined_module parts mode

  abbrev M : List Part
  M = one whole

  abbrev w : Instantiated
  w = record { parts = M; insts = j ∷ [] }

  -- If several parts have a start, the function that calls these comes last.
  pub caller_code : (f g : ℕ) (fs : List ℕ) → starts parts ≡ f ∷ g ∷ fs → slice_get z.funcs (shared_count env parts Functions) ≡ Some (Code nullary j [] (map Call (starts parts)))
  caller_code f g fs e =
      let calls = start_calls parts (starts parts) in
      let r = (laws.placed env w z there).funcs (record {
        part = 0;
        of = whole;
        is_part = refl;
        inst = j;
        is_inst = refl;
        place = defined_before Functions parts (length parts);
        definition = record { ty = place_of_type parts nullary; locals = []; body = map Call (starts parts) };
        stands = grind (
          arith,
          append_right (defined_funcs parts) calls 0,
          length-append (defined_funcs parts) calls,
          (joined_keeps parts mode).funcs,
          joined_funcs parts mode,
          laws.counts parts (names_of parts mode) Functions refl,
        );
        address = omega arith;
      }) in
      r.1 ∙ sym r.2 ∙ rw (inst.types, joined_types parts mode, (nothing parts (names_of parts mode) can.valid can.linked 0 f (rw e)).1)

  -- The start functions of the parts take and give nothing, if all imports match.
  pub starts_typed : all_of (is_matched env M z) (sites M) ≡ true → (several : List ℕ) → ListRel (IsNamed env parts j) several (starts parts) →
      (P : ℕ → ℕ → Type 0) → ((f a : ℕ) → slice_get j.funcs f ≡ Some a → type_at z a ≡ Some nullary → P f a) → ListRel P (starts parts) several
  starts_typed matched several named P h = each_start P named (λ n f a is e.
      let q = joined_keeps parts mode in
      let typed : type_of_func whole f ≡ Some nullary = rw (q.types, q.func_space) (nothing parts (names_of parts mode) can.valid can.linked n f is).0 in
      -- A function in the store has the type of the index that names it.
      h f a e (elim (laws.names env M Functions 0 whole _ (laws.index_spaces env M Functions 0 whole _ inst.funcs) f a e) [
        | imports k at address ↦
            let r = place_of (has_kind Functions) (λ i. func_of i.desc) whole.imports (grind arith) 0 f k at in
            let fits = site_fits env M z (site k) r.1 (FuncOf nullary) (grind (arith, r.2, r.3)) (grind (arith, r.2, r.3, append_at_left (imported_funcs whole.imports))) laws.sites matched in
            -- A function that fits has the type that is asked for.
            let thing : fits.thing ≡ FuncAt a = grind (arith, rw fits.is at address) in
            let u = option_map_is FuncOf (type_at z a) fits.type (rw thing at fits.typed) in
            rw (nullary_is u.0 (rw (← u.2) at fits.fits.same)) u.1
        | defines k at low is ↦ grind (arith, func_typed env w z (laws.placed env w z there) 0 whole j refl refl inst.types f nullary)
      ]))
