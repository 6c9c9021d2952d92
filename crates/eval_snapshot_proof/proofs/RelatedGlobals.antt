-- Globals of the machine's run and of the snapshot: each known one holds the value of its constant,
-- and each unknown one holds the value of its initialiser in both.
use Rattle.base_lists.proofs.Common.{◌≡◌, ◌∙◌, sym, ap, refl, subst, ℕ, zero, suc, ◌+◌, ◌-◌, ◌<◌, List, [], ◌∷◌, length, Bool, true, false, not, ◌||◌, Option, Some, None, inl, inr, arith, slice_get, cases_lt, places_many, length-append, length-map, same_Some, slice_get_within, and_then_is}
use Rattle.base_lists.proofs.Common.{slice_get_there, get_rel, both_at, opt_both}
use Rattle.base_lists.specs.Members.{is_among}
use Rattle.std.specs.Prelude.{unwrap_or}
use Rattle.base_lists.specs.Options.{◌>>=◌}
use Rattle.wasm_tree_spec.specs.Prelude.{Globals, ConstExpr, GlobalDef, Module, imported_globals, globals_of}
use Rattle.wasm_meaning.specs.Prelude.{Text, Inst, Val, Global, Store, imports_of, Environment, own_globals, own_count, own_store}
use Rattle.run_simulation.specs.Prelude.{Pairing, BothRel, both, ValRel, GlobalRel, GlobalOff, StoreRelOff}
use Rattle.index_remap_proof.specs.Indices.{TreeNamesOnly, with_entry}
use Rattle.world_simulation.specs.Prelude.{one, IsInst}
use Rattle.world_simulation.specs.InstantiatedStores.{Leaves}
use Rattle.world_simulation.proofs.EnvironmentEntities.{own_globals_rel}
use Rattle.eval_snapshot_proof.specs.Ranges.{GlobalsAreExpressible}
use Rattle.eval_spec.specs.Prelude.{State, is_imported, imported_store, own_inst, value_in, value_of_global}
use Rattle.eval_proof.specs.UnrelatedPlaces.{LeavesAlone}
use Rattle.eval_snapshot_spec.specs.After.{TellsTheSame}
use Rattle.eval_snapshot_spec.specs.Snapshot.{empty_func, global_left, globals_left, snapshot}
use Rattle.eval_snapshot_proof.specs.GlobalsAndSegments.{EachGlobalIsLeft}
use Rattle.world_simulation.specs.ConstantValues.{ConstantsAloneReadTheEnvironment}
use Rattle.eval_snapshot_proof.specs.EvaluatedWorlds.{with_empty_func}
use Rattle.eval_snapshot_proof.proofs.AddedFunctions.{globals_many}
use Rattle.eval_snapshot_proof.proofs.RelatedInstances.{R, enough, first_value, same_imports, same_types, second_value, value_itself, values_same}
use Rattle.eval_snapshot_proof.proofs.NamedIndices.{each_index}
use Rattle.eval_snapshot_proof.proofs.KnownGlobals.{Run, constant_again, told_known, untold_unknown}
use Rattle.eval_snapshot_proof.proofs.QuietSegments.{neither}
use Rattle.eval_snapshot_proof.proofs.IndexRelation.{defined, named as address}
use Rattle.eval_snapshot_proof.proofs.SharedAddresses.{defined_named, shares_own}
use Rattle.eval_snapshot_proof.proofs.SnapshotParts.{shape, left_globals_many, bound}
use Rattle.eval_snapshot_proof.proofs.DefinedIndices.{global_stands, not_imported}
use Rattle.eval_snapshot_proof.proofs.UnchangedParts.{Steady}

-- A global of the list is left with its index, counted from `from` on.
globals_at : (m : Module) (s : State) (from : ℕ) (gs : List GlobalDef) (n : ℕ) (g : GlobalDef) → slice_get gs n ≡ Some g → slice_get (globals_left m s from gs) n ≡ Some (global_left m s (from + n) g)
globals_at m s from [] n g h = absurd (let k = h in cc)
globals_at m s from (x ∷ xs) zero g h = let z : from ≡ from + 0 = omega arith in ap (λ k. Some (global_left m s k x)) z ∙ ap (λ x. Some (global_left m s (from + 0) x)) (same_Some _ _ h)
globals_at m s from (x ∷ xs) (suc n) g h = let z : suc from + n ≡ from + suc n = omega arith in globals_at m s (suc from) xs n g h ∙ ap (λ k. Some (global_left m s k g)) z

or_true : (b c : Bool) → b ≡ false → b || c ≡ true → c ≡ true
or_true b c f e = ap (λ b. b || c) (sym f) ∙ e

module _ (constants : ConstantsAloneReadTheEnvironment) (env : Environment) (m : Module) (s : State) (name : Text) (names kept : List Text) (i j : Inst) (a : IsInst env (one (with_empty_func m)) 0 (with_empty_func m) i)
    (b : IsInst env (one (snapshot m s (name ∷ names) kept)) 0 (snapshot m s (name ∷ names) kept) j)
    (named : TreeNamesOnly (with_entry (each_index m)) m) (begun after : Store) (q e : State)
    (left : Leaves (first_value env m s name names kept i j a b) (with_empty_func m) i (own_store env) begun) (quiet : Leaves (value_in m) m (own_inst m) (imported_store m) q.store)
    (steady : Steady q.store e.store) (related : StoreRelOff (Run m i) e.unknown e.store after) (alone : LeavesAlone (Run m i) e.unknown begun after) (told : TellsTheSame m s e)
    (fit : GlobalsAreExpressible e.store) where
  abbrev first : Module
  first = with_empty_func m

  abbrev second : Module
  second = snapshot m s (name ∷ names) kept

  abbrev value : ConstExpr → Option Val
  value = first_value env m s name names kept i j a b

  abbrev again : ConstExpr → Option Val
  again = second_value env m s name names kept i j a b

  abbrev Q : Pairing
  Q = R env m s name names kept

  abbrev place : ℕ
  place = length (imported_globals m.imports)

  abbrev own : ℕ
  own = own_count Globals env

  counted : length (imports_of Globals m) ≡ place
  counted = places_many _ _ m.imports (grind arith) 0

  many : length (globals_of m) ≡ place + length m.globals
  many = length-append (imported_globals m.imports) _ ∙ ap (λ z. place + z) (length-map m.globals (λ g. g.ty))

  -- The address of the global that is defined at a place.
  defined_at : (n : ℕ) → n < length m.globals → slice_get i.globals (place + n) ≡ Some (own + n)
  defined_at n lt =
      let same = left_globals_many m s name names kept in
      let d = defined_named (bound m s name names kept env) env (enough env m s name names kept) first second (same_types env m s name names kept i j a b)
      (same_imports env m s name names kept i j a b) Globals i.globals j.globals a.globals b.globals n lt (omega (arith, lt, same)) (omega (arith, lt)) in
      ap (λ z. slice_get i.globals (z + n)) (sym counted) ∙ d.0

  stands : (n : ℕ) → n < length m.globals → ((Run m i).of Globals (place + n) (own + n))
  stands n lt = let c = counted in let all = many in global_stands m i (place + n) (own + n) (omega (arith, c)) (omega (arith, lt, all)) (defined_at n lt)

  -- The global of the quiet run and that of the machine: the type of the second, and the relation
  -- of both values if the global is known.
  record Holds (n : ℕ) (g : GlobalDef) : Type 0 where
    was : Global
    was_is : slice_get e.store.globals (place + n) ≡ Some was
    now : Global
    now_is : slice_get after.globals (own + n) ≡ Some now
    type : now.ty ≡ g.ty
    value_known : not (is_among e.unknown.globals (place + n)) ≡ true → ValRel (Run m i) was.value now.value

  holds : (n : ℕ) (g : GlobalDef) → slice_get m.globals n ≡ Some g → Holds n g
  holds n g at = by (slice_get e.store.globals (place + n)) (slice_get after.globals (own + n)) refl refl (related.globals {a = place + n} {b = own + n} (stands n (slice_get_within m.globals n g at)))
    where
      -- The type of the global is that of the definition.
      typed : (x : Global) → slice_get e.store.globals (place + n) ≡ Some x → x.ty ≡ g.ty
      typed x h =
          let p = quiet.globals n g at in
          let w = and_then_is (value_in m g.init) _ p.0 p.1 in
          let count : length (imported_store m).globals ≡ place = length-map (imported_globals m.imports) _ in
          let f = steady.globals (place + n) p.0 (ap (λ z. slice_get q.store.globals (z + n)) (sym count) ∙ p.2) in
          ap (λ (x : Global). x.ty) (same_Some x f.0 (sym h ∙ f.1)) ∙ f.2 ∙ ap (λ (x : Global). x.ty) (sym (same_Some _ _ w.2))

      by : (o p : Option Global) → slice_get e.store.globals (place + n) ≡ o → slice_get after.globals (own + n) ≡ p →
          BothRel (GlobalOff (Run m i) (not (is_among e.unknown.globals (place + n)))) o p → Holds n g
      by _ _ f h (both {a = x} {b = y} r) = record { was = x; was_is = f; now = y; now_is = h; type = sym r.type ∙ typed x f; value_known = r.value }

  -- The address of a defined global is denoted only by its own index.
  only_index : (n z : ℕ) → ((Run m i).of Globals z (own + n)) → z ≡ place + n
  only_index n z r =
      let c = counted in
      let size = globals_many env m (empty_func m ∷ []) i a in
      let all = many in
      let within = slice_get_within i.globals z (own + n) (address m i Globals z (own + n) r) in
      let least = defined m i Globals refl z (own + n) r in
      let k = z - place in
      let z_is : z ≡ place + k = omega (arith, c, least) in
      let at = defined_at k (omega (arith, within, size, all, c, z_is)) in
      let same : own + k ≡ own + n = same_Some _ _ (sym at ∙ ap (slice_get i.globals) (sym z_is) ∙ (address m i Globals z (own + n) r)) in
      omega (arith, same, z_is)

  none_below : (x z : ℕ) → x < own → ((Run m i).of Globals z x) → ⊥
  none_below x z low r =
      let c = counted in
      let size = globals_many env m (empty_func m ∷ []) i a in
      let all = many in
      let within = slice_get_within i.globals z x (address m i Globals z x r) in
      let least = defined m i Globals refl z x r in
      let k = z - place in
      let z_is : z ≡ place + k = omega (arith, c, least) in
      let at = defined_at k (omega (arith, within, size, all, c, z_is)) in
      let same : own + k ≡ x = same_Some _ _ (sym at ∙ ap (slice_get i.globals) (sym z_is) ∙ (address m i Globals z x r)) in
      omega (arith, same, low)

  -- ---- what the snapshot's initialiser gives ----

  abbrev init_left : ℕ → GlobalDef → ConstExpr
  init_left n g = unwrap_or (value_of_global m s (place + n)) g.init

  -- The initialiser of the snapshot's global has a value that is related to that of the machine's
  -- global.
  gives : (n : ℕ) (g : GlobalDef) → slice_get m.globals n ≡ Some g → (h : Holds n g) → (w : Val) × (again (init_left n g) ≡ Some w) × ValRel Q h.now.value w
  gives n g at h = by (value_of_global m s (place + n)) (sym (told.globals (place + n)))
    where
      defined : is_imported m Globals (place + n) ≡ false
      defined = let c = counted in not_imported m i Globals (place + n) (omega (arith, c))

      by : (o : Option ConstExpr) → value_of_global m e (place + n) ≡ o → (w : Val) × (again (unwrap_or o g.init) ≡ Some w) × ValRel Q h.now.value w
      by (Some c) p =
          let k = told_known env m s name names kept i j a b e (place + n) c p in
          let known : not (is_among e.unknown.globals (place + n)) ≡ true = ap not (neither (is_imported m Globals (place + n)) (is_among e.unknown.globals (place + n)) k.0) in
          let r = subst (λ (x : Global). ValRel (Run m i) x.value h.now.value) (same_Some h.was k.1 (sym h.was_is ∙ k.2)) (h.value_known known) in
          constant_again env m s name names kept i j a b k.1.value h.now.value (fit (place + n) k.1 k.2) r c k.3
      by None p =
          let unknown = or_true (is_imported m Globals (place + n)) (is_among e.unknown.globals (place + n)) defined
          (untold_unknown env m s name names kept i j a b e fit (place + n) h.was h.was_is p) in
          let stays = alone.globals (own + n) (λ z r. subst (λ z. is_among e.unknown.globals z ≡ true) (sym (only_index n z r)) unknown) in
          let x = left.globals n g at in
          let w = and_then_is (value g.init) _ x.0 x.1 in
          let same : x.0 ≡ h.now = same_Some x.0 h.now (sym x.2 ∙ sym stays ∙ h.now_is) in
          let init = named.globals n g at in
          let is : w.0 ≡ h.now.value = ap (λ (x : Global). x.value) (same_Some _ _ w.2 ∙ same) in
          (w.0, sym (values_same env m s name names kept i j a b constants g.init init) ∙ w.1, subst (λ x. ValRel Q x w.0) is (value_itself env m s name names kept i j a b constants g.init w.0 init w.1))

  -- Each initialiser of the snapshot has a value.
  pub inits_there : EachGlobalIsLeft → (n : ℕ) (g : GlobalDef) → slice_get second.globals n ≡ Some g → (x : Val) × (again g.init ≡ Some x)
  inits_there each_left n g h =
      let k = each_left m s place m.globals n g (ap (λ l. slice_get l n) (sym (shape m s name names kept).globals) ∙ h) in
      let w = gives n k.0 k.1 (holds n k.0 k.1) in
      (w.0, ap (λ (g : GlobalDef). again g.init) k.2 ∙ w.1)

  -- ---- both stores ----

  pub globals_alike : (other : Store) → Leaves again second j (own_store env) other → (n : ℕ) → n < bound m s name names kept env Globals →
      BothRel (GlobalRel Q) (slice_get after.globals n) (slice_get other.globals n)
  globals_alike other right n lt = elim (cases_lt n own) [
    | inl low ↦
        let g = slice_get_there (own_globals env) n low in
        let stays = alone.globals n (λ z r. absurd (none_below n z low r)) in
        both_at after.globals other.globals n n g.0 g.0 (stays ∙ left.earlier_globals n g.0 g.1) (right.earlier_globals n g.0 g.1)
        (opt_both (get_rel (own_globals_rel Q env (shares_own (bound m s name names kept env) env (enough env m s name names kept))) n) g.1 g.1)
    | inr le ↦
        let k = n - own in
        let n_is : own + k ≡ n = omega (arith, le) in
        let g = slice_get_there m.globals k (omega (arith, n_is, lt)) in
        let h = holds k g.0 g.1 in
        let w = gives k g.0 g.1 h in
        let def : slice_get second.globals k ≡ Some (global_left m s (place + k) g.0) = ap (λ l. slice_get l k) (shape m s name names kept).globals ∙ globals_at m s place m.globals k g.0 g.1 in
        let y = right.globals k (global_left m s (place + k) g.0) def in
        let now : Global = record { ty = g.0.ty; value = w.0 } in
        let made : y.0 ≡ now = same_Some y.0 now (sym y.1 ∙ ap (λ o. o >>= λ v. Some (record { ty = g.0.ty; value = v })) w.1) in
        subst (λ n. BothRel (GlobalRel Q) (slice_get after.globals n) (slice_get other.globals n)) n_is
        (both_at after.globals other.globals (own + k) (own + k) h.now now h.now_is (y.2 ∙ ap Some made) (record { type = h.type; value = w.2 }))
  ]
