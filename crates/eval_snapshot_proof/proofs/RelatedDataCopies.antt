-- The copies that the data segments of a module and of its snapshot make into memories: nothing is
-- copied into the environment's own memories, and the defined memory of the snapshot receives its
-- contents.
use Rattle.base_lists.proofs.Common.{◌≡◌, ◌∙◌, sym, ap, refl, subst, ℕ, suc, ◌+◌, ◌-◌, ◌*◌, ◌^◌, ◌<◌, ◌≤◌, List, [], ◌∷◌, ◌++◌, map, length, false, cond, Option, Some, None, ◌⊎◌, inl, inr, ⊎_elim, arith, slice_get, nat_lt, cases_lt, lt-ltb, ne_eqb, places_many, length-append, slice_get_within}
use Rattle.base_lists.proofs.Common.{every_at, append_from, map_at, map_from, length-map}
use Rattle.std.proofs.lemmas.Bool.{true≢false}
use Rattle.base_lists.specs.Options.{◌>>=◌}
use Rattle.wasm_tree_spec.specs.Prelude.{Memories, Limits, ConstExpr, DataMode, DataSeg, Module, imported_memories, memories_of}
use Rattle.wasm_tree.specs.declared.module.DataMode.TheVariants as data'
use Rattle.wasm_meaning.specs.Prelude.{copies, overwrite, Text, Inst, Val, Memory, Store, imports_of, Environment, own_memories, own_count}
use Rattle.index_remap_proof.specs.Indices.{DataModeNamesOnly, TreeNamesOnly, with_entry}
use Rattle.world_simulation.specs.Prelude.{one, new_memory, IsInst, new_data}
use Rattle.world_simulation.specs.InstantiatedStores.{Copy, nothing, contents, is_address, over, all_over, data_copy, data_copies}
use Rattle.world_simulation.specs.SegmentCopies.{AreOf, IsOf, memories}
use Rattle.eval_spec.specs.Prelude.{State, is_imported, memory_bytes}
use Rattle.eval_snapshot_spec.specs.Contents as tree
use Rattle.eval_snapshot_spec.specs.Contents.{Stretch, stretch_segment, stretches}
use Rattle.eval_snapshot_spec.specs.Snapshot.{old_segments, snapshot}
use Rattle.eval_snapshot_proof.specs.EvaluatedWorlds.{with_empty_func}
use Rattle.eval_snapshot_proof.proofs.RelatedInstances.{enough, first_value, second_value, same_imports, same_types}
use Rattle.eval_snapshot_proof.proofs.NamedIndices.{below, each_index}
use Rattle.eval_snapshot_proof.proofs.FittingSegments.{Fit, GoesSomewhere}
use Rattle.eval_snapshot_proof.proofs.QuietSegments.{IsQuietlyMade}
use Rattle.eval_snapshot_proof.proofs.SharedAddresses.{defined_named}
use Rattle.eval_snapshot_proof.proofs.SnapshotParts.{shape, bound}
use Rattle.eval_snapshot_proof.proofs.SnapshotMemory.{old_passive, snapshot_memory}

-- ---- copies that go elsewhere ----

abbrev pub Elsewhere : ℕ → Copy ℕ → Type 0
Elsewhere address nothing = Unit {0}
Elsewhere address (contents to offset copied) = is_address to address ≡ false

one_elsewhere : (address : ℕ) (c : Copy ℕ) (xs : List ℕ) → Elsewhere address c → over address c xs ≡ Some xs
one_elsewhere address nothing xs h = refl
one_elsewhere address (contents to offset copied) xs h = ap (λ b. cond b (offset >>= λ n. copied >>= λ ys. overwrite xs n ys) (Some xs)) h

pub all_elsewhere : (address : ℕ) (cs : List (Copy ℕ)) (xs : List ℕ) → ((n : ℕ) (c : Copy ℕ) → slice_get cs n ≡ Some c → Elsewhere address c) → all_over address cs xs ≡ Some xs
all_elsewhere address [] xs h = refl
all_elsewhere address (c ∷ cs) xs h = ap (λ o. o >>= all_over address cs) (one_elsewhere address c xs (h 0 c refl)) ∙ all_elsewhere address cs xs (λ n. h (suc n))

-- ---- what the memory is to hold ----

-- The bytes of the memory that a module defines, if it defines one.
pub record AreBytesOf (m : Module) (bytes : List ℕ) : Type 0 where
  pub none : length m.mems ≡ 0 → bytes ≡ []
  pub size : (l : Limits) → slice_get m.mems 0 ≡ Some l → length bytes ≡ 65536 * l.min
  pub small : length bytes ≤ 2 ^ 32

module _ (env : Environment) (m : Module) (s : State) (name : Text) (names kept : List Text) (i j : Inst) (a : IsInst env (one (with_empty_func m)) 0 (with_empty_func m) i)
    (b : IsInst env (one (snapshot m s (name ∷ names) kept)) 0 (snapshot m s (name ∷ names) kept) j)
    (made : IsQuietlyMade m) (named : TreeNamesOnly (with_entry (each_index m)) m) where
  abbrev first : ConstExpr → Option Val
  first = first_value env m s name names kept i j a b

  abbrev second : ConstExpr → Option Val
  second = second_value env m s name names kept i j a b

  abbrev pub place : ℕ
  place = length (imported_memories m.imports)

  abbrev pub bytes : List ℕ
  bytes = memory_bytes m s

  abbrev pub own : ℕ
  own = own_count Memories env

  -- A defined memory has the same address in both.
  pub memory_at : (n : ℕ) → n < length m.mems → (slice_get i.mems (place + n) ≡ Some (own + n)) × (slice_get j.mems (place + n) ≡ Some (own + n))
  memory_at n lt =
      let c : length (imports_of Memories m) ≡ place = places_many _ _ m.imports (grind arith) 0 in
      let same : length (snapshot m s (name ∷ names) kept).mems ≡ length m.mems = ap length (shape m s name names kept).mems in
      let d = defined_named (bound m s name names kept env) env (enough env m s name names kept) (with_empty_func m) (snapshot m s (name ∷ names) kept) (same_types env m s name names kept i j a b)
      (same_imports env m s name names kept i j a b) Memories i.mems j.mems a.mems b.mems n lt (omega (arith, lt, same)) (omega (arith, lt)) in
      (ap (λ z. slice_get i.mems (z + n)) (sym c) ∙ d.0, ap (λ z. slice_get j.mems (z + n)) (sym c) ∙ d.1)

  few : length m.mems ≤ 1
  few = let single = made.single in let all = length-append (imported_memories m.imports) m.mems in omega (arith, single, all)

  -- ---- of the module ----

  at_most : (x n : ℕ) → nat_lt x n ≡ false → n ≤ x
  at_most x n h = elim (cases_lt x n) [
    | inl lt ↦ absurd (true≢false (sym (lt-ltb x n lt) ∙ h))
    | inr le ↦ le
  ]

  active_elsewhere : (address : ℕ) → address < own → (d : DataSeg) (x : ℕ) (offset : ConstExpr) → x < length (memories_of m) → is_imported m Memories x ≡ false →
      Elsewhere address (data_copy first i d (data'.Active x offset))
  active_elsewhere address low d x offset lt defined =
      let c : length (imports_of Memories m) ≡ place = places_many _ _ m.imports (grind arith) 0 in
      let le = at_most x (length (imports_of Memories m)) defined in
      let all = length-append (imported_memories m.imports) m.mems in
      let n = x - place in
      let x_is : x ≡ place + n = omega (arith, le, c) in
      let at = memory_at n (omega (arith, lt, all, x_is)) in
      ap (λ o. is_address o address) (ap (slice_get i.mems) x_is ∙ at.0) ∙ ne_eqb (own + n) address (λ e. omega (arith, e, low))

  first_elsewhere : (address : ℕ) → address < own → (n : ℕ) (c : Copy ℕ) → slice_get (data_copies first i m.datas) n ≡ Some c → Elsewhere address c
  first_elsewhere address low n c h =
      let d = map_from (λ d. data_copy first i d d.mode) m.datas n c h in
      subst (Elsewhere address) d.2 (by d.0 d.1 d.0.mode refl)
    where
      by : (d : DataSeg) → slice_get m.datas n ≡ Some d → (mode : DataMode) → d.mode ≡ mode → Elsewhere address (data_copy first i d mode)
      by d at data'.Passive e = tt
      by d at (data'.Active x offset) e =
          active_elsewhere address low d x offset (below (length (memories_of m)) x (subst (DataModeNamesOnly (with_entry (each_index m))) e (named.data_modes n d at)).0)
          (made.defined n d at x offset e)

  -- The data segments of the module write no memory of the environment's own.
  pub first_own_stays : (address : ℕ) → address < own → (xs : List ℕ) → all_over address (data_copies first i m.datas) xs ≡ Some xs
  first_own_stays address low xs = all_elsewhere address (data_copies first i m.datas) xs (first_elsewhere address low)

  -- ---- of the snapshot ----

  module _ (are : AreBytesOf m bytes) where
    abbrev pub all : List DataSeg
    all = old_segments m s ++ tree.contents place bytes

    pub all_is : (snapshot m s (name ∷ names) kept).datas ≡ all
    all_is = (shape m s name names kept).datas

    -- The copy is empty or goes to the defined memory.
    abbrev CopiesContents : Copy ℕ → Type 0
    CopiesContents c = (c ≡ nothing) ⊎ ((offset : Option ℕ) × (copied : Option (List ℕ)) × (c ≡ contents (slice_get j.mems place) offset copied) × (0 < length m.mems))

    stretched : (n : ℕ) (x : Stretch) → slice_get (stretches bytes) n ≡ Some x → 0 < length m.mems
    stretched n x h = elim (cases_lt 0 (length m.mems)) [
      | inl lt ↦ lt
      | inr le ↦ absurd (let none : Some x ≡ None = sym (ap (λ bs. slice_get (stretches bs) n) (sym (are.none (let z : length m.mems ≡ 0 = omega (arith, le) in z))) ∙ h) in cc)
    ]

    goes : (n : ℕ) (c : Copy ℕ) → slice_get (data_copies second j all) n ≡ Some c → CopiesContents c
    goes n c h =
        let d = map_from (λ d. data_copy second j d d.mode) all n c h in
        ⊎_elim
        (λ old. inl (sym d.2 ∙ ap (data_copy second j d.0) (every_at (λ d. d.mode ≡ data'.Passive) (old_segments m s) n d.0 (old_passive m s) old)))
        (λ new. let x = map_from (stretch_segment place bytes) (stretches bytes) new.0 d.0 new.2 in
        inr (_, _, sym d.2 ∙ ap (λ d. data_copy second j d d.mode) (sym x.2), stretched new.0 x.0 x.1)) (append_from (old_segments m s) (tree.contents place bytes) n d.0 d.1)

    zero_place : (0 < length m.mems) → slice_get j.mems place ≡ Some own
    zero_place lt = let at = memory_at 0 lt in let z : place + 0 ≡ place = omega arith in let w : own + 0 ≡ own = omega arith in ap (slice_get j.mems) (sym z) ∙ at.1 ∙ ap Some w

    goes_elsewhere : (address : ℕ) → address < own → (c : Copy ℕ) → CopiesContents c → Elsewhere address c
    goes_elsewhere address low c (inl e) = subst (Elsewhere address) (sym e) tt
    goes_elsewhere address low c (inr g) = subst (Elsewhere address) (sym g.2) (ap (λ o. is_address o address) (zero_place g.3) ∙ ne_eqb own address (λ e. omega (arith, e, low)))

    pub second_own_stays : (address : ℕ) → address < own → (xs : List ℕ) → all_over address (data_copies second j all) xs ≡ Some xs
    second_own_stays address low xs = all_elsewhere address (data_copies second j all) xs (λ n c h. goes_elsewhere address low c (goes n c h))

    -- The data segments of the snapshot give the defined memory its bytes.
    pub second_defined : (l : Limits) → slice_get m.mems 0 ≡ Some l → all_over own (data_copies second j all) (new_memory l).bytes ≡ Some bytes
    second_defined l at =
        let size = are.size l at in
        let lt = slice_get_within m.mems 0 l at in
        ap (λ n. all_over own (data_copies second j all) (copies n 0)) (sym size)
        ∙ snapshot_memory second j place own (zero_place lt) (λ c. refl) m s bytes are.small

    -- ---- they fit ----

    module _ (half : Store) (mems_are : half.mems ≡ own_memories env ++ map new_memory m.mems) (datas_are : half.datas ≡ map new_data all) where
      pub second_goes : (n : ℕ) (c : Copy ℕ) → slice_get (data_copies second j all) n ≡ Some c → GoesSomewhere memories half c
      second_goes n c h = by (goes n c h)
        where
          by : CopiesContents c → GoesSomewhere memories half c
          by (inl e) = subst (GoesSomewhere memories half) (sym e) tt
          by (inr g) =
              let size = ap length mems_are ∙ length-append (own_memories env) _ in
              let many = length-map m.mems new_memory in
              let some_there = g.3 in
              subst (GoesSomewhere memories half) (sym g.2) (own, zero_place g.3, omega (arith, size, many, some_there))

      pub second_fits : Fit memories half (data_copies second j all)
      second_fits address c h = ⊎_elim
          (λ e. (c.bytes, second_own_stays address (slice_get_within (own_memories env) address c e) c.bytes))
          (λ e.
          let l = map_from new_memory m.mems e.0 c e.2 in
          let lt = slice_get_within m.mems e.0 l.0 l.1 in
          let most = few in
          let z : e.0 ≡ 0 = omega (arith, lt, most) in
          let address_is = e.1 in
          let here : address ≡ own = omega (arith, address_is, z) in (
            bytes,
            ap (λ x. all_over x (data_copies second j all) c.bytes) here ∙ ap (λ (c : Memory). all_over own (data_copies second j all) c.bytes) (sym l.2)
                ∙ second_defined l.0 (ap (slice_get m.mems) (sym z) ∙ l.1),
          )) (append_from (own_memories env) _ address c (ap (λ l. slice_get l address) (sym mems_are) ∙ h))

      is_of : (d : DataSeg) (mode : DataMode) → IsOf memories (data_copy second j d mode) (new_data d)
      is_of d (data'.Active x offset) = refl
      is_of d data'.Passive = tt

      pub second_are_of : AreOf memories half 0 (data_copies second j all)
      second_are_of n c h =
          let d = map_from (λ d. data_copy second j d d.mode) all n c h in
          let z : 0 + n ≡ n = omega arith in
          (new_data d.0, ap (slice_get half.datas) z ∙ ap (λ l. slice_get l n) datas_are ∙ map_at new_data all n d.0 d.1, subst (λ c. IsOf memories c (new_data d.0)) d.2 (is_of d.0 d.0.mode))
