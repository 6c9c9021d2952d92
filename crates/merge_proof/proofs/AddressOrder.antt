-- The addresses of a part's imports are lower than those of what it defines, and these lower than
-- those of what later parts define.
use Rattle.base_lists.proofs.Common.{◌≡◌, ◌∙◌, sym, ap, ℕ, suc, ◌+◌, ◌-◌, ◌<◌, List, length, Some, ◌⊎◌, inl, inr, arith, option_and_then, slice_get, true, and_then_is, all_there_at, append_at_left, place_back, number_is, numbers_at}
use Rattle.wasm_tree_spec.specs.Prelude.{Space, Import, ImportDesc, Module, index_of_export, space_of_export, space_of_import}
use Rattle.wasm_meaning.specs.Prelude.{Pair, Inst, walk_on, walk, Part, Site, Entity, End, Defined, Outside, imports_of, module_at, import_at, pair_of, import_step, end_of, sites, has_kind, Environment, ExternalValue, OwnKey, defined_count, own_count, base, external_value_at, address_of, own_key_of}
use Rattle.wasm_meaning.specs.Prelude.{own_key, external_value_of, imported_external_value, numbers, JoinsEarlier, defined_external_value}
use Rattle.merge_proof.proofs.ExternalValues.{space_in, in_space, held_external, space_is}
use Rattle.merge_proof.proofs.JoinedImports.{ExportsThere}
use Rattle.merge_proof.proofs.ReachedAddresses.{defined_more}
use Rattle.merge_proof.proofs.InstanceAddresses.{same_thing}
use Rattle.merge_proof.proofs.OwnAddresses.{kind_of_key, own_at}
use Rattle.merge_proof.proofs.EarlierEnds.{LowInside, Low, inside, outside, ends_low}
use Rattle.merge_proof.specs.ImportEnds.{is_external}
use Rattle.base_lists.specs.Places.{places}
use Rattle.world_simulation.specs.Prelude.{IsInst, imports, defines}
use Rattle.wasm_meaning.specs.Counted.{EachPartAddsItsDefinitions}
use Rattle.merge_proof.proofs.PartLaws.{Instances}

-- Only index spaces of functions, tables, memories and globals have imports.
pub imported_external : (k : Space) (is : List Import) (x n : ℕ) → slice_get (places (has_kind k) is 0) x ≡ Some n → is_external k ≡ true
imported_external k is x n h = let r = place_back (has_kind k) is 0 x n h in let kind : k ≡ space_of_import r.1.desc = grind (arith, r.4) in rw kind (grind arith)

-- ---- kinds ----

key_kind : (m : Module) (pair : Pair) (d : ImportDesc) (key : OwnKey) → own_key_of m pair d ≡ Some key → kind_of_key key ≡ space_of_import d
key_kind m pair d key e = grind arith

pub numbers_low : (from count n a : ℕ) → slice_get (numbers from count) n ≡ Some a → a < from + count
numbers_low from count n a e = omega (arith, number_is from count n a e)

-- ---- the origin of an import's address ----

module _ (env : Environment) (parts : List Part) where
  pub base_next : EachPartAddsItsDefinitions → (k : Space) (p : ℕ) (m : Module) → module_at parts p ≡ Some m → base env parts k (suc p) ≡ base env parts k p + defined_count k m
  base_next next k p m e = omega (arith, next k parts p m e)

  -- The address of an import that is that of a definition of an earlier part.
  pub record AtDefined (k : Space) (s : Site) (a : ℕ) : Type 0 where
    pub entity : Entity
    pub end : end_of parts s ≡ Some (Defined entity)
    pub is : LowInside parts s.part entity
    pub kind : space_of_export entity.what ≡ k
    pub within : index_of_export entity.what - length (imports_of k is.of) < defined_count k is.of
    pub address : a ≡ base env parts k entity.part + (index_of_export entity.what - length (imports_of k is.of))

  -- The address of an import that is that of an entity of the environment's own.
  pub record AtOwn (k : Space) (s : Site) (a : ℕ) : Type 0 where
    pub last : Site
    pub end : end_of parts s ≡ Some (Outside last)
    pub stays : end_of parts last ≡ Some (Outside last)
    pub of : Module
    pub is_part : module_at parts last.part ≡ Some of
    pub import : Import
    pub is_import : slice_get of.imports last.import ≡ Some import
    pub kind : space_of_import import.desc ≡ k
    pub thing : imported_external_value env parts last ≡ external_value_at k a
    pub low : a < own_count k env

  module _ (there : ExportsThere parts) (earlier : JoinsEarlier parts) where
    pub imported_at : (k : Space) (s : Site) (x : ExternalValue) (a : ℕ) → imported_external_value env parts s ≡ Some x → address_of k x ≡ Some a → AtDefined k s a ⊎ AtOwn k s a
    imported_at k s x a h has =
        let e = and_then_is (end_of parts s) _ x h in
        go e.0 e.1 e.2 (ends_low parts there earlier s e.0 e.1)
      where
        go : (end : End) → end_of parts s ≡ Some end → external_value_of env parts end ≡ Some x → Low parts s.part end → AtDefined k s a ⊎ AtOwn k s a
        go (Defined e) ends thing (inside low) =
            let kd = space_of_export e.what in
            let less : index_of_export e.what - length (imports_of kd low.of) < defined_count kd low.of = omega arith in
            let here : defined_external_value env parts e ≡ external_value_at kd (base env parts kd e.part + (index_of_export e.what - length (imports_of kd low.of))) = rw (low.is_part, numbers_at _ _ _ less) in
            let both = same_thing k kd _ a (ap (option_and_then (address_of k)) (sym here ∙ thing) ∙ has) in
            inl (record { entity = e; end = ends; is = low; kind = both.0; within = rw both.0 at less; address = rw (← both.0) (sym both.1) })
        go (Outside t) ends thing (outside step) =
            let m = and_then_is (module_at parts t.part) _ x thing in
            let i = and_then_is (import_at parts t) _ x m.2 in
            let site = and_then_is (module_at parts t.part) (λ m. slice_get m.imports t.import) i.0 i.1 in
            let key = and_then_is (own_key m.0 i.0) _ x i.2 in
            let own = own_at env key.0 x key.2 in
            let both = same_thing k (kind_of_key key.0) own.address a (ap (option_and_then (address_of k)) (sym own.is) ∙ has) in
            let stays : end_of parts t ≡ Some (Outside t) = ap (walk_on (walk (import_step parts) (length (sites parts)))) step in
            inr (record {
              last = t;
              end = ends;
              stays = stays;
              of = site.0;
              is_part = site.1;
              import = i.0;
              is_import = site.2;
              kind = sym (key_kind m.0 (pair_of i.0) i.0.desc key.0 key.1) ∙ both.0;
              thing = rw stays (rw (both.0, both.1) at (thing ∙ own.is));
              low = rw (both.0, both.1) at own.low;
            })

    -- The address of an import is lower than those of the definitions of the part itself.
    pub imported_low : EachPartAddsItsDefinitions → (k : Space) (s : Site) (x : ExternalValue) (a : ℕ) → imported_external_value env parts s ≡ Some x → address_of k x ≡ Some a → a < base env parts k s.part
    imported_low defined_next k s x a h has = elim (imported_at k s x a h has) [
      | inl d ↦
          let next = base_next defined_next k d.entity.part d.is.of d.is.is_part in
          let more = defined_more k parts (suc d.entity.part) s.part (omega arith) in
          omega arith
      | inr o ↦ omega arith
    ]

    -- The addresses of a part's instance are lower than those of the definitions of later parts.
    pub space_low : {insts : List Inst} → Instances env parts insts → (p : ℕ) (m : Module) (i : Inst) → module_at parts p ≡ Some m → IsInst env parts p m i → (k : Space) (x a : ℕ) → slice_get (space_in i k) x ≡ Some a → a < base env parts k (suc p)
    space_low are p m i is_part inst k x a e =
        let s = are.spaces env parts k p m (space_in i k) (in_space env parts p m i inst k (held_external i k x a e)) in
        let next = base_next are.next k p m is_part in
        elim (are.names env parts k p m (space_in i k) s x a e) [
          | imports n is at ↦
              let t = and_then_is (imported_external_value env parts (record { part = p; import = n })) _ a at in
              let low = imported_low are.next k (record { part = p; import = n }) t.0 a t.1 t.2 in
              omega arith
          | defines j is low at ↦ omega arith
        ]

  -- An import of a part has its address in the part's instance.
  pub record HasAddress (k : Space) (s : Site) (i : Inst) (x : ℕ) : Type 0 where
    pub address : ℕ
    pub at : slice_get (space_in i k) x ≡ Some address
    pub thing : ExternalValue
    pub is : imported_external_value env parts s ≡ Some thing
    pub has : address_of k thing ≡ Some address

  pub import_address : (p : ℕ) (m : Module) (i : Inst) → IsInst env parts p m i → (k : Space) (x n : ℕ) → slice_get (imports_of k m) x ≡ Some n → HasAddress k (record { part = p; import = n }) i x
  import_address p m i inst k x n e =
      let s = space_is env parts k p m (space_in i k) (in_space env parts p m i inst k (imported_external k m.imports x n e)) in
      let a = all_there_at _ (imports_of k m) s.0 s.1 x n e in
      let t = and_then_is (imported_external_value env parts (record { part = p; import = n })) _ a.0 a.1 in
      record { address = a.0; at = ap (λ xs. slice_get xs x) (sym s.2) ∙ append_at_left s.0 _ x a.0 a.2; thing = t.0; is = t.1; has = t.2 }
