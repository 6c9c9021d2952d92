-- The ends of imports, if each joined import leads to an earlier part: an entity that an earlier
-- part defines, or an import that stays.
use Rattle.base_lists.proofs.Common.{◌≡◌, refl, ap, ℕ, zero, suc, ◌+◌, ◌<◌, ◌≤◌, List, length, Option, Some, None, arith, option_and_then, slice_get, slice_get_none, and_then_is, same_Some}
use Rattle.base_lists.proofs.Options.{then_none}
use Rattle.wasm_tree_spec.specs.Prelude.{Import, Module, index_of_export, space_of_export}
use Rattle.wasm_meaning.specs.Prelude.{PathStep, EndsWith, walk, walk_on, Part, Site, Entity, End, Defined, Outside, imports_of, module_at, import_at, export_named, source_of, joined, imported_as, joined_step, import_step, end_of, sites, defined_count, JoinsEarlier}
use Rattle.merge_proof.proofs.JoinedImports.{ExportsThere}

-- An end of an import of part p that an earlier part defines.
pub record LowInside (parts : List Part) (p : ℕ) (e : Entity) : Type 0 where
  pub before : e.part < p
  pub of : Module
  pub is_part : module_at parts e.part ≡ Some of
  pub follows : length (imports_of (space_of_export e.what) of) ≤ index_of_export e.what
  pub within : index_of_export e.what < length (imports_of (space_of_export e.what) of) + defined_count (space_of_export e.what) of

pub data Low (parts : List Part) (p : ℕ) : End → Type 0 where
  inside : {e : Entity} → LowInside parts p e → Low parts p (Defined e)
  outside : {t : Site} → import_step parts t ≡ Some (EndsWith (Outside t)) → Low parts p (Outside t)

low_later : (parts : List Part) (p q : ℕ) (end : End) → p < q → Low parts p end → Low parts q end
low_later parts p q (Defined e) l (inside h) = let b = h.before in inside (record { before = omega arith; of = h.of; is_part = h.is_part; follows = h.follows; within = h.within })
low_later parts p q (Outside t) l (outside h) = outside h

-- The entity with which an import is joined is exported by its part.
pub record Exported (parts : List Part) (i : Import) (e : Entity) : Type 0 where
  pub of : Module
  pub is_part : module_at parts e.part ≡ Some of
  pub named : export_named of.exports i.field ≡ Some e.what

pub exported : (parts : List Part) (i : Import) (e : Entity) → joined parts i ≡ Some e → Exported parts i e
exported parts i e j =
    let s = and_then_is (source_of parts i) _ e j in
    let a = and_then_is (module_at parts s.0) _ e s.2 in
    let b = and_then_is (export_named a.0.exports i.field) _ e a.2 in
    let same = same_Some _ _ b.2 in
    rw (← same) (record { of = a.0; is_part = a.1; named = b.1 })

module _ (parts : List Part) (there : ExportsThere parts) (earlier : JoinsEarlier parts) where
  module _ (s : Site) (end : End) (fuel : ℕ) (more : (t : Site) → walk (import_step parts) fuel t ≡ Some end → Low parts t.part end) (e : walk (import_step parts) (suc fuel) s ≡ Some end) (i : Import) (is : import_at parts s ≡ Some i) where
    low_join : (x : Entity) → joined parts i ≡ Some x → (o : Option Site) → imported_as parts x ≡ o → Low parts s.part end
    low_join x j o imp =
        let a = and_then_is (module_at parts s.part) _ i is in
        by o imp (earlier s.part s.import a.0 i x a.1 a.2 j)
      where
        by : (o : Option Site) → imported_as parts x ≡ o → x.part < s.part → Low parts s.part end
        by None imp before =
            let w = exported parts i x j in
            let follows = slice_get_none _ _ (then_none _ _ (rw w.is_part at imp)) in
            rw (← same_Some (Defined x) end (rw (is, j, imp) at e)) (inside (record { before = before; of = w.of; is_part = w.is_part; follows = follows; within = there x.part w.of i.field x.what w.is_part w.named }))
        by (Some t) imp before =
            let m = and_then_is (module_at parts x.part) _ t imp in
            let n = and_then_is (slice_get (imports_of (space_of_export x.what) m.0) (index_of_export x.what)) _ t m.2 in
            let part = ap (λ z. z.part) (same_Some _ t n.2) in
            low_later parts t.part s.part end (omega arith) (more t (rw (is, j, imp) at e))

    low_joins : (o : Option Entity) → joined parts i ≡ o → Low parts s.part end
    low_joins None j = rw (← same_Some (Outside s) end (rw (is, j) at e)) (outside {t = s} (rw (is, j)))
    low_joins (Some x) j = low_join x j (imported_as parts x) refl

  import_there : {A E : Type 0} (more : Site → Option E) (f : A → PathStep Site E) (o : Option A) (end : E) → walk_on more (option_and_then (λ i. Some (f i)) o) ≡ Some end → (i : A) × (o ≡ Some i)
  import_there more f None end h = cc
  import_there more f (Some i) end h = (i, refl)

  low_walk : (fuel : ℕ) (s : Site) (end : End) → walk (import_step parts) fuel s ≡ Some end → Low parts s.part end
  low_walk zero s end e = cc
  low_walk (suc fuel) s end e =
      let i = import_there (walk (import_step parts) fuel) (λ i. joined_step parts s (joined parts i)) (import_at parts s) end e in
      low_joins s end fuel (λ t. low_walk fuel t end) e i.0 i.1 (joined parts i.0) refl

  pub ends_low : (s : Site) (end : End) → end_of parts s ≡ Some end → Low parts s.part end
  ends_low = low_walk (suc (length (sites parts)))
