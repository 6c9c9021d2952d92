-- The instances of the parts and the instance of the merged module: all exist or none, and each
-- index of a part and its new index name one address.
use Rattle.base_lists.proofs.Common.{◌≡◌, ◌∙◌, ap, sym, refl, ℕ, ◌+◌, ◌<◌, ◌≤◌, List, [], ◌∷◌, ◌++◌, map, length, Option, Some, None, arith, option_and_then, slice_get, true, slice_index, length-append, same_Some, place_there, length-numbers, numbers_at, map_numbers_index, is_some_there}
use Rattle.base_lists.proofs.Common.{and_then_is, all_there_at, all_there_length, all_there_from, slice_get_there, append_right, slice_index_is, suc, zero-add, add-zero, append_at_left, length-map, add_next, places_many}
use Rattle.base_lists.proofs.Options.{AllThere}
use Rattle.wasm_tree_spec.specs.Prelude.{Space, Types, Functions, Tables, Memories, Globals, ElementSegments, DataSegments, Module, imported_funcs, imported_tables, imported_memories, imported_globals}
use Rattle.wasm_meaning.specs.Prelude.{Inst, Part, has_kind, module_at, imports_of, Environment, own_count, defined_count, all_there, numbers, space, inst_of, insts_from, defined_before}
use Rattle.run_simulation.specs.Prelude.{OptRel}
use Rattle.index_remap.specs.Prelude.{entries}
use Rattle.merge_names.specs.declared.mode.Mode.{Mode}
use Rattle.merge_spec.specs.Prelude.{link_fault, staying_of, new_index, joined_module}
use Rattle.merge_spec.specs.Merged.{map_of}
use Rattle.merge_proof.specs.Joinable.{CanBeJoined}
use Rattle.merge_proof.specs.ImportEnds.{added_count, is_external}
use Rattle.world_simulation.specs.Prelude.{one, import_address, IsInst}
use Rattle.base_lists.proofs.Related.{both_or_none}
use Rattle.merge_proof.specs.SharedAddresses.{shared_count}
use Rattle.merge_proof.specs.AgreeingInstances.{SpaceAgrees, PartAgrees, InstancesAgree}
use Rattle.merge_proof.proofs.SpaceLaws.{SpaceLaws}
use Rattle.merge_proof.proofs.Counterparts.{total, site_address, site_low, Stands, own, stays, import_stands, entry_stands}
use Rattle.merge_proof.proofs.MergedAlone.{joined_keeps, joined_types, staying_kind, names_of, merged_space, elems_many, datas_many}

-- ---- an instance, and all instances ----

-- The addresses that an instance has for an index space.
abbrev pub addresses_in : Space → Inst → List ℕ
addresses_in Types i = []
addresses_in Functions i = i.funcs
addresses_in Tables i = i.tables
addresses_in Memories i = i.mems
addresses_in Globals i = i.globals
addresses_in ElementSegments i = i.elems
addresses_in DataSegments i = i.datas

module _ (env : Environment) (all : List Part) where
  insts_there : (p : ℕ) (parts : List Part) → ((q : ℕ) (m : Module) → module_at parts q ≡ Some m → (i : Inst) × (inst_of env all (p + q) m ≡ Some i)) → (is : List Inst) × (insts_from env all p parts ≡ Some is)
  insts_there p [] h = ([], refl)
  insts_there p (part ∷ parts) h =
      let first = rw add-zero at (h 0 part.«module» refl) in
      let r = insts_there (suc p) parts (λ q. rw (← add_next p q) (h (suc q))) in
      is_some_there _ (rw (first.1, r.1))

  insts_in : ((p : ℕ) (m : Module) → module_at all p ≡ Some m → (i : Inst) × (inst_of env all p m ≡ Some i)) → (is : List Inst) × (insts_from env all 0 all ≡ Some is)
  insts_in h = insts_there 0 all (simp zero-add h)

-- ---- the entries of a part's map ----

module _ (parts : List Part) (p : ℕ) (m : Module) (k : Space) (ext : is_external k ≡ true) where
  map_is : entries (map_of parts p m) k ≡ map (new_index parts p k) (numbers 0 (length (imports_of k m) + defined_count k m))
  unfolding map_of
  map_is =
      let funcs : length (imports_of Functions m) ≡ length (imported_funcs m.imports) = places_many _ _ m.imports (grind arith) 0 in
      let tables : length (imports_of Tables m) ≡ length (imported_tables m.imports) = places_many _ _ m.imports (grind arith) 0 in
      let mems : length (imports_of Memories m) ≡ length (imported_memories m.imports) = places_many _ _ m.imports (grind arith) 0 in
      let globals : length (imports_of Globals m) ≡ length (imported_globals m.imports) = places_many _ _ m.imports (grind arith) 0 in
      grind (arith, length-append, length-map, funcs, tables, mems, globals)

  -- The entry of a part's map for an index is its new index.
  pub entry_is : (x : ℕ) → x < length (entries (map_of parts p m) k) → slice_index (entries (map_of parts p m) k) x ≡ new_index parts p k x
  entry_is x l = grind (arith, map_is, map_numbers_index, length-map, length-numbers)

-- ---- all instances exist, or none ----

-- The instance of a part exists if its index spaces do.
all_spaces : (env : Environment) (q : List Part) (p : ℕ) (m : Module) → ((k : Space) → is_external k ≡ true → (xs : List ℕ) × (space env q k p m ≡ Some xs)) → (i : Inst) × (inst_of env q p m ≡ Some i)
all_spaces env q p m there = is_some_there (inst_of env q p m) (grind (arith, there Functions refl, there Tables refl, there Memories refl, there Globals refl))

module _ (laws : SpaceLaws) (env : Environment) (parts : List Part) (linked : link_fault parts true ≡ None) (mode : Mode) where
  -- The staying imports have addresses if the parts have instances.
  staying_there : (insts : List Inst) → insts_from env parts 0 parts ≡ Some insts → (k : Space) → is_external k ≡ true → AllThere (site_address env parts k) (staying_of parts k)
  staying_there insts h k ext = all_there_from (site_address env parts k) (staying_of parts k) (λ n s at.
      let w = staying_kind laws parts k n s at in
      let i = (laws.instances env parts 0 parts insts h).each s.part w.0.of w.0.is_part in
      let is : IsInst env parts s.part w.0.of i.0 = search (arith, i.2) in
      let t = laws.index_spaces env parts k s.part w.0.of (addresses_in k i.0) (grind (arith, is)) in
      let x = place_there (has_kind k) w.0.of.imports 0 s.import w.0.import w.0.stands w.1 in
      is_some_there _ (grind (arith, x, laws.stays parts linked s w.0.import w.0.at w.0.remains, all_there_at (import_address env parts k s.part) (imports_of k w.0.of) t.imported t.are)))

  abbrev J : Module
  J = joined_module parts mode

  -- ---- the addresses of a space ----

  module _ (j : Inst) (there : IsInst env (one J) 0 J j) (k : Space) (ext : is_external k ≡ true) where
    -- The addresses of an index space of the merged module: those of the staying imports, followed
    -- by those of its definitions.
    merged_part : (xs : List ℕ) × (all_there (site_address env parts k) (staying_of parts k) ≡ Some xs) × (Some (xs ++ numbers (own_count k env) (total env parts k + added_count parts k)) ≡ Some (addresses_in k j))
    merged_part =
        let is : space env (one J) k 0 J ≡ Some (addresses_in k j) = grind arith in
        and_then_is _ _ _ (rw (merged_space laws env parts linked mode k ext) at is)

    -- A definition of the merged module has its address after those of the imports.
    pub own_at : (d : ℕ) → d < total env parts k + added_count parts k → slice_get (addresses_in k j) (length (staying_of parts k) + d) ≡ Some (own_count k env + d)
    own_at d low = grind (arith, merged_part.1, merged_part.2, all_there_length, append_right merged_part.0, numbers_at (own_count k env))

    -- The entity that an entry of a part denotes has an address that both worlds have, and the
    -- merged module's index names it.
    stands_at : {o : Option ℕ} {index : ℕ} → Stands env parts k o index → (a : ℕ) × (o ≡ Some a) × (slice_get (addresses_in k j) index ≡ Some a) × (a < shared_count env parts k)
    stands_at (own d l e i) = (own_count k env + d, e, grind (arith, own_at d), omega arith)
    stands_at {index = index} (stays u h e) =
        let r = all_there_at _ _ merged_part.0 merged_part.1 index u h in
        (r.0, e ∙ r.1, grind (arith, merged_part.2, append_at_left, r.2), site_low env parts laws.own k u r.0 r.1)

  -- ---- instances that exist ----

  part_agrees : (p : ℕ) (m : Module) (i j : Inst) → module_at parts p ≡ Some m → IsInst env parts p m i → IsInst env (one J) 0 J j → PartAgrees env parts p m i j
  unfolding map_of
  part_agrees p m i j is a b = record {
    own_types = a.types;
    types = λ x t h. rw (b.types, joined_types parts mode) (laws.types parts p m x t is h);
    funcs = agrees Functions refl;
    tables = agrees Tables refl;
    mems = agrees Memories refl;
    globals = agrees Globals refl;
    elems = rw (a.elems, b.elems) (segments_agree ElementSegments _ (grind (arith, length-append, (joined_keeps parts mode).elems, elems_many parts (names_of parts mode))));
    datas = rw (a.datas, b.datas) (segments_agree DataSegments _ (grind (arith, (joined_keeps parts mode).datas, datas_many parts (names_of parts mode))));
  }
    where
      agrees : (k : Space) → is_external k ≡ true → SpaceAgrees env parts k (addresses_in k i) (addresses_in k j) (entries (map_of parts p m) k)
      agrees k e =
          let s = laws.index_spaces env parts k p m (addresses_in k i) (grind arith) in
          let many = simp (length-map, length-numbers) at (ap length (map_is parts p m k e)) in
          record {
            size = omega arith;
            each = λ x l.
                let o = slice_get_there (addresses_in k i) x (omega arith) in
                let q = stands_at j b k e (entry_stands env parts laws linked k p m x o.0 is (laws.names env parts k p m _ s x o.0 o.1)) in
                record { address = q.0; first = o.1 ∙ q.1; second = rw (entry_is parts p m k e x l) q.2; shared = q.3 };
          }

      segments_agree : (k : Space) (n : ℕ) → shared_count env parts k ≤ n → SpaceAgrees env parts k (numbers (defined_before k parts p) (defined_count k m)) (numbers 0 n) (numbers (defined_before k parts p) (defined_count k m))
      segments_agree k n h = record {
        size = refl;
        each = λ x l.
            let first = defined_before k parts p in
            let many = length-numbers first (defined_count k m) in
            let low = laws.within k parts p m is in
            let at = numbers_at first (defined_count k m) x (omega arith) in
            record { address = first + x; first = at; second = grind (arith, slice_index_is _ x _ at, numbers_at 0 n); shared = omega arith };
      }

-- If parts can be joined, their instances and that of the merged module agree, or neither exist.
pub instances_agree : SpaceLaws → (env : Environment) (parts : List Part) (mode : Mode) → CanBeJoined parts mode → OptRel (InstancesAgree env parts) (insts_from env parts 0 parts) (insts_from env (one (joined_module parts mode)) 0 (one (joined_module parts mode)))
instances_agree laws env parts mode can = both_or_none _ _
    (λ insts js h g.
    let j : (j : Inst) × (js ≡ j ∷ []) × IsInst env (one (joined_module parts mode)) 0 (joined_module parts mode) j = search (arith, g) in
    record {
      merged = j.0;
      alone = j.1;
      size = (laws.instances env parts 0 parts insts h).size;
      each = λ p m at.
          let i = (laws.instances env parts 0 parts insts h).each p m at in
          let is : IsInst env parts p m i.0 = search (arith, i.2) in
          (i.0, i.1, part_agrees laws env parts can.linked mode p m i.0 j.0 at is j.2);
    })
    (λ insts h.
    let i = all_spaces env (one (joined_module parts mode)) 0 (joined_module parts mode) (λ k ext.
    (_, merged_space laws env parts can.linked mode k ext ∙ ap (option_and_then _) (staying_there laws env parts can.linked mode insts h k ext).are)) in
    (i.0 ∷ [], rw i.1))
    (λ js g.
    let j : (j : Inst) × (js ≡ j ∷ []) × IsInst env (one (joined_module parts mode)) 0 (joined_module parts mode) j = search (arith, g) in
    insts_in env parts (λ p m is. all_spaces env parts p m (λ k ext.
    let all = all_there_from (import_address env parts k p) (imports_of k m) (λ x n h. let a = stands_at laws env parts can.linked mode j.0 j.2 k ext (import_stands env parts laws can.linked k p m x n is h) in (a.0, a.1)) in
    (_, ap (option_and_then _) all.are))))

-- ---- parts with their instances ----

-- An induction along the parts and their instances: a property holds of all parts if it holds of no
-- parts, and of a part and those after it if it holds of those after it.
module _ {env : Environment} {parts : List Part} {insts js : List Inst} (agree : InstancesAgree env parts insts js) (P : ℕ → List Part → List Inst → Type 0) (none_left : (p : ℕ) (is : List Inst) → P p [] is)
    (before : (p : ℕ) (part : Part) (i : Inst) (rest : List Part) (is : List Inst) → module_at parts p ≡ Some part.«module» → PartAgrees env parts p part.«module» i agree.merged → P (suc p) rest is → P p (part ∷ rest) (i ∷ is)) where
  from : (p : ℕ) (rest : List Part) (is : List Inst) → ((q : ℕ) → (module_at parts (p + q) ≡ module_at rest q) × (slice_get insts (p + q) ≡ slice_get is q)) → P p rest is
  from p [] is h = none_left p is
  from p (part ∷ rest) [] h = absurd (grind (arith, h 0, agree.each p part.«module»))
  from p (part ∷ rest) (i ∷ is) h =
      let s = rw add-zero at (h 0) in
      let x = agree.each p part.«module» s.0 in
      before p part i rest is s.0 (rw (same_Some x.0 i (sym x.1 ∙ s.1)) at x.2) (from (suc p) rest is (λ q. rw add_next at (h (suc q))))

  pub along : P 0 parts insts
  along = from 0 parts insts (λ q. rw zero-add (refl, refl))
