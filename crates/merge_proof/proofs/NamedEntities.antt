-- The entities that the indices, the exports and the view of the parts name correspond to those
-- that the merged module's name.
use Rattle.base_lists.proofs.Common.{◌≡◌, refl, ℕ, suc, ◌+◌, List, [], ◌∷◌, map, Some, true, arith, add-zero, zero-add, Option, IsTrue, list_all, ltb-true, slice_get_there, length-map, append_rel, then_rel, add_next}
use Rattle.wasm_tree_spec.specs.Prelude.{Module, Types, Functions, Tables, Memories, Globals, ElementSegments, DataSegments, Func, Export}
use Rattle.wasm_meaning.specs.Prelude.{Part, module_at, Entity, Inst, Text, Environment, seen_as, alone}
use Rattle.run_simulation.specs.Prelude.{ListRel, nil, cons, Pairing, OptRel, some, KeyRel}
use Rattle.index_remap.specs.Prelude.{fits_tree, fits_func, fits_export, fits_start, new_func, new_export}
use Rattle.index_remap.specs.declared.remap.Remap.{Remap}
use Rattle.merge_spec.specs.Prelude.{by_part_from, named_exports, joined_module}
use Rattle.merge_spec.specs.Merged.{map_of, all_exports}
use Rattle.index_remap_proof.specs.Indices.{with_entry}
use Rattle.world_simulation.specs.Prelude.{EntriesName, FuncsCorrespond}
use Rattle.merge_proof.specs.AgreeingInstances.{PartAgrees, InstancesAgree}
use Rattle.merge_proof.specs.SharedAddresses.{is_shared, sharing}
use Rattle.merge_proof.proofs.SharedPairing.{names_one}
use Rattle.merge_proof.proofs.ValueLaws.{Laws}
use Rattle.merge_names.specs.declared.mode.Mode.{Mode}
use Rattle.merge_spec.specs.View.{all_entities, named_entities, merge_view}
use Rattle.merge_proof.proofs.MergedAlone.{joined_exports, names_of as names_in}
use Rattle.world_simulation.proofs.RenumberedItems as renamed

-- The map of each part has an entry for each index that the part names.
abbrev pub AllFit : List Part → Type 0
AllFit parts = (p : ℕ) (m : Module) → module_at parts p ≡ Some m → IsTrue (fits_tree (map_of parts p m) m)

pub start_fits : (r : Remap) (m : Module) → IsTrue (fits_tree r m) → fits_start r m.start ≡ true
start_fits r m h = grind arith

-- ---- lists by part ----

by_part_rel : {A B : Type 0} {P : A → B → Type 0} (f : ℕ → Module → List A) (g : ℕ → Module → List B) (first : ℕ) (parts : List Part) → ((q : ℕ) (m : Module) → module_at parts q ≡ Some m → ListRel P (f (first + q) m) (g (first + q) m)) →
    ListRel P (by_part_from f first parts) (by_part_from g first parts)
by_part_rel f g first [] h = nil
by_part_rel f g first (part ∷ parts) h = append_rel (rw add-zero at (h 0 part.«module» refl)) (by_part_rel f g (suc first) parts (λ q. rw (← add_next) (h (suc q))))

-- ---- the indices of a part and their entries in its map; the functions that the part defines ----

module _ (env : Environment) (parts : List Part) (p : ℕ) (m : Module) (i j : Inst) (k : PartAgrees env parts p m i j) where
  abbrev R : Pairing
  R = sharing env parts

  abbrev r : Remap
  r = map_of parts p m

  entries_name : EntriesName R r (with_entry r) i j
  unfolding map_of
  entries_name Types = λ x h. grind (arith, slice_get_there m.types x (simp length-map at (ltb-true _ _ h)), k.types x)
  entries_name Functions = names_one env parts _ k.funcs
  entries_name Tables = names_one env parts _ k.tables
  entries_name Memories = names_one env parts _ k.mems
  entries_name Globals = names_one env parts _ k.globals
  entries_name ElementSegments = names_one env parts _ k.elems
  entries_name DataSegments = names_one env parts _ k.datas

  pub funcs_correspond : Laws → (f : Func) → fits_func r f ≡ true → FuncsCorrespond R i j f (new_func r f)
  funcs_correspond laws f h =
      let of = is_shared env parts in
      record { type = entries_name Types f.ty (grind arith); locals = refl; code = laws.code of of [] r i j f.body (laws.named of of [] r i j entries_name f.body (grind arith)) }

-- ---- the views of the linked parts and of the merged module: the same names and entities ----

abbrev entity : ℕ → Export → Entity
entity p e = record { part = p; what = e.desc }

-- An export as an embedder sees it of a module alone.
abbrev seen_export : Export → Text × Entity
seen_export e = (e.name, entity 0 e)

module _ (env : Environment) (parts : List Part) (fit : AllFit parts) (insts js : List Inst) (agree : InstancesAgree env parts insts js) where
  abbrev pub AreSeenAlike : Text × Entity → Text × Entity → Type 0
  AreSeenAlike v w = OptRel (KeyRel (sharing env parts)) (seen_as insts v) (seen_as js w)

  -- An entity of a part and an export of the merged module denote the same external value, under
  -- any name.
  abbrev Sees : Entity → Export → Type 0
  Sees e x = (name : Text) → AreSeenAlike (name, e) (name, entity 0 x)

  named_rel : {es : List Entity} {xs : List Export} → ListRel Sees es xs → (names : List (Option Text)) → ListRel AreSeenAlike (named_entities es names) (map seen_export (named_exports xs names))
  named_rel nil names = nil
  named_rel (cons p r) [] = nil
  named_rel (cons p r) (name ∷ names) = grind (arith, cons, p, named_rel r names)

  exports_seen : (p : ℕ) (m : Module) → module_at parts p ≡ Some m → (es : List Export) → list_all (fits_export (map_of parts p m)) es ≡ true → ListRel Sees (map (entity p) es) (map (new_export (map_of parts p m)) es)
  exports_seen p m is [] h = nil
  exports_seen p m is (e ∷ es) h =
      let i = agree.each p m is in
      let named = renamed.export_named (sharing env parts) _ _ _ _ (entries_name env parts p m i.0 agree.merged i.2) e.desc (grind arith) in
      cons (λ name. rw (i.1, agree.alone) (then_rel named (λ _ _ r. some (record { key = refl; thing = r })))) (exports_seen p m is es (grind arith))

  pub view_agrees : (mode : Mode) → ListRel AreSeenAlike (merge_view parts mode) (alone (joined_module parts mode)).view
  unfolding merge_view all_entities all_exports
  view_agrees mode = rw (joined_exports parts mode) (named_rel
      (by_part_rel _ _ 0 parts (λ p m is. let fits = fit p m is in rw zero-add (exports_seen p m is m.exports (grind arith)))) (names_in parts mode))
