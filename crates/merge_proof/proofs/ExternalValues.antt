-- The imports of a part denote the same external values when all parts are instantiated at once and
-- when the turn of the part has come, if each joined import leads to an earlier part.
use Rattle.base_lists.proofs.Common.{◌≡◌, ◌∙◌, refl, sym, ap, ℕ, zero, suc, ◌+◌, ◌-◌, List, [], ◌∷◌, ◌++◌, length, Option, Some, None, cond, arith, option_and_then, slice_get, true, and_then_is, all_there_at, all_there_length, same_Some, append_at_left, append_right, slice_get_none, zero-add}
use Rattle.base_lists.proofs.Options.{then_none}
use Rattle.wasm_tree_spec.specs.Prelude.{Space, Functions, Tables, Memories, Globals, DataSegments, ElementSegments, Types, same_space, Import, ImportDesc, ExportDesc, Module, index_of_export, space_of_export, space_of_import}
use Rattle.wasm_tree.specs.declared.module.ImportDesc.TheVariants as im
use Rattle.wasm_tree.specs.declared.module.ExportDesc.TheVariants as ex
use Rattle.wasm_meaning.specs.Prelude.{Inst, PathStep, EndsWith, LeadsTo, walk, walk_on, Part, Site, Entity, End, places, has_kind, imports_of, module_at, imported_as, import_step, sites, end_of, Environment, ExternalValue, FuncAt, TableAt, MemoryAt, GlobalAt, defined_count, base, external_value_at}
use Rattle.wasm_meaning.specs.Prelude.{address_of, defined_external_value, imported_external_value, all_there, numbers, space, inst_of, address_in, addresses_of}
use Rattle.merge_proof.specs.ImportEnds.{is_external}
use Rattle.world_simulation.specs.Prelude.{import_address, IsInst}
use Rattle.merge_proof.proofs.PartLaws.{Instances}

pub part_inst : (env : Environment) (parts : List Part) (insts : List Inst) → Instances env parts insts → (q : ℕ) (m : Module) (i : Inst) → module_at parts q ≡ Some m → slice_get insts q ≡ Some i → IsInst env parts q m i
part_inst env parts insts are q m i e h =
    let r = are.each.each q m e in
    let is : inst_of env parts q m ≡ Some i = rw (zero-add, same_Some _ _ (sym r.1 ∙ h)) at r.2 in
    search (arith, is)

pub space_is : (env : Environment) (parts : List Part) (k : Space) (p : ℕ) (m : Module) (xs : List ℕ) → space env parts k p m ≡ Some xs →
    (l : List ℕ) × (all_there (λ n. option_and_then (address_of k) (imported_external_value env parts (record { part = p; import = n }))) (imports_of k m) ≡ Some l) × (l ++ numbers (base env parts k p) (defined_count k m) ≡ xs)
space_is env parts k p m xs h = let x = and_then_is (all_there (import_address env parts k p) (imports_of k m)) _ xs h in (x.0, x.1, same_Some _ _ x.2)

-- ---- the external values that a list of imports denotes ----

-- The external values of a list of imports, in order, numbered from a place on.
abbrev pub each_from : (ℕ → Option ExternalValue) → List Import → ℕ → Option (List ExternalValue)
each_from g [] n = Some []
each_from g (i ∷ is) n = option_and_then (λ x. option_and_then (λ xs. Some (x ∷ xs)) (each_from g is (suc n))) (g n)

abbrev pub of_kind : (ℕ → Option ExternalValue) → Space → List Import → ℕ → Option (List ℕ)
of_kind g k is n = all_there (λ j. option_and_then (address_of k) (g j)) (places (has_kind k) is n)

pub record Gathered (g : ℕ → Option ExternalValue) (is : List Import) (n : ℕ) (fs ts ms gs : List ℕ) : Type 0 where
  pub things : List ExternalValue
  pub each : each_from g is n ≡ Some things
  pub funcs : addresses_of Functions things ≡ fs
  pub tables : addresses_of Tables things ≡ ts
  pub mems : addresses_of Memories things ≡ ms
  pub globals : addresses_of Globals things ≡ gs

-- An external value that has an address of a kind is of that kind.
pub thing_has : (k : Space) (x : ExternalValue) (a : ℕ) → address_of k x ≡ Some a → external_value_at k a ≡ Some x
thing_has Functions (FuncAt b) a h = cc
thing_has Tables (TableAt b) a h = cc
thing_has Memories (MemoryAt b) a h = cc
thing_has Globals (GlobalAt b) a h = cc
thing_has _ _ a h = cc

-- The first address of a list and the rest.
record Split (g : ℕ → Option ExternalValue) (k : Space) (n : ℕ) (rest : Option (List ℕ)) (xs : List ℕ) : Type 0 where
  address : ℕ
  is : g n ≡ external_value_at k address
  others : List ℕ
  rest_is : rest ≡ Some others
  whole : address ∷ others ≡ xs

split : (g : ℕ → Option ExternalValue) (k : Space) (n : ℕ) (rest : Option (List ℕ)) (xs : List ℕ) → option_and_then (λ y. option_and_then (λ ys. Some (y ∷ ys)) rest) (option_and_then (address_of k) (g n)) ≡ Some xs → Split g k n rest xs
split g k n rest xs h =
    let a = and_then_is (option_and_then (address_of k) (g n)) _ xs h in
    let b = and_then_is (g n) (address_of k) a.0 a.1 in
    let c = and_then_is rest _ xs a.2 in
    record { address = a.0; is = b.1 ∙ sym (thing_has k b.0 a.0 b.2); others = c.0; rest_is = c.1; whole = same_Some _ _ c.2 }

abbrev AtDesc : (ℕ → Option ExternalValue) → List Import → ℕ → ImportDesc → Space → Option (List ℕ)
AtDesc g is n d k = all_there (λ j. option_and_then (address_of k) (g j)) (cond (same_space k (space_of_import d)) (n ∷ places (has_kind k) is (suc n)) (places (has_kind k) is (suc n)))

pub gathered : (g : ℕ → Option ExternalValue) (is : List Import) (n : ℕ) (fs ts ms gs : List ℕ) → of_kind g Functions is n ≡ Some fs → of_kind g Tables is n ≡ Some ts → of_kind g Memories is n ≡ Some ms → of_kind g Globals is n ≡ Some gs → Gathered g is n fs ts ms gs
gathered g [] n fs ts ms gs f t m h = record { things = []; each = refl; funcs = same_Some _ _ f; tables = same_Some _ _ t; mems = same_Some _ _ m; globals = same_Some _ _ h }
gathered g (i ∷ is) n fs ts ms gs f t m h = elim i.desc as (λ d. AtDesc g is n d Functions ≡ Some fs → AtDesc g is n d Tables ≡ Some ts → AtDesc g is n d Memories ≡ Some ms → AtDesc g is n d Globals ≡ Some gs → Gathered g (i ∷ is) n fs ts ms gs) [
  | im.Func ty ↦ λ f t m h.
      let s = split g Functions n _ fs f in
      let r = gathered g is (suc n) s.others ts ms gs s.rest_is t m h in
      record { things = FuncAt s.address ∷ r.things; each = rw (s.is, r.each); funcs = rw r.funcs s.whole; tables = r.tables; mems = r.mems; globals = r.globals }
  | im.Table ty ↦ λ f t m h.
      let s = split g Tables n _ ts t in
      let r = gathered g is (suc n) fs s.others ms gs f s.rest_is m h in
      record { things = TableAt s.address ∷ r.things; each = rw (s.is, r.each); funcs = r.funcs; tables = rw r.tables s.whole; mems = r.mems; globals = r.globals }
  | im.Memory l ↦ λ f t m h.
      let s = split g Memories n _ ms m in
      let r = gathered g is (suc n) fs ts s.others gs f t s.rest_is h in
      record { things = MemoryAt s.address ∷ r.things; each = rw (s.is, r.each); funcs = r.funcs; tables = r.tables; mems = rw r.mems s.whole; globals = r.globals }
  | im.Global ty ↦ λ f t m h.
      let s = split g Globals n _ gs h in
      let r = gathered g is (suc n) fs ts ms s.others f t m s.rest_is in
      record { things = GlobalAt s.address ∷ r.things; each = rw (s.is, r.each); funcs = r.funcs; tables = r.tables; mems = r.mems; globals = rw r.globals s.whole }
] f t m h

-- ---- the end of a path ----

pub walk_more : {A E : Type 0} (next : A → Option (PathStep A E)) (n : ℕ) (a : A) (e : E) → walk next n a ≡ Some e → walk next (suc n) a ≡ Some e
walk_more next zero a e h = cc
walk_more next (suc n) a e h = elim (next a) as (λ o. walk_on (walk next n) o ≡ Some e → walk_on (walk next (suc n)) o ≡ Some e) [
  | Some (LeadsTo b) ↦ walk_more next n b e
  | _ ↦ λ h. h
] h

-- An import that leads to another has the same end as the other.
pub goes_to : (parts : List Part) (s t : Site) (x : End) → import_step parts s ≡ Some (LeadsTo t) → end_of parts s ≡ Some x → end_of parts t ≡ Some x
goes_to parts s t x e h = walk_more (import_step parts) (length (sites parts)) t x (rw e at h)

pub ends_at : (parts : List Part) (s : Site) (x y : End) → import_step parts s ≡ Some (EndsWith y) → end_of parts s ≡ Some x → y ≡ x
ends_at parts s x y e h = same_Some _ _ (rw e at h)

-- ---- the external value of an entity, by its part's instance ----

-- The addresses of the entities of an instance, for each index space.
abbrev pub space_in : Inst → Space → List ℕ
space_in i Functions = i.funcs
space_in i Tables = i.tables
space_in i Memories = i.mems
space_in i Globals = i.globals
space_in i _ = []

pub address_is : (i : Inst) (d : ExportDesc) → address_in i d ≡ option_and_then (external_value_at (space_of_export d)) (slice_get (space_in i (space_of_export d)) (index_of_export d))
address_is i (ex.Func x) = refl
address_is i _ = refl

pub held_external : (i : Inst) (k : Space) (x a : ℕ) → slice_get (space_in i k) x ≡ Some a → is_external k ≡ true
held_external i Types x a h = cc
held_external i ElementSegments x a h = cc
held_external i DataSegments x a h = cc
held_external i _ x a h = refl

export_external : (d : ExportDesc) → is_external (space_of_export d) ≡ true
export_external (ex.Func x) = refl
export_external _ = refl

pub in_space : (env : Environment) (parts : List Part) (p : ℕ) (m : Module) (i : Inst) → IsInst env parts p m i → (k : Space) → is_external k ≡ true → space env parts k p m ≡ Some (space_in i k)
in_space env parts p m i h Functions e = h.funcs
in_space env parts p m i h Tables e = h.tables
in_space env parts p m i h Memories e = h.mems
in_space env parts p m i h Globals e = h.globals
in_space env parts p m i h _ e = cc

module _ (env : Environment) (parts : List Part) (p : ℕ) (m : Module) (is_part : module_at parts p ≡ Some m) (i : Inst) (inst : IsInst env parts p m i) (d : ExportDesc) where
  abbrev k : Space
  k = space_of_export d

  abbrev entity : Entity
  entity = record { part = p; what = d }

  addresses : (l : List ℕ) × (all_there (import_address env parts k p) (imports_of k m) ≡ Some l) × (l ++ numbers (base env parts k p) (defined_count k m) ≡ space_in i k)
  addresses = space_is env parts k p m (space_in i k) (in_space env parts p m i inst k (export_external d))

  as_import : imported_as parts entity ≡ option_and_then (λ n. Some (record { part = p; import = n })) (slice_get (imports_of k m) (index_of_export d))
  as_import = rw is_part

  -- An exported definition of a part is the external value that was allocated for it.
  pub defined_is : imported_as parts entity ≡ None → address_in i d ≡ defined_external_value env parts entity
  defined_is none =
      let s = addresses in
      let high = slice_get_none (imports_of k m) (index_of_export d) (then_none _ _ (sym as_import ∙ none)) in
      let l = all_there_length _ (imports_of k m) s.0 s.1 in
      let y = index_of_export d - length (imports_of k m) in
      let e : index_of_export d ≡ length s.0 + y = omega arith in
      let at : slice_get (space_in i k) (index_of_export d) ≡ slice_get (numbers (base env parts k p) (defined_count k m)) y = cc (sym s.2, append_right s.0 (numbers (base env parts k p) (defined_count k m)) y) in
      rw (address_is i d, is_part) (ap (option_and_then (external_value_at k)) at)

  -- An exported import of a part is the external value that the import denotes.
  pub imported_is : (t : Site) (x : ExternalValue) → imported_as parts entity ≡ Some t → imported_external_value env parts t ≡ Some x → address_in i d ≡ Some x
  imported_is t x e h =
      let s = addresses in
      let n = and_then_is (slice_get (imports_of k m) (index_of_export d)) _ t (sym as_import ∙ e) in
      let a = all_there_at (import_address env parts k p) (imports_of k m) s.0 s.1 (index_of_export d) n.0 n.1 in
      let has : address_of k x ≡ Some a.0 = sym (ap (option_and_then (address_of k)) (ap (imported_external_value env parts) (same_Some _ _ n.2) ∙ h)) ∙ a.1 in
      rw (address_is i d, sym s.2, append_at_left s.0 (numbers (base env parts k p) (defined_count k m)) (index_of_export d) a.0 a.2) (thing_has k x a.0 has)
