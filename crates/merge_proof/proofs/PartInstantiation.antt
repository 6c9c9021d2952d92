-- The instantiation of a part in its turn: its imports exist and match, and its instance is the one
-- that it has at once.
use Rattle.merge_proof.proofs.PartLaws.{Instances}
use Rattle.base_lists.proofs.Common.{◌≡◌, refl, ℕ, suc, ◌+◌, ◌<◌, List, [], ◌∷◌, length, Option, Some, true, arith, slice_get, and_parts, and_then_is, same_Some, add-zero, zero-add, unwrap_or_false_is, list_all_each, add_next}
use Rattle.wasm_tree_spec.specs.Prelude.{Space, Functions, Tables, Memories, Globals, DataSegments, ElementSegments, Import, ImportDesc, Module, same_ref}
use Rattle.wasm_tree.specs.declared.module.ImportDesc.TheVariants as im
use Rattle.wasm_meaning.specs.Prelude.{address_of, meets, Inst, Table, Memory, Global, Store, Part, Site, module_at, import_at, sites, Environment, ExternalValue, FuncAt, TableAt, MemoryAt, GlobalAt, owned_of, all_of, base, imported_external_value, all_there, is_match, is_matched, defined_before}
use Rattle.wasm_meaning.specs.Prelude.{next_inst, all_match, external_value_for, JoinsEarlier}
use Rattle.world_simulation.specs.Prelude.{OwnEntitiesCorrespond}
use Rattle.world_simulation.specs.StoreExtension.{TableExtends, MemoryExtends, GlobalExtends}
use Rattle.merge_proof.proofs.ExternalValues.{space_is, each_from, gathered}
use Rattle.merge_proof.proofs.JoinedImports.{made_upto, thing_same, inst_of_part}
use Rattle.merge_proof.proofs.InstanceAddresses.{thing_low}

-- A store has as many entities as the environment and the first parts.
pub record Sized (env : Environment) (parts : List Part) (p : ℕ) (t : Store) : Type 0 where
  pub funcs : length t.funcs ≡ base env parts Functions p
  pub tables : length t.tables ≡ base env parts Tables p
  pub mems : length t.mems ≡ base env parts Memories p
  pub globals : length t.globals ≡ base env parts Globals p
  pub elems : length t.elems ≡ defined_before ElementSegments parts p
  pub datas : length t.datas ≡ defined_before DataSegments parts p

-- A store whose entities extend those that were allocated for the first parts.
pub record Holds (env : Environment) (parts : List Part) (p : ℕ) (s t : Store) : Type 0 where
  pub funcs : (a : ℕ) → a < base env parts Functions p → slice_get t.funcs a ≡ slice_get s.funcs a
  pub tables : (a : ℕ) (x : Table) → a < base env parts Tables p → slice_get s.tables a ≡ Some x → (y : Table) × (slice_get t.tables a ≡ Some y) × TableExtends x y
  pub mems : (a : ℕ) (x : Memory) → a < base env parts Memories p → slice_get s.mems a ≡ Some x → (y : Memory) × (slice_get t.mems a ≡ Some y) × MemoryExtends x y
  pub globals : (a : ℕ) (x : Global) → a < base env parts Globals p → slice_get s.globals a ≡ Some x → (y : Global) × (slice_get t.globals a ≡ Some y) × GlobalExtends x y

-- ---- matching ----

module _ (env : Environment) (parts : List Part) (p : ℕ) (s t : Store) (holds : Holds env parts p s t) (m : Module) where
  match_stays : (d : ImportDesc) (x : ExternalValue) → ((k : Space) (a : ℕ) → address_of k x ≡ Some a → a < base env parts k p) → is_match s m d x ≡ Some true → is_match t m d x ≡ Some true
  match_stays (im.Func ty) (FuncAt a) low h = rw (holds.funcs a (low Functions a refl)) h
  match_stays (im.Table ty) (TableAt a) low h =
      let u = and_then_is (slice_get s.tables a) _ true h in
      let y = holds.tables a u.0 (low Tables a refl) u.1 in
      let c = and_parts (same_ref ty.ty u.0.ty) (meets (length u.0.slots) u.0.most ty.limits) (same_Some _ _ u.2) in
      let more : meets (length y.0.slots) u.0.most ty.limits ≡ true = grind (arith, y.2.size, c.1) in
      rw (y.1, y.2.type, y.2.most, c.0, more)
  match_stays (im.Memory l) (MemoryAt a) low h =
      let u = and_then_is (slice_get s.mems a) _ true h in
      let y = holds.mems a u.0 (low Memories a refl) u.1 in
      let more : meets y.0.pages u.0.most l ≡ true = grind (arith, y.2.size, u.2) in
      rw (y.1, y.2.most, more)
  match_stays (im.Global ty) (GlobalAt a) low h =
      let u = and_then_is (slice_get s.globals a) _ true h in
      let y = holds.globals a u.0 (low Globals a refl) u.1 in
      rw (y.1, y.2.type) u.2
  match_stays _ _ low h = cc

-- ---- all sites ----

-- Each import is at a site.
abbrev pub SitesThere : List Part → Type 0
SitesThere parts = (s : Site) (i : Import) → import_at parts s ≡ Some i → (n : ℕ) × (slice_get (sites parts) n ≡ Some s)

-- Each import matches.
abbrev pub EachMatches : Environment → List Part → (allocated : Store) → Type 0
EachMatches env parts allocated = (s : Site) (i : Import) → import_at parts s ≡ Some i → is_matched env parts allocated s ≡ true

pub each_matches : (env : Environment) (parts : List Part) (allocated : Store) → SitesThere parts → all_of (is_matched env parts allocated) (sites parts) ≡ true → EachMatches env parts allocated
each_matches env parts allocated listed matched s i h = let n = listed s i h in list_all_each (is_matched env parts allocated) (sites parts) matched n.0 s n.1

-- Each import matches the external value that it denotes.
pub matches : (env : Environment) (parts : List Part) (allocated : Store) → SitesThere parts → all_of (is_matched env parts allocated) (sites parts) ≡ true →
    (p n : ℕ) (m : Module) (i : Import) (x : ExternalValue) → module_at parts p ≡ Some m → slice_get m.imports n ≡ Some i → imported_external_value env parts (record { part = p; import = n }) ≡ Some x → is_match allocated m i.desc x ≡ Some true
matches env parts allocated listed matched p n m i x is_part here h =
    unwrap_or_false_is (is_match allocated m i.desc x) (rw (h, is_part, here) at (each_matches env parts allocated listed matched (record { part = p; import = n }) i (rw (is_part, here))))

module _ (env : Environment) (parts : List Part) (insts : List Inst) (are : Instances env parts insts) (size : length insts ≡ length parts) (earlier : JoinsEarlier parts) (own : OwnEntitiesCorrespond) (listed : SitesThere parts) (allocated : Store)
    (matched : all_of (is_matched env parts allocated) (sites parts) ≡ true) where
  module _ (p : ℕ) (m : Module) (i : Inst) (is_part : module_at parts p ≡ Some m) (is_inst : slice_get insts p ≡ Some i) (t : Store) (sized : Sized env parts p t) (holds : Holds env parts p allocated t) where
    abbrev imported : ℕ → Option ExternalValue
    imported n = imported_external_value env parts (record { part = p; import = n })

    -- The imports from a place on denote these external values and match them.
    things_for : (is : List Import) (n : ℕ) (xs : List ExternalValue) → ((j : ℕ) (i : Import) → slice_get is j ≡ Some i → slice_get m.imports (n + j) ≡ Some i) → each_from imported is n ≡ Some xs →
        (all_there (external_value_for (owned_of env) (made_upto p parts insts) m) is ≡ Some xs) × (all_match t m is xs ≡ true)
    things_for [] n xs at h = rw (← same_Some _ _ h) (refl, refl)
    things_for (im ∷ is) n xs at h =
        let a = and_then_is (imported n) _ xs h in
        let b = and_then_is (each_from imported is (suc n)) _ xs a.2 in
        let here = rw add-zero at (at 0 im refl) in
        let r = things_for is (suc n) b.0 (λ j i e. rw (← add_next n j) (at (suc j) i e)) b.1 in
        let thing = thing_same env parts insts are size earlier p n m im is_part here a.0 a.1 in
        let match = match_stays env parts p allocated t holds m im.desc a.0 (thing_low env parts insts are size earlier own p n m a.0 is_part a.1) (matches env parts allocated listed matched p n m im a.0 is_part here a.1) in
        rw (← same_Some _ _ b.2) (rw (thing, r.0), rw (match, r.1))

    pub record Comes : Type 0 where
      pub things : List ExternalValue
      pub found : all_there (external_value_for (owned_of env) (made_upto p parts insts) m) m.imports ≡ Some things
      pub inst : next_inst t m things ≡ i
      pub match : all_match t m m.imports things ≡ true

    pub comes : Comes
    comes =
        let is = inst_of_part env parts insts are size earlier p m i is_part is_inst in
        let f = space_is env parts Functions p m i.funcs is.funcs in
        let t' = space_is env parts Tables p m i.tables is.tables in
        let s = space_is env parts Memories p m i.mems is.mems in
        let g = space_is env parts Globals p m i.globals is.globals in
        let all = gathered imported m.imports 0 f.0 t'.0 s.0 g.0 f.1 t'.1 s.1 g.1 in
        let r = things_for m.imports 0 all.things (λ j i e. rw zero-add e) all.each in
        record {
          things = all.things;
          found = r.0;
          match = r.1;
          inst = rw (all.funcs, sized.funcs, f.2, all.tables, sized.tables, t'.2, all.mems, sized.mems, s.2, all.globals, sized.globals, g.2, sized.elems, sized.datas, ← is.elems, ← is.datas, ← is.types);
        }
