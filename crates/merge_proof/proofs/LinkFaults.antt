-- What follows if parts have no fault of linking: for each import, for the memories, and for each
-- global that a part defines.
use Rattle.base_lists.proofs.Common.{◌≡◌, ◌∙◌, ap, ap₂, sym, subst, refl, ℕ, zero, suc, ◌+◌, ◌<◌, List, [], ◌∷◌, length, Option, Some, None, Bool, true, false, cond, arith, option_and_then, slice_get, slice_get_within, Has, and_then_is, unwrap_or_false_is, and_parts}
use Rattle.std.specs.Option.{option_or}
use Rattle.base_lists.proofs.Options.{left_none, right_none, none_given}
use Rattle.wasm_tree_spec.specs.Prelude.{Globals, Import, GlobalDef, Module}
use Rattle.wasm_meaning.specs.Prelude.{Part, Site, End, Defined, Outside, Read, module_at, import_at, imports_of, sites_in, sites_from, sites, end_of, read_of}
use Rattle.merge_spec.specs.declared.faults.LinkFault.{LinkFault}
use Rattle.merge_spec.specs.declared.faults.LinkFault.TheVariants.{ImportMismatch}
use Rattle.merge_spec.specs.Prelude.{External, asked_at, found, suits, same_but_limits, meets_limits, is_suited, first_fault, end_fault, clash_fault, memory_fault, defined_globals_in, defined_globals_from, by_part_from}
use Rattle.merge_spec.specs.Faults.{import_fault, DefinedGlobal, defined_globals, value_fault, global_fault, link_fault}
use Rattle.merge_proof.proofs.ListsByPart.{by_part_is, by_part_has}
use Rattle.merge_proof.proofs.EntityTypes.{bare, bare_is}

-- ---- entries of lists that are joined by part ----

pub sites_are : (first : ℕ) (parts : List Part) → sites_from first parts ≡ by_part_from (λ p m. sites_in p (length m.imports) 0) first parts
sites_are = by_part_is sites_from (λ p m. sites_in p (length m.imports) 0) (λ first. refl) (λ first part parts. refl)

pub site_in : (p count from i : ℕ) → i < count → slice_get (sites_in p count from) i ≡ Some (record { part = p; import = from + i })
site_in p zero from i l = absurd (omega (arith, l))
site_in p (suc count) from zero l = ap {A = ℕ} {B = Option Site} (λ n. Some (record { part = p; import = n })) (let e : from ≡ from + 0 = omega arith in e)
site_in p (suc count) from (suc i) l = site_in p count (suc from) i (omega (arith, l)) ∙ ap {A = ℕ} {B = Option Site} (λ n. Some (record { part = p; import = n })) (let e : suc from + i ≡ from + suc i = omega arith in e)

pub import_site : (parts : List Part) (s : Site) (i : Import) → import_at parts s ≡ Some i → (m : Module) × (module_at parts s.part ≡ Some m) × (slice_get m.imports s.import ≡ Some i)
import_site parts s i h = and_then_is (module_at parts s.part) (λ m. slice_get m.imports s.import) i h

pub in_sites : (parts : List Part) (s : Site) (i : Import) → import_at parts s ≡ Some i → Has (sites parts) s
in_sites parts s i h =
    let m = import_site parts s i h in
    let l = slice_get_within m.0.imports s.import i (m.2) in
    let from_0 : 0 + s.import ≡ s.import = omega arith in
    let part_0 : s.part ≡ 0 + s.part = omega arith in
    let got : slice_get (sites_in s.part (length m.0.imports) 0) s.import ≡ Some s = site_in s.part (length m.0.imports) 0 s.import l ∙ ap {A = ℕ} {B = Option Site} (λ n. Some (record { part = s.part; import = n })) from_0 in
    let there : Has (sites_in s.part (length m.0.imports) 0) s = (s.import, got) in
    subst (λ z. Has z s) (sym (sites_are 0 parts)) (by_part_has (λ p m. sites_in p (length m.imports) 0) 0 parts s.part m.0 s m.1 (subst (λ p. Has (sites_in p (length m.0.imports) 0) s) part_0 there))

own_are : (first : ℕ) (parts : List Part) → defined_globals_from first parts ≡ by_part_from (λ p m. defined_globals_in p (length (imports_of Globals m)) m.globals) first parts
own_are = by_part_is defined_globals_from (λ p m. defined_globals_in p (length (imports_of Globals m)) m.globals) (λ first. refl) (λ first part parts. refl)

own_in : (p n : ℕ) (gs : List GlobalDef) (j : ℕ) (g : GlobalDef) → slice_get gs j ≡ Some g → slice_get (defined_globals_in p n gs) j ≡ Some (record { part = p; index = n + j; init = g.init })
own_in p n [] j g h = cc
own_in p n (x ∷ gs) zero g h = let same : x ≡ g = cc in let e : n ≡ n + 0 = omega arith in ap₂ {A = ℕ} {B = GlobalDef} {C = Option DefinedGlobal} (λ n g. Some (record { part = p; index = n; init = g.init })) e same
own_in p n (x ∷ gs) (suc j) g h = own_in p (suc n) gs j g h ∙ ap {A = ℕ} {B = Option DefinedGlobal} (λ n. Some (record { part = p; index = n; init = g.init })) (let e : suc n + j ≡ n + suc j = omega arith in e)

-- ---- no fault ----

-- The end of an import, with an external type that suits the one that the import asks for.
pub record Suited (parts : List Part) (s : Site) : Type 0 where
  pub end : End
  pub ends : end_of parts s ≡ Some end
  pub demand : External
  pub asks : asked_at parts s ≡ Some demand
  pub thing : External
  pub finds : found parts end ≡ Some thing
  pub same : bare demand ≡ bare thing
  pub yes : suits demand end thing ≡ true

suits_same : (d : External) (e : End) (x : External) → suits d e x ≡ true → bare d ≡ bare x
suits_same d (Defined e) x h = bare_is d x (and_parts (same_but_limits d x) (meets_limits d x) h).0
suits_same d (Outside s) x h = bare_is d x h

suited : (parts : List Part) (s : Site) → import_fault parts s ≡ None → Suited parts s
unfolding import_fault
suited parts s h = by (end_of parts s) refl h
  where
    fits : (e : End) (b : Bool) → cond b None (Some (ImportMismatch s.part s.import)) ≡ None → b ≡ true
    fits e true h = refl
    fits e false h = cc

    here : (e : End) → end_of parts s ≡ Some e → is_suited parts s e ≡ true → Suited parts s
    here e is h =
        let d = and_then_is (asked_at parts s) (λ d. option_and_then (λ x. Some (suits d e x)) (found parts e)) true (unwrap_or_false_is _ h) in
        let x = and_then_is (found parts e) (λ x. Some (suits d.0 e x)) true d.2 in
        let yes : suits d.0 e x.0 ≡ true = (let k = x.2 in cc) in
        record { end = e; ends = is; demand = d.0; asks = d.1; thing = x.0; finds = x.1; same = suits_same d.0 e x.0 yes; yes = yes }

    by : (o : Option End) → end_of parts s ≡ o → end_fault parts s o ≡ None → Suited parts s
    by None is h = absurd (let k = h in cc)
    by (Some e) is h = here e is (fits e (is_suited parts s e) h)

pub record AllAreSuited (parts : List Part) : Type 0 where
  pub imports : (s : Site) (i : Import) → import_at parts s ≡ Some i → Suited parts s
  pub limits : (s : Site) (i : Import) → import_at parts s ≡ Some i → clash_fault parts s ≡ None
  pub globals : (p : ℕ) (m : Module) (j : ℕ) (g : GlobalDef) → module_at parts p ≡ Some m → slice_get m.globals j ≡ Some g → (r : Read) × (read_of parts p g.init ≡ Some r)

read_there : (parts : List Part) (g : DefinedGlobal) → global_fault parts g ≡ None → (r : Read) × (read_of parts g.part g.init ≡ Some r)
unfolding global_fault
read_there parts g h = by (read_of parts g.part g.init) refl h
  where
    by : (o : Option Read) → read_of parts g.part g.init ≡ o → value_fault g o ≡ None → (r : Read) × (read_of parts g.part g.init ≡ Some r)
    by None is h = absurd (let k = h in cc)
    by (Some r) is h = (r, is)

own_has : (parts : List Part) (p : ℕ) (m : Module) (j : ℕ) (g : GlobalDef) → module_at parts p ≡ Some m → slice_get m.globals j ≡ Some g → (o : DefinedGlobal) × Has (defined_globals parts) o × (o.part ≡ p) × (o.init ≡ g.init)
unfolding defined_globals
own_has parts p m j g e h =
    let n = length (imports_of Globals m) in
    let part_0 : p ≡ 0 + p = omega arith in
    let there : Has (defined_globals_in p n m.globals) (record { part = p; index = n + j; init = g.init }) = (j, own_in p n m.globals j g h) in (
      record { part = p; index = n + j; init = g.init },
      subst (λ z. Has z (record { part = p; index = n + j; init = g.init })) (sym (own_are 0 parts)) (by_part_has (λ p m. defined_globals_in p (length (imports_of Globals m)) m.globals) 0 parts p m (record { part = p; index = n + j; init = g.init }) e
          (subst (λ q. Has (defined_globals_in q n m.globals) (record { part = p; index = n + j; init = g.init })) part_0 there)),
      refl,
      refl,
    )

pub are_linked : (parts : List Part) → link_fault parts true ≡ None → AllAreSuited parts
unfolding link_fault
are_linked parts h =
    let more = right_none (first_fault (import_fault parts) (sites parts)) _ h in
    let rest : first_fault (global_fault parts) (defined_globals parts) ≡ None = right_none (first_fault (clash_fault parts) (sites parts)) _ more in
    record {
      imports = λ s i e. let n = in_sites parts s i e in suited parts s (none_given (import_fault parts) (sites parts) n.0 s (left_none _ _ h) n.1);
      limits = λ s i e. let n = in_sites parts s i e in none_given (clash_fault parts) (sites parts) n.0 s (left_none _ _ more) n.1;
      globals = λ p m j g e k. let o = own_has parts p m j g e k in
          let r = read_there parts o.0 (none_given (global_fault parts) (defined_globals parts) o.1.0 o.0 rest o.1.1) in
          (r.0, ap₂ (λ q x. read_of parts q x) (sym o.2) (sym o.3) ∙ r.1);
    }

-- Parts whose linking takes several memories for a fault have no fault of memories.
pub memories_are_few : (parts : List Part) → link_fault parts false ≡ None → memory_fault parts ≡ None
unfolding link_fault
memories_are_few parts h =
    let more = right_none (first_fault (import_fault parts) (sites parts)) _ h in
    left_none (memory_fault parts) _ (right_none (first_fault (clash_fault parts) (sites parts)) _ more)
