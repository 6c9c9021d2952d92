-- Reads through imports, by the ends of paths.
use Rattle.base_lists.proofs.Common.{◌≡◌, ◌∙◌, sym, ap, refl, subst, ℕ, zero, suc, ◌+◌, ◌<◌, List, [], ◌∷◌, Option, Some, None, Bool, true, false, cond, length, slice_get, arith, ◌↔◌, option_and_then, slice_get_within}
use Rattle.wasm_tree_spec.specs.Prelude.{Space, Globals, same_space, ConstExpr, Import, ImportDesc, Module, space_of_import}
use Rattle.std.specs.Option.{option_map}
use Rattle.wasm_tree.specs.declared.module.ConstExpr.TheVariants as const
use Rattle.wasm_tree.specs.declared.module.ImportDesc.TheVariants as im
use Rattle.wasm_meaning.specs.Paths as paths
use Rattle.wasm_meaning.specs.Paths.Path.{ends, goes}
use Rattle.wasm_meaning.specs.Linking as linking
use Rattle.merge_spec.specs.declared.parts.Part.{Part}
use Rattle.merge_spec.specs.declared.links.Read.{Read}
use Rattle.merge_spec.specs.Faults as faults
use Rattle.merge_spec.specs.Prelude.{read_at, read_entry, when_fixed, named_modules}
use Rattle.merge_spec.specs.Linked.{read_at_desc}
use Rattle.merge_link.specs.Prelude.{IsOwn, the_read, AreGlobalReads}
use Rattle.merge_link.specs.Reads.{fixed_desc, fixed_read, own_value, read_past}
use Rattle.merge_link.proofs.Found.{lengths_same, same_at}
use Rattle.merge_link.proofs.Meets.{part_there}

-- The value of the defined global with a number is the value at that number.
pub value_numbered : (ps : List Part) (values : List (Option Read)) (e : linking.Entity) (n : ℕ) (o : Option Read) → AreGlobalReads ps values → IsOwn (named_modules ps) e (Some n) → slice_get values n ≡ Some o
    → option_map the_read o ≡ read_past (named_modules ps) (linking.Defined e)
unfolding own_value
value_numbered ps values e n o are (g, at, part, init) h =
    same_at (option_map the_read) (own_value ps) values (faults.defined_globals (named_modules ps)) n o g are h at
    ∙ ap (λ p. linking.read_of (named_modules ps) p g.init) part ∙ sym (ap (λ x. option_and_then (linking.read_of (named_modules ps) e.part) x) init)

pub number_within : (ps : List Part) (values : List (Option Read)) (e : linking.Entity) (n : ℕ) → AreGlobalReads ps values → IsOwn (named_modules ps) e (Some n) → n < length values
number_within ps values e n are (g, at, part, init) =
    let w = slice_get_within (faults.defined_globals (named_modules ps)) n g at in
    let s = lengths_same (option_map the_read) (own_value ps) values (faults.defined_globals (named_modules ps)) are in
    omega arith

-- ---- one step of a read ----

told : List linking.Part → Option (paths.PathStep linking.Read linking.Read) → Option linking.Read
told lp = paths.walk_on (λ b. linking.read_of lp b.part b.expr)

stuck : {A E : Type 0} (next : A → Option (paths.PathStep A E)) (a : A) (e : E) → paths.Path next a e → next a ≡ None → ⊥
stuck next a e (ends k) h = absurd (cc)
stuck next a e (goes k l) h = absurd (cc)

onward : {A E : Type 0} (next : A → Option (paths.PathStep A E)) (a b : A) (e : E) → paths.Path next a e → next a ≡ Some (paths.LeadsTo b) → paths.Path next b e
onward next a b e (ends k) h = absurd (cc)
onward next a b e (goes {b = d} k l) h = let same : d ≡ b = cc in subst (λ x. paths.Path next x e) same l

one_step : (lp : List linking.Part) → ((p : ℕ) (x : ConstExpr) (r : linking.Read) → linking.Reads lp (record { part = p; expr = x }) r ↔ (linking.read_of lp p x ≡ Some r))
    → (p : ℕ) (x : ConstExpr) → linking.read_of lp p x ≡ told lp (linking.read_step lp (record { part = p; expr = x }))
unfolding told
one_step lp law p x = by (linking.read_step lp (record { part = p; expr = x })) refl
  where
    nothing : linking.read_step lp (record { part = p; expr = x }) ≡ None → (t : Option linking.Read) → linking.read_of lp p x ≡ t → t ≡ None
    nothing is None h = refl
    nothing is (Some r) h = absurd (stuck (linking.read_step lp) (record { part = p; expr = x }) r ((law p x r).1 h) is)

    further : (b : linking.Read) → linking.read_step lp (record { part = p; expr = x }) ≡ Some (paths.LeadsTo b) → (t u : Option linking.Read) → linking.read_of lp p x ≡ t → linking.read_of lp b.part b.expr ≡ u → t ≡ u
    further b is (Some r) u h k = sym ((law b.part b.expr r).0 (onward (linking.read_step lp) (record { part = p; expr = x }) b r ((law p x r).1 h) is)) ∙ k
    further b is None (Some r) h k = sym h ∙ (law p x r).0 (goes is ((law b.part b.expr r).1 k))
    further b is None None h k = refl

    by : (o : Option (paths.PathStep linking.Read linking.Read)) → linking.read_step lp (record { part = p; expr = x }) ≡ o → linking.read_of lp p x ≡ told lp o
    by None is = nothing is (linking.read_of lp p x) refl
    by (Some (paths.EndsWith r)) is = (law p x r).0 (ends is)
    by (Some (paths.LeadsTo b)) is = further b is (linking.read_of lp p x) (linking.read_of lp b.part b.expr) refl refl

past_end : (lp : List linking.Part) (e : linking.End) → told lp (linking.end_step lp (Some e)) ≡ read_past lp e
unfolding told
past_end lp (linking.Outside s) = by (linking.outside_read lp s)
  where
    by : (o : Option linking.Read) → told lp (option_and_then (λ r. Some (paths.EndsWith r)) o) ≡ o
    by None = refl
    by (Some r) = refl
past_end lp (linking.Defined e) = by (linking.initial lp e)
  where
    by : (o : Option ConstExpr) → told lp (option_and_then (λ x. let r : linking.Read = record { part = e.part; expr = x } in Some (paths.LeadsTo r)) o) ≡ option_and_then (linking.read_of lp e.part) o
    by None = refl
    by (Some x) = refl

-- ---- the index of a global import ----

place_back : (k : Space) (imports : List Import) (from n : ℕ) (i : Import) → slice_get imports n ≡ Some i → linking.has_kind k i ≡ true
    → slice_get (linking.places (linking.has_kind k) imports from) (linking.space_index imports n k) ≡ Some (from + n)
place_back k [] from n i h is = cc
place_back k (x ∷ xs) from zero i h is =
    let same : x ≡ i = cc in
    let here : linking.has_kind k x ≡ true = ap (linking.has_kind k) same ∙ is in
    let z : from ≡ from + 0 = omega arith in
    rw here (ap Some z)
place_back k (x ∷ xs) from (suc n) i h is = by (linking.has_kind k x) (place_back k xs (suc from) n i h is)
  where
    next : suc from + n ≡ from + suc n
    next = omega arith

    by : (b : Bool) → slice_get (linking.places (linking.has_kind k) xs (suc from)) (linking.space_index xs n k) ≡ Some (suc from + n)
        → slice_get (cond b (from ∷ linking.places (linking.has_kind k) xs (suc from)) (linking.places (linking.has_kind k) xs (suc from))) (cond b (suc (linking.space_index xs n k)) (linking.space_index xs n k)) ≡ Some (from + suc n)
    by true e = e ∙ ap Some next
    by false e = e ∙ ap Some next

-- ---- reads through imports ----

through : (lp : List linking.Part) → ((p : ℕ) (x : ConstExpr) (r : linking.Read) → linking.Reads lp (record { part = p; expr = x }) r ↔ (linking.read_of lp p x ≡ Some r))
    → (s : linking.Site) (i : Import) (m : Module) (e : linking.End) → linking.module_at lp s.part ≡ Some m → slice_get m.imports s.import ≡ Some i → linking.has_kind Globals i ≡ true → linking.end_of lp s ≡ Some e
    → linking.read_of lp s.part (const.Global (linking.space_index m.imports s.import Globals)) ≡ read_past lp e
unfolding told
through lp law s i m e at there is end =
    let x = linking.space_index m.imports s.import Globals in
    let back = place_back Globals m.imports 0 s.import i there is in
    let z : 0 + s.import ≡ s.import = omega arith in
    let site : linking.global_import lp s.part x ≡ Some s = rw at (ap (λ o. option_and_then (λ n. let t : linking.Site = record { part = s.part; import = n } in Some t) o) (back ∙ ap Some z)) in
    one_step lp law s.part (const.Global x) ∙ ap (λ o. told lp (linking.end_step lp (option_and_then (linking.end_of lp) o))) site ∙ ap (λ o. told lp (linking.end_step lp o)) end ∙ past_end lp e

tree_at : (lp : List linking.Part) (s : linking.Site) (i : Import) (m : Module) → linking.module_at lp s.part ≡ Some m → linking.import_at lp s ≡ Some i → slice_get m.imports s.import ≡ Some i
tree_at lp s i m at there = sym (ap (λ o. option_and_then (λ t. slice_get t.imports s.import) o) at) ∙ there

pub fixed_is : (lp : List linking.Part) → ((p : ℕ) (x : ConstExpr) (r : linking.Read) → linking.Reads lp (record { part = p; expr = x }) r ↔ (linking.read_of lp p x ≡ Some r))
    → (s : linking.Site) (i : Import) (e : linking.End) → linking.import_at lp s ≡ Some i → linking.end_of lp s ≡ Some e → fixed_read lp s e ≡ read_at lp s
fixed_is lp law s i e there end =
    let m = part_there lp s i there in
    let tree = tree_at lp s i m.0 m.1 there in
    ap (option_map read_entry) (ap (λ o. option_and_then (λ j. fixed_desc lp e j.desc) o) there ∙ by i.desc refl m.0 m.1 tree ∙ sym (ap (λ o. option_and_then (λ j. read_at_desc lp s j.desc) o) there))
  where
    by : (d : ImportDesc) → i.desc ≡ d → (m : Module) → linking.module_at lp s.part ≡ Some m → slice_get m.imports s.import ≡ Some i → fixed_desc lp e d ≡ read_at_desc lp s d
    by (im.Func t) is m at tree = refl
    by (im.Table t) is m at tree = refl
    by (im.Memory t) is m at tree = refl
    by (im.Global t) is m at tree =
        let kind : linking.has_kind Globals i ≡ true = ap (λ d. same_space Globals (space_of_import d)) is in
        ap (when_fixed t.mutable) (sym (ap (λ (o : Option Module). option_and_then (λ x. linking.read_of lp s.part (const.Global (linking.space_index x.imports s.import Globals))) o) at ∙ through lp law s i m e at tree kind end))
