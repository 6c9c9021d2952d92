-- The globals, pages and segments that an instantiation begins with.
use Rattle.base_lists.proofs.Common.{◌≡◌, ℕ, zero, suc, ◌+◌, ◌*◌, ◌<◌, ◌≤◌, List, [], ◌∷◌, ◌++◌, map, length, take, replicate, false, Option, Some, None, refl, sym, ap, ap₂, ◌∙◌, arith, get_or, min, slice_get, map-append, length-replicate, filter_map-append, same_Some, slice_get-get_or}
use Rattle.std.proofs.lemmas.List.{append-nil}
use Rattle.base_lists.specs.Options.{◌>>=◌, all_there}
use Rattle.wasm_tree_spec.specs.Prelude.{GlobalType, Limits, DataSeg, GlobalDef, Import, Module, imported_globals}
use Rattle.wasm_tree.specs.Spaces.{global_of as global_imported}
use Rattle.wasm_valid.specs.Prelude.{const_type}
use Rattle.wasm_meaning.specs.Prelude.{copies, Global, zero_of, global_with}
use Rattle.eval_spec.specs.Prelude.{value_in}
use Rattle.eval_machine.specs.declared.globals.GlobalSlot.{GlobalSlot}
use Rattle.eval_machine.specs.declared.globals.Standing.TheVariants as standing
use Rattle.block_pool.specs.Pages.{Pages, blank, blocks_of}
use Rattle.eval_spec.specs.declared.limits.TheConstants.{MOST_BLOCKS}
use Rattle.eval_machine.specs.InstantiationParts.{IsBlank, LimitsFew, standing_of}
use Rattle.eval_machine.specs.Prelude.{global_of, val_of, datas_in}

-- ---- one after the other ----

take_one : {A : Type 0} (xs : List A) (i : ℕ) (x : A) → slice_get xs i ≡ Some x → take (i + 1) xs ≡ take i xs ++ x ∷ []
take_one {A = A} xs i x e = let z : i + 1 ≡ suc i = omega arith in rw z (by xs i e)
  where
    by : (xs : List A) (i : ℕ) → slice_get xs i ≡ Some x → take (suc i) xs ≡ take i xs ++ x ∷ []
    by [] i e = absurd (let k = e in cc)
    by (y ∷ xs) zero e = ap (λ z. z ∷ []) (same_Some y x e)
    by (y ∷ xs) (suc i) e = ap (λ zs. y ∷ zs) (by xs i e)

there_push : {A B : Type 0} (f : A → Option B) (xs : List A) (x : A) (ys : List B) (y : B) → all_there f xs ≡ Some ys → f x ≡ Some y → all_there f (xs ++ x ∷ []) ≡ Some (ys ++ y ∷ [])
there_push f [] x ys y e g = let same : [] ≡ ys = same_Some [] ys e in rw (g, ← same) refl
there_push {A = A} {B = B} f (z ∷ xs) x ys y e g = by (f z) (all_there f xs) refl e (λ zs h. there_push f xs x zs y h g)
  where
    by : (o : Option B) (a : Option (List B)) → all_there f xs ≡ a → (o >>= λ y. a >>= λ ys. Some (y ∷ ys)) ≡ Some ys → ((zs : List B) → all_there f xs ≡ Some zs → all_there f (xs ++ x ∷ []) ≡ Some (zs ++ y ∷ [])) →
        (o >>= λ y. all_there f (xs ++ x ∷ []) >>= λ ys. Some (y ∷ ys)) ≡ Some (ys ++ y ∷ [])
    by None a is h on = absurd (let k = h in cc)
    by (Some w) None is h on = absurd (let k = h in cc)
    by (Some w) (Some zs) is h on = let same : w ∷ zs ≡ ys = same_Some (w ∷ zs) ys h in rw (on zs is) (ap (λ v. Some (v ++ y ∷ [])) same)

-- The slots of the first `i` defined globals.
pub record AreDefined (m : Module) (i : ℕ) (slots : List GlobalSlot) : Type 0 where
  pub globals : all_there (global_with (value_in m)) (take i m.globals) ≡ Some (map global_of slots)
  pub standings : map (λ g. g.standing) slots ≡ map (λ d. standing_of d.init) (take i m.globals)

pub one_defined : (m : Module) (slots : List GlobalSlot) (i : ℕ) (d : GlobalDef) (g : GlobalSlot) → slice_get m.globals i ≡ Some d → g.ty ≡ d.ty → value_in m d.init ≡ Some (val_of g.value) → g.standing ≡ standing_of d.init →
    AreDefined m i slots → AreDefined m (i + 1) (slots ++ g ∷ [])
one_defined m slots i d g at ty value stands are =
    let one : global_with (value_in m) d ≡ Some (global_of g) = rw (value, ty) refl in
    record {
      globals = rw (take_one m.globals i d at, map-append global_of slots (g ∷ [])) (there_push (global_with (value_in m)) (take i m.globals) d (map global_of slots) (global_of g) are.globals one);
      standings = rw (take_one m.globals i d at, map-append (λ g. g.standing) slots (g ∷ []), map-append (λ d. standing_of d.init) (take i m.globals) (d ∷ [])) (ap₂ (λ x y. x ++ y ∷ []) are.standings stands);
    }

-- An imported global, whose value is the zero of its type.
abbrev pub zero_global : GlobalType → Global
zero_global t = record { ty = t; value = zero_of t.ty }

pub record AreImported (m : Module) (i : ℕ) (slots : List GlobalSlot) : Type 0 where
  pub globals : map global_of slots ≡ map zero_global (imported_globals (take i m.imports))
  pub standings : map (λ g. g.standing) slots ≡ map (λ t. standing.Imported) (imported_globals (take i m.imports))

module _ (m : Module) (slots : List GlobalSlot) (i : ℕ) (x : Import) (at : slice_get m.imports i ≡ Some x) (are : AreImported m i slots) where
  more : imported_globals (take (i + 1) m.imports) ≡ imported_globals (take i m.imports) ++ imported_globals (x ∷ [])
  more = ap imported_globals (take_one m.imports i x at) ∙ filter_map-append (λ i. global_imported i.desc) (take i m.imports) (x ∷ [])

  pub one_imported : (t : GlobalType) (g : GlobalSlot) → global_imported x.desc ≡ Some t → g.ty ≡ t → val_of g.value ≡ zero_of t.ty → g.standing ≡ standing.Imported → AreImported m (i + 1) (slots ++ g ∷ [])
  one_imported t g is ty value stands =
      let last : imported_globals (x ∷ []) ≡ t ∷ [] = rw is refl in
      let one : global_of g ≡ zero_global t = rw (ty, value) refl in
      record {
        globals = rw (more, last, map-append global_of slots (g ∷ []), map-append zero_global (imported_globals (take i m.imports)) (t ∷ [])) (ap₂ (λ x y. x ++ y ∷ []) are.globals one);
        standings = rw (more, last, map-append (λ g. g.standing) slots (g ∷ []), map-append (λ t. standing.Imported) (imported_globals (take i m.imports)) (t ∷ [])) (ap₂ (λ x y. x ++ y ∷ []) are.standings stands);
      }

  pub none_imported : global_imported x.desc ≡ None → AreImported m (i + 1) slots
  none_imported is =
      let last : imported_globals (x ∷ []) ≡ [] = rw is refl in
      let same : imported_globals (take (i + 1) m.imports) ≡ imported_globals (take i m.imports) = more ∙ rw last (append-nil (imported_globals (take i m.imports))) in
      record { globals = rw same are.globals; standings = rw same are.standings }

-- ---- segments and bytes ----

pub copies_are : {A : Type 0} (n : ℕ) (v : A) → copies n v ≡ replicate n v
copies_are zero v = refl
copies_are (suc n) v = ap (λ ys. v ∷ ys) (copies_are n v)

pub none_dropped : (ds : List DataSeg) → map (λ d. record { bytes = d.bytes; dropped = false }) ds ≡ datas_in ds (replicate (length ds) false)
none_dropped [] = refl
none_dropped (d ∷ ds) = ap (λ ys. record { bytes = d.bytes; dropped = false } ∷ ys) (none_dropped ds)

-- ---- the memory ----

pub blank_is : (ls : List Limits) (l : Limits) (p : Pages) → slice_get ls 0 ≡ Some l → LimitsFew ls → p.now ≡ blank (65536 * l.min) → p.mark ≡ None → p.most ≡ min MOST_BLOCKS (16 * l.min) → IsBlank ls (Some p)
blank_is [] l p at few now mark most = absurd (let k = at in cc)
blank_is (x ∷ []) l p at few now mark most =
    let same : l ≡ x = sym (same_Some x l at) in
    let blocks : blocks_of (65536 * x.min) ≡ 16 * x.min = omega arith in
    let many : length p.now.written ≡ 16 * l.min = ap (λ c. length c.written) now ∙ (length-replicate (blocks_of (65536 * l.min)) false ∙ rw same blocks) in
    (rw (← same) now, (mark, most ∙ ap (min MOST_BLOCKS) (sym many)))
blank_is (x ∷ y ∷ ls) l p at few now mark most = elim few [ ]

pub few_pages : (ls : List Limits) (l : Limits) → slice_get ls 0 ≡ Some l → LimitsFew ls → l.min ≤ 65536
few_pages [] l at few = absurd (let k = at in cc)
few_pages (x ∷ []) l at few = rw (← same_Some x l at) few
few_pages (x ∷ y ∷ ls) l at few = elim few [ ]

-- ---- loop invariants ----

pub kept_defined : (m : Module) (slots new : List GlobalSlot) (i : ℕ) (zs : List GlobalDef) (d : GlobalDef) (g : GlobalSlot) → zs ≡ m.globals → i < length zs → ((n : ℕ) (d : GlobalDef) → slice_get m.globals n ≡ Some d → const_type m d.init ≡ Some d.ty.ty) →
    g.ty ≡ (get_or zs i d).ty → g.standing ≡ standing_of (get_or zs i d).init → ((m : Module) → const_type m (get_or zs i d).init ≡ Some (get_or zs i d).ty.ty → value_in m (get_or zs i d).init ≡ Some (val_of g.value)) →
    new ≡ slots ++ g ∷ [] → AreDefined m i slots → AreDefined m (i + 1) new
kept_defined m slots new i zs d g same lt typed ty stands value is are =
    let at : slice_get m.globals i ≡ Some (get_or zs i d) = ap (λ xs. slice_get xs i) (sym same) ∙ slice_get-get_or zs i d lt in
    rw is (one_defined m slots i (get_or zs i d) g at ty (value m (typed i (get_or zs i d) at)) stands are)
