-- The instructions on globals, and which globals are unknown.
use Rattle.base_lists.proofs.Common.{◌≡◌, ℕ, zero, suc, ◌+◌, ◌<◌, ◌≤◌, arith, List, [], ◌∷◌, length, map, slice_get, slice_set, Bool, true, false, cond, not, ◌&&◌, Option, Some, None, Ok, Err, refl, sym, ap, ap₂, ◌∙◌, IsSome, nat_eq, filter, le-ltb, ne_eqb, eq-eqb, length-append, length-map}
use Rattle.base_lists.proofs.Common.{slice_get_past, slice_get_within, length-numbers, map_at, none_past}
use Rattle.base_lists.specs.Members.{is_among}
use Rattle.std.specs.Prelude.{MatchOption}
use Rattle.base_lists.specs.Places.{places}
use Rattle.wasm_tree_spec.specs.Prelude.{Globals, Instr, Module, globals_of, imported_globals, same_type}
use Rattle.wasm_tree.specs.declared.instr.Instr.TheVariants as i
use Rattle.wasm_tree.specs.declared.instr.Instr.TheOpen.{Instr-F}
use Rattle.wasm_meaning.specs.Prelude.{Outcome, Gives, Val, Entry, Running, Act, Goes, SetGlobal, global_put, type_of}
use Rattle.eval_spec.specs.declared.stop.Stop.{Stop}
use Rattle.eval_spec.specs.declared.stop.Stop.TheVariants as why
use Rattle.eval_spec.specs.Prelude.{Going, Stopped, is_imported, own_inst}
use Rattle.eval_machine.specs.declared.undo.UndoLog.{UndoLog}
use Rattle.eval_machine.specs.declared.globals.GlobalSlot.{GlobalSlot}
use Rattle.eval_machine.specs.declared.globals.Standing.{Standing}
use Rattle.eval_machine.specs.declared.globals.Standing.TheVariants as standing
use Rattle.eval_machine.specs.declared.kept.Kept.{Kept}
use Rattle.eval_machine.specs.declared.registers.Registers.{Registers}
use Rattle.eval_machine.specs.declared.value.Value.{Value}
use Rattle.eval_machine.specs.Prelude.{ended, global_of, is_of_import, is_unset, val_of, MachineFits, base_of, state_in, store_in, Stays, LevelPlace, body_at, frame_at, running, BeginsWith, begun, done_by}
use Rattle.eval_machine.specs.Undo.{FlagsAreRight, IsNoted, segment_before, noted_global, global_before}
use Rattle.eval_machine.specs.DenotedValues.{Meets, global_written, slot_written, read_of}
use Rattle.eval_machine.proofs.UndoNotes.{before_set}
use Rattle.eval_machine.proofs.SelectAndSet.{set_mapped}
use Rattle.eval_machine.proofs.PreservedParts.{memory_stays}
use Rattle.eval_machine.proofs.IndexSpaces.{address_of, globals_many}
use Rattle.eval_machine.proofs.InstructionSteps.{IsStill, by_layer, ends_unknown, still, still_goes, still_stops, unknown_stops}

-- ---- places whose elements pass a test ----

above_at : (from n : ℕ) (xs : List ℕ) → n < from → is_among xs n ≡ false → (b : Bool) → is_among (cond b (from ∷ xs) xs) n ≡ false
above_at from n xs lt rest true = rw (ne_eqb n from (λ e. omega (arith, lt, e))) rest
above_at from n xs lt rest false = rest

above : {A : Type 0} (test : A → Bool) (xs : List A) (from n : ℕ) → n < from → is_among (places test xs from) n ≡ false
above test [] from n lt = refl
above test (x ∷ xs) from n lt = above_at from n (places test xs (suc from)) lt (above test xs (suc from) n (omega (arith, lt))) (test x)

among_here : (from : ℕ) (xs : List ℕ) (b : Bool) → is_among xs from ≡ false → is_among (cond b (from ∷ xs) xs) from ≡ b
among_here from xs true rest = rw (eq-eqb from from refl)
among_here from xs false rest = rest

among_later : (from n : ℕ) (xs : List ℕ) (a b : Bool) → from < n → is_among xs n ≡ a → is_among (cond b (from ∷ xs) xs) n ≡ a
among_later from n xs a true lt rest = rw (ne_eqb n from (λ e. omega (arith, lt, e))) rest
among_later from n xs a false lt rest = rest

-- A place is among those that pass a test exactly if its element passes the test.
pub among_places : {A : Type 0} (test : A → Bool) (xs : List A) (from n : ℕ) (x : A) → slice_get xs n ≡ Some x → is_among (places test xs from) (from + n) ≡ test x
among_places test [] from n x e = absurd (let k = e in cc)
among_places test (y ∷ ys) from zero x e =
    let same : y ≡ x = cc in let n : from + zero ≡ from = omega arith in rw n (among_here from (places test ys (suc from)) (test y) (above test ys (suc from) from (omega arith)) ∙ ap test same)
among_places test (y ∷ ys) from (suc n) x e =
    let next : suc from + n ≡ from + suc n = omega arith in
    among_later from (from + suc n) (places test ys (suc from)) (test x) (test y) (omega arith) (ap (is_among (places test ys (suc from))) (sym next) ∙ among_places test ys (suc from) n x e)

-- ---- what the machine knows of a global ----

module _ (m : Module) (k : Kept) (f : MachineFits m k) (n : ℕ) where
  sizes : length k.globals ≡ length (globals_of m)
  sizes = sym (length-map k.globals (λ g. g.ty)) ∙ ap length f.types

  imported_few : length (imported_globals m.imports) ≤ length (globals_of m)
  imported_few = omega (arith, length-append (imported_globals m.imports) (map (λ g. g.ty) m.globals))

  pub address : (g : GlobalSlot) → slice_get k.globals n ≡ Some g → slice_get (own_inst m).globals n ≡ Some n
  address g e = address_of (length (globals_of m)) n (omega (arith, slice_get_within k.globals n g e, sizes))

  pub held : (g : GlobalSlot) → slice_get k.globals n ≡ Some g → slice_get (map global_of k.globals) n ≡ Some (global_of g)
  held g e = map_at global_of k.globals n g e

  pub no_address : slice_get k.globals n ≡ None → slice_get (own_inst m).globals n ≡ None
  no_address e = slice_get_past (own_inst m).globals n (omega (arith, none_past k.globals n (sym e), sizes, length-numbers 0 (length (globals_of m))))

  pub not_imported : slice_get k.globals n ≡ None → is_imported m Globals n ≡ false
  not_imported e = le-ltb n _ (omega (arith, none_past k.globals n (sym e), sizes, imported_few, globals_many m))

  pub known : (g : GlobalSlot) → slice_get k.globals n ≡ Some g → is_among (places (λ g. is_unset g.standing) k.globals 0) n ≡ is_unset g.standing
  known g e = let z : n ≡ 0 + n = omega arith in ap (is_among (places (λ g. is_unset g.standing) k.globals 0)) z ∙ among_places (λ g. is_unset g.standing) k.globals 0 n g e

-- ---- global.get ----

module _ (m : Module) (k : Kept) (f : MachineFits m k) (n : ℕ) (vs ls : List Val) (rest : List Instr) (p : LevelPlace) (es : List Entry) where
  abbrev now : Registers
  now = record { kept = k; operands = vs; locals = ls }

  get_still : (g : GlobalSlot) → slice_get k.globals n ≡ Some g → is_of_import g.standing ≡ false → is_unset g.standing ≡ false → IsStill m now (i.GlobalGet n) (Instr-F.GlobalGet n) rest p es
  get_still g e a b = record { grow = refl; table = refl; unknown = rw (sym (f.imported n g e) ∙ a, address m k f n g e, known m k f n g e ∙ b); import = refl; further = refl; opens = refl; few = refl; written = refl }

  none_still : slice_get k.globals n ≡ None → IsStill m now (i.GlobalGet n) (Instr-F.GlobalGet n) rest p es
  none_still e = record { grow = refl; table = refl; unknown = rw (not_imported m k f n e, no_address m k f n e); import = refl; further = refl; opens = refl; few = refl; written = refl }

  got : (g : GlobalSlot) (v : Value) → slice_get k.globals n ≡ Some g → read_of (Some g) ≡ Ok v → begun m now (i.GlobalGet n) rest p es ≡ running m (record now { operands = val_of v ∷ vs }) rest p es
  got g v e h = by g.standing refl
    where
      by : (s : Standing) → g.standing ≡ s → begun m now (i.GlobalGet n) rest p es ≡ running m (record now { operands = val_of v ∷ vs }) rest p es
      by standing.Known is =
          let same : g.value ≡ v = let q = rw is at h in cc in
          let done = done_by m now (Instr-F.GlobalGet n) rest p in
          by_layer m now (i.GlobalGet n) (Instr-F.GlobalGet n) rest p es _ (i.outs-GlobalGet n) (still m now (i.GlobalGet n) (Instr-F.GlobalGet n) rest p es (get_still g e (rw is) (rw is)) done
          ∙ still_goes m now (i.GlobalGet n) (Instr-F.GlobalGet n) rest p es done (record now { operands = val_of v ∷ vs }) (rw (address m k f n g e, held m k f n g e, same)) refl)
      by standing.Imported is = absurd (let q = rw is at h in cc)
      by standing.Unset is = absurd (let q = rw is at h in cc)

  not_got : (o : Option GlobalSlot) (x : Stop) → slice_get k.globals n ≡ o → read_of o ≡ Err x → begun m now (i.GlobalGet n) rest p es ≡ Stopped x k.turns
  not_got None x e h =
      let same : why.Trap ≡ x = cc in
      let done = done_by m now (Instr-F.GlobalGet n) rest p in
      by_layer m now (i.GlobalGet n) (Instr-F.GlobalGet n) rest p es _ (i.outs-GlobalGet n) (still m now (i.GlobalGet n) (Instr-F.GlobalGet n) rest p es (none_still e) done ∙
      (still_stops m now (i.GlobalGet n) (Instr-F.GlobalGet n) rest p es done (rw (no_address m k f n e)) ∙ ap (λ y. Stopped y k.turns) same))
  not_got (Some g) x e h = by g.standing refl
    where
      by : (s : Standing) → g.standing ≡ s → begun m now (i.GlobalGet n) rest p es ≡ Stopped x k.turns
      by standing.Known is = absurd (let q = rw is at h in cc)
      by standing.Imported is =
          let same : why.Unknown ≡ x = let q = rw is at h in cc in by_layer m now (i.GlobalGet n) (Instr-F.GlobalGet n) rest p es _ (i.outs-GlobalGet n)
          (unknown_stops m now (i.GlobalGet n) (Instr-F.GlobalGet n) rest p es refl refl (rw (sym (f.imported n g e) ∙ ap is_of_import is)) _ ∙ ap (λ y. Stopped y k.turns) same)
      by standing.Unset is =
          let same : why.Unknown ≡ x = let q = rw is at h in cc in
          by_layer m now (i.GlobalGet n) (Instr-F.GlobalGet n) rest p es _ (i.outs-GlobalGet n) (unknown_stops m now (i.GlobalGet n) (Instr-F.GlobalGet n) rest p es refl refl (rw (sym (f.imported n g e) ∙ ap is_of_import is, address m k f n g e, known m k f n g e ∙ ap is_unset is)) _ ∙
          ap (λ y. Stopped y k.turns) same)

pub global_got : (m : Module) (k : Kept) (n : ℕ) (vs : List Val) (v : Value) → MachineFits m k → read_of (slice_get k.globals n) ≡ Ok v → BeginsWith m (i.GlobalGet n) k vs None k (val_of v ∷ vs)
global_got m k n vs v f h = λ ls rest p es. by (slice_get k.globals n) refl h ls rest p es
  where
    by : (o : Option GlobalSlot) → slice_get k.globals n ≡ o → read_of o ≡ Ok v → BeginsWith m (i.GlobalGet n) k vs None k (val_of v ∷ vs)
    by None e h = absurd (let q = h in cc)
    by (Some g) e h = λ ls rest p es. got m k f n vs ls rest p es g v e h

pub global_not_got : (m : Module) (k : Kept) (n : ℕ) (vs us : List Val) (x : Stop) → MachineFits m k → read_of (slice_get k.globals n) ≡ Err x → BeginsWith m (i.GlobalGet n) k vs (Some x) k us
global_not_got m k n vs us x f h = λ ls rest p es. not_got m k f n vs ls rest p es (slice_get k.globals n) x refl h

-- ---- global.set ----

without_at : (n from : ℕ) (xs ys : List ℕ) → n < from → filter (λ b. not (nat_eq b n)) xs ≡ ys → (b : Bool) → filter (λ b. not (nat_eq b n)) (cond b (from ∷ xs) xs) ≡ cond b (from ∷ ys) ys
without_at n from xs ys lt rest true = rw (ne_eqb from n (λ e. omega (arith, lt, e))) (ap (λ l. from ∷ l) rest)
without_at n from xs ys lt rest false = rest

without_before : (n from : ℕ) (xs ys : List ℕ) → from < n → filter (λ b. not (nat_eq b n)) xs ≡ ys → (b : Bool) → filter (λ b. not (nat_eq b n)) (cond b (from ∷ xs) xs) ≡ cond b (from ∷ ys) ys
without_before n from xs ys lt rest true = rw (ne_eqb from n (λ e. omega (arith, lt, e))) (ap (λ l. from ∷ l) rest)
without_before n from xs ys lt rest false = rest

without_here : (n : ℕ) (xs : List ℕ) → filter (λ b. not (nat_eq b n)) xs ≡ xs → (b : Bool) → filter (λ b. not (nat_eq b n)) (cond b (n ∷ xs) xs) ≡ xs
without_here n xs rest true = rw (eq-eqb n n refl) rest
without_here n xs rest false = rest

kept_above : {A : Type 0} (test : A → Bool) (xs : List A) (from n : ℕ) → n < from → filter (λ b. not (nat_eq b n)) (places test xs from) ≡ places test xs from
kept_above test [] from n lt = refl
kept_above test (x ∷ xs) from n lt = without_at n from (places test xs (suc from)) (places test xs (suc from)) lt (kept_above test xs (suc from) n (omega (arith, lt))) (test x)

abbrev set_known : GlobalSlot → Value → GlobalSlot
set_known g v = record g { value = v; standing = standing.Known }

abbrev unset : GlobalSlot → Bool
unset g = is_unset g.standing

-- A global that is set is known afterwards, and no other global becomes known.
unset_after : (gs : List GlobalSlot) (from n : ℕ) (g h : GlobalSlot) → slice_get gs n ≡ Some g → unset h ≡ false → filter (λ b. not (nat_eq b (from + n))) (places unset gs from) ≡ places unset (slice_set gs n h) from
unset_after [] from n g h e u = absurd (let k = e in cc)
unset_after (x ∷ xs) from zero g h e u =
    let n : from + zero ≡ from = omega arith in rw (n, u) (without_here from (places unset xs (suc from)) (kept_above unset xs (suc from) from (omega arith)) (unset x))
unset_after (x ∷ xs) from (suc n) g h e u =
    let next : from + suc n ≡ suc from + n = omega arith in
    without_before (from + suc n) from (places unset xs (suc from)) (places unset (slice_set xs n h) (suc from)) (omega arith)
    (ap (λ k. filter (λ b. not (nat_eq b k)) (places unset xs (suc from))) next ∙ unset_after xs (suc from) n g h e u) (unset x)

module _ (m : Module) (k : Kept) (f : MachineFits m k) (n : ℕ) (vs ls : List Val) (rest : List Instr) (p : LevelPlace) (es : List Entry) where
  abbrev at_set : Registers
  at_set = record { kept = k; operands = vs; locals = ls }

  -- A `global.set` of a global that is not imported is stopped by nothing but a trap.
  set_still : (o : Option ℕ) → slice_get (own_inst m).globals n ≡ o → is_imported m Globals n ≡ false → IsStill m at_set (i.GlobalSet n) (Instr-F.GlobalSet n) rest p es
  set_still None a e = record { grow = refl; table = refl; unknown = rw e; import = refl; further = rw a; opens = refl; few = rw a; written = rw a }
  set_still (Some x) a e = record { grow = refl; table = refl; unknown = rw e; import = refl; further = rw a; opens = refl; few = rw a; written = rw a }

  abbrev set_done : Outcome Act
  set_done = done_by m at_set (Instr-F.GlobalSet n) rest p

  set_none : (x : Stop) (us : List Val) → slice_get k.globals n ≡ None → why.Trap ≡ x → begun m at_set (i.GlobalSet n) rest p es ≡ Stopped x k.turns
  set_none x us e same =
      by_layer m at_set (i.GlobalSet n) (Instr-F.GlobalSet n) rest p es _ (i.outs-GlobalSet n) (still m at_set (i.GlobalSet n) (Instr-F.GlobalSet n) rest p es (set_still None (no_address m k f n e) (not_imported m k f n e)) set_done
      ∙ (still_stops m at_set (i.GlobalSet n) (Instr-F.GlobalSet n) rest p es set_done (rw (no_address m k f n e)) ∙ ap (λ y. Stopped y k.turns) same))

  module _ (g : GlobalSlot) (e : slice_get k.globals n ≡ Some g) where
    own_still : is_of_import g.standing ≡ false → IsStill m at_set (i.GlobalSet n) (Instr-F.GlobalSet n) rest p es
    own_still a = set_still (Some n) (address m k f n g e) (sym (f.imported n g e) ∙ a)

    set_empty : (x : Stop) → is_of_import g.standing ≡ false → vs ≡ [] → why.Trap ≡ x → begun m at_set (i.GlobalSet n) rest p es ≡ Stopped x k.turns
    set_empty x a v same =
        by_layer m at_set (i.GlobalSet n) (Instr-F.GlobalSet n) rest p es _ (i.outs-GlobalSet n) (still m at_set (i.GlobalSet n) (Instr-F.GlobalSet n) rest p es (own_still a) set_done
        ∙ (still_stops m at_set (i.GlobalSet n) (Instr-F.GlobalSet n) rest p es set_done (rw (address m k f n g e, held m k f n g e, v)) ∙ ap (λ y. Stopped y k.turns) same))

    set_other : (x : Stop) (v : Value) (us : List Val) → is_of_import g.standing ≡ false → vs ≡ val_of v ∷ us → (a b : Bool) → g.ty.mutable ≡ a → same_type g.ty.ty (type_of (val_of v)) ≡ b → a && b ≡ false → why.Trap ≡ x →
        begun m at_set (i.GlobalSet n) rest p es ≡ Stopped x k.turns
    set_other x v us h w a b is it un same =
        by_layer m at_set (i.GlobalSet n) (Instr-F.GlobalSet n) rest p es _ (i.outs-GlobalSet n) (still m at_set (i.GlobalSet n) (Instr-F.GlobalSet n) rest p es (own_still h) set_done
        ∙ (still_stops m at_set (i.GlobalSet n) (Instr-F.GlobalSet n) rest p es set_done (rw (address m k f n g e, held m k f n g e, w) (by a b is it un)) ∙ ap (λ y. Stopped y k.turns) same))
      where
        by : (a b : Bool) → g.ty.mutable ≡ a → same_type g.ty.ty (type_of (val_of v)) ≡ b → a && b ≡ false → ended (global_put (body_at (record at_set { operands = us }) rest p) n (global_of g) (val_of v)) ≡ Err why.Trap
        by true true is it q = absurd (let z = q in cc)
        by true false is it q = rw (is, it)
        by false b is it q = rw is

    set_goes : (v : Value) (us : List Val) → is_of_import g.standing ≡ false → vs ≡ val_of v ∷ us → g.ty.mutable ≡ true → same_type g.ty.ty (type_of (val_of v)) ≡ true →
        begun m at_set (i.GlobalSet n) rest p es ≡ running m (record { kept = record k { globals = slice_set k.globals n (set_known g v) }; operands = us; locals = ls }) rest p es
    set_goes v us h w is it =
        let done : set_done ≡ Gives (Goes (SetGlobal n (record (global_of g) { value = val_of v })) (body_at (record at_set { operands = us }) rest p)) = rw (address m k f n g e, held m k f n g e, w, is, it) in
        let z : n ≡ 0 + n = omega arith in
        by_layer m at_set (i.GlobalSet n) (Instr-F.GlobalSet n) rest p es _ (i.outs-GlobalSet n) (still m at_set (i.GlobalSet n) (Instr-F.GlobalSet n) rest p es (own_still h) set_done
        ∙ rw done
        (ap₂ (λ a b. Going (record (state_in m k) { store = record (store_in m k) { globals = a }; unknown = record (base_of m).unknown { globals = b } }) (Running (frame_at m (record at_set { operands = us }) rest p) ∷ es))
        (set_mapped global_of k.globals n (set_known g v)) (ap (λ a. filter (λ b. not (nat_eq b a)) (places unset k.globals 0)) z ∙ unset_after k.globals 0 n g (set_known g v) e refl)))

-- The globals of the machine after a `global.set`.
module _ (m : Module) (k : Kept) (f : MachineFits m k) (n : ℕ) (vs us : List Val) (gs : List GlobalSlot) where
  abbrev SetsTo : Option Stop → Type 0
  SetsTo stop = BeginsWith m (i.GlobalSet n) k vs stop (record k { globals = gs }) us

  abbrev Popped : Option Value → Type 0
  Popped value = MatchOption value ((vs ≡ []) × (us ≡ [])) (λ v. vs ≡ val_of v ∷ us)

  module _ (g : GlobalSlot) (e : slice_get k.globals n ≡ Some g) where
    by_types : (v : Value) → vs ≡ val_of v ∷ us → is_of_import g.standing ≡ false → (a b : Bool) → g.ty.mutable ≡ a → same_type g.ty.ty (type_of (val_of v)) ≡ b → (stop : Option Stop) →
        Meets (cond (a && b) (Ok (slice_set k.globals n (set_known g v))) (Err why.Trap)) stop gs → SetsTo stop
    by_types v w h true true is it None q = let same : slice_set k.globals n (set_known g v) ≡ gs = cc in λ ls rest p es. rw (← same) (set_goes m k f n vs ls rest p es g e v us h w is it)
    by_types v w h true true is it (Some x) q = absurd (let z = q in cc)
    by_types v w h true false is it None q = absurd (let z = q in cc)
    by_types v w h true false is it (Some x) q = λ ls rest p es. set_other m k f n vs ls rest p es g e x v us h w true false is it refl cc
    by_types v w h false b is it None q = absurd (let z = q in cc)
    by_types v w h false b is it (Some x) q = λ ls rest p es. set_other m k f n vs ls rest p es g e x v us h w false b is it refl cc

    by_value : (value : Option Value) → Popped value → is_of_import g.standing ≡ false → (stop : Option Stop) → Meets (slot_written k.globals n g value) stop gs → SetsTo stop
    by_value None w h None q = absurd (let z = q in cc)
    by_value None w h (Some x) q = λ ls rest p es. set_empty m k f n vs ls rest p es g e x h w.0 cc
    by_value (Some v) w h stop q = by_types v w h g.ty.mutable (same_type g.ty.ty (type_of (val_of v))) refl refl stop q

    by_standing : (value : Option Value) → Popped value → (b : Bool) → is_of_import g.standing ≡ b → (stop : Option Stop) → Meets (cond b (Err why.Unknown) (slot_written k.globals n g value)) stop gs → SetsTo stop
    by_standing value w true h None q = absurd (let z = q in cc)
    by_standing value w true h (Some x) q = λ ls rest p es.
        let same : why.Unknown ≡ x = cc in
        ends_unknown m (record { kept = k; operands = vs; locals = ls }) (i.GlobalSet n) (Instr-F.GlobalSet n) rest p es (i.outs-GlobalSet n) refl refl (rw (sym (f.imported n g e) ∙ h)) ∙ ap (λ y. Stopped y k.turns) same
    by_standing value w false h stop q = by_value value w h stop q

  by_slot : (value : Option Value) → Popped value → (o : Option GlobalSlot) → slice_get k.globals n ≡ o → (stop : Option Stop) → Meets (global_written k.globals n value o) stop gs → SetsTo stop
  by_slot value w None e None q = absurd (let z = q in cc)
  by_slot value w None e (Some x) q = λ ls rest p es. set_none m k f n vs ls rest p es x us e cc
  by_slot value w (Some g) e stop q = by_standing g e value w (is_of_import g.standing) refl stop q

  pub global_set_begins : (value : Option Value) → Popped value → (stop : Option Stop) → Meets (global_written k.globals n value (slice_get k.globals n)) stop gs → SetsTo stop
  global_set_begins value w stop q = by_slot value w (slice_get k.globals n) refl stop q

-- ---- what a `global.set` leaves unchanged ----

map_set : {A B : Type 0} (f : A → B) (xs : List A) (n : ℕ) (x y : A) → slice_get xs n ≡ Some x → f y ≡ f x → map f (slice_set xs n y) ≡ map f xs
map_set f [] n x y e h = refl
map_set f (z ∷ zs) zero x y e h = let same : z ≡ x = cc in ap (λ b. b ∷ map f zs) (h ∙ ap f (sym same))
map_set f (z ∷ zs) (suc n) x y e h = ap (λ l. f z ∷ l) (map_set f zs n x y e h)

-- The globals after a `global.set`: one has another value of its type, and is imported or not as
-- before.
record SetsOne (gs hs : List GlobalSlot) (n : ℕ) : Type 0 where
  before : GlobalSlot
  after : GlobalSlot
  at : slice_get gs n ≡ Some before
  ty : after.ty ≡ before.ty
  kind : is_of_import after.standing ≡ is_of_import before.standing
  is : hs ≡ slice_set gs n after

set_by_types : (gs hs : List GlobalSlot) (n : ℕ) (g : GlobalSlot) (v : Value) → slice_get gs n ≡ Some g → is_of_import g.standing ≡ false → (b : Bool) → Meets (cond b (Ok (slice_set gs n (set_known g v))) (Err why.Trap)) None hs → SetsOne gs hs n
set_by_types gs hs n g v e h true q = let same : slice_set gs n (set_known g v) ≡ hs = cc in record { before = g; after = set_known g v; at = e; ty = refl; kind = sym h; is = sym same }
set_by_types gs hs n g v e h false q = absurd (let z = q in cc)

set_by_value : (gs hs : List GlobalSlot) (n : ℕ) (g : GlobalSlot) (value : Option Value) → slice_get gs n ≡ Some g → is_of_import g.standing ≡ false → Meets (slot_written gs n g value) None hs → SetsOne gs hs n
set_by_value gs hs n g None e h q = absurd (let z = q in cc)
set_by_value gs hs n g (Some v) e h q = set_by_types gs hs n g v e h (g.ty.mutable && same_type g.ty.ty (type_of (val_of v))) q

set_by_standing : (gs hs : List GlobalSlot) (n : ℕ) (g : GlobalSlot) (value : Option Value) → slice_get gs n ≡ Some g → (b : Bool) → is_of_import g.standing ≡ b → Meets (cond b (Err why.Unknown) (slot_written gs n g value)) None hs → SetsOne gs hs n
set_by_standing gs hs n g value e true h q = absurd (let z = q in cc)
set_by_standing gs hs n g value e false h q = set_by_value gs hs n g value e h q

set_by_slot : (gs hs : List GlobalSlot) (n : ℕ) (value : Option Value) (o : Option GlobalSlot) → slice_get gs n ≡ o → Meets (global_written gs n value o) None hs → SetsOne gs hs n
set_by_slot gs hs n value None e q = absurd (let z = q in cc)
set_by_slot gs hs n value (Some g) e q = set_by_standing gs hs n g value e (is_of_import g.standing) refl q

-- The undo log says of the state at the mark what that of the machine says.
pub record KeepsUndo (k : Kept) (undo : UndoLog) : Type 0 where
  pub flags : FlagsAreRight undo.globals undo.noted
  pub globals : (i : ℕ) → global_before undo.globals k.globals i ≡ global_before k.undo.globals k.globals i
  pub dropped : undo.dropped ≡ k.undo.dropped

noting_stays : (k : Kept) (undo : UndoLog) → KeepsUndo k undo → Stays k (record k { undo = undo })
noting_stays k undo notes = record {
  slots = refl;
  imports = refl;
  dropped = refl;
  types = refl;
  imported = refl;
  memory = memory_stays k.memory;
  turns = omega arith;
  undo = record { flags = λ h. notes.flags; globals = notes.globals; segments = λ i. ap (λ ds. segment_before ds k.dropped i) notes.dropped };
}

pub globals_stay : (k : Kept) (undo : UndoLog) (gs : List GlobalSlot) (n : ℕ) (value : Option Value) (stop : Option Stop) → KeepsUndo k undo → IsNoted undo.globals k.globals n →
    Meets (global_written k.globals n value (slice_get k.globals n)) stop gs → (IsSome stop → gs ≡ k.globals) → Stays k (record k { globals = gs; undo = undo })
globals_stay k undo gs n value None notes there q h =
    let s = set_by_slot k.globals gs n value (slice_get k.globals n) refl q in
    let some : IsSome (noted_global undo.globals n) = there (slice_get_within k.globals n s.before s.at) in
    record {
      slots = refl;
      imports = refl;
      dropped = refl;
      types = ap (map (λ g. g.ty)) s.is ∙ map_set (λ g. g.ty) k.globals n s.before s.after s.at s.ty;
      imported = ap (map (λ g. is_of_import g.standing)) s.is ∙ map_set (λ g. is_of_import g.standing) k.globals n s.before s.after s.at s.kind;
      memory = memory_stays k.memory;
      turns = omega arith;
      undo = record {
        flags = λ h. notes.flags;
        globals = λ i. ap (λ hs. global_before undo.globals hs i) s.is ∙ (before_set undo.globals k.globals n s.after some i ∙ notes.globals i);
        segments = λ i. ap (λ ds. segment_before ds k.dropped i) notes.dropped;
      };
    }
globals_stay k undo gs n value (Some x) notes there q h = rw (h refl) (noting_stays k undo notes)

-- The undo log does not change what `global.set` does.
pub noted_begins : (m : Module) (k : Kept) (n : ℕ) (vs us : List Val) (gs : List GlobalSlot) (undo : UndoLog) (stop : Option Stop) → BeginsWith m (i.GlobalSet n) k vs stop (record k { globals = gs }) us → BeginsWith m (i.GlobalSet n) k vs stop (record k { globals = gs; undo = undo }) us
noted_begins m k n vs us gs undo None begins = begins
noted_begins m k n vs us gs undo (Some x) begins = begins
