-- A quiet step that goes on: no test before it holds, and the machine makes the same step.
use Rattle.base_lists.proofs.Common.{◌≡◌, ℕ, ◌+◌, ◌<◌, ◌≤◌, List, [], ◌∷◌, Option, Some, None, Bool, true, false, cond, ◌&&◌, ◌||◌, refl, sym, ap, subst, arith, ◌∙◌, nat_eq, nat_le, nat_lt, list_any, eqb-true, le-leb, lt-ltb}
use Rattle.std.proofs.lemmas.Bool.{true≢false}
use Rattle.base_lists.specs.Every.{Every}
use Rattle.wasm_tree_spec.specs.Prelude.{Instr, out-Instr, Module}
use Rattle.wasm_meaning.specs.Prelude.{Outcome, Gives, Traps, IllTyped, Val, Inst, Level, Entry, Next, Ran, CallsOwn, WaitsGrowth, CallsPlaceholder, EndsCall, step}
use Rattle.run_simulation.specs.Prelude.{Unknowns, none_unknown, is_place_among, ReadPlace, ReadsNothing, ReadsGlobal, ReadsSlots, ReadsItems, IsKnown, ReadsKnown, left_unknown}
use Rattle.run_simulation.specs.UnknownPlaces.{read_next, read_levels}
use Rattle.eval_spec.specs.Prelude.{State, Stage, Going, Test, first_held, stopped_or, Finished, any_in_row, uses_unknown, instruction_tests, tests_at, tests, spent, came_to, quiet_step}
use Rattle.eval_spec.specs.Stops.{is_unknown, reads_unknown, beginning_in, beginning_of}

-- ---- truth values ----

pub neither : (a b : Bool) → a || b ≡ false → (a ≡ false) × (b ≡ false)
neither true b e = absurd (true≢false e)
neither false b e = (refl, e)

pub every_false : {A : Type 0} (is : A → Bool) (xs : List A) → list_any is xs ≡ false → Every (λ x. is x ≡ false) xs
every_false is [] e = tt
every_false is (x ∷ xs) e = let n = neither (is x) (list_any is xs) e in (n.0, every_false is xs n.1)

-- ---- the places that are read are known ----

-- A place of a row in which no place is unknown is known.
place_known : (x : ℕ × ℕ) (a place count n : ℕ) → nat_eq x.0 a && (nat_le place x.1 && nat_lt x.1 (place + count)) ≡ false → place ≤ n → n < place + count → nat_eq x.0 a && nat_eq x.1 n ≡ false
place_known x a place count n e l h = by (nat_eq x.0 a) (nat_eq x.1 n) refl e
  where
    by : (b c : Bool) → nat_eq x.1 n ≡ c → b && (nat_le place x.1 && nat_lt x.1 (place + count)) ≡ false → b && c ≡ false
    by false c k e = refl
    by true false k e = refl
    by true true k e =
        let q : x.1 ≡ n = eqb-true x.1 n k in
        let first : nat_le place x.1 ≡ true = le-leb place x.1 (omega (arith, q, l)) in
        let second : nat_lt x.1 (place + count) ≡ true = lt-ltb x.1 (place + count) (omega (arith, q, h)) in
        absurd (true≢false (rw (first, second) at e))

row_known : (xs : List (ℕ × ℕ)) (a place count n : ℕ) → any_in_row xs a place count ≡ false → place ≤ n → n < place + count → is_place_among xs a n ≡ false
row_known [] a place count n e l h = refl
row_known (x ∷ xs) a place count n e l h =
    let both = neither (nat_eq x.0 a && (nat_le place x.1 && nat_lt x.1 (place + count))) (any_in_row xs a place count) e in
    rw (place_known x a place count n both.0 l h) (row_known xs a place count n both.1 l h)

is_known : (u : Unknowns) (r : ReadPlace) → is_unknown u r ≡ false → IsKnown u r
is_known u ReadsNothing e = tt
is_known u (ReadsGlobal a) e = e
is_known u (ReadsSlots a place count) e = λ n l h. row_known u.slots a place count n e l h
is_known u (ReadsItems a place count) e = λ n l h. row_known u.items a place count n e l h

reads_known : (u : Unknowns) (o : Outcome ReadPlace) → reads_unknown u o ≡ false → ReadsKnown u o
reads_known u o e r is = is_known u r (subst (λ x. reads_unknown u x ≡ false) is e)

-- ---- no test holds ----

pub none_held : (ts : List Test) → first_held ts ≡ None → Every (λ t. t.holds ≡ false) ts
none_held [] e = tt
none_held (t ∷ ts) e = by t.holds refl e (none_held ts)
  where
    by : (b : Bool) → t.holds ≡ b → cond b (Some t) (first_held ts) ≡ None → (first_held ts ≡ None → Every (λ t. t.holds ≡ false) ts) → (t.holds ≡ false) × Every (λ t. t.holds ≡ false) ts
    by true h e more = absurd (let k = e in cc)
    by false h e more = (h, more e)

-- The instruction that begins, if one does, uses nothing that is unknown.
abbrev pub UsesKnownIn : Module → State → Inst → List Val → List Instr → Type 0
UsesKnownIn m s inst vs [] = Unit {0}
UsesKnownIn m s inst vs (o ∷ rest) = uses_unknown m s.unknown (out-Instr o) (record { store = s.store; inst = inst }) vs ≡ false

abbrev pub UsesKnown : Module → State → Inst → List Level → Type 0
UsesKnown m s inst [] = Unit {0}
UsesKnown m s inst (l ∷ ls) = UsesKnownIn m s inst l.values l.code

uses_known_in : (m : Module) (s : State) (es : List Entry) (inst : Inst) (vs : List Val) (c : List Instr) → first_held (tests_at m s es (beginning_in inst vs c)) ≡ None → UsesKnownIn m s inst vs c
uses_known_in m s es inst vs [] e = tt
uses_known_in m s es inst vs (o ∷ rest) e = let all = none_held (instruction_tests m s es (out-Instr o) (record { store = s.store; inst = inst }) vs) e in all.1.1.1.0

pub uses_known : (m : Module) (s : State) (es : List Entry) (inst : Inst) (ls : List Level) → first_held (tests_at m s es (beginning_of inst ls)) ≡ None → UsesKnown m s inst ls
uses_known m s es inst [] e = tt
uses_known m s es inst (l ∷ ls) e = uses_known_in m s es inst l.values l.code e

reads_in : (m : Module) (s : State) (inst : Inst) (vs : List Val) (c : List Instr) → UsesKnownIn m s inst vs c → ReadsKnown s.unknown (read_next (record { store = s.store; inst = inst }) vs c)
reads_in m s inst vs [] n = reads_known s.unknown (Gives ReadsNothing) refl
reads_in m s inst vs (o ∷ rest) n = reads_known s.unknown _ (neither _ _ n).1

pub reads_levels : (m : Module) (s : State) (inst : Inst) (ls : List Level) → UsesKnown m s inst ls → ReadsKnown s.unknown (read_levels (record { store = s.store; inst = inst }) ls)
reads_levels m s inst [] n = reads_known s.unknown IllTyped refl
reads_levels m s inst (l ∷ ls) n = reads_in m s inst l.values l.code n

-- ---- a step that goes on ----

abbrev next_of : Stage → Outcome Next
next_of (Going s es) = Gives (Ran s.store es)
next_of _ = Traps

abbrev unknown_of : Stage → Unknowns
unknown_of (Going s es) = s.unknown
unknown_of (Finished s) = s.unknown
unknown_of _ = none_unknown

ran : (u : State) (o : Outcome Next) (t : State) (fs : List Entry) → came_to u o ≡ Going t fs → (o ≡ Gives (Ran t.store fs)) × (t.unknown ≡ u.unknown)
ran u Traps t fs e = absurd (let k = e in cc)
ran u IllTyped t fs e = absurd (let k = e in cc)
ran u (Gives (Ran x gs)) t fs e = (ap next_of e, sym (ap unknown_of e))
ran u (Gives (CallsOwn pair ty vs x gs)) t fs e = absurd (let k = e in cc)
ran u (Gives (WaitsGrowth g size count x gs)) t fs e = absurd (let k = e in cc)
ran u (Gives (CallsPlaceholder slot vs x gs)) t fs e = absurd (let k = e in cc)
ran u (Gives (EndsCall vs x gs)) t fs e = absurd (let k = e in cc)

pub record GoesOnQuietly (m : Module) (s : State) (es : List Entry) (t : State) (fs : List Entry) : Type 0 where
  pub none_held : first_held (tests m s es) ≡ None
  pub steps : step s.store es ≡ Gives (Ran t.store fs)
  pub unknown : t.unknown ≡ left_unknown s.unknown s.store es

pub goes_on_quietly : (m : Module) (s : State) (es : List Entry) (t : State) (fs : List Entry) → quiet_step m s es ≡ Going t fs → GoesOnQuietly m s es t fs
goes_on_quietly m s es t fs e = by (first_held (tests m s es)) refl e
  where
    by : (o : Option Test) → first_held (tests m s es) ≡ o → stopped_or o (came_to (spent s es) (step s.store es)) ≡ Going t fs → GoesOnQuietly m s es t fs
    by (Some x) h e = absurd (let k = e in cc)
    by None h e = let r = ran (spent s es) (step s.store es) t fs e in record { none_held = h; steps = r.0; unknown = r.1 }

-- ---- a step that ends the call ----

pub record FinishesQuietly (m : Module) (s : State) (es : List Entry) (t : State) : Type 0 where
  pub values : List Val
  pub rest : List Entry
  pub none_held : first_held (tests m s es) ≡ None
  pub ends : step s.store es ≡ Gives (EndsCall values t.store rest)
  pub unknown : t.unknown ≡ left_unknown s.unknown s.store es

abbrev ended_of : List Val → List Entry → Stage → Outcome Next
ended_of vs gs (Finished s) = Gives (EndsCall vs s.store gs)
ended_of vs gs _ = Traps

ended : (m : Module) (s : State) (es : List Entry) (t : State) (o : Outcome Next) → first_held (tests m s es) ≡ None → step s.store es ≡ o → came_to (spent s es) o ≡ Finished t → FinishesQuietly m s es t
ended m s es t Traps n is e = absurd (let k = e in cc)
ended m s es t IllTyped n is e = absurd (let k = e in cc)
ended m s es t (Gives (Ran x gs)) n is e = absurd (let k = e in cc)
ended m s es t (Gives (CallsOwn pair ty vs x gs)) n is e = absurd (let k = e in cc)
ended m s es t (Gives (WaitsGrowth g size count x gs)) n is e = absurd (let k = e in cc)
ended m s es t (Gives (CallsPlaceholder slot vs x gs)) n is e = absurd (let k = e in cc)
ended m s es t (Gives (EndsCall vs x gs)) n is e = record { values = vs; rest = gs; none_held = n; ends = is ∙ ap (ended_of vs gs) e; unknown = sym (ap unknown_of e) }

pub finishes_quietly : (m : Module) (s : State) (es : List Entry) (t : State) → quiet_step m s es ≡ Finished t → FinishesQuietly m s es t
finishes_quietly m s es t e = by (first_held (tests m s es)) refl e
  where
    by : (o : Option Test) → first_held (tests m s es) ≡ o → stopped_or o (came_to (spent s es) (step s.store es)) ≡ Finished t → FinishesQuietly m s es t
    by (Some x) h e = absurd (let k = e in cc)
    by None h e = ended m s es t (step s.store es) h refl e
