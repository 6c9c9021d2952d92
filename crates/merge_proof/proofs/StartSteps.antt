-- The sequential run and the run at once take the same steps while a start runs.
use Rattle.base_lists.proofs.Common.{◌≡◌, ◌∙◌, refl, ap, subst, ℕ, ◌<◌, ◌≤◌, List, [], ◌∷◌, ◌++◌, length, Option, Some, None, arith, slice_get, length_rel}
use Rattle.wasm_tree_spec.specs.Prelude.{Space, Functions, Tables, Memories, Globals, ElementSegments, DataSegments, FuncType}
use Rattle.wasm_meaning.specs.Prelude.{Text, Func, Code, Own, Store, Entry, Running, Opening, Waiting, type_of_func, zeros, Part, Environment, ExternalValue, owned_of, base, Event, Asked, Phase, Pending, Closed, Run, Out, tick, IsBottom, GivesNothing, a_frame, a_call, over, AgreeOnFrames, ended}
use Rattle.wasm_meaning.specs.Prelude.{trapped, StartDependsOnlyOnItsFrames}
use Rattle.wasm_meaning.specs.StartFrames.{goes_on}
use Rattle.run_simulation.specs.Prelude.{Pairing, nil, cons, opening, pending, RunRel, OutRel, KeepsOthers, HasNoPartner, EntryByEntry, RelatedTicksAgree, OthersStay}
use Rattle.run_simulation.specs.Related as to
use Rattle.world_simulation.specs.StoreExtension.{Extends, RunExtends}
use Rattle.merge_proof.proofs.ReachedAddresses.{count_upto, is_reached, reaching, reached_at, reached_is, one_to_one}
use Rattle.merge_proof.proofs.ClosedStores.{Sound, own_func, code}
use Rattle.merge_proof.proofs.SideBySideStores.{Beside}
use Rattle.merge_proof.proofs.ExtensionLaws.{ExtensionLaws}

-- ---- the opening of a start ----

abbrev pub nothing_to_nothing : FuncType
nothing_to_nothing = record { params = []; results = [] }

-- The stack entry, and the event, of a call of a function without arguments.
abbrev pub entry_of : Func → Entry
entry_of (Code t i ls c) = Running (record { inst = i; locals = zeros ls; results = t.results; levels = record { values = []; code = c; gives = length t.results; takes = length t.results; back = [] } ∷ [] })
entry_of (Own p t) = Waiting t.results
entry_of f = Waiting []

abbrev pub event_of : Func → Option Event
event_of (Own p t) = Some (Asked p t [])
event_of f = None

pub opened : (env : Environment) (parts : List Part) (p : ℕ) (r : Run) (a : ℕ) (xs : List ℕ) (f : Func) → r.entries ≡ Opening (a ∷ xs) ∷ [] → slice_get r.store.funcs a ≡ Some f → type_of_func f ≡ nothing_to_nothing → Sound env parts p f →
    tick r ≡ (record r { entries = entry_of f ∷ Opening xs ∷ [] }, event_of f)
opened env parts p r a xs f e h ty own_func = rw (e, h, ty)
opened env parts p r a xs f e h ty (code k) = rw (e, h, ty)

pub opened_gives_nothing : (env : Environment) (parts : List Part) (p : ℕ) (f : Func) → type_of_func f ≡ nothing_to_nothing → Sound env parts p f → GivesNothing (entry_of f ∷ [])
opened_gives_nothing env parts p f ty own_func = rw ty a_call
opened_gives_nothing env parts p f ty (code k) = a_frame (ap (λ t. t.results) ty)

-- ---- two runs, compared above a common bottom of the stack ----

abbrev pub over_one : Run → List Entry → Run
over_one r es = record r { entries = es ++ Opening [] ∷ []; phase = Pending [] }

pub opening_bottom : (xs : List ℕ) → IsBottom (Opening xs ∷ [])
opening_bottom xs = record { gives = λ s. refl; traps = refl }

some_above : (es : List Entry) → GivesNothing es → 2 ≤ length (es ++ Opening [] ∷ [])
some_above _ (a_frame e) = omega arith
some_above _ a_call = omega arith
some_above _ (over {es = es} e g) = let l = some_above es g in omega arith

module _ (below : StartDependsOnlyOnItsFrames) (extend : ExtensionLaws) (ticks : RelatedTicksAgree) (others : OthersStay) (env : Environment) (parts : List Part) (allocated : Store) (p : ℕ) where
  abbrev R : Pairing
  R = reaching env parts p

  abbrev RunsRelated : Run → Run → Type 0
  RunsRelated = RunRel R (EntryByEntry R) (EntryByEntry R)

  -- The run at once, r, and the sequential run, u, correspond during a start, which has these
  -- entries on the stack of each.
  pub record Abreast (es fs : List Entry) (r u : Run) : Type 0 where
    pub related : RunsRelated (over_one u fs) (over_one r es)
    pub beside : Beside env parts p allocated u.store r.store
    pub extends : Extends allocated r.store
    pub first_owned : r.owned ≡ owned_of env
    pub second_owned : u.owned ≡ owned_of env

  -- The outcome of a step of both runs: the start continues, is done, or the run has stopped.
  pub data Stepped (cs : List Entry) (view v : List (Text × ExternalValue)) : Out → Out → Type 0 where
    on : {event : Option Event} {r u : Run} (es fs : List Entry) → GivesNothing es → GivesNothing fs → Abreast es fs r u → r.entries ≡ es ++ cs → r.phase ≡ Pending view → u.entries ≡ fs ++ Opening [] ∷ [] → u.phase ≡ Pending v → Stepped cs view v (r, event) (u, event)
    done : {r u : Run} → Abreast [] [] r u → r.entries ≡ cs → r.phase ≡ Pending view → u.entries ≡ Opening [] ∷ [] → u.phase ≡ Pending v → Stepped cs view v (r, None) (u, None)
    stopped : {event : Option Event} {r u : Run} → RunsRelated u r → r.entries ≡ [] → r.phase ≡ Closed → u.entries ≡ [] → u.phase ≡ Closed → Stepped cs view v (r, event) (u, event)

  no_partner : (k : Space) (a : ℕ) → count_upto env parts p k ≤ a → HasNoPartner R k a
  no_partner k a l b h = let r = reached_is env parts p k b a h in omega (arith, r.0, r.1)

  beside_on : {t s t' s' : Store} → Beside env parts p allocated t s → to.StoreRel R t' s' → Extends t t' → Extends s s' → KeepsOthers R s s' → Beside env parts p allocated t' s'
  beside_on h related e f k = record {
    related = related;
    sized = record { funcs = ap length e.funcs ∙ h.sized.funcs; tables = e.table_count ∙ h.sized.tables; mems = e.memory_count ∙ h.sized.mems; globals = e.global_count ∙ h.sized.globals; elems = e.elem_count ∙ h.sized.elems; datas = e.data_count ∙ h.sized.datas };
    sound = λ a g i. h.sound a g (rw e.funcs at i);
    same_funcs = λ a l. rw e.funcs (h.same_funcs a l);
    all_funcs = f.funcs ∙ h.all_funcs;
    untouched = record {
      tables = λ a l. k.tables a (no_partner Tables a l) ∙ h.untouched.tables a l;
      mems = λ a l. k.mems a (no_partner Memories a l) ∙ h.untouched.mems a l;
      globals = λ a l. k.globals a (no_partner Globals a l) ∙ h.untouched.globals a l;
      elems = λ a l. k.elems a (no_partner ElementSegments a (omega arith)) ∙ h.untouched.elems a l;
      datas = λ a l. k.datas a (no_partner DataSegments a (omega arith)) ∙ h.untouched.datas a l;
    };
  }

  abreast_on : {es fs es' fs' : List Entry} {r u r' u' : Run} {e f : Option Event} → Abreast es fs r u → RunsRelated (over_one u' fs') (over_one r' es') → RunExtends r (r', e) → RunExtends u (u', f) → KeepsOthers R r.store r'.store → Abreast es' fs' r' u'
  abreast_on {r = r} {r' = r'} h related kr ku k = record {
    related = related;
    beside = beside_on h.beside related.store ku.store kr.store k;
    extends = extend.transitive allocated r.store r'.store h.extends kr.store;
    first_owned = kr.owned ∙ h.first_owned;
    second_owned = ku.owned ∙ h.second_owned;
  }

  module _ (cs : List Entry) (bottom : IsBottom cs) (view v : List (Text × ExternalValue)) (es fs : List Entry) (g : GivesNothing es) (g' : GivesNothing fs) (r u : Run) (h : Abreast es fs r u) where
    abbrev ds : List Entry
    ds = Opening [] ∷ []

    both_step : (o q : Out) → AgreeOnFrames cs ds (Pending view) (Pending []) r.store.funcs o q → (o' q' : Out) → AgreeOnFrames ds ds (Pending v) (Pending []) u.store.funcs o' q' →
        OutRel R (EntryByEntry R) (EntryByEntry R) q' q → KeepsOthers R r.store q.0.store → RunExtends r o → RunExtends u o' → Stepped cs view v o o'
    both_step _ _ (goes_on rr es' f k) _ _ (goes_on uu fs' f' k') out keeps kr ku = rw (← out.event) (on es' fs' k k' (abreast_on h out.run kr ku keeps) refl refl refl refl)
    both_step _ _ (ended rr f) _ _ (ended uu f') out keeps kr ku = done (abreast_on h out.run kr ku keeps) refl refl refl refl
    both_step _ _ (trapped rr) _ _ (trapped uu) out keeps kr ku = stopped out.run refl refl refl refl
    both_step _ _ (goes_on rr es' f k) _ _ _ out keeps kr ku = absurd (omega (arith, length_rel out.run.entries, some_above es' k))
    both_step _ _ _ _ _ (goes_on uu fs' f' k') out keeps kr ku = absurd (omega (arith, length_rel out.run.entries, some_above fs' k'))
    both_step _ _ _ _ _ _ out keeps kr ku = absurd (omega (arith, length_rel out.run.entries))

    run_is : (r : Run) (es : List Entry) (q : Phase) → r.entries ≡ es → r.phase ≡ q → record r { entries = es; phase = q } ≡ r
    run_is r es q e f = rw (← e, ← f)

    pub step : r.entries ≡ es ++ cs → r.phase ≡ Pending view → u.entries ≡ fs ++ Opening [] ∷ [] → u.phase ≡ Pending v → Stepped cs view v (tick r) (tick u)
    step a b c d =
        let first = below cs ds es (Pending view) (Pending []) r bottom (opening_bottom []) g in
        let second = below ds ds fs (Pending v) (Pending []) u (opening_bottom []) (opening_bottom []) g' in
        both_step (tick r) (tick (over_one r es)) (subst (λ r'. AgreeOnFrames cs ds (Pending view) (Pending []) r.store.funcs (tick r') (tick (over_one r es))) (run_is r (es ++ cs) (Pending view) a b) first)
        (tick u) (tick (over_one u fs)) (subst (λ u'. AgreeOnFrames ds ds (Pending v) (Pending []) u.store.funcs (tick u') (tick (over_one u fs))) (run_is u (fs ++ ds) (Pending v) c d) second)
        (ticks (is_reached env parts p) (one_to_one env parts p) (over_one u fs) (over_one r es) h.related) (others (is_reached env parts p) (one_to_one env parts p) (over_one u fs) (over_one r es) h.related tt).0
        (extend.step r (rw b tt)) (extend.step u (rw d tt))

  -- Both runs call a start.
  module _ (a : ℕ) (xs : List ℕ) (f : Func) (ty : type_of_func f ≡ nothing_to_nothing) (r u : Run) (h : Abreast [] [] r u) (there : slice_get u.store.funcs a ≡ Some f) (low : a < base env parts Functions p) (view v : List (Text × ExternalValue)) where
    sound : Sound env parts p f
    sound = h.beside.sound a f there

    there_at_once : slice_get r.store.funcs a ≡ Some f
    there_at_once = rw (h.beside.all_funcs, ← h.beside.same_funcs a low) there

    abbrev with_start : Run → Run
    with_start r = record r { entries = Opening (a ∷ []) ∷ []; phase = Pending [] }

    about : RunsRelated (with_start u) (with_start r)
    about = record { store = h.related.store; entries = cons (opening (cons (reached_at env parts p Functions a low) nil)) nil; phase = pending nil; shown = h.related.shown; view = h.related.view; owned = h.related.owned; moves = h.related.moves }

    after_opening : OutRel R (EntryByEntry R) (EntryByEntry R) (record (with_start u) { entries = entry_of f ∷ Opening [] ∷ [] }, event_of f) (record (with_start r) { entries = entry_of f ∷ Opening [] ∷ [] }, event_of f)
    after_opening = rw (← opened env parts p (with_start u) a [] f refl there ty sound, ← opened env parts p (with_start r) a [] f refl there_at_once ty sound) (ticks (is_reached env parts p) (one_to_one env parts p) (with_start u) (with_start r) about)

    pub open_both : r.entries ≡ Opening (a ∷ xs) ∷ [] → r.phase ≡ Pending view → u.entries ≡ Opening (a ∷ []) ∷ [] → u.phase ≡ Pending v → Stepped (Opening xs ∷ []) view v (tick r) (tick u)
    open_both e b c d =
        rw (opened env parts p r a xs f e there_at_once ty sound, opened env parts p u a [] f c there ty sound)
        (on (entry_of f ∷ []) (entry_of f ∷ []) (opened_gives_nothing env parts p f ty sound) (opened_gives_nothing env parts p f ty sound)
        (record { related = after_opening.run; beside = h.beside; extends = h.extends; first_owned = h.first_owned; second_owned = h.second_owned }) refl b refl d)
