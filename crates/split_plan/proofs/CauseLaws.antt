-- The first fault is the one that has its cause.
use Rattle.base_lists.proofs.Common.{◌≡◌, ℕ, ◌≤◌, List, [], ◌∷◌, ◌++◌, length, Bool, true, false, cond, ◌⊎◌, inl, inr, ⊎_elim, Option, Some, None, refl, sym, ap, ◌∙◌, subst, arith, Result, Ok, Err, IfErr, IsOk, list_any}
use Rattle.base_lists.proofs.Every.{every_with}
use Rattle.base_lists.specs.Every.{Every}
use Rattle.base_lists.specs.Options.{first_given}
use Rattle.std.specs.Option.{option_or}
use Rattle.wasm_tree_spec.specs.Prelude.{Module}
use Rattle.wasm_names.specs.declared.func_name.FuncName.{FuncName}
use Rattle.split_plan.specs.declared.fault.PlanFault.{PlanFault}
use Rattle.split_plan.specs.declared.fault.PlanFault.TheVariants.{NoSuchFunction, AmbiguousFunction, KeptAndSplit, NoMemory}
use Rattle.split_plan.specs.declared.plans.Plan.{Plan}
use Rattle.split_plan.specs.NamedFunctions.{entries_with_name, exported_among, function_of, word_fault, names_func}
use Rattle.split_plan.specs.PlannedMoves.{kept_fault, words_of, plan_fault}
use Rattle.split_plan.specs.Causes.{NamesFunction, NamesNone, IsShared, IsNamedInKeep, PlanCause, FaultsHaveCauses, PlanFaultTold}

option_or_twice : {A : Type 0} (a b c d : Option A) → d ≡ option_or b c → option_or a d ≡ option_or (option_or a b) c
option_or_twice (Some x) b c d e = refl
option_or_twice None b c d e = e

-- An option that is one of two holds what the first holds, or what the second holds where the first
-- is none.
either : {A : Type 0} (a b : Option A) (y : A) → option_or a b ≡ Some y → (a ≡ Some y) ⊎ ((a ≡ None) × (b ≡ Some y))
either (Some x) b y h = inl h
either None b y h = inr (refl, h)

-- ---- the first that is given

-- The first element for which the function gives this value, with the elements before it, for which
-- the function gives nothing.
abbrev First : {A B : Type 0} → (A → Option B) → List A → B → Type 0
First {A} f xs y = (front : List A) × (x : A) × (back : List A) × (xs ≡ front ++ x ∷ back) × Every (λ z. f z ≡ None) front × (f x ≡ Some y)

module _ {A B : Type 0} (f : A → Option B) where
  first_at : (xs : List A) (y : B) → first_given f xs ≡ Some y → First f xs y
  first_at [] y h = cc
  first_at (x ∷ xs) y h = split (f x) refl (first_at xs y) h
    where
      split : (o : Option B) → f x ≡ o → (first_given f xs ≡ Some y → First f xs y) → option_or (f x) (first_given f xs) ≡ Some y → First f (x ∷ xs) y
      split (Some z) e later k = let same : z ≡ y = (let t = rw e at k in cc) in ([], x, xs, refl, tt, e ∙ ap Some same)
      split None e later k = let t = later (rw e at k) in (x ∷ t.0, t.1, t.2, ap (λ ys. x ∷ ys) t.3, (e, t.4), t.5)

  at_first : (front : List A) (x : A) (back : List A) (y : B) → Every (λ z. f z ≡ None) front → f x ≡ Some y → first_given f (front ++ x ∷ back) ≡ Some y
  at_first [] x back y none e = rw e refl
  at_first (z ∷ front) x back y none e = rw none.0 (at_first front x back y none.1 e)

  all_none : (xs : List A) → first_given f xs ≡ None → Every (λ z. f z ≡ None) xs
  all_none [] h = tt
  all_none (x ∷ xs) h = split (f x) refl h (all_none xs)
    where
      split : (o : Option B) → f x ≡ o → option_or (f x) (first_given f xs) ≡ None → (first_given f xs ≡ None → Every (λ z. f z ≡ None) xs) → Every (λ z. f z ≡ None) (x ∷ xs)
      split (Some z) e k later = absurd (let t = rw e at k in cc)
      split None e k later = (e, later (rw e at k))

  none_all : (xs : List A) → Every (λ z. f z ≡ None) xs → first_given f xs ≡ None
  none_all [] h = refl
  none_all (x ∷ xs) h = rw h.0 (none_all xs h.1)

  in_two : (xs ys : List A) → first_given f (xs ++ ys) ≡ option_or (first_given f xs) (first_given f ys)
  in_two [] ys = refl
  in_two (x ∷ xs) ys = option_or_twice (f x) (first_given f xs) (first_given f ys) (first_given f (xs ++ ys)) (in_two xs ys)

-- ---- a word

module _ (m : Module) (names : List FuncName) where
  right_word : (word : List ℕ) → word_fault m names word ≡ None → NamesFunction m names word
  right_word word = split (entries_with_name m names word) (exported_among m m.exports word) refl refl
    where
      split : (fs : List ℕ) (exported : Option ℕ) → entries_with_name m names word ≡ fs → exported_among m m.exports word ≡ exported → word_fault m names word ≡ None → NamesFunction m names word
      split [] None b x h = absurd (let t = rw (b, x) at h in cc)
      split [] (Some func) b x h = (func, rw (b, x) refl)
      split (func ∷ []) exported b x h = (func, rw b refl)
      split (func ∷ other ∷ more) exported b x h = absurd (let t = rw b at h in cc)

  word_right : (word : List ℕ) → NamesFunction m names word → word_fault m names word ≡ None
  word_right word = split (entries_with_name m names word) (exported_among m m.exports word) refl refl
    where
      split : (fs : List ℕ) (exported : Option ℕ) → entries_with_name m names word ≡ fs → exported_among m m.exports word ≡ exported → NamesFunction m names word → word_fault m names word ≡ None
      split [] None b x h = absurd (let t = rw (b, x) at h.1 in cc)
      split [] (Some func) b x h = rw (b, x) refl
      split (func ∷ []) exported b x h = rw b refl
      split (func ∷ other ∷ more) exported b x h = absurd (let t = rw b at h.1 in cc)

  -- A fault of a word says that the word names no function, or that several functions share it.
  abbrev WordFault : List ℕ → PlanFault → Type 0
  WordFault word e = ((e ≡ NoSuchFunction word) × NamesNone m names word) ⊎ ((e ≡ AmbiguousFunction word) × IsShared m names word)

  word_at_fault : (word : List ℕ) (e : PlanFault) → word_fault m names word ≡ Some e → WordFault word e
  word_at_fault word e = split (entries_with_name m names word) (exported_among m m.exports word) refl refl
    where
      split : (fs : List ℕ) (exported : Option ℕ) → entries_with_name m names word ≡ fs → exported_among m m.exports word ≡ exported → word_fault m names word ≡ Some e → WordFault word e
      split [] None b x h = let same : NoSuchFunction word ≡ e = (let t = rw (b, x) at h in cc) in inl (sym same, (b, x))
      split [] (Some func) b x h = absurd (let t = rw (b, x) at h in cc)
      split (func ∷ []) exported b x h = absurd (let t = rw b at h in cc)
      split (func ∷ other ∷ more) exported b x h = let same : AmbiguousFunction word ≡ e = (let t = rw b at h in cc) in inr (sym same, rw b (omega arith))

  none_at_fault : (word : List ℕ) → NamesNone m names word → word_fault m names word ≡ Some (NoSuchFunction word)
  none_at_fault word h = rw (h.0, h.1) refl

  shared_at_fault : (word : List ℕ) → IsShared m names word → word_fault m names word ≡ Some (AmbiguousFunction word)
  shared_at_fault word h = split (entries_with_name m names word) refl h
    where
      split : (fs : List ℕ) → entries_with_name m names word ≡ fs → 2 ≤ length fs → word_fault m names word ≡ Some (AmbiguousFunction word)
      split [] b le = absurd (omega arith)
      split (func ∷ []) b le = absurd (omega arith)
      split (func ∷ other ∷ more) b le = rw b refl

  -- ---- a word whose function is kept

  abbrev keeps : List (List ℕ) → List ℕ → Option PlanFault
  keeps keep word = kept_fault (λ func. list_any (names_func m names func) keep) (function_of m names word) word

  kept_at_fault : (keep : List (List ℕ)) (word : List ℕ) → IsNamedInKeep m names keep word → keeps keep word ≡ Some (KeptAndSplit word)
  kept_at_fault keep word h = rw (h.1, h.2) refl

  at_fault_kept : (keep : List (List ℕ)) (word : List ℕ) (e : PlanFault) → keeps keep word ≡ Some e → (e ≡ KeptAndSplit word) × IsNamedInKeep m names keep word
  at_fault_kept keep word e = split (function_of m names word) refl
    where
      split : (o : Option ℕ) → function_of m names word ≡ o → kept_fault (λ func. list_any (names_func m names func) keep) o word ≡ Some e → (e ≡ KeptAndSplit word) × IsNamedInKeep m names keep word
      split None is h = cc
      split (Some func) is h = by_mark (list_any (names_func m names func) keep) refl h
        where
          by_mark : (b : Bool) → list_any (names_func m names func) keep ≡ b → cond b (Some (KeptAndSplit word)) None ≡ Some e → (e ≡ KeptAndSplit word) × IsNamedInKeep m names keep word
          by_mark true k t = let same : KeptAndSplit word ≡ e = cc in (sym same, (func, is, k))
          by_mark false k t = cc

  not_kept : (keep : List (List ℕ)) (word : List ℕ) → keeps keep word ≡ None → IsNamedInKeep m names keep word → ⊥
  not_kept keep word h k = let bad = sym h ∙ kept_at_fault keep word k in cc

  kept_not : (keep : List (List ℕ)) (word : List ℕ) → (IsNamedInKeep m names keep word → ⊥) → keeps keep word ≡ None
  kept_not keep word never = split (keeps keep word) refl
    where
      split : (o : Option PlanFault) → keeps keep word ≡ o → keeps keep word ≡ None
      split None e = e
      split (Some f) e = absurd (never (at_fault_kept keep word f e).1)

  -- ---- the first fault

  module _ (split keep : Option (List (List ℕ))) where
    abbrev all_words : List (List ℕ)
    all_words = words_of split ++ words_of keep

    abbrev last_fault : Option PlanFault
    last_fault = first_given (keeps (words_of keep)) (words_of split)

    -- The faults of single words are reported before the fault that a function is both kept and
    -- split.
    in_order : plan_fault m names split keep ≡ option_or (first_given (word_fault m names) all_words) last_fault
    in_order =
        option_or_twice (first_given (word_fault m names) (words_of split)) (first_given (word_fault m names) (words_of keep)) last_fault _ refl
        ∙ ap (λ o. option_or o last_fault) (sym (in_two (word_fault m names) (words_of split) (words_of keep)))

    word_cause : (e : PlanFault) → first_given (word_fault m names) all_words ≡ Some e → PlanCause m names split keep e
    word_cause e h =
        let t = first_at (word_fault m names) all_words e h in
        let right = every_with _ _ t.0 right_word t.4 in
        ⊎_elim
        (λ k. subst (PlanCause m names split keep) (sym k.0) (t.0, t.2, t.3, right, k.1))
        (λ k. subst (PlanCause m names split keep) (sym k.0) (t.0, t.2, t.3, right, k.1))
        (word_at_fault t.1 e t.5)

    kept_cause : (e : PlanFault) → first_given (word_fault m names) all_words ≡ None → last_fault ≡ Some e → PlanCause m names split keep e
    kept_cause e none h =
        let t = first_at (keeps (words_of keep)) (words_of split) e h in
        let k = at_fault_kept (words_of keep) t.1 e t.5 in
        subst (PlanCause m names split keep) (sym k.0) (every_with _ _ all_words right_word (all_none (word_fault m names) all_words none), (t.0, t.2, t.3, every_with _ _ t.0 (not_kept (words_of keep)) t.4, k.1))

    causes : (e : PlanFault) → plan_fault m names split keep ≡ Some e → PlanCause m names split keep e
    causes e h = ⊎_elim (word_cause e) (λ k. kept_cause e k.0 k.1) (either (first_given (word_fault m names) all_words) last_fault e (sym in_order ∙ h))

    word_faults : (word : List ℕ) (e : PlanFault) (front back : List (List ℕ)) → all_words ≡ front ++ word ∷ back → Every (NamesFunction m names) front → word_fault m names word ≡ Some e → plan_fault m names split keep ≡ Some e
    word_faults word e front back is right h =
        let first = ap (first_given (word_fault m names)) is ∙ at_first (word_fault m names) front word back e (every_with _ _ front word_right right) h in
        in_order ∙ ap (λ o. option_or o last_fault) first

    faults : (e : PlanFault) → PlanCause m names split keep e → plan_fault m names split keep ≡ Some e
    faults (NoSuchFunction word) h = word_faults word (NoSuchFunction word) h.0 h.1 h.2 h.3 (none_at_fault word h.4)
    faults (AmbiguousFunction word) h = word_faults word (AmbiguousFunction word) h.0 h.1 h.2 h.3 (shared_at_fault word h.4)
    faults (KeptAndSplit word) h =
        let none = none_all (word_fault m names) all_words (every_with _ _ all_words word_right h.0) in
        let t = h.1 in
        let kept = ap (first_given (keeps (words_of keep))) t.2 ∙ at_first (keeps (words_of keep)) t.0 word t.1 (KeptAndSplit word) (every_with _ _ t.0 (kept_not (words_of keep)) t.3) (kept_at_fault (words_of keep) word t.4) in
        in_order ∙ ap (λ o. option_or o last_fault) none ∙ kept
    faults NoMemory h = absurd h

pub faults_have_causes : FaultsHaveCauses
faults_have_causes m names split keep e = (causes m names split keep e, faults m names split keep e)

-- ---- a call

err_of : (r : Result Plan PlanFault) (o : Option PlanFault) (e : PlanFault) → IfErr r (λ w. (w ≡ NoMemory) ⊎ (o ≡ Some w)) → r ≡ Err e → (e ≡ NoMemory) ⊎ (o ≡ Some e)
err_of (Ok p) o e h k = cc
err_of (Err w) o e h k = let same : w ≡ e = cc in subst (λ z. (z ≡ NoMemory) ⊎ (o ≡ Some z)) same h

of_err : (r : Result Plan PlanFault) (o : Option PlanFault) (e : PlanFault) → (IsOk r → o ≡ None) → IfErr r (λ w. (w ≡ NoMemory) ⊎ (o ≡ Some w)) → o ≡ Some e → (r ≡ Err e) ⊎ (r ≡ Err NoMemory)
of_err (Ok p) o e none h k = let bad = sym (none refl) ∙ k in cc
of_err (Err w) o e none h k = ⊎_elim (λ out. inr (ap Err out)) (λ is. let same : w ≡ e = (let both = sym is ∙ k in cc) in inl (ap Err same)) h

pub told_by : FaultsHaveCauses → (m : Module) (names : List FuncName) (split keep : Option (List (List ℕ))) (r : Result Plan PlanFault) → (IsOk r → plan_fault m names split keep ≡ None) → IfErr r (λ w. (w ≡ NoMemory) ⊎ (plan_fault m names split keep ≡ Some w)) →
    (e : PlanFault) → (e ≡ NoMemory → ⊥) → PlanFaultTold r e (PlanCause m names split keep e)
told_by law m names split keep r none fault e some =
    (λ h. ⊎_elim (λ out. absurd (some out)) (λ f. (law m names split keep e).0 f) (err_of r (plan_fault m names split keep) e fault h), λ h. of_err r (plan_fault m names split keep) e none fault ((law m names split keep e).1 h))
