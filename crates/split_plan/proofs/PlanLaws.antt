-- The plan and its first fault are computed correctly from a table of names.
use Rattle.base_lists.proofs.Common.{◌≡◌, ℕ, ◌<◌, List, [], ◌∷◌, length, map, Bool, true, false, ◌&&◌, ◌⊎◌, inl, inr, ⊎_elim, Option, Some, None, refl, sym, ap, ◌∙◌, arith, slice_get, ◌==◌, not, find, list_any, option_map_or, bytes_eq, ltb-true, length-map, cond_is, right_true, kept_is}
use Rattle.base_lists.proofs.Common.{option_map_is, map_from}
use Rattle.std.proofs.Common.{filter, length-append}
use Rattle.std.specs.Prelude.{unwrap_or}
use Rattle.base_lists.specs.Options.{first_given}
use Rattle.std.specs.Option.{option_or}
use Rattle.wasm_tree_spec.specs.Prelude.{Export, Func, Module, imported_funcs, funcs_of, index_of_export}
use Rattle.wasm_names.specs.declared.func_name.FuncName.{FuncName}
use Rattle.split_plan.specs.declared.fault.PlanFault.{PlanFault}
use Rattle.split_plan.specs.declared.fault.PlanFault.TheVariants.{NoMemory}
use Rattle.split_plan.specs.declared.named.Named.{Named}
use Rattle.split_plan.specs.NamedFunctions.{is_defined, is_defined_export, entries_with_name, exported_among, one_of, function_of, word_fault, names_func}
use Rattle.split_plan.specs.NameTable.{AreMarks, entry_of, func_in, fault_in, enters_func, has_wanted_mark}
use Rattle.split_plan.specs.PlannedMoves.{kept_fault, words_of, plan_fault, is_wanted, plan_for, plan_of}
use Rattle.split_plan.proofs.Tables.{entered_func, entered_fault}
use Rattle.split_plan.proofs.Chosen.{plan_alike}

-- Function extensionality: functions with equal values are equal.
same_function : {A B : Type 0} {f g : A → B} → ((x : A) → f x ≡ g x) → f ≡ g
same_function h = λ i. λ x. h x i

or_some : {A : Type 0} (a b : Option A) (x : A) → a ≡ Some x → option_or a b ≡ Some x
or_some a b x e = ap (λ o. option_or o b) e

or_none : {A : Type 0} (a b r : Option A) → a ≡ None → b ≡ r → option_or a b ≡ r
or_none a b r e h = ap (λ o. option_or o b) e ∙ h

-- ---- what a word names is defined

found_passes : {A : Type 0} (test : A → Bool) (xs : List A) (x : A) → find test xs ≡ Some x → test x ≡ true
found_passes test [] x h = cc
found_passes test (y ∷ ys) x h = ⊎_elim
    (λ k. (let same : y ≡ x = (let e = k.1 in cc) in ap test (sym same) ∙ k.0))
    (λ k. found_passes test ys x k.1)
    (cond_is (test y) _ _ _ h)

bearer_defined : (m : Module) (names : List FuncName) (word : List ℕ) (func : ℕ) → slice_get (entries_with_name m names word) 0 ≡ Some func → is_defined m func ≡ true
bearer_defined m names word func h =
    let test = λ (n : FuncName). bytes_eq n.name word && is_defined m n.index in
    let n = map_from (λ (n : FuncName). n.index) (filter test names) 0 func h in
    let kept = (kept_is test names 0 n.0 n.1).0 in
    ap (is_defined m) (sym n.2) ∙ right_true (bytes_eq n.0.name word) (is_defined m n.0.index) kept

export_defined : (m : Module) (exports : List Export) (word : List ℕ) (func : ℕ) → exported_among m exports word ≡ Some func → is_defined m func ≡ true
export_defined m exports word func h =
    let test = λ (e : Export). bytes_eq e.name word && is_defined_export m e in
    let e = option_map_is (λ (e : Export). index_of_export e.desc) (find test exports) func h in
    let passes = right_true (bytes_eq e.0.name word) (is_defined_export m e.0) (found_passes test exports e.0 e.1) in
    ap (is_defined m) (sym e.2) ∙ right_true _ (is_defined m (index_of_export e.0.desc)) passes

named_defined : (m : Module) (names : List FuncName) (word : List ℕ) (func : ℕ) → function_of m names word ≡ Some func → is_defined m func ≡ true
named_defined m names word func h = split (entries_with_name m names word) refl h
  where
    split : (fs : List ℕ) → entries_with_name m names word ≡ fs → one_of fs (exported_among m m.exports word) ≡ Some func → is_defined m func ≡ true
    split [] e k = export_defined m m.exports word func k
    split (f ∷ []) e k = bearer_defined m names word func (rw e k)
    split (f ∷ g ∷ more) e k = cc

pub defined_below : (m : Module) (func : ℕ) → is_defined m func ≡ true → func < length (funcs_of m)
defined_below m func h = ltb-true func (length (funcs_of m)) (right_true _ _ h)

-- ---- what is looked up is what is there

module _ (m : Module) (names : List FuncName) (held : List ℕ → Option Named) (told : (word : List ℕ) → held word ≡ entry_of m names word) where
  func_told : (word : List ℕ) → func_in (held word) ≡ function_of m names word
  func_told word = ap func_in (told word) ∙ entered_func (entries_with_name m names word) (exported_among m m.exports word)

  faults_told : (words : List (List ℕ)) → first_given (λ word. fault_in (held word) word) words ≡ first_given (word_fault m names) words
  faults_told words =
      ap (λ (f : List ℕ → Option PlanFault). first_given f words) (same_function (λ word. ap (λ o. fault_in o word) (told word) ∙ entered_fault (entries_with_name m names word) (exported_among m m.exports word) word))

  enters_told : (func : ℕ) (words : List (List ℕ)) → list_any (enters_func held func) words ≡ list_any (names_func m names func) words
  enters_told func words =
      ap (λ (p : List ℕ → Bool). list_any p words) (same_function (λ word. ap (λ o. option_map_or (λ n. n == func) o false) (func_told word)))

  mark_told : (words : List (List ℕ)) (marks : List Bool) → AreMarks held words (length (funcs_of m)) marks → (func : ℕ) → func < length (funcs_of m) → unwrap_or (slice_get marks func) false ≡ list_any (names_func m names func) words
  mark_told words marks are func lt = ap (λ o. unwrap_or o false) (are.right func lt) ∙ enters_told func words

  kept_told : (keep words : List (List ℕ)) (marks : List Bool) → AreMarks held keep (length (funcs_of m)) marks →
      first_given (λ word. kept_fault (λ func. unwrap_or (slice_get marks func) false) (func_in (held word)) word) words ≡ first_given (λ word. kept_fault (λ func. list_any (names_func m names func) keep) (function_of m names word) word) words
  kept_told keep words marks are = ap (λ (f : List ℕ → Option PlanFault). first_given f words) (same_function (λ word. ap (λ o. kept_fault (λ func. unwrap_or (slice_get marks func) false) o word) (func_told word) ∙ alike word (function_of m names word) refl))
    where
      alike : (word : List ℕ) (o : Option ℕ) → function_of m names word ≡ o → kept_fault (λ func. unwrap_or (slice_get marks func) false) o word ≡ kept_fault (λ func. list_any (names_func m names func) keep) o word
      alike word None e = refl
      alike word (Some func) e = rw (mark_told keep marks are func (defined_below m func (named_defined m names word func e))) refl

  -- ---- the plan

  wanted_told : (split keep : Option (List (List ℕ))) (wanted kept : List Bool) → AreMarks held (words_of split) (length (funcs_of m)) wanted → AreMarks held (words_of keep) (length (funcs_of m)) kept →
      (func : ℕ) → func < length (funcs_of m) → has_wanted_mark split wanted kept func ≡ is_wanted m names split keep func
  wanted_told (Some words) keep wanted kept are other func lt = mark_told words wanted are func lt
  wanted_told None keep wanted kept are other func lt = ap not (mark_told (words_of keep) kept other func lt)

  pub plan_told : (split keep : Option (List (List ℕ))) (wanted kept : List Bool) → AreMarks held (words_of split) (length (funcs_of m)) wanted → AreMarks held (words_of keep) (length (funcs_of m)) kept →
      plan_for m (has_wanted_mark split wanted kept) ≡ plan_of m names split keep
  plan_told split keep wanted kept are other =
      plan_alike m (has_wanted_mark split wanted kept) (is_wanted m names split keep) (λ func le lt. wanted_told split keep wanted kept are other func (omega (arith, lt, length-append (imported_funcs m.imports) (map (λ (f : Func). f.ty) m.funcs), length-map m.funcs (λ (f : Func). f.ty))))

  -- ---- its first fault

  module _ (split keep : Option (List (List ℕ))) where
    abbrev Fault : PlanFault → Type 0
    Fault e = (e ≡ NoMemory) ⊎ (plan_fault m names split keep ≡ Some e)

    pub split_fault : (e : PlanFault) → (e ≡ NoMemory) ⊎ (first_given (λ word. fault_in (held word) word) (words_of split) ≡ Some e) → Fault e
    split_fault e h = ⊎_elim (λ k. inl k) (λ k. inr (or_some _ _ e (sym (faults_told (words_of split)) ∙ k))) h

    pub keep_fault : (e : PlanFault) → first_given (λ word. fault_in (held word) word) (words_of split) ≡ None → (e ≡ NoMemory) ⊎ (first_given (λ word. fault_in (held word) word) (words_of keep) ≡ Some e) → Fault e
    keep_fault e none h = ⊎_elim (λ k. inl k) (λ k. inr (or_none _ _ (Some e) (sym (faults_told (words_of split)) ∙ none) (or_some _ _ e (sym (faults_told (words_of keep)) ∙ k)))) h

    module _ (kept : List Bool) (are : AreMarks held (words_of keep) (length (funcs_of m)) kept) where
      abbrev kept_first : Option PlanFault
      kept_first = first_given (λ word. kept_fault (λ func. unwrap_or (slice_get kept func) false) (func_in (held word)) word) (words_of split)

      pub both_fault : (e : PlanFault) → first_given (λ word. fault_in (held word) word) (words_of split) ≡ None → first_given (λ word. fault_in (held word) word) (words_of keep) ≡ None → (e ≡ NoMemory) ⊎ (kept_first ≡ Some e) → Fault e
      both_fault e none none_kept h = ⊎_elim (λ k. inl k) (λ k. inr (or_none _ _ (Some e) (sym (faults_told (words_of split)) ∙ none) (or_none _ _ (Some e) (sym (faults_told (words_of keep)) ∙ none_kept) (sym (kept_told (words_of keep) (words_of split) kept are) ∙ k)))) h

      pub no_fault : first_given (λ word. fault_in (held word) word) (words_of split) ≡ None → first_given (λ word. fault_in (held word) word) (words_of keep) ≡ None → kept_first ≡ None → plan_fault m names split keep ≡ None
      no_fault none none_kept h = or_none _ _ None (sym (faults_told (words_of split)) ∙ none) (or_none _ _ None (sym (faults_told (words_of keep)) ∙ none_kept) (sym (kept_told (words_of keep) (words_of split) kept are) ∙ h))
