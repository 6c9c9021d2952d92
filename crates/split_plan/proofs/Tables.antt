-- The loops that fill a table of names, one name or export at a time.
use Rattle.base_lists.proofs.Common.{◌≡◌, ℕ, ◌+◌, ◌-◌, ◌<◌, ◌≤◌, length, drop, get_or, arith, List, [], ◌∷◌, map, Bool, true, false, cond, ◌&&◌, Option, Some, None, refl, sym, ap, ◌∙◌, and-false, at_drop_more, option_map, find, bytes_eq, bytes_eq-Decides}
use Rattle.std.proofs.Common.{filter}
use Rattle.std.proofs.Math.Bool.{and-true}
use Rattle.wasm_tree_spec.specs.Prelude.{Export, Module, index_of_export}
use Rattle.wasm_names.specs.declared.func_name.FuncName.{FuncName}
use Rattle.split_plan.specs.declared.named.Named.{Named}
use Rattle.split_plan.specs.declared.named.Named.TheVariants.{Exported}
use Rattle.split_plan.specs.NamedFunctions.{is_defined, is_defined_export, exported_among, entries_with_name, one_of, fault_of}
use Rattle.split_plan.specs.NameTable.{entered, once_more, func_in, fault_in}

-- A function of the rest of a list from a place on, one step towards the front of the list.
pub at_one_before : {A B : Type 0} (F : List A → B) (xs : List A) (at : ℕ) (x : A) → 0 < at → at ≤ length xs → x ≡ get_or xs (at - 1) x → F (drop (at - 1) xs) ≡ F (x ∷ drop at xs)
at_one_before F xs at x above within is =
    let same : at - 1 + 1 ≡ at = omega arith in
    at_drop_more F xs (at - 1) x (omega arith) ∙ ap (λ y. F (y ∷ drop (at - 1 + 1) xs)) (sym is) ∙ ap (λ n. F (x ∷ drop n xs)) same

-- ---- one more export

module _ (m : Module) (e : Export) (es : List Export) (word : List ℕ) where
  abbrev behind : Option Named
  behind = option_map Exported (exported_among m es word)

  abbrev with_it : Option Named
  with_it = option_map Exported (exported_among m (e ∷ es) word)

  pub export_enters : is_defined_export m e ≡ true → with_it ≡ cond (bytes_eq e.name word) (Some (Exported (index_of_export e.desc))) behind
  export_enters defined = rw (defined, and-true) (split (bytes_eq e.name word))
    where
      split : (b : Bool) → option_map Exported (option_map (λ x. index_of_export x.desc) (cond b (Some e) (find (λ x. bytes_eq x.name word && is_defined_export m x) es))) ≡ cond b (Some (Exported (index_of_export e.desc))) behind
      split true = refl
      split false = refl

  pub export_passes : is_defined_export m e ≡ false → with_it ≡ behind
  export_passes other = rw (other, and-false) refl

-- ---- one more name

one_more : (func : ℕ) (fs : List ℕ) (exported : Option ℕ) → entered (func ∷ fs) exported ≡ once_more func (entered fs exported)
one_more func [] None = refl
one_more func [] (Some other) = refl
one_more func (f ∷ []) exported = refl
one_more func (f ∷ g ∷ fs) exported = refl

module _ (m : Module) (n : FuncName) (ns : List FuncName) (word : List ℕ) (exported : Option ℕ) where
  pub name_enters : is_defined m n.index ≡ true → entered (entries_with_name m (n ∷ ns) word) exported ≡ cond (bytes_eq n.name word) (once_more n.index (entered (entries_with_name m ns word) exported)) (entered (entries_with_name m ns word) exported)
  name_enters defined = rw (defined, and-true) (split (bytes_eq n.name word))
    where
      split : (b : Bool) → entered (map (λ x. x.index) (cond b (n ∷ filter (λ x. bytes_eq x.name word && is_defined m x.index) ns) (filter (λ x. bytes_eq x.name word && is_defined m x.index) ns))) exported ≡
          cond b (once_more n.index (entered (entries_with_name m ns word) exported)) (entered (entries_with_name m ns word) exported)
      split true = one_more n.index (entries_with_name m ns word) exported
      split false = refl

  pub name_passes : is_defined m n.index ≡ false → entered (entries_with_name m (n ∷ ns) word) exported ≡ entered (entries_with_name m ns word) exported
  name_passes other = rw (other, and-false) refl

-- A new entry replaces the former entry of its word and leaves those of other words.
pub put_once_more : (func : ℕ) (new : Named) (name : List ℕ) (held : List ℕ → Option Named) → once_more func (held name) ≡ Some new → (word : List ℕ) → cond (bytes_eq name word) (Some new) (held word) ≡ cond (bytes_eq name word) (once_more func (held word)) (held word)
put_once_more func new name held is word = split (bytes_eq name word) refl
  where
    split : (b : Bool) → bytes_eq name word ≡ b → cond b (Some new) (held word) ≡ cond b (once_more func (held word)) (held word)
    split true e = let same = (bytes_eq-Decides name word).0 e in sym is ∙ ap (λ w. once_more func (held w)) same
    split false e = refl

-- ---- what an entry tells

pub entered_func : (fs : List ℕ) (exported : Option ℕ) → func_in (entered fs exported) ≡ one_of fs exported
entered_func [] None = refl
entered_func [] (Some func) = refl
entered_func (f ∷ []) exported = refl
entered_func (f ∷ g ∷ fs) exported = refl

pub entered_fault : (fs : List ℕ) (exported : Option ℕ) (word : List ℕ) → fault_in (entered fs exported) word ≡ fault_of fs exported word
entered_fault [] None word = refl
entered_fault [] (Some func) word = refl
entered_fault (f ∷ []) exported word = refl
entered_fault (f ∷ g ∷ fs) exported word = refl
