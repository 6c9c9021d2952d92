-- The meaning of the result of a call, which is that of the reading function.
use Rattle.base_lists.proofs.Common.{◌≡◌, ℕ, List, Bool, true, false, Some, Result, Ok, Err, IfOk, IsTrue, ◌⊎◌, inl, inr, ⊎_elim, refl, sym, ap, ◌∙◌, subst, IfErr, ◌↔◌}
use Rattle.wasm_bytes.specs.Prelude.{IsBytes}
use Rattle.wasm_tree_spec.specs.Prelude.{Module, IsBounded, memory_zero_funcs}
use Rattle.wasm_read_spec.specs.declared.fault.ReadFault.{ReadFault}
use Rattle.wasm_read_spec.specs.declared.fault.ReadFault.TheVariants.{NoMemory, NotModule, Malformed, MalformedBody, Unsupported, Limit}
use Rattle.wasm_read_spec.specs.Prelude.{Spells, Within, read_at, read_fault, Cause}
use Rattle.wasm_read_spec.specs.Contents.{FileFails, FileGivesAll, fault_of}
use Rattle.wasm_read_spec.proofs.FileLaws.{told}
use Rattle.wasm_read.specs.Told.{Told}

fault_is : {A : Type 0} (e : ReadFault) (r : Result A ReadFault) → FileFails e r → (e ≡ NoMemory) ⊎ (r ≡ Err e)
fault_is NoMemory r h = inl refl
fault_is NotModule r h = inr h
fault_is (Malformed s) r h = inr h
fault_is (MalformedBody f) r h = inr h
fault_is (Unsupported s f) r h = inr h
fault_is (Limit w) r h = inr h

-- The lemmas below use the law that a tree is read exactly if it is encoded and within the limits.
module _ (files : (many : Bool) (bytes : List ℕ) (m : Module) → IsBytes bytes → (read_at many bytes ≡ Ok m) ↔ (Spells bytes m many × Within bytes many)) (many : Bool) (bytes : List ℕ) (small : IsBytes bytes) where
  pub call_found : (r : Result Module ReadFault) → FileGivesAll r (read_at many bytes) → IfOk r (λ m. Spells bytes m many × Within bytes many)
  call_found (Ok m) g = (files many bytes m small).0 g
  call_found (Err e) g = tt

  pub call_only : (r : Result Module ReadFault) → FileGivesAll r (read_at many bytes) → (m : Module) → Spells bytes m many → Within bytes many → (r ≡ Ok m) ⊎ (r ≡ Err NoMemory)
  call_only (Ok q) g m h k = let e = sym g ∙ (files many bytes m small).1 (h, k) in inl e
  call_only (Err e) g m h k = ⊎_elim (λ n. inr (ap Err n)) (λ n. absurd (let t = sym n ∙ (files many bytes m small).1 (h, k) in cc)) (fault_is e (read_at many bytes) g)

module _ (many : Bool) (bytes : List ℕ) where
  pub call_fault : (r : Result Module ReadFault) → FileGivesAll r (read_at many bytes) → IfErr r (λ e. (e ≡ NoMemory) ⊎ (read_fault bytes many ≡ Some e))
  call_fault (Ok q) g = tt
  call_fault (Err e) g = ⊎_elim inl (λ n. inr (ap fault_of n)) (fault_is e (read_at many bytes) g)

  pub call_first : (r : Result Module ReadFault) → FileGivesAll r (read_at many bytes) → (e : ReadFault) → read_fault bytes many ≡ Some e → (r ≡ Err e) ⊎ (r ≡ Err NoMemory)
  call_first (Ok q) g e h = absurd (let t = sym g ∙ told (read_at many bytes) e h in cc)
  call_first (Err w) g e h = ⊎_elim (λ n. inr (ap Err n)) (λ n. inl (sym n ∙ told (read_at many bytes) e h)) (fault_is w (read_at many bytes) g)

-- ---- further properties of a tree that is found

pub found_bounded : ((many : Bool) (bytes : List ℕ) (m : Module) → Spells bytes m many → Within bytes many → IsBounded m) →
    (bytes : List ℕ) (r : Result Module ReadFault) → IfOk r (λ m. Spells bytes m false × Within bytes false) → IfOk r (λ m. IsBounded m)
found_bounded law bytes (Ok m) h = law false bytes m h.0 h.1
found_bounded law bytes (Err e) h = tt

pub found_zero : ((bytes : List ℕ) (m : Module) → Spells bytes m false → memory_zero_funcs m.funcs ≡ true) →
    (bytes : List ℕ) (r : Result Module ReadFault) → IfOk r (λ m. Spells bytes m false × Within bytes false) → IfOk r (λ m. IsTrue (memory_zero_funcs m.funcs))
found_zero law bytes (Ok m) h = law bytes m h.0
found_zero law bytes (Err e) h = tt

-- A fault is returned exactly if the bytes have its cause, except if memory ran out.
pub told_by : (bytes : List ℕ) (r : Result Module ReadFault) → IsBytes bytes → ((bytes : List ℕ) (many : Bool) (e : ReadFault) → IsBytes bytes → (read_fault bytes many ≡ Some e) ↔ Cause bytes many e) →
    FileGivesAll r (read_at false bytes) → (e : ReadFault) → (e ≡ NoMemory → ⊥) → Told r e (Cause bytes false e)
told_by bytes r small law gives e some = (
  λ h. ⊎_elim (λ none. absurd (some none)) (λ f. (law bytes false e small).0 f) (of_err r h (call_fault false bytes r gives)),
  λ h. call_first false bytes r gives e ((law bytes false e small).1 h),
)
  where
    of_err : (q : Result Module ReadFault) → q ≡ Err e → IfErr q (λ w. (w ≡ NoMemory) ⊎ (read_fault bytes false ≡ Some w)) → (e ≡ NoMemory) ⊎ (read_fault bytes false ≡ Some e)
    of_err (Ok m) h k = cc
    of_err (Err w) h k = let same : w ≡ e = cc in subst (λ z. (z ≡ NoMemory) ⊎ (read_fault bytes false ≡ Some z)) same k
