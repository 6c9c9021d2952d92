-- The steps of loops that read a given number of items.
use Rattle.base_lists.proofs.Common.{◌≡◌, ℕ, suc, ◌+◌, ◌-◌, ◌<◌, List, [], ◌∷◌, ◌++◌, Result, Ok, Err, refl, sym, ap, ◌∙◌, arith, append_assoc}
use Rattle.wasm_bytes.specs.Prelude.{◌>>=◌}
use Rattle.wasm_read_spec.specs.declared.fault.Fault.{Fault}
use Rattle.wasm_read_spec.specs.declared.fault.Fault.TheVariants as fault
use Rattle.wasm_read_spec.specs.declared.fault.ReadFault.{ReadFault}
use Rattle.wasm_read_spec.specs.declared.fault.ReadFault.TheVariants.{NoMemory, NotModule, Malformed, MalformedBody, Unsupported, Limit}
use Rattle.wasm_read_spec.specs.Prelude.{Fails, with_front}
use Rattle.wasm_read_spec.specs.Reading.{each_from}
use Rattle.wasm_read_spec.specs.Contents.{FileFails}

pub front_none : {A E : Type 0} (r : Result (List A × List ℕ) E) → with_front [] r ≡ r
front_none (Ok r) = refl
front_none (Err e) = refl

pub front_front : {A E : Type 0} (a b : List A) (r : Result (List A × List ℕ) E) → with_front a (with_front b r) ≡ with_front (a ++ b) r
front_front a b (Ok r) = ap (λ xs. Ok (xs, r.1)) (sym (append_assoc a b r.0))
front_front a b (Err e) = refl

one : {A E : Type 0} (x : A) (r : Result (List A × List ℕ) E) → (r >>= λ xs. Ok (x ∷ xs.0, xs.1)) ≡ with_front (x ∷ []) r
one x (Ok r) = refl
one x (Err e) = refl

pub fails_through : {A B : Type 0} (e : Fault) (r : Result A Fault) (f : A → Result B Fault) → Fails e r → Fails e (r >>= f)
fails_through fault.NoMemory r f h = tt
fails_through fault.Malformed r f h = rw h
fails_through fault.Unsupported r f h = rw h
fails_through (fault.Limit w) r f h = rw h

module _ {A E : Type 0} (item : ℕ → List ℕ → Result (A × List ℕ) E) (next : ℕ → A → ℕ) (whole : Result (List A × List ℕ) E) where
  -- An iteration that reads one more item keeps the result of the loop.
  pub each_more : (n i state : ℕ) (items new : List A) (x : A) (bs rest : List ℕ) → i < n → item state bs ≡ Ok (x, rest) → new ≡ items ++ x ∷ [] →
      whole ≡ with_front items (each_from item next (n - i) state bs) → whole ≡ with_front new (each_from item next (n - (i + 1)) (next state x) rest)
  unfolding each_from
  each_more n i state items new x bs rest lt e more h =
      let k : n - i ≡ suc (n - (i + 1)) = omega arith in
      let step : each_from item next (n - i) state bs ≡ with_front (x ∷ []) (each_from item next (n - (i + 1)) (next state x) rest) = rw (k, e) (one x (each_from item next (n - (i + 1)) (next state x) rest)) in
      h ∙ ap (with_front items) step ∙ front_front items (x ∷ []) _ ∙ ap (λ xs. with_front xs (each_from item next (n - (i + 1)) (next state x) rest)) (sym more)

  -- A fault of the next item is the fault of the loop.
  pub each_err : (n i state : ℕ) (items : List A) (bs : List ℕ) (e : E) → i < n → item state bs ≡ Err e → whole ≡ with_front items (each_from item next (n - i) state bs) → whole ≡ Err e
  unfolding each_from
  each_err n i state items bs e lt bad h =
      let k : n - i ≡ suc (n - (i + 1)) = omega arith in
      h ∙ rw (k, bad)

pub each_stop : {A : Type 0} (item : ℕ → List ℕ → Result (A × List ℕ) Fault) (next : ℕ → A → ℕ) (whole : Result (List A × List ℕ) Fault) (n i state : ℕ) (items : List A) (bs : List ℕ) (e : Fault) →
    i < n → Fails e (item state bs) → whole ≡ with_front items (each_from item next (n - i) state bs) → Fails e whole
each_stop item next whole n i state items bs fault.NoMemory lt bad h = tt
each_stop item next whole n i state items bs fault.Malformed lt bad h = each_err item next whole n i state items bs fault.Malformed lt bad h
each_stop item next whole n i state items bs fault.Unsupported lt bad h = each_err item next whole n i state items bs fault.Unsupported lt bad h
each_stop item next whole n i state items bs (fault.Limit w) lt bad h = each_err item next whole n i state items bs (fault.Limit w) lt bad h

pub each_stop_in : {A : Type 0} (item : ℕ → List ℕ → Result (A × List ℕ) ReadFault) (next : ℕ → A → ℕ) (whole : Result (List A × List ℕ) ReadFault) (n i state : ℕ) (items : List A) (bs : List ℕ) (e : ReadFault) →
    i < n → FileFails e (item state bs) → whole ≡ with_front items (each_from item next (n - i) state bs) → FileFails e whole
each_stop_in item next whole n i state items bs NoMemory lt bad h = tt
each_stop_in item next whole n i state items bs NotModule lt bad h = each_err item next whole n i state items bs NotModule lt bad h
each_stop_in item next whole n i state items bs (Malformed s) lt bad h = each_err item next whole n i state items bs (Malformed s) lt bad h
each_stop_in item next whole n i state items bs (MalformedBody f) lt bad h = each_err item next whole n i state items bs (MalformedBody f) lt bad h
each_stop_in item next whole n i state items bs (Unsupported s f) lt bad h = each_err item next whole n i state items bs (Unsupported s f) lt bad h
each_stop_in item next whole n i state items bs (Limit w) lt bad h = each_err item next whole n i state items bs (Limit w) lt bad h
