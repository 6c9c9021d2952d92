-- Readers that report the stops of their bytes, and no others, and combinations of them.
use Rattle.base_lists.proofs.Common.{◌≡◌, ℕ, zero, suc, ◌<◌, List, [], ◌∷◌, ◌++◌, length, Result, Ok, Err, Bool, true, false, cond, ◌⊎◌, inl, inr, ⊎_elim, refl, sym, ap, subst, arith, cases_lt, lt-ltb, le-ltb, nat_lt, ◌==◌, ok_pair}
use Rattle.wasm_bytes.specs.declared.cursor.Wrong.{Wrong}
use Rattle.wasm_bytes.specs.Prelude.{Then, Each, ◌>>=◌, IsBytes}
use Rattle.wasm_bytes.proofs.Lists.{small_rest}
use Rattle.wasm_tree_spec.specs.Prelude.{Which, limit}
use Rattle.wasm_read_spec.specs.declared.fault.Fault.{Fault}
use Rattle.wasm_read_spec.specs.declared.fault.Fault.TheVariants.{Malformed, Unsupported, Limit}
use Rattle.wasm_read_spec.specs.Prelude.{Any, Stop, NotSupported, Over, NoStop, Reader, or_malformed, u32_at, fault_at, pair_at, mapped_at, chosen_at, when_at, tagged_at, each_at}
use Rattle.wasm_read_spec.specs.Stops.{AfterStops, ChosenStops, BothStops, WhenStops, EachStops, ListStops, CountedStops, VectorStops}
use Rattle.wasm_read_spec.specs.Reading.{just_at, tag_at, closed_at, each_from, list_at, vector_at}
use Rattle.wasm_read_spec.specs.Exact.{Exact, Along}
use Rattle.wasm_read_spec.proofs.Exact.{u32_exact, took_then, split, along_every, every_along}

pub bind_err : {A B E : Type 0} (r : Result A E) (f : A → Result B E) (e : E) → (r >>= f) ≡ Err e → (r ≡ Err e) ⊎ ((x : A) × (r ≡ Ok x) × (f x ≡ Err e))
bind_err (Ok x) f e h = inr (x, refl, h)
bind_err (Err w) f e h = let same : w ≡ e = cc in inl (ap Err same)

pub ok_err : {A E : Type 0} (x : A) (e : E) → ◌≡◌ {A = Result A E} (Ok x) (Err e) → ⊥
ok_err x e h = cc

pub same_err : {A E : Type 0} (d e : E) → ◌≡◌ {A = Result A E} (Err d) (Err e) → d ≡ e
same_err d e h = cc

-- ---- what a fault says

-- The fault by which a stop is reported.
abbrev pub fault_of : Stop → Fault
fault_of NotSupported = Unsupported
fault_of (Over w) = Limit w

-- The fault says that the bytes are malformed, or reports one of these stops.
abbrev pub Known : (Stop → Type 0) → Fault → Type 0
Known stops e = (e ≡ Malformed) ⊎ ((s : Stop) × (e ≡ fault_of s) × stops s)

pub known_as : (P Q : Stop → Type 0) (e : Fault) → ((s : Stop) → P s → Q s) → Known P e → Known Q e
known_as P Q e f (inl m) = inl m
known_as P Q e f (inr h) = inr (h.0, h.1, f h.0 h.2)

pub record Tells {A : Type 0} (stops : Stop → List ℕ → Type 0) (reader : List ℕ → Result A Fault) : Type 0 where
  pub found : (bytes : List ℕ) (e : Fault) → IsBytes bytes → reader bytes ≡ Err e → Known (λ s. stops s bytes) e
  pub met : (bytes : List ℕ) (s : Stop) → stops s bytes → reader bytes ≡ Err (fault_of s)

-- A reader that reports some stops reports the same stops in an equivalent form.
pub other_stops : {A : Type 0} {P Q : Stop → List ℕ → Type 0} {r : List ℕ → Result A Fault} → ((s : Stop) (b : List ℕ) → P s b → Q s b) → ((s : Stop) (b : List ℕ) → Q s b → P s b) → Tells P r → Tells Q r
other_stops {A} {P} {Q} {r} to back t = record {
  found = λ bytes e small h. known_as (λ s. P s bytes) (λ s. Q s bytes) e (λ s. to s bytes) (t.found bytes e small h);
  met = λ bytes s h. t.met bytes s (back s bytes h);
}

-- ---- readers without stops

or_is : {A : Type 0} (r : Result A Wrong) (e : Fault) → or_malformed r ≡ Err e → e ≡ Malformed
or_is (Ok x) e h = cc
or_is (Err w) e h = cc

pub or_tells : {A : Type 0} (r : List ℕ → Result (A × List ℕ) Wrong) → Tells NoStop (λ bs. or_malformed (r bs))
or_tells r = record { found = λ bytes e small h. inl (or_is (r bytes) e h); met = λ bytes s h. absurd h }

pub just_tells : {A : Type 0} (x : A) → Tells NoStop (just_at x)
just_tells x = record { found = λ bytes e small h. absurd (ok_err (x, bytes) e h); met = λ bytes s h. absurd h }

pub malformed_tells : {A : Type 0} → Tells NoStop (fault_at {A = A} Malformed)
malformed_tells {A} = record { found = λ bytes e small h. inl (sym (same_err {A = A × List ℕ} Malformed e h)); met = λ bytes s h. absurd h }

pub unsupported_tells : {A : Type 0} → Tells (λ s b. s ≡ NotSupported) (fault_at {A = A} Unsupported)
unsupported_tells {A} = record { found = λ bytes e small h. inr (NotSupported, sym (same_err {A = A × List ℕ} Unsupported e h), refl); met = λ bytes s h. rw h }

-- ---- combinations of readers

pub pair_tells : {A B : Type 0} {P : List ℕ → A → Type 0} {S : A → Type 0} {T U : Stop → List ℕ → Type 0} {r : Reader A} {q : Reader B} → Exact P S r → Tells T r → Tells U q → Tells (BothStops P S T U) (pair_at r q)
pair_tells {A} {B} {P} {S} {T} {U} {r} {q} exact a b = record {
  found = λ bytes e small h. ⊎_elim
      (λ bad. known_as (λ s. T s bytes) (λ s. BothStops P S T U s bytes) e (λ s. inl) (a.found bytes e small bad))
      (λ good.
      let x = good.0 in
      let t = exact.sound bytes x.0 x.1 small good.1 in
      ⊎_elim
      (λ bad. known_as (λ s. U s x.1) (λ s. BothStops P S T U s bytes) e (λ s k. inr (x.0, t.1, (t.0.0, x.1, t.0.1, k, t.0.2))) (b.found x.1 e (small_rest _ bytes x.1 small t.0) bad))
      (λ ok. absurd (ok_err _ e ok.2))
      (bind_err (q x.1) _ e good.2))
      (bind_err (r bytes) _ e h);
  met = λ bytes s h. ⊎_elim
      (λ k. rw (a.met bytes s k))
      (λ k. let t = k.2 in rw (t.4, exact.complete t.0 t.1 k.0 t.2 k.1, b.met t.1 s t.3))
      h;
}

pub mapped_tells : {A B : Type 0} {T : Stop → List ℕ → Type 0} {r : Reader A} (make : A → B) → Tells T r → Tells T (mapped_at make r)
mapped_tells {A} {B} {T} {r} make a = record {
  found = λ bytes e small h. ⊎_elim (λ bad. a.found bytes e small bad) (λ ok. absurd (ok_err _ e ok.2)) (bind_err (r bytes) _ e h);
  met = λ bytes s h. rw (a.met bytes s h);
}

pub chosen_tells : {K A : Type 0} {P : List ℕ → K → Type 0} {T : K → Stop → List ℕ → Type 0} {first : Reader K} {next : K → Reader A} → Exact P Any first → Tells NoStop first → ((k : K) → Tells (T k) (next k)) →
    Tells (ChosenStops P T) (chosen_at first next)
chosen_tells {K} {A} {P} {T} {first} {next} exact a b = record {
  found = λ bytes e small h. ⊎_elim
      (λ bad. known_as (λ s. ⊥) (λ s. ChosenStops P T s bytes) e (λ s k. absurd k) (a.found bytes e small bad))
      (λ good.
      let x = good.0 in
      let t = (exact.sound bytes x.0 x.1 small good.1).0 in
      known_as (λ s. T x.0 s x.1) (λ s. ChosenStops P T s bytes) e (λ s k. (x.0, (t.0, x.1, t.1, k, t.2))) ((b x.0).found x.1 e (small_rest _ bytes x.1 small t) good.2))
      (bind_err (first bytes) _ e h);
  met = λ bytes s h. let t = h.1 in rw (t.4, exact.complete t.0 t.1 h.0 t.2 tt) ((b h.0).met t.1 s t.3);
}

pub when_tells : {A : Type 0} {P Q : Stop → List ℕ → Type 0} {r q : Reader A} (test : Bool) → Tells P r → Tells Q q → Tells (WhenStops test P Q) (when_at test r q)
when_tells true a b = record { found = a.found; met = a.met }
when_tells false a b = record { found = b.found; met = b.met }

-- A missing byte at the front is reported as malformed.
tag_is : (c : Bool) (bs : List ℕ) (e : Fault) → ◌≡◌ {A = Result (Unit {0} × List ℕ) Fault} (cond c (Ok (tt {0}, bs)) (Err Malformed)) (Err e) → e ≡ Malformed
tag_is true bs e h = cc
tag_is false bs e h = cc

tag_err : (tag : ℕ) (bytes : List ℕ) (e : Fault) → tag_at tag bytes ≡ Err e → e ≡ Malformed
unfolding tag_at
tag_err tag [] e h = cc
tag_err tag (b ∷ bs) e h = tag_is (b == tag) bs e h

tag_ok : (c : Bool) (bs rest : List ℕ) (u : Unit {0}) → ◌≡◌ {A = Result (Unit {0} × List ℕ) Fault} (cond c (Ok (tt {0}, bs)) (Err Malformed)) (Ok (u, rest)) → (c ≡ true) × (bs ≡ rest)
tag_ok true bs rest u h = (refl, (ok_pair {E = Fault} tt u bs rest h).1)
tag_ok false bs rest u h = cc

tag_took : (tag : ℕ) (bytes : List ℕ) (u : Unit {0}) (rest : List ℕ) → tag_at tag bytes ≡ Ok (u, rest) → bytes ≡ tag ∷ rest
unfolding tag_at
tag_took tag [] u rest h = cc
tag_took tag (b ∷ bs) u rest h = let k = tag_ok (b == tag) bs rest u h in let same : b ≡ tag = grind (arith, k.0) in rw (same, k.1)

pub tag_reads : (tag : ℕ) (bs : List ℕ) → tag_at tag (tag ∷ bs) ≡ Ok (tt, bs)
unfolding tag_at
tag_reads tag bs = let same : tag == tag ≡ true = grind arith in rw same

pub tagged_tells : {A : Type 0} {T : Stop → List ℕ → Type 0} {r : Reader A} (tag : ℕ) → Tells T r → Tells (AfterStops tag T) (tagged_at tag r)
tagged_tells {A} {T} {r} tag a = record {
  found = λ bytes e small h. ⊎_elim
      (λ bad. inl (tag_err tag bytes e bad))
      (λ good.
      let is = tag_took tag bytes good.0.0 good.0.1 good.1 in
      known_as (λ s. T s good.0.1) (λ s. AfterStops tag T s bytes) e (λ s k. (good.0.1, is, k)) (a.found good.0.1 e (λ i. subst IsBytes is small (suc i)) good.2))
      (bind_err (tag_at tag bytes) _ e h);
  met = λ bytes s h. rw (h.1, tag_reads tag h.0) (a.met h.0 s h.2);
}

pub closed_tells : {A : Type 0} {T : Stop → List ℕ → Type 0} {r : Reader A} (tag : ℕ) → Tells T r → Tells T (closed_at tag r)
closed_tells {A} {T} {r} tag a = record {
  found = λ bytes e small h. ⊎_elim
      (λ bad. a.found bytes e small bad)
      (λ good. ⊎_elim (λ bad. inl (tag_err tag good.0.1 e bad)) (λ ok. absurd (ok_err _ e ok.2)) (bind_err (tag_at tag good.0.1) _ e good.2))
      (bind_err (r bytes) _ e h);
  met = λ bytes s h. rw (a.met bytes s h);
}

-- ---- a given number of items

-- The state after the items.
abbrev pub state_behind : {A : Type 0} → (ℕ → A → ℕ) → ℕ → List A → ℕ
state_behind next state [] = state
state_behind next state (x ∷ xs) = state_behind next (next state x) xs

module _ {A : Type 0} (P : List ℕ → A → Type 0) (S : ℕ → A → Type 0) (T : ℕ → Stop → List ℕ → Type 0) (item : ℕ → Reader A) (next : ℕ → A → ℕ) (exact : (state : ℕ) → Exact P (S state) (item state)) (tells : (state : ℕ) → Tells (T state) (item state)) where
  -- One of `n` items has the stop, in the state that the items before it lead to.
  abbrev pub AlongStops : ℕ → ℕ → Stop → List ℕ → Type 0
  AlongStops n state stop bytes = (xs : List A) × (length xs < n) × Along S next state xs × Then (λ b. Each P b xs) (T (state_behind next state xs) stop) bytes

  one_more : (n state : ℕ) (bytes text rest : List ℕ) (x : A) (s : Stop) → P text x → S state x → bytes ≡ text ++ rest → AlongStops n (next state x) s rest → AlongStops (suc n) state s bytes
  one_more n state bytes text rest x s spelled small is h =
      let t = h.3 in
      let both = took_then (λ b. P b x) (λ b. Each P b h.0) bytes rest t.1 (text, spelled, is) (t.0, t.2, t.4) in
      (x ∷ h.0, omega (arith, h.1), (small, h.2), (both.0, t.1, both.1, t.3, both.2))

  pub along_found : (n state : ℕ) (bytes : List ℕ) (e : Fault) → IsBytes bytes → each_from item next n state bytes ≡ Err e → Known (λ s. AlongStops n state s bytes) e
  unfolding each_from
  along_found zero state bytes e small h = absurd (ok_err _ e h)
  along_found (suc n) state bytes e small h = ⊎_elim
      (λ bad. known_as (λ s. T state s bytes) (λ s. AlongStops (suc n) state s bytes) e (λ s k. ([], omega arith, tt, ([], bytes, refl, k, refl))) ((tells state).found bytes e small bad))
      (λ good.
      let x = good.0 in
      let t = (exact state).sound bytes x.0 x.1 small good.1 in
      ⊎_elim
      (λ bad. known_as (λ s. AlongStops n (next state x.0) s x.1) (λ s. AlongStops (suc n) state s bytes) e (λ s k. one_more n state bytes t.0.0 x.1 x.0 s t.0.1 t.1 t.0.2 k) (along_found n (next state x.0) x.1 e (small_rest _ bytes x.1 small t.0) bad))
      (λ ok. absurd (ok_err _ e ok.2))
      (bind_err (each_from item next n (next state x.0) x.1) _ e good.2))
      (bind_err (item state bytes) _ e h)

  along_met : (xs : List A) (n state : ℕ) (front back : List ℕ) (s : Stop) → length xs < n → Along S next state xs → Each P front xs → T (state_behind next state xs) s back → each_from item next n state (front ++ back) ≡ Err (fault_of s)
  unfolding each_from
  along_met xs zero state front back s lt h p t = absurd (omega (arith, lt))
  along_met [] (suc n) state front back s lt h p t = rw (p, (tells state).met back s t)
  along_met (x ∷ xs) (suc n) state front back s lt h p t =
      rw (split _ _ front back p, (exact state).complete p.0 (p.1 ++ back) x p.2 h.0, along_met xs n (next state x) p.1 back s (omega (arith, lt)) h.1 p.3 t)

  pub each_tells : (n state : ℕ) → Tells (AlongStops n state) (each_from item next n state)
  each_tells n state = record {
    found = λ bytes e small h. along_found n state bytes e small h;
    met = λ bytes s h. let t = h.3 in rw t.4 (along_met h.0 n state t.0 t.1 s h.1 h.2 t.2 t.3);
  }

pub same_tells : {A : Type 0} {P : List ℕ → A → Type 0} {S : A → Type 0} {T : Stop → List ℕ → Type 0} {r : Reader A} → Exact P S r → Tells T r → (n : ℕ) → Tells (EachStops P S T n) (each_at r n)
same_tells {A} {P} {S} {T} {r} exact a n = other_stops
    (λ s b h. (h.0, h.1, along_every S h.0 h.2, h.3))
    (λ s b h. (h.0, h.1, every_along S h.0 h.2, h.3))
    (each_tells P (λ s. S) (λ s. T) (λ s. r) (λ s x. 0) (λ s. exact) (λ s. a) n 0)

pub u32_tells : Tells NoStop u32_at
u32_tells = or_tells _

pub list_tells : {A : Type 0} {P : List ℕ → A → Type 0} {S : A → Type 0} {T : Stop → List ℕ → Type 0} {r : Reader A} → Exact P S r → Tells T r → Tells (ListStops P S T) (list_at r)
unfolding list_at
list_tells exact a = chosen_tells u32_exact u32_tells (λ n. same_tells exact a n)

counted_tells : {A : Type 0} {T : Stop → List ℕ → Type 0} {r : Reader A} (which : Which) (n : ℕ) → Tells T r → Tells (CountedStops which n T) (λ bs. cond (nat_lt (limit which) n) (Err (Limit which)) (r bs))
counted_tells {A} {T} {r} which n a = record {
  found = λ bytes e small h. ⊎_elim
      (λ lt. let k = rw (lt-ltb (limit which) n lt) at h in inr (Over which, sym (same_err {A = A × List ℕ} (Limit which) e k), inl (lt, refl)))
      (λ le. let k = rw (le-ltb (limit which) n le) at h in known_as (λ s. T s bytes) (λ s. CountedStops which n T s bytes) e (λ s t. inr (le, t)) (a.found bytes e small k))
      (cases_lt (limit which) n);
  met = λ bytes s h. ⊎_elim
      (λ k. rw (lt-ltb (limit which) n k.0, k.1))
      (λ k. rw (le-ltb (limit which) n k.0) (a.met bytes s k.1))
      h;
}

pub vector_tells : {A : Type 0} {P : List ℕ → A → Type 0} {S : A → Type 0} {T : Stop → List ℕ → Type 0} {r : Reader A} (which : Which) → Exact P S r → Tells T r → Tells (VectorStops which P S T) (vector_at which r)
unfolding vector_at
vector_tells which exact a = chosen_tells u32_exact u32_tells (λ n. counted_tells which n (same_tells exact a n))
