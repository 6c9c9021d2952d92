-- Segments that are copied part by part, in terms of two lists alone: the tables or memories that
-- are written, and the segments, which are dropped. What follows the written part of the lists
-- stays as it is and has no effect.
use Rattle.base_lists.proofs.Common.{◌≡◌, ◌∙◌, refl, sym, ap₂, ℕ, zero, suc, ◌-◌, ◌<◌, ◌≤◌, List, [], ◌∷◌, ◌++◌, length, Option, Some, append_assoc, arith, slice_get, slice_set, length-set, append_left, and_then_is, same_Some}
use Rattle.base_lists.specs.Options.{◌>>=◌}
use Rattle.std.proofs.lemmas.List.{set-append_left}

-- The list of targets that are written, and the list of segments.
abbrev pub Lists : Type 0 → Type 0 → Type 0
Lists X Y = List X × List Y

-- A segment with its target and offset, or one that is not copied.
pub data Job : Type 0 where
  Skip : Job
  Fill : (segment : ℕ) → (target offset : Option ℕ) → Job

-- A job that uses only targets and segments below these numbers.
pub data LowJob (targets segments : ℕ) : Job → Type 0 where
  low_skip : LowJob targets segments Skip
  low_fill : {n : ℕ} {target offset : Option ℕ} → n < segments → ((a : ℕ) → target ≡ Some a → a < targets) → LowJob targets segments (Fill n target offset)

pub data LowJobs (targets segments : ℕ) : List Job → Type 0 where
  low_none : LowJobs targets segments []
  low_more : {j : Job} {js : List Job} → LowJob targets segments j → LowJobs targets segments js → LowJobs targets segments (j ∷ js)

-- The second job is the first with its offset, if the first has an offset.
pub data Kept : Job → Job → Type 0 where
  kept_skip : Kept Skip Skip
  kept_fill : {n : ℕ} {target o p : Option ℕ} → ((a : ℕ) → o ≡ Some a → p ≡ Some a) → Kept (Fill n target o) (Fill n target p)

pub data KeptAll : List Job → List Job → Type 0 where
  kept_none : KeptAll [] []
  kept_more : {j k : Job} {js ks : List Job} → Kept j k → KeptAll js ks → KeptAll (j ∷ js) (k ∷ ks)

module _ (X Y : Type 0) (fill : X → Y → ℕ → Option X) (empty : Y) where
  abbrev pub run : Job → Lists X Y → Option (Lists X Y)
  run Skip c = Some c
  run (Fill n target offset) c = offset >>= λ o. target >>= λ a. slice_get c.0 a >>= λ x. slice_get c.1 n >>= λ y. fill x y o >>= λ z. Some (slice_set c.0 a z, slice_set c.1 n empty)

  abbrev pub runs : List Job → Lists X Y → Option (Lists X Y)
  runs [] c = Some c
  runs (j ∷ js) c = run j c >>= (runs js)

  pub runs_both : (js ks : List Job) (c : Lists X Y) → runs (js ++ ks) c ≡ (runs js c >>= (runs ks))
  runs_both [] ks c = refl
  runs_both (j ∷ js) ks c = grind (arith, runs_both js ks)

  -- ---- the front of the lists ----

  pub record Front (xs us : List X) (ys vs : List Y) (o : Option (Lists X Y)) (d : Lists X Y) : Type 0 where
    pub targets : List X
    pub segments : List Y
    pub is : o ≡ Some (targets, segments)
    pub whole : d ≡ (targets ++ us, segments ++ vs)
    pub target_count : length targets ≡ length xs
    pub segment_count : length segments ≡ length ys

  run_front : (xs us : List X) (ys vs : List Y) (j : Job) → LowJob (length xs) (length ys) j → (d : Lists X Y) → run j (xs ++ us, ys ++ vs) ≡ Some d → Front xs us ys vs (run j (xs, ys)) d
  run_front xs us ys vs Skip low_skip d h = record { targets = xs; segments = ys; is = refl; whole = sym (same_Some _ _ h); target_count = refl; segment_count = refl }
  run_front xs us ys vs (Fill n target offset) (low_fill l f) d h =
      let o = and_then_is offset _ d h in
      let a = and_then_is target _ d o.2 in
      let x = and_then_is (slice_get (xs ++ us) a.0) _ d a.2 in
      let y = and_then_is (slice_get (ys ++ vs) n) _ d x.2 in
      let z = and_then_is (fill x.0 y.0 o.0) _ d y.2 in
      record {
        targets = slice_set xs a.0 z.0;
        segments = slice_set ys n empty;
        is = filled o.1 a.1 (sym (append_left xs us a.0 (f a.0 a.1)) ∙ x.1) (sym (append_left ys vs n l) ∙ y.1) z.1;
        whole = sym (same_Some _ _ z.2) ∙ ap₂ (λ xs ys. (xs, ys)) (set-append_left xs us a.0 z.0 (f a.0 a.1)) (set-append_left ys vs n empty l);
        target_count = length-set xs a.0 z.0;
        segment_count = length-set ys n empty;
      }
    where
      filled : {o a : ℕ} {x z : X} {y : Y} → offset ≡ Some o → target ≡ Some a → slice_get xs a ≡ Some x → slice_get ys n ≡ Some y → fill x y o ≡ Some z → run (Fill n target offset) (xs, ys) ≡ Some (slice_set xs a z, slice_set ys n empty)
      filled e f g h k = rw (e, f, g, h, k)

  pub runs_front : (us : List X) (vs : List Y) (js : List Job) (targets segments : ℕ) → LowJobs targets segments js → (xs : List X) (ys : List Y) → length xs ≡ targets → length ys ≡ segments → (d : Lists X Y) → runs js (xs ++ us, ys ++ vs) ≡ Some d → Front xs us ys vs (runs js (xs, ys)) d
  runs_front us vs [] targets segments low_none xs ys e f d h = record { targets = xs; segments = ys; is = refl; whole = sym (same_Some _ _ h); target_count = refl; segment_count = refl }
  runs_front us vs (j ∷ js) targets segments (low_more l ls) xs ys e f d h =
      let c = and_then_is (run j (xs ++ us, ys ++ vs)) (runs js) d h in
      let first = run_front xs us ys vs j (rw (e, f) l) c.0 c.1 in
      let rest = runs_front us vs js targets segments ls first.targets first.segments (first.target_count ∙ e) (first.segment_count ∙ f) d (rw first.whole at c.2) in
      record {
        targets = rest.targets;
        segments = rest.segments;
        is = rw first.is rest.is;
        whole = rest.whole;
        target_count = rest.target_count ∙ first.target_count;
        segment_count = rest.segment_count ∙ first.segment_count;
      }

  -- ---- other offsets ----

  run_kept : {j k : Job} → Kept j k → (c d : Lists X Y) → run j c ≡ Some d → run k c ≡ Some d
  run_kept kept_skip c d h = h
  run_kept (kept_fill {o = o} f) c d h = let a = and_then_is o _ d h in rw (f a.0 a.1) a.2

  pub runs_kept : {js ks : List Job} → KeptAll js ks → (c d : Lists X Y) → runs js c ≡ Some d → runs ks c ≡ Some d
  runs_kept kept_none c d h = h
  runs_kept (kept_more {j = j} {js = js} e es) c d h = let a = and_then_is (run j c) (runs js) d h in rw (run_kept e c a.0 a.1) (runs_kept es a.0 d a.2)

  -- ---- by part ----

  module _ (jobs_of : ℕ → List Job) where
    -- The jobs of the first k parts.
    abbrev pub first_jobs : ℕ → List Job
    first_jobs zero = []
    first_jobs (suc k) = first_jobs k ++ jobs_of k

    -- The jobs of a number of parts from part k on.
    abbrev pub rest_jobs : (count k : ℕ) → List Job
    rest_jobs zero k = []
    rest_jobs (suc count) k = jobs_of k ++ rest_jobs count (suc k)

    pub jobs_split : (n k : ℕ) → k ≤ n → rest_jobs n 0 ≡ first_jobs k ++ rest_jobs (n - k) k
    jobs_split n zero l = let e : n - 0 ≡ n = omega arith in rw e
    jobs_split n (suc k) l =
        let e : n - k ≡ suc (n - suc k) = omega arith in
        rw (jobs_split n k (omega arith), e, append_assoc)

    -- The jobs of these parts change nothing, if those of each part change nothing.
    pub rest_skips : (count k : ℕ) → ((q : ℕ) → k ≤ q → (c : Lists X Y) → runs (jobs_of q) c ≡ Some c) → (c : Lists X Y) → runs (rest_jobs count k) c ≡ Some c
    rest_skips zero k h c = refl
    rest_skips (suc count) k h c = rw (runs_both (jobs_of k) (rest_jobs count (suc k)) c, h k (omega arith) c) (rest_skips count (suc k) (λ q l. h q (omega arith)) c)

    -- The jobs of the next part succeed after those of the first parts, if the jobs of all parts
    -- succeed.
    pub next_runs : (n k : ℕ) → k < n → (a c d : Lists X Y) → runs (rest_jobs n 0) a ≡ Some d → runs (first_jobs k) a ≡ Some c → (e : Lists X Y) × (runs (jobs_of k) c ≡ Some e) × (runs (first_jobs (suc k)) a ≡ Some e)
    next_runs n k l a c d h first =
        let e : n - k ≡ suc (n - suc k) = omega arith in
        let b = and_then_is (runs (jobs_of k) c) _ d (rw (jobs_split n k (omega arith), e, runs_both (first_jobs k), first, runs_both (jobs_of k)) at h) in
        (b.0, b.1, rw (runs_both (first_jobs k) (jobs_of k) a, first) b.1)

    -- The jobs of all parts have the effect of those of the first parts, if the rest change
    -- nothing.
    pub all_runs : (n k : ℕ) → k ≤ n → (a c : Lists X Y) → runs (first_jobs k) a ≡ Some c → ((q : ℕ) → k ≤ q → (c : Lists X Y) → runs (jobs_of q) c ≡ Some c) → runs (rest_jobs n 0) a ≡ Some c
    all_runs n k l a c first h = rw (jobs_split n k l, runs_both (first_jobs k) (rest_jobs (n - k) k) a, first) (rest_skips (n - k) k h c)
