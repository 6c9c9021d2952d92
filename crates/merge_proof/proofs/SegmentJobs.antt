-- The element or data segments of parts, as jobs.
use Rattle.base_lists.proofs.Common.{◌≡◌, ◌∙◌, refl, sym, ap, ℕ, add-zero, zero-add, suc, ◌+◌, ◌<◌, List, [], ◌∷◌, ◌++◌, map, length, Option, Some, Bool, false, arith, unwrap_or, slice_get, map-append, and_then_is, add_next}
use Rattle.base_lists.specs.Options.{◌>>=◌}
use Rattle.wasm_tree_spec.specs.Prelude.{ConstExpr, Module}
use Rattle.wasm_meaning.specs.Prelude.{Val, Inst, Part, module_at, Environment, PlacedSegment, segments_in, value_of}
use Rattle.wasm_meaning.specs.Environment.{any_of}
use Rattle.world_simulation.specs.Prelude.{offset_in}
use Rattle.merge_proof.proofs.CopyRuns.{Lists, Job, Skip, runs, rest_jobs, LowJob, LowJobs, low_none, low_more, Kept, KeptAll, kept_none, kept_more}

-- The values of constant expressions, where they have one.
abbrev pub Values : Type 0
Values = ConstExpr → Option Val

-- The second assignment of values has each value that the first has.
abbrev pub Gives : (v w : Values) → ConstExpr → Type 0
Gives v w e = (u : Val) → v e ≡ Some u → w e ≡ Some u

pub number_given : (v w : Values) (e : ConstExpr) → Gives v w e → (a : ℕ) → offset_in v e ≡ Some a → offset_in w e ≡ Some a
number_given v w e h a k = let u = and_then_is (v e) _ a k in rw (h u.0 u.1) u.2

-- Each number of the list is lower than this one.
abbrev pub AllBelow : ℕ → List ℕ → Type 0
AllBelow n xs = (x a : ℕ) → slice_get xs x ≡ Some a → a < n

module _ {S : Type 0} (job : Values → Inst → ℕ → S → Job) where
  abbrev pub jobs : Values → Inst → List ℕ → List S → List Job
  jobs value i (n ∷ ns) (s ∷ ss) = job value i n s ∷ jobs value i ns ss
  jobs value i _ _ = []

  abbrev pub task_job : (ℕ → Values) → PlacedSegment S → Job
  task_job value task = job (value task.part) task.inst task.address task.segment

  pub tasks_jobs : (value : ℕ → Values) (p : ℕ) (i : Inst) (ns : List ℕ) (ss : List S) → map (task_job value) (segments_in p i ns ss) ≡ jobs (value p) i ns ss
  tasks_jobs value p i (n ∷ ns) (s ∷ ss) = rw (tasks_jobs value p i ns ss)
  tasks_jobs value p i _ _ = refl

  pub jobs_low : (value : Values) (i : Inst) (targets segments : ℕ) → ((n : ℕ) (s : S) → n < segments → LowJob targets segments (job value i n s)) → (ns : List ℕ) (ss : List S) → AllBelow segments ns →
      LowJobs targets segments (jobs value i ns ss)
  jobs_low value i targets segments f (n ∷ ns) (s ∷ ss) g = low_more (f n s (g 0 n refl)) (jobs_low value i targets segments f ns ss (λ x. g (suc x)))
  jobs_low value i targets segments f _ _ g = low_none

  pub jobs_kept : (v w : Values) (i : Inst) (ns : List ℕ) (ss : List S) → ((l a : ℕ) (s : S) → slice_get ss l ≡ Some s → Kept (job v i a s) (job w i a s)) → KeptAll (jobs v i ns ss) (jobs w i ns ss)
  jobs_kept v w i (n ∷ ns) (s ∷ ss) h = kept_more (h 0 n s refl) (jobs_kept v w i ns ss (λ l. h (suc l)))
  jobs_kept v w i _ _ h = kept_none

  module _ (X Y : Type 0) (fill : X → Y → ℕ → Option X) (empty : Y) where
    -- Segments that are not active change nothing.
    pub jobs_skip : (active : S → Bool) → ((value : Values) (i : Inst) (n : ℕ) (s : S) → active s ≡ false → job value i n s ≡ Skip) → (value : Values) (i : Inst) (ns : List ℕ) (ss : List S) → any_of active ss ≡ false →
        (c : Lists X Y) → runs X Y fill empty (jobs value i ns ss) c ≡ Some c
    jobs_skip active f value i (n ∷ ns) (s ∷ ss) h c = grind (arith, f value i n s, jobs_skip active f value i ns ss)
    jobs_skip active f value i _ _ h c = refl

    module _ (addresses : Inst → List ℕ) (segments_of : Module → List S) (env : Environment) (parts : List Part) (insts : List Inst) where
      -- The jobs of the segments of part k.
      abbrev pub jobs_of : ℕ → List Job
      jobs_of k = unwrap_or (module_at parts k >>= λ m. slice_get insts k >>= λ i. Some (jobs (value_of env parts insts k) i (addresses i) (segments_of m))) []

      pub jobs_at : (k : ℕ) (m : Module) (i : Inst) → module_at parts k ≡ Some m → slice_get insts k ≡ Some i → jobs_of k ≡ jobs (value_of env parts insts k) i (addresses i) (segments_of m)
      jobs_at k m i is_part is_inst = rw (is_part, is_inst)

      pub jobs_none : (active : S → Bool) → ((value : Values) (i : Inst) (n : ℕ) (s : S) → active s ≡ false → job value i n s ≡ Skip) → (q : ℕ) → ((m : Module) → module_at parts q ≡ Some m → any_of active (segments_of m) ≡ false) →
          (c : Lists X Y) → runs X Y fill empty (jobs_of q) c ≡ Some c
      jobs_none active f q h c = by (module_at parts q) (slice_get insts q) h
        where
          by : (o : Option Module) (p : Option Inst) → ((m : Module) → o ≡ Some m → any_of active (segments_of m) ≡ false) → runs X Y fill empty (unwrap_or (o >>= λ m. p >>= λ i. Some (jobs (value_of env parts insts q) i (addresses i) (segments_of m))) []) c ≡ Some c
          by (Some m) (Some i) h = jobs_skip active f (value_of env parts insts q) i (addresses i) (segments_of m) (h m refl) c
          by _ _ h = refl

      abbrev rest : (count k : ℕ) → List Job
      rest = rest_jobs X Y fill empty jobs_of

      -- The tasks of all parts, by part.
      module _ (tasks : ℕ → List Part → List Inst → List (PlacedSegment S)) (no_tasks : (p : ℕ) → tasks p [] [] ≡ [])
          (more_tasks : (p : ℕ) (part : Part) (ps : List Part) (i : Inst) (is : List Inst) → tasks p (part ∷ ps) (i ∷ is) ≡ segments_in p i (addresses i) (segments_of part.«module») ++ tasks (suc p) ps is) where
        by_part : (p : ℕ) (ps : List Part) (is : List Inst) → ((q : ℕ) → module_at ps q ≡ module_at parts (p + q)) → ((q : ℕ) → slice_get is q ≡ slice_get insts (p + q)) → length is ≡ length ps → map (task_job (value_of env parts insts)) (tasks p ps is) ≡ rest (length ps) p
        by_part p [] [] f g e = rw (no_tasks p)
        by_part p (part ∷ ps) (i ∷ is) f g e =
            let here = jobs_at p part.«module» i (rw add-zero at (sym (f 0))) (rw add-zero at (sym (g 0))) in
            let more = by_part (suc p) ps is (λ q. f (suc q) ∙ ap (module_at parts) (add_next p q)) (λ q. g (suc q) ∙ ap (slice_get insts) (add_next p q)) (omega arith) in
            rw (more_tasks p part ps i is, map-append, tasks_jobs (value_of env parts insts) p i, here, more)
        by_part p _ _ f g e = absurd (omega arith)

        pub all_by_part : length insts ≡ length parts → map (task_job (value_of env parts insts)) (tasks 0 parts insts) ≡ rest (length parts) 0
        all_by_part = by_part 0 parts insts (λ q. rw zero-add) (λ q. rw zero-add)
