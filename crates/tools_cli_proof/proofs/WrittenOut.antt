-- The clauses of `run`, written out.
use Rattle.base_lists.proofs.Common.{◌≡◌, ◌∙◌, ◌⊎◌, inl, inr, refl, sym, ap, subst, ℕ, suc, List, [], ◌∷◌, ◌++◌, Option, Some, None, IfSome, Contains, arith, get, cond, bytes_eq, bytes_eq-Decides, true, false, Bool, map, list_all}
use Rattle.std.specs.FinMap.{insert}
use Rattle.tool_io.specs.FilesAndSinks.{FileContents, Becomes}
use Rattle.tools_cli_spec.specs.Prelude.{Text, Task, task_of, NamedFile, made, AreWrittenInPart, written_names, Job, Usage, Refused, Done, HasJob, no_task, asked, TaskJob}
use Rattle.tools_cli_spec.specs.Prelude.{not_begun, missing, too_long, all_read, InputsJob, not_loaded, decided, Decision, Refuses, Makes, job_of, is_within, spelled_output, HostState}
use Rattle.tools_cli_spec.specs.Job.{Missing}
use Rattle.tools_cli_spec.specs.Texts.{too_many}
use Rattle.wasm_tree.specs.declared.which.Which.TheVariants.{OutputBytes}
use Rattle.tools_cli_spec.specs.Run.{ChangesByTheJob, PrintsForTheJob, EndsDone, EndsRefused, HasOutsideCause, HasStatus, StatusOfJob, IsSame}
use Rattle.tools_cli_spec.specs.declared.status.Status.{Status}
use Rattle.tools_cli_proof.specs.RunsInFull.{TaskIsDone, Gained, AllMade, DoneInFull, RefusedInFull, FirstWrites, ChangesInFull, PrintsInFull, OutsideInFull, StatusInFull}
use Rattle.tools_cli_proof.proofs.Faithful.{written_there, written_elsewhere}

-- ---- jobs of a task ----

done_of : (words : List Text) (files : FileContents) (writes : List NamedFile) (lines : Text) → HasJob words files (Done writes lines) → TaskIsDone words files writes lines
done_of words files writes lines (asked task _ is job) = record { task = task; asked = is; job = job }

refused_of : (words : List Text) (files : FileContents) (text : Text) → HasJob words files (Refused text) → (task : Task) × (task_of words ≡ Some task) × TaskJob task files (Refused text)
refused_of words files text (asked task _ is job) = (task, is, job)

-- A task has no job of usage.
decides_no_usage : (decision : Decision) → job_of decision ≡ Usage → ⊥
decides_no_usage (Refuses text) e = cc
decides_no_usage (Makes outputs lines) e = by (list_all is_within outputs) e
  where
    by : (b : Bool) → cond b (Done (map spelled_output outputs) lines) (Refused (too_many OutputBytes)) ≡ Usage → ⊥
    by true e = cc
    by false e = cc

inputs_no_usage : (task : Task) (inputs : List NamedFile) (job : Job) → InputsJob task inputs job → job ≡ Usage → ⊥
inputs_no_usage task inputs job (not_loaded text fails) e = cc
inputs_no_usage task inputs job (decided trees decision loads h) e = decides_no_usage decision e

no_usage : (task : Task) (files : FileContents) (job : Job) → TaskJob task files job → job ≡ Usage → ⊥
no_usage task files job (not_begun text begun) e = cc
no_usage task files job (missing name begun found) e = cc
no_usage task files job (too_long name begun found) e = cc
no_usage task files job (all_read inputs _ begun found h) e = inputs_no_usage task inputs job h e

-- ---- sinks and files ----

gained : (text : Text) (before after : Option Text) → Becomes before after (λ a b. b ≡ a ++ text) → Gained text before after
gained text (Some a) (Some b) h = record { told = λ bytes is. let same : a ≡ bytes = cc in ap Some h ∙ ap (λ x. Some (x ++ text)) same; untold = λ none. absurd (cc) }
gained text (Some a) None h = absurd h
gained text None (Some b) h = absurd h
gained text None None h = record { told = λ bytes is. absurd (cc); untold = λ none. refl }

stays : {A : Type 0} (old new : Option A) → IsSame old new → (a : A) → old ≡ Some a → new ≡ Some a
stays (Some x) (Some y) h a is = ap Some h ∙ is
stays (Some x) None h a is = absurd h
stays None (Some y) h a is = absurd h
stays None None h a is = absurd (cc)

known : {A : Type 0} (held : Option A) (P : A → Type 0) → IfSome held P → (a : A) → held ≡ Some a → P a
known (Some x) P h a is = let same : x ≡ a = cc in subst P same h
known None P h a is = absurd (cc)

unlike : (x y : Text) (b : Bool) → bytes_eq x y ≡ b → (x ≡ y → ⊥) → b ≡ false
unlike x y true e never = absurd (never ((bytes_eq-Decides x y).0 e))
unlike x y false e never = refl

-- Names that are not written are unchanged.
others_unchanged : (writes : List NamedFile) (files : FileContents) (name : Text) → (Contains (written_names writes) name → ⊥) → get (made writes files) name ≡ get files name
others_unchanged [] files name never = refl
others_unchanged (w ∷ writes) files name never =
    let rest = others_unchanged writes (insert files w.0 w.1) name (λ (k, lt, is). never (suc k, omega (arith, lt), is)) in
    rest ∙ written_elsewhere files name w.0 w.1 (unlike name w.0 (bytes_eq name w.0) refl (λ same. never (0, omega arith, sym same)))

last_holds : (writes earlier later : List NamedFile) (write : NamedFile) (files : FileContents) → writes ≡ earlier ++ write ∷ later → (Contains (written_names later) write.0 → ⊥) → get (made writes files) write.0 ≡ Some write.1
last_holds writes [] later write files e never =
    ap (λ (ws : List NamedFile). get (made ws files) write.0) e ∙ others_unchanged later (insert files write.0 write.1) write.0 never ∙ written_there files write.0 write.1
last_holds [] (w ∷ earlier) later write files e never = absurd (cc)
last_holds (x ∷ writes) (w ∷ earlier) later write files e never =
    let rest : writes ≡ earlier ++ write ∷ later = cc in
    last_holds writes earlier later write (insert files x.0 x.1) rest never

all_made : (writes : List NamedFile) (files : FileContents) → AllMade writes files (made writes files)
all_made writes files = record { last = λ earlier later write e never. last_holds writes earlier later write files e never; others = others_unchanged writes files }

-- ---- what the clauses say ----

pub done_in_full : (words : List Text) (old : FileContents) (new : Option FileContents) (before after : Option Text) → EndsDone words old new before after → DoneInFull words old new before after
done_in_full words old new before after (writes, lines, job, (is, gains)) =
    record { writes = writes; lines = lines; files = made writes old; done = done_of words old writes lines job; told = is; made = all_made writes old; printed = gained lines before after gains }

pub refused_in_full : (words : List Text) (old : FileContents) (before after : Option Text) → EndsRefused words old before after → RefusedInFull words old before after
refused_in_full words old before after (text, job, gains) =
    let (task, is, one) = refused_of words old text job in
    record { task = task; text = text; asked = is; job = one; printed = gained _ before after gains }

first_writes : (writes : List NamedFile) (old new : FileContents) → AreWrittenInPart writes old new → (count : ℕ) × FirstWrites writes old new count
first_writes [] old new h = (0, record { few = omega arith; next = inl h })
first_writes (w ∷ writes) old new (inl (inl same)) = (0, record { few = omega arith; next = inl same })
first_writes (w ∷ writes) old new (inl (inr (size, is))) = (0, record { few = omega arith; next = inr (w, size, refl, is) })
first_writes (w ∷ writes) old new (inr rest) =
    let (count, first) = first_writes writes (insert old w.0 w.1) new rest in
    let few = first.few in
    (suc count, record { few = omega (arith, few); next = first.next })

pub changes_in_full : (words : List Text) (old new : FileContents) → ChangesByTheJob words old new → ChangesInFull words old new
changes_in_full words old new (inl same) = inl same
changes_in_full words old new (inr (writes, lines, job, part)) = let (count, first) = first_writes writes old new part in inr (writes, lines, count, done_of words old writes lines job, first)

pub prints_in_full : (words : List Text) (old : FileContents) (new : Option FileContents) (before after : Text) → PrintsForTheJob words old new before after → PrintsInFull words old new before after
prints_in_full words old new before after (inl same) = inl same
prints_in_full words old new before after (inr (writes, lines, job, (is, (count, appended)))) = inr (writes, lines, made writes old, count, done_of words old writes lines job, is, all_made writes old, appended)

pub outside_in_full : (words : List Text) (old new : HostState) (err err' : Option Text) (before now : ℕ) → HasOutsideCause words old new err err' before now → OutsideInFull words old new err err' before now
outside_in_full words old new err err' before now (inl risen) = inl risen
outside_in_full words old new err err' before now (inr (inl (name, (task, is, begun, (input, risen, turn)), files, out, gains))) =
    inr (inl (record {
      task = task;
      name = name;
      asked = is;
      begun = begun;
      input = input;
      risen = risen;
      turn = known old.files _ turn;
      files = stays old.files new.files files;
      out = stays old.out new.out out;
      printed = gained _ err err' gains;
    }))
outside_in_full words old new err err' before now (inr (inr (inl (name, (task, is, (texts, held, output), risen, job), out, gains)))) =
    inr (inr (inl (record {
      task = task;
      name = name;
      texts = texts;
      asked = is;
      held = known old.files _ held;
      output = output;
      risen = risen;
      out = stays old.out new.out out;
      job = λ files there. let (writes, lines, one, has) = known old.files _ job files there in (writes, lines, done_of words files writes lines one, has);
      printed = gained _ err err' gains;
    })))
outside_in_full words old new err err' before now (inr (inr (inr ((risen, job), gains)))) =
    inr (inr (inr (record {
      risen = risen;
      job = λ files there. let (writes, lines, one, is) = known old.files _ job files there in (writes, lines, made writes files, done_of words files writes lines one, is, all_made writes files);
      printed = gained _ err err' gains;
    })))

some_job : (words : List Text) (files : FileContents) (s : Status) (job : Job) → HasJob words files job → StatusOfJob job s
    → (task_of words ≡ None) ⊎ ((task : Task) × (task_of words ≡ Some task) × (((text : Text) × TaskJob task files (Refused text)) ⊎ ((writes : List NamedFile) × (lines : Text) × TaskJob task files (Done writes lines))))
some_job words files s _ (no_task none) is = inl none
some_job words files s Usage (asked task _ e h) is = absurd (no_usage task files Usage h refl)
some_job words files s Missing (asked task _ e h) is = absurd is
some_job words files s (Refused text) (asked task _ e h) is = inr (task, e, inl (text, h))
some_job words files s (Done writes lines) (asked task _ e h) is = inr (task, e, inr (writes, lines, h))

pub status_in_full : (words : List Text) (files : FileContents) (s : Status) → HasStatus words files s → StatusInFull words files s
status_in_full words files s h =
    record {
      some = some_job words files s h.some.0 h.some.1 (h.each h.some.0 h.some.1);
      usage = λ none. h.each Usage (no_task none);
      refused = λ task text e job. h.each (Refused text) (asked task (Refused text) e job);
      done = λ task writes lines e job. h.each (Done writes lines) (asked task (Done writes lines) e job);
    }
