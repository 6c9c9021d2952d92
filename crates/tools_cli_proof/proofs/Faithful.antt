-- A job that ends done is faithful to the modules that it read: its decision is sound, by the laws
-- of its command, and the files that are written of a sound decision hold its outputs, whatever the
-- command.
use Rattle.base_lists.proofs.Common.{IsTrue, Bool, true, false, not, cond, ltb, ◌≡◌, ◌∙◌, refl, sym, ap, subst, ℕ, zero, suc, ◌-◌, List, [], ◌∷◌, ◌++◌, append-nil, take, length, Option, Some, None, IfSome, IfOk, Result, Ok, ◌<◌, ◌≤◌, ◌^◌, arith, map, option_map, inl, inr, IsUtf8, ◌||◌, ◌&&◌}
use Rattle.base_lists.proofs.Common.{nat_lt, option_or, and_parts, nat_tests, get, list_all, list_any, cons_option, bytes_eq, is_eq-slice_cmp, map_twice}
use Rattle.std.specs.FinMap.{insert, get-insert}
use Rattle.std.specs.Cmp.{eq_by_cmp_equiv}
use Rattle.std.proofs.lemmas.Cmp.{nat_list_cmp_total}
use Rattle.tool_io.specs.FilesAndSinks.{FileContents}
use Rattle.tools_cli_spec.specs.Prelude.{Text, Source, MergeTask, MetadceTask, SplitTask, CtorEvalTask, SampleTask, Task, Merge, Metadce, Split, CtorEval, Sample, task_of, many_of, modules_of, texts_of, inputs_of, are_apart, NamedFile, made, IsReadAs, IsAccepted, Job, Usage, Refused, Done}
use Rattle.tools_cli_spec.specs.Prelude.{Gathered, Whole, Lacks, TooLong, add_first, add_file, gathered, most_input, most_output, LoadsFile, loaded, faulty, invalid, AllLoad, Output, Decision, Refuses, Makes, Merges, not_linked, not_joined, merged, SweepsByGraph, no_graph, not_swept}
use Rattle.tools_cli_spec.specs.Prelude.{swept_by_marks, words_plan, Splits, no_plan, not_parted, parted, Evaluates, not_evaluated, evaluated, Samples, not_merged, sampled, sample_merge, sample_parts, Decides, is_within, spelled_output, job_of, module_files, contents_of, parts_of}
use Rattle.tools_cli_spec.specs.Prelude.{AreMerged, InputsJob, not_loaded, decided, TaskJob, not_begun, missing, too_long, all_read, HasJob, no_task, asked}
use Rattle.merge_names.specs.declared.mode.Mode.{Mode}
use Rattle.tools_cli_spec.specs.Job.{Missing, GivesMarks}
use Rattle.tools_cli_spec.specs.Faithful.{HoldModules, output_names, Findings, AreMade, equivalence, Holds, FurtherClaims, TaskIsSound, IsFaithful, SplitWordsAreText, HoldBytesAt, ReadsBytes}
use Rattle.tools_cli_proof.proofs.Memories.{one_memory}
use Rattle.tools_cli_proof.proofs.ReadBytes.{first_read}
use Rattle.wasm_bytes.specs.Prelude.{IsBytes}
use Rattle.eval_spec.specs.Prelude.{State}
use Rattle.eval_snapshot_proof.specs.Ranges.{BeginsInRange}
use Rattle.eval_snapshot_spec.specs.After.{IsAfter}
use Rattle.eval_snapshot_spec.specs.Evaluated.{evaluated_count, evaluated_tree, first_missing}
use Rattle.eval_snapshot_spec.specs.Snapshot.{snapshot}
use Rattle.tools_cli_spec.specs.Trees.{AreEvaluatedAsByTheMachine, TreesAreBounded, TreesAreSingle, TreesAreSnapshots, TreesAreValid, TreesBehave}
use Rattle.tools_cli_proof.proofs.WordTexts.{AreTexts, IsTextTask, IsCounted, task_is_text, task_writes_unlike, task_is_counted}
use Rattle.tools_cli_proof.proofs.SampleDecided.{output_names_are}
use Rattle.tools_cli_proof.proofs.SampleRanges.{first_in_range, second_in_range}
use Rattle.wasm_gen.specs.Laws.{SampleModulesAreValid}
use Rattle.base_lists.proofs.Texts.{same_texts}
use Rattle.wasm_names.specs.declared.func_name.FuncName.{FuncName}
use Rattle.split_plan.specs.PlannedMoves.{IsPlan, WhatIsPlannedIsAPlan, is_wanted}
use Rattle.split_spec.specs.declared.names.SplitNames.{SplitNames}
use Rattle.split_spec.specs.declared.faults.SplitFault.TheVariants.{NamespaceTaken, PrefixTaken, TooMany}
use Rattle.split_spec.specs.Prelude.{namespace_taken, prefix_taken, moved_params, too_many, split_fault, primary, primary_with, secondary, secondary_with}
use Rattle.split_proof.specs.Premises.{CanMove}
use Rattle.split_proof.specs.SplitLaws.{PairsCanBeSplit, SecondariesAlwaysLoad, SplitModuleEquivalent}
use Rattle.wasm_tree_spec.specs.Prelude.{Module, IsBounded, Which, limit, Trampolines, memory_zero_funcs}
use Rattle.wasm_valid.specs.Prelude.{IsValid, IsSingle}
use Rattle.base_lists.specs.Every.{Every}
use Rattle.wasm_read_spec.specs.Prelude.{Spells, Within}
use Rattle.wasm_meaning.specs.Prelude.{Part, module_at}
use Rattle.merge_spec.specs.Prelude.{link_fault, linked_world, joined_module, repeated_name, SeveralMemoriesAddNoFault}
use Rattle.merge_proof.specs.Joinable.{CanBeJoined}
use Rattle.merge_proof.specs.MergeEquivalence.{ObservationallyEquivalent}
use Rattle.dce_graph.specs.declared.graph.Graph.{Graph}
use Rattle.dce_graph.specs.declared.marks.Reached.{Reached}
use Rattle.dce_spec.specs.Marks.{Marks}
use Rattle.dce_spec.specs.Closed.{AreClosed}
use Rattle.dce_spec.specs.Swept.{swept}
use Rattle.dce_spec.specs.Reached.{marks_of}
use Rattle.dce_proof.specs.ReachedMarks.{ReachedMarksAreClosed}
use Rattle.dce_sweep.specs.Sweeps.{Sweeps, outcome}
use Rattle.dce_proof.specs.SweptModuleEquivalence.{SweptModuleEquivalent, ObservationallyEquivalent as BehavesAsUnswept}
use Rattle.merge_proof.specs.SequentialEquivalence.{SequentialInstantiationIsEquivalent}
use Rattle.merge_spec.specs.Joined.{outcome as merged_outcome}
use Rattle.module_limits.specs.Counts.{or_above, over_limit}
use Rattle.wasm_write_spec.specs.Plain.{plain}
use Rattle.wasm_write_proof.specs.Ranges.{InRange}
use Rattle.tools_cli_spec.specs.declared.evaluation.EvalFault.TheVariants as eval_fault

-- A part is valid, and a u32 can count what it has.
abbrev pub IsSound : Part → Type 0
IsSound p = IsValid p.«module» × IsBounded p.«module»

-- The numbers of a module are in range and its bodies name no memory but memory 0, so its canonical
-- encoding spells it.
abbrev IsWritable : Module → Type 0
IsWritable m = InRange m × IsTrue (memory_zero_funcs m.funcs)

-- The laws of other crates on the canonical encoding, on merged modules, on what a sweep leaves of
-- a module, on the modules of a split, and on a module after evaluated constructors.
pub record Respelled : Type 0 where
  pub plainly : (tree : Module) → IsWritable tree → length (plain tree) < 2 ^ 32 → Spells (plain tree) tree false
  pub ranges : (bytes : List ℕ) (tree : Module) → Spells bytes tree false → InRange tree
  pub bounded : (bytes : List ℕ) (tree : Module) → Spells bytes tree false → Within bytes false → IsBounded tree
  pub several : SeveralMemoriesAddNoFault
  pub valid : (parts : List Part) (mode : Mode) → CanBeJoined parts mode → IsValid (joined_module parts mode)
  pub single : (parts : List Part) (mode : Mode) → CanBeJoined parts mode → link_fault parts false ≡ None → IsSingle (joined_module parts mode)
  pub sizes : (parts : List Part) (mode : Mode) → CanBeJoined parts mode → IsBounded (joined_module parts mode)
  pub in_range : (parts : List Part) (mode : Mode) → Every (λ (p : Part). InRange p.«module») parts → IsValid (joined_module parts mode) → IsSingle (joined_module parts mode) → IsBounded (joined_module parts mode)
      → InRange (joined_module parts mode)
  pub memory : (parts : List Part) (mode : Mode) → IsValid (joined_module parts mode) → IsSingle (joined_module parts mode) → IsBounded (joined_module parts mode) → IsTrue (memory_zero_funcs (joined_module parts mode).funcs)
  pub same : (parts : List Part) (mode : Mode) → CanBeJoined parts mode → ObservationallyEquivalent parts mode (joined_module parts mode)
  pub turns : SequentialInstantiationIsEquivalent
  pub samples : SampleModulesAreValid
  pub closed : ReachedMarksAreClosed
  pub left_valid : (k : Marks) (m : Module) → IsValid m → AreClosed k m → IsValid (swept k m)
  pub left_single : (k : Marks) (m : Module) → IsValid m → AreClosed k m → IsSingle m → IsSingle (swept k m)
  pub left_sizes : (k : Marks) (m : Module) → IsValid m → AreClosed k m → IsBounded m → over_limit (swept k m) ≡ None → IsBounded (swept k m)
  pub left_in_range : (k : Marks) (m : Module) → InRange m → IsValid (swept k m) → IsSingle (swept k m) → IsBounded (swept k m) → InRange (swept k m)
  pub left_memory : (k : Marks) (m : Module) → IsValid (swept k m) → IsSingle (swept k m) → IsBounded (swept k m) → IsTrue (memory_zero_funcs (swept k m).funcs)
  pub left_same : SweptModuleEquivalent
  pub few_move : (namespace : ℕ → Text) (prefix : Text) (m : Module) (moved : List ℕ) → over_limit (primary_with namespace prefix m moved) ≡ None → length moved < 2 ^ 31
  pub primary_valid : (namespace : ℕ → Text) (prefix : Text) (m : Module) (moved : List ℕ) → IsValid m → IsBounded m → CanMove m moved → prefix_taken prefix m moved ≡ None → IsValid (primary_with namespace prefix m moved)
  pub primary_single : (namespace : ℕ → Text) (prefix : Text) (m : Module) (moved : List ℕ) → IsValid m → CanMove m moved → IsSingle m → IsSingle (primary_with namespace prefix m moved)
  pub primary_sizes : (namespace : ℕ → Text) (prefix : Text) (m : Module) (moved : List ℕ) → IsValid m → IsBounded m → CanMove m moved → over_limit (primary_with namespace prefix m moved) ≡ None → IsBounded (primary_with namespace prefix m moved)
  pub primary_in_range : (namespace : ℕ → Text) (prefix : Text) (m : Module) (moved : List ℕ) → ((slot : ℕ) → IsUtf8 (namespace slot)) → IsUtf8 prefix → InRange m → IsBounded m → length moved ≤ 2 ^ 31
      → IsValid (primary_with namespace prefix m moved) → IsSingle (primary_with namespace prefix m moved) → IsBounded (primary_with namespace prefix m moved) → InRange (primary_with namespace prefix m moved)
  pub primary_memory : (namespace : ℕ → Text) (prefix : Text) (m : Module) (moved : List ℕ) → IsValid (primary_with namespace prefix m moved) → IsSingle (primary_with namespace prefix m moved) → IsBounded (primary_with namespace prefix m moved)
      → IsTrue (memory_zero_funcs (primary_with namespace prefix m moved).funcs)
  pub planned : WhatIsPlannedIsAPlan
  pub pair_can : PairsCanBeSplit
  pub pair_same : SplitModuleEquivalent
  pub pair_loads : SecondariesAlwaysLoad
  pub secondary_valid : (names : SplitNames) (m : Module) (moved own : List ℕ) (before : ℕ) → IsValid m → CanMove m own → IsValid (secondary_with names m moved own before)
  pub secondary_single : (names : SplitNames) (m : Module) (moved own : List ℕ) (before : ℕ) → IsValid m → CanMove m own → IsSingle m → IsSingle (secondary_with names m moved own before)
  pub secondary_sizes : (names : SplitNames) (m : Module) (moved own : List ℕ) (before : ℕ) → IsValid m → IsBounded m → CanMove m own → over_limit (secondary_with names m moved own before) ≡ None → IsBounded (secondary_with names m moved own before)
  pub secondary_in_range : (names : SplitNames) (m : Module) (moved own : List ℕ) (before : ℕ) → IsUtf8 names.import_namespace → IsUtf8 names.export_prefix → InRange m → IsBounded m → length moved ≤ 2 ^ 31 → before < 2 ^ 31
      → IsValid (secondary_with names m moved own before) → IsSingle (secondary_with names m moved own before) → IsBounded (secondary_with names m moved own before) → InRange (secondary_with names m moved own before)
  pub secondary_memory : (names : SplitNames) (m : Module) (moved own : List ℕ) (before : ℕ) → IsValid (secondary_with names m moved own before) → IsSingle (secondary_with names m moved own before) → IsBounded (secondary_with names m moved own before)
      → IsTrue (memory_zero_funcs (secondary_with names m moved own before).funcs)
  pub begins : (bytes : List ℕ) (m : Module) → IsBytes bytes → Spells bytes m false → BeginsInRange m
  pub after_snapshots : TreesAreSnapshots
  pub after_valid : TreesAreValid
  pub after_single : TreesAreSingle
  pub after_sizes : TreesAreBounded
  pub after_behaves : TreesBehave
  pub after_runs : AreEvaluatedAsByTheMachine
  pub snapshot_in_range : (m : Module) (s : State) (evaluated kept : List Text) → IsValid m → InRange m → BeginsInRange m → IsAfter m evaluated s
      → IsValid (snapshot m s evaluated kept) → IsSingle (snapshot m s evaluated kept) → IsBounded (snapshot m s evaluated kept) → InRange (snapshot m s evaluated kept)
  pub memory_zero : (m : Module) → IsValid m → IsSingle m → IsTrue (memory_zero_funcs m.funcs)

both_of : (a b : Bool) → (not a && b) ≡ true → (a ≡ false) × (b ≡ true)
both_of false true e = (refl, refl)
both_of false false e = cc
both_of true true e = cc
both_of true false e = cc

sound_at : (P : Module → Type 0) → ((p : Part) → IsSound p → P p.«module») → (parts : List Part) → Every IsSound parts → (n : ℕ) (m : Module) → module_at parts n ≡ Some m → P m
sound_at P f [] h n m e = absurd (cc)
sound_at P f (p ∷ parts) h zero m e = let same : p.«module» ≡ m = cc in subst P same (f p h.0)
sound_at P f (p ∷ parts) h (suc n) m e = sound_at P f parts h.1 n m e

-- Parts that are joined have no conflict of names and no count above its limit, and the result is
-- the merged module.
pub joins_to : (name : Option Text) (which : Option Which) (m tree : Module) → merged_outcome name which m ≡ Ok tree → (name ≡ None) × (which ≡ None) × (m ≡ tree)
joins_to (Some name) which m tree e = absurd (cc)
joins_to None (Some which) m tree e = absurd (cc)
joins_to None None m tree e = let same : m ≡ tree = cc in (refl, refl, same)

merged_is_sound : Respelled → (parts : List Part) (mode : Mode) (tree : Module) → Every IsSound parts → Every (λ (p : Part). InRange p.«module») parts → AreMerged false parts mode tree → IsAccepted false tree × IsWritable tree × ObservationallyEquivalent parts mode tree
merged_is_sound k parts mode tree sound ranged is =
    let joins = joins_to (repeated_name parts mode) (over_limit (joined_module parts mode)) (joined_module parts mode) tree is.1 in
    let can : CanBeJoined parts mode = record {
      valid = sound_at IsValid (λ p h. h.0) parts sound;
      bounded = sound_at IsBounded (λ p h. h.1) parts sound;
      linked = k.several parts false is.0;
      names = joins.0;
      sizes = joins.1;
    } in
    let valid = k.valid parts mode can in
    let single = k.single parts mode can is.0 in
    let P : Module → Type 0 = λ m. IsAccepted false m × IsWritable m × ObservationallyEquivalent parts mode m in
    subst P joins.2 (record { valid = valid; single = λ e. single }, (k.in_range parts mode ranged valid single (k.sizes parts mode can), k.memory parts mode valid single (k.sizes parts mode can)), k.same parts mode can)

-- Gathered files begin with the file of the first name, and the rest is gathered of the other
-- names.
abbrev pub IsFirstFile : Text → Option Text → (ℕ → Gathered) → List NamedFile → Type 0
IsFirstFile name held rest files = (bytes : Text) × (n : ℕ) × (more : List NamedFile) × (held ≡ Some bytes) × (rest n ≡ Whole more) × (files ≡ (name, bytes) ∷ more)

pub whole_is : (xs ys : List NamedFile) → Whole xs ≡ Whole ys → xs ≡ ys
whole_is xs ys e = cc

first_of_whole : (name bytes : Text) (n : ℕ) (rest : ℕ → Gathered) (g : Gathered) (files : List NamedFile) → g ≡ rest n → add_first (name, bytes) g ≡ Whole files → IsFirstFile name (Some bytes) rest files
first_of_whole name bytes n rest (Whole more) files is e = (bytes, n, more, refl, sym is, sym (whole_is ((name, bytes) ∷ more) files e))
first_of_whole name bytes n rest (Lacks lacking) files is e = absurd (cc)
first_of_whole name bytes n rest (TooLong long) files is e = absurd (cc)

pub short_enough : (b : Bool) (name : Text) (g : Gathered) (files : List NamedFile) → cond b (TooLong name) g ≡ Whole files → g ≡ Whole files
short_enough true name g files e = absurd (cc)
short_enough false name g files e = e

first_file : (name : Text) (left : ℕ) (held : Option Text) (rest : ℕ → Gathered) (files : List NamedFile) → add_file name left held rest ≡ Whole files → IsFirstFile name held rest files
first_file name left None rest files e = absurd (cc)
first_file name left (Some bytes) rest files e =
    first_of_whole name bytes (left - length bytes) rest (rest (left - length bytes)) files refl (short_enough (ltb left (length bytes)) name (add_first (name, bytes) (rest (left - length bytes))) files e)

-- The gathered contents are those of the files.
pub gathered_held : (files : FileContents) (names : List Text) (most : ℕ) (inputs : List NamedFile) → gathered names files most ≡ Whole inputs → map (get files) names ≡ map (λ (e : NamedFile). Some e.1) inputs
gathered_held files [] most inputs e = ap (map (λ (e : NamedFile). Some e.1)) (whole_is [] inputs e)
gathered_held files (name ∷ names) most inputs e =
    let (bytes, n, more, there, rest, is) = first_file name most (get files name) (gathered names files) inputs e in
    ap (λ (o : Option Text). o ∷ map (get files) names) there ∙ ap (λ (l : List (Option Text)). Some bytes ∷ l) (gathered_held files names n more rest) ∙ ap (map (λ (e : NamedFile). Some e.1)) (sym is)

-- A tree that is loaded is read from the bytes and accepted.
loaded_is : (many : Bool) (file bytes : Text) (r : Result Module Text) → LoadsFile many file bytes r → IfOk r (λ tree. IsReadAs many bytes tree × IsAccepted many tree)
loaded_is many file bytes r (loaded tree h accepted) = (h, accepted)
loaded_is many file bytes r (faulty fault text e told) = tt
loaded_is many file bytes r (invalid tree item h first) = tt

-- Files that load hold the modules. More files may be read behind them.
no_trees : (many : Bool) (before : FileContents) (trees : List Module) → AllLoad many [] trees → HoldModules many before [] trees
no_trees many before [] h = tt
no_trees many before (tree ∷ trees) h = absurd h

hold_first : (many : Bool) (before : FileContents) (name : Text) (names more : List Text) (files : List NamedFile) (trees : List Module) → IsFirstFile name (get before name) (gathered (names ++ more) before) files
    → AllLoad many (take (suc (length names)) files) trees
    → ((n : ℕ) (rest : List NamedFile) (trees : List Module) → gathered (names ++ more) before n ≡ Whole rest → AllLoad many (take (length names) rest) trees → HoldModules many before names trees)
    → HoldModules many before (name ∷ names) trees
hold_first many before name names more files [] (bytes, n, rest, held, are, is) h later = let P : List NamedFile → Type 0 = λ l. AllLoad many (take (suc (length names)) l) [] in absurd (subst P is h)
hold_first many before name names more files (tree ∷ trees) (bytes, n, rest, held, are, is) h later =
    let P : List NamedFile → Type 0 = λ l. AllLoad many (take (suc (length names)) l) (tree ∷ trees) in
    let loads : LoadsFile many name bytes (Ok tree) × AllLoad many (take (length names) rest) trees = subst P is h in
    ((bytes, held, (loaded_is many name bytes (Ok tree) loads.0).0.spelled), later n rest trees are loads.1)

pub files_hold : (many : Bool) (before : FileContents) (names more : List Text) (most : ℕ) (files : List NamedFile) (trees : List Module) → gathered (names ++ more) before most ≡ Whole files → AllLoad many (take (length names) files) trees → HoldModules many before names trees
files_hold many before [] more most files trees e h = no_trees many before trees h
files_hold many before (name ∷ names) more most files trees e h =
    hold_first many before name names more files trees (first_file name most (get before name) (gathered (names ++ more) before) files e) h (λ n rest trees e h. files_hold many before names more n rest trees e h)

-- The parts of a merge are sound and their numbers are in range.
loaded_sound : Respelled → (file bytes : Text) (tree : Module) (name : Option Text) → LoadsFile false file bytes (Ok tree) → IsSound (record { name = name; «module» = tree }) × InRange tree
loaded_sound k file bytes tree name h =
    let is = loaded_is false file bytes (Ok tree) h in
    ((is.1.valid, k.bounded bytes tree is.0.spelled is.0.within), k.ranges bytes tree is.0.spelled)

parts_sound : Respelled → (sources : List Source) (files : List NamedFile) (trees : List Module) → AllLoad false files trees → Every IsSound (parts_of sources trees)
parts_sound k [] files trees h = tt
parts_sound k (s ∷ sources) files [] h = tt
parts_sound k (s ∷ sources) [] (tree ∷ trees) h = absurd h
parts_sound k (s ∷ sources) (file ∷ files) (tree ∷ trees) h = ((loaded_sound k file.0 file.1 tree (Some s.name) h.0).0, parts_sound k sources files trees h.1)

parts_in_range : Respelled → (sources : List Source) (files : List NamedFile) (trees : List Module) → AllLoad false files trees → Every (λ (p : Part). InRange p.«module») (parts_of sources trees)
parts_in_range k [] files trees h = tt
parts_in_range k (s ∷ sources) files [] h = tt
parts_in_range k (s ∷ sources) [] (tree ∷ trees) h = absurd h
parts_in_range k (s ∷ sources) (file ∷ files) (tree ∷ trees) h = ((loaded_sound k file.0 file.1 tree (Some s.name) h.0).1, parts_in_range k sources files trees h.1)

-- ---- what a task makes is sound ----

abbrev output_trees : List Output → List Module
output_trees outputs = map (λ (o : Output). o.tree) outputs

-- An output is valid, and its canonical encoding, without custom sections, spells it.
abbrev IsSoundOutput : Bool → Output → Type 0
IsSoundOutput many o = IsAccepted many o.tree × IsWritable o.tree × (o.custom ≡ [])

-- A task makes these outputs soundly. This is all that faithfulness asks for, except for the
-- contents of the files.
pub record MakesSoundly (task : Task) (trees : List Module) (contents : List Text) (outputs : List Output) : Type 0 where
  pub found : Findings task
  pub made : AreMade task trees contents found (output_trees outputs)
  pub names : map (λ (o : Output). o.name) outputs ≡ output_names task contents
  pub each : Every (IsSoundOutput (many_of task)) outputs
  pub behaves : IfSome (equivalence task found trees (output_trees outputs)) Holds
  pub also : FurtherClaims task found trees (output_trees outputs)

abbrev IsSoundDecision : (task : Task) → (trees : List Module) → (contents : List Text) → Decision → Type 0
IsSoundDecision task trees contents (Refuses text) = Unit {0}
IsSoundDecision task trees contents (Makes outputs lines) = MakesSoundly task trees contents outputs

merge_is_sound : Respelled → (merge : MergeTask) (contents : List Text) (files : List NamedFile) (trees : List Module) (decision : Decision) → AllLoad false files trees → Merges merge trees decision → IsSoundDecision (Merge merge) trees contents decision
merge_is_sound k merge contents files trees decision loads (not_linked fault text found says) = tt
merge_is_sound k merge contents files trees decision loads (not_joined fault text linked found says) = tt
merge_is_sound k merge contents files trees decision loads (merged tree is) =
    let parts = parts_of merge.sources trees in
    let sources_sound = parts_sound k merge.sources files trees loads in
    let sound = merged_is_sound k parts merge.mode tree sources_sound (parts_in_range k merge.sources files trees loads) is in
    record {
      found = tt;
      made = is;
      names = refl;
      each = ((sound.0, sound.1, refl), tt);
      behaves = λ env is named moves n. sound.2 env is tt moves n;
      also = k.turns (linked_world parts merge.mode) (sound_at IsValid (λ p h. h.0) parts sources_sound);
    }

-- ---- what is left of a module ----

pub sweeps_to : (which : Option Which) (m left : Module) → outcome which m ≡ Ok left → (which ≡ None) × (m ≡ left)
sweeps_to (Some which) m left e = absurd (cc)
sweeps_to None m left e = let same : m ≡ left = cc in (refl, same)

left_is_sound : Respelled → (marks : Marks) (file bytes : Text) (tree left : Module) → LoadsFile false file bytes (Ok tree) → AreClosed marks tree → Sweeps marks tree (Ok left) → IsAccepted false left × IsWritable left × BehavesAsUnswept marks tree left
left_is_sound k marks file bytes tree left loads closed is =
    let sweeps = sweeps_to (over_limit (swept marks tree)) (swept marks tree) left is in
    let loaded = loaded_is false file bytes (Ok tree) loads in
    let bounded = k.bounded bytes tree loaded.0.spelled loaded.0.within in
    let valid = k.left_valid marks tree loaded.1.valid closed in
    let single = k.left_single marks tree loaded.1.valid closed (loaded.1.single refl) in
    let sizes = k.left_sizes marks tree loaded.1.valid closed bounded sweeps.0 in
    let P : Module → Type 0 = λ m. IsAccepted false m × IsWritable m × BehavesAsUnswept marks tree m in
    subst P sweeps.1 (
      record { valid = valid; single = λ e. single },
      (k.left_in_range marks tree (k.ranges bytes tree loaded.0.spelled) valid single sizes, k.left_memory marks tree valid single sizes),
      k.left_same marks tree loaded.1.valid closed,
    )

left_makes : Respelled → (metadce : MetadceTask) (file text : NamedFile) (tree left : Module) (graph : Graph) (marks : Reached) → LoadsFile false file.0 file.1 (Ok tree) → GivesMarks text.1 tree graph marks → Sweeps (marks_of marks) tree (Ok left)
    → MakesSoundly (Metadce metadce) (tree ∷ []) (file.1 ∷ text.1 ∷ []) (record { name = metadce.output; tree = left; custom = [] } ∷ [])
left_makes k metadce file text tree left graph marks loads is left_is =
    let loaded = loaded_is false file.0 file.1 (Ok tree) loads in
    let sound = left_is_sound k (marks_of marks) file.0 file.1 tree left loads (k.closed graph tree marks loaded.1.valid is.exact) left_is in
    record {
      found = marks;
      made = (graph, is, left_is);
      names = refl;
      each = ((sound.0, sound.1, refl), tt);
      behaves = sound.2;
      also = tt;
    }

sweeping_is_sound : Respelled → (metadce : MetadceTask) (file text : NamedFile) (tree : Module) (decision : Decision) → LoadsFile false file.0 file.1 (Ok tree) → SweepsByGraph metadce tree text.1 decision
    → IsSoundDecision (Metadce metadce) (tree ∷ []) (file.1 ∷ text.1 ∷ []) decision
sweeping_is_sound k metadce file text tree decision loads (no_graph fault says found told) = tt
sweeping_is_sound k metadce file text tree decision loads (not_swept graph marks fault says is found told) = tt
sweeping_is_sound k metadce file text tree decision loads (swept_by_marks graph marks left unused is found lists) = left_makes k metadce file text tree left graph marks loads is found

metadce_is_sound : Respelled → (metadce : MetadceTask) (files : List NamedFile) (trees : List Module) (decision : Decision) → AllLoad false (module_files (Metadce metadce) files) trees → Decides (Metadce metadce) trees (contents_of files) decision
    → IsSoundDecision (Metadce metadce) trees (contents_of files) decision
metadce_is_sound k metadce files [] decision loads h = absurd h
metadce_is_sound k metadce [] (tree ∷ []) decision loads h = absurd h
metadce_is_sound k metadce (file ∷ []) (tree ∷ []) decision loads h = absurd h
metadce_is_sound k metadce (file ∷ text ∷ []) (tree ∷ []) decision loads h = sweeping_is_sound k metadce file text tree decision loads.0 h
metadce_is_sound k metadce (file ∷ text ∷ other ∷ files) (tree ∷ []) decision loads h = absurd h
metadce_is_sound k metadce files (tree ∷ other ∷ trees) decision loads h = absurd h

-- ---- both modules of a split ----

-- Two tests have no fault if the first fault of both is none.
pub none_of_both : {A : Type 0} (a b : Option A) → option_or a b ≡ None → (a ≡ None) × (b ≡ None)
none_of_both None b e = (refl, e)
none_of_both (Some x) b e = absurd (cc)

pub none_from : {A B : Type 0} (f : A → B) (o : Option A) → option_map f o ≡ None → o ≡ None
none_from f None e = refl
none_from f (Some x) e = absurd (cc)

-- No later count is above its limit if no count is.
none_behind : (n : ℕ) (which : Which) (a b : Option Which) → or_above n which (option_or a b) ≡ None → (a ≡ None) × (b ≡ None)
none_behind n which a b e = by (nat_lt (limit which) n) e
  where
    by : (over : Bool) → cond over (Some which) (option_or a b) ≡ None → (a ≡ None) × (b ≡ None)
    by true e = absurd (cc)
    by false e = none_of_both a b e

-- Neither the namespace nor an added name is taken, and no count of either module is above its
-- limit.
record HasNoFault (names : SplitNames) (m : Module) (moved : List ℕ) : Type 0 where
  pub namespace : namespace_taken names.placeholder_namespace m ≡ None
  pub prefix : prefix_taken names.export_prefix m moved ≡ None
  pub primary_fits : over_limit (primary names m moved) ≡ None
  pub secondary_fits : over_limit (secondary names m moved) ≡ None

no_fault : (names : SplitNames) (m : Module) (moved : List ℕ) → split_fault names m moved ≡ None → HasNoFault names m moved
no_fault names m moved e =
    let first = none_of_both (option_map NamespaceTaken (namespace_taken names.placeholder_namespace m)) (option_or (option_map PrefixTaken (prefix_taken names.export_prefix m moved)) (option_map TooMany (too_many names m moved))) e in
    let second = none_of_both (option_map PrefixTaken (prefix_taken names.export_prefix m moved)) (option_map TooMany (too_many names m moved)) first.1 in
    let both = none_behind (moved_params m moved) Trampolines (over_limit (primary names m moved)) (over_limit (secondary names m moved)) (none_from TooMany (too_many names m moved) second.1) in
    record { namespace = none_from NamespaceTaken (namespace_taken names.placeholder_namespace m) first.0; prefix = none_from PrefixTaken (prefix_taken names.export_prefix m moved) second.0; primary_fits = both.0; secondary_fits = both.1 }

-- The plan that the words of a split give is a plan of the module.
plan_shaped : Respelled → (split : SplitTask) (tree : Module) (names : List FuncName) → IsPlan tree (words_plan split tree names)
plan_shaped k split tree names = k.planned tree (is_wanted tree names split.words.split split.words.keep)

can_move : Respelled → (split : SplitTask) (tree : Module) (names : List FuncName) → CanMove tree (words_plan split tree names).moved
can_move k split tree names = (plan_shaped k split tree names).moved

pair_is_sound : Respelled → (names : SplitNames) (bytes : Text) (tree : Module) (moved : List ℕ) → AreTexts names → IsReadAs false bytes tree → IsAccepted false tree → CanMove tree moved → HasNoFault names tree moved
    → (IsAccepted false (secondary names tree moved) × IsWritable (secondary names tree moved)) × (IsAccepted false (primary names tree moved) × IsWritable (primary names tree moved))
pair_is_sound k names bytes tree moved text read accepted can none =
    let namespace : ℕ → Text = λ slot. names.placeholder_namespace in
    let prefix = names.export_prefix in
    let bounded = k.bounded bytes tree read.spelled read.within in
    let ranges = k.ranges bytes tree read.spelled in
    let single = accepted.single refl in
    let below = k.few_move namespace prefix tree moved none.primary_fits in
    let few : length moved ≤ 2 ^ 31 = omega arith in
    let first_valid = k.secondary_valid names tree moved moved 0 accepted.valid can in
    let first_single = k.secondary_single names tree moved moved 0 accepted.valid can single in
    let first_sizes = k.secondary_sizes names tree moved moved 0 accepted.valid bounded can none.secondary_fits in
    let second_valid = k.primary_valid namespace prefix tree moved accepted.valid bounded can none.prefix in
    let second_single = k.primary_single namespace prefix tree moved accepted.valid can single in
    let second_sizes = k.primary_sizes namespace prefix tree moved accepted.valid bounded can none.primary_fits in (
      (
        record { valid = first_valid; single = λ e. first_single },
        (k.secondary_in_range names tree moved moved 0 text.0 text.2 ranges bounded few (omega arith) first_valid first_single first_sizes, k.secondary_memory names tree moved moved 0 first_valid first_single first_sizes),
      ),
      (
        record { valid = second_valid; single = λ e. second_single },
        (k.primary_in_range namespace prefix tree moved (λ slot. text.1) text.2 ranges bounded few second_valid second_single second_sizes, k.primary_memory namespace prefix tree moved second_valid second_single second_sizes),
      ),
    )

splitting_is_sound : Respelled → (split : SplitTask) (file : NamedFile) (tree : Module) (decision : Decision) → AreTexts split.names → LoadsFile false file.0 file.1 (Ok tree) → Splits split tree file.1 decision
    → IsSoundDecision (Split split) (tree ∷ []) (file.1 ∷ []) decision
splitting_is_sound k split file tree decision text loads (no_plan names fault says named found told) = tt
splitting_is_sound k split file tree decision text loads (not_parted names fault says given found told) = tt
splitting_is_sound k split file tree decision text loads (parted names given none) =
    let loaded = loaded_is false file.0 file.1 (Ok tree) loads in
    let moved = (words_plan split tree names).moved in
    let free = no_fault split.names tree moved none in
    let sound = pair_is_sound k split.names file.1 tree moved text loaded.0 loaded.1 (can_move k split tree names) free in
    let namespace : ℕ → Text = λ slot. split.names.placeholder_namespace in
    let can = k.pair_can split.names tree moved loaded.1.valid (k.bounded file.1 tree loaded.0.spelled loaded.0.within) (can_move k split tree names) (plan_shaped k split tree names).moved_ascend free.namespace free.prefix in
    record {
      found = names;
      made = (given, none, refl, refl);
      names = refl;
      each = ((sound.0.0, sound.0.1, refl), ((sound.1.0, sound.1.1, refl), tt));
      behaves = λ env is named moves n. k.pair_same namespace split.names tree moved (moved ∷ []) can env is tt moves n;
      also = k.pair_loads namespace split.names tree moved (moved ∷ []) can;
    }

split_is_sound : Respelled → (split : SplitTask) (files : List NamedFile) (trees : List Module) (decision : Decision) → AreTexts split.names → AllLoad false (module_files (Split split) files) trees → Decides (Split split) trees (contents_of files) decision
    → IsSoundDecision (Split split) trees (contents_of files) decision
split_is_sound k split files [] decision text loads h = absurd h
split_is_sound k split [] (tree ∷ []) decision text loads h = absurd h
split_is_sound k split (file ∷ []) (tree ∷ []) decision text loads h = splitting_is_sound k split file tree decision text loads.0 h
split_is_sound k split (file ∷ other ∷ files) (tree ∷ []) decision text loads h = absurd h
split_is_sound k split files (tree ∷ other ∷ trees) decision text loads h = absurd h

-- ---- the module after evaluated constructors ----

after_in_range : Respelled → (m : Module) (names kept : List Text) → first_missing m names ≡ None → IsValid m → InRange m → BeginsInRange m → IsValid (evaluated_tree m names kept) → IsSingle (evaluated_tree m names kept) → IsBounded (evaluated_tree m names kept)
    → InRange (evaluated_tree m names kept)
after_in_range k m names kept there valid ranges begins after single sizes = elim (k.after_snapshots m names kept there) [
  | inl is ↦ subst InRange (sym is.tree) (k.snapshot_in_range m is.state (take (evaluated_count m names) names) kept valid ranges begins is.after (subst IsValid is.tree after) (subst IsSingle is.tree single) (subst IsBounded is.tree sizes))
  | inr e ↦ subst InRange (sym e) ranges
]

evaluating_is_sound : Respelled → (eval : CtorEvalTask) (file : NamedFile) (tree : Module) (decision : Decision) → IsBytes file.1 → LoadsFile false file.0 file.1 (Ok tree) → Evaluates eval tree decision
    → IsSoundDecision (CtorEval eval) (tree ∷ []) (file.1 ∷ []) decision
evaluating_is_sound k eval file tree decision are loads (not_evaluated fault says found told) = tt
evaluating_is_sound k eval file tree decision are loads (evaluated none) =
    let loaded = loaded_is false file.0 file.1 (Ok tree) loads in
    let after = evaluated_tree tree eval.ctors eval.kept in
    let both = none_of_both (option_map eval_fault.NoSuchExport (first_missing tree eval.ctors)) (option_map eval_fault.TooMany (over_limit after)) none in
    let there = none_from eval_fault.NoSuchExport (first_missing tree eval.ctors) both.0 in
    let within = none_from eval_fault.TooMany (over_limit after) both.1 in
    let bounded = k.bounded file.1 tree loaded.0.spelled loaded.0.within in
    let valid = k.after_valid tree eval.ctors eval.kept there loaded.1.valid in
    let single = k.after_single tree eval.ctors eval.kept there (loaded.1.single refl) in
    let sizes = k.after_sizes tree eval.ctors eval.kept there loaded.1.valid bounded within in
    let ranges = after_in_range k tree eval.ctors eval.kept there loaded.1.valid (k.ranges file.1 tree loaded.0.spelled) (k.begins file.1 tree are loaded.0.spelled) valid single sizes in
    record {
      found = tt;
      made = (none, refl);
      names = refl;
      each = ((record { valid = valid; single = λ e. single }, (ranges, k.memory_zero after valid single), refl), tt);
      behaves = k.after_behaves tree eval.ctors eval.kept there loaded.1.valid (k.begins file.1 tree are loaded.0.spelled);
      also = k.after_runs tree eval.ctors eval.kept there loaded.1.valid;
    }

eval_is_sound : Respelled → (eval : CtorEvalTask) (files : List NamedFile) (trees : List Module) (decision : Decision) → ((bytes : Text) (more : List Text) → contents_of files ≡ bytes ∷ more → IsBytes bytes)
    → AllLoad false (module_files (CtorEval eval) files) trees → Decides (CtorEval eval) trees (contents_of files) decision → IsSoundDecision (CtorEval eval) trees (contents_of files) decision
eval_is_sound k eval files [] decision are loads h = absurd h
eval_is_sound k eval [] (tree ∷ []) decision are loads h = absurd h
eval_is_sound k eval (file ∷ []) (tree ∷ []) decision are loads h = evaluating_is_sound k eval file tree decision (are file.1 [] refl) loads.0 h
eval_is_sound k eval (file ∷ other ∷ files) (tree ∷ []) decision are loads h = absurd h
eval_is_sound k eval files (tree ∷ other ∷ trees) decision are loads h = absurd h

-- ---- what a sample's modules are merged into ----

sample_sound : Respelled → (sample : SampleTask) → IsCounted (Sample sample) → Every IsSound (sample_parts sample)
sample_sound k sample (some, few) = let both = k.samples sample.seed sample.count some few in (both.0, (both.1, tt))

sample_in_range : (sample : SampleTask) → IsCounted (Sample sample) → Every (λ (p : Part). InRange p.«module») (sample_parts sample)
sample_in_range sample (some, few) = (first_in_range sample.seed sample.count few, (second_in_range sample.seed sample.count some few, tt))

-- The output of a sample, if there is one, is the merge of its parts and is sound.
abbrev IsEachMerged : SampleTask → Module → List Output → Type 0
IsEachMerged sample tree outputs =
    Every (AreMerged false (sample_parts sample) sample_merge.mode) (output_trees outputs) × Every (IsSoundOutput false) outputs
    × IfSome (equivalence (Sample sample) tt [] (output_trees outputs)) Holds

each_merged : (sample : SampleTask) (tree : Module) → AreMerged false (sample_parts sample) sample_merge.mode tree → IsAccepted false tree × IsWritable tree × ObservationallyEquivalent (sample_parts sample) sample_merge.mode tree
    → (o : Option Text) → IsEachMerged sample tree (cons_option (option_map (λ name. record { name = name; tree = tree; custom = [] }) o) [])
each_merged sample tree is sound None = (tt, tt, tt)
each_merged sample tree is sound (Some name) = ((is, tt), ((sound.0, sound.1, refl), tt), λ env is named moves n. sound.2 env is tt moves n)

samples_soundly : Respelled → (sample : SampleTask) (decision : Decision) → IsCounted (Sample sample) → Samples sample decision → IsSoundDecision (Sample sample) [] [] decision
samples_soundly k sample decision counted (not_merged text h) = tt
samples_soundly k sample decision counted (sampled tree is) =
    let parts = sample_parts sample in
    let sources_sound = sample_sound k sample counted in
    let sound = merged_is_sound k parts sample_merge.mode tree sources_sound (sample_in_range sample counted) is in
    let each = each_merged sample tree is sound sample.output in
    record {
      found = tt;
      made = each.0;
      names = output_names_are sample.output tree;
      each = each.1;
      behaves = each.2;
      also = k.turns (linked_world parts sample_merge.mode) (sound_at IsValid (λ p h. h.0) parts sources_sound);
    }

sample_is_sound : Respelled → (sample : SampleTask) (trees : List Module) (contents : List Text) (decision : Decision) → IsCounted (Sample sample) → Decides (Sample sample) trees contents decision → IsSoundDecision (Sample sample) trees contents decision
sample_is_sound k sample [] [] decision counted h = samples_soundly k sample decision counted h
sample_is_sound k sample [] (bytes ∷ more) decision counted h = absurd h
sample_is_sound k sample (tree ∷ trees) contents decision counted h = absurd h

-- ---- all commands ----

decision_is_sound : Respelled → (task : Task) (files : List NamedFile) (trees : List Module) (decision : Decision) → IsTextTask task → IsCounted task → ((bytes : Text) (more : List Text) → contents_of files ≡ bytes ∷ more → IsBytes bytes) → AllLoad (many_of task) (module_files task files) trees →
    Decides task trees (contents_of files) decision
    → IsSoundDecision task trees (contents_of files) decision
decision_is_sound k (Merge merge) files trees decision text counted are loads h = merge_is_sound k merge (contents_of files) (module_files (Merge merge) files) trees decision loads h
decision_is_sound k (Metadce metadce) files trees decision text counted are loads h = metadce_is_sound k metadce files trees decision loads h
decision_is_sound k (Split split) files trees decision text counted are loads h = split_is_sound k split files trees decision text loads h
decision_is_sound k (CtorEval eval) files trees decision text counted are loads h = eval_is_sound k eval files trees decision are loads h
decision_is_sound k (Sample sample) files trees decision text counted are loads h = sample_is_sound k sample trees (contents_of files) decision counted h

-- No two outputs of a task have the same name.
abbrev AreOutputsApart : Task → Type 0
AreOutputsApart task = (contents : List Text) → are_apart (output_names task contents) ≡ true

outputs_apart : (words : List Text) (task : Task) → task_of words ≡ Some task → AreOutputsApart task
outputs_apart words (Merge merge) e contents = refl
outputs_apart words (Metadce metadce) e contents = refl
outputs_apart words (CtorEval eval) e contents = refl
outputs_apart words (Split split) e contents = ap (λ b. not (b || false) && true) (same_texts.symm split.outputs.secondary split.outputs.primary ∙ task_writes_unlike words (Split split) e)
outputs_apart words (Sample sample) e contents = by sample.output
  where
    by : (o : Option Text) → are_apart (cons_option o []) ≡ true
    by None = refl
    by (Some name) = refl

-- ---- what is written ----

-- The file that was just written holds its bytes, and a file of another name is unchanged.
pub written_there : (files : FileContents) (name bytes : Text) → get (insert files name bytes) name ≡ Some bytes
written_there files name bytes = get-insert nat_list_cmp_total files name bytes name ∙ ap (λ b. cond b (Some bytes) (get files name)) ((eq_by_cmp_equiv nat_list_cmp_total).refl name)

pub written_elsewhere : (files : FileContents) (name other bytes : Text) → bytes_eq name other ≡ false → get (insert files other bytes) name ≡ get files name
written_elsewhere files name other bytes e =
    get-insert nat_list_cmp_total files other bytes name ∙ ap (λ b. cond b (Some bytes) (get files name)) (is_eq-slice_cmp name other ∙ e)

unlike_first : (name other : Text) (names : List Text) → list_any (bytes_eq name) (other ∷ names) ≡ false → (bytes_eq name other ≡ false) × (list_any (bytes_eq name) names ≡ false)
unlike_first name other names e = by (bytes_eq name other) (list_any (bytes_eq name) names) e
  where
    by : (a b : Bool) → (a || b) ≡ false → (a ≡ false) × (b ≡ false)
    by false false e = (refl, refl)
    by false true e = cc
    by true false e = cc
    by true true e = cc

others_stay : (name : Text) (outputs : List Output) (files : FileContents) → list_any (bytes_eq name) (map (λ (o : Output). o.name) outputs) ≡ false → get (made (map spelled_output outputs) files) name ≡ get files name
others_stay name [] files e = refl
others_stay name (o ∷ outputs) files e =
    let unlike = unlike_first name o.name (map (λ (o : Output). o.name) outputs) e in
    others_stay name outputs (insert files o.name (plain o.tree ++ o.custom)) unlike.1 ∙ written_elsewhere files name o.name (plain o.tree ++ o.custom) unlike.0

-- A sound output within the limit is spelled by its canonical encoding.
output_spells : Respelled → (o : Output) → is_within o ≡ true → IsSoundOutput false o → Spells (plain o.tree ++ o.custom) o.tree false
output_spells k o within is =
    let short : length (plain o.tree) < 2 ^ 32 = few (ltb most_output (length (plain o.tree))) refl within in
    let P : Text → Type 0 = λ t. Spells t o.tree false in
    subst P (sym (append-nil (plain o.tree)) ∙ ap (λ c. plain o.tree ++ c) (sym is.2)) (k.plainly o.tree is.1 short)
  where
    few : (b : Bool) → ltb most_output (length (plain o.tree)) ≡ b → not b ≡ true → length (plain o.tree) < 2 ^ 32
    few true e h = cc
    few false e h = grind (arith, nat_tests)

-- Each file spells its output after all writes, if the outputs have distinct names.
outputs_written : Respelled → (outputs : List Output) (files : FileContents) → are_apart (map (λ (o : Output). o.name) outputs) ≡ true → list_all is_within outputs ≡ true → Every (IsSoundOutput false) outputs
    → HoldModules false (made (map spelled_output outputs) files) (map (λ (o : Output). o.name) outputs) (output_trees outputs)
outputs_written k [] files apart within each = tt
outputs_written k (o ∷ outputs) files apart within each =
    let unlike = both_of (list_any (bytes_eq o.name) (map (λ (o : Output). o.name) outputs)) (are_apart (map (λ (o : Output). o.name) outputs)) apart in
    let fit = and_parts (is_within o) (list_all is_within outputs) within in
    let bytes = plain o.tree ++ o.custom in
    ((bytes, others_stay o.name outputs (insert files o.name bytes) unlike.0 ∙ written_there files o.name bytes, output_spells k o fit.0 each.0), outputs_written k outputs (insert files o.name bytes) unlike.1 fit.1 each.1)

each_accepted : (many : Bool) (outputs : List Output) → Every (IsSoundOutput many) outputs → Every (IsAccepted many) (output_trees outputs)
each_accepted many [] h = tt
each_accepted many (o ∷ outputs) h = (h.0.0, each_accepted many outputs h.1)

-- ---- what a job that is done keeps ----

abbrev pub JobKeeps : List Text → FileContents → Job → Type 0
JobKeeps words before (Done writes lines) = IsFaithful words before (made writes before)
JobKeeps words before Usage = Unit {0}
JobKeeps words before Missing = Unit {0}
JobKeeps words before (Refused text) = Unit {0}

abbrev pub JobKept : Task → FileContents → Job → Type 0
JobKept task before (Done writes lines) = TaskIsSound task before (made writes before)
JobKept task before Usage = Unit {0}
JobKept task before Missing = Unit {0}
JobKept task before (Refused text) = Unit {0}

-- The files hold the outputs under the names of the task, whether it allows several memories or
-- not.
held_by_name : (many : Bool) (after : FileContents) (names others : List Text) (trees : List Module) → many ≡ false → names ≡ others → HoldModules false after names trees → HoldModules many after others trees
held_by_name many after names others trees one same h =
    let P : Bool → Type 0 = λ b. HoldModules b after others trees in
    let Q : List Text → Type 0 = λ l. HoldModules false after l trees in
    subst P (sym one) (subst Q same h)

task_written : Respelled → (task : Task) (trees : List Module) (contents : List Text) (outputs : List Output) (before : FileContents) → AreOutputsApart task → MakesSoundly task trees contents outputs → list_all is_within outputs ≡ true
    → HoldModules (many_of task) (made (map spelled_output outputs) before) (output_names task contents) (output_trees outputs)
task_written k task trees contents outputs before apart sound within =
    let P : List Text → Type 0 = λ l. are_apart l ≡ true in
    let Q : Bool → Type 0 = λ b. Every (IsSoundOutput b) outputs in
    held_by_name (many_of task) (made (map spelled_output outputs) before) (map (λ (o : Output). o.name) outputs) (output_names task contents) (output_trees outputs) (one_memory task) sound.names
    (outputs_written k outputs before (subst P (sym sound.names) (apart contents)) within (subst Q (one_memory task) sound.each))

makes_keep : Respelled → (task : Task) (before : FileContents) (files : List NamedFile) (trees : List Module) (outputs : List Output) (lines refusal : Text) (b : Bool) → AreOutputsApart task → gathered (inputs_of task) before most_input ≡ Whole files
    → AllLoad (many_of task) (module_files task files) trees → MakesSoundly task trees (contents_of files) outputs → list_all is_within outputs ≡ b → JobKept task before (cond b (Done (map spelled_output outputs) lines) (Refused refusal))
makes_keep k task before files trees outputs lines refusal false apart e loads sound within = tt
makes_keep k task before files trees outputs lines refusal true apart e loads sound within =
    record {
      trees = trees;
      contents = contents_of files;
      found = sound.found;
      outputs = output_trees outputs;
      read = files_hold (many_of task) before (modules_of task) (texts_of task) most_input files trees e loads;
      held = gathered_held before (inputs_of task) most_input files e ∙ sym (map_twice Some (λ (e : NamedFile). e.1) files);
      made = sound.made;
      written = task_written k task trees (contents_of files) outputs before apart sound within;
      accepted = each_accepted (many_of task) outputs sound.each;
      behaves = sound.behaves;
      also = sound.also;
    }

decision_keeps : Respelled → (task : Task) (before : FileContents) (files : List NamedFile) (trees : List Module) (decision : Decision) → AreOutputsApart task → gathered (inputs_of task) before most_input ≡ Whole files
    → AllLoad (many_of task) (module_files task files) trees → IsSoundDecision task trees (contents_of files) decision → JobKept task before (job_of decision)
decision_keeps k task before files trees (Refuses text) apart e loads sound = tt
decision_keeps k task before files trees (Makes outputs lines) apart e loads sound = makes_keep k task before files trees outputs lines _ (list_all is_within outputs) apart e loads sound refl

inputs_keep : Respelled → (task : Task) (before : FileContents) (files : List NamedFile) (job : Job) → IsTextTask task → IsCounted task → HoldBytesAt (inputs_of task) before → AreOutputsApart task → gathered (inputs_of task) before most_input ≡ Whole files → InputsJob task files job →
    JobKept task before job
inputs_keep k task before files job text_task counted are apart e (not_loaded text h) = tt
inputs_keep k task before files job text_task counted are apart e (decided trees decision loads h) =
    let first = first_read before (inputs_of task) files (gathered_held before (inputs_of task) most_input files e) are in
    decision_keeps k task before files trees decision apart e loads (decision_is_sound k task files trees decision text_task counted first loads h)

task_keeps : Respelled → (task : Task) (before : FileContents) (job : Job) → IsTextTask task → IsCounted task → HoldBytesAt (inputs_of task) before → AreOutputsApart task → TaskJob task before job → JobKept task before job
task_keeps k task before job text_task counted are apart (not_begun text e) = tt
task_keeps k task before job text_task counted are apart (missing name begun e) = tt
task_keeps k task before job text_task counted are apart (too_long name begun e) = tt
task_keeps k task before job text_task counted are apart (all_read files _ begun e h) = inputs_keep k task before files job text_task counted are apart e h

words_keep : (words : List Text) (task : Task) (before : FileContents) (job : Job) → task_of words ≡ Some task → JobKept task before job → JobKeeps words before job
words_keep words task before (Done writes lines) e h = (task, e, h)
words_keep words task before Usage e h = tt
words_keep words task before Missing e h = tt
words_keep words task before (Refused text) e h = tt

names_are_text : (words : List Text) → SplitWordsAreText words → (task : Task) → task_of words ≡ Some task → IsTextTask task
names_are_text words text (Merge merge) e = tt
names_are_text words text (Metadce metadce) e = tt
names_are_text words text (Split split) e = task_is_text words (text split e) (Split split) e
names_are_text words text (CtorEval eval) e = tt
names_are_text words text (Sample sample) e = tt

job_keeps : Respelled → (words : List Text) (before : FileContents) (job : Job) → SplitWordsAreText words → ReadsBytes words before → HasJob words before job → JobKeeps words before job
job_keeps k words before job text are (no_task e) = tt
job_keeps k words before job text are (asked task _ e h) = words_keep words task before job e (task_keeps k task before job (names_are_text words text task e) (task_is_counted words task e) (are task e) (outputs_apart words task e) h)

pub done_is_faithful : Respelled → (words : List Text) (before : FileContents) (writes : List NamedFile) (lines : Text) → SplitWordsAreText words → ReadsBytes words before → HasJob words before (Done writes lines) → IsFaithful words before (made writes before)
done_is_faithful k words before writes lines text are h = job_keeps k words before (Done writes lines) text are h
