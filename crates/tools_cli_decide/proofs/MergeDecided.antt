-- The decision of merging the modules of a task.
use Rattle.base_lists.proofs.Common.{◌≡◌, ◌∙◌, sym, refl, ap, subst, ◌⊎◌, inl, inr, None, Some, Err, ℕ, zero, suc, ◌+◌, ◌<◌, List, [], ◌∷◌, ◌++◌, append-nil, length, slice_get, slice_index_or, arith, Bool, false, Result, Ok, IfOk, IfErr}
use Rattle.tools_cli_spec.specs.Prelude.{Text, Source, MergeTask, Merge, source_files, many_of, Decision, Refuses, Makes, Merges, not_linked, not_joined, merged, AreMerged, parts_of, link_text}
use Rattle.tools_cli_decide.specs.Prelude.{StopsWith, source_values}
use Rattle.tools_cli_spec.specs.Texts.{join_text}
use Rattle.wasm_tree_spec.specs.Prelude.{Module}
use Rattle.wasm_meaning.specs.Prelude.{Part}
use Rattle.merge_spec.specs.Prelude.{link_fault, LinkFaultsNameParts, NamesPart, Joins}
use Rattle.merge_names.specs.declared.mode.Mode.{Mode}
use Rattle.merge_spec.specs.declared.faults.LinkFault.{LinkFault}
use Rattle.merge_spec.specs.declared.faults.JoinFault.{JoinFault}
use Rattle.tools_cli_decide.specs.Causes.{MergeFails}
use Rattle.tools_cli_decide.specs.declared.stop.Stop.{Stop}
use Rattle.tools_cli_decide.proofs.Stops.{stops_weaker}
use Rattle.tools_cli_decide.specs.Sources.{files_of}
use Rattle.merge_spec.specs.declared.faults.LinkFault.TheVariants as link
use Rattle.merge_spec.specs.declared.faults.JoinFault.TheVariants as join
use Rattle.tools_cli_decide.specs.declared.merge.Source as code

-- The part that a fault names exists.
pub names_one : LinkFaultsNameParts → (parts : List Part) (many : Bool) (fault : LinkFault) (n : ℕ) → length parts ≡ n → (fault ≡ link.NoMemory) ⊎ (link_fault parts many ≡ Some fault) → NamesPart n fault
names_one law parts many fault n same (inl none) = subst (NamesPart n) (sym none) tt
names_one law parts many fault n same (inr found) = subst (λ k. NamesPart k fault) same (law parts many fault found)

-- Parts that do not link or cannot be joined give a refusal.
pub link_fails : (merge : MergeTask) (parts : List Part) (fault : LinkFault) (text : Text) → (fault ≡ link.NoMemory) ⊎ (link_fault parts (many_of (Merge merge)) ≡ Some fault) → link_text (source_files merge) fault ≡ Some text → MergeFails merge parts text
link_fails merge parts fault text (inr found) says = inl (fault, found, says)
link_fails merge parts fault text (inl none) says = let no_text : None ≡ Some text = ap (link_text (source_files merge)) (sym none) ∙ says in absurd (cc)

pub join_fails : (merge : MergeTask) (parts : List Part) (fault : JoinFault) (text : Text) → link_fault parts (many_of (Merge merge)) ≡ None → (fault ≡ join.NoMemory) ⊎ Joins parts merge.mode (Err fault) → join_text fault ≡ Some text → MergeFails merge parts text
join_fails merge parts fault text linked (inr found) says = inr (fault, linked, found, says)
join_fails merge parts fault text linked (inl none) says = let no_text : None ≡ Some text = ap join_text (sym none) ∙ says in absurd (cc)

pub merge_refused : (merge : MergeTask) (parts : List Part) (trees : List Module) → parts ≡ parts_of merge.sources trees → (text : Text) → MergeFails merge parts text → Merges merge trees (Refuses text)
merge_refused merge parts trees named text (inl (fault, found, says)) = not_linked fault text (ap (λ ps. link_fault ps (many_of (Merge merge))) (sym named) ∙ found) says
merge_refused merge parts trees named text (inr (fault, linked, found, says)) =
    not_joined fault text (ap (λ ps. link_fault ps (many_of (Merge merge))) (sym named) ∙ linked) (let P : List Part → Type 0 = λ ps. Joins ps merge.mode (Err fault) in subst P named found) says

pub merge_made : (merge : MergeTask) (parts : List Part) (trees : List Module) (tree : Module) (decision : Decision) → parts ≡ parts_of merge.sources trees → AreMerged (many_of (Merge merge)) parts merge.mode tree
    → decision ≡ Makes (record { name = merge.output; tree = tree; custom = [] } ∷ []) [] → Merges merge trees decision
merge_made merge parts trees tree decision named is made =
    let P : Decision → Type 0 = Merges merge trees in
    let Q : List Part → Type 0 = λ ps. AreMerged (many_of (Merge merge)) ps merge.mode tree in
    subst P (sym made) (merged tree (subst Q named is))

-- Parts are merged, or refused, under the names of their sources.
pub merged_named : {E : Type 0} (r : Result Module E) (mode : Mode) (parts named : List Part) → parts ≡ named → IfOk r (λ tree. AreMerged false parts mode tree) → IfOk r (λ tree. AreMerged false named mode tree)
merged_named (Ok tree) mode parts named same h = let P : List Part → Type 0 = λ ps. AreMerged false ps mode tree in subst P same h
merged_named (Err x) mode parts named same h = tt

pub stops_named : {A : Type 0} (r : Result A Stop) (merge : MergeTask) (parts : List Part) (trees : List Module) → parts ≡ parts_of merge.sources trees → IfErr r (StopsWith (MergeFails merge parts)) → IfErr r (StopsWith (λ text. Merges merge trees (Refuses text)))
stops_named (Ok x) merge parts trees named h = tt
stops_named (Err stop) merge parts trees named h = stops_weaker (MergeFails merge parts) (λ text. Merges merge trees (Refuses text)) (merge_refused merge parts trees named) stop h

-- ---- the parts and their sources ----

-- The number of parts is the number of sources.
pub length_once : (xs : List code.Source) → length (source_values xs) ≡ length xs
length_once [] = refl
length_once (x ∷ xs) = ap suc (length_once xs)

parts_end : (sources : List Source) → parts_of sources [] ≡ []
parts_end [] = refl
parts_end (s ∷ sources) = refl

pub all_named : (done whole : List Part) (sources : List Source) (trees : List Module) → length trees ≡ 0 → done ++ parts_of sources trees ≡ whole → done ≡ whole
all_named done whole sources [] none e = sym (append-nil done) ∙ ap (λ l. done ++ l) (sym (parts_end sources)) ∙ e
all_named done whole sources (tree ∷ trees) none e = absurd (omega arith)

pub file_there : (xs : List code.Source) (i : ℕ) (d : code.Source) → i < length xs → slice_get (files_of xs) i ≡ Some (slice_index_or xs i d).file.now
file_there [] i d lt = absurd (omega arith)
file_there (x ∷ xs) zero d lt = refl
file_there (x ∷ xs) (suc i) d lt = file_there xs i d (omega arith)

-- The number of parts is the number of sources.
pub parts_counted : (xs : List code.Source) (trees : List Module) → length trees ≡ length xs → length (parts_of (source_values xs) trees) ≡ length xs
parts_counted [] [] e = refl
parts_counted [] (tree ∷ trees) e = absurd (omega arith)
parts_counted (x ∷ xs) [] e = absurd (omega arith)
parts_counted (x ∷ xs) (tree ∷ trees) e = ap suc (parts_counted xs trees (omega arith))
