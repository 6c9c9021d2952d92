-- The cause of each fault of a plan: what holds for the first word that is at fault. A word is a
-- name in `split` or `keep`.
use Rattle.std.specs.Prelude.{◌≡◌, ◌≤◌, ℕ, List, [], ◌∷◌, ◌++◌, ◌⊎◌, length, Option, Some, None, Result, Err, true, ◌↔◌}
use Rattle.std.specs.List.{list_any}
use Rattle.base_lists.specs.Every.{Every}
use Rattle.wasm_tree_spec.specs.Prelude.{Module}
use Rattle.wasm_names.specs.declared.func_name.FuncName.{FuncName}
use Rattle.split_plan.specs.declared.fault.PlanFault.{PlanFault}
use Rattle.split_plan.specs.declared.fault.PlanFault.TheVariants.{NoSuchFunction, AmbiguousFunction, KeptAndSplit, NoMemory}
use Rattle.split_plan.specs.declared.plans.Plan.{Plan}
use Rattle.split_plan.specs.NamedFunctions.{entries_with_name, exported_among, function_of, names_func}
use Rattle.split_plan.specs.PlannedMoves.{words_of, plan_fault}

-- the word is in the list and is faulty, and all words before it are right
abbrev pub IsFirst : (List ℕ → Type 0) → (List ℕ → Type 0) → List (List ℕ) → List ℕ → Type 0
IsFirst Faulty Right words word = (front : List (List ℕ)) × (back : List (List ℕ)) × (words ≡ front ++ word ∷ back) × Every Right front × Faulty word

-- the word names a function
abbrev pub NamesFunction : Module → List FuncName → List ℕ → Type 0
NamesFunction m names word = (func : ℕ) × (function_of m names word ≡ Some func)

-- no defined function has the word as its name in the name list, and none is exported under it
abbrev pub NamesNone : Module → List FuncName → List ℕ → Type 0
NamesNone m names word = (entries_with_name m names word ≡ []) × (exported_among m m.exports word ≡ None)

-- two or more entries of the name list give the word to defined functions
abbrev pub IsShared : Module → List FuncName → List ℕ → Type 0
IsShared m names word = 2 ≤ length (entries_with_name m names word)

-- a word in `keep` names the function of this word too
abbrev pub IsNamedInKeep : Module → List FuncName → List (List ℕ) → List ℕ → Type 0
IsNamedInKeep m names keep word = (func : ℕ) × (function_of m names word ≡ Some func) × (list_any (names_func m names func) keep ≡ true)

-- the cause of a fault; running out of memory has none
abbrev pub PlanCause : Module → List FuncName → Option (List (List ℕ)) → Option (List (List ℕ)) → PlanFault → Type 0
PlanCause m names split keep (NoSuchFunction word) = IsFirst (NamesNone m names) (NamesFunction m names) (words_of split ++ words_of keep) word
PlanCause m names split keep (AmbiguousFunction word) = IsFirst (IsShared m names) (NamesFunction m names) (words_of split ++ words_of keep) word
PlanCause m names split keep (KeptAndSplit word) =
    Every (NamesFunction m names) (words_of split ++ words_of keep) × IsFirst (IsNamedInKeep m names (words_of keep)) (λ w. IsNamedInKeep m names (words_of keep) w → ⊥) (words_of split) word
PlanCause m names split keep NoMemory = ⊥

-- a fault is the first one exactly if its cause holds
abbrev pub FaultsHaveCauses : Type 0
FaultsHaveCauses = (m : Module) (names : List FuncName) (split keep : Option (List (List ℕ))) (e : PlanFault) → (plan_fault m names split keep ≡ Some e) ↔ PlanCause m names split keep e

-- The call returns this fault only if the cause holds, and whenever it holds, unless memory runs
-- out.
abbrev pub PlanFaultTold : Result Plan PlanFault → PlanFault → Type 0 → Type 0
PlanFaultTold result fault cause = (result ≡ Err fault → cause) × (cause → (result ≡ Err fault) ⊎ (result ≡ Err NoMemory))
