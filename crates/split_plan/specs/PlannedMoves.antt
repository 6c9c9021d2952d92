-- Which functions of a module move to the secondary module, which were asked to move and stay, and
-- the first fault. A word is a name in `split` or `keep`.
use Rattle.std.specs.Prelude.{◌≡◌, ℕ, ◌-◌, ◌&&◌, List, [], ◌∷◌, length, filter, Bool, true, false, not, Option, Some, None, slice_get, unwrap_or, if◌then◌else◌}
use Rattle.std.specs.List.{list_any}
use Rattle.std.specs.List.Sorted.{IsStrictlyIncreasing}
use Rattle.std.specs.Option.{option_map_or, option_or}
use Rattle.base_lists.specs.Every.{Every}
use Rattle.base_lists.specs.Places.{numbers}
use Rattle.base_lists.specs.Options.{first_given}
use Rattle.wasm_tree_spec.specs.Prelude.{Module, imported_funcs}
use Rattle.wasm_names.specs.declared.func_name.FuncName.{FuncName}
use Rattle.split_plan.specs.declared.fault.PlanFault.{PlanFault}
use Rattle.split_plan.specs.declared.fault.PlanFault.TheVariants.{KeptAndSplit}
use Rattle.split_plan.specs.declared.plans.Plan.{Plan}
use Rattle.split_plan.specs.SegmentReferences.{uses_segment}
use Rattle.split_plan.specs.NamedFunctions.{is_defined, function_of, word_fault, names_func}

-- ---- faults

-- the words, or no words for `None`
abbrev pub words_of : Option (List (List ℕ)) → List (List ℕ)
words_of words = unwrap_or words []

-- the fault of a word in `split` whose function is to be kept too
abbrev pub kept_fault : (ℕ → Bool) → Option ℕ → List ℕ → Option PlanFault
kept_fault is_kept None word = None
kept_fault is_kept (Some func) word = if is_kept func then Some (KeptAndSplit word) else None

-- The first fault: of the words in `split`, then of those in `keep`, each in order; else the first
-- word in `split` whose function a word in `keep` names too.
abbrev pub plan_fault : Module → List FuncName → Option (List (List ℕ)) → Option (List (List ℕ)) → Option PlanFault
plan_fault m names split keep =
    option_or (first_given (word_fault m names) (words_of split))
    (option_or (first_given (word_fault m names) (words_of keep))
    (first_given (λ word. kept_fault (λ func. list_any (names_func m names func) (words_of keep)) (function_of m names word) word) (words_of split)))

-- ---- the plan

-- the indices of the functions that the module defines
abbrev pub defined_funcs : Module → List ℕ
defined_funcs m = numbers (length (imported_funcs m.imports)) (length m.funcs)

-- the body of the function names a segment
abbrev pub body_uses_segment : Module → ℕ → Bool
body_uses_segment m func = option_map_or (λ f. uses_segment f.body) (slice_get m.funcs (func - length (imported_funcs m.imports))) false

-- whether `split` names the function, or, without `split`, whether `keep` does not name it
abbrev pub is_wanted : Module → List FuncName → Option (List (List ℕ)) → Option (List (List ℕ)) → ℕ → Bool
is_wanted m names (Some words) keep func = list_any (names_func m names func) words
is_wanted m names None keep func = not (list_any (names_func m names func) (words_of keep))

-- the defined functions that are wanted: those that name no segment move, and the others are kept
abbrev pub plan_for : Module → (ℕ → Bool) → Plan
plan_for m wanted = record {
  moved = filter (λ func. wanted func && not (body_uses_segment m func)) (defined_funcs m);
  kept = filter (λ func. wanted func && body_uses_segment m func) (defined_funcs m);
}

-- the plan for the names in `split` and `keep`
abbrev pub plan_of : Module → List FuncName → Option (List (List ℕ)) → Option (List (List ℕ)) → Plan
plan_of m names split keep = plan_for m (is_wanted m names split keep)

-- A plan for a module: its lists ascend and hold defined functions; those that move name no
-- segment, and those that are kept name one, so no function is in both.
pub record IsPlan (m : Module) (p : Plan) : Type 0 where
  pub moved_ascend : IsStrictlyIncreasing p.moved
  pub kept_ascend : IsStrictlyIncreasing p.kept
  pub moved : Every (λ func. (is_defined m func ≡ true) × (body_uses_segment m func ≡ false)) p.moved
  pub kept : Every (λ func. (is_defined m func ≡ true) × (body_uses_segment m func ≡ true)) p.kept

-- Whichever functions are wanted, what is planned for a module is a plan for it.
abbrev pub WhatIsPlannedIsAPlan : Type 0
WhatIsPlannedIsAPlan = (m : Module) (wanted : ℕ → Bool) → IsPlan m (plan_for m wanted)
