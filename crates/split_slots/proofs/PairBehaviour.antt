-- The pair of modules that a split makes is observationally equivalent to the module, and its
-- secondary module can be loaded.
use Rattle.base_lists.proofs.Common.{◌≡◌, sym, subst, ℕ, List, [], ◌∷◌, Result, Ok, Err, IfOk, IsStrictlyIncreasing}
use Rattle.wasm_tree_spec.specs.Prelude.{Module, IsBounded}
use Rattle.wasm_valid.specs.Prelude.{IsValid}
use Rattle.split_spec.specs.declared.names.SplitNames.{SplitNames}
use Rattle.split_spec.specs.declared.faults.SplitFault.{SplitFault}
use Rattle.split_proof.specs.Premises.{CanMove}
use Rattle.split_proof.specs.SplitLaws.{CanBeSplit, PairsCanBeSplit}
use Rattle.split_slots.specs.SurveysAndDrafts.{MaySplit}
use Rattle.split_slots.specs.declared.module_pair.Pair.{Pair}

-- A module without faults of a split can be split into one primary and one secondary module.
pub can_be_split : PairsCanBeSplit → (names : SplitNames) (m : Module) (moved : List ℕ) → IsValid m → IsBounded m → CanMove m moved → IsStrictlyIncreasing moved → MaySplit names m moved → CanBeSplit (λ slot. names.placeholder_namespace) names m moved (moved ∷ [])
can_be_split pairs names m moved valid bounded can up may = pairs names m moved valid bounded can up may.namespace may.prefix

-- A property of two modules holds of the pair that consists of them.
pub of_pair : (P : Module → Module → Type 0) {first second : Module} (r : Result Pair SplitFault) → IfOk r (λ p. p.primary ≡ first) → IfOk r (λ p. p.secondary ≡ second) → P first second → IfOk r (λ p. P p.primary p.secondary)
of_pair P {first} {second} (Ok p) a b h = subst (λ x. P x p.secondary) (sym a) (subst (λ y. P first y) (sym b) h)
of_pair P (Err e) a b h = tt
