-- A step under a loader that calls no placeholder is a step of the run, and one that calls a
-- placeholder continues in the function in its slot.
use Rattle.base_lists.proofs.Common.{◌≡◌, zero, suc, true, false, refl, arith, each_same_self}
use Rattle.wasm_tree_spec.specs.Prelude.{same_type, same_func_type}
use Rattle.wasm_meaning.specs.Prelude.{Transition, made, transition, tick, LoaderWorld, LoaderRun, loader_made}
use Rattle.run_simulation.specs.Prelude.{calls_placeholder}
use Rattle.world_simulation.specs.LoaderSteps.{LoadersStepAsTheirRun, LoadersGoAsTheirRun, PlaceholdersAreAnswered}

-- A transition that calls no placeholder is made under a loader as it is made by the run.
made_by_the_run : (w : LoaderWorld) (q : LoaderRun) (t : Transition) → calls_placeholder t ≡ false → loader_made w q t ≡ (record q { run = (made t).0 }, (made t).1)
made_by_the_run w q t none = grind arith

pub steps_as_run : LoadersStepAsTheirRun
steps_as_run w q = made_by_the_run w q (transition q.run)

pub goes_as_run : LoadersGoAsTheirRun
goes_as_run w q zero none = record { shown = refl; state = refl }
goes_as_run w q (suc n) none =
    let first = steps_as_run w q (none 0 (omega arith)) in
    let rest = goes_as_run w (record q { run = (tick q.run).0 }) n (λ k l. none (suc k) (omega (arith, l))) in
    record { shown = rw (first, rest.shown); state = rw (first, rest.state) }

pub answered : PlaceholdersAreAnswered
answered w q r slot vs s es is a =
    let self : same_func_type a.placeholder.1 a.placeholder.1 ≡ true = simp (each_same_self same_type (λ a. grind arith)) in
    rw (is, a.is_inst, a.is_place, a.is_secondary, a.loaded, a.fills, a.is_placeholder, a.names, a.stands, a.refers, a.typed, self)
