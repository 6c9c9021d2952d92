-- A loader that supplies nothing.
use Rattle.std.specs.Prelude.{◌≡◌, [], ◌∷◌, map, Some}
use Rattle.wasm_meaning.specs.Prelude.{Environment, Added, World, insts_from, instantiate, LoaderWorld, placeholders_of, primary_added, begun_under}
use Rattle.world_simulation.specs.Prelude.{one}

-- the world of a loader's primary module alone, with the loader's view
abbrev pub primary_world : LoaderWorld → World
primary_world w = record { parts = one w.primary; view = map (λ v. (v.0, record { part = 0; what = v.1 })) w.view }

-- A loader without placeholders begins as that world, whether or not the environment links it.
abbrev pub LoadersBeginAsTheirPrimary : Type 0
LoadersBeginAsTheirPrimary = (env : Environment) (w : LoaderWorld) → placeholders_of w ≡ [] → begun_under env w ≡ instantiate env (primary_world w)

-- Its instance is the one of that world.
abbrev pub LoadersHaveTheirPrimarysInstance : Type 0
LoadersHaveTheirPrimarysInstance = (env : Environment) (w : LoaderWorld) → placeholders_of w ≡ [] → (a : Added) → primary_added env w ≡ Some a → insts_from env (one w.primary) 0 (one w.primary) ≡
    Some (a.inst ∷ [])
