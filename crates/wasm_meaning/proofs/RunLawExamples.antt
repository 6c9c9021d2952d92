-- What the laws of runs say of small runs.
use Rattle.base_lists.proofs.Common.{◌≡◌, refl, ℕ, ◌+◌, List, [], ◌∷◌}
use Rattle.wasm_num.specs.Operations.{wrapped, un_from, un_to, un_value, bin_from, bin_to, bin_value}
use Rattle.wasm_tree.specs.declared.instr.Instr.{out-Instr}
use Rattle.wasm_meaning.specs.Access.{load_to, load_width, loaded, store_from, stored}
use Rattle.wasm_meaning.specs.Laws.{RunsAreDetermined, LoadedRunsAreDetermined, SequentialRunsAreDetermined, ShorterRunsArePrefixes, ShorterSequentialRunsArePrefixes, ShorterLoadedRunsArePrefixes}
use Rattle.wasm_meaning.specs.Prelude.{Environment, World, LoaderWorld, Linked, Number, Move, Call, IsPrefix, events, events_sequential, events_loaded}
use Rattle.wasm_meaning.proofs.SmallRuns.{f, gives, num, plain, own, returns}
use Rattle.wasm_meaning.proofs.LoaderRuns.{primary, moved, under}

-- The embedder calls f, which gives 5.
abbrev five : World
five = plain (gives (num 5 ∷ []))

abbrev calls_f : List Move
calls_f = Call f [] ∷ []

-- A longer run adds events behind those of a shorter one: after two steps the module has linked, and
-- so it has in every longer run.
it_has_linked_for_good : ShorterRunsArePrefixes → (k : ℕ) → IsPrefix (Linked ∷ []) (events five [] calls_f (2 + k))
unfolding out-Instr denote.Hole.Carrier.out wrapped un_from un_to un_value bin_from bin_to bin_value load_to load_width loaded store_from stored
it_has_linked_for_good prefixes k = prefixes five [] calls_f 2 k

what_was_returned_stays : ShorterSequentialRunsArePrefixes → (k : ℕ) → IsPrefix (returns (Number 5 ∷ [])) (events_sequential five [] calls_f (10 + k))
unfolding out-Instr denote.Hole.Carrier.out wrapped un_from un_to un_value bin_from bin_to bin_value load_to load_width loaded store_from stored
what_was_returned_stays prefixes k = prefixes five [] calls_f 10 k

what_was_loaded_stays : ShorterLoadedRunsArePrefixes → (k : ℕ) → IsPrefix (returns (Number 7 ∷ [])) (events_loaded (under primary moved) own calls_f (10 + k))
unfolding out-Instr denote.Hole.Carrier.out wrapped un_from un_to un_value bin_from bin_to bin_value load_to load_width loaded store_from stored
what_was_loaded_stays prefixes k = prefixes (under primary moved) own calls_f 10 k

-- What equals the small world, its environment, its moves and its number of steps has its events.
an_equal_run_gives_five : RunsAreDetermined → (w : World) (env : Environment) (moves : List Move) (n : ℕ) → w ≡ five → env ≡ [] → moves ≡ calls_f → n ≡ 10 → events w env moves n ≡ returns (Number 5 ∷ [])
unfolding out-Instr denote.Hole.Carrier.out wrapped un_from un_to un_value bin_from bin_to bin_value load_to load_width loaded store_from stored
an_equal_run_gives_five determined w env moves n = determined w five env [] moves calls_f n 10

an_equal_run_gives_five_in_turn : SequentialRunsAreDetermined → (w : World) (env : Environment) (moves : List Move) (n : ℕ) → w ≡ five → env ≡ [] → moves ≡ calls_f → n ≡ 10 → events_sequential w env moves n ≡ returns (Number 5 ∷ [])
unfolding out-Instr denote.Hole.Carrier.out wrapped un_from un_to un_value bin_from bin_to bin_value load_to load_width loaded store_from stored
an_equal_run_gives_five_in_turn determined w env moves n = determined w five env [] moves calls_f n 10

an_equal_loader_loads_the_same : LoadedRunsAreDetermined → (w : LoaderWorld) (env : Environment) (moves : List Move) (n : ℕ) → w ≡ under primary moved → env ≡ own → moves ≡ calls_f → n ≡ 10 → events_loaded w env moves n ≡ returns (Number 7 ∷ [])
unfolding out-Instr denote.Hole.Carrier.out wrapped un_from un_to un_value bin_from bin_to bin_value load_to load_width loaded store_from stored
an_equal_loader_loads_the_same determined w env moves n = determined w (under primary moved) env own moves calls_f n 10
