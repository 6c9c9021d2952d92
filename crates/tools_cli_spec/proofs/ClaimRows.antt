-- The environments and the bounds of each claim, computed; and an environment that does not link
-- the parts of a merge, or the module of a split.
use Rattle.base_lists.proofs.Common.{◌≡◌, refl, subst, ℕ, List, [], ◌∷◌, true, IsTrue}
use Rattle.wasm_tree.specs.declared.instr.Instr.{out-Instr}
use Rattle.wasm_meaning.specs.Prelude.{Environment, Event, Linked, LinkFault, IsPrefix}
use Rattle.merge_spec.specs.Merged.{all_exports}
use Rattle.merge_spec.specs.View.{all_entities, merge_view}
use Rattle.tools_cli_spec.specs.Prelude.{Merge, Split}
use Rattle.tools_cli_spec.specs.Faithful.{Equivalence, Holds, equivalence}
use Rattle.tools_cli_spec.proofs.FaithfulRows.{IsClaimed, asking, with, empty, calling, merging, splitting, keeping, f_moves, passing, of_merge, of_metadce, of_split, of_eval, of_sample}

-- ---- environments ----

abbrev CoversAll : Equivalence → Type 0
CoversAll claim = (env : Environment) → claim.environments env ≡ true

merge_covers_all : IsClaimed (of_merge asking asking) CoversAll
merge_covers_all = λ env. refl

split_covers_all : IsClaimed (of_split asking asking) CoversAll
split_covers_all = λ env. refl

sample_covers_all : IsClaimed (of_sample passing) CoversAll
sample_covers_all = λ env. refl

-- ---- bounds ----

-- For the trace of three steps, so many steps of what was written and of the original are allowed.
abbrev Allows : (written original : ℕ) → Equivalence → Type 0
Allows written original claim = (claim.written_bound 3 ≡ written) × (claim.original_bound 3 ≡ original)

merge_allows : IsClaimed (of_merge asking asking) (Allows 7 7)
merge_allows = (refl, refl)

metadce_allows : IsClaimed (of_metadce asking asking) (Allows 3 3)
metadce_allows = (refl, refl)

-- The function that moves has no parameters.
split_allows : IsClaimed (of_split asking asking) (Allows 32 3)
split_allows = rw f_moves (refl, refl)

eval_allows : IsClaimed (of_eval asking asking) (Allows 3 3)
eval_allows = (refl, refl)

sample_allows : IsClaimed (of_sample passing) (Allows 7 7)
sample_allows = (refl, refl)

-- ---- an environment that does not link ----

-- An environment with nothing in it: the claim covers it, and neither of the worlds is linked.
pub record ShowsNoLinking (claim : Equivalence) : Type 0 where
  pub named : IsTrue (claim.environments [])
  pub original : claim.original_world [] [] 1 ≡ LinkFault ∷ []
  pub written : claim.written_world [] [] 1 ≡ LinkFault ∷ []

merge_shows_no_linking : IsClaimed (of_merge asking asking) ShowsNoLinking
unfolding out-Instr denote.Hole.Carrier.out all_exports all_entities merge_view
merge_shows_no_linking = record { named = refl; original = refl; written = refl }

split_shows_no_linking : IsClaimed (of_split asking asking) ShowsNoLinking
unfolding out-Instr denote.Hole.Carrier.out
split_shows_no_linking = rw f_moves (record { named = refl; original = refl; written = refl })

-- A claim is refused if, in the environment with nothing in it, what was written links and the
-- original does not.
refused_by_linking : (claim : Equivalence) (n : ℕ) → IsTrue (claim.environments []) → claim.written_world [] [] n ≡ Linked ∷ [] → claim.original_world [] [] (claim.original_bound n) ≡ LinkFault ∷ [] → Holds claim → ⊥
refused_by_linking claim n named written original holds =
    let (rest, is) = subst (λ (xs : List Event). IsPrefix (Linked ∷ []) xs) original (subst (λ (xs : List Event). IsPrefix xs (claim.original_world [] [] (claim.original_bound n))) written (holds [] refl named [] n).1) in
    cc

merge_refuses_an_output_that_links : IsClaimed (equivalence (Merge merging) tt (with asking ∷ calling ∷ []) (empty ∷ [])) (λ claim. Holds claim → ⊥)
unfolding out-Instr denote.Hole.Carrier.out all_exports all_entities merge_view
merge_refuses_an_output_that_links = refused_by_linking _ 3 refl refl refl

split_refuses_outputs_that_link : IsClaimed (equivalence (Split splitting) [] (with asking ∷ []) (empty ∷ record keeping { imports = []; funcs = []; tables = []; exports = []; elems = [] } ∷ [])) (λ claim. Holds claim → ⊥)
unfolding out-Instr denote.Hole.Carrier.out
split_refuses_outputs_that_link = rw f_moves (refused_by_linking _ 3 refl refl refl)
