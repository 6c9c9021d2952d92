-- The addresses that both worlds have: each is related to itself, and those of the environment's
-- own entities are among them.
use Rattle.base_lists.proofs.Common.{◌≡◌, ℕ, ◌<◌, List, true, arith, slice_get, slice_index, ltb-true, nat_tests}
use Rattle.wasm_tree_spec.specs.Prelude.{Space, Functions, Tables, Memories, Globals}
use Rattle.wasm_meaning.specs.Prelude.{Part, Environment}
use Rattle.run_simulation.specs.Prelude.{Pairing, OneToOne, OptRel, some}
use Rattle.index_remap.specs.Prelude.{has}
use Rattle.merge_proof.specs.AgreeingInstances.{SpaceAgrees}
use Rattle.world_simulation.specs.Prelude.{SharesOwn}
use Rattle.merge_proof.specs.SharedAddresses.{shared_count, sharing}

module _ (env : Environment) (parts : List Part) where
  abbrev R : Pairing
  R = sharing env parts

  pub shares : (k : Space) (a : ℕ) → a < shared_count env parts k → R.of k a a
  shares k a h = grind (arith, nat_tests)

  pub is_same : (k : Space) (a b : ℕ) → R.of k a b → (a ≡ b) × (a < shared_count env parts k)
  is_same k a b h = grind (arith, nat_tests)

  -- An index of a part and its entry in the map name one address.
  pub names_one : (k : Space) {xs ys entries : List ℕ} → SpaceAgrees env parts k xs ys entries → (x : ℕ) → has entries x ≡ true → OptRel (R.of k) (slice_get xs x) (slice_get ys (slice_index entries x))
  names_one k s x h = let o = s.each x (ltb-true _ _ h) in rw (o.first, o.second) (some (shares k o.address o.shared))

  pub one_to_one : OneToOne R
  one_to_one = record { right = λ {k} a b c p q. grind (arith, nat_tests); left = λ {k} a b c p q. grind (arith, nat_tests) }

  -- ---- the environment's own entities ----

  pub shares_own : SharesOwn R env
  shares_own = record {
    funcs = λ a h. shares Functions a (omega arith);
    tables = λ a h. shares Tables a (omega arith);
    mems = λ a h. shares Memories a (omega arith);
    globals = λ a h. shares Globals a (omega arith);
  }
