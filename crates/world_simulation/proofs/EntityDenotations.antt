-- The environment's own entities denote themselves.
use Rattle.base_lists.proofs.Common.{◌≡◌, ℕ, ◌<◌, List, [], Bool, ◌&&◌, refl, arith, slice_get, nat_eq, nat_lt, nat_tests, self_rel, both_in}
use Rattle.wasm_tree_spec.specs.Prelude.{Space, Functions, Tables, Memories, Globals}
use Rattle.wasm_meaning.specs.Prelude.{Environment, own_funcs, own_memories, own_count, own_store}
use Rattle.run_simulation.specs.Prelude.{Pairing, BothRel, StoreRel, passed}
use Rattle.world_simulation.specs.Prelude.{SharesOwn}
use Rattle.world_simulation.proofs.EnvironmentEntities.{own_funcs_rel, own_tables_rel, own_globals_rel}
use Rattle.world_simulation.proofs.AllocatedStores.{type_same, own_same}

module _ (env : Environment) where
  abbrev pub shared : Space → ℕ → ℕ → Bool
  shared k a b = nat_eq a b && nat_lt a (own_count k env)

  abbrev pub R : Pairing
  R = passed shared shared []

  is_shared : (k : Space) (a : ℕ) → a < own_count k env → R.of k a a
  is_shared k a l = grind (arith, nat_tests)

  pub shares : SharesOwn R env
  shares = record { funcs = is_shared Functions; tables = is_shared Tables; mems = is_shared Memories; globals = is_shared Globals }

  -- Items that are related to themselves at each of the environment's own addresses are related at
  -- all related addresses.
  shared_at : {A : Type 0} {P : A → A → Type 0} (k : Space) (xs : List A) → ((n : ℕ) → n < own_count k env → BothRel P (slice_get xs n) (slice_get xs n)) → (a b : ℕ) → R.of k a b → BothRel P (slice_get xs a) (slice_get xs b)
  shared_at k xs h a b r = let e : (a ≡ b) × (a < own_count k env) = grind (arith, nat_tests) in rw (← e.0) (h a e.1)

  pub own_like : StoreRel R (own_store env) (own_store env)
  own_like =
      let funcs = shared_at Functions (own_funcs env) (both_in (own_funcs_rel R env)) in
      record {
        types = λ {a} {b} r. type_same R (funcs a b r);
        owns = λ {a} {b} r. own_same R (funcs a b r);
        funcs = λ {a} {b} r free. funcs a b r;
        tables = λ {a} {b}. shared_at Tables _ (both_in (own_tables_rel R env shares)) a b;
        mems = λ {a} {b}. shared_at Memories _ (both_in (self_rel (own_memories env) (λ x. refl))) a b;
        globals = λ {a} {b}. shared_at Globals _ (both_in (own_globals_rel R env shares)) a b;
        elems = λ {a} {b} r. grind (arith, nat_tests);
        datas = λ {a} {b} r. grind (arith, nat_tests);
      }
