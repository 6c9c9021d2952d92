-- Segments that are copied one after the other: what is at each address is overwritten in order,
-- and each segment that is copied is dropped.
use Rattle.base_lists.proofs.Common.{◌≡◌, ◌≢◌, ℕ, suc, ◌+◌, ◌-◌, ◌<◌, List, [], ◌∷◌, Option, Some, false, refl, ap, ◌∙◌, arith, add-zero, nat_tests, slice_get, slice_get_within, is_some_there, set_at, set_other}
use Rattle.wasm_meaning.specs.Prelude.{Store, Filled, and_then}
use Rattle.world_simulation.specs.InstantiatedStores.{Copy, over, all_over}
use Rattle.world_simulation.specs.SegmentCopies.{AreOf, IsOf, Kind, left, run, runs}

-- Two steps of copying, one after the other, that do not trap: neither traps, and the store is the
-- one that the second leaves.
pub then_went : (f : Filled) (g : Store → Filled) → (and_then f g).trapped ≡ false → (f.trapped ≡ false) × ((g f.store).trapped ≡ false) × ((and_then f g).store ≡ (g f.store).store)
then_went f g h = grind arith

module _ {C S A : Type 0} (k : Kind C S A) where
  -- Each table or memory of the first store is in the second, with the contents that `f` makes of
  -- its own.
  abbrev pub Written : Store → Store → (ℕ → List A → Option (List A)) → Type 0
  Written s t f = (a : ℕ) (c : C) → slice_get (k.holders s) a ≡ Some c → (xs : List A) × (f a (k.held c) ≡ Some xs) × (slice_get (k.holders t) a ≡ Some (k.holding c xs))

  -- The store that one copy leaves.
  record Ran (s : Store) (n : ℕ) (c : Copy A) (e : S) (t : Store) : Type 0 where
    written : Written s t (λ a. over a c)
    here : slice_get (k.segments t) n ≡ Some (left k c e)
    other : (j : ℕ) → j ≢ n → slice_get (k.segments t) j ≡ slice_get (k.segments s) j

  ran : (s : Store) (n : ℕ) (c : Copy A) (e : S) → slice_get (k.segments s) n ≡ Some e → IsOf k c e → (run k s n c).trapped ≡ false → Ran s n c e (run k s n c).store
  ran s n c e is of h = record {
    written = λ a d d_is. let there = is_some_there (over a c (k.held d)) (grind (arith, nat_tests)) in (there.0, there.1, grind (arith, nat_tests, set_at, set_other, slice_get_within));
    here = grind (arith, set_at, slice_get_within);
    other = grind (arith, set_other);
  }

  -- The store that all the copies leave.
  pub record AllRan (s : Store) (n : ℕ) (cs : List (Copy A)) (t : Store) : Type 0 where
    pub written : Written s t (λ a. all_over a cs)
    pub each : (j : ℕ) (c : Copy A) (e : S) → slice_get cs j ≡ Some c → slice_get (k.segments s) (n + j) ≡ Some e → slice_get (k.segments t) (n + j) ≡ Some (left k c e)
    pub earlier : (j : ℕ) → j < n → slice_get (k.segments t) j ≡ slice_get (k.segments s) j

  pub all_ran : (cs : List (Copy A)) (s : Store) (n : ℕ) → AreOf k s n cs → (runs k s n cs).trapped ≡ false → AllRan s n cs (runs k s n cs).store
  all_ran [] s n of h = record { written = λ a c is. (k.held c, refl, rw k.holding_held is); each = λ j c e h. cc; earlier = λ j l. refl }
  all_ran (c ∷ cs) s n of h =
      let went = then_went (run k s n c) (λ s. runs k s (suc n) cs) h in
      let first = of 0 c refl in
      let r = ran s n c first.0 (rw add-zero at first.1) first.2 went.0 in
      let rs = all_ran cs (run k s n c).store (suc n) (λ j d e. let x = of (suc j) d e in (x.0, grind (arith, r.other), x.2)) went.1 in
      rw went.2 (record {
        written = λ a d d_is. let one = r.written a d d_is in let more = rs.written a (k.holding d one.0) one.2 in (more.0, grind arith, grind arith);
        each = λ j. grind (arith, rs.each (j - 1));
        earlier = grind arith;
      })

  -- What is neither a table or memory nor a segment of the kind stays as it was.
  module _ {B : Type 0} (get : Store → B) (put : (s : Store) (a : ℕ) (c : C) → get (k.put s a c) ≡ get s) (drop : (s : Store) (n : ℕ) → get (k.drop s n) ≡ get s) where
    run_stays : (s : Store) (n : ℕ) (c : Copy A) → get (run k s n c).store ≡ get s
    run_stays s n c = grind arith

    pub all_stay : (cs : List (Copy A)) (s : Store) (n : ℕ) → (runs k s n cs).trapped ≡ false → get (runs k s n cs).store ≡ get s
    all_stay [] s n h = refl
    all_stay (c ∷ cs) s n h = let went = then_went (run k s n c) (λ s. runs k s (suc n) cs) h in ap get went.2 ∙ all_stay cs (run k s n c).store (suc n) went.1 ∙ run_stays s n c
