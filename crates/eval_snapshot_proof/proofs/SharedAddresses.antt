-- The relation of each address to itself, below a bound for each space, and the index spaces of two
-- modules with the same imports.
use Rattle.base_lists.proofs.Common.{◌≡◌, ◌∙◌, sym, ap, ap₂, ℕ, ◌+◌, ◌-◌, ◌<◌, ◌≤◌, List, [], ◌++◌, length, Bool, ◌&&◌, Some, inl, inr, arith, slice_get, refl, true, IsTrue, nat_eq, nat_lt, and_parts, cases_lt, eq-eqb, eqb-true, lt-ltb, ltb-true, same_Some, numbers_at, append_left, append_right}
use Rattle.base_lists.proofs.Common.{slice_get_there, get_rel, opt_at, opt_both}
use Rattle.base_lists.specs.Places.{numbers}
use Rattle.wasm_tree_spec.specs.Prelude.{Space, Functions, Tables, Memories, Globals, Module}
use Rattle.wasm_meaning.specs.Prelude.{imports_of, Environment, defined_count, own_count, space}
use Rattle.run_simulation.specs.Prelude.{Pairing, OneToOne, OptRel, some, ListRel, passed}
use Rattle.world_simulation.specs.Prelude.{one, addresses, SharesOwn}
use Rattle.world_simulation.proofs.OneModuleWorlds.{space_at}

abbrev pub shared : (bound : Space → ℕ) → Space → ℕ → ℕ → Bool
shared bound k a b = nat_eq a b && nat_lt a (bound k)

abbrev pub Itself : (bound : Space → ℕ) → Pairing
Itself bound = passed (shared bound) (shared bound) []

module _ (bound : Space → ℕ) where
  pub to_itself : (k : Space) (a : ℕ) → a < bound k → IsTrue (shared bound k a a)
  to_itself k a lt = let e : nat_eq a a ≡ true = eq-eqb a a refl in let l : nat_lt a (bound k) ≡ true = lt-ltb a (bound k) lt in rw (e, l) refl

  pub same : (k : Space) (a b : ℕ) → IsTrue (shared bound k a b) → a ≡ b
  same k a b h = eqb-true a b (and_parts (nat_eq a b) (nat_lt a (bound k)) h).0

  pub within : (k : Space) (a b : ℕ) → IsTrue (shared bound k a b) → a < bound k
  within k a b h = ltb-true a (bound k) (and_parts (nat_eq a b) (nat_lt a (bound k)) h).1

  pub apart : OneToOne (Itself bound)
  apart = record {
    right = λ {k} a b c p q. sym (same k a b p) ∙ same k a c q;
    left = λ {k} a b c p q. same k a c p ∙ sym (same k b c q);
  }

  module _ (env : Environment) (room : (k : Space) → own_count k env ≤ bound k) where
    pub shares_own : SharesOwn (Itself bound) env
    shares_own = record {
      funcs = λ a lt. let r = room Functions in to_itself Functions a (omega (arith, lt, r));
      tables = λ a lt. let r = room Tables in to_itself Tables a (omega (arith, lt, r));
      mems = λ a lt. let r = room Memories in to_itself Memories a (omega (arith, lt, r));
      globals = λ a lt. let r = room Globals in to_itself Globals a (omega (arith, lt, r));
    }

    -- An index denotes the same address in both, and it is below the bound.
    pub record NamesOne (k : Space) (xs ys : List ℕ) (n : ℕ) : Type 0 where
      pub address : ℕ
      pub first : slice_get xs n ≡ Some address
      pub second : slice_get ys n ≡ Some address
      pub low : address < bound k

    pub one_named : {k : Space} {xs ys : List ℕ} {n : ℕ} → NamesOne k xs ys n → OptRel ((Itself bound).of k) (slice_get xs n) (slice_get ys n)
    one_named {k} x = opt_at x.first x.second (some (to_itself k x.address x.low))

    module _ (t u : Module) (types : u.types ≡ t.types) (imports : u.imports ≡ t.imports) (k : Space) (xs ys : List ℕ) (h : space env (one t) k 0 t ≡ Some xs)
        (g : space env (one u) k 0 u ≡ Some ys) where
      -- The addresses of the imports come first in both, followed by those of the definitions,
      -- which are consecutive.
      pub record AreRows : Type 0 where
        pub imported : List ℕ
        pub many : length imported ≡ length (imports_of k t)
        pub shown : ListRel ((Itself bound).of k) imported imported
        pub first : xs ≡ imported ++ numbers (own_count k env) (defined_count k t)
        pub second : ys ≡ imported ++ numbers (own_count k env) (defined_count k u)

      pub are_rows : AreRows
      are_rows =
          let sx = space_at (Itself bound) env shares_own t k xs h in
          let sy = space_at (Itself bound) env shares_own u k ys g in
          let imported : sy.imported ≡ sx.imported = same_Some _ _ (sym sy.are ∙ ap₂ (λ ts is. addresses env ts is k) types imports ∙ sx.are) in
          record { imported = sx.imported; many = sx.many; shown = sx.shared; first = sx.all; second = sy.all ∙ ap (λ l. l ++ numbers (own_count k env) (defined_count k u)) imported }

      -- A definition that both modules have denotes the same address in both.
      pub defined_named : (n : ℕ) → n < defined_count k t → n < defined_count k u → own_count k env + n < bound k →
          (slice_get xs (length (imports_of k t) + n) ≡ Some (own_count k env + n)) × (slice_get ys (length (imports_of k t) + n) ≡ Some (own_count k env + n))
      defined_named n left right low =
          let r = are_rows in
          let at : length (imports_of k t) + n ≡ length r.imported + n = ap (λ z. z + n) (sym r.many) in (
            ap (slice_get xs) at ∙ ap (λ l. slice_get l (length r.imported + n)) r.first ∙ append_right r.imported (numbers (own_count k env) (defined_count k t)) n
                ∙ numbers_at (own_count k env) (defined_count k t) n left,
            ap (slice_get ys) at ∙ ap (λ l. slice_get l (length r.imported + n)) r.second ∙ append_right r.imported (numbers (own_count k env) (defined_count k u)) n
                ∙ numbers_at (own_count k env) (defined_count k u) n right,
          )

      pub names_one : (p : ℕ) → p ≤ defined_count k t → p ≤ defined_count k u → own_count k env + p ≤ bound k → (n : ℕ) → n < length (imports_of k t) + p → NamesOne k xs ys n
      names_one p left right low n lt = elim (cases_lt n (length (imports_of k t))) [
        | inl early ↦
            let r = are_rows in
            let many = r.many in
            let here : n < length r.imported = omega (arith, early, many) in
            let a = slice_get_there r.imported n here in
            record {
              address = a.0;
              first = ap (λ l. slice_get l n) r.first ∙ append_left r.imported _ n here ∙ a.1;
              second = ap (λ l. slice_get l n) r.second ∙ append_left r.imported _ n here ∙ a.1;
              low = within k a.0 a.0 (opt_both (get_rel r.shown n) a.1 a.1);
            }
        | inr late ↦
            let x = n - length (imports_of k t) in
            let at : n ≡ length (imports_of k t) + x = omega (arith, late) in
            let d = defined_named x (omega (arith, lt, left, at)) (omega (arith, lt, right, at)) (omega (arith, lt, low, at)) in
            record { address = own_count k env + x; first = ap (slice_get xs) at ∙ d.0; second = ap (slice_get ys) at ∙ d.1; low = omega (arith, lt, low, at) }
      ]
