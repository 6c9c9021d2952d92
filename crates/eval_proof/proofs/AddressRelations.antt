-- A relation of addresses as the laws ask for exists for each module: it relates each address to
-- itself, except for imported tables, memories and globals.
use Rattle.base_lists.proofs.Common.{◌≡◌, ◌∙◌, ℕ, [], Bool, true, false, not, ◌&&◌, refl, sym, nat_eq, IsTrue, eqb-true, left_true}
use Rattle.std.proofs.lemmas.Bool.{true≢false}
use Rattle.wasm_tree_spec.specs.Prelude.{Space, Functions, Module, same_space}
use Rattle.run_simulation.specs.Prelude.{OneToOneWhereWritten, passed}
use Rattle.eval_spec.specs.Prelude.{is_imported}
use Rattle.eval_proof.specs.KnownQuietSteps.{RelatesAllButImports}

abbrev itself : Space → ℕ → ℕ → Bool
itself k a b = nat_eq a b

abbrev known_itself : Module → Space → ℕ → ℕ → Bool
known_itself m k a b = nat_eq a b && not (not (same_space k Functions) && is_imported m k a)

relates : (m : Module) → RelatesAllButImports m (known_itself m) itself
relates m k a b e h = by (nat_eq a b) (not (same_space k Functions) && is_imported m k a) h e
  where
    by : (x y : Bool) → x ≡ true → y ≡ false → x && not y ≡ true
    by true false h e = refl
    by true true h e = absurd (true≢false e)
    by false y h e = absurd (true≢false (sym h))

one_to_one : (m : Module) → OneToOneWhereWritten (passed (known_itself m) itself [])
one_to_one m = record {
  right = λ {k} w a b c p q. sym (eqb-true a b (left_true _ _ p)) ∙ eqb-true a c (left_true _ _ q);
  left = λ {k} w a b c p q. eqb-true a c (left_true _ _ p) ∙ sym (eqb-true b c (left_true _ _ q));
}
