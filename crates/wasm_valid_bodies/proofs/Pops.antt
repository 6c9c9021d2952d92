-- Operands can be popped from the kept stack exactly if they can be from the stacks that it
-- denotes.
use Rattle.base_lists.proofs.Common.{arith, ◌≡◌, ℕ, zero, suc, Bool, true, false, cond, List, [], ◌∷◌, ◌++◌, length, Some, None, refl, sym, ap, ◌∙◌, subst, option_and_then}
use Rattle.wasm_tree_spec.specs.Prelude.{ValType, same_type}
use Rattle.wasm_valid_bodies.specs.Typing.{Operand, Stack, Matches, AllMatch}
use Rattle.wasm_valid_bodies.specs.Tracking.{IsInstance, Instance, Concrete, fits_type, pop_type, pop_all}

pub fits-instance : (x a : Operand) (t : ValType) → IsInstance x a → Matches a (Some t) → fits_type x t ≡ true
fits-instance None a t i m = refl
fits-instance (Some u) None t i m = cc
fits-instance (Some u) (Some v) t i m =
    let e : u ≡ t = cc in let own : same_type u u ≡ true = grind arith in subst (λ w. same_type u w ≡ true) e own

pub fits-matches : (x : Operand) (t : ValType) → fits_type x t ≡ true → Matches x (Some t)
fits-matches None t h = tt
fits-matches (Some u) t h = let e : u ≡ t = grind arith in ap Some e

-- One operand can be popped from the kept stack if it can be from a stack that it denotes.
pub pop_type-on : (xs : Stack) (o : Bool) (a : Operand) (s : Stack) (t : ValType) → Instance xs o (a ∷ s) → Matches a (Some t) → (ys : Stack) × (pop_type xs o t ≡ Some ys) × Instance ys o s
pop_type-on [] false a s t i m = absurd i
pop_type-on [] true a s t i m = ([], refl, tt)
pop_type-on (x ∷ xs) o a s t i m =
    (xs, ap (λ b. cond b (Some xs) None) (fits-instance x a t i.0 m), i.1)

-- The topmost n operands of a stack; each that is missing is a bottom.
abbrev pub padded : ℕ → Stack → Stack
padded zero xs = []
padded (suc n) [] = None ∷ padded n []
padded (suc n) (x ∷ xs) = x ∷ padded n xs

pub pop_all-on : (xs : Stack) (o : Bool) (args s : Stack) (ts : List ValType) → Instance xs o (args ++ s) → AllMatch args ts → (ys : Stack) × (pop_all xs o ts ≡ Some ys) × Instance ys o s
pop_all-on xs o [] s [] i m = (xs, refl, i)
pop_all-on xs o [] s (t ∷ ts) i m = absurd m
pop_all-on xs o (a ∷ args) s [] i m = absurd m
pop_all-on xs o (a ∷ args) s (t ∷ ts) i m =
    let p = pop_type-on xs o a (args ++ s) t i m.0 in
    let q = pop_all-on p.0 o args s ts p.2 m.1 in
    (q.0, ap (λ r. option_and_then (λ ys. pop_all ys o ts) r) p.1 ∙ q.1, q.2)

abbrev Backs : Stack → Bool → List ValType → Stack → Type 0
Backs xs o ts ys =
    AllMatch (padded (length ts) xs) ts × ((s : Stack) → Concrete ys o s → Concrete xs o (padded (length ts) xs ++ s))

pub pop_all-back : (xs : Stack) (o : Bool) (ts : List ValType) (ys : Stack) → pop_all xs o ts ≡ Some ys → Backs xs o ts ys
pop_all-back xs o [] ys h = let e : xs ≡ ys = cc in (tt, λ s k. subst (λ zs. Concrete zs o s) (sym e) k)
pop_all-back [] false (t ∷ ts) ys h = cc
pop_all-back [] true (t ∷ ts) ys h = ((tt, (pop_all-back [] true ts ys h).0), λ s k. tt)
pop_all-back (x ∷ xs) o (t ∷ ts) ys h = test (fits_type x t) refl h (pop_all-back xs o ts ys)
  where
    test : (b : Bool) → fits_type x t ≡ b → option_and_then (λ zs. pop_all zs o ts) (cond b (Some xs) None) ≡ Some ys → (pop_all xs o ts ≡ Some ys → Backs xs o ts ys) → Backs (x ∷ xs) o (t ∷ ts) ys
    test false e g ih = cc
    test true e g ih = let i = ih g in ((fits-matches x t e, i.0), λ s k. (refl, i.1 s k))
