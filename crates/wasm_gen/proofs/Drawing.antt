-- Lists of what is made for each number, extended by one number.
use Rattle.base_lists.proofs.Common.{◌≡◌, ◌∙◌, ap, ap₂, sym, ℕ, suc, ◌+◌, ◌*◌, ◌%◌, ◌++◌, ◌∷◌, List, [], map, arith, map-append, numbers_more}
use Rattle.base_lists.specs.Places.{numbers}
use Rattle.wasm_tree.specs.declared.module.ImportDesc.TheVariants as imported
use Rattle.wasm_tree.specs.declared.module.ExportDesc.TheVariants as exported
use Rattle.wasm_tree_spec.specs.Prelude.{Import, Export, Func}
use Rattle.wasm_gen.specs.Draws.{next, draw}
use Rattle.wasm_gen.specs.Modules.{a, f, numbered, exports_of, joined, first_func, passed, second_func, second_imports}

pushed : {A : Type 0} (make : ℕ → A) (k : ℕ) (xs : List A) → xs ≡ map make (numbers 0 k) → xs ++ make k ∷ [] ≡ map make (numbers 0 (k + 1))
pushed make k xs e =
    let zero : 0 + k ≡ k = omega arith in
    let more : map make (numbers 0 (k + 1)) ≡ map make (numbers 0 k) ++ make (0 + k) ∷ [] = ap (map make) (numbers_more 0 k) ∙ map-append make (numbers 0 k) ((0 + k) ∷ []) in
    ap (λ ys. ys ++ make k ∷ []) e ∙ sym (more ∙ ap (λ n. map make (numbers 0 k) ++ make n ∷ []) zero)

pub drawn_more : (s n : ℕ) → draw s (n + 1) ≡ next (draw s n)
drawn_more s n = let e : n + 1 ≡ suc n = omega arith in ap (draw s) e

pub drawn_twice : (s n now : ℕ) → now ≡ draw s (n * 2) → next (next now) ≡ draw s ((n + 1) * 2)
drawn_twice s n now e =
    let first : next now ≡ draw s (n * 2 + 1) = ap next e ∙ sym (drawn_more s (n * 2)) in
    let place : n * 2 + 1 + 1 ≡ (n + 1) * 2 = omega arith in
    ap next first ∙ sym (drawn_more s (n * 2 + 1)) ∙ ap (draw s) place

pub drawn_once : (s n now : ℕ) → now ≡ draw s n → next now ≡ draw s (n + 1)
drawn_once s n now e = ap next e ∙ sym (drawn_more s n)

pub import_more : (k : ℕ) (xs : List Import) → xs ≡ second_imports k → xs ++ record { «module» = a; field = numbered f k; desc = imported.Func 0 } ∷ [] ≡ second_imports (k + 1)
import_more k xs e = pushed _ k xs e

pub export_more : (letter : List ℕ) (index k : ℕ) (xs : List Export) → xs ≡ exports_of letter index k → xs ++ record { name = numbered letter k; desc = exported.Func (index + k) } ∷ [] ≡ exports_of letter index (k + 1)
export_more letter index k xs e = pushed _ k xs e

pub first_more : (s k now : ℕ) (xs : List Func) → xs ≡ map (first_func s) (numbers 0 k) → now ≡ draw s (k * 2) → xs ++ joined (next now) (next (next now)) ∷ [] ≡ map (first_func s) (numbers 0 (k + 1))
first_more s k now xs e at =
    let number : next now ≡ draw s (k * 2 + 1) = ap next at ∙ sym (drawn_more s (k * 2)) in
    let place : k * 2 + 1 + 1 ≡ k * 2 + 2 = omega arith in
    let op : next (next now) ≡ draw s (k * 2 + 2) = ap next number ∙ sym (drawn_more s (k * 2 + 1)) ∙ ap (draw s) place in
    ap (λ (g : Func). xs ++ g ∷ []) (ap₂ joined number op) ∙ pushed (first_func s) k xs e

pub second_more : (s count k now : ℕ) (xs : List Func) → xs ≡ map (second_func s count) (numbers 0 k) → now ≡ draw s k → xs ++ passed (next now % count) ∷ [] ≡ map (second_func s count) (numbers 0 (k + 1))
second_more s count k now xs e at =
    let callee : next now % count ≡ draw s (k + 1) % count = ap (λ n. n % count) (drawn_once s k now at) in
    ap (λ n. xs ++ passed n ∷ []) callee ∙ pushed (second_func s count) k xs e
