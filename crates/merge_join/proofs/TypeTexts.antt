-- Two function types are equal exactly if their texts are.
use Rattle.base_lists.proofs.Common.{◌≡◌, ◌∙◌, sym, ap, refl, List, [], ◌∷◌, ◌++◌, map, arith, bytes_eq, bytes_eq-Decides, same_tests, each_same_is, each_same_self}
use Rattle.wasm_tree.specs.declared.types.RefType.TheVariants as reft
use Rattle.wasm_tree_spec.specs.Prelude.{ValType, FuncType, same_func_type, same_type}
use Rattle.wasm_tree.specs.declared.types.ValType.TheVariants as valt
use Rattle.merge_join.specs.Texts.{letter_of, text_of_type}

letters_differ : (s t : ValType) → letter_of s ≡ letter_of t → s ≡ t
letters_differ valt.I32 valt.I32 e = refl
letters_differ valt.I32 valt.I64 e = absurd (omega arith)
letters_differ valt.I32 (valt.Ref reft.Func) e = absurd (omega arith)
letters_differ valt.I32 (valt.Ref reft.Extern) e = absurd (omega arith)
letters_differ valt.I64 valt.I32 e = absurd (omega arith)
letters_differ valt.I64 valt.I64 e = refl
letters_differ valt.I64 (valt.Ref reft.Func) e = absurd (omega arith)
letters_differ valt.I64 (valt.Ref reft.Extern) e = absurd (omega arith)
letters_differ (valt.Ref reft.Func) valt.I32 e = absurd (omega arith)
letters_differ (valt.Ref reft.Func) valt.I64 e = absurd (omega arith)
letters_differ (valt.Ref reft.Func) (valt.Ref reft.Func) e = refl
letters_differ (valt.Ref reft.Func) (valt.Ref reft.Extern) e = absurd (omega arith)
letters_differ (valt.Ref reft.Extern) valt.I32 e = absurd (omega arith)
letters_differ (valt.Ref reft.Extern) valt.I64 e = absurd (omega arith)
letters_differ (valt.Ref reft.Extern) (valt.Ref reft.Func) e = absurd (omega arith)
letters_differ (valt.Ref reft.Extern) (valt.Ref reft.Extern) e = refl

not_bracket : (s : ValType) → letter_of s ≡ 62 → ⊥
not_bracket valt.I32 e = absurd (omega arith)
not_bracket valt.I64 e = absurd (omega arith)
not_bracket (valt.Ref reft.Func) e = absurd (omega arith)
not_bracket (valt.Ref reft.Extern) e = absurd (omega arith)

lists_differ : (ss ts : List ValType) → map letter_of ss ≡ map letter_of ts → ss ≡ ts
lists_differ [] [] e = refl
lists_differ [] (t ∷ ts) e = cc
lists_differ (s ∷ ss) [] e = cc
lists_differ (s ∷ ss) (t ∷ ts) e =
    let head : letter_of s ≡ letter_of t = cc in
    let tail : map letter_of ss ≡ map letter_of ts = cc in
    let a = letters_differ s t head in
    let b = lists_differ ss ts tail in cc

-- Both the parameters and the results are equal.
record SameLists (ss ts us vs : List ValType) : Type 0 where
  params : ss ≡ ts
  results : us ≡ vs

split : (ss ts us vs : List ValType) → map letter_of ss ++ 62 ∷ map letter_of us ≡ map letter_of ts ++ 62 ∷ map letter_of vs → SameLists ss ts us vs
split [] [] us vs e = let tail : map letter_of us ≡ map letter_of vs = cc in record { params = refl; results = lists_differ us vs tail }
split [] (t ∷ ts) us vs e = let head : letter_of t ≡ 62 = cc in absurd (not_bracket t head)
split (s ∷ ss) [] us vs e = let head : letter_of s ≡ 62 = cc in absurd (not_bracket s head)
split (s ∷ ss) (t ∷ ts) us vs e =
    let head : letter_of s ≡ letter_of t = cc in
    let tail : map letter_of ss ++ 62 ∷ map letter_of us ≡ map letter_of ts ++ 62 ∷ map letter_of vs = cc in
    let more = split ss ts us vs tail in
    let a = letters_differ s t head in
    record { params = let b = more.params in cc; results = more.results }

abbrev typed : List ValType → List ValType → FuncType
typed ps rs = record { params = ps; results = rs }

texts_differ : (t u : FuncType) → text_of_type t ≡ text_of_type u → t ≡ u
unfolding text_of_type
texts_differ t u e = let s = split t.params u.params t.results u.results e in ap (λ ps. typed ps t.results) s.params ∙ ap (typed u.params) s.results

pub same_by_text : (t u : FuncType) → same_func_type t u ≡ bytes_eq (text_of_type t) (text_of_type u)
same_by_text t u = same_tests (same_func_type t u) (bytes_eq (text_of_type t) (text_of_type u))
    (λ e. (bytes_eq-Decides (text_of_type t) (text_of_type u)).1 (let is : t ≡ u = grind (arith, each_same_is same_type (λ a b e. grind arith)) in ap text_of_type is))
    (λ e. ap (same_func_type t) (sym (texts_differ t u ((bytes_eq-Decides (text_of_type t) (text_of_type u)).0 e))) ∙ simp (each_same_self same_type (λ a. grind arith)))
