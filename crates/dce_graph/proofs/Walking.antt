-- The points that a loop has met after one more item.
use Rattle.base_lists.proofs.Common.{◌≡◌, ◌∙◌, sym, ap, refl, ℕ, suc, ◌+◌, ◌<◌, List, [], ◌∷◌, ◌++◌, map, take, length, get_or, append_assoc, append-nil, Bool, true, false, cond, Option, Some, None, Result, Ok, Err, arith, OnOk, cons_option, filter_map, flat_map, flat_map-append, map-append}
use Rattle.base_lists.proofs.Common.{length-take-le, filter_map-append}
use Rattle.base_lists.specs.Places.{places}
use Rattle.wasm_tree_spec.specs.Prelude.{BlockType, Instr, out-Instr, map-Instr, fold_out-Instr, outs-Block, outs-Loop, outs-If, Operand, operands_of, held, listed}
use Rattle.wasm_tree.specs.declared.instr.Instr.{Block, Loop, If}
use Rattle.wasm_tree.specs.declared.space.Operands.{Operands}
use Rattle.wasm_tree.proofs.OperandLaws.{operands_map, held_map}
use Rattle.dce_graph.specs.declared.point.Point.{Point}
use Rattle.dce_graph.specs.declared.search.Search.{Search}
use Rattle.dce_graph.specs.Prelude.{operand_point, body_operands, named_points, body_points, Spread}
use Rattle.dce_graph.specs.Reach.{operands_step, all_operands}
use Rattle.dce_graph.proofs.Marking.{spread_then}
use Rattle.dce_graph.proofs.Steps.{done_more}

-- Two walks in sequence meet the points of both. The second may fail.
pub then_ok : {A E : Type 0} (r : Result A E) (a b c : Search) (ps qs all : List Point) → all ≡ ps ++ qs → Spread a ps b → OnOk r (Spread b qs c) → OnOk r (Spread a all c)
then_ok (Ok x) a b c ps qs all e f g = rw e (spread_then a b c ps qs f g)
then_ok (Err x) a b c ps qs all e f g = tt

pub then : (a b c : Search) (ps qs all : List Point) → all ≡ ps ++ qs → Spread a ps b → Spread b qs c → Spread a all c
then a b c ps qs all e f g = rw e (spread_then a b c ps qs f g)

pub five_joined : {A : Type 0} (a b c d e : List A) → a ++ (b ++ (c ++ (d ++ e))) ≡ (((a ++ b) ++ c) ++ d) ++ e
five_joined a b c d e = sym (append_assoc ((a ++ b) ++ c) d e ∙ append_assoc (a ++ b) c (d ++ e) ∙ append_assoc a b (c ++ (d ++ e)))

pub flat_more : {A B : Type 0} (f : A → List B) (xs : List A) (i : ℕ) (x : A) → i < length xs → x ≡ get_or xs i x → flat_map f (take (i + 1) xs) ≡ flat_map f (take i xs) ++ f x
flat_more f xs i x lt is =
    ap (flat_map f) (done_more xs i x lt is) ∙ flat_map-append f (take i xs) (x ∷ []) ∙ ap (λ ys. flat_map f (take i xs) ++ ys) (append-nil (f x))

pub filter_more : {A B : Type 0} (f : A → Option B) (xs : List A) (i : ℕ) (x : A) → i < length xs → x ≡ get_or xs i x → filter_map f (take (i + 1) xs) ≡ filter_map f (take i xs) ++ cons_option (f x) []
filter_more f xs i x lt is = ap (filter_map f) (done_more xs i x lt is) ∙ filter_map-append f (take i xs) (x ∷ [])

joined : (is : List Instr) → body_operands is ≡ flat_map all_operands is
joined [] = refl
joined (i ∷ is) = ap (λ os. all_operands i ++ os) (joined is)

pub body_more : (is : List Instr) (n : ℕ) (i : Instr) → n < length is → i ≡ get_or is n i → body_points (take (n + 1) is) ≡ body_points (take n is) ++ named_points i
body_more is n i lt e =
    ap (filter_map operand_point) (joined (take (n + 1) is) ∙ flat_more all_operands is n i lt e ∙ ap (λ os. os ++ all_operands i) (sym (joined (take n is))))
    ∙ filter_map-append operand_point (body_operands (take n is)) (all_operands i)

places_push : {A : Type 0} (test : A → Bool) (xs : List A) (x : A) (n : ℕ) → places test (xs ++ x ∷ []) n ≡ places test xs n ++ cond (test x) ((n + length xs) ∷ []) []
places_push test [] x n = ap (λ k. cond (test x) (k ∷ []) []) (let e : n ≡ n + 0 = omega arith in e)
places_push test (y ∷ ys) x n = by (test y) (places_push test ys x (suc n) ∙ ap (λ k. places test ys (suc n) ++ cond (test x) (k ∷ []) []) (let e : suc n + length ys ≡ n + suc (length ys) = omega arith in e))
  where
    by : (b : Bool) → places test (ys ++ x ∷ []) (suc n) ≡ places test ys (suc n) ++ cond (test x) ((n + suc (length ys)) ∷ []) []
        → cond b (n ∷ places test (ys ++ x ∷ []) (suc n)) (places test (ys ++ x ∷ []) (suc n)) ≡ cond b (n ∷ places test ys (suc n)) (places test ys (suc n)) ++ cond (test x) ((n + suc (length ys)) ∷ []) []
    by true e = ap (λ ps. n ∷ ps) e
    by false e = e

pub places_one_more : {A : Type 0} (test : A → Bool) (xs : List A) (i : ℕ) (x : A) → i < length xs → x ≡ get_or xs i x → places test (take (i + 1) xs) 0 ≡ places test (take i xs) 0 ++ cond (test x) (i ∷ []) []
places_one_more test xs i x lt is =
    ap (λ ys. places test ys 0) (done_more xs i x lt is) ∙ places_push test (take i xs) x 0
    ∙ ap (λ k. places test (take i xs) 0 ++ cond (test x) (k ∷ []) []) (let e : 0 + length (take i xs) ≡ i = omega (arith, length-take-le i xs) in e)

pub place_more : {A : Type 0} (p : ℕ → Point) (test : A → Bool) (xs : List A) (i : ℕ) (x : A) → i < length xs → x ≡ get_or xs i x → map p (places test (take (i + 1) xs) 0) ≡ map p (places test (take i xs) 0) ++ cond (test x) (p i ∷ []) []
place_more p test xs i x lt is =
    ap (map p) (places_one_more test xs i x lt is) ∙ map-append p (places test (take i xs) 0) (cond (test x) (i ∷ []) []) ∙ ap (λ ps. map p (places test (take i xs) 0) ++ ps) (by (test x))
  where
    by : (b : Bool) → map p (cond b (i ∷ []) []) ≡ cond b (p i ∷ []) []
    by true = refl
    by false = refl

-- ---- what an instruction names ----

-- The operands of an instruction are its own and those of the instructions inside it.
operands_inside : (i : Instr) → all_operands i ≡ operands_of i ++ body_operands (held (out-Instr i))
operands_inside i =
    fold_out-Instr (List Operand) operands_step i
    ∙ ap (λ os. os ++ flat_map (λ ps. ps) (held (map-Instr Instr (List Operand) all_operands (out-Instr i)))) (operands_map all_operands (out-Instr i))
    ∙ ap (λ oss. operands_of i ++ flat_map (λ ps. ps) oss) (held_map all_operands (out-Instr i))

pub named_inside : (i : Instr) → named_points i ≡ filter_map operand_point (operands_of i) ++ body_points (held (out-Instr i))
named_inside i = ap (filter_map operand_point) (operands_inside i) ∙ filter_map-append operand_point (operands_of i) (body_operands (held (out-Instr i)))

named_with : (i : Instr) (inner : List Instr) → held (out-Instr i) ≡ inner → named_points i ≡ filter_map operand_point (operands_of i) ++ body_points inner
named_with i inner e = named_inside i ∙ ap (λ is. filter_map operand_point (operands_of i) ++ body_points is) e

pub of_Block : (i : Instr) (ty : BlockType) (body : List Instr) → i ≡ Block ty body → named_points i ≡ filter_map operand_point (operands_of i) ++ body_points body
of_Block i ty body e = named_with i body (ap (λ x. held (out-Instr x)) e ∙ ap held (outs-Block ty body))

pub of_Loop : (i : Instr) (ty : BlockType) (body : List Instr) → i ≡ Loop ty body → named_points i ≡ filter_map operand_point (operands_of i) ++ body_points body
of_Loop i ty body e = named_with i body (ap (λ x. held (out-Instr x)) e ∙ ap held (outs-Loop ty body))

operands_both : (is js : List Instr) → body_operands (is ++ js) ≡ body_operands is ++ body_operands js
operands_both [] js = refl
operands_both (i ∷ is) js = ap (λ os. all_operands i ++ os) (operands_both is js) ∙ sym (append_assoc (all_operands i) (body_operands is) (body_operands js))

body_both : (is js : List Instr) → body_points (is ++ js) ≡ body_points is ++ body_points js
body_both is js = ap (filter_map operand_point) (operands_both is js) ∙ filter_map-append operand_point (body_operands is) (body_operands js)

pub of_If : (i : Instr) (ty : BlockType) (body other : List Instr) → i ≡ If ty body other → named_points i ≡ (filter_map operand_point (operands_of i) ++ body_points body) ++ body_points other
of_If i ty body other e =
    named_with i (body ++ other) (ap (λ x. held (out-Instr x)) e ∙ ap held (outs-If ty body other))
    ∙ ap (λ ps. filter_map operand_point (operands_of i) ++ ps) (body_both body other)
    ∙ sym (append_assoc (filter_map operand_point (operands_of i)) (body_points body) (body_points other))

-- The points of two optional operands are those of the first and then those of the second.
pub listed_both : (all : Operands) (os : List Operand) → listed all ≡ os → filter_map operand_point os ≡ filter_map operand_point (cons_option all.first []) ++ filter_map operand_point (cons_option all.second [])
listed_both all os e = ap (filter_map operand_point) (sym e) ∙ by all.first all.second
  where
    by : (a b : Option Operand) → filter_map operand_point (cons_option a (cons_option b [])) ≡ filter_map operand_point (cons_option a []) ++ filter_map operand_point (cons_option b [])
    by None b = refl
    by (Some o) b = filter_map-append operand_point (o ∷ []) (cons_option b [])
