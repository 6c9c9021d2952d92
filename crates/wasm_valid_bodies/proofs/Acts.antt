-- What an instruction does to the kept stack is what it does to the stacks that it denotes.
use Rattle.base_lists.proofs.Common.{arith, ◌≡◌, ℕ, suc, Bool, true, false, cond, ◌&&◌, nat_eq, is_some, List, [], ◌∷◌, ◌++◌, map, reverse, length, Option, Some, None, refl, sym, ap, ◌∙◌, subst, option_and_then, option_map, length-reverse, eqb-true, and_parts, option_map_is, and_then_is}
use Rattle.base_lists.proofs.Common.{is_some_there}
use Rattle.std.proofs.Common.{eq-eqb}
use Rattle.std.proofs.lemmas.Option.{cond_some}
use Rattle.wasm_tree_spec.specs.Prelude.{ValType, I32, I64, Ref, same_type}
use Rattle.wasm_valid_bodies.specs.Typing.{Operand, Stack, Matches, AllMatch, EachMatches, operands, IsNumber, IsReference, Effect, Gives, Leaves, Drops, Selects, TestsNull, Branches, Acts}
use Rattle.wasm_valid_bodies.specs.Tracking.{IsInstance, Instance, Concrete, fits_type, pop_one, below_type, pop_type, pop_all, is_number, is_reference, join, number_of, chosen, all_pop, arity, select_rest, select_two, test_top, act}
use Rattle.wasm_valid_bodies.proofs.Pops.{fits-matches, pop_type-on, pop_all-on, pop_all-back, padded}

pushed : (ts : List ValType) (xs : Stack) (o : Bool) (s : Stack) → Instance xs o s → Instance (map Some ts ++ xs) o (map Some ts ++ s)
pushed [] xs o s i = i
pushed (t ∷ ts) xs o s i = (refl, pushed ts xs o s i)

unpushed : (ts : List ValType) (xs : Stack) (o : Bool) (t : Stack) → Concrete (map Some ts ++ xs) o t → (s : Stack) × (t ≡ map Some ts ++ s) × Concrete xs o s
unpushed [] xs o t k = (t, refl, k)
unpushed (u ∷ ts) xs o [] k = absurd k
unpushed (u ∷ ts) xs o (y ∷ t) k =
    let r = unpushed ts xs o t k.1 in (r.0, ap (λ v. v ∷ t) k.0 ∙ ap (λ v. Some u ∷ v) r.1, r.2)

along : (xs : Stack) (o : Bool) (s t : Stack) → s ≡ t → Instance xs o s → Instance xs o t
along xs o s t e i = subst (λ v. Instance xs o v) e i

pop_one-on : (xs : Stack) (o : Bool) (a : Operand) (s : Stack) → Instance xs o (a ∷ s) → (p : Operand × Stack) × (pop_one xs o ≡ Some p) × IsInstance p.0 a × Instance p.1 o s
pop_one-on [] false a s i = absurd i
pop_one-on [] true a s i = ((None, []), refl, tt, tt)
pop_one-on (x ∷ xs) o a s i = ((x, xs), refl, i.0, i.1)

-- An operand that is matched by an instance of a kept type has this type.
kept_type : (t : ValType) (b u : Operand) → IsInstance (Some t) b → Matches b u → u ≡ Some t
kept_type t None u i m = cc
kept_type t (Some v) u i m = sym m ∙ i

join-on : (x y b a u : Operand) → IsInstance x b → IsInstance y a → Matches b u → Matches a u → (v : Operand) × (join x y ≡ Some v) × IsInstance v u
join-on None None b a u ix iy mb ma = (None, refl, tt)
join-on None (Some t) b a u ix iy mb ma = (Some t, refl, kept_type t a u iy ma)
join-on (Some t) None b a u ix iy mb ma = (Some t, refl, kept_type t b u ix mb)
join-on (Some t) (Some w) b a u ix iy mb ma =
    let e = kept_type t b u ix mb in
    let f = kept_type w a u iy ma in
    let g : t ≡ w = cc in
    let own : same_type t t ≡ true = grind arith in
    let h : same_type t w ≡ true = subst (λ z. same_type t z ≡ true) g own in
    (Some t, ap (λ c. cond c (Some (Some t)) None) h, e)

number-type : (t : ValType) → IsNumber (Some t) → is_number (Some t) ≡ true
number-type I32 n = refl
number-type I64 n = refl
number-type (Ref r) n = absurd n

number-on : (v u : Operand) → IsInstance v u → IsNumber u → is_number v ≡ true
number-on None u i n = refl
number-on (Some t) u i n = number-type t (subst IsNumber i n)

reference-type : (t : ValType) → IsReference (Some t) → is_reference (Some t) ≡ true
reference-type I32 n = absurd n
reference-type I64 n = absurd n
reference-type (Ref r) n = refl

reference-on : (v u : Operand) → IsInstance v u → IsReference u → is_reference v ≡ true
reference-on None u i n = refl
reference-on (Some t) u i n = reference-type t (subst IsReference i n)

AllMatch-length : (args : Stack) (ts : List ValType) → AllMatch args ts → length args ≡ length ts
AllMatch-length [] [] m = refl
AllMatch-length [] (t ∷ ts) m = absurd m
AllMatch-length (x ∷ args) [] m = absurd m
AllMatch-length (x ∷ args) (t ∷ ts) m = ap suc (AllMatch-length args ts m.1)

all_pop-on : (ls : List (List ValType)) (xs : Stack) (o : Bool) (args rest : Stack) (n : ℕ) → Instance xs o (args ++ rest) → EachMatches args ls → n ≡ length args → all_pop xs o n ls ≡ true
all_pop-on [] xs o args rest n i m e = refl
all_pop-on (l ∷ ls) xs o args rest n i m e =
    let p = pop_all-on xs o args rest (reverse l) i m.0 in
    let long : length l ≡ n = sym (length-reverse l) ∙ sym (AllMatch-length args (reverse l) m.0) ∙ sym e in
    let same : nat_eq (length l) n ≡ true = eq-eqb _ _ long in
    ap (λ b. b && is_some (pop_all xs o (reverse l)) && all_pop xs o n ls) same
    ∙ ap (λ r. is_some r && all_pop xs o n ls) p.1
    ∙ all_pop-on ls xs o args rest n i m.1 e

arity-on : (ls : List (List ValType)) (xs : Stack) (o : Bool) (args rest : Stack) → Instance xs o (args ++ rest) → EachMatches args ls → all_pop xs o (arity ls) ls ≡ true
arity-on [] xs o args rest i m = refl
arity-on (l ∷ ls) xs o args rest i m =
    all_pop-on (l ∷ ls) xs o args rest (length l) i m (sym (length-reverse l) ∙ sym (AllMatch-length args (reverse l) m.0))

abbrev Ons : Effect → Stack → Bool → Stack → Type 0
Ons e xs o t = (r : Stack × Bool) × (act e xs o ≡ Some r) × Instance r.0 r.1 t

pub act-on : (e : Effect) (xs : Stack) (o : Bool) (s t : Stack) → Instance xs o s → Acts e s t → Ons e xs o t
act-on (Gives ps rs) xs o s t i (args, rest, es, m, et) =
    let p = pop_all-on xs o args rest (reverse ps) (along xs o s _ es i) m in
    ((operands rs ++ p.0, o), ap (option_map (λ ys. (operands rs ++ ys, o))) p.1, along _ o _ t (sym et) (pushed (reverse rs) p.0 o rest p.2))
act-on (Leaves ps) xs o s t i (args, rest, es, m) =
    let p = pop_all-on xs o args rest (reverse ps) (along xs o s _ es i) m in
    (([], true), ap (option_map (λ ys. ([], true))) p.1, tt)
act-on Drops xs o s t i (x, es) =
    let p = pop_one-on xs o x t (along xs o s _ es i) in
    ((p.0.1, o), ap (option_map (λ p. (p.1, o))) p.1, p.3)
act-on Selects xs o s t i (x, b, a, u, rest, es, mx, mb, ma, n, et) =
    let p = pop_type-on xs o x (b ∷ a ∷ rest) I32 (along xs o s _ es i) mx in
    let q = pop_one-on p.0 o b (a ∷ rest) p.2 in
    let r = pop_one-on q.0.1 o a rest q.3 in
    let j = join-on q.0.0 r.0.0 b a u q.2 r.2 mb ma in
    let c : chosen q.0.0 r.0.0 ≡ Some j.0 = ap (λ z. option_and_then number_of z) j.1 ∙ ap (λ z. cond z (Some j.0) None) (number-on j.0 u j.2 n) in (
      (j.0 ∷ r.0.1, o),
      ap (λ z. option_and_then (λ ys. select_two o (pop_one ys o)) z) p.1
          ∙ ap (select_two o) q.1
          ∙ ap (select_rest o q.0.0) r.1
          ∙ ap (option_map (λ u. (u ∷ r.0.1, o))) c,
      along (j.0 ∷ r.0.1) o (u ∷ rest) t (sym et) (j.2, r.3),
    )
act-on TestsNull xs o s t i (x, rest, es, m, et) =
    let p = pop_one-on xs o x rest (along xs o s _ es i) in
    ((Some I32 ∷ p.0.1, o), ap (test_top o) p.1 ∙ ap (λ z. cond z (Some (Some I32 ∷ p.0.1, o)) None) (reference-on p.0.0 x p.2 m), along (Some I32 ∷ p.0.1) o _ t (sym et) (refl, p.3))
act-on (Branches ls) xs o s t i (x, args, rest, es, mx, m) =
    let p = pop_type-on xs o x (args ++ rest) I32 (along xs o s _ es i) mx in
    (([], true), ap (λ z. option_and_then (λ ys. cond (all_pop ys o (arity ls) ls) (Some ([], true)) None) z) p.1 ∙ ap (λ z. cond z (Some ([], true)) None) (arity-on ls p.0 o args rest p.2 m), tt)

self : (xs : Stack) (o : Bool) → Concrete xs o xs
self [] false = tt
self [] true = tt
self (x ∷ xs) o = (refl, self xs o)

pop_one-back : (xs : Stack) (o : Bool) (p : Operand × Stack) → pop_one xs o ≡ Some p → (s : Stack) → Concrete p.1 o s → Concrete xs o (p.0 ∷ s)
pop_one-back [] false p h s k = cc
pop_one-back [] true p h s k = tt
pop_one-back (x ∷ xs) o p h s k =
    let e : ◌≡◌ {A = Operand × Stack} (x, xs) p = cc in
    (sym (ap (λ q. q.0) e), subst (λ zs. Concrete zs o s) (sym (ap (λ q. q.1) e)) k)

below_type-some : (t : ValType) (m : Option (Operand × Stack)) (ys : Stack) → below_type t m ≡ Some ys → (p : Operand × Stack) × (m ≡ Some p) × Matches p.0 (Some t) × (p.1 ≡ ys)
below_type-some t None ys h = cc
below_type-some t (Some p) ys h = let c = cond_some (fits_type p.0 t) p.1 ys h in (p, refl, fits-matches p.0 t c.0, c.1)

pop_type-back : (xs : Stack) (o : Bool) (t : ValType) (ys : Stack) → pop_type xs o t ≡ Some ys → (x : Operand) × Matches x (Some t) × ((s : Stack) → Concrete ys o s → Concrete xs o (x ∷ s))
pop_type-back xs o t ys h =
    let p = below_type-some t (pop_one xs o) ys h in
    (p.0.0, p.2, λ s k. pop_one-back xs o p.0 p.1 s (subst (λ zs. Concrete zs o s) (sym p.3) k))

join-back : (b a u : Operand) → join b a ≡ Some u → Matches b u × Matches a u
join-back None None u h = (tt, tt)
join-back None (Some t) u h = (tt, cc)
join-back (Some t) None u h = (cc, tt)
join-back (Some t) (Some w) u h =
    let c = cond_some (same_type t w) (Some t) u h in let same : same_type t w ≡ true = c.0 in let e : t ≡ w = grind arith in (c.1, sym (ap Some e) ∙ c.1)

is_number-true : (u : Operand) → is_number u ≡ true → IsNumber u
is_number-true None h = tt
is_number-true (Some I32) h = tt
is_number-true (Some I64) h = tt
is_number-true (Some (Ref r)) h = cc

is_reference-true : (u : Operand) → is_reference u ≡ true → IsReference u
is_reference-true None h = tt
is_reference-true (Some I32) h = cc
is_reference-true (Some I64) h = cc
is_reference-true (Some (Ref r)) h = tt

chosen-back : (b a u : Operand) → chosen b a ≡ Some u → Matches b u × Matches a u × IsNumber u
chosen-back b a u h =
    let j = and_then_is (join b a) number_of u h in
    let c = cond_some (is_number j.0) j.0 u j.2 in
    let m = join-back b a u (j.1 ∙ ap Some c.1) in
    (m.0, m.1, subst IsNumber c.1 (is_number-true j.0 c.0))

-- A concrete stack of a kept stack with a topmost operand has this operand on top.
first : (x : Operand) (xs : Stack) (o : Bool) (t : Stack) → Concrete (x ∷ xs) o t → (s : Stack) × (t ≡ x ∷ s) × Concrete xs o s
first x xs o [] k = absurd k
first x xs o (y ∷ t) k = (t, ap (λ z. z ∷ t) k.0, k.1)

select_two-some : (o : Bool) (m : Option (Operand × Stack)) (r : Stack × Bool) → select_two o m ≡ Some r → (p : Operand × Stack) × (m ≡ Some p) × (select_rest o p.0 (pop_one p.1 o) ≡ Some r)
select_two-some o None r h = cc
select_two-some o (Some p) r h = (p, refl, h)

select_rest-some : (o : Bool) (b : Operand) (m : Option (Operand × Stack)) (r : Stack × Bool) → select_rest o b m ≡ Some r → (q : Operand × Stack) × (u : Operand) × (m ≡ Some q) × (chosen b q.0 ≡ Some u) × (◌≡◌ {A = Stack × Bool} (u ∷ q.1, o) r)
select_rest-some o b None r h = cc
select_rest-some o b (Some q) r h =
    let e = option_map_is (λ u. (u ∷ q.1, o)) (chosen b q.0) r h in (q, e.0, refl, e.1, e.2)

test_top-some : (o : Bool) (m : Option (Operand × Stack)) (r : Stack × Bool) → test_top o m ≡ Some r → (p : Operand × Stack) × (m ≡ Some p) × IsReference p.0 × (◌≡◌ {A = Stack × Bool} (Some I32 ∷ p.1, o) r)
test_top-some o None r h = cc
test_top-some o (Some p) r h =
    let c = cond_some {A = Stack × Bool} (is_reference p.0) (Some I32 ∷ p.1, o) r h in (p, refl, is_reference-true p.0 c.0, c.1)

all_pop-back : (ls : List (List ValType)) (xs : Stack) (o : Bool) (n : ℕ) → all_pop xs o n ls ≡ true → EachMatches (padded n xs) ls
all_pop-back [] xs o n h = tt
all_pop-back (l ∷ ls) xs o n h =
    let a = and_parts (nat_eq (length l) n && is_some (pop_all xs o (reverse l))) (all_pop xs o n ls) h in
    let b = and_parts (nat_eq (length l) n) (is_some (pop_all xs o (reverse l))) a.0 in
    let p = is_some_there (pop_all xs o (reverse l)) b.1 in
    let long : length (reverse l) ≡ n = length-reverse l ∙ eqb-true (length l) n b.0 in
    (subst (λ k. AllMatch (padded k xs) (reverse l)) long (pop_all-back xs o (reverse l) p.0 p.1).0, all_pop-back ls xs o n a.1)

-- The operands of a branch lie on top of a concrete stack if the branch can follow the kept stack.
branch-back : (ls : List (List ValType)) (xs : Stack) (o : Bool) → all_pop xs o (arity ls) ls ≡ true → (rest : Stack) × Concrete xs o (padded (arity ls) xs ++ rest)
branch-back [] xs o h = (xs, self xs o)
branch-back (l ∷ ls) xs o h =
    let a = and_parts (nat_eq (length l) (length l) && is_some (pop_all xs o (reverse l))) (all_pop xs o (length l) ls) h in
    let b = and_parts (nat_eq (length l) (length l)) (is_some (pop_all xs o (reverse l))) a.0 in
    let p = is_some_there (pop_all xs o (reverse l)) b.1 in
    let k = (pop_all-back xs o (reverse l) p.0 p.1).1 p.0 (self p.0 o) in
    (p.0, subst (λ n. Concrete xs o (padded n xs ++ p.0)) (length-reverse l) k)

abbrev Backs : Effect → Stack → Bool → Stack → Type 0
Backs e xs o t = (s : Stack) × Concrete xs o s × Acts e s t

pub act-back : (e : Effect) (xs : Stack) (o : Bool) (r : Stack × Bool) (t : Stack) → act e xs o ≡ Some r → Concrete r.0 r.1 t → Backs e xs o t
act-back (Gives ps rs) xs o r t h k =
    let e = option_map_is {B = Stack × Bool} (λ ys. (operands rs ++ ys, o)) (pop_all xs o (reverse ps)) r h in
    let k2 = subst (λ (z : Stack × Bool). Concrete z.0 z.1 t) (sym e.2) k in
    let u = unpushed (reverse rs) e.0 o t k2 in
    let b = pop_all-back xs o (reverse ps) e.0 e.1 in
    (padded (length (reverse ps)) xs ++ u.0, b.1 u.0 u.2, (padded (length (reverse ps)) xs, u.0, refl, b.0, u.1))
act-back (Leaves ps) xs o r t h k =
    let e = option_map_is {B = Stack × Bool} (λ ys. ([], true)) (pop_all xs o (reverse ps)) r h in
    let b = pop_all-back xs o (reverse ps) e.0 e.1 in
    (padded (length (reverse ps)) xs ++ e.0, b.1 e.0 (self e.0 o), (padded (length (reverse ps)) xs, e.0, refl, b.0))
act-back Drops xs o r t h k =
    let e = option_map_is {B = Stack × Bool} (λ p. (p.1, o)) (pop_one xs o) r h in
    let k2 = subst (λ (z : Stack × Bool). Concrete z.0 z.1 t) (sym e.2) k in
    (e.0.0 ∷ t, pop_one-back xs o e.0 e.1 t k2, (e.0.0, refl))
act-back Selects xs o r t h k =
    let a = and_then_is {B = Stack × Bool} (pop_type xs o I32) (λ ys. select_two o (pop_one ys o)) r h in
    let x = pop_type-back xs o I32 a.0 a.1 in
    let p = select_two-some o (pop_one a.0 o) r a.2 in
    let q = select_rest-some o p.0.0 (pop_one p.0.1 o) r p.2 in
    let c = chosen-back p.0.0 q.0.0 q.1 q.3 in
    let k2 = subst (λ (z : Stack × Bool). Concrete z.0 z.1 t) (sym q.4) k in
    let f = first q.1 q.0.1 o t k2 in
    let k3 = pop_one-back p.0.1 o q.0 q.2 f.0 f.2 in
    let k4 = pop_one-back a.0 o p.0 p.1 (q.0.0 ∷ f.0) k3 in
    (x.0 ∷ p.0.0 ∷ q.0.0 ∷ f.0, x.2 _ k4, (x.0, p.0.0, q.0.0, q.1, f.0, refl, x.1, c.0, c.1, c.2, f.1))
act-back TestsNull xs o r t h k =
    let p = test_top-some o (pop_one xs o) r h in
    let k2 = subst (λ (z : Stack × Bool). Concrete z.0 z.1 t) (sym p.3) k in
    let f = first (Some I32) p.0.1 o t k2 in
    (p.0.0 ∷ f.0, pop_one-back xs o p.0 p.1 f.0 f.2, (p.0.0, f.0, refl, p.2, f.1))
act-back (Branches ls) xs o r t h k =
    let a = and_then_is {B = Stack × Bool} (pop_type xs o I32) (λ ys. cond (all_pop ys o (arity ls) ls) (Some ([], true)) None) r h in
    let x = pop_type-back xs o I32 a.0 a.1 in
    let c = cond_some {A = Stack × Bool} (all_pop a.0 o (arity ls) ls) ([], true) r a.2 in
    let b = branch-back ls a.0 o c.0 in
    (x.0 ∷ (padded (arity ls) a.0 ++ b.0), x.2 _ b.1, (x.0, padded (arity ls) a.0, b.0, refl, x.1, all_pop-back ls a.0 o (arity ls) c.0))
