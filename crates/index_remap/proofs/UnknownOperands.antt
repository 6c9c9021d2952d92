-- Stacks with operands of unknown type in place of some operands: an instruction that fits a stack
-- fits such a stack, and also a stack with more operands below.
use Rattle.base_lists.proofs.Common.{◌≡◌, List, [], ◌∷◌, ◌++◌, map, reverse, Some, None, refl, sym, ap, ◌∙◌, subst, append_assoc, append_rel}
use Rattle.wasm_tree_spec.specs.Prelude.{ValType, I32, Instr, Block', Loop', If'}
use Rattle.wasm_valid_bodies.specs.Typing.{Operand, Stack, Matches, AllMatch, EachMatches, operands, IsReference, Effect, Gives, Leaves, Drops, Selects, TestsNull, Branches, Acts, Context, Fits, LeadsAll}
use Rattle.run_simulation.specs.Prelude.{ListRel, nil, cons}

-- A stack is lower than another if it has as many operands and each matches the other's.
abbrev pub Lower : Stack → Stack → Type 0
Lower = ListRel Matches

-- ---- operands ----

matches_self : (x : Operand) → Matches x x
matches_self None = tt
matches_self (Some a) = refl

matches_on : (x y z : Operand) → Matches x y → Matches y z → Matches x z
matches_on None y z h k = tt
matches_on (Some a) y z h k = subst (λ w. Matches w z) (sym h) k

reference_lower : (x y : Operand) → Matches x y → IsReference y → IsReference x
reference_lower None y h r = tt
reference_lower (Some a) y h r = subst IsReference (sym h) r

-- ---- stacks ----

pub lower_self : (s : Stack) → Lower s s
lower_self [] = nil
lower_self (x ∷ s) = cons (matches_self x) (lower_self s)

pub lower_on : {s t u : Stack} → Lower s t → Lower t u → Lower s u
lower_on nil nil = nil
lower_on (cons p l) (cons q k) = cons (matches_on _ _ _ p q) (lower_on l k)

pub lower_match : {s t : Stack} (ts : List ValType) → Lower s t → AllMatch t ts → AllMatch s ts
lower_match [] nil h = h
lower_match (t ∷ ts) nil h = h
lower_match [] (cons p l) h = h
lower_match (t ∷ ts) (cons p l) h = (matches_on _ _ _ p h.0, lower_match ts l h.1)

lower_each : {s t : Stack} (ls : List (List ValType)) → Lower s t → EachMatches t ls → EachMatches s ls
lower_each [] l h = tt
lower_each (ts ∷ ls) l h = (lower_match (reverse ts) l h.0, lower_each ls l h.1)

-- A stack that is lower than one of two parts has two parts, each lower than its counterpart.
lower_split : (s args rest : Stack) → Lower s (args ++ rest) → (a r : Stack) × (s ≡ a ++ r) × Lower a args × Lower r rest
lower_split s [] rest l = ([], s, refl, nil, l)
lower_split [] (y ∷ args) rest l = elim l [ ]
lower_split (x ∷ s) (y ∷ args) rest (cons p l) = let (a, r, e, f, g) = lower_split s args rest l in (x ∷ a, r, ap (λ z. x ∷ z) e, cons p f, g)

-- Operands that match types are lower than these types.
pub match_lower : (s : Stack) (ts : List ValType) → AllMatch s ts → Lower s (map Some ts)
match_lower [] [] h = nil
match_lower [] (t ∷ ts) h = absurd h
match_lower (x ∷ s) [] h = absurd h
match_lower (x ∷ s) (t ∷ ts) h = cons h.0 (match_lower s ts h.1)

-- ---- instructions ----

pub acts_lower : (e : Effect) (s t r : Stack) → Lower r s → Acts e s t → (u : Stack) × Acts e r u × Lower u t
acts_lower (Gives ps rs) s t r l (args, rest, e, h, g) =
    let (a, b, f, p, q) = lower_split r args rest (subst (Lower r) e l) in
    (operands rs ++ b, (a, b, f, lower_match (reverse ps) p h, refl), subst (Lower (operands rs ++ b)) (sym g) (append_rel (lower_self (operands rs)) q))
acts_lower (Leaves ps) s t r l (args, rest, e, h) =
    let (a, b, f, p, q) = lower_split r args rest (subst (Lower r) e l) in
    (t, (a, b, f, lower_match (reverse ps) p h), lower_self t)
acts_lower Drops s t r l (x, e) = dropped r (subst (Lower r) e l)
  where
    dropped : (v : Stack) → Lower v (x ∷ t) → (u : Stack) × Acts Drops v u × Lower u t
    dropped [] k = elim k [ ]
    dropped (y ∷ v) (cons p k) = (v, (y, refl), k)
acts_lower Selects s t r l (x, b, a, u, rest, e, hx, hb, ha, n, g) = selected r (subst (Lower r) e l)
  where
    selected : (v : Stack) → Lower v (x ∷ b ∷ a ∷ rest) → (w : Stack) × Acts Selects v w × Lower w t
    selected [] k = elim k [ ]
    selected (y ∷ []) (cons p k) = elim k [ ]
    selected (y ∷ c ∷ []) (cons p (cons q k)) = elim k [ ]
    selected (y ∷ c ∷ d ∷ v) (cons p (cons q (cons o k))) =
        (u ∷ v, (y, c, d, u, v, refl, matches_on y x (Some I32) p hx, matches_on c b u q hb, matches_on d a u o ha, n, refl), subst (Lower (u ∷ v)) (sym g) (cons (matches_self u) k))
acts_lower TestsNull s t r l (x, rest, e, h, g) = tested r (subst (Lower r) e l)
  where
    tested : (v : Stack) → Lower v (x ∷ rest) → (u : Stack) × Acts TestsNull v u × Lower u t
    tested [] k = elim k [ ]
    tested (y ∷ v) (cons p k) = (Some I32 ∷ v, (y, v, refl, reference_lower y x p h, refl), subst (Lower (Some I32 ∷ v)) (sym g) (cons refl k))
acts_lower (Branches ls) s t r l (x, args, rest, e, hx, h) = branched r (subst (Lower r) e l)
  where
    branched : (v : Stack) → Lower v (x ∷ (args ++ rest)) → (u : Stack) × Acts (Branches ls) v u × Lower u t
    branched [] k = elim k [ ]
    branched (y ∷ v) (cons p k) =
        let (a, b, f, q, o) = lower_split v args rest k in
        (t, (y, a, b, ap (λ z. y ∷ z) f, matches_on y x (Some I32) p hx, lower_each ls q h), lower_self t)

-- An instruction acts alike on a stack with more operands below.
pub acts_over : (e : Effect) (s t z : Stack) → Acts e s t → Acts e (s ++ z) (t ++ z)
acts_over (Gives ps rs) s t z (args, rest, e, h, g) =
    (args, rest ++ z, ap (λ x. x ++ z) e ∙ append_assoc args rest z, h, ap (λ x. x ++ z) g ∙ append_assoc (operands rs) rest z)
acts_over (Leaves ps) s t z (args, rest, e, h) = (args, rest ++ z, ap (λ x. x ++ z) e ∙ append_assoc args rest z, h)
acts_over Drops s t z (x, e) = (x, ap (λ y. y ++ z) e)
acts_over Selects s t z (x, b, a, u, rest, e, hx, hb, ha, n, g) = (x, b, a, u, rest ++ z, ap (λ y. y ++ z) e, hx, hb, ha, n, ap (λ y. y ++ z) g)
acts_over TestsNull s t z (x, rest, e, h, g) = (x, rest ++ z, ap (λ y. y ++ z) e, h, ap (λ y. y ++ z) g)
acts_over (Branches ls) s t z (x, args, rest, e, hx, h) = (x, args, rest ++ z, ap (λ y. y ++ z) e ∙ ap (λ y. x ∷ y) (append_assoc args rest z), hx, h)

pub fits_lower : (c : Context) (i : Instr) (s t r : Stack) → Lower r s → Fits c i s t → (u : Stack) × Fits c i r u × Lower u t
fits_lower c (Block' b n body) s t r l (f, e, w, a) = let (u, h, k) = acts_lower (Gives f.params f.results) s t r l a in (u, (f, e, w, h), k)
fits_lower c (Loop' b n body) s t r l (f, e, w, a) = let (u, h, k) = acts_lower (Gives f.params f.results) s t r l a in (u, (f, e, w, h), k)
fits_lower c (If' b n body m other) s t r l (f, e, w, o, a) = let (u, h, k) = acts_lower (Gives (f.params ++ I32 ∷ []) f.results) s t r l a in (u, (f, e, w, o, h), k)
fits_lower c i s t r l h = let (u, a, k) = acts_lower h.0 s t r l h.2 in (u, (h.0, h.1, a), k)

pub fits_over : (c : Context) (i : Instr) (s t z : Stack) → Fits c i s t → Fits c i (s ++ z) (t ++ z)
fits_over c (Block' b n body) s t z (f, e, w, a) = (f, e, w, acts_over (Gives f.params f.results) s t z a)
fits_over c (Loop' b n body) s t z (f, e, w, a) = (f, e, w, acts_over (Gives f.params f.results) s t z a)
fits_over c (If' b n body m other) s t z (f, e, w, o, a) = (f, e, w, o, acts_over (Gives (f.params ++ I32 ∷ []) f.results) s t z a)
fits_over c i s t z h = (h.0, h.1, acts_over h.0 s t z h.2)

-- ---- code ----

pub leads_lower : (c : Context) (is : List Instr) (s t r : Stack) → Lower r s → LeadsAll c is s t → (u : Stack) × LeadsAll c is r u × Lower u t
leads_lower c [] s t r l h = (r, refl, subst (Lower r) h l)
leads_lower c (i ∷ is) s t r l (v, f, h) =
    let (w, g, k) = fits_lower c i s v r l f in
    let (u, p, q) = leads_lower c is v t w k h in
    (u, (w, g, p), q)

pub leads_over : (c : Context) (is : List Instr) (s t z : Stack) → LeadsAll c is s t → LeadsAll c is (s ++ z) (t ++ z)
leads_over c [] s t z h = ap (λ x. x ++ z) h
leads_over c (i ∷ is) s t z (v, f, h) = (v ++ z, fits_over c i s v z f, leads_over c is v t z h)

pub leads_on : (c : Context) (is js : List Instr) (s u t : Stack) → LeadsAll c is s u → LeadsAll c js u t → LeadsAll c (is ++ js) s t
leads_on c [] js s u t h k = subst (λ x. LeadsAll c js x t) (sym h) k
leads_on c (i ∷ is) js s u t (v, f, h) k = (v, f, leads_on c is js v u t h k)
