-- A body is well typed or it is not.
use Rattle.base_lists.proofs.Common.{◌≡◌, ◌∙◌, refl, sym, ap, subst, Bool, true, false, List, [], ◌∷◌, ◌++◌, append-nil, map, reverse, length, Option, Some, None, ◌⊎◌, inl, inr}
use Rattle.wasm_tree_spec.specs.Prelude.{ValType, I32, Instr, Row_of-Instr, end_of-Instr, more_of-Instr}
use Rattle.wasm_tree.specs.declared.instr.Instr.{Block', Loop', If'}
use Rattle.wasm_valid_bodies.specs.Typing.{Stack, operands, Effect, Gives, Acts, Signature, Context, under, signature_of, effect_of, LeadsToMatch, Fits, Leads, LeadsAll, WellTyped}
use Rattle.wasm_valid_bodies.specs.Tracking.{Instance, Concrete, StepsTo, TracksStep, pop_all, act, answer_of}
use Rattle.wasm_valid_bodies.proofs.Pops.{pop_all-on, pop_all-back, padded}
use Rattle.wasm_valid_bodies.proofs.Acts.{act-on, act-back}
use Rattle.wasm_valid_bodies.proofs.Runs.{IsPlain, plain_arm, own_instance, own_concrete, nothing_below, nothing_kept}

abbrev Relation : Type 1
Relation = Stack → Stack → Type 0

-- The checker has an answer for a relation from this kept stack: what it leads to, or that it leads
-- nowhere.
abbrev IsTracked : Relation → Stack → Bool → Type 0
IsTracked F xs o = (ys : Stack) × (p : Bool) × (ok : Bool) × TracksStep F xs o ys p ok

acts_tracked : (e : Effect) (xs : Stack) (o : Bool) (r : Option (Stack × Bool)) → act e xs o ≡ r → IsTracked (Acts e) xs o
acts_tracked e xs o None h = ([], false, false, λ s t i a. let r = act-on e xs o s t i a in cc)
acts_tracked e xs o (Some r) h = (
  r.0,
  r.1,
  true,
  record {
    back = λ t k. act-back e xs o r t h k;
    on = λ s t i a. let q = act-on e xs o s t i a in let same : q.0 ≡ r = cc in subst (λ (z : Stack × Bool). Instance z.0 z.1 t) same q.2;
  },
)

plain_tracked : (c : Context) (i : Instr) (xs : Stack) (o : Bool) → IsPlain i → (r : Option (Stack × Bool)) → answer_of (effect_of c i) xs o ≡ r → IsTracked (Fits c i) xs o
plain_tracked c i xs o plain None h = ([], false, false, plain_arm c i xs o [] false false plain h)
plain_tracked c i xs o plain (Some r) h = (r.0, r.1, true, plain_arm c i xs o r.0 r.1 true plain h)

-- ---- a body, by what its instructions lead to

abbrev Either : Type 0 → Type 0
Either P = P ⊎ (P → ⊥)

ends_by : (L : Relation) (ps rs : List ValType) (ys : Stack) (p : Bool) → StepsTo L (operands ps) false ys p → (r : Option Stack) → pop_all ys p (reverse rs) ≡ r → Either (LeadsToMatch L ps rs)
ends_by L ps rs ys p f (Some []) h =
    let b = pop_all-back ys p (reverse rs) [] h in
    let last = padded (length (reverse rs)) ys in
    let from = f.back last (subst (Concrete ys p) (append-nil last) (b.1 [] (nothing_kept p))) in
    inl (last, subst (λ z. L z last) (own_concrete (reverse ps) from.0 from.1) from.2, b.0)
ends_by L ps rs ys p f (Some (x ∷ xs)) h =
    inr (λ (last, l, m).
    let i = f.on (operands ps) last (own_instance (reverse ps)) l in
    let q = pop_all-on ys p last [] (reverse rs) (subst (Instance ys p) (sym (append-nil last)) i) m in
    let none = nothing_below q.0 p q.2 in
    let same : ◌≡◌ {A = Option Stack} (Some []) (Some (x ∷ xs)) = ap Some (sym none) ∙ sym q.1 ∙ h in cc)
ends_by L ps rs ys p f None h =
    inr (λ (last, l, m).
    let i = f.on (operands ps) last (own_instance (reverse ps)) l in
    let q = pop_all-on ys p last [] (reverse rs) (subst (Instance ys p) (sym (append-nil last)) i) m in
    let same : ◌≡◌ {A = Option Stack} (Some q.0) None = sym q.1 ∙ h in cc)

ends_either : (L : Relation) (ps rs : List ValType) → IsTracked L (operands ps) false → Either (LeadsToMatch L ps rs)
ends_either L ps rs (ys, p, true, f) = ends_by L ps rs ys p f _ refl
ends_either L ps rs (ys, p, false, fails) = inr (λ (last, l, m). fails (operands ps) last (own_instance (reverse ps)) l)

-- ---- blocks

-- The relation of an instruction with a body: it has its effect if its type exists and its body is
-- right.
abbrev Does : Option Signature → (Signature → Type 0) → (Signature → Effect) → Relation
Does sig IsRight effect s t = (f : Signature) × (sig ≡ Some f) × IsRight f × Acts (effect f) s t

same_signature : (sig : Option Signature) (f g : Signature) → sig ≡ Some f → sig ≡ Some g → g ≡ f
same_signature sig f g e is = let same : ◌≡◌ {A = Option Signature} (Some g) (Some f) = sym is ∙ e in cc

does_nothing : (sig : Option Signature) (IsRight : Signature → Type 0) (effect : Signature → Effect) (xs : Stack) (o : Bool) → sig ≡ None → IsTracked (Does sig IsRight effect) xs o
does_nothing sig IsRight effect xs o e = ([], false, false, λ s t i h. let no : ◌≡◌ {A = Option Signature} None (Some h.0) = sym e ∙ h.1 in cc)

does_so : (sig : Option Signature) (IsRight : Signature → Type 0) (effect : Signature → Effect) (xs : Stack) (o : Bool) (f : Signature) → sig ≡ Some f → Either (IsRight f) → IsTracked (Acts (effect f)) xs o → IsTracked (Does sig IsRight effect) xs o
does_so sig IsRight effect xs o f e (inr wrong) acts = ([], false, false, λ s t i h. wrong (subst IsRight (same_signature sig f h.0 e h.1) h.2))
does_so sig IsRight effect xs o f e (inl right) (ys, p, false, fails) = ([], false, false, λ s t i h. fails s t i (subst (λ g. Acts (effect g) s t) (same_signature sig f h.0 e h.1) h.3))
does_so sig IsRight effect xs o f e (inl right) (ys, p, true, steps) = (
  ys,
  p,
  true,
  record {
    back = λ t k. let b = steps.back t k in (b.0, b.1, (f, e, right, b.2));
    on = λ s t i h. steps.on s t i (subst (λ g. Acts (effect g) s t) (same_signature sig f h.0 e h.1) h.3);
  },
)

does_tracked : (sig : Option Signature) (IsRight : Signature → Type 0) (effect : Signature → Effect) (xs : Stack) (o : Bool) → ((f : Signature) → Either (IsRight f)) → (known : Option Signature) → sig ≡ known → IsTracked (Does sig IsRight effect) xs o
does_tracked sig IsRight effect xs o right None e = does_nothing sig IsRight effect xs o e
does_tracked sig IsRight effect xs o right (Some f) e = does_so sig IsRight effect xs o f e (right f) (acts_tracked (effect f) xs o _ refl)

tracked_as : (F G : Relation) → ((s t : Stack) → F s t → G s t) → ((s t : Stack) → G s t → F s t) → (xs : Stack) (o : Bool) → IsTracked F xs o → IsTracked G xs o
tracked_as F G to from xs o (ys, p, false, fails) = (ys, p, false, λ s t i g. fails s t i (from s t g))
tracked_as F G to from xs o (ys, p, true, steps) = (
  ys,
  p,
  true,
  record {
    back = λ t k. let b = steps.back t k in (b.0, b.1, to b.0 t b.2);
    on = λ s t i g. steps.on s t i (from s t g);
  },
)

both_either : (P Q : Type 0) → Either P → Either Q → Either (P × Q)
both_either P Q (inl p) (inl q) = inl (p, q)
both_either P Q (inr n) q = inr (λ h. n h.0)
both_either P Q (inl p) (inr n) = inr (λ h. n h.1)

-- The composition of two relations: a step of the first and then a step of the second.
abbrev Then : Relation → Relation → Relation
Then F G s t = (u : Stack) × F s u × G u t

then_more : (F G : Relation) (xs : Stack) (o : Bool) (ys : Stack) (p : Bool) → StepsTo F xs o ys p → IsTracked G ys p → IsTracked (Then F G) xs o
then_more F G xs o ys p steps (zs, q, false, fails) = ([], false, false, λ s t k h. fails h.0 t (steps.on s h.0 k h.1) h.2)
then_more F G xs o ys p steps (zs, q, true, more) = (
  zs,
  q,
  true,
  record {
    back = λ t k. let b = more.back t k in let a = steps.back b.0 b.1 in (a.0, a.1, (b.0, a.2, b.2));
    on = λ s t k h. more.on h.0 t (steps.on s h.0 k h.1) h.2;
  },
)

then_tracked : (F G : Relation) (xs : Stack) (o : Bool) → IsTracked F xs o → ((ys : Stack) (p : Bool) → IsTracked G ys p) → IsTracked (Then F G) xs o
then_tracked F G xs o (ys, p, false, fails) rest = ([], false, false, λ s t k h. fails s h.0 k h.1)
then_tracked F G xs o (ys, p, true, steps) rest = then_more F G xs o ys p steps (rest ys p)

-- The relation of an `if`: it has its effect if its type exists and both its bodies are right.
abbrev DoesIf : Option Signature → (Signature → Type 0) → (Signature → Type 0) → (Signature → Effect) → Relation
DoesIf sig IsRight IsRightToo effect s t = (f : Signature) × (sig ≡ Some f) × IsRight f × IsRightToo f × Acts (effect f) s t

if_tracked : (sig : Option Signature) (IsRight IsRightToo : Signature → Type 0) (effect : Signature → Effect) (xs : Stack) (o : Bool) → ((f : Signature) → Either (IsRight f)) → ((f : Signature) → Either (IsRightToo f)) → IsTracked (DoesIf sig IsRight IsRightToo effect) xs o
if_tracked sig IsRight IsRightToo effect xs o right too =
    tracked_as (Does sig (λ f. IsRight f × IsRightToo f) effect) (DoesIf sig IsRight IsRightToo effect) (λ s t h. (h.0, h.1, h.2.0, h.2.1, h.3)) (λ s t h. (h.0, h.1, (h.2, h.3), h.4)) xs o
    (does_tracked sig (λ f. IsRight f × IsRightToo f) effect xs o (λ f. both_either (IsRight f) (IsRightToo f) (right f) (too f)) sig refl)

mutual
  step_tracked : (c : Context) (i : Instr) (xs : Stack) (o : Bool) → IsTracked (Fits c i) xs o
  step_tracked c (Block' bt n body) xs o =
      does_tracked (signature_of c.types bt) (λ f. LeadsToMatch (Leads (under c f.results) body) f.params f.results) (λ f. Gives f.params f.results) xs o
      (λ f. ends_either (Leads (under c f.results) body) f.params f.results (row_tracked (under c f.results) body (operands f.params) false)) (signature_of c.types bt) refl
  step_tracked c (Loop' bt n body) xs o =
      does_tracked (signature_of c.types bt) (λ f. LeadsToMatch (Leads (under c f.params) body) f.params f.results) (λ f. Gives f.params f.results) xs o
      (λ f. ends_either (Leads (under c f.params) body) f.params f.results (row_tracked (under c f.params) body (operands f.params) false)) (signature_of c.types bt) refl
  step_tracked c (If' bt n body m other) xs o =
      if_tracked (signature_of c.types bt) (λ f. LeadsToMatch (Leads (under c f.results) body) f.params f.results) (λ f. LeadsToMatch (Leads (under c f.results) other) f.params f.results) (λ f. Gives (f.params ++ I32 ∷ []) f.results) xs o
      (λ f. ends_either (Leads (under c f.results) body) f.params f.results (row_tracked (under c f.results) body (operands f.params) false))
      (λ f. ends_either (Leads (under c f.results) other) f.params f.results (row_tracked (under c f.results) other (operands f.params) false))
  step_tracked c i xs o = plain_tracked c i xs o tt _ refl

  row_tracked : {n : _} (c : Context) (is : Row_of-Instr n) (xs : Stack) (o : Bool) → IsTracked (Leads c is) xs o
  row_tracked c end_of-Instr xs o = (xs, o, true, record { back = λ t k. (t, k, refl); on = λ s t i e. subst (Instance xs o) e i })
  row_tracked c (more_of-Instr i is) xs o = then_tracked (Fits c i) (Leads c is) xs o (step_tracked c i xs o) (λ ys p. row_tracked c is ys p)

list_tracked : (c : Context) (is : List Instr) (xs : Stack) (o : Bool) → IsTracked (LeadsAll c is) xs o
list_tracked c [] xs o = (xs, o, true, record { back = λ t k. (t, k, refl); on = λ s t i e. subst (Instance xs o) e i })
list_tracked c (i ∷ is) xs o = then_tracked (Fits c i) (LeadsAll c is) xs o (step_tracked c i xs o) (λ ys p. list_tracked c is ys p)

pub typed_or_not : (c : Context) (is : List Instr) (ps rs : List ValType) → Either (WellTyped c is ps rs)
typed_or_not c is ps rs = ends_either (LeadsAll c is) ps rs (list_tracked c is (operands ps) false)
