-- The checker's steps, from one instruction to a body.
use Rattle.base_lists.proofs.Common.{◌≡◌, ℕ, suc, ◌+◌, ◌<◌, ◌≤◌, ◌↔◌, Bool, true, false, IsTrue, List, [], ◌∷◌, ◌++◌, map, reverse, length, drop, get_or, Option, Some, None, Result, IfOk, refl, sym, ap, ◌∙◌, subst, arith, drop-cons, append-nil, drop_all, IfOk-weaker, Ok, Err}
use Rattle.wasm_tree_spec.specs.Prelude.{ValType, I32, BlockType, Instr, roll-out-Instr}
use Rattle.wasm_tree.specs.declared.instr.Instr.{Block, Block', Loop, Loop', If, If', items_hidden-the_row-Instr-0}
use Rattle.wasm_tree.specs.declared.instr.Instr.TheBlock.{hidden-the_row-Instr-0, shown-the_row-Instr-0}
use Rattle.wasm_tree.specs.declared.instr.Instr.TheViews.{roll-Instr, outs-Block', rolls-Block, outs-Loop', rolls-Loop, outs-If', rolls-If}
use Rattle.std.specs.Bool.{OnTrue}
use Rattle.std.specs.declared.alloc.AllocError.{AllocError}
use Rattle.wasm_valid_bodies.specs.Typing.{Stack, AllMatch, operands, Effect, Gives, Acts, Signature, Context, under, signature_of, effect_of, LeadsToMatch, ActsAs, Fits, Leads, LeadsAll, WellTyped}
use Rattle.wasm_valid_bodies.specs.Tracking.{Instance, Concrete, StepsTo, LeadsNowhere, TracksStep, pop_all, act, answer_of}
use Rattle.wasm_valid_bodies.specs.OperandStack.{when}
use Rattle.wasm_valid_bodies.proofs.Rows.{to_list, to_row}
use Rattle.wasm_valid_bodies.proofs.Pops.{pop_all-on, pop_all-back, padded}
use Rattle.wasm_valid_bodies.proofs.Acts.{act-on, act-back}

-- A body is well typed as a list exactly if it is as a row.
pub ends_to : (c : Context) (v : List Instr) (ps rs : List ValType) → LeadsToMatch (Leads c (hidden-the_row-Instr-0 v)) ps rs → WellTyped c v ps rs
ends_to c v ps rs (last, l, m) =
    (last, subst (λ is. LeadsAll c is (operands ps) last) (items_hidden-the_row-Instr-0 v) (to_list c (hidden-the_row-Instr-0 v) (operands ps) last l), m)

pub ends_from : (c : Context) (v : List Instr) (ps rs : List ValType) → WellTyped c v ps rs → LeadsToMatch (Leads c (hidden-the_row-Instr-0 v)) ps rs
ends_from c v ps rs (last, l, m) =
    (last, to_row c (hidden-the_row-Instr-0 v) (operands ps) last (subst (λ is. LeadsAll c is (operands ps) last) (sym (items_hidden-the_row-Instr-0 v)) l), m)

abbrev Relation : Type 1
Relation = Stack → Stack → Type 0

follows_acts : (e : Effect) (xs : Stack) (o : Bool) (ys : Stack) (p ok : Bool) → act e xs o ≡ when ok (ys, p) → TracksStep (Acts e) xs o ys p ok
follows_acts e xs o ys p false h = λ s t i a. let r = act-on e xs o s t i a in cc
follows_acts e xs o ys p true h = record {
  back = λ t k. act-back e xs o (ys, p) t h k;
  on = λ s t i a. let r = act-on e xs o s t i a in let q : ◌≡◌ {A = Stack × Bool} r.0 (ys, p) = cc in subst (λ (z : Stack × Bool). Instance z.0 z.1 t) q r.2;
}

follows_map : (F G : Relation) → ((s t : Stack) → F s t → G s t) → ((s t : Stack) → G s t → F s t) → (xs : Stack) (o : Bool) (ys : Stack) (p ok : Bool) → TracksStep F xs o ys p ok → TracksStep G xs o ys p ok
follows_map F G to from xs o ys p false h = λ s t i g. h s t i (from s t g)
follows_map F G to from xs o ys p true h = record {
  back = λ t k. let b = h.back t k in (b.0, b.1, to b.0 t b.2);
  on = λ s t i g. h.on s t i (from s t g);
}

-- The effect of an instruction without a body says what it leads to.
by_effect : (m : Option Effect) (xs : Stack) (o : Bool) (ys : Stack) (p ok : Bool) → answer_of m xs o ≡ when ok (ys, p) → TracksStep (ActsAs m) xs o ys p ok
by_effect None xs o ys p false h = λ s t i (e, g, a). cc
by_effect None xs o ys p true h = cc
by_effect (Some e) xs o ys p ok h =
    follows_map (Acts e) (ActsAs (Some e)) (λ s t a. (e, refl, a)) (λ s t (f, g, a). let q : f ≡ e = cc in subst (λ z. Acts z s t) q a) xs o ys p ok (follows_acts e xs o ys p ok h)

abbrev pub IsPlain : Instr → Type 0
IsPlain (Block' bt n body) = ⊥
IsPlain (Loop' bt n body) = ⊥
IsPlain (If' bt n body m other) = ⊥
IsPlain _ = Unit {0}

pub plain_arm : (c : Context) (i : Instr) (xs : Stack) (o : Bool) (ys : Stack) (p ok : Bool) → IsPlain i → answer_of (effect_of c i) xs o ≡ when ok (ys, p) → TracksStep (Fits c i) xs o ys p ok
plain_arm c (Block' bt n body) xs o ys p ok plain h = absurd plain
plain_arm c (Loop' bt n body) xs o ys p ok plain h = absurd plain
plain_arm c (If' bt n body m other) xs o ys p ok plain h = absurd plain
plain_arm c i xs o ys p ok plain h = by_effect (effect_of c i) xs o ys p ok h

same_signature : (m : Option Signature) (f g : Signature) → Some f ≡ m → m ≡ Some g → g ≡ f
same_signature m f g h k = cc

pub block_arm : (c : Context) (bt : BlockType) (v : List Instr) (f : Signature) (xs : Stack) (o : Bool) (ys : Stack) (p ok : Bool) → Some f ≡ signature_of c.types bt → WellTyped (under c f.results) v f.params f.results → act (Gives f.params f.results) xs o ≡ when ok (ys, p) →
    TracksStep (Fits c (Block bt v)) xs o ys p ok
block_arm c bt v f xs o ys p ok sig w h =
    follows_map (Acts (Gives f.params f.results)) (Fits c (Block bt v)) (λ s t a. (f, sym sig, ends_from (under c f.results) v f.params f.results w, a)) (λ s t (g, e, l, a). subst (λ z. Acts (Gives z.params z.results) s t) (same_signature _ f g sig e) a) xs o ys p ok
    (follows_acts (Gives f.params f.results) xs o ys p ok h)

pub block_stop : (c : Context) (bt : BlockType) (v : List Instr) (f : Signature) (xs : Stack) (o : Bool) → Some f ≡ signature_of c.types bt → (WellTyped (under c f.results) v f.params f.results → ⊥) → LeadsNowhere (Fits c (Block bt v)) xs o
block_stop c bt v f xs o sig never s t i (g, e, l, a) =
    never (subst (λ z. WellTyped (under c z.results) v z.params z.results) (same_signature _ f g sig e) (ends_to (under c g.results) v g.params g.results l))

pub loop_arm : (c : Context) (bt : BlockType) (v : List Instr) (f : Signature) (xs : Stack) (o : Bool) (ys : Stack) (p ok : Bool) → Some f ≡ signature_of c.types bt → WellTyped (under c f.params) v f.params f.results → act (Gives f.params f.results) xs o ≡ when ok (ys, p) →
    TracksStep (Fits c (Loop bt v)) xs o ys p ok
loop_arm c bt v f xs o ys p ok sig w h =
    follows_map (Acts (Gives f.params f.results)) (Fits c (Loop bt v)) (λ s t a. (f, sym sig, ends_from (under c f.params) v f.params f.results w, a)) (λ s t (g, e, l, a). subst (λ z. Acts (Gives z.params z.results) s t) (same_signature _ f g sig e) a) xs o ys p ok
    (follows_acts (Gives f.params f.results) xs o ys p ok h)

pub loop_stop : (c : Context) (bt : BlockType) (v : List Instr) (f : Signature) (xs : Stack) (o : Bool) → Some f ≡ signature_of c.types bt → (WellTyped (under c f.params) v f.params f.results → ⊥) → LeadsNowhere (Fits c (Loop bt v)) xs o
loop_stop c bt v f xs o sig never s t i (g, e, l, a) =
    never (subst (λ z. WellTyped (under c z.params) v z.params z.results) (same_signature _ f g sig e) (ends_to (under c g.params) v g.params g.results l))

pub if_arm : (c : Context) (bt : BlockType) (v w : List Instr) (f : Signature) (xs : Stack) (o : Bool) (ys : Stack) (p ok : Bool) → Some f ≡ signature_of c.types bt → WellTyped (under c f.results) v f.params f.results → WellTyped (under c f.results) w f.params f.results →
    act (Gives (f.params ++ I32 ∷ []) f.results) xs o ≡ when ok (ys, p) → TracksStep (Fits c (If bt v w)) xs o ys p ok
if_arm c bt v w f xs o ys p ok sig vt wt h =
    follows_map (Acts (Gives (f.params ++ I32 ∷ []) f.results)) (Fits c (If bt v w)) (λ s t a. (f, sym sig, ends_from (under c f.results) v f.params f.results vt, ends_from (under c f.results) w f.params f.results wt, a))
    (λ s t (g, e, l, m, a). subst (λ z. Acts (Gives (z.params ++ I32 ∷ []) z.results) s t) (same_signature _ f g sig e) a) xs o ys p ok (follows_acts (Gives (f.params ++ I32 ∷ []) f.results) xs o ys p ok h)

pub then_stop : (c : Context) (bt : BlockType) (v w : List Instr) (f : Signature) (xs : Stack) (o : Bool) → Some f ≡ signature_of c.types bt → (WellTyped (under c f.results) v f.params f.results → ⊥) → LeadsNowhere (Fits c (If bt v w)) xs o
then_stop c bt v w f xs o sig never s t i (g, e, l, m, a) =
    never (subst (λ z. WellTyped (under c z.results) v z.params z.results) (same_signature _ f g sig e) (ends_to (under c g.results) v g.params g.results l))

pub else_stop : (c : Context) (bt : BlockType) (v w : List Instr) (f : Signature) (xs : Stack) (o : Bool) → Some f ≡ signature_of c.types bt → (WellTyped (under c f.results) w f.params f.results → ⊥) → LeadsNowhere (Fits c (If bt v w)) xs o
else_stop c bt v w f xs o sig never s t i (g, e, l, m, a) =
    never (subst (λ z. WellTyped (under c z.results) w z.params z.results) (same_signature _ f g sig e) (ends_to (under c g.results) w g.params g.results m))

-- The checker has reached a position in a body: a run of the body is a run of the remaining
-- instructions from the kept stack.
pub record Rest (c : Context) (is : List Instr) (ps : List ValType) (xs : Stack) (o : Bool) (rest : List Instr) : Type 0 where
  pub on : (t : Stack) → LeadsAll c is (operands ps) t → (s : Stack) × Instance xs o s × LeadsAll c rest s t
  pub back : (s t : Stack) → Concrete xs o s → LeadsAll c rest s t → LeadsAll c is (operands ps) t

pub own_instance : (ts : List ValType) → Instance (map Some ts) false (map Some ts)
own_instance [] = tt
own_instance (t ∷ ts) = (refl, own_instance ts)

pub own_concrete : (ts : List ValType) (s : Stack) → Concrete (map Some ts) false s → s ≡ map Some ts
own_concrete [] [] k = refl
own_concrete [] (y ∷ s) k = absurd k
own_concrete (t ∷ ts) [] k = absurd k
own_concrete (t ∷ ts) (y ∷ s) k = ap (λ z. z ∷ s) k.0 ∙ ap (λ z. Some t ∷ z) (own_concrete ts s k.1)

start : (c : Context) (is : List Instr) (ps : List ValType) → Rest c is ps (operands ps) false is
start c is ps = record {
  on = λ t h. (operands ps, own_instance (reverse ps), h);
  back = λ s t k h. subst (λ z. LeadsAll c is z t) (own_concrete (reverse ps) s k) h;
}

pub rest_start : (c : Context) (is : List Instr) (ps : List ValType) (xs : Stack) (o : Bool) → xs ≡ operands ps → o ≡ false → Rest c is ps xs o (drop 0 is)
rest_start c is ps xs o e f =
    subst (λ z. Rest c is ps z o is) (sym e) (subst (λ z. Rest c is ps (operands ps) z is) (sym f) (start c is ps))

step_on : (c : Context) (is : List Instr) (ps : List ValType) (xs : Stack) (o : Bool) (ys : Stack) (p : Bool) (i : Instr) (rest : List Instr) → Rest c is ps xs o (i ∷ rest) → StepsTo (Fits c i) xs o ys p → Rest c is ps ys p rest
step_on c is ps xs o ys p i rest r f = record {
  on = λ t h. let a = r.on t h in (a.2.0, f.on a.0 a.2.0 a.1 a.2.1, a.2.2);
  back = λ s t k h. let b = f.back s k in r.back b.0 t b.1 (s, b.2, h);
}

pub rest_step : (c : Context) (is : List Instr) (ps : List ValType) (xs : Stack) (o : Bool) (ys : Stack) (p : Bool) (n : ℕ) (d : Instr) → n < length is → Rest c is ps xs o (drop n is) → StepsTo (Fits c (get_or is n d)) xs o ys p → Rest c is ps ys p (drop (n + 1) is)
rest_step c is ps xs o ys p n d lt r f =
    let e : n + 1 ≡ suc n = omega arith in
    subst (λ m. Rest c is ps ys p (drop m is)) (sym e) (step_on c is ps xs o ys p (get_or is n d) (drop (suc n) is) (subst (Rest c is ps xs o) (drop-cons is n d lt) r) f)

pub rest_stop : (c : Context) (is : List Instr) (ps rs : List ValType) (xs : Stack) (o : Bool) (n : ℕ) (d : Instr) → n < length is → Rest c is ps xs o (drop n is) → LeadsNowhere (Fits c (get_or is n d)) xs o → WellTyped c is ps rs → ⊥
rest_stop c is ps rs xs o n d lt r f (last, l, m) =
    let a = (subst (Rest c is ps xs o) (drop-cons is n d lt) r).on last l in f a.0 a.2.0 a.1 a.2.1

-- Only the empty kept stack denotes the empty stack, as the end of a body needs.
pub nothing_below : (ys : Stack) (o : Bool) → Instance ys o [] → ys ≡ []
nothing_below [] o i = refl
nothing_below (y ∷ ys) o i = absurd i

ends_on : (xs : Stack) (o : Bool) (s : Stack) (ts : List ValType) → Instance xs o s → AllMatch s ts → pop_all xs o ts ≡ Some []
ends_on xs o s ts i m =
    let p = pop_all-on xs o s [] ts (subst (Instance xs o) (sym (append-nil s)) i) m in p.1 ∙ ap Some (nothing_below p.0 o p.2)

pub nothing_kept : (o : Bool) → Concrete [] o []
nothing_kept false = tt
nothing_kept true = tt

ends_back : (xs : Stack) (o : Bool) (ts : List ValType) → pop_all xs o ts ≡ Some [] → (s : Stack) × Concrete xs o s × AllMatch s ts
ends_back xs o ts h =
    let b = pop_all-back xs o ts [] h in
    let xs' = padded (length ts) xs in (xs', subst (Concrete xs o) (append-nil xs') (b.1 [] (nothing_kept o)), b.0)

pub rest_end : (c : Context) (is : List Instr) (ps rs : List ValType) (xs : Stack) (o : Bool) (n : ℕ) (ok : Bool) → length is ≤ n → Rest c is ps xs o (drop n is) → (IsTrue ok ↔ (pop_all xs o (reverse rs) ≡ Some [])) → IsTrue ok ↔ WellTyped c is ps rs
rest_end c is ps rs xs o n ok le r e =
    let q = subst (Rest c is ps xs o) (drop_all n is le) r in (
      λ k. let b = ends_back xs o (reverse rs) (e.0 k) in (b.0, q.back b.0 b.0 b.1 refl, b.2),
      λ (last, l, m). let a = q.on last l in e.1 (ends_on xs o last (reverse rs) (subst (Instance xs o) a.2 a.1) m),
    )

-- An instruction that is no block, loop or `if` with bodies as lists is none with bodies as rows.
pub is_plain : (i : Instr) → ((bt : BlockType) (v : List Instr) → i ≡ Block bt v → ⊥) → ((bt : BlockType) (v : List Instr) → i ≡ Loop bt v → ⊥) → ((bt : BlockType) (v w : List Instr) → i ≡ If bt v w → ⊥) → IsPlain i
is_plain (Block' bt n row) a b d =
    a bt (shown-the_row-Instr-0 n row) (sym (roll-out-Instr (Block' bt n row)) ∙ ap roll-Instr (outs-Block' bt n row) ∙ rolls-Block bt (shown-the_row-Instr-0 n row))
is_plain (Loop' bt n row) a b d =
    b bt (shown-the_row-Instr-0 n row) (sym (roll-out-Instr (Loop' bt n row)) ∙ ap roll-Instr (outs-Loop' bt n row) ∙ rolls-Loop bt (shown-the_row-Instr-0 n row))
is_plain (If' bt n row m other) a b d =
    d bt (shown-the_row-Instr-0 n row) (shown-the_row-Instr-0 m other) (sym (roll-out-Instr (If' bt n row m other)) ∙ ap roll-Instr (outs-If' bt n row m other) ∙ rolls-If bt (shown-the_row-Instr-0 n row) (shown-the_row-Instr-0 m other))
is_plain _ a b d = tt

-- A nested check that answers false shows that its body is not well typed.
not_typed : (P : Type 0) (ok : Bool) → IsTrue ok ↔ P → ok ≡ false → P → ⊥
not_typed P ok e h x = let t : ok ≡ true = e.1 x in cc

-- The answers for blocks, loops and `if`s, in the form that the steps of the code need.
module _ (c : Context) (i : Instr) (bt : BlockType) (v : List Instr) (f : Signature) (is : List Instr) (xs : Stack) (o : Bool) (sig : Some f ≡ signature_of c.types bt) (same : is ≡ v) where
  pub block_stopped : (ok : Bool) → i ≡ Block bt v → IsTrue ok ↔ WellTyped (under c f.results) is f.params f.results → ok ≡ false → LeadsNowhere (Fits c i) xs o
  block_stopped ok e w n =
      subst (λ z. LeadsNowhere (Fits c z) xs o) (sym e) (block_stop c bt v f xs o sig (λ x. not_typed _ ok w n (subst (λ z. WellTyped (under c f.results) z f.params f.results) (sym same) x)))

  pub loop_stopped : (ok : Bool) → i ≡ Loop bt v → IsTrue ok ↔ WellTyped (under c f.params) is f.params f.results → ok ≡ false → LeadsNowhere (Fits c i) xs o
  loop_stopped ok e w n =
      subst (λ z. LeadsNowhere (Fits c z) xs o) (sym e) (loop_stop c bt v f xs o sig (λ x. not_typed _ ok w n (subst (λ z. WellTyped (under c f.params) z f.params f.results) (sym same) x)))

  pub then_stopped : (u : List Instr) (ok : Bool) → i ≡ If bt v u → IsTrue ok ↔ WellTyped (under c f.results) is f.params f.results → ok ≡ false → LeadsNowhere (Fits c i) xs o
  then_stopped u ok e w n =
      subst (λ z. LeadsNowhere (Fits c z) xs o) (sym e) (then_stop c bt v u f xs o sig (λ x. not_typed _ ok w n (subst (λ z. WellTyped (under c f.results) z f.params f.results) (sym same) x)))

  pub else_stopped : (u : List Instr) (ok : Bool) → i ≡ If bt u v → IsTrue ok ↔ WellTyped (under c f.results) is f.params f.results → ok ≡ false → LeadsNowhere (Fits c i) xs o
  else_stopped u ok e w n =
      subst (λ z. LeadsNowhere (Fits c z) xs o) (sym e) (else_stop c bt u v f xs o sig (λ x. not_typed _ ok w n (subst (λ z. WellTyped (under c f.results) z f.params f.results) (sym same) x)))

  pub block_done : (ok : Bool) (r : Result Bool AllocError) (ys : Stack) (p : Bool) → i ≡ Block bt v → IsTrue ok ↔ WellTyped (under c f.results) is f.params f.results → ok ≡ true → IfOk r (λ b. act (Gives f.params f.results) xs o ≡ when b (ys, p)) → IfOk r (λ b. TracksStep (Fits c i) xs o ys p b)
  block_done ok r ys p e w y =
      IfOk-weaker r _ _ (λ b h. subst (λ z. TracksStep (Fits c z) xs o ys p b) (sym e) (block_arm c bt v f xs o ys p b sig (subst (λ z. WellTyped (under c f.results) z f.params f.results) same (w.0 y)) h))

  pub loop_done : (ok : Bool) (r : Result Bool AllocError) (ys : Stack) (p : Bool) → i ≡ Loop bt v → IsTrue ok ↔ WellTyped (under c f.params) is f.params f.results → ok ≡ true → IfOk r (λ b. act (Gives f.params f.results) xs o ≡ when b (ys, p)) → IfOk r (λ b. TracksStep (Fits c i) xs o ys p b)
  loop_done ok r ys p e w y =
      IfOk-weaker r _ _ (λ b h. subst (λ z. TracksStep (Fits c z) xs o ys p b) (sym e) (loop_arm c bt v f xs o ys p b sig (subst (λ z. WellTyped (under c f.params) z f.params f.results) same (w.0 y)) h))

  pub if_done : (u : List Instr) (us : List Instr) (ok more : Bool) (r : Result Bool AllocError) (ys : Stack) (p : Bool) → us ≡ u → i ≡ If bt v u → IsTrue ok ↔ WellTyped (under c f.results) is f.params f.results → ok ≡ true → IsTrue more ↔ WellTyped (under c f.results) us f.params f.results →
      more ≡ true → IfOk r (λ b. act (Gives (f.params ++ I32 ∷ []) f.results) xs o ≡ when b (ys, p)) → IfOk r (λ b. TracksStep (Fits c i) xs o ys p b)
  if_done u us ok more r ys p same_u e w y w2 y2 =
      IfOk-weaker r _ _ (λ b h. subst (λ z. TracksStep (Fits c z) xs o ys p b) (sym e) (if_arm c bt v u f xs o ys p b sig (subst (λ z. WellTyped (under c f.results) z f.params f.results) same (w.0 y)) (subst (λ z. WellTyped (under c f.results) z f.params f.results) same_u (w2.0 y2)) h))

pub plain_done : (c : Context) (i : Instr) (xs : Stack) (o : Bool) (r : Result Bool AllocError) (ys : Stack) (p : Bool) → IsPlain i → IfOk r (λ b. answer_of (effect_of c i) xs o ≡ when b (ys, p)) → IfOk r (λ b. TracksStep (Fits c i) xs o ys p b)
plain_done c i xs o r ys p plain = IfOk-weaker r _ _ (λ b h. plain_arm c i xs o ys p b plain h)

pub on_true : (b : Bool) (P : Type 0) → OnTrue b P → b ≡ true → P
on_true true P h e = h
on_true false P h e = cc

pub true_or_not : (b : Bool) (P : Type 0) → P → OnTrue b P
true_or_not true P h = h
true_or_not false P h = tt

-- A fact that does not depend on the answer holds for every answer.
pub kept_so : (r : Result Bool AllocError) (P : Type 0) → P → IfOk r (λ b. OnTrue b P)
kept_so (Ok b) P h = true_or_not b P h
kept_so (Err e) P h = tt

-- An iteration of the loop over a body passes one instruction.
pub turn : (c : Context) (is : List Instr) (ps : List ValType) (xs : Stack) (o : Bool) (ys : Stack) (p ok : Bool) (n : ℕ) (i : Instr) → n < length is → i ≡ get_or is n i → Rest c is ps xs o (drop n is) → TracksStep (Fits c i) xs o ys p ok → ok ≡ true → Rest c is ps ys p (drop (n + 1) is)
turn c is ps xs o ys p ok n i lt e r f y =
    rest_step c is ps xs o ys p n i lt r (subst (λ z. StepsTo (Fits c z) xs o ys p) e (subst (TracksStep (Fits c i) xs o ys p) y f))

pub stopped : (c : Context) (is : List Instr) (ps rs : List ValType) (xs : Stack) (o : Bool) (ys : Stack) (p ok : Bool) (n : ℕ) (i : Instr) → n < length is → i ≡ get_or is n i → Rest c is ps xs o (drop n is) → TracksStep (Fits c i) xs o ys p ok → ok ≡ false → IsTrue false ↔ WellTyped c is ps rs
stopped c is ps rs xs o ys p ok n i lt e r f y =
    (λ h. cc, λ w. absurd (rest_stop c is ps rs xs o n i lt r (subst (λ z. LeadsNowhere (Fits c z) xs o) e (subst (TracksStep (Fits c i) xs o ys p) y f)) w))
