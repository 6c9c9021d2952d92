-- The items of an element segment, as they are copied one after the other.
use Rattle.base_lists.proofs.Common.{◌≡◌, ℕ, ◌+◌, ◌-◌, ◌<◌, List, Bool, true, false, cond, ◌&&◌, Option, Some, refl, sym, ap, ◌∙◌, inl, inr, arith, nat_eq, nat_le, nat_lt, slice_get, cases_order, lt-ltb, le-ltb, le-leb, eq-eqb, ne_eqb}
use Rattle.base_lists.specs.Options.{◌>>=◌}
use Rattle.wasm_tree_spec.specs.Prelude.{ConstExpr}
use Rattle.eval_machine.specs.declared.slots.Slot.{Slot}
use Rattle.eval_machine.specs.Prelude.{item_slot, is_within, filled_at}

abbrev pub held_over : List (ℕ × Slot) → (table place count : ℕ) → List ConstExpr → (t p : ℕ) → Option Slot
held_over old table place count items t p = cond (is_within table place count t p) (slice_get items (p - place) >>= λ x. Some (item_slot x)) (filled_at old t p)

by_table : (a : Bool) (x y : Option Slot) → cond (a && true) x (cond (a && false) x y) ≡ cond (a && true) x y
by_table true x y = refl
by_table false x y = refl

pub one_more : (old mid new : List (ℕ × Slot)) (table place i : ℕ) (items : List ConstExpr) (x : ConstExpr) (filled : Slot) → slice_get items i ≡ Some x → filled ≡ item_slot x →
    ((t p : ℕ) → p < 4294967296 → filled_at mid t p ≡ held_over old table place i items t p) →
    ((t p : ℕ) → p < 4294967296 → filled_at new t p ≡ cond (nat_eq table t && nat_eq (place + i) p) (Some filled) (filled_at mid t p)) →
    (t p : ℕ) → p < 4294967296 → filled_at new t p ≡ held_over old table place (i + 1) items t p
one_more old mid new table place i items x filled at is before now t p lt = elim (cases_order p (place + i)) [
  | inl e ↦
      let same : nat_eq (place + i) p ≡ true = eq-eqb (place + i) p (sym e) in
      let here : p - place ≡ i = omega (arith, e) in
      let above : nat_le place p ≡ true = le-leb place p (omega (arith, e)) in
      let past : nat_lt p (place + i) ≡ false = le-ltb p (place + i) (omega (arith, e)) in
      let inside : nat_lt p (place + (i + 1)) ≡ true = lt-ltb p (place + (i + 1)) (omega (arith, e)) in
      now t p lt ∙ (ap (cond (nat_eq table t && nat_eq (place + i) p) (Some filled)) (before t p lt) ∙ rw (is, same, here, above, past, inside, at) (by_table (nat_eq table t) (Some (item_slot x)) (filled_at old t p)))
  | inr ne ↦ elim ne [
    | inl less ↦
        let other : nat_eq (place + i) p ≡ false = ne_eqb (place + i) p (λ e. absurd (omega (arith, e, less))) in
        let one : nat_lt p (place + i) ≡ true = lt-ltb p (place + i) less in
        let two : nat_lt p (place + (i + 1)) ≡ true = lt-ltb p (place + (i + 1)) (omega (arith, less)) in
        now t p lt ∙ (ap (cond (nat_eq table t && nat_eq (place + i) p) (Some filled)) (before t p lt) ∙ rw (other, one, two) (not_this (nat_eq table t) (Some filled) _))
    | inr more ↦
        let other : nat_eq (place + i) p ≡ false = ne_eqb (place + i) p (λ e. absurd (omega (arith, e, more))) in
        let one : nat_lt p (place + i) ≡ false = le-ltb p (place + i) (omega (arith, more)) in
        let two : nat_lt p (place + (i + 1)) ≡ false = le-ltb p (place + (i + 1)) (omega (arith, more)) in
        now t p lt ∙ (ap (cond (nat_eq table t && nat_eq (place + i) p) (Some filled)) (before t p lt) ∙ rw (other, one, two) (not_this (nat_eq table t) (Some filled) _))
  ]
]
  where
    not_this : (a : Bool) (u v : Option Slot) → cond (a && false) u v ≡ v
    not_this true u v = refl
    not_this false u v = refl
