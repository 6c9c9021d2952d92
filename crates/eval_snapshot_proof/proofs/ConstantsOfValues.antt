-- Constants of values: in an instance of the snapshot, the constant of a value has a related value.
use Rattle.base_lists.proofs.Common.{◌≡◌, ◌∙◌, ap, subst, ℕ, ◌<◌, ◌^◌, Option, Some, None, inl, inr, arith, ℤ, cases_lt, lt-ltb, le-ltb}
use Rattle.std.proofs.Math.Nat.{mod-eq_of_lt}
use Rattle.wasm_tree_spec.specs.Prelude.{Functions, RefType, ConstExpr}
use Rattle.wasm_tree.specs.declared.types.RefType.TheVariants as reft
use Rattle.wasm_tree.specs.declared.module.ConstExpr.TheVariants as const
use Rattle.wasm_num.specs.Operations.{W32, W64, signed, wrapped}
use Rattle.wasm_meaning.specs.Prelude.{FuncRef, ExternRef, Val, Num, Ref, null_of}
use Rattle.run_simulation.specs.Prelude.{Pairing, none, some, func, extern, ValRel, number, reference}
use Rattle.eval_spec.specs.Prelude.{constant}
use Rattle.eval_snapshot_proof.proofs.MemoryContents.{unsigned_again}

unsigned_again_64 : (n : ℕ) → n < 2 ^ 64 → wrapped 64 (signed 64 n) ≡ n
unfolding signed wrapped
unsigned_again_64 n lt = elim (cases_lt n (2 ^ 63)) [
  | inl low ↦ rw (lt-ltb n (2 ^ 63) low) (mod-eq_of_lt lt)
  | inr high ↦ rw (le-ltb n (2 ^ 63) high, lt-ltb n (2 ^ 64) lt) (omega (arith, lt))
]

module _ (R : Pairing) (value : ConstExpr → Option Val) (i32 : (v : ℤ) → value (const.I32 v) ≡ Some (Num W32 (wrapped 32 v))) (i64 : (v : ℤ) → value (const.I64 v) ≡ Some (Num W64 (wrapped 64 v))) (null : (t : RefType) → value (const.Null t) ≡ Some (Ref (null_of t))) where
  -- A number fits its width, and the index of a function denotes a related address.
  abbrev pub Stands : Val → Type 0
  Stands (Num W32 n) = n < 2 ^ 32
  Stands (Num W64 n) = n < 2 ^ 64
  Stands (Ref (FuncRef (Some f))) = (a : ℕ) × (value (const.Func f) ≡ Some (Ref (FuncRef (Some a)))) × R.of Functions f a
  Stands (Ref _) = Unit {0}

  -- The constant of such a value has a value that is related to it.
  pub constant_stands : (v : Val) (e : ConstExpr) → Stands v → constant v ≡ Some e → (w : Val) × (value e ≡ Some w) × ValRel R v w
  constant_stands (Num W32 n) e h is =
      let same : const.I32 (signed 32 n) ≡ e = cc in
      (Num W32 n, subst (λ e. value e ≡ Some (Num W32 n)) same (i32 (signed 32 n) ∙ ap (λ k. Some (Num W32 k)) (unsigned_again n h)), number)
  constant_stands (Num W64 n) e h is =
      let same : const.I64 (signed 64 n) ≡ e = cc in
      (Num W64 n, subst (λ e. value e ≡ Some (Num W64 n)) same (i64 (signed 64 n) ∙ ap (λ k. Some (Num W64 k)) (unsigned_again_64 n h)), number)
  constant_stands (Ref (FuncRef (Some f))) e h is =
      let same : const.Func f ≡ e = cc in
      (Ref (FuncRef (Some h.0)), subst (λ e. value e ≡ Some (Ref (FuncRef (Some h.0)))) same h.1, reference (func (some h.2)))
  constant_stands (Ref (FuncRef None)) e h is =
      let same : const.Null reft.Func ≡ e = cc in
      (Ref (FuncRef None), subst (λ e. value e ≡ Some (Ref (FuncRef None))) same (null reft.Func), reference (func none))
  constant_stands (Ref (ExternRef None)) e h is =
      let same : const.Null reft.Extern ≡ e = cc in
      (Ref (ExternRef None), subst (λ e. value e ≡ Some (Ref (ExternRef None))) same (null reft.Extern), reference extern)
  constant_stands (Ref (ExternRef (Some n))) e h is = absurd (let f = is in cc)
