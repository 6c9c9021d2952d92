-- The values of globals after evaluated constructors are constants of the types of the globals.
use Rattle.base_lists.proofs.Common.{◌≡◌, ◌∙◌, ap, sym, subst, refl, ◌+◌, length, map, Option, Some, None, Bool, true, false, cond, slice_get, lt-ltb, same_Some, append_right, map_at}
use Rattle.base_lists.specs.Options.{◌>>=◌}
use Rattle.wasm_tree_spec.specs.Prelude.{GlobalType, ValType, ConstExpr, GlobalDef, Module, same_type, funcs_of, imported_globals}
use Rattle.wasm_tree.specs.declared.types.RefType.TheVariants as reft
use Rattle.wasm_tree.specs.declared.types.ValType.TheVariants as valt
use Rattle.wasm_num.specs.Operations.{W32, W64}
use Rattle.wasm_valid_bodies.specs.Typing.{only}
use Rattle.wasm_valid.specs.Prelude.{const_type}
use Rattle.wasm_meaning.specs.Prelude.{Val, Num, Ref, FuncRef, ExternRef, Global, type_of}
use Rattle.eval_spec.specs.declared.limits.TheConstants.{MOST_TURNS}
use Rattle.eval_spec.specs.Prelude.{constant, is_unknown_global}
use Rattle.eval_snapshot_spec.specs.Evaluated.{funcs_named}
use Rattle.eval_proof.specs.GlobalValues.{EvaluatedGlobalsAreTyped, EvaluatedRefsAreThere, IsThere}
use Rattle.eval_snapshot_proof.specs.TypedValues.{ValuesAreTyped}

some_type : (s t : ValType) → same_type s t ≡ true → Some t ≡ Some s
some_type valt.I32 valt.I32 h = refl
some_type valt.I32 valt.I64 h = cc
some_type valt.I32 (valt.Ref r) h = cc
some_type valt.I64 valt.I32 h = cc
some_type valt.I64 valt.I64 h = refl
some_type valt.I64 (valt.Ref r) h = cc
some_type (valt.Ref r) valt.I32 h = cc
some_type (valt.Ref r) valt.I64 h = cc
some_type (valt.Ref reft.Func) (valt.Ref reft.Func) h = refl
some_type (valt.Ref reft.Func) (valt.Ref reft.Extern) h = cc
some_type (valt.Ref reft.Extern) (valt.Ref reft.Func) h = cc
some_type (valt.Ref reft.Extern) (valt.Ref reft.Extern) h = refl

constant_typed : (m : Module) (v : Val) (t : ValType) (e : ConstExpr) → same_type t (type_of v) ≡ true → IsThere m v → constant v ≡ Some e → const_type m e ≡ Some t
constant_typed m (Num W32 n) t e h i k = subst (λ x. const_type m x ≡ Some t) (same_Some _ e k) (some_type t valt.I32 h)
constant_typed m (Num W64 n) t e h i k = subst (λ x. const_type m x ≡ Some t) (same_Some _ e k) (some_type t valt.I64 h)
constant_typed m (Ref (FuncRef None)) t e h i k = subst (λ x. const_type m x ≡ Some t) (same_Some _ e k) (some_type t (valt.Ref reft.Func) h)
constant_typed m (Ref (FuncRef (Some f))) t e h i k =
    subst (λ x. const_type m x ≡ Some t) (same_Some _ e k) (ap (λ b. only b (Some (valt.Ref reft.Func))) (lt-ltb f (length (funcs_of m)) i) ∙ some_type t (valt.Ref reft.Func) h)
constant_typed m (Ref (ExternRef None)) t e h i k = subst (λ x. const_type m x ≡ Some t) (same_Some _ e k) (some_type t (valt.Ref reft.Extern) h)
constant_typed m (Ref (ExternRef (Some n))) t e h i k = absurd (let z = k in cc)

pub values_typed : EvaluatedRefsAreThere → EvaluatedGlobalsAreTyped → ValuesAreTyped
values_typed there typed m names s valid after n g e at is =
    known (is_unknown_global m after.end (length (imported_globals m.imports) + n)) (sym (after.told.globals (length (imported_globals m.imports) + n)) ∙ is)
  where
    found : (o : Option Global) → slice_get after.end.store.globals (length (imported_globals m.imports) + n) ≡ o → (o >>= λ x. constant x.value) ≡ Some e → const_type m e ≡ Some g.ty.ty
    found None p h = absurd (let z = h in cc)
    found (Some x) p h =
        let k = length (imported_globals m.imports) + n in
        let fits = typed m valid MOST_TURNS (funcs_named m names) after.end after.quiet k x p in
        let named = there m valid MOST_TURNS (funcs_named m names) after.end after.quiet k x p in
        let both : Some x.ty ≡ Some g.ty = sym fits.1 ∙ (append_right (imported_globals m.imports) (map (λ (g : GlobalDef). g.ty) m.globals) n ∙ map_at (λ (g : GlobalDef). g.ty) m.globals n g at) in
        let same : x.ty ≡ g.ty = same_Some x.ty g.ty both in
        constant_typed m x.value g.ty.ty e (subst (λ (t : GlobalType). same_type t.ty (type_of x.value) ≡ true) same fits.0) named h

    known : (b : Bool) → cond b None (slice_get after.end.store.globals (length (imported_globals m.imports) + n) >>= λ x. constant x.value) ≡ Some e → const_type m e ≡ Some g.ty.ty
    known true h = absurd (let z = h in cc)
    known false h = found (slice_get after.end.store.globals (length (imported_globals m.imports) + n)) refl h
