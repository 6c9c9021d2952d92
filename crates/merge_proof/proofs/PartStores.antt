-- The entities that a part adds to the store in its turn are those that it adds when all parts are
-- allocated at once.
use Rattle.merge_proof.proofs.PartLaws.{Instances}
use Rattle.base_lists.proofs.Common.{◌≡◌, refl, ℕ, suc, List, [], ◌∷◌, length, Option, Some, option_and_then, slice_get, and_then_is, arith}
use Rattle.wasm_tree_spec.specs.Prelude.{ConstExpr, GlobalDef, ElemSeg, DataSeg, Module}
use Rattle.wasm_tree.specs.declared.module.ElemMode.TheVariants as elem
use Rattle.wasm_tree.specs.declared.module.DataMode.TheVariants as data'
use Rattle.wasm_meaning.specs.Prelude.{Inst, Global, Elem, Store, ref_of, Part, module_at, Environment, all_there, own_store, stores_from, part_store, store_with, global_with, elem_with, const_value, value_of, JoinsEarlier}
use Rattle.merge_proof.proofs.JoinedImports.{ExportsThere}
use Rattle.world_simulation.specs.Prelude.{AddsWith}
use Rattle.merge_proof.proofs.SegmentJobs.{Gives, Values}
use Rattle.merge_proof.proofs.PartInstantiation.{EachMatches}
use Rattle.merge_proof.proofs.SequentialConstants.{Constant, HoldsFixed, value_given}

-- The constant expressions of a module read only immutable imported globals.
pub record Constants (m : Module) : Type 0 where
  pub globals : (n : ℕ) (g : GlobalDef) → slice_get m.globals n ≡ Some g → Constant m g.init
  pub items : (n : ℕ) (s : ElemSeg) → slice_get m.elems n ≡ Some s → (l : ℕ) (e : ConstExpr) → slice_get s.items l ≡ Some e → Constant m e
  pub tables : (n : ℕ) (s : ElemSeg) (x : _) (e : ConstExpr) → slice_get m.elems n ≡ Some s → s.mode ≡ elem.Active x e → Constant m e
  pub memories : (n : ℕ) (s : DataSeg) (x : _) (e : ConstExpr) → slice_get m.datas n ≡ Some s → s.mode ≡ data'.Active x e → Constant m e

all_given : {A B : Type 0} (f g : A → Option B) (xs : List A) (ys : List B) → ((n : ℕ) (x : A) (y : B) → slice_get xs n ≡ Some x → f x ≡ Some y → g x ≡ Some y) → all_there f xs ≡ Some ys → all_there g xs ≡ Some ys
all_given f g [] ys h e = e
all_given f g (x ∷ xs) ys h e =
    let a = and_then_is (f x) _ ys e in
    let b = and_then_is (all_there f xs) _ ys a.2 in
    rw (h 0 x a.0 refl a.1, all_given f g xs b.0 (λ n. h (suc n)) b.1) b.2

module _ (v w : Values) (m : Module) (i : Inst) where
  global_given : (g : GlobalDef) (y : Global) → Gives v w g.init → global_with v g ≡ Some y → global_with w g ≡ Some y
  global_given g y h e = let u = and_then_is (v g.init) _ y e in rw (h u.0 u.1) u.2

  elem_given : (s : ElemSeg) (y : Elem) → ((l : ℕ) (e : ConstExpr) → slice_get s.items l ≡ Some e → Gives v w e) → elem_with v s ≡ Some y → elem_with w s ≡ Some y
  elem_given s y h e =
      let u = and_then_is (all_there (λ x. option_and_then ref_of (v x)) s.items) _ y e in
      rw (all_given _ (λ x. option_and_then ref_of (w x)) s.items u.0 (λ n x r at f. let a = and_then_is (v x) _ r f in rw (h n x at a.0 a.1) a.2) u.1) u.2

  pub store_given : ((n : ℕ) (g : GlobalDef) → slice_get m.globals n ≡ Some g → Gives v w g.init) → ((n : ℕ) (s : ElemSeg) → slice_get m.elems n ≡ Some s → (l : ℕ) (e : ConstExpr) → slice_get s.items l ≡ Some e → Gives v w e) → (t : Store) → store_with v m i ≡ Some t → store_with w m i ≡ Some t
  store_given hg he t e =
      let x : AddsWith v m i t = search arith in
      let gs = all_given _ (global_with w) m.globals t.globals (λ n g y at. global_given g y (hg n g at)) x.globals in
      let es = all_given _ (elem_with w) m.elems t.elems (λ n s y at. elem_given s y (he n s at)) x.elems in
      rw (x.funcs, gs, es, ← x.tables, ← x.mems, ← x.datas)

module _ (env : Environment) (parts : List Part) (insts : List Inst) (are : Instances env parts insts) (allocated : Store) (stores_are : stores_from env parts insts (own_store env) 0 parts insts ≡ Some allocated) (matched : EachMatches env parts allocated) (size : length insts ≡ length parts)
    (there : ExportsThere parts) (earlier : JoinsEarlier parts) where
  pub added_same : (k : ℕ) (m : Module) (i : Inst) → module_at parts k ≡ Some m → slice_get insts k ≡ Some i → Constants m → (t : Store) → HoldsFixed env parts allocated k t → (a : Store) → part_store env parts insts k m i ≡ Some a → store_with (const_value t.globals i) m i ≡ Some a
  added_same k m i is_part is_inst c t holds a h =
      store_given (value_of env parts insts k) (const_value t.globals i) m i
      (λ n g at. given g.init (c.globals n g at)) (λ n s at l x here. given x (c.items n s at l x here)) a h
    where
      given : (e : ConstExpr) → Constant m e → Gives (value_of env parts insts k) (const_value t.globals i) e
      given = value_given env parts insts are allocated stores_are matched size there earlier k m i is_part is_inst t holds
