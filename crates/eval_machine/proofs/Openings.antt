-- The step that begins a block, loop or if, and the stage to which it leads.
use Rattle.base_lists.proofs.Common.{◌≡◌, ℕ, arith, List, [], ◌∷◌, length, Bool, true, false, cond, Some, refl, ap, ap₂, ◌∙◌, slice_get, nat_eq, nat_lt, list_any, le-ltb, ne_eqb}
use Rattle.base_lists.specs.Places.{places}
use Rattle.wasm_tree_spec.specs.Prelude.{Space, Types, BlockType, FuncType, ValType, Instr, out-Instr, Block, Loop, If, outs-Block, outs-Loop, outs-If, Import, ImportDesc, Module, block_operands, same_space, space_of_import}
use Rattle.wasm_tree.specs.declared.types.BlockType.TheVariants as bt
use Rattle.wasm_tree.specs.declared.instr.Instr.TheOpen.{Instr-F}
use Rattle.wasm_tree.specs.declared.module.ImportDesc.TheVariants as im
use Rattle.wasm_num.specs.Operations.{W32}
use Rattle.wasm_meaning.specs.Prelude.{has_kind, Gives, IllTyped, Entry, pop_num}
use Rattle.eval_spec.specs.declared.stop.Stop.TheVariants as why
use Rattle.eval_spec.specs.Prelude.{is_unknown_import}
use Rattle.eval_machine.specs.declared.registers.Registers.{Registers}
use Rattle.eval_machine.specs.declared.registers.MachineAct.{MachineAct}
use Rattle.eval_machine.specs.declared.registers.MachineAct.TheVariants as act
use Rattle.eval_machine.specs.declared.registers.Flow.TheVariants as flow
use Rattle.eval_machine.specs.Prelude.{LevelPlace, ComesToAct}
use Rattle.eval_machine.specs.Instructions.{Opens, OpensWith}
use Rattle.eval_machine.proofs.InstructionSteps.{OpensStill, opens_still, opens_not}

pub out_block : (o : Instr) (ty : BlockType) (body : List Instr) → o ≡ Block ty body → out-Instr o ≡ Instr-F.Block ty body
out_block o ty body e = ap out-Instr e ∙ outs-Block ty body

pub out_loop : (o : Instr) (ty : BlockType) (body : List Instr) → o ≡ Loop ty body → out-Instr o ≡ Instr-F.Loop ty body
out_loop o ty body e = ap out-Instr e ∙ outs-Loop ty body

pub out_if : (o : Instr) (ty : BlockType) (body other : List Instr) → o ≡ If ty body other → out-Instr o ≡ Instr-F.If ty body other
out_if o ty body other e = ap out-Instr e ∙ outs-If ty body other

-- No import is of a type.
pub type_kind : (d : ImportDesc) → same_space Types (space_of_import d) ≡ false
type_kind (im.Func t) = refl
type_kind (im.Table t) = refl
type_kind (im.Memory t) = refl
type_kind (im.Global t) = refl

pub none_of : (k : Space) → ((d : ImportDesc) → same_space k (space_of_import d) ≡ false) → (is : List Import) (n : ℕ) → places (has_kind k) is n ≡ []
none_of k h [] n = refl
none_of k h (i ∷ is) n = rw (h i.desc) (none_of k h is _)

types_known : (m : Module) (ty : BlockType) → list_any (is_unknown_import m) (block_operands ty) ≡ false
types_known m bt.Empty = refl
types_known m (bt.Value t) = refl
types_known m (bt.Index n) = let past : nat_lt n 0 ≡ false = le-ltb n 0 (omega arith) in rw (none_of Types type_kind m.imports 0, past)

module _ (m : Module) (o : Instr) (r : Registers) (ty : BlockType) (body : List Instr) where
  module _ (rest : List Instr) (p : LevelPlace) (es : List Entry) where
    block_still : OpensStill m r o (Instr-F.Block ty body) rest p es
    block_still = record { grow = refl; table = refl; unknown = rw (types_known m ty); import = refl; further = refl; opens = refl; touched = refl }

    loop_still : OpensStill m r o (Instr-F.Loop ty body) rest p es
    loop_still = record { grow = refl; table = refl; unknown = rw (types_known m ty); import = refl; further = refl; opens = refl; touched = refl }

    if_still : (first second : List Instr) → OpensStill m r o (Instr-F.If ty first second) rest p es
    if_still first second = record { grow = refl; table = refl; unknown = rw (types_known m ty); import = refl; further = refl; opens = refl; touched = refl }

  pub block_begins : (a : MachineAct) → o ≡ Block ty body → Opens m ty body false a → ComesToAct m o r a r
  block_begins (act.Opens b) e (t, shape, params, gives, takes, code, again) = λ rest p es.
      rw (out_block o ty body e) (opens_still m r o (Instr-F.Block ty body) rest p es (block_still rest p es) _ r b.params.now b.gives b.takes b.body.now _ refl (rw (shape, params, gives, takes, code, again)))
  block_begins (act.Leaves left) e (shape, is) = λ rest p es. rw (out_block o ty body e, is) (opens_not m r o (Instr-F.Block ty body) rest p es (block_still rest p es) _ (rw shape))
  block_begins act.Continues e h = elim h [ ]
  block_begins (act.Calls n) e h = elim h [ ]

  pub loop_begins : (a : MachineAct) → o ≡ Loop ty body → Opens m ty body true a → ComesToAct m o r a r
  loop_begins (act.Opens b) e (t, shape, params, gives, takes, code, again) = λ rest p es.
      rw (out_loop o ty body e) (opens_still m r o (Instr-F.Loop ty body) rest p es (loop_still rest p es) _ r b.params.now b.gives b.takes b.body.now _ refl (rw (shape, params, gives, takes, code, again, e)))
  loop_begins (act.Leaves left) e (shape, is) = λ rest p es. rw (out_loop o ty body e, is) (opens_not m r o (Instr-F.Loop ty body) rest p es (loop_still rest p es) _ (rw shape))
  loop_begins act.Continues e h = elim h [ ]
  loop_begins (act.Calls n) e h = elim h [ ]

  -- An `if` opens the one of its two bodies that the number chooses.
  pub if_begins : (first second : List Instr) (n : ℕ) (new : Registers) (a : MachineAct) → o ≡ If ty first second → pop_num W32 r.operands ≡ Gives (n, new.operands) → new.kept ≡ r.kept → new.locals ≡ r.locals → cond (nat_eq n 0) second first ≡ body →
      Opens m ty body false a → ComesToAct m o r a new
  if_begins first second n new (act.Opens b) e f k l choose (t, shape, params, gives, takes, code, again) = λ rest p es.
      rw (out_if o ty first second e) (opens_still m r o (Instr-F.If ty first second) rest p es (if_still rest p es first second) _ new b.params.now b.gives b.takes b.body.now _ k (rw (f, choose, shape, params, gives, takes, code, again, l)))
  if_begins first second n new (act.Leaves left) e f k l choose (shape, is) = λ rest p es.
      rw (out_if o ty first second e, is, k) (opens_not m r o (Instr-F.If ty first second) rest p es (if_still rest p es first second) _ (rw (f, choose, shape)))
  if_begins first second n new act.Continues e f k l choose h = elim h [ ]
  if_begins first second n new (act.Calls x) e f k l choose h = elim h [ ]

  pub if_traps : (first second : List Instr) (new : Registers) → o ≡ If ty first second → pop_num W32 r.operands ≡ IllTyped → new.kept ≡ r.kept → ComesToAct m o r (act.Leaves (flow.Stopped why.Trap)) new
  if_traps first second new e f k = λ rest p es. rw (out_if o ty first second e, k) (opens_not m r o (Instr-F.If ty first second) rest p es (if_still rest p es first second) _ (rw f))

-- ---- the type of a block ----

pub opens_empty : (m : Module) (body : List Instr) (again : Bool) (a : MachineAct) → OpensWith [] 0 body again a → Opens m bt.Empty body again a
opens_empty m body again (act.Opens b) (params, gives, takes, code, is) = (record { params = []; results = [] }, refl, params, gives, takes, code, is)
opens_empty m body again act.Continues h = elim h [ ]
opens_empty m body again (act.Leaves left) h = elim h [ ]
opens_empty m body again (act.Calls n) h = elim h [ ]

pub opens_value : (m : Module) (t : ValType) (body : List Instr) (again : Bool) (a : MachineAct) → OpensWith [] 1 body again a → Opens m (bt.Value t) body again a
opens_value m t body again (act.Opens b) (params, gives, takes, code, is) = (record { params = []; results = t ∷ [] }, refl, params, gives, takes, code, is)
opens_value m t body again act.Continues h = elim h [ ]
opens_value m t body again (act.Leaves left) h = elim h [ ]
opens_value m t body again (act.Calls n) h = elim h [ ]

pub opens_index : (m : Module) (n : ℕ) (t : FuncType) (ps : List ValType) (k : ℕ) (body : List Instr) (again : Bool) (a : MachineAct) → slice_get m.types n ≡ Some t → ps ≡ t.params → k ≡ length t.results → OpensWith ps k body again a →
    Opens m (bt.Index n) body again a
opens_index m n t ps k body again (act.Opens b) e f g (params, gives, takes, code, is) = (t, e, params ∙ f, gives ∙ g, takes ∙ ap₂ (λ x y. cond again x y) (ap length f) g, code, is)
opens_index m n t ps k body again act.Continues e f g h = elim h [ ]
opens_index m n t ps k body again (act.Leaves left) e f g h = elim h [ ]
opens_index m n t ps k body again (act.Calls x) e f g h = elim h [ ]

-- A number that is not 0 chooses the second of two bodies, and 0 the first.
pub not_zero_chooses : (n : ℕ) (a b : List Instr) → (n ≡ 0 → ⊥) → cond (nat_eq n 0) a b ≡ b
not_zero_chooses n a b h = rw (ne_eqb n 0 h)

pub zero_chooses : (n : ℕ) (a b : List Instr) → n ≡ 0 → cond (nat_eq n 0) a b ≡ a
zero_chooses n a b e = rw e
