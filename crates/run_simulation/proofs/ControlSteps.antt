-- Steps at calls, ends, branches and blocks agree.
use Rattle.base_lists.proofs.Common.{◌≡◌, ◌∙◌, ℕ, List, [], ◌∷◌, ◌++◌, length, refl, sym, subst, append_assoc, slice_get, unwrap_or, nat_eq, same_there, cond_two, append_rel, get_rel}
use Rattle.wasm_tree_spec.specs.Prelude.{Functions, Tables, ValType, BlockType, Instr, outs-Loop}
use Rattle.wasm_tree.specs.declared.instr.Instr.TheOpen.{Instr-F}
use Rattle.wasm_tree.specs.declared.instr.Instr.TheVariants as i
use Rattle.wasm_meaning.specs.Prelude.{bind, split_at, or_ill_typed, RefVal, Val, Inst, Level, Env, Body, same_func_type, func_ref, resume, end_level, level_here, branch, shape_of, open_level, open_block}
use Rattle.wasm_num.specs.Operations.{W32}
use Rattle.wasm_meaning.specs.Control.{call, call_indirect, finish, branch_if, branch_table, open_loop, open_if}
use Rattle.wasm_meaning.proofs.Outcomes.{then_given, then_found}
use Rattle.run_simulation.specs.Related
use Rattle.run_simulation.specs.Prelude.{Pairing, OptRel, none, some, ResRel, done, trap, wrong, ListRel, nil, cons, RefRel, func, extern, ValRel, AreIndicesRelated, BlockRel, empty, value, indexed, OpRel, CodeRel, end, then, instead, TableRel, LevelRel, BodyRel, keep, goes, calls, ends, Unknowns}
use Rattle.run_simulation.specs.Prelude.{StoreRelOff, read_by, ReadsKnown, known, ActOff}
use Rattle.run_simulation.specs.Related.{SameType}
use Rattle.run_simulation.proofs.RelatedOutcomes.{bind_rel, or_trap_rel, bind_found, bind_is}
use Rattle.base_lists.proofs.Related.{onto_rel, past_rel, split_rel}
use Rattle.run_simulation.proofs.ValueSteps.{bind_num, bind_num_is, pop_typed_rel, go_rel, values_rel}
use Rattle.run_simulation.proofs.TableSteps.{bind_table, slot_known}

pub followed_rel : {R : Pairing} {i j : Inst} {c d e f : List Instr} → CodeRel R i j c d → CodeRel R i j e f → CodeRel R i j (c ++ e) (d ++ f)
followed_rel end s = s
followed_rel (then o r) s = then o (followed_rel r s)
followed_rel {R} {i} {j} {e = g} {f = f} (instead {o = o} {c = c} {d = d} e p q l k r) s = subst (λ x. CodeRel R i j (o ∷ (c ++ g)) x) (sym (append_assoc e d f)) (instead e p q l k (followed_rel r s))

module _ (R : Pairing) (off : Unknowns) (ev ew : Env) (st : StoreRelOff R off ev.store ew.store) where
  -- ---- calls ----

  pub call_rel : {h k : Body} (n m : ℕ) → BodyRel R ev.inst ew.inst h k → AreIndicesRelated R.of Functions ev.inst.funcs ew.inst.funcs n m → ResRel (ActOff R off ev.inst ew.inst) (call ev h n) (call ew k m)
  call_rel n m r p = bind_found p (λ _ _ p. done (calls p r.values r))

  func_ref_rel : {x y : RefVal} → RefRel R x y → ResRel (R.of Functions) (func_ref x) (func_ref y)
  func_ref_rel (func p) = or_trap_rel p
  func_ref_rel extern = wrong

  pub call_indirect_rel : {h k : Body} (s t n m : ℕ) → BodyRel R ev.inst ew.inst h k → SameType ev.inst ew.inst s t → AreIndicesRelated R.of Tables ev.inst.tables ew.inst.tables n m → ReadsKnown off (read_by (Instr-F.CallIndirect s n) ev h.values) →
      ResRel (ActOff R off ev.inst ew.inst) (call_indirect ev h s n) (call_indirect ew k t m)
  call_indirect_rel s t n m r e p reads =
      bind_table R off ev ew st n m _ _ r p (λ a _ _ _ is _ table. bind_num_is R W32 _ _ r.values (λ i _ _ top v.
      bind_rel (or_trap_rel (table.slots.each i (slot_known R off ev ew st _ a i reads (then_found _ is ∙ then_given _ top)))) (λ _ _ x. bind_rel (func_ref_rel x) (λ _ _ q. bind_is (same_there (st.types q)) (λ f _. bind_is e (λ u _.
      cond_two (ResRel (ActOff R off ev.inst ew.inst)) (same_func_type u f) (done (calls q v r)) trap))))))

  -- ---- ends and branches ----

  pub finish_rel : {h k : Body} {vs ws : List Val} → BodyRel R ev.inst ew.inst h k → ListRel (ValRel R) vs ws → ResRel (ActOff R off ev.inst ew.inst) (finish h vs) (finish k ws)
  finish_rel r v = done (ends v)

  resume_rel : {h k : Body} {vs ws : List Val} {c d : List Instr} {ls ms : List Level} → BodyRel R ev.inst ew.inst h k → ListRel (ValRel R) vs ws → CodeRel R ev.inst ew.inst c d → ListRel (LevelRel R ev.inst ew.inst) ls ms → ResRel (ActOff R off ev.inst ew.inst) (resume h vs c ls) (resume k ws d ms)
  resume_rel r v c nil = finish_rel r v
  resume_rel r v c (cons l ls) =
      go_rel R off ev ew st (record { locals = r.locals; values = append_rel v l.values; rest = followed_rel c l.code; gives = l.gives; takes = l.takes; back = l.back; outer = ls })

  pub end_level_rel : {h k : Body} → BodyRel R ev.inst ew.inst h k → ResRel (ActOff R off ev.inst ew.inst) (end_level h) (end_level k)
  end_level_rel {h} {k} r =
      subst (λ n. ResRel (ActOff R off ev.inst ew.inst) (end_level h) (bind (or_ill_typed (split_at n k.values)) (λ p. resume k p.0 [] k.outer))) r.gives
      (bind_found (split_rel h.gives r.values) (λ _ _ p. resume_rel r p.first end r.outer))

  level_rel : {h k : Body} → BodyRel R ev.inst ew.inst h k → LevelRel R ev.inst ew.inst (level_here h) (level_here k)
  level_rel r = record { values = r.values; code = r.rest; gives = r.gives; takes = r.takes; back = r.back }

  pub branch_rel : {h k : Body} (n : ℕ) → BodyRel R ev.inst ew.inst h k → ResRel (ActOff R off ev.inst ew.inst) (branch h n) (branch k n)
  branch_rel n r =
      bind_found (get_rel (cons (level_rel r) r.outer) n) (λ l m t. rw t.takes (bind_found (split_rel m.takes r.values) (λ _ _ p. resume_rel r p.first t.back (past_rel r.outer n))))

  pub branch_if_rel : {h k : Body} (n : ℕ) → BodyRel R ev.inst ew.inst h k → ResRel (ActOff R off ev.inst ew.inst) (branch_if h n) (branch_if k n)
  branch_if_rel n r =
      bind_num R W32 _ _ r.values (λ i _ _ v. cond_two (ResRel (ActOff R off ev.inst ew.inst)) (nat_eq i 0) (done (goes (known keep) (values_rel R off ev ew st r v))) (branch_rel n (values_rel R off ev ew st r v)))

  pub branch_table_rel : {h k : Body} (ns : List ℕ) (last : ℕ) → BodyRel R ev.inst ew.inst h k → ResRel (ActOff R off ev.inst ew.inst) (branch_table h ns last) (branch_table k ns last)
  branch_table_rel ns last r = bind_num R W32 _ _ r.values (λ i _ _ v. branch_rel (unwrap_or (slice_get ns i) last) (values_rel R off ev ew st r v))

  -- ---- blocks ----

  shape_rel : {i j : Inst} {b d : BlockType} → BlockRel i j b d → shape_of i b ≡ shape_of j d
  shape_rel empty = refl
  shape_rel value = refl
  shape_rel (indexed e) = e

  open_level_rel : {h k : Body} {vs ws : List Val} {c d back again : List Instr} (params : List ValType) (gives takes : ℕ) → BodyRel R ev.inst ew.inst h k → ListRel (ValRel R) vs ws → CodeRel R ev.inst ew.inst c d → CodeRel R ev.inst ew.inst back again →
      ResRel (ActOff R off ev.inst ew.inst) (open_level h vs params gives takes c back) (open_level k ws params gives takes d again)
  open_level_rel params gives takes r v c b =
      bind_rel (pop_typed_rel R params v) (λ _ _ p. go_rel R off ev ew st (record { locals = r.locals; values = onto_rel p.first nil; rest = c; gives = refl; takes = refl; back = b; outer = cons (level_rel (values_rel R off ev ew st r p.second)) r.outer }))

  open_block_rel : {h k : Body} {vs ws : List Val} (b e : BlockType) {c d : List Instr} → BodyRel R ev.inst ew.inst h k → ListRel (ValRel R) vs ws → BlockRel ev.inst ew.inst b e → CodeRel R ev.inst ew.inst c d → ResRel (ActOff R off ev.inst ew.inst) (open_block ev h vs b c) (open_block ew k ws e d)
  open_block_rel b e r v p c = bind_is (shape_rel p) (λ t _. open_level_rel t.params (length t.results) (length t.results) r v c end)

  pub open_here_rel : {h k : Body} (b e : BlockType) {c d : List Instr} → BodyRel R ev.inst ew.inst h k → BlockRel ev.inst ew.inst b e → CodeRel R ev.inst ew.inst c d → ResRel (ActOff R off ev.inst ew.inst) (open_block ev h h.values b c) (open_block ew k k.values e d)
  open_here_rel b e r p c = open_block_rel b e r r.values p c

  -- The code to which a branch to a loop leads is that loop instruction, and it is related.
  again_rel : {h k : Inst} (b e : BlockType) (c d : List Instr) → BlockRel h k b e → CodeRel R h k c d → CodeRel R h k (i.Loop b c ∷ []) (i.Loop e d ∷ [])
  again_rel b e c d p q = then (rw (outs-Loop b c, outs-Loop e d) (Related.loop p q)) end

  pub open_loop_rel : {h k : Body} (b e : BlockType) (c d : List Instr) → BodyRel R ev.inst ew.inst h k → BlockRel ev.inst ew.inst b e → CodeRel R ev.inst ew.inst c d → ResRel (ActOff R off ev.inst ew.inst) (open_loop ev h b c) (open_loop ew k e d)
  open_loop_rel b e c d r p q = bind_is (shape_rel p) (λ t _. open_level_rel t.params (length t.results) (length t.params) r r.values q (again_rel b e c d p q))

  pub open_if_rel : {h k : Body} (b e : BlockType) (c d f g : List Instr) → BodyRel R ev.inst ew.inst h k → BlockRel ev.inst ew.inst b e → CodeRel R ev.inst ew.inst c d → CodeRel R ev.inst ew.inst f g → ResRel (ActOff R off ev.inst ew.inst) (open_if ev h b c f) (open_if ew k e d g)
  open_if_rel {h} {k} b e c d f g r p q s = bind_num R W32 _ _ r.values (λ n _ _ v. open_block_rel b e r v p (cond_two (CodeRel R ev.inst ew.inst) (nat_eq n 0) s q))
