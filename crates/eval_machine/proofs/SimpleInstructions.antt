-- Which instructions are simple or plain, by the variants that they are not.
use Rattle.base_lists.proofs.Common.{◌≡◌, ℕ, List, true, refl, sym, ap, ◌∙◌}
use Rattle.wasm_tree_spec.specs.Prelude.{BlockType, LoadOp, StoreOp, MemArg, Instr, out-Instr, roll-out-Instr}
use Rattle.wasm_tree.specs.declared.instr.Instr.TheVariants as i
use Rattle.wasm_tree.specs.declared.instr.Instr.TheViews.{roll-Instr}
use Rattle.wasm_tree.specs.declared.instr.Instr.TheOpen.{Instr-F}
use Rattle.eval_machine.specs.Instructions.{is_plain, is_simple}

-- An instruction is determined by its outer layer.
rolled : (o : Instr) (z : Instr-F Instr) → out-Instr o ≡ z → o ≡ roll-Instr z
rolled o z e = sym (roll-out-Instr o) ∙ ap roll-Instr e

-- The instruction is no control instruction: no block, branch, return or call.
pub record IsNoControl (o : Instr) : Type 0 where
  pub no_block : (b : BlockType) (body : List Instr) → o ≡ i.Block b body → ⊥
  pub no_loop : (b : BlockType) (body : List Instr) → o ≡ i.Loop b body → ⊥
  pub no_if : (b : BlockType) (first second : List Instr) → o ≡ i.If b first second → ⊥
  pub no_br : (n : ℕ) → o ≡ i.Br n → ⊥
  pub no_brif : (n : ℕ) → o ≡ i.BrIf n → ⊥
  pub no_brtable : (ns : List ℕ) (n : ℕ) → o ≡ i.BrTable ns n → ⊥
  pub no_return : o ≡ i.Return → ⊥
  pub no_call : (n : ℕ) → o ≡ i.Call n → ⊥
  pub no_callindirect : (ty n : ℕ) → o ≡ i.CallIndirect ty n → ⊥

pub record IsNoState (o : Instr) : Type 0 where
  pub no_globalget : (n : ℕ) → o ≡ i.GlobalGet n → ⊥
  pub no_globalset : (n : ℕ) → o ≡ i.GlobalSet n → ⊥
  pub no_reffunc : (n : ℕ) → o ≡ i.RefFunc n → ⊥
  pub no_load : (op : LoadOp) (arg : MemArg) → o ≡ i.Load op arg → ⊥
  pub no_store : (op : StoreOp) (arg : MemArg) → o ≡ i.Store op arg → ⊥
  pub no_memorysize : (n : ℕ) → o ≡ i.MemorySize n → ⊥
  pub no_memorygrow : (n : ℕ) → o ≡ i.MemoryGrow n → ⊥
  pub no_memoryinit : (s n : ℕ) → o ≡ i.MemoryInit s n → ⊥
  pub no_datadrop : (n : ℕ) → o ≡ i.DataDrop n → ⊥
  pub no_memorycopy : (to source : ℕ) → o ≡ i.MemoryCopy to source → ⊥
  pub no_memoryfill : (n : ℕ) → o ≡ i.MemoryFill n → ⊥
  pub no_tableget : (n : ℕ) → o ≡ i.TableGet n → ⊥
  pub no_tablesize : (n : ℕ) → o ≡ i.TableSize n → ⊥
  pub no_tableset : (n : ℕ) → o ≡ i.TableSet n → ⊥
  pub no_tableinit : (s n : ℕ) → o ≡ i.TableInit s n → ⊥
  pub no_elemdrop : (n : ℕ) → o ≡ i.ElemDrop n → ⊥
  pub no_tablecopy : (to source : ℕ) → o ≡ i.TableCopy to source → ⊥
  pub no_tablegrow : (n : ℕ) → o ≡ i.TableGrow n → ⊥
  pub no_tablefill : (n : ℕ) → o ≡ i.TableFill n → ⊥

simple_at : (o : Instr) (z : Instr-F Instr) → out-Instr o ≡ z → IsNoControl o → is_simple z ≡ true
simple_at o (Instr-F.Block b body) e h = absurd (h.no_block b body (rolled o (Instr-F.Block b body) e ∙ i.rolls-Block b body))
simple_at o (Instr-F.Loop b body) e h = absurd (h.no_loop b body (rolled o (Instr-F.Loop b body) e ∙ i.rolls-Loop b body))
simple_at o (Instr-F.If b first second) e h = absurd (h.no_if b first second (rolled o (Instr-F.If b first second) e ∙ i.rolls-If b first second))
simple_at o (Instr-F.Br n) e h = absurd (h.no_br n (rolled o (Instr-F.Br n) e ∙ i.rolls-Br n))
simple_at o (Instr-F.BrIf n) e h = absurd (h.no_brif n (rolled o (Instr-F.BrIf n) e ∙ i.rolls-BrIf n))
simple_at o (Instr-F.BrTable ns n) e h = absurd (h.no_brtable ns n (rolled o (Instr-F.BrTable ns n) e ∙ i.rolls-BrTable ns n))
simple_at o Instr-F.Return e h = absurd (h.no_return (rolled o Instr-F.Return e ∙ i.rolls-Return))
simple_at o (Instr-F.Call n) e h = absurd (h.no_call n (rolled o (Instr-F.Call n) e ∙ i.rolls-Call n))
simple_at o (Instr-F.CallIndirect ty n) e h = absurd (h.no_callindirect ty n (rolled o (Instr-F.CallIndirect ty n) e ∙ i.rolls-CallIndirect ty n))
simple_at o _ e h = refl

pub simple : (o : Instr) → IsNoControl o → is_simple (out-Instr o) ≡ true
simple o h = simple_at o (out-Instr o) refl h

plain_at : (o : Instr) (z : Instr-F Instr) → out-Instr o ≡ z → is_simple z ≡ true → IsNoState o → is_plain z ≡ true
plain_at o (Instr-F.GlobalGet n) e q h = absurd (h.no_globalget n (rolled o (Instr-F.GlobalGet n) e ∙ i.rolls-GlobalGet n))
plain_at o (Instr-F.GlobalSet n) e q h = absurd (h.no_globalset n (rolled o (Instr-F.GlobalSet n) e ∙ i.rolls-GlobalSet n))
plain_at o (Instr-F.RefFunc n) e q h = absurd (h.no_reffunc n (rolled o (Instr-F.RefFunc n) e ∙ i.rolls-RefFunc n))
plain_at o (Instr-F.Load op arg) e q h = absurd (h.no_load op arg (rolled o (Instr-F.Load op arg) e ∙ i.rolls-Load op arg))
plain_at o (Instr-F.Store op arg) e q h = absurd (h.no_store op arg (rolled o (Instr-F.Store op arg) e ∙ i.rolls-Store op arg))
plain_at o (Instr-F.MemorySize n) e q h = absurd (h.no_memorysize n (rolled o (Instr-F.MemorySize n) e ∙ i.rolls-MemorySize n))
plain_at o (Instr-F.MemoryGrow n) e q h = absurd (h.no_memorygrow n (rolled o (Instr-F.MemoryGrow n) e ∙ i.rolls-MemoryGrow n))
plain_at o (Instr-F.MemoryInit s n) e q h = absurd (h.no_memoryinit s n (rolled o (Instr-F.MemoryInit s n) e ∙ i.rolls-MemoryInit s n))
plain_at o (Instr-F.DataDrop n) e q h = absurd (h.no_datadrop n (rolled o (Instr-F.DataDrop n) e ∙ i.rolls-DataDrop n))
plain_at o (Instr-F.MemoryCopy to source) e q h = absurd (h.no_memorycopy to source (rolled o (Instr-F.MemoryCopy to source) e ∙ i.rolls-MemoryCopy to source))
plain_at o (Instr-F.MemoryFill n) e q h = absurd (h.no_memoryfill n (rolled o (Instr-F.MemoryFill n) e ∙ i.rolls-MemoryFill n))
plain_at o (Instr-F.TableGet n) e q h = absurd (h.no_tableget n (rolled o (Instr-F.TableGet n) e ∙ i.rolls-TableGet n))
plain_at o (Instr-F.TableSize n) e q h = absurd (h.no_tablesize n (rolled o (Instr-F.TableSize n) e ∙ i.rolls-TableSize n))
plain_at o (Instr-F.TableSet n) e q h = absurd (h.no_tableset n (rolled o (Instr-F.TableSet n) e ∙ i.rolls-TableSet n))
plain_at o (Instr-F.TableInit s n) e q h = absurd (h.no_tableinit s n (rolled o (Instr-F.TableInit s n) e ∙ i.rolls-TableInit s n))
plain_at o (Instr-F.ElemDrop n) e q h = absurd (h.no_elemdrop n (rolled o (Instr-F.ElemDrop n) e ∙ i.rolls-ElemDrop n))
plain_at o (Instr-F.TableCopy to source) e q h = absurd (h.no_tablecopy to source (rolled o (Instr-F.TableCopy to source) e ∙ i.rolls-TableCopy to source))
plain_at o (Instr-F.TableGrow n) e q h = absurd (h.no_tablegrow n (rolled o (Instr-F.TableGrow n) e ∙ i.rolls-TableGrow n))
plain_at o (Instr-F.TableFill n) e q h = absurd (h.no_tablefill n (rolled o (Instr-F.TableFill n) e ∙ i.rolls-TableFill n))
plain_at o (Instr-F.Block b body) e q h = absurd (let k = q in cc)
plain_at o (Instr-F.Loop b body) e q h = absurd (let k = q in cc)
plain_at o (Instr-F.If b first second) e q h = absurd (let k = q in cc)
plain_at o (Instr-F.Br n) e q h = absurd (let k = q in cc)
plain_at o (Instr-F.BrIf n) e q h = absurd (let k = q in cc)
plain_at o (Instr-F.BrTable ns n) e q h = absurd (let k = q in cc)
plain_at o Instr-F.Return e q h = absurd (let k = q in cc)
plain_at o (Instr-F.Call n) e q h = absurd (let k = q in cc)
plain_at o (Instr-F.CallIndirect ty n) e q h = absurd (let k = q in cc)
plain_at o _ e q h = refl

pub plain : (o : Instr) → is_simple (out-Instr o) ≡ true → IsNoState o → is_plain (out-Instr o) ≡ true
plain o s h = plain_at o (out-Instr o) refl s h
