-- Quiet steps that go on read no unknown place and name related addresses.
use Rattle.base_lists.proofs.Common.{◌≡◌, ℕ, suc, List, [], ◌∷◌, Some, Bool, false, not, ◌&&◌, refl, sym, subst, None, numbers_is}
use Rattle.base_lists.proofs.Every.{every_with}
use Rattle.std.proofs.lemmas.Bool.{true≢false}
use Rattle.wasm_tree_spec.specs.Prelude.{Space, Types, Functions, Tables, Memories, Globals, ElementSegments, DataSegments, Operand, Instr, out-Instr, Module, same_space, operands}
use Rattle.wasm_meaning.specs.Prelude.{Inst, Val, Level, Store, Entry, Running, Mark, Opening, Waiting, Ended, Growing}
use Rattle.run_simulation.specs.Prelude.{Pairing, NextKnown, TopKnown, TopSkips, passed, EntriesKnown, StepReadsKnown, KnownSteps, none_left, known_step}
use Rattle.run_simulation.proofs.StepsAgree.{none_called}
use Rattle.eval_spec.specs.Prelude.{State, Stage, Going, Stopped, Finished, first_held, is_imported, is_unknown_import, tests, ComesTo, here, on, quiet_step, own_inst}
use Rattle.eval_proof.specs.KnownQuietSteps.{RelatesAllButImports, FramesOf, FuncsOf, QuietStepsAreKnown}
use Rattle.eval_proof.proofs.OperandAddresses.{address_at, Known, op_known}
use Rattle.eval_proof.proofs.FrameInstances.{step_keeps}
use Rattle.eval_proof.proofs.QuietSteps.{neither, every_false, UsesKnownIn, UsesKnown, uses_known, reads_levels, goes_on_quietly}

-- Each index is its own address.
own_address : (m : Module) (k : Space) (n a : ℕ) → address_at (own_inst m) k n ≡ Some a → a ≡ n
own_address m Types n a e = absurd (let h = e in cc)
own_address m Functions n a e = sym (numbers_is _ n a e).1
own_address m Tables n a e = sym (numbers_is _ n a e).1
own_address m Memories n a e = sym (numbers_is _ n a e).1
own_address m Globals n a e = sym (numbers_is _ n a e).1
own_address m ElementSegments n a e = sym (numbers_is _ n a e).1
own_address m DataSegments n a e = sym (numbers_is _ n a e).1

module _ (m : Module) (of named : Space → ℕ → ℕ → Bool) (all : RelatesAllButImports m of named) where
  abbrev pub R : Pairing
  R = passed of named []

  pub operand_known : (i j : Inst) → i ≡ own_inst m → (x : Operand) → is_unknown_import m x ≡ false → Known R i j x
  operand_known i j is x e a b at p =
      let same : a ≡ x.index = own_address m x.space x.index a (subst (λ i. address_at i x.space x.index ≡ Some a) is at) in
      all x.space a b (subst (λ n. not (same_space x.space Functions) && is_imported m x.space n ≡ false) (sym same) e) p

  next_known : (s : State) (i j : Inst) (vs : List Val) (c d : List Instr) → i ≡ own_inst m → UsesKnownIn m s i vs c → NextKnown R i j c d
  next_known s i j vs (o ∷ c) (p ∷ d) is n = λ r. op_known R i j (every_with _ _ (operands (out-Instr o)) (λ x h. operand_known i j is x h) (every_false (is_unknown_import m) (operands (out-Instr o)) (neither _ _ n).0)) r
  next_known s i j vs [] d is n = tt
  next_known s i j vs (o ∷ c) [] is n = tt

  top_known : (s : State) (i j : Inst) (ls ks : List Level) → i ≡ own_inst m → UsesKnown m s i ls → TopKnown R i j ls ks
  top_known s i j (l ∷ ls) (k ∷ ks) is n = next_known s i j l.values l.code k.code is n
  top_known s i j [] ks is n = tt
  top_known s i j (l ∷ ls) [] is n = tt

  -- The next instruction of the top frame uses nothing unknown.
  abbrev pub TopUses : State → List Entry → Type 0
  TopUses s (Running f ∷ es) = UsesKnown m s f.inst f.levels
  TopUses s _ = Unit {0}

  pub entries_known : (s : State) (es hs : List Entry) → FramesOf (own_inst m) es → TopUses s es → EntriesKnown R es hs
  entries_known s (Running f ∷ es) (Running g ∷ hs) o n = top_known s f.inst g.inst f.levels g.levels o.0 n
  entries_known s (Running f ∷ es) (Mark ∷ hs) o n = tt
  entries_known s (Running f ∷ es) (Opening ys ∷ hs) o n = tt
  entries_known s (Running f ∷ es) (Waiting us ∷ hs) o n = tt
  entries_known s (Running f ∷ es) (Ended ws ∷ hs) o n = tt
  entries_known s (Running f ∷ es) (Growing h ∷ hs) o n = tt
  entries_known s (Running f ∷ es) [] o n = tt
  entries_known s (Mark ∷ es) hs o n = tt
  entries_known s (Opening xs ∷ es) hs o n = tt
  entries_known s (Waiting ts ∷ es) hs o n = tt
  entries_known s (Ended vs ∷ es) hs o n = tt
  entries_known s (Growing g ∷ es) hs o n = tt
  entries_known s [] hs o n = tt

  pub step_reads : (s : State) (es : List Entry) → TopUses s es → StepReadsKnown s.unknown s.store es
  step_reads s (Running f ∷ es) n = reads_levels m s f.inst f.levels n
  step_reads s (Mark ∷ es) n = tt
  step_reads s (Opening xs ∷ es) n = tt
  step_reads s (Waiting ts ∷ es) n = tt
  step_reads s (Ended vs ∷ es) n = tt
  step_reads s (Growing g ∷ es) n = tt
  step_reads s [] n = tt

  pub no_opaque : (a : ℕ) → ¬ R.listed a
  no_opaque a p = true≢false (sym p)

  pub skips : (s : Store) (es : List Entry) → TopSkips R s es
  skips s (Running f ∷ es) = λ x _. none_called R no_opaque x
  skips s (Mark ∷ es) = tt
  skips s (Opening xs ∷ es) = tt
  skips s (Waiting ts ∷ es) = tt
  skips s (Ended vs ∷ es) = tt
  skips s (Growing g ∷ es) = tt
  skips s [] = tt

  pub top_uses : (s : State) (es : List Entry) → first_held (tests m s es) ≡ None → TopUses s es
  top_uses s (Running f ∷ es) n = uses_known m s (Running f ∷ es) f.inst f.levels n
  top_uses s (Mark ∷ es) n = tt
  top_uses s (Opening xs ∷ es) n = tt
  top_uses s (Waiting ts ∷ es) n = tt
  top_uses s (Ended vs ∷ es) n = tt
  top_uses s (Growing h ∷ es) n = tt
  top_uses s [] n = tt

  -- ---- several steps ----

  abbrev Steps : State → List Entry → State → List Entry → Type 0
  Steps s es t fs = FuncsOf (own_inst m) s.store.funcs → FramesOf (own_inst m) es → (n : ℕ) × KnownSteps R n s.unknown s.store es t.unknown t.store fs

  abbrev Between : Stage → Stage → Type 0
  Between (Going s es) (Going t fs) = Steps s es t fs
  Between (Going s es) _ = Unit {0}
  Between (Stopped x left) y = y ≡ Stopped x left
  Between (Finished s) y = y ≡ Finished s

  one_more : (s t : State) (es fs : List Entry) (q : Stage) → quiet_step m s es ≡ q → Between q (Going t fs) → Steps s es t fs
  one_more s t es fs (Stopped x left) e b = absurd (let h = b in cc)
  one_more s t es fs (Finished x) e b = absurd (let h = b in cc)
  one_more s t es fs (Going r gs) e b = λ funcs frames.
      let g = goes_on_quietly m s es r gs e in
      let uses = top_uses s es g.none_held in
      let kept = step_keeps (own_inst m) s.store funcs es r.store gs frames g.steps in
      let rest = b (subst (FuncsOf (own_inst m)) (sym kept.0) funcs) kept.1 in
      (suc rest.0, known_step (step_reads s es uses) (skips s.store es) (λ hs _. entries_known s es hs frames uses) g.steps (subst (λ u. KnownSteps R rest.0 u r.store gs t.unknown t.store fs) g.unknown rest.1))

  between : {x y : Stage} → ComesTo m x y → Between x y
  between {x = Going s es} here = λ _ _. (0, none_left)
  between {x = Stopped x left} here = refl
  between {x = Finished s} here = refl
  between {y = Going t fs} (on {s = s} {es = es} p) = one_more s t es fs (quiet_step m s es) refl (between p)
  between {y = Stopped x left} (on p) = tt
  between {y = Finished s} (on p) = tt

pub quiet_steps_are_known : QuietStepsAreKnown
quiet_steps_are_known m of named all s t es fs funcs frames p = between m of named all p funcs frames
