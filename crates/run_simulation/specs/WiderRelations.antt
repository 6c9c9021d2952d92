-- If more code may stand in place of calls, what was related stays related.
use Rattle.std.specs.Prelude.{ℕ, Bool, IsTrue, List}
use Rattle.wasm_tree_spec.specs.Prelude.{Space, Instr}
use Rattle.wasm_meaning.specs.Prelude.{Inst, Store, Run}
use Rattle.run_simulation.specs.Related.{CodeRel, StoreRel}
use Rattle.run_simulation.specs.RelatedRuns.{RunRel}
use Rattle.run_simulation.specs.Laws.{CodeTest, passed_with}
use Rattle.run_simulation.specs.Trampolines.{FramesBetween}

-- What passes the first test passes the second.
abbrev pub Allows : CodeTest → CodeTest → Type 0
Allows fewer more = (j : Inst) (a : ℕ) (code : List Instr) → IsTrue (fewer j a code) → IsTrue (more j a code)

-- Code stays related, and (below) stores and runs of which the second has passing frames.
abbrev pub CodeStaysRelated : Type 0
CodeStaysRelated = (of named : Space → ℕ → ℕ → Bool) (l : List ℕ) (fewer more : CodeTest) → Allows fewer more → (i j : Inst) (c d : List Instr) → CodeRel (passed_with of named l fewer) i j c d →
    CodeRel (passed_with of named l more) i j c d

abbrev pub StoresStayRelated : Type 0
StoresStayRelated = (of named : Space → ℕ → ℕ → Bool) (l : List ℕ) (fewer more : CodeTest) → Allows fewer more → (s t : Store) → StoreRel (passed_with of named l fewer) s t →
    StoreRel (passed_with of named l more) s t

abbrev pub RunsStayRelated : Type 0
RunsStayRelated =
    (of named : Space → ℕ → ℕ → Bool) (l : List ℕ) (fewer more : CodeTest) → Allows fewer more → (r q : Run) →
    RunRel (passed_with of named l fewer) (FramesBetween (passed_with of named l fewer)) (FramesBetween (passed_with of named l fewer)) r q →
    RunRel (passed_with of named l more) (FramesBetween (passed_with of named l more)) (FramesBetween (passed_with of named l more)) r q
