-- That what is left of a module is observationally equivalent to the module, seen through the
-- exports that are kept.
use Rattle.std.specs.Prelude.{IsTrue}
use Rattle.wasm_tree_spec.specs.Prelude.{Module}
use Rattle.wasm_valid.specs.Prelude.{IsValid}
use Rattle.wasm_meaning.specs.Prelude.{alone, links, Same, events}
use Rattle.dce_spec.specs.Marks.{Marks}
use Rattle.dce_spec.specs.Closed.{AreClosed}
use Rattle.dce_spec.specs.Swept.{swept}
use Rattle.dce_spec.specs.Unswept.{unswept}

-- the module with a view of only the kept exports, and the other module alone, have the same
-- traces, step by step, in every environment that links the former
abbrev pub ObservationallyEquivalent : Marks → Module → Module → Type 0
ObservationallyEquivalent k t other = Same (λ env. IsTrue (links env (unswept k t))) (events (unswept k t)) (events (alone other)) (λ n. n) (λ n. n)

-- This holds for what closed marks leave of a valid module.
abbrev pub SweptModuleEquivalent : Type 0
SweptModuleEquivalent = (k : Marks) (t : Module) → IsValid t → AreClosed k t → ObservationallyEquivalent k t (swept k t)
