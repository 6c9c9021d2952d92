-- What a quiet step leaves unchanged in another store, over which the machine makes it too.
use Rattle.std.specs.Prelude.{◌≡◌, ℕ, true, List, [], slice_get, Bool}
use Rattle.base_lists.specs.Members.{is_among}
use Rattle.wasm_tree_spec.specs.Prelude.{Space, Memories, Globals, DataSegments, Module}
use Rattle.wasm_meaning.specs.Prelude.{Gives, Store, Entry, Ran, step}
use Rattle.run_simulation.specs.Prelude.{Pairing, ListRel, EntryRel, passed, Unknowns}
use Rattle.eval_spec.specs.Prelude.{State, Going, quiet_step, own_inst}
use Rattle.eval_proof.specs.KnownQuietSteps.{RelatesAllButImports, FramesOf}

-- Functions, tables and element segments are unchanged, and so are memories and data segments to
-- which nothing is related, and globals to which only unknown ones are related.
pub record LeavesAlone (R : Pairing) (u : Unknowns) (before after : Store) : Type 0 where
  pub funcs : after.funcs ≡ before.funcs
  pub tables : after.tables ≡ before.tables
  pub elems : after.elems ≡ before.elems
  pub mems : (b : ℕ) → ((a : ℕ) → ¬ R.of Memories a b) → slice_get after.mems b ≡ slice_get before.mems b
  pub globals : (b : ℕ) → ((a : ℕ) → R.of Globals a b → is_among u.globals a ≡ true) → slice_get after.globals b ≡ slice_get before.globals b
  pub datas : (b : ℕ) → ((a : ℕ) → ¬ R.of DataSegments a b) → slice_get after.datas b ≡ slice_get before.datas b

-- A quiet step leaves unchanged, in any store over which related entries step, what is not related
-- and what is unknown after the step.
abbrev pub QuietStepsPreserveUnrelated : Type 0
QuietStepsPreserveUnrelated =
    (m : Module) (of named : Space → ℕ → ℕ → Bool) → RelatesAllButImports m of named → (s r : State) (es gs : List Entry) → FramesOf (own_inst m) es → quiet_step m s es ≡ Going r gs →
    (x y : Store) (fs hs : List Entry) → ListRel (EntryRel (passed of named [])) es fs → step x fs ≡ Gives (Ran y hs) → LeavesAlone (passed of named []) r.unknown x y
