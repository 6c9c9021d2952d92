use Rattle.base_lists.proofs.Common.{◌≡◌, ◌∙◌, ◌<◌, ◌^◌, ap, sym, subst, List, length, arith, length-map}
use Rattle.wasm_tree_spec.specs.Prelude.{Globals}
use Rattle.wasm_meaning.specs.Prelude.{sites, defined_before}
use Rattle.merge_spec.specs.declared.parts.Part.{Part}
use Rattle.merge_spec.specs.Prelude.{defined_globals, named_module, named_modules}
use Rattle.merge_link.proofs.Whole.{own_count}
use Rattle.merge_link.proofs.resolving.resolve.Goals as goal

globals_are : (ps : List Part) → length (defined_globals (named_modules ps)) ≡ defined_before Globals (named_modules ps) (length ps)
globals_are ps = own_count (named_modules ps) ∙ ap (defined_before Globals (named_modules ps)) (length-map ps named_module)

few_globals : (ps lent : List Part) → lent ≡ ps → defined_before Globals (named_modules ps) (length ps) < 2 ^ 32 → length (defined_globals (named_modules lent)) < 2 ^ 32
few_globals ps lent is few =
    let P : List Part → Type 0 = λ qs. length (defined_globals (named_modules qs)) < 2 ^ 32 in
    subst P (sym is) (let same = globals_are ps in omega arith)

pub all_tables-requires-clause-globals : goal.all_tables-requires-clause-globals
all_tables-requires-clause-globals c = few_globals c.args.parts.now c.as_slice-parts.result.now c.as_slice-parts.ensures c.requires.globals

pub linked_sites-requires-clause-joining : goal.linked_sites-requires-clause-joining
linked_sites-requires-clause-joining c =
    let P : List Part → Type 0 = λ qs. length (sites (named_modules qs)) < 2 ^ 32 in
    record {
      names = c.in_ok-names.ensures;
      tables = c.in_ok-tables.ensures;
      imports = subst P (sym c.as_slice-parts.ensures) c.requires.imports;
      globals = few_globals c.args.parts.now c.as_slice-parts.result.now c.as_slice-parts.ensures c.requires.globals;
    }
