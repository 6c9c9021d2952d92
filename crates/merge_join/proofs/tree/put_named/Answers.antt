use Rattle.base_lists.proofs.Common.{◌∙◌, ap, ◌++◌}
use Rattle.wasm_tree_spec.specs.Prelude.{Module}
use Rattle.merge_spec.specs.Prelude.{named_modules, start_among, start_calls, starts}
use Rattle.merge_join.proofs.tree.put_named.Goals as goal

pub returns : goal.returns
returns c =
    let ps = named_modules c.args.joining.now.parts.now in
    let a = c.in_ok-put_starts.ensures in
    let e = c.in_ok-put_names.ensures in
    record {
      types_are = c.requires.types;
      imports_are = ap (λ (m : Module). m.imports) e;
      exports_are = ap (λ (m : Module). m.exports) e;
      start_is = ap (λ (m : Module). m.start) e ∙ ap (λ (m : Module). m.start) a ∙ ap (λ k. start_among k (starts ps)) c.requires.count;
      calls_are = ap (λ (m : Module). m.funcs) e ∙ ap (λ (m : Module). m.funcs) a ∙ ap (λ fs. fs ++ start_calls ps (starts ps)) c.requires.empty;
    }
