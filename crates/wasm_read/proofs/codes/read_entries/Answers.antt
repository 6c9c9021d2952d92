use Rattle.base_lists.proofs.Common.{◌≡◌, ◌∙◌, sym, ap, List, [], ◌∷◌, ◌++◌, map, Err, arith, map-append}
use Rattle.wasm_tree_spec.specs.Prelude.{Func, uses_data}
use Rattle.wasm_read_spec.specs.Prelude.{code_in, untyped, entry_at, next_func}
use Rattle.wasm_read_spec.proofs.Loops.{each_more, each_stop_in}
use Rattle.base_lists.proofs.Each.{any_more}
use Rattle.wasm_read.proofs.codes.read_entries.Goals as goal

more : (fs : List Func) (f : Func) (new : List Func) → new ≡ fs ++ f ∷ [] → map code_in new ≡ map code_in fs ++ code_in f ∷ []
more fs f new e = ap (map code_in) e ∙ map-append code_in fs (f ∷ [])

one_more : (fs : List Func) (f : Func) (new : List Func) → new ≡ fs ++ f ∷ [] → map untyped (map code_in fs) ≡ fs → f.ty ≡ 0 → map untyped (map code_in new) ≡ new
one_more fs f new e h k = rw e (ap (map untyped) (map-append code_in fs (f ∷ [])) ∙ map-append untyped (map code_in fs) (code_in f ∷ []) ∙ ap (λ gs. gs ++ untyped (code_in f) ∷ []) h ∙ ap (λ g. fs ++ g ∷ []) typeless)
  where
    typeless : untyped (code_in f) ≡ f
    typeless = ap (λ t. record f { ty = t }) (sym k)

pub returns-in_err-code-clause-gives : goal.returns-in_err-code-clause-gives
returns-in_err-code-clause-gives c =
    let gone : c.from_residual.result ≡ Err c.in_err-code.field-0.0 = grind arith in
    let l = c.loop-i in
    rw gone (each_stop_in (entry_at c.args.many c.args.section) next_func _ c.args.count l._i l.func (map code_in l.codes) l.cursor _ c.loop-i-test.true c.in_err-code.ensures.gives l.invariant.reads)

pub loop-i-preserved : goal.loop-i-preserved
loop-i-preserved c =
    let l = c.loop-i in record {
      reads = each_more (entry_at c.args.many c.args.section) next_func _ c.args.count l._i l.func (map code_in l.codes) (map code_in c.keep.new.self) (code_in c.in_ok-code.code) l.cursor c.read_entry.new.cursor c.loop-i-test.true c.in_ok-code.ensures.gives
          (more l.codes c.in_ok-code.code c.keep.new.self c.in_ok-keep.ensures.ok) l.invariant.reads;
      no_types = one_more l.codes c.in_ok-code.code c.keep.new.self c.in_ok-keep.ensures.ok l.invariant.no_types c.in_ok-code.ensures.no_type;
      number = omega (arith, l.invariant.number);
      uses = rw (c.in_ok-keep.ensures.ok) (any_more (λ (f : Func). uses_data f.body) c.args.pile.now.uses_data l.pile.uses_data _ l.codes c.in_ok-code.code l.invariant.uses c.in_ok-code.ensures.uses);
    }
