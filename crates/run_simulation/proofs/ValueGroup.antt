-- The law of steps on values.
use Rattle.wasm_meaning.specs.Prelude.{unary, binary, ref_is_null, select_any, select_typed}
use Rattle.run_simulation.specs.Related
use Rattle.run_simulation.specs.Prelude.{number, reference, Values, GroupAgrees}
use Rattle.run_simulation.proofs.RelatedOutcomes.{bind_rel}
use Rattle.run_simulation.proofs.ValueSteps.{pop_rel, null_rel, unary_rel, binary_rel, ref_is_null_rel, select_any_rel, select_typed_rel, go_rel, values_rel, on_values_rel, pushes_rel, local_get_rel, local_set_rel, local_tee_rel, global_get_rel, global_set_rel, ref_func_rel}

pub values_agree : GroupAgrees Values
values_agree R off ev ew st _ _ r _ _ Related.drop _ _ = bind_rel (pop_rel R r.values) (λ _ _ p. go_rel R off ev ew st (values_rel R off ev ew st r p.second))
values_agree R off ev ew st _ _ r _ _ Related.select _ _ = on_values_rel R off ev ew st select_any r (select_any_rel R r.values)
values_agree R off ev ew st _ _ r _ _ (Related.select_typed {ts = ts}) _ _ = on_values_rel R off ev ew st (select_typed ts) r (select_typed_rel R ts r.values)
values_agree R off ev ew st _ _ r _ _ (Related.local_get {n = n}) _ _ = local_get_rel R off ev ew st n r
values_agree R off ev ew st _ _ r _ _ (Related.local_set {n = n}) _ _ = local_set_rel R off ev ew st n r
values_agree R off ev ew st _ _ r _ _ (Related.local_tee {n = n}) _ _ = local_tee_rel R off ev ew st n r
values_agree R off ev ew st _ _ r _ _ (Related.global_get {n = n} {m = m} p) reads _ = global_get_rel R off ev ew st n m r p reads
values_agree R off ev ew st _ _ r _ _ (Related.global_set {n = n} {m = m} p) _ _ = global_set_rel R off ev ew st n m r p
values_agree R off ev ew st _ _ r _ _ Related.i32_const _ _ = pushes_rel R off ev ew st r number
values_agree R off ev ew st _ _ r _ _ Related.i64_const _ _ = pushes_rel R off ev ew st r number
values_agree R off ev ew st _ _ r _ _ (Related.un {o = o}) _ _ = on_values_rel R off ev ew st (unary o) r (unary_rel R o r.values)
values_agree R off ev ew st _ _ r _ _ (Related.bin {o = o}) _ _ = on_values_rel R off ev ew st (binary o) r (binary_rel R o r.values)
values_agree R off ev ew st _ _ r _ _ (Related.ref_null {t = t}) _ _ = pushes_rel R off ev ew st r (reference (null_rel R t))
values_agree R off ev ew st _ _ r _ _ Related.ref_is_null _ _ = on_values_rel R off ev ew st ref_is_null r (ref_is_null_rel R r.values)
values_agree R off ev ew st _ _ r _ _ (Related.ref_func {n = n} {m = m} p) _ _ = ref_func_rel R off ev ew st n m r p
values_agree R off ev ew st h k r a b o reads e = absurd (cc e)
