-- Wrong claims about the snapshots of the same modules, each with a name of its own, which are
-- refuted.
use Rattle.base_lists.proofs.Common.{◌≡◌, ◌∙◌, ap, sym, true≢false, ℕ, pos, List, [], ◌∷◌, ◌++◌, map, length, take, drop, Bool, nat_eq, None, list_all}
use Rattle.base_lists.specs.Places.{places}
use Rattle.base_lists.specs.Same.{each_same}
use Rattle.wasm_tree_spec.specs.Prelude.{Module, index_of_export}
use Rattle.index_remap.specs.Prelude.{declaring}
use Rattle.eval_spec.specs.Prelude.{reads_global}
use Rattle.eval_snapshot_spec.specs.Snapshot.{is_passive}
use Rattle.wasm_tree.specs.declared.module.ConstExpr.TheVariants as const
use Rattle.wasm_tree.specs.declared.module.DataMode.TheVariants as data'
use Rattle.eval_snapshot_spec.specs.Contents.{contents, stretch_segment}
use Rattle.eval_snapshot_spec.specs.Evaluated.{evaluated_tree}
use Rattle.eval_snapshot_spec.proofs.Modules.{a, b, c, export, mutable_i32, global, at, passive}
use Rattle.eval_snapshot_spec.proofs.ContentsRows.{zeros, they_join, they_part, negative}
use Rattle.eval_snapshot_spec.proofs.Rows.{three, first_evaluated, first_kept, first_kept_left, trapping, starting, not_even_started, start_made, counting, values_left, values_left_left, named, declared_again, segments, old_ones, old_ones_left, unnamed, left_out, linked, ctors, linked_evaluated}
use Rattle.eval_snapshot_spec.proofs.Rows.{linked_evaluated_left}

-- The data segments of a module have these sizes.
abbrev has_sizes : List ℕ → Module → Bool
has_sizes ns m = each_same nat_eq (map (λ d. length d.bytes) m.datas) ns

-- These globals, by their places, are initialised with the value of an imported one.
abbrev has_readers : List ℕ → Module → Bool
has_readers ns m = each_same nat_eq (places (λ g. reads_global g.init) m.globals 0) ns

-- Wrong: a passive segment that was not dropped is emptied.
undropped_segments_are_emptied : ¬ (evaluated_tree segments (a ∷ []) [] ≡ record old_ones_left { datas = passive [] ∷ passive [] ∷ passive [] ∷ at 4095 (7 ∷ 8 ∷ []) ∷ [] })
undropped_segments_are_emptied e = true≢false (ap (has_sizes (0 ∷ 1 ∷ 0 ∷ 2 ∷ [])) (sym old_ones ∙ e))

-- Wrong: a passive segment that was dropped is not emptied.
dropped_segments_stay : ¬ (evaluated_tree segments (a ∷ []) [] ≡ record old_ones_left { datas = passive [] ∷ passive (9 ∷ []) ∷ passive (10 ∷ []) ∷ at 4095 (7 ∷ 8 ∷ []) ∷ [] })
dropped_segments_stay e = true≢false (ap (has_sizes (0 ∷ 1 ∷ 0 ∷ 2 ∷ [])) (sym old_ones ∙ e))

-- Wrong: an active segment stays active, so that it would be copied over what the memory holds.
active_segments_stay_active : ¬ (evaluated_tree segments (a ∷ []) [] ≡ record old_ones_left { datas = at 4095 (7 ∷ 8 ∷ []) ∷ passive (9 ∷ []) ∷ passive [] ∷ at 4095 (7 ∷ 8 ∷ []) ∷ [] })
active_segments_stay_active e = true≢false (ap (λ m. list_all (λ d. is_passive d.mode) (take 3 m.datas)) (sym old_ones ∙ e))

-- Wrong: the old segments lose their indices, so that code would name other segments.
old_segments_lose_their_places : ¬ (evaluated_tree segments (a ∷ []) [] ≡ record old_ones_left { datas = passive (9 ∷ []) ∷ at 4095 (7 ∷ 8 ∷ []) ∷ [] })
old_segments_lose_their_places e = let f = ap (λ m. m.datas) (sym old_ones ∙ e) in cc

-- Wrong: old segments stay although no body names a data segment.
unnamed_segments_stay : ¬ (evaluated_tree unnamed (a ∷ []) [] ≡ record unnamed { exports = []; datas = passive [] ∷ passive (9 ∷ []) ∷ passive (10 ∷ []) ∷ at 4095 (7 ∷ 8 ∷ []) ∷ [] })
unnamed_segments_stay e = let f = ap (λ m. m.datas) (sym left_out ∙ e) in cc

-- Wrong: the last byte of the memory that is not zero is left out.
the_last_byte_is_dropped : ¬ (evaluated_tree linked (ctors ∷ []) [] ≡ record linked_evaluated_left { datas = at 1024 (104 ∷ 105 ∷ 0 ∷ 0 ∷ []) ∷ [] })
the_last_byte_is_dropped e = true≢false (ap (has_sizes (5 ∷ [])) (sym linked_evaluated ∙ e))

-- Wrong: the memory has a byte that a stopped constructor stored.
stores_of_a_stopped_constructor_stay : ¬ (evaluated_tree three (a ∷ b ∷ c ∷ []) [] ≡ record three { exports = export b 2 ∷ export c 3 ∷ []; datas = at 1024 (42 ∷ 1 ∷ []) ∷ [] })
stores_of_a_stopped_constructor_stay e = true≢false (ap (has_sizes (1 ∷ [])) (sym first_evaluated ∙ e))

-- Wrong: the start stays, so that it would be called again.
the_start_stays : ¬ (evaluated_tree trapping (b ∷ a ∷ []) [] ≡ record trapping { exports = export a 0 ∷ [] })
the_start_stays e = let f = ap (λ m. m.start) (sym start_made ∙ e) in cc

-- Wrong: the start is removed although no constructor was evaluated.
the_start_goes_without_evaluation : ¬ (evaluated_tree starting (b ∷ []) [] ≡ record starting { start = None })
the_start_goes_without_evaluation e = let f = ap (λ m. m.start) (sym not_even_started ∙ e) in cc

-- Wrong: the export of an evaluated constructor stays.
exports_of_evaluated_constructors_stay : ¬ (evaluated_tree three (a ∷ b ∷ c ∷ []) [] ≡ record three { datas = at 1024 (42 ∷ []) ∷ [] })
exports_of_evaluated_constructors_stay e = let f = ap (λ m. m.exports) (sym first_evaluated ∙ e) in cc

-- Wrong: the export of a stopped constructor is removed.
exports_of_stopped_constructors_go : ¬ (evaluated_tree three (a ∷ b ∷ c ∷ []) [] ≡ record three { exports = export c 3 ∷ []; datas = at 1024 (42 ∷ []) ∷ [] })
exports_of_stopped_constructors_go e = let f = ap (λ m. m.exports) (sym first_evaluated ∙ e) in cc

-- Wrong: a kept export denotes the constructor, so that it would run again, and the empty function
-- is unused.
kept_exports_run_the_constructor : ¬ (evaluated_tree three (a ∷ b ∷ c ∷ []) (a ∷ []) ≡ record first_kept_left { exports = three.exports })
kept_exports_run_the_constructor e = true≢false (ap (λ m. each_same nat_eq (map (λ e. index_of_export e.desc) m.exports) (4 ∷ 2 ∷ 3 ∷ [])) (sym first_kept ∙ e))

-- Wrong: a global whose value is unknown is initialised with 0.
unknown_globals_begin_with_0 : ¬ (evaluated_tree counting (a ∷ []) [] ≡ record values_left_left { globals = take 1 values_left_left.globals ++ global mutable_i32 (const.I32 (pos 0)) ∷ drop 2 values_left_left.globals })
unknown_globals_begin_with_0 e = true≢false (ap (has_readers (1 ∷ [])) (sym values_left ∙ e))

-- Wrong: a global that was set keeps its initialiser. (The function is declared in this module,
-- because then neither a global nor an export names it.)
set_globals_begin_as_before : ¬ (evaluated_tree counting (a ∷ []) [] ≡ record counting { exports = []; elems = declaring (0 ∷ []) ∷ [] })
set_globals_begin_as_before e = true≢false (ap (has_readers (1 ∷ [])) (sym values_left ∙ e))

-- Wrong: a function that a body names, and that only its export declared, is not declared.
functions_lose_their_declaration : ¬ (evaluated_tree named (a ∷ []) [] ≡ record named { exports = [] })
functions_lose_their_declaration e = let f = ap (λ m. m.elems) (sym declared_again ∙ e) in cc

-- ---- segments ----

-- Wrong: two bytes with 256 zeros between them stand in one segment.
bytes_join_over_256_zeros : ¬ (contents 0 (zeros 10 ++ 7 ∷ zeros 256 ++ 8 ∷ zeros 300) ≡ at 10 (7 ∷ zeros 256 ++ 8 ∷ []) ∷ [])
bytes_join_over_256_zeros e = let f = sym they_part ∙ e in cc

-- Wrong: two bytes with 255 zeros between them stand in two segments.
bytes_part_over_255_zeros : ¬ (contents 0 (zeros 10 ++ 7 ∷ zeros 255 ++ 8 ∷ zeros 300) ≡ at 10 (7 ∷ []) ∷ at 266 (8 ∷ []) ∷ [])
bytes_part_over_255_zeros e = let f = sym they_join ∙ e in cc

-- Wrong: an offset of 2 ^ 31 is spelled without a sign.
great_offsets_have_no_sign : ¬ ((stretch_segment 0 [] (record { first = 2147483648; last = 2147483648 })).mode ≡ data'.Active 0 (const.I32 (pos 2147483648)))
great_offsets_have_no_sign e = let f = sym negative ∙ e in cc
