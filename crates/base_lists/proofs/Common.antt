-- Words and lemmas of std and of this crate that most proofs cite, re-exported from one place. This
-- file declares nothing.
pub use Rattle.base_lists.proofs.Bools.{and_false, cond_is, either_true, left_either, left_true, right_either, right_true, same_tests}
pub use Rattle.base_lists.proofs.Each.{any_from_place, every_at, list_all_each, list_all_from, list_any_there, there_contains}
pub use Rattle.base_lists.proofs.Filtered.{all_counted, chosen_from, filter_map_most, first_at, has_chosen, is_kept, kept_is, place_back, place_of, place_there, places_many}
pub use Rattle.base_lists.proofs.Found.{found_nothing, found_something}
pub use Rattle.base_lists.proofs.Members.{among_append, among_joined, among_left, among_right, among_there, no_place, none_among, place_is, the_one, there_among}
pub use Rattle.base_lists.proofs.Numbers.{add_next, length-numbers, map_numbers_index, number_is, numbers_append, numbers_at, numbers_index, numbers_is, numbers_more, same_number}
pub use Rattle.base_lists.proofs.Options.{all_there_at, all_there_back, all_there_from, all_there_length, all_there_same, and_then_is, is_some_there, keeps_map, keeps_only, keeps_then, only_rest, only_true, option_map_is, unwrap_or_false_is}
pub use Rattle.base_lists.proofs.Parts.{copies_length, overwrite_fits, overwritten_length, split_take}
pub use Rattle.base_lists.proofs.Pigeons.{pigeons}
pub use Rattle.base_lists.proofs.Places.{Has, append_at_left, append_from, append_left, append_right, drop_at, has_left, has_right, index_left, index_right, map_at, map_from, map_stays, map_twice, push_before, push_last, replicate_at, set_at, set_other, slice_get_none, slice_get_there}
pub use Rattle.base_lists.proofs.Places.{slice_index_is}
pub use Rattle.base_lists.proofs.Related.{all_rel, any_there, append_rel, both_at, both_in, both_map, cond_two, copies_rel, each_rel, either_all, get_rel, left_there, length_rel, maps_rel, opt_at, opt_both, opt_self, overwrite_rel, put_rel, right_there, same_there, self_rel, then_all, then_eq}
pub use Rattle.base_lists.proofs.Related.{then_rel, then_same, then_same_is, there, with_there}
pub use Rattle.base_lists.proofs.Results.{bind_ok, err_ok, ok_pair, within_most}
pub use Rattle.base_lists.proofs.Same.{each_same_is, each_same_self}
pub use Rattle.base_lists.proofs.Walk.{mapped_more, none_past, part, part_at, part_more}
pub use Rattle.std.proofs.Common.{Bool, Contains, Equal, Err, Greater, IfErr, IfOk, IfSome, IsNone, IsOk, IsSome, IsTrue, IsUtf8, Less, List, None, Ok, OnOk, Option, Ordering, Result, Some, [], add-one, add-zero, ap, append-nil, append_assoc, ap₂, arith, codes, cond, count_by, decimal, drop}
pub use Rattle.std.proofs.Common.{drop-cons, false, find, fold, get_or, if◌then◌else◌, inl, inr, is_none, is_some, length, ltb, map, max, min, nat_eq, nat_le, nat_lt, negsuc, not, of_z, option_and_then, option_map, option_to_list, pos, refl, replicate, reverse, rules, set, slice_get, slice_index}
pub use Rattle.std.proofs.Common.{slice_index_or, slice_set, string_bytes, subst, suc, sym, take, to_z, true, true≢false, unwrap_or, vec_capacity, w32, w64, zero, zero-add, ℕ, ℤ, ⊎_elim, ◌%◌, ◌&&◌, ◌*◌, ◌++◌, ◌+◌, ◌-ℤ◌, ◌-◌, ◌/◌, ◌<◌, ◌==◌, ◌^◌, ◌||◌, ◌↔◌, ◌∙◌, ◌∷◌, ◌≡◌, ◌≢◌, ◌≤◌, ◌⊎◌}
pub use Rattle.std.proofs.Math.Bool.{and-false, or-false, or-true, or_assoc}
pub use Rattle.std.proofs.Math.Dec.{eqb-suc-zero}
pub use Rattle.std.proofs.Math.Nat.{mod-lt}
pub use Rattle.std.proofs.Math.Path.{fun_ext}
pub use Rattle.std.proofs.Math.Pow.{pow_mono}
pub use Rattle.std.proofs.lemmas.Bool.{and_from, and_parts, cases_Bool, cases_eq, cases_lt, cases_order, eq-eqb, eqb-false, eqb-true, le-leb, le-ltb, leb-true, lt-leb, lt-ltb, ltb-false, ltb-true, ne_eqb, not-true}
pub use Rattle.std.proofs.lemmas.Bool.Decides.{eqb_tells, nat_tests}
pub use Rattle.std.proofs.lemmas.Cmp.{nat_list_eq_equiv}
pub use Rattle.std.proofs.lemmas.Fmt.{decimal_injective}
pub use Rattle.std.proofs.lemmas.Grind.{common_steps, flat_map-append}
pub use Rattle.std.proofs.lemmas.Int.{ints}
pub use Rattle.std.proofs.lemmas.List.{append_cancel_left, at_drop_more, drop-drop, drop_all, drop_more, ext_get_or, get_or-append_right, get_or-drop, get_or-replicate, get_or-set_other, get_or-set_same, get_or-take, get_or_append_left, get_or_default, get_or_past, length-append, length-drop}
pub use Rattle.std.proofs.lemmas.List.{length-map, length-replicate, length-reverse, length-set, length-take-le, length_push, map-append, map-id, map_push, reverse-append, set-get_or, take-append-drop, take-append-le, take-map, take_all, take_more}
pub use Rattle.std.proofs.lemmas.List.Elements.{Contains-append_cases, Contains-append_left, Contains-append_right, Contains-push, Contains-push_cases, filter-append, filter_map-append}
pub use Rattle.std.proofs.lemmas.List.Folds.{list_all-append, list_all-map, list_any-append}
pub use Rattle.std.proofs.lemmas.Map.Keys.{any_passes_from_place}
pub use Rattle.std.proofs.lemmas.Map.Text.{btree_map_updates_str, hash_map_updates_str, is_eq-slice_cmp}
pub use Rattle.std.proofs.lemmas.Nat.{pow-add, pow_pos}
pub use Rattle.std.proofs.lemmas.Option.{get_or_from_slice_get, none-some, same_Some, slice_get-get_or, slice_get-map, slice_get_past, slice_get_read, slice_get_within}
pub use Rattle.std.proofs.lemmas.Result.{IfErr-weaker, IfOk-weaker}
pub use Rattle.std.proofs.lemmas.Slice.Eq.{bytes_eq-Decides}
pub use Rattle.std.proofs.lemmas.Str.{IsUtf8-from_ascii, IsUtf8-from_is_utf8, is_utf8-from_IsUtf8}
pub use Rattle.std.proofs.lemmas.Str.Ascii.{IsAscii-cons, IsAscii-nil}
pub use Rattle.std.specs.BTreeMap.{get_by}
pub use Rattle.std.specs.BTreeSet.{btree_set_len, contains_text}
pub use Rattle.std.specs.Borrow.{Bor}
pub use Rattle.std.specs.Cmp.Lexicographic.{slice_cmp}
pub use Rattle.std.specs.FinMap.{get}
pub use Rattle.std.specs.Fmt.{digits}
pub use Rattle.std.specs.List.{cons_option, filter, filter_map, flat_map, list_all, list_any, range_with_len}
pub use Rattle.std.specs.List.Sorted.{IsStrictlyIncreasing}
pub use Rattle.std.specs.Option.{option_copied, option_map_or, option_or}
pub use Rattle.std.specs.Ordering.{nat_cmp, ordering_then}
pub use Rattle.std.specs.Str.{IsAscii, bytes_eq, chars, is_utf8}
pub use Rattle.std.specs.Vec.Iter.{into_iter_items}
