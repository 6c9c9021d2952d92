-- Outputs are compared with the limit and encoded one by one.
use Rattle.base_lists.proofs.Common.{◌≡◌, ◌∙◌, sym, refl, ap, Bool, true, false, not, ltb, ◌&&◌, map, ℕ, suc, ◌+◌, ◌<◌, ◌≤◌, List, [], ◌∷◌, ◌++◌, append-nil, add-one, drop, drop-cons, length, get_or, arith, list_all, drop_all, nat_tests}
use Rattle.wasm_write_spec.specs.Plain.{plain}
use Rattle.wasm_tree_spec.specs.Prelude.{Module}
use Rattle.tools_cli_spec.specs.Prelude.{NamedFile, is_within, spelled_output, most_output}
use Rattle.tools_cli_decide.specs.Prelude.{output_values}
use Rattle.tools_cli.specs.Writes.{write_entries}
use Rattle.tools_cli_decide.specs.Command.{output_value}
use Rattle.tools_cli.specs.Writes.{write_entry}
use Rattle.tools_cli_decide.specs.declared.output.Output.{Output}
use Rattle.tools_cli.specs.declared.perform.Write.{Write}

pub fits_is : (tree : Module) → length (plain tree) ≤ most_output → not (ltb most_output (length (plain tree))) ≡ true
fits_is tree h = let less : ltb most_output (length (plain tree)) ≡ false = grind (arith, nat_tests) in ap not less

pub exceeds_is : (tree : Module) → most_output < length (plain tree) → not (ltb most_output (length (plain tree))) ≡ false
exceeds_is tree h = let more : ltb most_output (length (plain tree)) ≡ true = grind (arith, nat_tests) in ap not more

values_at : (xs : List Output) (i : ℕ) (x : Output) → i < length xs → x ≡ get_or xs i x → output_values (drop i xs) ≡ output_value x ∷ output_values (drop (i + 1) xs)
values_at xs i x lt is = rw add-one (ap output_values (drop-cons xs i x lt) ∙ ap (λ y. output_value y ∷ output_values (drop (suc i) xs)) (sym is))

pub one_within : (whole : Bool) (xs : List Output) (i : ℕ) (x : Output) → i < length xs → x ≡ get_or xs i x → is_within (output_value x) ≡ true → whole ≡ list_all is_within (output_values (drop i xs)) → whole ≡ list_all is_within (output_values (drop (i + 1) xs))
one_within whole xs i x lt is fits e = e ∙ ap (list_all is_within) (values_at xs i x lt is) ∙ ap (λ b. b && list_all is_within (output_values (drop (i + 1) xs))) fits

pub one_exceeds : (whole : Bool) (xs : List Output) (i : ℕ) (x : Output) → i < length xs → x ≡ get_or xs i x → is_within (output_value x) ≡ false → whole ≡ list_all is_within (output_values (drop i xs)) → whole ≡ false
one_exceeds whole xs i x lt is large e = e ∙ ap (list_all is_within) (values_at xs i x lt is) ∙ ap (λ b. b && list_all is_within (output_values (drop (i + 1) xs))) large

pub none_left : (whole : Bool) (xs : List Output) (i : ℕ) → length xs ≤ i → whole ≡ list_all is_within (output_values (drop i xs)) → whole ≡ true
none_left whole xs i over e = e ∙ ap (λ l. list_all is_within (output_values l)) (drop_all i xs over)

-- The list of encoded outputs, extended by one output.
pub encoded_more : (whole : List NamedFile) (writes more : List Write) (write : Write) (output : Output) (outputs rest : List Output) → more ≡ writes ++ write ∷ [] → outputs ≡ output ∷ rest → write_entry write ≡ spelled_output (output_value output)
    → write_entries writes ++ map spelled_output (output_values outputs) ≡ whole → write_entries more ++ map spelled_output (output_values rest) ≡ whole
encoded_more whole writes more write output outputs rest added first is e =
    ap (λ l. write_entries l ++ map spelled_output (output_values rest)) added
    ∙ entries_more writes write (map spelled_output (output_values rest))
    ∙ ap (λ w. write_entries writes ++ w ∷ map spelled_output (output_values rest)) is
    ∙ ap (λ l. write_entries writes ++ map spelled_output (output_values l)) (sym first) ∙ e
  where
    entries_more : (ws : List Write) (w : Write) (es : List NamedFile) → write_entries (ws ++ w ∷ []) ++ es ≡ write_entries ws ++ write_entry w ∷ es
    entries_more [] w es = refl
    entries_more (x ∷ ws) w es = ap (λ (l : List NamedFile). write_entry x ∷ l) (entries_more ws w es)

pub all_encoded : (whole : List NamedFile) (writes : List Write) (outputs : List Output) → length outputs ≡ 0 → write_entries writes ++ map spelled_output (output_values outputs) ≡ whole → write_entries writes ≡ whole
all_encoded whole writes [] none e = sym (append-nil (write_entries writes)) ∙ e
all_encoded whole writes (x ∷ outputs) none e = absurd (omega arith)
