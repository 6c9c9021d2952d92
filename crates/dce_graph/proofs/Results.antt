-- The result of reading a graph file, from the result of each stage of reading.
use Rattle.base_lists.proofs.Common.{◌≡◌, ◌∙◌, sym, ap, refl, ℕ, List, map, Option, Some, None, Bool, true, false, cond, subst, Ok, ◌⊎◌, inl, inr, IsUtf8, option_map, filter_map, is_utf8, IsUtf8-from_is_utf8, is_utf8-from_IsUtf8}
use Rattle.serde_json.specs.Data.{Data}
use Rattle.serde_json.specs.Find.{as_array}
use Rattle.serde_json.specs.Read.{read}
use Rattle.serde_json.specs.View.{view, items_view}
use Rattle.serde_json.specs.declared.value.Value.{Value}
use Rattle.dce_graph.specs.declared.fault.GraphFault.{GraphFault}
use Rattle.dce_graph.specs.declared.fault.GraphFault.TheVariants.{GraphText, GraphShape, NodeTwice, UnknownNode}
use Rattle.dce_graph.specs.declared.graph.Node.{Node}
use Rattle.dce_graph.specs.Prelude.{Text, entry_of, misshapen, names_of, place_of_name, first_repeated, first_unknown, reached_names, node_of, if_text, graph_result, fault_of}
use Rattle.dce_graph.specs.GraphFile.{GraphEntry, value_of, if_shaped, if_distinct, if_known, if_array, graph_of_values, IsFault}
use Rattle.dce_graph.proofs.Texts.{listed_items}

-- A fault of one stage is a fault of the whole reading if each fault of that stage is.
pub fault_stays : (e : GraphFault) (o p : Option GraphFault) → ((f : GraphFault) → o ≡ Some f → p ≡ Some f) → IsFault e o → IsFault e p
fault_stays GraphFault.NoMemory o p on h = tt
fault_stays GraphText o p on h = on GraphText h
fault_stays (GraphShape n) o p on h = on (GraphShape n) h
fault_stays (NodeTwice t) o p on h = on (NodeTwice t) h
fault_stays (UnknownNode t) o p on h = on (UnknownNode t) h

-- Look-ups that give equal results are equal functions.
same_look_ups : (f g : Text → Option ℕ) → ((q : Text) → f q ≡ g q) → f ≡ g
same_look_ups f g h = λ i q. h q i

pub values_come : (ds : List Data) (es : List GraphEntry) (f : Text → Option ℕ) → misshapen ds ≡ None → es ≡ filter_map entry_of ds → first_repeated (names_of es) ≡ None → ((q : Text) → f q ≡ place_of_name (names_of es) q)
    → graph_of_values ds ≡ if_known (first_unknown f (reached_names es)) (record { nodes = map (node_of f) es })
values_come ds es f shaped are distinct places =
    ap (λ o. if_shaped o (filter_map entry_of ds)) shaped
    ∙ ap (λ (xs : List GraphEntry). if_distinct (first_repeated (names_of xs)) xs) (sym are)
    ∙ ap (λ o. if_distinct o es) distinct
    ∙ ap (λ (g : Text → Option ℕ). if_known (first_unknown g (reached_names es)) (record { nodes = map (node_of g) es })) (sym (same_look_ups f (place_of_name (names_of es)) places))

pub known_come : (o : Option Text) (nodes made : List Node) → o ≡ None → nodes ≡ made → if_known o (record { nodes = made }) ≡ Ok (record { nodes = nodes })
known_come o nodes made known are = ap (λ p. if_known p (record { nodes = made })) known ∙ ap (λ xs. Ok (record { nodes = xs })) (sym are)

pub unknown_comes : (o : Option Text) (made : List Node) (f : GraphFault) → option_map UnknownNode o ≡ Some f → fault_of (if_known o (record { nodes = made })) ≡ Some f
unknown_comes None made f h = cc
unknown_comes (Some t) made f h = h

-- Bytes that are not UTF-8 or not JSON have no value.
pub no_value : (bytes : List ℕ) → (IsUtf8 bytes → read bytes ≡ None) → value_of bytes ≡ None
no_value bytes h = by (is_utf8 bytes) refl
  where
    by : (b : Bool) → is_utf8 bytes ≡ b → cond b (read bytes) None ≡ None
    by true e = h (IsUtf8-from_is_utf8 bytes e)
    by false e = refl

pub value_is : (bytes : List ℕ) (d : Data) → IsUtf8 bytes → read bytes ≡ Some d → value_of bytes ≡ Some d
value_is bytes d utf8 is = ap (λ b. cond b (read bytes) None) (is_utf8-from_IsUtf8 bytes utf8) ∙ is

pub result_of_values : (bytes : List ℕ) (d : Data) (vs : List Value) → IsUtf8 bytes → read bytes ≡ Some d → Some (items_view vs) ≡ as_array d → graph_result bytes ≡ graph_of_values (map view vs)
result_of_values bytes d vs utf8 is items =
    ap if_text (value_is bytes d utf8 is) ∙ ap if_array (sym items) ∙ ap graph_of_values (listed_items (map view vs))

-- An error of the reading of JSON is a fault of the graph file.
pub text_comes : (bytes : List ℕ) (e : GraphFault) (N : Type 0) → (e ≡ GraphFault.NoMemory) ⊎ ((e ≡ GraphText) × N) → (N → IsUtf8 bytes → read bytes ≡ None) → IsFault e (fault_of (graph_result bytes))
text_comes bytes e N (inl is) h = subst (λ x. IsFault x (fault_of (graph_result bytes))) (sym is) tt
text_comes bytes e N (inr is) h = subst (λ x. IsFault x (fault_of (graph_result bytes))) (sym is.0) (ap (λ o. fault_of (if_text o)) (no_value bytes (h is.1)))

-- A value that is no array gives the fault of the shape at place 0.
pub no_array_comes : (bytes : List ℕ) (d : Data) → IsUtf8 bytes → read bytes ≡ Some d → None ≡ as_array d → fault_of (graph_result bytes) ≡ Some (GraphShape 0)
no_array_comes bytes d utf8 is none = ap (λ o. fault_of (if_text o)) (value_is bytes d utf8 is) ∙ ap (λ o. fault_of (if_array o)) (sym none)
