-- An array has fewer items than its text has bytes.
use Rattle.base_lists.proofs.Common.{◌≡◌, ap, refl, ℕ, zero, suc, ◌+◌, ◌<◌, ◌≤◌, List, [], ◌∷◌, length, Option, Some, None, Bool, true, false, cond, subst, arith, option_map, option_and_then}
use Rattle.json.specs.Json as json
use Rattle.json.specs.Token.{Token}
use Rattle.json.specs.Lex.{Lexeme, token, comma, colon, Class, quote, backslash, operator, space, other, class, Mode, between, in_word, in_string, in_escape, lex_byte, lex, Place, fresh, after_value, after_comma, after_key, begins_colon, may_begin, may_close, if_allowed, place_token, punctuate}
use Rattle.json.specs.Lex.{tokens}
use Rattle.serde_json.specs.Data as datum
use Rattle.serde_json.specs.Events.{items_len}
use Rattle.serde_json.specs.Find.{as_array}
use Rattle.serde_json.specs.Read.{read, of_json, of_items, of_members, number_of, max_depth}
use Rattle.serde_json.specs.View.{items_view}
use Rattle.serde_json.specs.declared.value.Value.{Value}
use Rattle.serde_json.proofs.Views.{items_len-items_view}

-- ---- from bytes to tokens ----

lex_step : (m : Mode) (c : Class) (x : ℕ) (xs : List ℕ) (k : Mode → List Lexeme) (n : ℕ) → ((next : Mode) → length (k next) ≤ n) → length (lex_byte m c x xs k) ≤ suc n
lex_step between quote x xs k n h = let l = h in_string in omega (arith, l)
lex_step between backslash x xs k n h = let l = h in_word in omega (arith, l)
lex_step between operator x xs k n h = let l = h between in omega (arith, l)
lex_step between space x xs k n h = let l = h between in omega (arith, l)
lex_step between other x xs k n h = let l = h in_word in omega (arith, l)
lex_step in_word quote x xs k n h = let l = h in_word in omega (arith, l)
lex_step in_word backslash x xs k n h = let l = h in_word in omega (arith, l)
lex_step in_word operator x xs k n h = let l = h between in omega (arith, l)
lex_step in_word space x xs k n h = let l = h between in omega (arith, l)
lex_step in_word other x xs k n h = let l = h in_word in omega (arith, l)
lex_step in_string quote x xs k n h = let l = h between in omega (arith, l)
lex_step in_string backslash x xs k n h = let l = h in_escape in omega (arith, l)
lex_step in_string operator x xs k n h = let l = h in_string in omega (arith, l)
lex_step in_string space x xs k n h = let l = h in_string in omega (arith, l)
lex_step in_string other x xs k n h = let l = h in_string in omega (arith, l)
lex_step in_escape c x xs k n h = let l = h in_string in omega (arith, l)

lex_long : (m : Mode) (xs : List ℕ) → length (lex m xs) ≤ length xs
unfolding lex
lex_long m [] = omega arith
lex_long m (x ∷ xs) = lex_step m (class x) x xs (λ next. lex next xs) (length xs) (λ next. lex_long next xs)

allowed_long : (b : Bool) (t : Token) (k : Place → List Token) (next : Place) (n : ℕ) → length (k next) ≤ n → length (if_allowed b t k next) ≤ suc n
allowed_long true t k next n h = omega (arith, h)
allowed_long false t k next n h = omega arith

token_long : (p : Place) (t : Token) (before_colon : Bool) (k : Place → List Token) (n : ℕ) → length (k fresh) ≤ n → length (k after_value) ≤ n → (before_colon ≡ true → length (k after_key) ≤ n) → length (place_token p t before_colon k) ≤ suc n
token_long p Token.begin_object b k n f v h = allowed_long (may_begin p) Token.begin_object k fresh n f
token_long p Token.end_object b k n f v h = allowed_long (may_close p) Token.end_object k after_value n v
token_long p Token.begin_array b k n f v h = allowed_long (may_begin p) Token.begin_array k fresh n f
token_long p Token.end_array b k n f v h = allowed_long (may_close p) Token.end_array k after_value n v
token_long p (Token.key s) b k n f v h = omega arith
token_long p (Token.string s) true k n f v h = allowed_long (may_begin p) (Token.key s) k after_key n (h refl)
token_long p (Token.string s) false k n f v h = allowed_long (may_begin p) (Token.string s) k after_value n v
token_long p (Token.number s) b k n f v h = allowed_long (may_begin p) (Token.number s) k after_value n v
token_long p (Token.boolean t) b k n f v h = allowed_long (may_begin p) (Token.boolean t) k after_value n v
token_long p Token.null b k n f v h = allowed_long (may_begin p) Token.null k after_value n v
token_long p Token.bad b k n f v h = omega arith

-- The number of tokens besides the lexemes: one fault if the text ends behind a comma or a key.
abbrev slack : Place → List Lexeme → ℕ
slack fresh ls = 0
slack after_value ls = 0
slack after_comma ls = 1
slack after_key ls = cond (begins_colon ls) 0 1

before_colon_long : (ls : List Lexeme) (n : ℕ) → n ≤ length ls + slack after_key ls → begins_colon ls ≡ true → n ≤ length ls
before_colon_long ls n h e = let k = rw e at h in omega (arith, k)

punctuate_long : (p : Place) (ls : List Lexeme) → length (punctuate p ls) ≤ length ls + slack p ls
unfolding punctuate
punctuate_long fresh [] = omega arith
punctuate_long after_value [] = omega arith
punctuate_long after_comma [] = omega arith
punctuate_long after_key [] = omega arith
punctuate_long fresh (token t ∷ ls) =
    let f = punctuate_long fresh ls in
    let v = punctuate_long after_value ls in
    let all = token_long fresh t (begins_colon ls) (λ next. punctuate next ls) (length ls) (omega (arith, f)) (omega (arith, v)) (before_colon_long ls _ (punctuate_long after_key ls)) in
    omega (arith, all)
punctuate_long after_value (token t ∷ ls) =
    let f = punctuate_long fresh ls in
    let v = punctuate_long after_value ls in
    let all = token_long after_value t (begins_colon ls) (λ next. punctuate next ls) (length ls) (omega (arith, f)) (omega (arith, v)) (before_colon_long ls _ (punctuate_long after_key ls)) in
    omega (arith, all)
punctuate_long after_comma (token t ∷ ls) =
    let f = punctuate_long fresh ls in
    let v = punctuate_long after_value ls in
    let all = token_long after_comma t (begins_colon ls) (λ next. punctuate next ls) (length ls) (omega (arith, f)) (omega (arith, v)) (before_colon_long ls _ (punctuate_long after_key ls)) in
    omega (arith, all)
punctuate_long after_key (token t ∷ ls) =
    let f = punctuate_long fresh ls in
    let v = punctuate_long after_value ls in
    let all = token_long after_key t (begins_colon ls) (λ next. punctuate next ls) (length ls) (omega (arith, f)) (omega (arith, v)) (before_colon_long ls _ (punctuate_long after_key ls)) in
    omega (arith, all)
punctuate_long fresh (comma ∷ ls) = omega arith
punctuate_long after_value (comma ∷ ls) = let l = punctuate_long after_comma ls in omega (arith, l)
punctuate_long after_comma (comma ∷ ls) = omega arith
punctuate_long after_key (comma ∷ ls) = omega arith
punctuate_long fresh (colon ∷ ls) = omega arith
punctuate_long after_value (colon ∷ ls) = omega arith
punctuate_long after_comma (colon ∷ ls) = omega arith
punctuate_long after_key (colon ∷ ls) = let l = punctuate_long fresh ls in omega (arith, l)

tokens_long : (text : List ℕ) → length (tokens text) ≤ length text
tokens_long text = let a = punctuate_long fresh (lex between text) in let b = lex_long between text in omega (arith, a, b)

-- ---- from tokens to items ----

abbrev count : json.Items → ℕ
count json.no_items = 0
count (json.item j js) = suc (count js)

-- Fewer items were parsed than the fuel allows.
abbrev Few : ℕ → Option (json.Items × List Token) → Type 0
Few n None = Unit {0}
Few n (Some p) = count p.0 < n

item_few : (j : json.Json) (n : ℕ) (r : Option (json.Items × List Token)) → Few n r → Few (suc n) (json.parse_map (json.item j) r)
item_few j n None h = tt
item_few j n (Some p) h = omega (arith, h)

rest_few : (n : ℕ) (more : json.Parse json.Items) → ((ts : List Token) → Few n (more ts)) → (r : Option (json.Json × List Token)) → Few (suc n) (option_and_then (λ p. json.parse_map (json.item p.0) (more p.1)) r)
rest_few n more h None = tt
rest_few n more h (Some p) = item_few p.0 n (more p.1) (h p.1)

step_few : (value : json.Parse json.Json) (n : ℕ) (more : json.Parse json.Items) (ts : List Token) → ((us : List Token) → Few n (more us)) → (o : Option (List Token)) → Few (suc n) (json.items_step value more ts o)
step_few value n more ts h (Some end) = omega arith
step_few value n more ts h None = rest_few n more h (value ts)

items_few : (value : json.Parse json.Json) (n : ℕ) (ts : List Token) → Few n (json.items value n ts)
unfolding json.items
items_few value zero ts = tt
items_few value (suc n) ts = step_few value n (json.items value n) ts (items_few value n) (json.after_end_array ts)

-- The number of items of an array, and 0 for any other value.
abbrev items_in : json.Json → ℕ
items_in json.null = 0
items_in (json.boolean b) = 0
items_in (json.number s) = 0
items_in (json.string s) = 0
items_in (json.array js) = count js
items_in (json.object ms) = 0

abbrev FewIn : ℕ → Option (json.Json × List Token) → Type 0
FewIn n None = Unit {0}
FewIn n (Some p) = items_in p.0 ≤ n

array_few : (n : ℕ) (r : Option (json.Items × List Token)) → Few n r → FewIn (suc n) (json.parse_map json.array r)
array_few n None h = tt
array_few n (Some p) h = omega (arith, h)

object_few : (n : ℕ) (r : Option (json.Members × List Token)) → FewIn n (json.parse_map json.object r)
object_few n None = tt
object_few n (Some p) = omega arith

with_few : (a : json.Parse json.Items) (o : json.Parse json.Members) (ts : List Token) → ((us : List Token) → Few (length us) (a us)) → FewIn (length ts) (json.value_with a o ts)
with_few a o [] h = tt
with_few a o (Token.begin_object ∷ ts) h = object_few (suc (length ts)) (o ts)
with_few a o (Token.end_object ∷ ts) h = tt
with_few a o (Token.begin_array ∷ ts) h = array_few (length ts) (a ts) (h ts)
with_few a o (Token.end_array ∷ ts) h = tt
with_few a o (Token.key s ∷ ts) h = tt
with_few a o (Token.string s ∷ ts) h = omega arith
with_few a o (Token.number s ∷ ts) h = omega arith
with_few a o (Token.boolean b ∷ ts) h = omega arith
with_few a o (Token.null ∷ ts) h = omega arith
with_few a o (Token.bad ∷ ts) h = tt

value_few : (depth : ℕ) (ts : List Token) → FewIn (length ts) (json.value (suc depth) ts)
unfolding json.value
value_few depth ts = with_few (λ us. json.items (json.value depth) (length us) us) (λ us. json.members (json.value depth) (length us) us) ts (λ us. items_few (json.value depth) (length us) us)

-- ---- from items to values ----

abbrev data_items : datum.Data → ℕ
data_items datum.null = 0
data_items (datum.boolean b) = 0
data_items (datum.number n) = 0
data_items (datum.string s) = 0
data_items (datum.array ds) = items_len ds
data_items (datum.object ms) = 0

abbrev FewData : ℕ → Option datum.Data → Type 0
FewData n None = Unit {0}
FewData n (Some d) = data_items d ≤ n

abbrev AsMany : ℕ → Option datum.Items → Type 0
AsMany n None = Unit {0}
AsMany n (Some ds) = items_len ds ≡ n

one_more_item : (n : ℕ) (d : datum.Data) (r : Option datum.Items) → AsMany n r → AsMany (suc n) (option_map (datum.item d) r)
one_more_item n d None h = tt
one_more_item n d (Some ds) h = ap suc h

after_item : (n : ℕ) (r : Option datum.Items) → AsMany n r → (o : Option datum.Data) → AsMany (suc n) (option_and_then (λ d. option_map (datum.item d) r) o)
after_item n r h None = tt
after_item n r h (Some d) = one_more_item n d r h

items_as_many : (js : json.Items) → AsMany (count js) (of_items js)
items_as_many json.no_items = refl
items_as_many (json.item j js) = after_item (count js) (of_items js) (items_as_many js) (of_json j)

of_array : (n : ℕ) (r : Option datum.Items) → AsMany n r → FewData n (option_map datum.array r)
of_array n None h = tt
of_array n (Some ds) h = omega (arith, h)

of_number : (r : Option datum.Num) → FewData 0 (option_map datum.number r)
of_number None = tt
of_number (Some x) = omega arith

of_object : (r : Option datum.Members) → FewData 0 (option_map datum.object r)
of_object None = tt
of_object (Some x) = omega arith

of_json_few : (j : json.Json) → FewData (items_in j) (of_json j)
of_json_few json.null = omega arith
of_json_few (json.boolean b) = omega arith
of_json_few (json.number s) = of_number (number_of s)
of_json_few (json.string s) = omega arith
of_json_few (json.array js) = of_array (count js) (of_items js) (items_as_many js)
of_json_few (json.object ms) = of_object (of_members ms datum.no_members)

fewer : (n m : ℕ) (o : Option datum.Data) → FewData n o → n ≤ m → FewData m o
fewer n m None h le = tt
fewer n m (Some d) h le = omega (arith, h)

last_few : (n : ℕ) (j : json.Json) (ts : List Token) → items_in j ≤ n → FewData n (option_and_then of_json (json.if_last j ts))
last_few n j [] h = fewer (items_in j) n (of_json j) (of_json_few j) h
last_few n j (t ∷ ts) h = tt

parsed_few : (n : ℕ) (r : Option (json.Json × List Token)) → FewIn n r → FewData n (option_and_then of_json (option_and_then (λ p. json.if_last p.0 p.1) r))
parsed_few n None h = tt
parsed_few n (Some p) h = last_few n p.0 p.1 h

read_few : (text : List ℕ) → FewData (length text) (read text)
read_few text = fewer (length (tokens text)) (length text) (read text) (parsed_few (length (tokens text)) (json.value max_depth (tokens text)) (value_few 126 (tokens text))) (tokens_long text)

abbrev items_of_option : Option datum.Items → ℕ
items_of_option None = 0
items_of_option (Some ds) = items_len ds

array_items : (d : datum.Data) (ds : datum.Items) → Some ds ≡ as_array d → items_len ds ≡ data_items d
array_items datum.null ds e = cc
array_items (datum.boolean b) ds e = cc
array_items (datum.number n) ds e = cc
array_items (datum.string s) ds e = cc
array_items (datum.array es) ds e = ap items_of_option e
array_items (datum.object ms) ds e = cc

pub few_items : (text : List ℕ) (d : datum.Data) (vs : List Value) → read text ≡ Some d → Some (items_view vs) ≡ as_array d → length vs ≤ length text
few_items text d vs is items =
    let few : data_items d ≤ length text = subst (FewData (length text)) is (read_few text) in
    omega (arith, few, array_items d (items_view vs) items, items_len-items_view vs)
