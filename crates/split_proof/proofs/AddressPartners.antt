-- The relation of addresses is one to one, and relates each of the environment's own entities to
-- itself.
use Rattle.base_lists.proofs.Common.{◌≡◌, ◌∙◌, ap, sym, refl, ℕ, ◌+◌, ◌-◌, ◌<◌, ◌≤◌, ◌&&◌, List, length, drop, Bool, true, false, cond, nat_eq, nat_lt, arith, slice_index, map, lt-ltb, ltb-true, eqb-true, nat_tests, length-append, length-map, left_true, right_true, and_from}
use Rattle.std.proofs.Common.{eq-eqb}
use Rattle.base_kept.specs.Kept.{is_marked, kept_before}
use Rattle.base_kept.proofs.Laws.{marked_apart}
use Rattle.wasm_tree_spec.specs.Prelude.{Space, Types, Functions, Tables, Memories, Globals, ElementSegments, DataSegments, Module, imported_funcs, funcs_of}
use Rattle.wasm_meaning.specs.Prelude.{Environment, own_count, defined_count}
use Rattle.run_simulation.specs.Prelude.{OneToOne}
use Rattle.world_simulation.specs.Prelude.{SharesOwn}
use Rattle.split_spec.specs.Prelude.{is_left, left_marks, primary_map}
use Rattle.split_proof.specs.Premises.{CanMove}
use Rattle.split_proof.proofs.PrimarySpaces as spaces
use Rattle.wasm_valid.specs.Prelude.{ItemsHold}
use Rattle.split_proof.specs.Addresses.{is_left_at, is_partner, split_pairing}

-- ---- spaces of which each address stays ----

abbrev pub is_else : Space → Bool
is_else Functions = false
is_else _ = true

-- ---- functions ----

-- The place of a function that is left among the functions that the primary module defines.
abbrev pub place_left : Module → (moved : List ℕ) → ℕ → ℕ
place_left m moved n = kept_before (drop (length (imported_funcs m.imports)) (left_marks m moved)) n

pub data LeftAt (env : Environment) (m : Module) (moved : List ℕ) (a b : ℕ) : Type 0 where
  own_stays : a < own_count Functions env → a ≡ b → LeftAt env m moved a b
  goes : (n : ℕ) → a ≡ own_count Functions env + n → n < length m.funcs → is_left m moved (length (imported_funcs m.imports) + n) ≡ true → b ≡ own_count Functions env + (length moved + place_left m moved n) → LeftAt env m moved a b

module _ (namespace : ℕ → List ℕ) (prefix : List ℕ) (m : Module) (holds : ItemsHold m) (moved : List ℕ) (can : CanMove m moved) where
  abbrev k : ℕ
  k = length (imported_funcs m.imports)

  pub funcs_many : length (funcs_of m) ≡ k + length m.funcs
  funcs_many =
      let all = length-append (imported_funcs m.imports) (map (λ f. f.ty) m.funcs) in
      let defined = length-map m.funcs (λ f. f.ty) in
      omega (arith, all, defined)

  -- The entry of a defined function.
  pub entry_is : (n : ℕ) → n < length m.funcs → slice_index (primary_map m moved).funcs (k + n) ≡ length moved + (k + place_left m moved n)
  entry_is n lt = let all = funcs_many in spaces.defined_index namespace prefix m holds moved can n (omega (arith, lt, all))

  pub left_marked : (n : ℕ) → n < length m.funcs → is_left m moved (k + n) ≡ true → is_marked (drop k (left_marks m moved)) n ≡ true
  left_marked n lt h = let all = funcs_many in spaces.left_marked namespace prefix m holds moved can n (omega (arith, lt, all)) h

  module _ (env : Environment) where
    abbrev O : ℕ
    O = own_count Functions env

    pub left_is : (a b : ℕ) → is_left_at env m moved a b ≡ true → LeftAt env m moved a b
    left_is a b h = by (nat_lt a O) refl h
      where
        by : (c : Bool) → nat_lt a O ≡ c → cond c (nat_eq a b) (nat_lt (a - O) (length m.funcs) && (is_left m moved (k + (a - O)) && nat_eq (k + b) (O + slice_index (primary_map m moved).funcs (k + (a - O))))) ≡ true → LeftAt env m moved a b
        by true e h = own_stays (ltb-true a O e) (eqb-true a b h)
        by false e h =
            let low : O ≤ a = grind (arith, nat_tests, e) in
            let n = a - O in
            let rest = right_true (nat_lt n (length m.funcs)) _ h in
            let lt = ltb-true n (length m.funcs) (left_true (nat_lt n (length m.funcs)) _ h) in
            let same = eqb-true (k + b) (O + slice_index (primary_map m moved).funcs (k + n)) (right_true (is_left m moved (k + n)) _ rest) in
            let entry = entry_is n lt in
            goes n (omega (arith, low)) lt (left_true (is_left m moved (k + n)) _ rest) (omega (arith, same, entry))

    pub is_left_there : (a b : ℕ) → LeftAt env m moved a b → is_left_at env m moved a b ≡ true
    is_left_there a b (own_stays l e) = grind (arith, nat_tests)
    is_left_there a b (goes n e lt h f) =
        let z : a - O ≡ n = omega (arith, e) in
        let high : nat_lt a O ≡ false = grind (arith, nat_tests) in
        let entry = entry_is n lt in
        rw (high, z, lt-ltb n (length m.funcs) lt, h) (eq-eqb (k + b) (O + slice_index (primary_map m moved).funcs (k + n)) (omega (arith, entry, f)))

    left_right : {a b c : ℕ} → LeftAt env m moved a b → LeftAt env m moved a c → b ≡ c
    left_right (own_stays l e) (own_stays q f) = sym e ∙ f
    left_right (own_stays l e) (goes n d lt h f) = absurd (omega arith)
    left_right (goes n d lt h f) (own_stays l e) = absurd (omega arith)
    left_right (goes n d lt h f) (goes x e q g i) = let same : n ≡ x = omega arith in f ∙ ap (λ n. O + (length moved + place_left m moved n)) same ∙ sym i

    left_left : {a b c : ℕ} → LeftAt env m moved a c → LeftAt env m moved b c → a ≡ b
    left_left (own_stays l e) (own_stays q f) = e ∙ sym f
    left_left (own_stays l e) (goes n d lt h f) = absurd (omega arith)
    left_left (goes n d lt h f) (own_stays l e) = absurd (omega arith)
    left_left (goes n d lt h f) (goes x e q g i) =
        let same = marked_apart (drop k (left_marks m moved)) n x (left_marked n lt h) (left_marked x q g) (omega (arith, f, i)) in
        omega (arith, same, d, e)

    -- ---- other spaces ----

    same_address : (bound a b : ℕ) → nat_eq a b && nat_lt a bound ≡ true → (a ≡ b) × (a < bound)
    same_address bound a b h = (eqb-true a b (left_true (nat_eq a b) _ h), ltb-true a bound (right_true (nat_eq a b) _ h))

    address_same : (bound a : ℕ) → a < bound → nat_eq a a && nat_lt a bound ≡ true
    address_same bound a lt = and_from (nat_eq a a) (nat_lt a bound) (eq-eqb a a refl) (lt-ltb a bound lt)

    pub partner_is : (space : Space) → is_else space ≡ true → (a b : ℕ) → is_partner env m moved space a b ≡ true → (a ≡ b) × (a < own_count space env + defined_count space m)
    partner_is Functions e a b h = absurd (let f : false ≡ true = e in cc)
    partner_is Types e a b h = same_address _ a b h
    partner_is Tables e a b h = same_address _ a b h
    partner_is Memories e a b h = same_address _ a b h
    partner_is Globals e a b h = same_address _ a b h
    partner_is ElementSegments e a b h = same_address _ a b h
    partner_is DataSegments e a b h = same_address _ a b h

    pub is_its_partner : (space : Space) → is_else space ≡ true → (a : ℕ) → a < own_count space env + defined_count space m → is_partner env m moved space a a ≡ true
    is_its_partner Functions e a lt = absurd (let f : false ≡ true = e in cc)
    is_its_partner Types e a lt = address_same _ a lt
    is_its_partner Tables e a lt = address_same _ a lt
    is_its_partner Memories e a lt = address_same _ a lt
    is_its_partner Globals e a lt = address_same _ a lt
    is_its_partner ElementSegments e a lt = address_same _ a lt
    is_its_partner DataSegments e a lt = address_same _ a lt

    -- ---- the laws ----

    one_right : (space : Space) (a b c : ℕ) → is_partner env m moved space a b ≡ true → is_partner env m moved space a c ≡ true → b ≡ c
    one_right Functions a b c p q = left_right (left_is a b p) (left_is a c q)
    one_right Types a b c p q = sym (partner_is Types refl a b p).0 ∙ (partner_is Types refl a c q).0
    one_right Tables a b c p q = sym (partner_is Tables refl a b p).0 ∙ (partner_is Tables refl a c q).0
    one_right Memories a b c p q = sym (partner_is Memories refl a b p).0 ∙ (partner_is Memories refl a c q).0
    one_right Globals a b c p q = sym (partner_is Globals refl a b p).0 ∙ (partner_is Globals refl a c q).0
    one_right ElementSegments a b c p q = sym (partner_is ElementSegments refl a b p).0 ∙ (partner_is ElementSegments refl a c q).0
    one_right DataSegments a b c p q = sym (partner_is DataSegments refl a b p).0 ∙ (partner_is DataSegments refl a c q).0

    one_left : (space : Space) (a b c : ℕ) → is_partner env m moved space a c ≡ true → is_partner env m moved space b c ≡ true → a ≡ b
    one_left Functions a b c p q = left_left (left_is a c p) (left_is b c q)
    one_left Types a b c p q = (partner_is Types refl a c p).0 ∙ sym (partner_is Types refl b c q).0
    one_left Tables a b c p q = (partner_is Tables refl a c p).0 ∙ sym (partner_is Tables refl b c q).0
    one_left Memories a b c p q = (partner_is Memories refl a c p).0 ∙ sym (partner_is Memories refl b c q).0
    one_left Globals a b c p q = (partner_is Globals refl a c p).0 ∙ sym (partner_is Globals refl b c q).0
    one_left ElementSegments a b c p q = (partner_is ElementSegments refl a c p).0 ∙ sym (partner_is ElementSegments refl b c q).0
    one_left DataSegments a b c p q = (partner_is DataSegments refl a c p).0 ∙ sym (partner_is DataSegments refl b c q).0

    pub one_to_one : (loaded : List (ℕ × ℕ)) → OneToOne (split_pairing env m moved loaded)
    one_to_one loaded = record { right = λ {k = space} a b c p q. one_right space a b c p q; left = λ {k = space} a b c p q. one_left space a b c p q }

    pub shares_own : (loaded : List (ℕ × ℕ)) → SharesOwn (split_pairing env m moved loaded) env
    shares_own loaded = record {
      funcs = λ a lt. is_left_there a a (own_stays lt refl);
      tables = λ a lt. is_its_partner Tables refl a (omega (arith, lt));
      mems = λ a lt. is_its_partner Memories refl a (omega (arith, lt));
      globals = λ a lt. is_its_partner Globals refl a (omega (arith, lt));
    }
