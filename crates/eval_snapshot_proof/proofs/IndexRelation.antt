-- The relation of indices and the addresses that they denote fulfils the premises of the laws of
-- quiet calls.
use Rattle.base_lists.proofs.Common.{◌≡◌, ◌∙◌, sym, ap, ℕ, ◌+◌, ◌-◌, ◌≤◌, List, [], ◌++◌, length, true, not, ◌&&◌, Option, Some, None, inl, inr, arith, slice_get, IsTrue, nat_lt, and_from, and_parts, eqb-true, lt-ltb, cases_lt, same_Some, slice_get_within, length-numbers, numbers_at, append_right}
use Rattle.std.proofs.lemmas.Bool.{true≢false}
use Rattle.base_lists.specs.Places.{numbers}
use Rattle.wasm_tree_spec.specs.Prelude.{Space, Types, Functions, Tables, Memories, Globals, ElementSegments, DataSegments, Module, same_space}
use Rattle.wasm_meaning.specs.Prelude.{Inst, imports_of}
use Rattle.run_simulation.specs.Prelude.{OneToOneWhereWritten, is_written, passed}
use Rattle.world_simulation.specs.InstantiatedStores.{is_address}
use Rattle.eval_spec.specs.Prelude.{is_imported, own_inst}
use Rattle.eval_proof.specs.KnownQuietSteps.{RelatesAllButImports}
use Rattle.eval_snapshot_proof.specs.QuietRunAddresses.{addresses_in, names_at, stands_at}

-- The addresses of the imports, if any, followed by those of the definitions, which are
-- consecutive.
pub record InARow (m : Module) (i : Inst) (k : Space) : Type 0 where
  pub imported : List ℕ
  pub many : length imported ≤ length (imports_of k m)
  pub base : ℕ
  pub count : ℕ
  pub all : addresses_in i k ≡ imported ++ numbers base count

is_there : (o : Option ℕ) (a : ℕ) → is_address o a ≡ true → o ≡ Some a
is_there None a h = absurd (true≢false (sym h))
is_there (Some b) a h = ap Some (eqb-true b a h)

module _ (m : Module) (i : Inst) where
  pub relates : RelatesAllButImports m (stands_at m i) (names_at m i)
  relates k n a e h = and_from (names_at m i k n a) (not (not (same_space k Functions) && is_imported m k n)) h (ap not e)

  pub names : (k : Space) (n a : ℕ) → IsTrue (names_at m i k n a) → slice_get (addresses_in i k) n ≡ Some a
  names k n a h = is_there (slice_get (addresses_in i k) n) a (and_parts (nat_lt n (length (addresses_in (own_inst m) k))) (is_address (slice_get (addresses_in i k) n) a) h).1

  pub named : (k : Space) (n a : ℕ) → IsTrue (stands_at m i k n a) → slice_get (addresses_in i k) n ≡ Some a
  named k n a h = names k n a (and_parts (names_at m i k n a) (not (not (same_space k Functions) && is_imported m k n)) h).0

  pub defined : (k : Space) → is_written k ≡ true → (n a : ℕ) → IsTrue (stands_at m i k n a) → length (imports_of k m) ≤ n
  defined k w n a h = go k w ((and_parts (names_at m i k n a) (not (not (same_space k Functions) && is_imported m k n)) h).1)
    where
      least : (b : ℕ) → not (nat_lt n b) ≡ true → b ≤ n
      least b q = elim (cases_lt n b) [
        | inl lt ↦ absurd (true≢false (sym (rw (lt-ltb n b lt) at q)))
        | inr le ↦ le
      ]

      go : (k : Space) → is_written k ≡ true → not (not (same_space k Functions) && is_imported m k n) ≡ true → length (imports_of k m) ≤ n
      go Functions w q = absurd (true≢false (sym w))
      go Types w q = least (length (imports_of Types m)) q
      go Tables w q = least (length (imports_of Tables m)) q
      go Memories w q = least (length (imports_of Memories m)) q
      go Globals w q = least (length (imports_of Globals m)) q
      go ElementSegments w q = least (length (imports_of ElementSegments m)) q
      go DataSegments w q = least (length (imports_of DataSegments m)) q

  module _ (rows : (k : Space) → is_written k ≡ true → InARow m i k) where
    -- The address of a definition determines its index.
    place : (k : Space) → (w : is_written k ≡ true) → (n a : ℕ) → IsTrue (stands_at m i k n a) → a + length (rows k w).imported ≡ (rows k w).base + n
    place k w n a h =
        let r = rows k w in
        let le = defined k w n a h in
        let many = r.many in
        let x = n - length r.imported in
        let e : n ≡ length r.imported + x = omega (arith, le, many) in
        let got : slice_get (numbers r.base r.count) x ≡ Some a = sym (append_right r.imported (numbers r.base r.count) x) ∙ ap (slice_get (r.imported ++ numbers r.base r.count)) (sym e) ∙ ap (λ l. slice_get l n) (sym r.all) ∙ named k n a h in
        let within = slice_get_within (numbers r.base r.count) x a got in
        let size = length-numbers r.base r.count in
        let same : r.base + x ≡ a = same_Some (r.base + x) a (sym (numbers_at r.base r.count x (omega (arith, within, size))) ∙ got) in
        omega (arith, same, e)

    -- A definition has none of the addresses before those of the definitions.
    pub past_base : (k : Space) → (w : is_written k ≡ true) → (n a : ℕ) → IsTrue (stands_at m i k n a) → (rows k w).base ≤ a
    past_base k w n a h = let e = place k w n a h in let le = defined k w n a h in let many = (rows k w).many in omega (arith, e, le, many)

    pub apart : OneToOneWhereWritten (passed (stands_at m i) (names_at m i) [])
    apart = record {
      right = λ {k} w n a b p q. same_Some a b (sym (named k n a p) ∙ named k n b q);
      left = λ {k} w n o a p q. let x = place k w n a p in let y = place k w o a q in omega (arith, x, y);
    }
