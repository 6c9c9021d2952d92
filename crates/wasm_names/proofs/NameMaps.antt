-- Reading a name map finds the names that are encoded, and nothing else.
use Rattle.base_lists.proofs.Common.{◌≡◌, ℕ, zero, suc, ◌+◌, ◌≤◌, List, [], ◌∷◌, ◌++◌, length, Ok, ⊎_elim, sym, ap, ◌∙◌, subst, arith, append-nil, le-ltb, eqb-true, IsStrictlyIncreasing, cond_is, bind_ok, ok_pair, err_ok, within_most}
use Rattle.std.proofs.lemmas.List.{nil_from_length}
use Rattle.wasm_bytes.specs.Prelude.{TakesOff, U32, Named, Sized, Vector, IsBytes}
use Rattle.wasm_bytes.proofs.Lists.{small_rest}
use Rattle.wasm_read_spec.specs.declared.fault.Fault.{Fault}
use Rattle.wasm_read_spec.specs.declared.fault.Fault.TheVariants.{Malformed}
use Rattle.wasm_read_spec.specs.Prelude.{Any, u32_at, name_at, sized_at}
use Rattle.wasm_read_spec.specs.Reading.{whole_at}
use Rattle.wasm_read_spec.specs.Exact.{Exact, Along}
use Rattle.wasm_read_spec.proofs.Exact.{took_then, split, each_sound, each_complete}
use Rattle.wasm_names.specs.declared.func_name.FuncName.{FuncName}
use Rattle.wasm_names.specs.NameList.{SpellsFuncName, SpellsNameMap, indices}
use Rattle.wasm_names.specs.Reading.{func_name_at, func_names_at, least_after}

-- The laws on reading numbers, names and sized contents, which the lemmas below use.
pub record ReadsExactly : Type 0 where
  pub numbers : Exact U32 Any u32_at
  pub names : Exact Named Any name_at
  pub sized : Exact Sized Any sized_at

-- ---- one name

abbrev pub NoLess : ℕ → FuncName → Type 0
NoLess least n = least ≤ n.index

pub func_name_exact : ReadsExactly → (least : ℕ) → Exact SpellsFuncName (NoLess least) (func_name_at least)
unfolding func_name_at
func_name_exact reads least = record {
  sound = λ bytes n rest small e.
      let i = bind_ok (u32_at bytes) _ _ e in
      let one = (reads.numbers.sound bytes i.0.0 i.0.1 small i.1).0 in
      let le = within_most Malformed i.0.0 least _ _ i.2 in
      let t = bind_ok (name_at i.0.1) _ _ le.1 in
      let two = (reads.names.sound i.0.1 t.0.0 t.0.1 (small_rest _ bytes i.0.1 small one) t.1).0 in
      let p = ok_pair {E = Fault} (record { index = i.0.0; name = t.0.0 }) n t.0.1 rest t.2 in
      let both = took_then (λ b. U32 b i.0.0) (λ b. Named b t.0.0) bytes i.0.1 t.0.1 one two in
      (subst (TakesOff (λ b. SpellsFuncName b n) bytes) p.1 (subst (λ (z : FuncName). TakesOff (λ b. SpellsFuncName b z) bytes t.0.1) p.0 both), subst (NoLess least) p.0 le.0);
  complete = λ text rest n h k. rw (split _ _ text rest h, reads.numbers.complete h.0 (h.1 ++ rest) n.index h.2 tt, le-ltb n.index least k, reads.names.complete h.1 rest n.name h.3 tt);
}

-- ---- their indices ascend

abbrev pub Rise : List FuncName → Type 0
Rise ns = IsStrictlyIncreasing (indices ns)

rises_more : (n m : FuncName) (ns : List FuncName) → n.index + 1 ≤ m.index → Rise (m ∷ ns) → Rise (n ∷ m ∷ ns)
rises_more n m ns le h zero lt = omega arith
rises_more n m ns le h (suc k) lt = let e : suc k + 1 ≡ suc (k + 1) = omega arith in rw e (h k (omega (arith, ap (λ z. z) e)))

rises_behind : (n m : FuncName) (ns : List FuncName) → Rise (n ∷ m ∷ ns) → Rise (m ∷ ns)
rises_behind n m ns h k lt = let e : suc k + 1 ≡ suc (k + 1) = omega arith in (rw e at (h (suc k) (omega arith)))

rising : (least : ℕ) (ns : List FuncName) → Along NoLess least_after least ns → Rise ns
rising least [] h = λ k lt. absurd (omega arith)
rising least (n ∷ []) h = λ k lt. absurd (omega arith)
rising least (n ∷ m ∷ ns) h = rises_more n m ns h.1.0 (rising (n.index + 1) (m ∷ ns) h.1)

ascending : (least : ℕ) (n : FuncName) (ns : List FuncName) → least ≤ n.index → Rise (n ∷ ns) → Along NoLess least_after least (n ∷ ns)
ascending least n [] le h = (le, tt)
ascending least n (m ∷ ns) le h = (le, ascending (n.index + 1) m ns (omega (arith, h 0 (omega arith))) (rises_behind n m ns h))

all_ascending : (ns : List FuncName) → Rise ns → Along NoLess least_after 0 ns
all_ascending [] h = tt
all_ascending (n ∷ ns) h = ascending 0 n ns (omega arith) h

pub func_names_exact : ReadsExactly → Exact (Vector SpellsFuncName) Rise func_names_at
unfolding func_names_at
func_names_exact reads = record {
  sound = λ bytes ns rest small e.
      let n = bind_ok (u32_at bytes) _ _ e in
      let count = (reads.numbers.sound bytes n.0.0 n.0.1 small n.1).0 in
      let later = each_sound SpellsFuncName NoLess func_name_at least_after (func_name_exact reads) n.0.0 0 n.0.1 ns rest (small_rest _ bytes n.0.1 small count) n.2 in
      (took_then (λ b. U32 b (length ns)) _ bytes n.0.1 rest (subst (λ k. TakesOff (λ b. U32 b k) bytes n.0.1) later.1 count) later.0, rising 0 ns later.2);
  complete = λ text rest ns h k.
      rw (split _ _ text rest h, reads.numbers.complete h.0 (h.1 ++ rest) (length ns) h.2 tt, each_complete SpellsFuncName NoLess func_name_at least_after (func_name_exact reads) ns 0 h.1 rest h.3 (all_ascending ns k));
}

-- ---- and nothing follows

pub map_sound : ReadsExactly → (bytes : List ℕ) (ns : List FuncName) → IsBytes bytes → whole_at func_names_at bytes ≡ Ok ns → SpellsNameMap bytes ns
unfolding whole_at
map_sound reads bytes ns small e =
    let w = bind_ok (func_names_at bytes) _ _ e in
    let t = (func_names_exact reads).sound bytes w.0.0 w.0.1 small w.1 in
    ⊎_elim
    (λ h.
    let all : bytes ≡ t.0.0 = t.0.2 ∙ ap (λ z. t.0.0 ++ z) (nil_from_length w.0.1 (eqb-true (length w.0.1) 0 h.0)) ∙ append-nil t.0.0 in
    let same : w.0.0 ≡ ns = (let k = h.1 in cc) in
    subst (SpellsNameMap bytes) same (subst (λ z. Vector SpellsFuncName z w.0.0) (sym all) t.0.1, t.1))
    (λ h. absurd (err_ok Malformed _ h.1))
    (cond_is _ _ _ _ w.2)

pub map_complete : ReadsExactly → (bytes : List ℕ) (ns : List FuncName) → SpellsNameMap bytes ns → whole_at func_names_at bytes ≡ Ok ns
unfolding whole_at
map_complete reads bytes ns h =
    let e : func_names_at bytes ≡ Ok (ns, []) = subst (λ z. func_names_at z ≡ Ok (ns, [])) (append-nil bytes) ((func_names_exact reads).complete bytes [] ns h.0 h.1) in rw e
