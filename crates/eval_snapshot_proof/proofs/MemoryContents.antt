-- The memory of a snapshot: the segments of its contents, copied over zeros, give the bytes.
use Rattle.base_lists.proofs.Common.{◌≡◌, ◌∙◌, sym, ap, refl, ℕ, zero, suc, ◌+◌, ◌-◌, ◌<◌, ◌≤◌, ◌^◌, List, [], ◌∷◌, map, length, Option, Some, inl, inr, arith, slice_get, ℤ, get_or, cases_lt, eq-eqb, lt-ltb, le-ltb, ext_get_or}
use Rattle.std.proofs.Math.Nat.{mod-eq_of_lt}
use Rattle.block_pool.specs.Pages.{part}
use Rattle.wasm_tree_spec.specs.Prelude.{ConstExpr}
use Rattle.wasm_tree.specs.declared.module.ConstExpr.TheVariants as const
use Rattle.wasm_num.specs.Operations.{W32, signed, wrapped}
use Rattle.wasm_meaning.specs.Prelude.{overwrite, copies, Val, Num, Inst}
use Rattle.world_simulation.specs.InstantiatedStores.{Copy, over, all_over, data_copy, data_copies}
use Rattle.world_simulation.specs.InstantiatedStores as leaves
use Rattle.eval_snapshot_spec.specs.Contents.{Stretch, contents, stretch_segment, stretches}
use Rattle.eval_snapshot_proof.proofs.ContentsSegments.{Covered, InBounds, Written, here, behind, part_written, stretches_fit, zero_or_covered}

-- ---- offsets ----

pub unsigned_again : (n : ℕ) → n < 2 ^ 32 → wrapped 32 (signed 32 n) ≡ n
unfolding signed wrapped
unsigned_again n lt = elim (cases_lt n (2 ^ 31)) [
  | inl low ↦ rw (lt-ltb n (2 ^ 31) low) (mod-eq_of_lt lt)
  | inr high ↦ rw (le-ltb n (2 ^ 31) high, lt-ltb n (2 ^ 32) lt) (omega (arith, lt))
]

-- ---- one segment after the other ----

zero_everywhere : (n i : ℕ) → get_or (copies {A = ℕ} n 0) i 0 ≡ 0
zero_everywhere zero i = refl
zero_everywhere (suc n) zero = refl
zero_everywhere (suc n) (suc i) = zero_everywhere n i

so_many : (n : ℕ) → length (copies {A = ℕ} n 0) ≡ n
so_many zero = refl
so_many (suc n) = ap suc (so_many n)

module _ (value : ConstExpr → Option Val) (i : Inst) (memory a : ℕ) (there : slice_get i.mems memory ≡ Some a) (numbers : (v : ℤ) → value (const.I32 v) ≡ Some (Num W32 (wrapped 32 v))) (bytes : List ℕ) (small : length bytes ≤ 2 ^ 32) where
  abbrev copy_of : Stretch → Copy ℕ
  copy_of s = data_copy value i (stretch_segment memory bytes s) (stretch_segment memory bytes s).mode

  copy_is : (s : Stretch) → s.first < 2 ^ 32 → copy_of s ≡ leaves.contents (Some a) (Some s.first) (Some (part bytes s.first (suc s.last - s.first)))
  copy_is s lt = rw (there, numbers (signed 32 s.first), unsigned_again s.first lt) refl

  here_it_is : (place : ℕ) (xs ys : List ℕ) → over a (leaves.contents (Some a) (Some place) (Some ys)) xs ≡ overwrite xs place ys
  here_it_is place xs ys = rw (eq-eqb a a refl) refl

  one_copied : (s : Stretch) (xs : List ℕ) → length xs ≡ length bytes → s.first ≤ s.last → s.last < length bytes → Written (λ k. (s.first ≤ k) × (k < s.first + (suc s.last - s.first))) xs bytes (over a (copy_of s) xs)
  one_copied s xs same le lt =
      let w = part_written xs bytes s.first (suc s.last - s.first) same (omega (arith, le, lt)) in
      record { now = w.now; is = ap (λ c. over a c xs) (copy_is s (omega (arith, le, lt, small))) ∙ here_it_is s.first xs (part bytes s.first (suc s.last - s.first)) ∙ w.is; size = w.size; agrees = w.agrees }

  all_copied : (ss : List Stretch) (xs : List ℕ) → length xs ≡ length bytes → InBounds (length bytes) ss → Written (λ k. Covered k ss) xs bytes (all_over a (data_copies value i (map (stretch_segment memory bytes) ss)) xs)
  all_copied [] xs same h = record {
    now = xs;
    is = refl;
    size = same;
    agrees = λ k q. elim q [
      | inl old ↦ old
      | inr none ↦ elim none [ ]
    ];
  }
  all_copied (s ∷ ss) xs same h =
      let w = one_copied s xs same (h.0) (h.1) in
      let r = all_copied ss w.now w.size (h.2) in
      record {
        now = r.now;
        is = rw (w.is) r.is;
        size = r.size;
        agrees = λ k q. elim q [
          | inl old ↦ r.agrees k (inl (w.agrees k (inl old)))
          | inr (here le lt) ↦ let first = h.0 in r.agrees k (inl (w.agrees k (inr (le, omega (arith, lt, first)))))
          | inr (behind c) ↦ r.agrees k (inr c)
        ];
      }

  -- The segments of the contents of a memory, copied over as many zeros, give its bytes.
  pub contents_stand : all_over a (data_copies value i (contents memory bytes)) (copies {A = ℕ} (length bytes) 0) ≡ Some bytes
  contents_stand =
      let w = all_copied (stretches bytes) (copies {A = ℕ} (length bytes) 0) (so_many (length bytes)) (stretches_fit bytes) in
      let size = w.size in
      w.is ∙ ap Some (ext_get_or 0 w.now bytes size (λ k lt. w.agrees k (elim (zero_or_covered bytes k (omega (arith, lt, size))) [
        | inl none ↦ inl (zero_everywhere (length bytes) k ∙ sym none)
        | inr c ↦ inr c
      ])))
