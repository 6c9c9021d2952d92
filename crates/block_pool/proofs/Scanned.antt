-- The search for a byte that is not zero goes from block to block.
use Rattle.base_lists.proofs.Common.{◌≡◌, ℕ, ◌+◌, ◌-◌, ◌*◌, ◌/◌, ◌%◌, ◌<◌, ◌≤◌, List, length, take, drop, min, slice_index, sym, ap, ◌∙◌, inl, inr, arith, cases_lt, get_or-take, get_or-drop, get_or_past}
use Rattle.std.proofs.Common.{length-take-le, length-drop}
use Rattle.block_pool.specs.Pages.{IsNextNonzero, IsZeroFrom, IsZeroTo}
use Rattle.block_pool.specs.Table.{pages_of, IsBlock, IsZeroBlock}
use Rattle.block_pool.specs.declared.table.Table.{Table}
use Rattle.block_pool.proofs.Written.{size_is}

past : (t : Table) (k : ℕ) → t.size ≤ k → slice_index (pages_of t).now.bytes k ≡ 0
past t k h = get_or_past (pages_of t).now.bytes k 0 (rw (size_is t) h)

module _ (t : Table) (at : ℕ) where
  pub zero_block : IsZeroBlock t (at / 4096) → IsZeroTo (pages_of t).now.bytes at (4096 * (at / 4096) + 4096)
  zero_block zero k f g =
      elim (cases_lt k t.size) [
        | inl h ↦ (let place : 4096 * (at / 4096) + (k - 4096 * (at / 4096)) ≡ k = omega arith in rw place at (zero (k - 4096 * (at / 4096)) (omega arith) (omega arith)))
        | inr h ↦ past t k h
      ]

  module _ (bytes : List ℕ) (end : ℕ) (is : IsBlock t (at / 4096) bytes) (inside : at < t.size) (last : end ≡ min (t.size - (at - at % 4096)) 4096) where
    abbrev rest : List ℕ
    rest = take (end - at % 4096) (drop (at % 4096) bytes)

    rest_size : length rest ≡ end - at % 4096
    rest_size = length-take-le (end - at % 4096) (drop (at % 4096) bytes) (simp length-drop (omega (arith, is.whole, last)))

    in_rest : (i : ℕ) → i < end - at % 4096 → slice_index rest i ≡ slice_index (pages_of t).now.bytes (at + i)
    in_rest i h =
        get_or-take (end - at % 4096) (drop (at % 4096) bytes) i 0 h ∙ (get_or-drop (at % 4096) bytes i 0
        ∙ (is.same (at % 4096 + i) (omega (arith, last)) (omega (arith, last))
        ∙ ap (slice_index (pages_of t).now.bytes) (let e : 4096 * (at / 4096) + (at % 4096 + i) ≡ at + i = omega arith in e)))

    pub found_in : (f : ℕ) → IsNextNonzero (take (end - at % 4096) (drop (at % 4096) bytes)) 0 f → IsNextNonzero (pages_of t).now.bytes at (at + f)
    found_in f n =
        let small : f < end - at % 4096 = rw rest_size at n.inside in
        record {
          behind = omega arith;
          inside = rw (size_is t) (omega (arith, last));
          nonzero = λ e. n.nonzero (in_rest f small ∙ e);
          before = λ k g h.
              (let place : at + (k - at) ≡ k = omega arith in
              rw place at (sym (in_rest (k - at) (omega arith)) ∙ n.before (k - at) (omega arith) (omega arith)));
        }

    pub none_in : IsZeroTo (take (end - at % 4096) (drop (at % 4096) bytes)) 0 (length (take (end - at % 4096) (drop (at % 4096) bytes))) → IsZeroTo (pages_of t).now.bytes at (4096 * (at / 4096) + 4096)
    none_in zero k g h =
        elim (cases_lt k t.size) [
          | inl i ↦
              (let place : at + (k - at) ≡ k = omega arith in
              let small : k - at < end - at % 4096 = omega (arith, last) in
              rw place at (sym (in_rest (k - at) small) ∙ zero (k - at) (omega arith) (rw rest_size small)))
          | inr i ↦ past t k i
        ]

pub found_behind : (xs : List ℕ) (from at found : ℕ) → from ≤ at → IsZeroTo xs from at → IsNextNonzero xs at found → IsNextNonzero xs from found
found_behind xs from at found f zero n = record {
  behind = (let b : at ≤ found = n.behind in omega arith);
  inside = n.inside;
  nonzero = n.nonzero;
  before = λ k g h. elim (cases_lt k at) [ inl i ↦ zero k g i | inr i ↦ n.before k i h ];
}

pub none_behind : (t : Table) (from at : ℕ) → t.size ≤ at → IsZeroTo (pages_of t).now.bytes from at → IsZeroFrom (pages_of t).now.bytes from
none_behind t from at h zero k g = elim (cases_lt k at) [ inl i ↦ zero k g i | inr i ↦ past t k (omega arith) ]
