-- One slot of the table is replaced, and the pool changes at blocks that it named or names now.
use Rattle.base_lists.proofs.Common.{◌≡◌, ◌≢◌, ◌⊎◌, ℕ, ◌/◌, ◌%◌, ◌<◌, List, [], length, map, Bool, true, Option, Some, None, is_some, slice_index, slice_set, refl, sym, ap, ap₂, ◌∙◌, inl, inr, arith, fun_ext, cases_eq, get_or-set_same, get_or-set_other}
use Rattle.std.specs.Prelude.{unwrap_or}
use Rattle.std.proofs.Math.Seq.{map-set_same}
use Rattle.base_lists.specs.Places.{numbers}
use Rattle.block_pool.specs.Blocks.{Blocks, held, IsLive}
use Rattle.block_pool.specs.Pages.{Contents}
use Rattle.block_pool.specs.Table.{present, before, older, slot_at, byte_in, byte_at, contents, NamesBlock, Owns}
use Rattle.block_pool.specs.declared.table.Slot.{Slot}
use Rattle.block_pool.specs.declared.table.Slot.TheVariants.{Absent, Kept, New, Changed}

pub before_named : (s : Slot) (b : ℕ) → before s ≡ Some b → NamesBlock s b
before_named Absent b e = cc
before_named (Kept c) b e = inl e
before_named (New c) b e = cc
before_named (Changed c old) b e = inr e

pub record Replaces (pool after : Blocks) (slots : List Slot) (k : ℕ) (s : Slot) : Type 0 where
  pub inside : k < length slots
  pub fresh : (b : ℕ) → NamesBlock s b → NamesBlock (slot_at slots k) b ⊎ (held pool b ≡ None)
  pub live : (b : ℕ) → NamesBlock s b → IsLive after b
  pub others : (b : ℕ) → IsLive pool b → (NamesBlock (slot_at slots k) b → ⊥) → held after b ≡ held pool b
  pub apart : (b : ℕ) → present s ≡ Some b → older s ≡ Some b → ⊥

pub dead : (o : Option (List ℕ)) → is_some o ≡ true → o ≡ None → ⊥
dead None h e = cc
dead (Some v) h e = cc

pub same_contents : {bytes more : List ℕ} {written other : List Bool} → bytes ≡ more → written ≡ other → (let c : Contents = record { bytes = bytes; written = written } in c) ≡ record { bytes = more; written = other }
same_contents p q = ap₂ (λ b w. let c : Contents = record { bytes = b; written = w } in c) p q

module _ (pool after : Blocks) (slots : List Slot) (k : ℕ) (s : Slot) (owns : Owns pool slots) (r : Replaces pool after slots k s) where
  pub here : slot_at (slice_set slots k s) k ≡ s
  here = get_or-set_same slots k s Absent r.inside

  pub there : (j : ℕ) → j ≢ k → slot_at (slice_set slots k s) j ≡ slot_at slots j
  there j n = get_or-set_other slots k j s Absent n

  own_or_dead : (j b : ℕ) → j ≢ k → NamesBlock (slot_at slots j) b → NamesBlock s b → ⊥
  own_or_dead j b n there here =
      elim (r.fresh b here) [
        | inl own ↦ n (owns.once j k b there own)
        | inr gone ↦ dead (held pool b) (owns.live j b there) gone
      ]

  live_after : (j b : ℕ) → NamesBlock (slot_at (slice_set slots k s) j) b → IsLive after b
  live_after j b named =
      elim (cases_eq j k) [
        | inl e ↦ r.live b (let at : slot_at (slice_set slots k s) j ≡ s = rw e here in rw at at named)
        | inr n ↦
            let old : NamesBlock (slot_at slots j) b = rw (there j n) at named in
            rw (r.others b (owns.live j b old) (λ own. n (owns.once j k b old own))) (owns.live j b old)
      ]

  once_after : (i j b : ℕ) → NamesBlock (slot_at (slice_set slots k s) i) b → NamesBlock (slot_at (slice_set slots k s) j) b → i ≡ j
  once_after i j b first second =
      elim (cases_eq i k) [
        | inl e ↦ elim (cases_eq j k) [
          | inl f ↦ e ∙ sym f
          | inr n ↦ absurd (own_or_dead j b n (rw (there j n) at second) (let at : slot_at (slice_set slots k s) i ≡ s = rw e here in rw at at first))
        ]
        | inr m ↦ elim (cases_eq j k) [
          | inl f ↦ absurd (own_or_dead i b m (rw (there i m) at first) (let at : slot_at (slice_set slots k s) j ≡ s = rw f here in rw at at second))
          | inr n ↦ owns.once i j b (rw (there i m) at first) (rw (there j n) at second)
        ]
      ]

  apart_after : (j b : ℕ) → present (slot_at (slice_set slots k s) j) ≡ Some b → older (slot_at (slice_set slots k s) j) ≡ Some b → ⊥
  apart_after j b first second =
      elim (cases_eq j k) [
        | inl e ↦ let at : slot_at (slice_set slots k s) j ≡ s = rw e here in r.apart b (rw at at first) (rw at at second)
        | inr n ↦ owns.apart j b (rw (there j n) at first) (rw (there j n) at second)
      ]

  pub owns_after : Owns after (slice_set slots k s)
  owns_after = record { live = live_after; once = once_after; apart = apart_after }

  -- The blocks of the other slots keep their bytes.
  pub other_bytes : (which : Slot → Option ℕ) → ((x : Slot) (b : ℕ) → which x ≡ Some b → NamesBlock x b) → (j offset : ℕ) → j ≢ k → byte_in after (which (slot_at (slice_set slots k s) j)) offset ≡ byte_in pool (which (slot_at slots j)) offset
  other_bytes which named j offset n =
      rw (there j n) (
      let P : Option ℕ → Type 0 = λ o. ((b : ℕ) → o ≡ Some b → NamesBlock (slot_at slots j) b) → byte_in after o offset ≡ byte_in pool o offset in
      let cases : P (which (slot_at slots j)) = elim (which (slot_at slots j)) as P [
        | None ↦ λ f. refl
        | Some b ↦ λ f.
            let old : NamesBlock (slot_at slots j) b = f b refl in
            ap (λ o. slice_index (unwrap_or o []) offset) (r.others b (owns.live j b old) (λ own. n (owns.once j k b old own)))
      ] in
      cases (named (slot_at slots j)))

  pub bytes_after : (which : Slot → Option ℕ) → ((x : Slot) (b : ℕ) → which x ≡ Some b → NamesBlock x b) → ((offset : ℕ) → offset < 4096 → byte_in after (which s) offset ≡ byte_in pool (which (slot_at slots k)) offset) → byte_at after (slice_set slots k s) which ≡ byte_at pool slots which
  bytes_after which named same =
      fun_ext (λ at. elim (cases_eq (at / 4096) k) [
        | inl e ↦
            let at_k : slot_at (slice_set slots k s) (at / 4096) ≡ s = rw e here in
            rw (at_k, e) (same (at % 4096) (omega arith))
        | inr n ↦ other_bytes which named (at / 4096) (at % 4096) n
      ])

  pub contents_after : (which : Slot → Option ℕ) (size : ℕ) → ((x : Slot) (b : ℕ) → which x ≡ Some b → NamesBlock x b) → ((offset : ℕ) → offset < 4096 → byte_in after (which s) offset ≡ byte_in pool (which (slot_at slots k)) offset) → is_some (which s) ≡ is_some (which (slot_at slots k)) →
      contents after (slice_set slots k s) which size ≡ contents pool slots which size
  contents_after which size named same as_there =
      same_contents (ap (λ f. map f (numbers 0 size)) (bytes_after which named same)) (map-set_same (λ x. is_some (which x)) slots k s Absent as_there)
