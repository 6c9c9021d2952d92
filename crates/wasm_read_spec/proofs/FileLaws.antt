-- A file is read exactly if it encodes a tree and is within the limits.
use Rattle.base_lists.proofs.Common.{◌≡◌, ℕ, zero, suc, ◌+◌, ◌<◌, slice_index, List, [], ◌∷◌, ◌++◌, length, Result, Ok, Err, Bool, true, false, cond, Option, Some, None, refl, sym, ap, ◌∙◌, subst, arith, eqb-true, and_parts, ◌==◌, ◌↔◌, bind_ok}
use Rattle.wasm_bytes.specs.Prelude.{IsBytes, Section, order_after, Frames, Framed, FramesAreRead}
use Rattle.wasm_bytes.proofs.Lists.{rest_holds}
use Rattle.wasm_tree_spec.specs.Prelude.{Module, any_uses_data}
use Rattle.wasm_read_spec.specs.declared.fault.ReadFault.{ReadFault}
use Rattle.wasm_read_spec.specs.declared.parts.Parts.{Parts}
use Rattle.base_lists.specs.Every.{Every}
use Rattle.wasm_read_spec.specs.Prelude.{nothing, SectionContents, tree_of, Spells, SectionIsSmall, Within, section_at, framed_at, read_fault}
use Rattle.wasm_read_spec.specs.Files.{Counted, Rules}
use Rattle.wasm_read_spec.specs.Contents.{AreBytes, contents_at, counted, agrees, parts_at, read_at, fault_of}
use Rattle.wasm_read_spec.proofs.Framing.{framed_reads, framed_sound}
use Rattle.wasm_read_spec.proofs.SectionLaws.{section_right}

-- ---- contents are bytes

-- A property of 0 and of each entry of a list holds of each entry of its first part.
pub front_holds : (P : ℕ → Type 0) → P 0 → (a b : List ℕ) → ((i : ℕ) → P (slice_index (a ++ b) i)) → (i : ℕ) → P (slice_index a i)
front_holds P none [] b h zero = none
front_holds P none [] b h (suc i) = none
front_holds P none (x ∷ a) b h zero = h zero
front_holds P none (x ∷ a) b h (suc i) = front_holds P none a b (λ j. h (suc j)) i

frames_bytes : (last : ℕ) (bytes : List ℕ) (ss : List Section) → IsBytes bytes → Frames last bytes ss → AreBytes ss
frames_bytes last bytes [] small h = tt
frames_bytes last bytes (s ∷ ss) small h =
    let both = subst IsBytes h.4 small in
    let frame : IsBytes h.0 = front_holds (λ n. n < 256) (omega arith) h.0 h.1 both in
    let sized = h.2.1 in
    let text : IsBytes (s.0 ∷ sized.0) = subst IsBytes sized.2 frame in
    let inner : IsBytes (sized.1.0 ++ s.1) = subst IsBytes sized.1.2 (λ i. text (suc i)) in
    (rest_holds (λ n. n < 256) sized.1.0 s.1 inner, frames_bytes (order_after last s.0) h.1 ss (rest_holds (λ n. n < 256) h.0 h.1 both) h.3)

pub framed_bytes : (bytes : List ℕ) (ss : List Section) → IsBytes bytes → Framed bytes ss → AreBytes ss
framed_bytes bytes ss small f = frames_bytes 0 f.1 ss (rest_holds (λ n. n < 256) f.0 f.1 (subst IsBytes f.4 small)) f.3

pub one_framing : FramesAreRead → (bytes : List ℕ) (ss ts : List Section) → Framed bytes ss → Framed bytes ts → ss ≡ ts
one_framing reads bytes ss ts f g = let e = sym (framed_reads reads bytes ss f) ∙ framed_reads reads bytes ts g in let same : ss ≡ ts = cc in same

-- ---- contents

module _ (many : Bool) where
  pub contents_sound : (n : ℕ) (p : Parts) (ss : List Section) (q : Parts) → AreBytes ss → contents_at many n p ss ≡ Ok q → SectionContents many p ss q × Every (SectionIsSmall many) ss
  unfolding contents_at
  contents_sound n p [] q small e = (let same : p ≡ q = cc in same, tt)
  contents_sound n p (s ∷ ss) q small e =
      let m = bind_ok (section_at many n p s) _ _ e in
      let one = (section_right many n p s.0).sound s.1 m.0 small.0 m.1 in
      let later = contents_sound (n + 1) m.0 ss q small.1 m.2 in
      ((m.0, one.0, later.0), (one.1, later.1))

  pub contents_complete : (n : ℕ) (p : Parts) (ss : List Section) (q : Parts) → SectionContents many p ss q → Every (SectionIsSmall many) ss → contents_at many n p ss ≡ Ok q
  unfolding contents_at
  contents_complete n p [] q h k = ap Ok h
  contents_complete n p (s ∷ ss) q h k =
      let one : section_at many n p s ≡ Ok h.0 = (section_right many n p s.0).complete s.1 h.0 h.1 k.0 in
      rw one (contents_complete (n + 1) h.0 ss q h.2 k.1)

  pub contents_one : (p : Parts) (ss : List Section) (q r : Parts) → SectionContents many p ss q → SectionContents many p ss r → q ≡ r
  contents_one p [] q r h k = sym h ∙ k
  contents_one p (s ∷ ss) q r h k =
      let same = (section_right many 0 p s.0).one s.1 h.0 k.0 h.1 k.1 in
      contents_one k.0 ss q r (subst (λ z. SectionContents many z ss q) same h.2) k.2

-- ---- the rules on the whole file

not_used : (b : Bool) → cond b false true ≡ true → b ≡ false
not_used true h = cc
not_used false h = refl

counted_of : (p : Parts) (o : Option ℕ) → counted p o ≡ true → Counted p o
counted_of p None h = not_used (any_uses_data p.codes) h
counted_of p (Some n) h = eqb-true n (length p.datas) h

of_counted : (p : Parts) (o : Option ℕ) → Counted p o → counted p o ≡ true
of_counted p None h = rw h
of_counted p (Some n) h = let same : length p.datas == length p.datas ≡ true = grind arith in rw h same

pub rules_of : (p : Parts) → agrees p ≡ true → Rules p
unfolding agrees
rules_of p h =
    let b = and_parts (length p.func_types == length p.codes) (counted p p.data_count) h in
    record { functions = eqb-true (length p.func_types) (length p.codes) b.0; counted = counted_of p p.data_count b.1 }

pub of_rules : (p : Parts) → Rules p → agrees p ≡ true
unfolding agrees
of_rules p h =
    let same : length p.codes == length p.codes ≡ true = grind arith in
    let counts : length p.func_types == length p.codes ≡ true = rw (h.functions) same in
    rw (counts, of_counted p p.data_count h.counted)

-- ---- files

whole_ok : (b : Bool) (p q : Parts) (e : ReadFault) → cond b (Ok p) (Err e) ≡ Ok q → (b ≡ true) × (p ≡ q)
whole_ok true p q e h = let same : p ≡ q = cc in (refl, same)
whole_ok false p q e h = cc

module _ (reads : FramesAreRead) (many : Bool) (bytes : List ℕ) (small : IsBytes bytes) where
  -- The sections of a file that is read are framed, are within the limits and lead to its parts.
  pub parts_found : (p : Parts) → parts_at many bytes ≡ Ok p → (ss : List Section) × Framed bytes ss × SectionContents many nothing ss p × Every (SectionIsSmall many) ss × Rules p
  unfolding parts_at
  parts_found p h =
      let f = bind_ok (framed_at bytes) _ _ h in
      let framed = framed_sound reads bytes f.0 small f.1 in
      let c = bind_ok (contents_at many 0 nothing f.0) _ _ f.2 in
      let w = whole_ok (agrees c.0) c.0 p _ c.2 in
      let t = contents_sound many 0 nothing f.0 c.0 (framed_bytes bytes f.0 small framed) c.1 in
      (f.0, framed, subst (SectionContents many nothing f.0) w.1 t.0, t.1, rules_of p (ap agrees (sym w.1) ∙ w.0))

  pub tree_found : (m : Module) → read_at many bytes ≡ Ok m → Spells bytes m many × Within bytes many
  unfolding read_at
  tree_found m h =
      let p = bind_ok (parts_at many bytes) _ _ h in
      let f = parts_found p.0 p.1 in
      let same : tree_of p.0 ≡ m = (let k = p.2 in cc) in
      ((f.0, p.0, f.1, f.2, f.4, sym same), λ ss g. subst (Every (SectionIsSmall many)) (one_framing reads bytes f.0 ss f.1 g) f.3)

pub tree_read : FramesAreRead → (many : Bool) (bytes : List ℕ) (m : Module) → Spells bytes m many → Within bytes many → read_at many bytes ≡ Ok m
unfolding read_at parts_at
tree_read reads many bytes m h k =
    rw (framed_reads reads bytes h.0 h.2, contents_complete many 0 nothing h.0 h.1 h.3 (k h.0 h.2), of_rules h.1 h.4) (ap Ok (sym h.5))

-- A tree is read exactly if the bytes encode it and are within the limits.
pub read_exactly : FramesAreRead → (many : Bool) (bytes : List ℕ) (m : Module) → IsBytes bytes → (read_at many bytes ≡ Ok m) ↔ (Spells bytes m many × Within bytes many)
read_exactly reads many bytes m small = (tree_found reads many bytes small m, λ h. tree_read reads many bytes m h.0 h.1)

-- The same bytes encode at most one tree.
pub decoding_is_unique : FramesAreRead → (many : Bool) (bytes : List ℕ) (m n : Module) → Spells bytes m many → Spells bytes n many → m ≡ n
decoding_is_unique reads many bytes m n h k =
    let frames = one_framing reads bytes h.0 k.0 h.2 k.2 in
    h.5 ∙ ap tree_of (contents_one many nothing k.0 h.1 k.1 (subst (λ ss. SectionContents many nothing ss h.1) frames h.3) k.3) ∙ sym k.5

-- ---- faults

-- A first fault of the file is what reading it gives.
pub told : {A : Type 0} (r : Result A ReadFault) (e : ReadFault) → fault_of r ≡ Some e → r ≡ Err e
told (Ok x) e h = cc
told (Err w) e h = let same : w ≡ e = cc in ap Err same

-- ---- no fault

none_is : {A : Type 0} (r : Result A ReadFault) → fault_of r ≡ None → (x : A) × (r ≡ Ok x)
none_is (Ok x) h = (x, refl)
none_is (Err e) h = cc

pub no_fault : FramesAreRead → (many : Bool) (bytes : List ℕ) → IsBytes bytes → (read_fault bytes many ≡ None) ↔ ((m : Module) × Spells bytes m many × Within bytes many)
no_fault reads many bytes small = (
  λ h. let r = none_is (read_at many bytes) h in let t = tree_found reads many bytes small r.0 r.1 in (r.0, t.0, t.1),
  λ t. ap fault_of (tree_read reads many bytes t.0 t.1 t.2),
)
