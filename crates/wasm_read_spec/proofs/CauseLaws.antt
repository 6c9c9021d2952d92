-- The first fault of a file is the fault whose cause the bytes have.
use Rattle.base_lists.proofs.Common.{◌≡◌, ℕ, suc, ◌+◌, ◌<◌, List, [], ◌∷◌, ◌++◌, length, Result, Ok, Err, Bool, true, false, cond, Option, Some, None, ◌⊎◌, inl, inr, ⊎_elim, refl, sym, ap, ◌∙◌, subst, arith, cases_Bool, ◌↔◌, cond_is}
use Rattle.base_lists.specs.Every.{Every}
use Rattle.wasm_bytes.specs.Prelude.{IsBytes, Section, Framed, FramesAreRead}
use Rattle.wasm_bytes.proofs.Lists.{rest_holds}
use Rattle.wasm_tree_spec.specs.Prelude.{imported_funcs, Which}
use Rattle.wasm_read_spec.specs.declared.fault.Fault.{Fault}
use Rattle.wasm_read_spec.specs.declared.fault.Fault.TheVariants as fault
use Rattle.wasm_read_spec.specs.declared.fault.ReadFault.{ReadFault}
use Rattle.wasm_read_spec.specs.declared.fault.ReadFault.TheVariants.{NoMemory, NotModule, Malformed, MalformedBody, Unsupported, Limit}
use Rattle.wasm_read_spec.specs.declared.parts.Parts.{Parts}
use Rattle.wasm_read_spec.specs.Prelude.{CodeEntry, nothing, SectionIsSmall, SectionContents, Stop, NotSupported, Over, code_at, placed, codes_at, agrees, framed_at, read_fault, EntryOf, Cause}
use Rattle.wasm_read_spec.specs.Contents.{AreBytes, section_at, contents_at, parts_at, read_at}
use Rattle.wasm_read_spec.specs.Causes.{UpTo, InEntry, SectionStops, EntryStops, IsCode, MalformedContent, MalformedSection, FaultyWhole}
use Rattle.wasm_read_spec.proofs.Framing.{framed_reads, framed_sound, framed_fault, header_reads, bad_reads}
use Rattle.wasm_read_spec.proofs.EntryLaws.{code_sound, code_complete, content_bytes}
use Rattle.wasm_read_spec.proofs.SectionLaws.{section_right}
use Rattle.wasm_read_spec.proofs.LimitLaws.{Got, code_gets}
use Rattle.wasm_read_spec.proofs.SpelledLaws.{section_gets}
use Rattle.wasm_read_spec.proofs.FileLaws.{framed_bytes, contents_sound, contents_complete, of_rules, rules_of, told}
use Rattle.wasm_read_spec.proofs.Stopping.{bind_err, ok_err, same_err, fault_of}
use Rattle.wasm_read_spec.proofs.BodyStops.{code_tells}
use Rattle.wasm_read_spec.proofs.SectionStops.{InnerFault, section_tells, entry_met}

-- ---- the contents of the sections, one of which has a fault

contents_met : (many : Bool) (front : List Section) (n : ℕ) (p q : Parts) (s : Section) (back : List Section) (e : ReadFault) → SectionContents many p front q → Every (SectionIsSmall many) front → section_at many (n + length front) q s ≡ Err e →
    contents_at many n p (front ++ s ∷ back) ≡ Err e
unfolding contents_at
contents_met many [] n p q s back e h k bad = let same : n + 0 ≡ n = omega arith in rw h (rw (← same, bad))
contents_met many (t ∷ front) n p q s back e h k bad =
    let one : section_at many n p t ≡ Ok h.0 = (section_right many n p t.0).complete t.1 h.0 h.1 k.0 in
    let same : n + suc (length front) ≡ (n + 1) + length front = omega arith in
    rw one (contents_met many front (n + 1) h.0 q s back e h.2 k.1 (rw (← same) bad))

-- Reading of an encoded value has no fault other than that of a limit.
not_malformed : {A E : Type 0} (over : Which → E) (e : E) (r : Result A E) (x : A) → ((w : Which) → over w ≡ e → ⊥) → Got over r x → r ≡ Err e → ⊥
not_malformed over e r x never (inl is) bad = ok_err x e (sym is ∙ bad)
not_malformed {A} over e r x never (inr is) bad = never is.0 (same_err {A = A} _ _ (sym is.1 ∙ bad))

-- The first section that is not read, with the parts from the sections before it.
record Stopped (many : Bool) (n : ℕ) (p : Parts) (ss : List Section) (e : ReadFault) : Type 0 where
  front : List Section
  here : Section
  back : List Section
  parts : Parts
  all : ss ≡ front ++ here ∷ back
  spelled : SectionContents many p front parts
  within : Every (SectionIsSmall many) front
  bytes : IsBytes here.1
  stops : section_at many (n + length front) parts here ≡ Err e

stopped : (many : Bool) (n : ℕ) (p : Parts) (ss : List Section) (e : ReadFault) → AreBytes ss → contents_at many n p ss ≡ Err e → Stopped many n p ss e
unfolding contents_at
stopped many n p [] e small h = absurd (ok_err p e h)
stopped many n p (s ∷ ss) e small h = ⊎_elim
    (λ bad. record { front = []; here = s; back = ss; parts = p; all = refl; spelled = refl; within = tt; bytes = small.0; stops = (let k : n + 0 ≡ n = omega arith in rw k bad) })
    (λ good.
    let one = (section_right many n p s.0).sound s.1 good.0 small.0 good.1 in
    let w = stopped many (n + 1) good.0 ss e small.1 good.2 in
    let k : n + suc (length w.front) ≡ (n + 1) + length w.front = omega arith in
    record { front = s ∷ w.front; here = w.here; back = w.back; parts = w.parts; all = ap (λ t. s ∷ t) w.all; spelled = (good.0, one.0, w.spelled); within = (one.1, w.within); bytes = w.bytes; stops = rw k w.stops })
    (bind_err (section_at many n p s) _ e h)

module _ (reads : FramesAreRead) (bytes : List ℕ) (many : Bool) (small : IsBytes bytes) where
  -- ---- what has a cause is read

  read_err : (e : ReadFault) → parts_at many bytes ≡ Err e → read_fault bytes many ≡ Some e
  unfolding read_at
  read_err e h = rw h

  framed_err : (e : ReadFault) → framed_at bytes ≡ Err e → read_fault bytes many ≡ Some e
  unfolding parts_at
  framed_err e h = read_err e (rw h)

  section_err : (n : ℕ) (s : Section) (p : Parts) (e : ReadFault) → UpTo bytes many n s p → section_at many n p s ≡ Err e → read_fault bytes many ≡ Some e
  unfolding parts_at
  section_err n s p e u h =
      let here : section_at many (0 + length u.front) p s ≡ Err e = (let k : 0 + length u.front ≡ n = omega (arith, u.number) in rw k h) in
      read_err e (rw (framed_reads reads bytes (u.front ++ s ∷ u.back) u.framed, contents_met many u.front 0 nothing p s u.back e u.spelled u.within here))

  -- The content of a section consists of bytes.
  here_bytes : (n : ℕ) (s : Section) (p : Parts) → UpTo bytes many n s p → IsBytes s.1
  here_bytes n s p u = at u.front (framed_bytes bytes (u.front ++ s ∷ u.back) small u.framed)
    where
      at : (front : List Section) → AreBytes (front ++ s ∷ u.back) → IsBytes s.1
      at [] h = h.0
      at (t ∷ front) h = at front h.1

  stop_err : (n : ℕ) (stop : Stop) → SectionStops bytes many n stop → read_fault bytes many ≡ Some (placed n None (fault_of stop))
  stop_err n stop h = section_err n h.here h.parts _ h.before ((section_tells many n h.parts h.here.0).met h.here.1 stop h.stops)

  -- A fault of the count or of an entry is the fault of the code section.
  pub code_section : (n : ℕ) (p : Parts) (s : Section) (e : ReadFault) → s.0 ≡ 10 → codes_at many n (length (imported_funcs p.imports)) s.1 ≡ Err e → section_at many n p s ≡ Err e
  unfolding section_at
  code_section n p s e ten h = rw (ten, h)

  inner_err : (n f : ℕ) (content : List ℕ) (w : Fault) → InEntry bytes many n f content → code_at many content ≡ Err w → read_fault bytes many ≡ Some (placed n (Some f) w)
  inner_err n f content w h bad =
      section_err n h.here h.parts _ h.before (code_section n h.parts h.here _ h.code (entry_met many n (length (imported_funcs h.parts.imports)) h.here.1 f content w h.entry bad))

  entry_err : (n f : ℕ) (stop : Stop) → EntryStops bytes many n f stop → read_fault bytes many ≡ Some (placed n (Some f) (fault_of stop))
  entry_err n f stop h = inner_err n f h.0 (fault_of stop) h.1 ((code_tells many).met h.0 stop h.2)

  -- The content of an entry consists of bytes.
  entry_bytes : (func : ℕ) (c : List ℕ) (f : ℕ) (content : List ℕ) → IsBytes c → EntryOf many func c f content → IsBytes content
  entry_bytes func c f content ok h =
      let behind_count : IsBytes (h.front ++ (h.entry ++ h.back)) = rest_holds (λ n. n < 256) h.count _ (subst IsBytes h.text ok) in
      let behind_front : IsBytes (h.entry ++ h.back) = rest_holds (λ n. n < 256) h.front _ behind_count in
      content_bytes many (h.entry ++ h.back) content h.back behind_front (h.entry, h.sized, refl)

  -- ---- how the content of an entry is read

  either_way : {A E : Type 0} (r : Result A E) → ((x : A) × (r ≡ Ok x)) ⊎ ((e : E) × (r ≡ Err e))
  either_way (Ok x) = inl (x, refl)
  either_way (Err e) = inr (e, refl)

  code_or_not : (content : List ℕ) → IsBytes content → IsCode many content ⊎ ((w : Fault) × (code_at many content ≡ Err w))
  code_or_not content ok = ⊎_elim (λ k. let t = code_sound many content k.0 ok k.1 in inl (k.0, t.0, t.1)) inr (either_way (code_at many content))

  code_not : (content : List ℕ) (w : Fault) → IsCode many content → code_at many content ≡ Err w → ⊥
  code_not content w g bad = ok_err g.0 w (sym (code_complete many content g.0 g.1 g.2) ∙ bad)

  malformed_met : (n : ℕ) → MalformedSection bytes many n → read_fault bytes many ≡ Some (Malformed n)
  malformed_met n m = ⊎_elim
      (λ good. let t = (section_right many n m.parts m.here.0).sound m.here.1 good.0 ok good.1 in absurd (m.unspelled good.0 t.0))
      (λ bad. ⊎_elim
      (λ is. section_err n m.here m.parts (Malformed n) m.before (bad.1 ∙ ap Err is))
      (λ k. ⊎_elim
      (λ stop. absurd (m.no_stop stop.0 stop.2))
      (λ inner. let t = inner.1 in absurd (code_not t.1 t.2 (m.entries inner.0 t.0 t.1 t.3) t.4))
      k)
      ((section_tells many n m.parts m.here.0).found m.here.1 bad.0 ok bad.1))
      (either_way (section_at many n m.parts m.here))
    where
      ok : IsBytes m.here.1
      ok = here_bytes n m.here m.parts m.before

  told_broken : (b : Bool) (p : Parts) (n : ℕ) → b ≡ false → ◌≡◌ {A = Result Parts ReadFault} (cond b (Ok p) (Err (Malformed n))) (Err (Malformed n))
  told_broken true p n h = cc
  told_broken false p n h = refl

  whole_met : (n : ℕ) → FaultyWhole bytes many n → read_fault bytes many ≡ Some (Malformed n)
  unfolding parts_at
  whole_met n h = ⊎_elim
      (λ yes. absurd (h.faulty (rules_of h.parts yes)))
      (λ broken. read_err (Malformed n) (rw (framed_reads reads bytes h.sections h.framed, contents_complete many 0 nothing h.sections h.parts h.spelled h.within) (told_broken (agrees h.parts) h.parts (length h.sections) broken ∙ ap (λ z. Err (Malformed z)) h.number)))
      (cases_Bool (agrees h.parts))

  body_met : (n f : ℕ) (content : List ℕ) → InEntry bytes many n f content → MalformedContent many content → read_fault bytes many ≡ Some (MalformedBody f)
  body_met n f content h m = ⊎_elim
      (λ good. absurd (m.unspelled good.0 good.1))
      (λ bad. ⊎_elim
      (λ is. inner_err n f content fault.Malformed h (bad.1 ∙ ap Err is))
      (λ stop. absurd (m.no_stop stop.0 stop.2))
      ((code_tells many).found content bad.0 ok bad.1))
      (code_or_not content ok)
    where
      ok : IsBytes content
      ok = entry_bytes (length (imported_funcs h.parts.imports)) h.here.1 f content (here_bytes n h.here h.parts h.before) h.entry

  pub cause_met : (e : ReadFault) → Cause bytes many e → read_fault bytes many ≡ Some e
  cause_met NoMemory h = absurd h
  cause_met NotModule h = framed_err NotModule (header_reads bytes h)
  cause_met (Malformed n) h = ⊎_elim (λ bad. framed_err (Malformed n) (bad_reads reads bytes n small bad)) (λ k. ⊎_elim (malformed_met n) (whole_met n) k) h
  cause_met (MalformedBody f) h = let t = h.1 in body_met h.0 f t.0 t.1 t.2
  cause_met (Unsupported n None) h = stop_err n NotSupported h
  cause_met (Unsupported n (Some f)) h = entry_err n f NotSupported h
  cause_met (Limit w) h = ⊎_elim (λ k. stop_err h.0 (Over w) k) (λ k. entry_err h.0 k.0 (Over w) k.1) h.1

  -- ---- what is read has a cause

  -- A stop is not reported as a malformed section.
  stop_not : (n : ℕ) (s : Stop) → placed n None (fault_of s) ≡ Malformed n → ⊥
  stop_not n NotSupported h = cc
  stop_not n (Over w) h = cc

  inner_not : (n f : ℕ) (w : Fault) → placed n (Some f) w ≡ Malformed n → ⊥
  inner_not n f fault.NoMemory h = cc
  inner_not n f fault.Malformed h = cc
  inner_not n f fault.Unsupported h = cc
  inner_not n f (fault.Limit w) h = cc

  section_stop_cause : (n : ℕ) (s : Stop) → SectionStops bytes many n s → Cause bytes many (placed n None (fault_of s))
  section_stop_cause n NotSupported h = h
  section_stop_cause n (Over w) h = (n, inl h)

  entry_stop_cause : (n f : ℕ) (s : Stop) → EntryStops bytes many n f s → Cause bytes many (placed n (Some f) (fault_of s))
  entry_stop_cause n f NotSupported h = h
  entry_stop_cause n f (Over w) h = (n, inr (f, h))

  module _ (ss : List Section) (framed : Framed bytes ss) (e : ReadFault) (w : Stopped many 0 nothing ss e) where
    place : ℕ
    place = 0 + length w.front

    up_to : UpTo bytes many place w.here w.parts
    unfolding place
    up_to = record { front = w.front; back = w.back; framed = subst (Framed bytes) w.all framed; number = omega arith; spelled = w.spelled; within = w.within }

    malformed_cause : section_at many place w.parts w.here ≡ Err (Malformed place) → MalformedSection bytes many place
    malformed_cause bad = record {
      here = w.here;
      parts = w.parts;
      before = up_to;
      unspelled = λ q h. not_malformed {A = Parts} Limit (Malformed place) (section_at many place w.parts w.here) q (λ w e. (let k : ◌≡◌ {A = ReadFault} (Limit w) (Malformed place) = e in cc)) (section_gets many place w.parts w.here.0 w.here.1 q h) bad;
      no_stop = λ s h. stop_not place s (same_err {A = Parts} _ _ (sym ((section_tells many place w.parts w.here.0).met w.here.1 s h) ∙ bad));
      entries = λ ten f content h. ⊎_elim
          (λ good. good)
          (λ k. absurd (inner_not place f k.0 (same_err {A = Parts} _ _ (sym (code_section place w.parts w.here _ ten (entry_met many place (length (imported_funcs w.parts.imports)) w.here.1 f content k.0 h k.1)) ∙ bad))))
          (code_or_not content (entry_bytes (length (imported_funcs w.parts.imports)) w.here.1 f content w.bytes h));
    }

    inner_cause : (w.here.0 ≡ 10) × InnerFault many place (length (imported_funcs w.parts.imports)) w.here.1 e → Cause bytes many e
    inner_cause h =
        let t = h.1 in
        let func = length (imported_funcs w.parts.imports) in
        let ok = entry_bytes func w.here.1 t.0 t.1 w.bytes t.3 in
        let inside : InEntry bytes many place t.0 t.1 = record { here = w.here; parts = w.parts; before = up_to; code = h.0; entry = t.3 } in
        ⊎_elim
        (λ is.
        let bad : code_at many t.1 ≡ Err fault.Malformed = t.4 ∙ ap Err is in
        let malformed : MalformedContent many t.1 = record {
          unspelled = λ g h. not_malformed {A = CodeEntry} fault.Limit fault.Malformed (code_at many t.1) g (λ w e. (let k : ◌≡◌ {A = Fault} (fault.Limit w) fault.Malformed = e in cc)) (code_gets many t.1 g h) bad;
          no_stop = λ s k. never s (same_err {A = CodeEntry} _ _ (sym ((code_tells many).met t.1 s k) ∙ bad));
        } in
        subst (Cause bytes many) (sym (t.5 ∙ ap (placed place (Some t.0)) is)) (place, (t.1, inside, malformed)))
        (λ k. subst (Cause bytes many) (sym (t.5 ∙ ap (placed place (Some t.0)) k.1)) (entry_stop_cause place t.0 k.0 (t.1, inside, k.2)))
        ((code_tells many).found t.1 t.2 ok t.4)
      where
        never : (s : Stop) → fault_of s ≡ fault.Malformed → ⊥
        never NotSupported h = cc
        never (Over w) h = cc

    section_cause : Cause bytes many e
    unfolding place
    section_cause = ⊎_elim
        (λ is. subst (Cause bytes many) (sym is) (inr (inl (malformed_cause (w.stops ∙ ap Err is)))))
        (λ k. ⊎_elim
        (λ s. subst (Cause bytes many) (sym s.1) (section_stop_cause place s.0 (record { here = w.here; parts = w.parts; before = up_to; stops = s.2 })))
        inner_cause
        k)
        ((section_tells many place w.parts w.here.0).found w.here.1 e w.bytes w.stops)

  pub cause_found : (e : ReadFault) → read_fault bytes many ≡ Some e → Cause bytes many e
  unfolding read_at parts_at
  cause_found e h = ⊎_elim
      (λ parts. ⊎_elim
      (λ bad. ⊎_elim
      (λ none. subst (Cause bytes many) (sym none.0) none.1)
      (λ frame. subst (Cause bytes many) (sym frame.1) (inl frame.2))
      (framed_fault reads bytes e small bad))
      (λ good.
      let framed = framed_sound reads bytes good.0 small good.1 in
      let are = framed_bytes bytes good.0 small framed in
      ⊎_elim
      (λ bad. section_cause good.0 framed e (stopped many 0 nothing good.0 e are bad))
      (λ all.
      let c = contents_sound many 0 nothing good.0 all.0 are all.1 in
      ⊎_elim
      (λ agree. absurd (ok_err _ e agree.1))
      (λ not.
      let whole : FaultyWhole bytes many (length good.0) = record {
        sections = good.0;
        parts = all.0;
        framed = framed;
        number = refl;
        spelled = c.0;
        within = c.1;
        faulty = λ r. (let t = sym not.0 ∙ of_rules all.0 r in cc);
      } in
      subst (Cause bytes many) (same_err {A = Parts} (Malformed (length good.0)) e not.1) (inr (inr whole)))
      (cond_is (agrees all.0) _ _ _ all.2))
      (bind_err (contents_at many 0 nothing good.0) _ e good.2))
      (bind_err (framed_at bytes) _ e parts))
      (λ ok. absurd (ok_err _ e ok.2))
      (bind_err (parts_at many bytes) _ e (told (read_at many bytes) e h))

pub causes : FramesAreRead → (bytes : List ℕ) (many : Bool) (e : ReadFault) → IsBytes bytes → (read_fault bytes many ≡ Some e) ↔ Cause bytes many e
causes reads bytes many e small = (cause_found reads bytes many small e, cause_met reads bytes many small e)

pub one_cause : FramesAreRead → (bytes : List ℕ) (many : Bool) (e f : ReadFault) → IsBytes bytes → Cause bytes many e → Cause bytes many f → e ≡ f
one_cause reads bytes many e f small h k = let same = sym (cause_met reads bytes many small e h) ∙ cause_met reads bytes many small f k in (let t : ◌≡◌ {A = Option ReadFault} (Some e) (Some f) = same in cc)
