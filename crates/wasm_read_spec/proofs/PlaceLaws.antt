-- The place of a fault is unique: only one section has a stop, and in the code section only one
-- entry.
use Rattle.base_lists.proofs.Common.{◌≡◌, Bool, ℕ, suc, ◌+◌, List, [], ◌∷◌, ◌++◌, length, Result, Ok, Err, Option, Some, None, ⊎_elim, append_assoc, refl, sym, ap, ◌∙◌, subst, arith}
use Rattle.base_lists.specs.Every.{Every}
use Rattle.wasm_bytes.specs.Prelude.{U32, Each, Sized, IsBytes, Section, FramesAreRead}
use Rattle.wasm_tree_spec.specs.Prelude.{imported_funcs}
use Rattle.wasm_read_spec.specs.declared.fault.Fault.{Fault}
use Rattle.wasm_read_spec.specs.declared.fault.ReadFault.{ReadFault}
use Rattle.wasm_read_spec.specs.declared.parts.Parts.{Parts}
use Rattle.wasm_read_spec.specs.Prelude.{CodeEntry, SpellsEntry, SmallCode, nothing, SectionIsSmall, SectionContents, u32_at, Stop, code_at, placed, entry_at, section_at, EntryOf}
use Rattle.wasm_read_spec.specs.Files.{SpellsSection}
use Rattle.wasm_read_spec.specs.Stops.{section_stops}
use Rattle.wasm_read_spec.specs.Causes.{UpTo, InEntry, SectionStops, EntryStops, StopsAt}
use Rattle.wasm_read_spec.proofs.Exact.{u32_exact}
use Rattle.wasm_read_spec.proofs.SectionLaws.{section_right}
use Rattle.wasm_read_spec.proofs.FileLaws.{one_framing}
use Rattle.wasm_read_spec.proofs.Stopping.{ok_err, fault_of}
use Rattle.wasm_read_spec.proofs.EntryLaws.{entry_exact}
use Rattle.wasm_read_spec.proofs.BodyStops.{code_tells}
use Rattle.wasm_read_spec.proofs.SectionStops.{section_tells, entry_met, here_met}
use Rattle.wasm_read_spec.proofs.CauseLaws.{code_section}

-- ---- sections

module _ (many : Bool) (e e' : ReadFault) where
  section_read : (n : ℕ) (p m : Parts) (s : Section) → SpellsSection many p s m → SectionIsSmall many s → section_at many n p s ≡ Ok m
  section_read n p m s h k = (section_right many n p s.0).complete s.1 m h k

  -- A section that is encoded and within the limits is not the one with the fault.
  not_here : (w : ReadFault) (n : ℕ) (p q m : Parts) (s t : Section) → s ≡ t → p ≡ q → SpellsSection many p t m → SectionIsSmall many t → section_at many (n + 0) q s ≡ Err w → ⊥
  not_here w n p q m s t same parts h k bad =
      let here : n + 0 ≡ n = omega arith in
      ok_err m w (sym (section_read n p m t h k) ∙ ap (λ z. section_at many z p t) (sym here) ∙ ap (λ z. section_at many (n + 0) z t) parts ∙ ap (section_at many (n + 0) q) (sym same) ∙ bad)

  fronts_same : (n : ℕ) (p q q' : Parts) (front front' : List Section) (s s' : Section) (back back' : List Section) → front ++ s ∷ back ≡ front' ++ s' ∷ back' →
      SectionContents many p front q → Every (SectionIsSmall many) front → section_at many (n + length front) q s ≡ Err e →
      SectionContents many p front' q' → Every (SectionIsSmall many) front' → section_at many (n + length front') q' s' ≡ Err e' → (length front ≡ length front') × (s ≡ s') × (q ≡ q')
  fronts_same n p q q' [] [] s s' back back' is c w bad c' w' bad' = let same : s ≡ s' = cc in (refl, same, sym c ∙ c')
  fronts_same n p q q' [] (t ∷ front') s s' back back' is c w bad c' w' bad' = let same : s ≡ t = cc in absurd (not_here e n p q c'.0 s t same c c'.1 w'.0 bad)
  fronts_same n p q q' (t ∷ front) [] s s' back back' is c w bad c' w' bad' = let same : s' ≡ t = cc in absurd (not_here e' n p q' c.0 s' t same c' c.1 w.0 bad')
  fronts_same n p q q' (t ∷ front) (t' ∷ front') s s' back back' is c w bad c' w' bad' =
      let first : t ≡ t' = cc in
      let others : front ++ s ∷ back ≡ front' ++ s' ∷ back' = cc in
      let read : ◌≡◌ {A = Result Parts ReadFault} (Ok c.0) (Ok c'.0) = sym (section_read n p c.0 t c.1 w.0) ∙ ap (section_at many n p) first ∙ section_read n p c'.0 t' c'.1 w'.0 in
      let parts : c.0 ≡ c'.0 = cc in
      let here : (n + 1) + length front ≡ n + suc (length front) = omega arith in
      let here' : (n + 1) + length front' ≡ n + suc (length front') = omega arith in
      let r = fronts_same (n + 1) c.0 q q' front front' s s' back back' others c.2 w.1 (ap (λ z. section_at many z q s) here ∙ bad) (subst (λ z. SectionContents many z front' q') (sym parts) c'.2) w'.1 (ap (λ z. section_at many z q' s') here' ∙ bad') in
      (ap suc r.0, r.1, r.2)

  sections_same : FramesAreRead → (bytes : List ℕ) (n n' : ℕ) (s s' : Section) (p p' : Parts) → UpTo bytes many n s p → UpTo bytes many n' s' p' → section_at many n p s ≡ Err e → section_at many n' p' s' ≡ Err e' → (n ≡ n') × (s ≡ s') × (p ≡ p')
  sections_same reads bytes n n' s s' p p' u v bad bad' =
      let is = one_framing reads bytes (u.front ++ s ∷ u.back) (v.front ++ s' ∷ v.back) u.framed v.framed in
      let here : 0 + length u.front ≡ n = omega (arith, u.number) in
      let here' : 0 + length v.front ≡ n' = omega (arith, v.number) in
      let r = fronts_same 0 nothing p p' u.front v.front s s' u.back v.back is u.spelled u.within (ap (λ z. section_at many z p s) here ∙ bad) v.spelled v.within (ap (λ z. section_at many z p' s') here' ∙ bad') in
      (sym u.number ∙ r.0 ∙ v.number, r.1, r.2)

-- ---- the entries of the code section

module _ (many : Bool) (n : ℕ) where
  entry_read : (func : ℕ) (front rest : List ℕ) (x : CodeEntry) (codes : List CodeEntry) (p : Each (SpellsEntry many) front (x ∷ codes)) → SmallCode x → entry_at many n func (front ++ rest) ≡ Ok (x, p.1 ++ rest)
  entry_read func front rest x codes p small = rw (p.4, append_assoc p.0 p.1 rest) ((entry_exact many n func).complete p.0 (p.1 ++ rest) x p.2 small)

  not_this : (func : ℕ) (front entry back content more : List ℕ) (w : Fault) (x : CodeEntry) (codes : List CodeEntry) (p : Each (SpellsEntry many) front (x ∷ codes)) → SmallCode x → entry ++ back ≡ front ++ more → Sized entry content → code_at many content ≡ Err w → ⊥
  not_this func front entry back content more w x codes p small is z bad =
      ok_err (x, p.1 ++ more) (placed n (Some func) w) (sym (entry_read func front more x codes p small) ∙ sym (ap (entry_at many n func) is) ∙ here_met many n func entry back content w z bad)

  entries_same : (codes codes' : List CodeEntry) (func : ℕ) (front front' entry entry' back back' content content' : List ℕ) (w w' : Fault) → front ++ (entry ++ back) ≡ front' ++ (entry' ++ back') →
      Each (SpellsEntry many) front codes → Every SmallCode codes → Sized entry content → code_at many content ≡ Err w →
      Each (SpellsEntry many) front' codes' → Every SmallCode codes' → Sized entry' content' → code_at many content' ≡ Err w' → length codes ≡ length codes'
  entries_same [] [] func front front' entry entry' back back' content content' w w' is p s z bad p' s' z' bad' = refl
  entries_same [] (x ∷ codes') func front front' entry entry' back back' content content' w w' is p s z bad p' s' z' bad' =
      absurd (not_this func front' entry back content (entry' ++ back') w x codes' p' s'.0 (sym (ap (λ f. f ++ (entry ++ back)) p) ∙ is) z bad)
  entries_same (x ∷ codes) [] func front front' entry entry' back back' content content' w w' is p s z bad p' s' z' bad' =
      absurd (not_this func front entry' back' content' (entry ++ back) w' x codes p s.0 (sym (ap (λ f. f ++ (entry' ++ back')) p') ∙ sym is) z' bad')
  entries_same (x ∷ codes) (x' ∷ codes') func front front' entry entry' back back' content content' w w' is p s z bad p' s' z' bad' =
      let read : ◌≡◌ {A = Result (CodeEntry × List ℕ) ReadFault} (Ok (x, p.1 ++ (entry ++ back))) (Ok (x', p'.1 ++ (entry' ++ back'))) =
      sym (entry_read func front (entry ++ back) x codes p s.0) ∙ ap (entry_at many n func) is ∙ entry_read func front' (entry' ++ back') x' codes' p' s'.0 in
      let pair : ◌≡◌ {A = CodeEntry × List ℕ} (x, p.1 ++ (entry ++ back)) (x', p'.1 ++ (entry' ++ back')) = cc in
      let rest : p.1 ++ (entry ++ back) ≡ p'.1 ++ (entry' ++ back') = ap (λ (t : CodeEntry × List ℕ). t.1) pair in
      ap suc (entries_same codes codes' (func + 1) p.1 p'.1 entry entry' back back' content content' w w' rest p.3 s.1 z bad p'.3 s'.1 z' bad')

  counts_same : (c count count' rest rest' : List ℕ) (k k' : ℕ) → c ≡ count ++ rest → c ≡ count' ++ rest' → U32 count k → U32 count' k' → (k ≡ k') × (rest ≡ rest')
  counts_same c count count' rest rest' k k' is is' u u' =
      let read : ◌≡◌ {A = Result (ℕ × List ℕ) Fault} (Ok (k, rest)) (Ok (k', rest')) = sym (u32_exact.complete count rest k u tt) ∙ ap u32_at (sym is ∙ is') ∙ u32_exact.complete count' rest' k' u' tt in
      let pair : ◌≡◌ {A = ℕ × List ℕ} (k, rest) (k', rest') = cc in (ap (λ (t : ℕ × List ℕ). t.0) pair, ap (λ (t : ℕ × List ℕ). t.1) pair)

  functions_same : (func : ℕ) (c : List ℕ) (f f' : ℕ) (content content' : List ℕ) (w w' : Fault) → EntryOf many func c f content → EntryOf many func c f' content' → code_at many content ≡ Err w → code_at many content' ≡ Err w' → f ≡ f'
  functions_same func c f f' content content' w w' h k bad bad' =
      let rest = (counts_same c h.count k.count _ _ h.total k.total h.text k.text h.counted k.counted).1 in
      let few = entries_same h.codes k.codes func h.front k.front h.entry k.entry h.back k.back content content' w w' rest h.spelled h.within h.sized bad k.spelled k.within k.sized bad' in
      h.number ∙ ap (λ l. func + l) few ∙ sym k.number

  -- A code section whose entry is reached has no stop outside its entries.
  count_not : (func : ℕ) (c : List ℕ) (f : ℕ) (content : List ℕ) (id : ℕ) (stop : Stop) → id ≡ 10 → section_stops many id stop c → EntryOf many func c f content → ⊥
  unfolding section_stops
  count_not func c f content id stop ten h k = over (subst (λ z. section_stops many z stop c) ten h)
    where
      over : section_stops many 10 stop c → ⊥
      over (total, t) = ⊎_elim (λ o. let same = (counts_same c t.0 k.count _ _ total k.total t.4 k.text t.2 k.counted).0 in omega (arith, o.0, k.few, same)) (λ items. items.1.3.3) t.3

-- ---- places

module _ (reads : FramesAreRead) (bytes : List ℕ) (many : Bool) (small : IsBytes bytes) where
  -- A section with a stop is not read, and neither is one whose entry has a fault.
  inner_stops : (n f : ℕ) (content : List ℕ) (w : Fault) (h : InEntry bytes many n f content) → code_at many content ≡ Err w → section_at many n h.parts h.here ≡ Err (placed n (Some f) w)
  inner_stops n f content w h bad = code_section reads bytes many small n h.parts h.here _ h.code (entry_met many n (length (imported_funcs h.parts.imports)) h.here.1 f content w h.entry bad)

  entry_place : (n n' f f' : ℕ) (content content' : List ℕ) (w w' : Fault) → InEntry bytes many n f content → InEntry bytes many n' f' content' → code_at many content ≡ Err w → code_at many content' ≡ Err w' → (n ≡ n') × (f ≡ f')
  entry_place n n' f f' content content' w w' h k bad bad' =
      let r = sections_same many _ _ reads bytes n n' h.here k.here h.parts k.parts h.before k.before (inner_stops n f content w h bad) (inner_stops n' f' content' w' k bad') in
      let entry = subst (λ (s : Section). EntryOf many (length (imported_funcs k.parts.imports)) s.1 f content) r.1 (subst (λ (p : Parts). EntryOf many (length (imported_funcs p.imports)) h.here.1 f content) r.2 h.entry) in
      (r.0, functions_same many n' (length (imported_funcs k.parts.imports)) k.here.1 f f' content content' w w' entry k.entry bad bad')

  section_stops_at : (n : ℕ) (s : Stop) (h : SectionStops bytes many n s) → section_at many n h.parts h.here ≡ Err (placed n None (fault_of s))
  section_stops_at n s h = (section_tells many n h.parts h.here.0).met h.here.1 s h.stops

  never_both : (n n' f : ℕ) (s t : Stop) → SectionStops bytes many n s → EntryStops bytes many n' f t → ⊥
  never_both n n' f s t h (content, k, stops) =
      let r = sections_same many _ _ reads bytes n n' h.here k.here h.parts k.parts h.before k.before (section_stops_at n s h) (inner_stops n' f content (fault_of t) k ((code_tells many).met content t stops)) in
      count_not many n' (length (imported_funcs k.parts.imports)) k.here.1 f content k.here.0 s k.code (subst (λ (z : Section). section_stops many z.0 s z.1) r.1 h.stops) k.entry

  pub one_place : (n n' : ℕ) (f f' : Option ℕ) (s t : Stop) → StopsAt bytes many n f s → StopsAt bytes many n' f' t → (n ≡ n') × (f ≡ f')
  one_place n n' None None s t h k = ((sections_same many _ _ reads bytes n n' h.here k.here h.parts k.parts h.before k.before (section_stops_at n s h) (section_stops_at n' t k)).0, refl)
  one_place n n' None (Some f') s t h k = absurd (never_both n n' f' s t h k)
  one_place n n' (Some f) None s t h k = absurd (never_both n' n f t s k h)
  one_place n n' (Some f) (Some f') s t (c, h, stops) (c', k, stops') =
      let r = entry_place n n' f f' c c' (fault_of s) (fault_of t) h k ((code_tells many).met c s stops) ((code_tells many).met c' t stops') in (r.0, ap (λ z. Some z) r.1)
