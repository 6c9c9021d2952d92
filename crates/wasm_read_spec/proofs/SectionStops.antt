-- Reading a section reports the stops of its content and, for the code section, the faults inside
-- its entries.
use Rattle.base_lists.proofs.Common.{◌≡◌, ℕ, zero, suc, ◌+◌, ◌<◌, List, [], ◌∷◌, ◌++◌, length, Result, Ok, Err, Bool, true, false, cond, Option, Some, None, ◌⊎◌, inl, inr, ⊎_elim, refl, sym, ap, ◌∙◌, arith, append_assoc, eqb-true, lt-ltb, le-ltb, cases_lt, ◌==◌, cond_is}
use Rattle.base_lists.specs.Every.{Every}
use Rattle.wasm_bytes.specs.Prelude.{Each, Sized, ◌>>=◌, IsBytes}
use Rattle.wasm_bytes.proofs.Lists.{small_rest}
use Rattle.wasm_tree_spec.specs.Prelude.{Imports, Exports, imported_funcs, limit}
use Rattle.wasm_tree.specs.declared.which.Which.TheVariants.{Types, Functions, Tables, Memories, Globals, ElementSegments, DataSegments}
use Rattle.wasm_read_spec.specs.declared.fault.Fault.{Fault}
use Rattle.wasm_read_spec.specs.declared.fault.Fault.TheVariants as fault
use Rattle.wasm_read_spec.specs.declared.fault.ReadFault.{ReadFault}
use Rattle.wasm_read_spec.specs.declared.fault.ReadFault.TheVariants.{Malformed, Limit}
use Rattle.wasm_read_spec.specs.declared.parts.Parts.{Parts}
use Rattle.wasm_read_spec.specs.Prelude.{CodeEntry, SpellsEntry, SmallCode, with_types, with_imports, with_func_types, with_tables, with_mems, with_globals, with_exports, with_start, with_elems, with_codes, with_datas, with_count, Stop, Over, NoStop, EntryOf, Reader, u32_at, name_at, sized_at}
use Rattle.wasm_read_spec.specs.Prelude.{code_at, placed, in_place, next_func, put_at, custom_at}
use Rattle.wasm_read_spec.specs.Stops.{WhenStops, VectorStops, section_stops}
use Rattle.wasm_read_spec.specs.Reading.{each_from, whole_at}
use Rattle.wasm_read_spec.specs.Contents.{entry_at, codes_at, section_at}
use Rattle.wasm_read_spec.proofs.Exact.{split, u32_exact, sized_exact}
use Rattle.wasm_read_spec.proofs.ItemLaws.{func_type_exact, import_exact, table_exact, limits_exact, global_def_exact, export_exact, elem_exact, data_exact}
use Rattle.wasm_read_spec.proofs.EntryLaws.{entry_exact, in_ok}
use Rattle.wasm_read_spec.proofs.Stopping.{bind_err, ok_err, same_err, fault_of, Known, Tells, u32_tells, vector_tells}
use Rattle.wasm_read_spec.proofs.ItemStops.{name_tells, sized_tells, func_type_tells, import_tells, table_tells, limits_tells, global_def_tells, export_tells, elem_tells, data_tells}

place_err : {A : Type 0} (n : ℕ) (o : Option ℕ) (r : Result A Fault) (e : ReadFault) → in_place n o r ≡ Err e → (w : Fault) × (r ≡ Err w) × (placed n o w ≡ e)
place_err n o (Ok x) e h = absurd (ok_err x e h)
place_err {A} n o (Err w) e h = (w, refl, same_err {A = A} (placed n o w) e h)

-- ---- the code section

-- The fault is one inside an entry of the code section.
abbrev pub InnerFault : Bool → ℕ → ℕ → List ℕ → ReadFault → Type 0
InnerFault many n func c e = (f : ℕ) × (content : List ℕ) × (w : Fault) × EntryOf many func c f content × (code_at many content ≡ Err w) × (e ≡ placed n (Some f) w)

module _ (many : Bool) (n : ℕ) where
  -- The fault is one inside one of `k` entries, which follow the count.
  record FaultyEntry (k func : ℕ) (bytes : List ℕ) (e : ReadFault) : Type 0 where
    front : List ℕ
    entry : List ℕ
    back : List ℕ
    text : bytes ≡ front ++ (entry ++ back)
    codes : List CodeEntry
    more : length codes < k
    spelled : Each (SpellsEntry many) front codes
    within : Every SmallCode codes
    content : List ℕ
    sized : Sized entry content
    why : Fault
    fails : code_at many content ≡ Err why
    told : e ≡ placed n (Some (func + length codes)) why

  entry_found : (k func : ℕ) (bytes : List ℕ) (e : ReadFault) → IsBytes bytes → entry_at many n func bytes ≡ Err e → (e ≡ Malformed n) ⊎ FaultyEntry (suc k) func bytes e
  unfolding entry_at
  entry_found k func bytes e small h = ⊎_elim
      (λ bad. let w = place_err n None (sized_at bytes) e bad in inl (size_is w.0 w.1 w.2))
      (λ good.
      let s = good.0 in
      let one = (sized_exact.sound bytes s.0 s.1 small (in_ok many n None _ s good.1)).0 in
      ⊎_elim
      (λ bad. let w = place_err n (Some func) (code_at many s.0) e bad in
      inr (record {
        front = [];
        entry = one.0;
        back = s.1;
        text = one.2;
        codes = [];
        more = omega arith;
        spelled = refl;
        within = tt;
        content = s.0;
        sized = one.1;
        why = w.0;
        fails = w.1;
        told = (let k : func + 0 ≡ func = omega arith in sym w.2 ∙ ap (λ z. placed n (Some z) w.0) (sym k));
      }))
      (λ ok. absurd (ok_err _ e ok.2))
      (bind_err (in_place n (Some func) (code_at many s.0)) _ e good.2))
      (bind_err (in_place n None (sized_at bytes)) _ e h)
    where
      size_is : (w : Fault) → sized_at bytes ≡ Err w → placed n None w ≡ e → e ≡ Malformed n
      size_is w bad is = ⊎_elim (λ m. sym is ∙ ap (placed n None) m) (λ k. absurd k.2) (sized_tells.found bytes w small bad)

  later : (k func : ℕ) (bytes text rest : List ℕ) (x : CodeEntry) (e : ReadFault) → SpellsEntry many text x → SmallCode x → bytes ≡ text ++ rest → FaultyEntry k (func + 1) rest e → FaultyEntry (suc k) func bytes e
  later k func bytes text rest x e spelled small is h = record {
    front = text ++ h.front;
    entry = h.entry;
    back = h.back;
    text = is ∙ ap (λ z. text ++ z) h.text ∙ sym (append_assoc text h.front (h.entry ++ h.back));
    codes = x ∷ h.codes;
    more = omega (arith, h.more);
    spelled = (text, h.front, spelled, h.spelled, refl);
    within = (small, h.within);
    content = h.content;
    sized = h.sized;
    why = h.why;
    fails = h.fails;
    told = (let same : (func + 1) + length h.codes ≡ func + suc (length h.codes) = omega arith in h.told ∙ ap (λ z. placed n (Some z) h.why) same);
  }

  entries_found : (k func : ℕ) (bytes : List ℕ) (e : ReadFault) → IsBytes bytes → each_from (entry_at many n) next_func k func bytes ≡ Err e → (e ≡ Malformed n) ⊎ FaultyEntry k func bytes e
  unfolding each_from
  entries_found zero func bytes e small h = absurd (ok_err _ e h)
  entries_found (suc k) func bytes e small h = ⊎_elim
      (λ bad. entry_found k func bytes e small bad)
      (λ good.
      let x = good.0 in
      let t = (entry_exact many n func).sound bytes x.0 x.1 small good.1 in
      ⊎_elim
      (λ bad. ⊎_elim inl (λ w. inr (later k func bytes t.0.0 x.1 x.0 e t.0.1 t.1 t.0.2 w)) (entries_found k (func + 1) x.1 e (small_rest _ bytes x.1 small t.0) bad))
      (λ ok. absurd (ok_err _ e ok.2))
      (bind_err (each_from (entry_at many n) next_func k (func + 1) x.1) _ e good.2))
      (bind_err (entry_at many n func bytes) _ e h)

  abbrev CodeCount : Stop → List ℕ → Type 0
  CodeCount = VectorStops Functions (SpellsEntry many) SmallCode NoStop

  codes_found : (func : ℕ) (c : List ℕ) (e : ReadFault) → IsBytes c → codes_at many n func c ≡ Err e → (e ≡ Malformed n) ⊎ (((s : Stop) × (e ≡ placed n None (fault_of s)) × CodeCount s c) ⊎ InnerFault many n func c e)
  unfolding codes_at
  codes_found func c e small h = ⊎_elim
      (λ bad. let w = place_err n None (u32_at c) e bad in inl (⊎_elim (λ m. sym w.2 ∙ ap (placed n None) m) (λ k. absurd k.2) (u32_tells.found c w.0 small w.1)))
      (λ good.
      let k = good.0 in
      let count = (u32_exact.sound c k.0 k.1 small (in_ok many n None _ k good.1)).0 in
      ⊎_elim
      (λ lt.
      let over = rw (lt-ltb (limit Functions) k.0 lt) at good.2 in
      inr (inl (Over Functions, sym (same_err {A = List CodeEntry} (Limit Functions) e over), (k.0, (count.0, k.1, count.1, inl (lt, refl), count.2)))))
      (λ le.
      let within = rw (le-ltb (limit Functions) k.0 le) at good.2 in
      ⊎_elim
      (λ bad. ⊎_elim inl
      (λ w. inr (inr (
        func + length w.codes,
        w.content,
        w.why,
        record {
          count = count.0;
          front = w.front;
          entry = w.entry;
          back = w.back;
          total = k.0;
          text = count.2 ∙ ap (λ z. count.0 ++ z) w.text;
          counted = count.1;
          few = le;
          codes = w.codes;
          more = w.more;
          spelled = w.spelled;
          within = w.within;
          sized = w.sized;
          number = refl;
        },
        w.fails,
        w.told,
      )))
      (entries_found k.0 func k.1 e (small_rest _ c k.1 small count) bad))
      (λ ok. ⊎_elim
      (λ done. absurd (ok_err _ e done.1))
      (λ left. inl (sym (same_err {A = List CodeEntry} (Malformed n) e left.1)))
      (cond_is (length ok.0.1 == 0) _ _ _ ok.2))
      (bind_err (each_from (entry_at many n) next_func k.0 func k.1) _ e within))
      (cases_lt (limit Functions) k.0))
      (bind_err (in_place n None (u32_at c)) _ e h)

  count_met : (func : ℕ) (c : List ℕ) (s : Stop) → CodeCount s c → codes_at many n func c ≡ Err (placed n None (fault_of s))
  unfolding codes_at
  count_met func c s h =
      let t = h.1 in
      ⊎_elim
      (λ k. rw (t.4, u32_exact.complete t.0 t.1 h.0 t.2 tt, lt-ltb (limit Functions) h.0 k.0, k.1))
      (λ k. absurd k.1.3.3)
      t.3

  pub here_met : (func : ℕ) (entry back content : List ℕ) (w : Fault) → Sized entry content → code_at many content ≡ Err w → entry_at many n func (entry ++ back) ≡ Err (placed n (Some func) w)
  unfolding entry_at
  here_met func entry back content w z bad = rw (sized_exact.complete entry back content z tt, bad)

  each_met : (codes : List CodeEntry) (k func : ℕ) (front entry back content : List ℕ) (w : Fault) → length codes < k → Each (SpellsEntry many) front codes → Every SmallCode codes → Sized entry content → code_at many content ≡ Err w →
      each_from (entry_at many n) next_func k func (front ++ (entry ++ back)) ≡ Err (placed n (Some (func + length codes)) w)
  unfolding each_from
  each_met codes zero func front entry back content w lt p s z bad = absurd (omega (arith, lt))
  each_met [] (suc k) func front entry back content w lt p s z bad = rw (p, here_met func entry back content w z bad) (let same : func ≡ func + 0 = omega arith in ap (λ x. Err (placed n (Some x) w)) same)
  each_met (x ∷ codes) (suc k) func front entry back content w lt p s z bad =
      let same : (func + 1) + length codes ≡ func + suc (length codes) = omega arith in
      rw (split _ _ front (entry ++ back) p, (entry_exact many n func).complete p.0 (p.1 ++ (entry ++ back)) x p.2 s.0, each_met codes k (func + 1) p.1 entry back content w (omega (arith, lt)) p.3 s.1 z bad)
      (ap (λ v. Err (placed n (Some v) w)) same)

  pub entry_met : (func : ℕ) (c : List ℕ) (f : ℕ) (content : List ℕ) (w : Fault) → EntryOf many func c f content → code_at many content ≡ Err w → codes_at many n func c ≡ Err (placed n (Some f) w)
  unfolding codes_at
  entry_met func c f content w h bad =
      rw (
        h.text,
        u32_exact.complete h.count (h.front ++ (h.entry ++ h.back)) h.total h.counted tt,
        le-ltb (limit Functions) h.total h.few,
        each_met h.codes h.total func h.front h.entry h.back content w h.more h.spelled h.within h.sized bad,
        h.number,
      )

-- ---- the other sections

put_found : {A : Type 0} (n : ℕ) (make : A → Parts) (r : Result A Fault) (e : ReadFault) → put_at n make r ≡ Err e → (w : Fault) × (r ≡ Err w) × (placed n None w ≡ e)
put_found n make r e h = ⊎_elim (λ bad. place_err n None r e bad) (λ good. absurd (ok_err _ e good.2)) (bind_err (in_place n None r) _ e h)

module _ {A : Type 0} (T : Stop → List ℕ → Type 0) (r : Reader A) (a : Tells T r) where
  whole_found : (c : List ℕ) (e : Fault) → IsBytes c → whole_at r c ≡ Err e → Known (λ s. T s c) e
  unfolding whole_at
  whole_found c e small h = ⊎_elim
      (λ bad. a.found c e small bad)
      (λ good. ⊎_elim (λ done. absurd (ok_err _ e done.1)) (λ left. inl (sym (same_err {A = A} fault.Malformed e left.1))) (cond_is (length good.0.1 == 0) _ _ _ good.2))
      (bind_err (r c) _ e h)

  whole_met : (c : List ℕ) (s : Stop) → T s c → whole_at r c ≡ Err (fault_of s)
  unfolding whole_at
  whole_met c s h = rw (a.met c s h)

-- The fault of a content: the content is malformed, has a stop, or has a fault inside an entry of
-- the code section.
abbrev pub SectionFault : (Stop → List ℕ → Type 0) → (List ℕ → ReadFault → Type 0) → ℕ → List ℕ → ReadFault → Type 0
SectionFault stops inner n c e = (e ≡ Malformed n) ⊎ (((s : Stop) × (e ≡ placed n None (fault_of s)) × stops s c) ⊎ inner c e)

pub record TellsSection (n : ℕ) (stops : Stop → List ℕ → Type 0) (inner : List ℕ → ReadFault → Type 0) (read : List ℕ → Result Parts ReadFault) : Type 0 where
  pub found : (c : List ℕ) (e : ReadFault) → IsBytes c → read c ≡ Err e → SectionFault stops inner n c e
  pub met : (c : List ℕ) (s : Stop) → stops s c → read c ≡ Err (placed n None (fault_of s))

section_when : {n : ℕ} {P Q : Stop → List ℕ → Type 0} {inner : List ℕ → ReadFault → Type 0} {r q : List ℕ → Result Parts ReadFault} (test : Bool) → (test ≡ true → TellsSection n P inner r) → TellsSection n Q inner q →
    TellsSection n (WhenStops test P Q) inner (λ c. cond test (r c) (q c))
section_when true a b = record { found = (a refl).found; met = (a refl).met }
section_when false a b = record { found = b.found; met = b.met }

section_put : {A : Type 0} {T : Stop → List ℕ → Type 0} {r : Reader A} {inner : List ℕ → ReadFault → Type 0} (n : ℕ) (make : A → Parts) → Tells T r → TellsSection n T inner (λ c. put_at n make (whole_at r c))
section_put {A} {T} {r} {inner} n make a = record {
  found = λ c e small h.
      let w = put_found n make (whole_at r c) e h in
      ⊎_elim (λ m. inl (sym w.2 ∙ ap (placed n None) m)) (λ k. inr (inl (k.0, sym w.2 ∙ ap (placed n None) k.1, k.2))) (whole_found T r a c w.0 small w.1);
  met = λ c s h. rw (whole_met T r a c s h);
}

section_custom : {inner : List ℕ → ReadFault → Type 0} (n : ℕ) (p : Parts) → TellsSection n NoStop inner (λ c. put_at n (λ u. p) (custom_at c))
section_custom n p = record {
  found = λ c e small h.
      let w = put_found n (λ u. p) (custom_at c) e h in
      ⊎_elim
      (λ bad. ⊎_elim (λ m. inl (sym w.2 ∙ ap (placed n None) m)) (λ k. absurd k.2) (name_tells.found c w.0 small bad))
      (λ ok. absurd (ok_err _ w.0 ok.2))
      (bind_err (name_at c) _ w.0 w.1);
  met = λ c s h. absurd h;
}

section_none : {inner : List ℕ → ReadFault → Type 0} (n : ℕ) → TellsSection n NoStop inner (λ c. Err (Malformed n))
section_none n = record { found = λ c e small h. inl (sym (same_err {A = Parts} (Malformed n) e h)); met = λ c s h. absurd h }

pub section_tells : (many : Bool) (n : ℕ) (p : Parts) (id : ℕ) → TellsSection n (section_stops many id) (λ c e. (id ≡ 10) × InnerFault many n (length (imported_funcs p.imports)) c e) (λ c. section_at many n p (id, c))
unfolding section_stops section_at
section_tells many n p id =
    section_when (id == 0) (λ t. section_custom n p)
    (section_when (id == 1) (λ t. section_put n (with_types p) (vector_tells Types func_type_exact func_type_tells))
    (section_when (id == 2) (λ t. section_put n (with_imports p) (vector_tells Imports import_exact import_tells))
    (section_when (id == 3) (λ t. section_put n (with_func_types p) (vector_tells Functions u32_exact u32_tells))
    (section_when (id == 4) (λ t. section_put n (with_tables p) (vector_tells Tables table_exact table_tells))
    (section_when (id == 5) (λ t. section_put n (with_mems p) (vector_tells Memories limits_exact limits_tells))
    (section_when (id == 6) (λ t. section_put n (with_globals p) (vector_tells Globals global_def_exact global_def_tells))
    (section_when (id == 7) (λ t. section_put n (with_exports p) (vector_tells Exports export_exact export_tells))
    (section_when (id == 8) (λ t. section_put n (with_start p) u32_tells)
    (section_when (id == 9) (λ t. section_put n (with_elems p) (vector_tells ElementSegments elem_exact elem_tells))
    (section_when (id == 10) (λ t. section_codes t)
    (section_when (id == 11) (λ t. section_put n (with_datas p) (vector_tells DataSegments data_exact data_tells))
    (section_when (id == 12) (λ t. section_put n (with_count p) u32_tells)
    (section_none n)))))))))))))
  where
    func : ℕ
    func = length (imported_funcs p.imports)

    section_codes : (id == 10) ≡ true → TellsSection n (VectorStops Functions (SpellsEntry many) SmallCode NoStop) (λ c e. (id ≡ 10) × InnerFault many n func c e) (λ c. codes_at many n func c >>= (λ xs. Ok (with_codes p xs)))
    section_codes t = record {
      found = λ c e small h. ⊎_elim
          (λ bad. ⊎_elim inl (λ k. ⊎_elim (λ s. inr (inl s)) (λ w. inr (inr (eqb-true id 10 t, w))) k) (codes_found many n func c e small bad))
          (λ ok. absurd (ok_err _ e ok.2))
          (bind_err (codes_at many n func c) _ e h);
      met = λ c s h. rw (count_met many n func c s h);
    }
