-- The name list of a file is the one that the file encodes.
use Rattle.base_lists.proofs.Common.{◌≡◌, ℕ, ◌<◌, List, [], ◌∷◌, ◌++◌, length, Option, Some, None, Result, Ok, Err, IfOk, Bool, true, false, inl, inr, ⊎_elim, refl, sym, ap, ◌∙◌, subst, arith, ◌==◌, option_and_then, option_to_list, ◌↔◌, and_then_is, bind_ok}
use Rattle.std.specs.Prelude.{unwrap_or}
use Rattle.std.specs.Result.{result_ok}
use Rattle.base_lists.specs.Every.{Every}
use Rattle.wasm_bytes.specs.Prelude.{Section, Framed, framed_all, Each, IsBytes}
use Rattle.wasm_bytes.specs.declared.framing.Frame.{Frame as Place}
use Rattle.wasm_bytes.proofs.Lists.{rest_holds}
use Rattle.wasm_read_spec.specs.Prelude.{framed_at}
use Rattle.wasm_read_spec.specs.declared.fault.ReadFault.TheVariants.{NotModule, Malformed}
use Rattle.wasm_read_spec.specs.Contents.{AreBytes}
use Rattle.wasm_read_spec.proofs.FileLaws.{front_holds}
use Rattle.wasm_names.specs.declared.func_name.FuncName.{FuncName}
use Rattle.wasm_names.specs.NameList.{SpellsSubsection, func_name_maps, SpellsOneMap, SpellsNames, IsNameSection, SpellsFunctionNames, AreFunctionNames}
use Rattle.wasm_names.specs.Reading.{name_map_at, names_of_map, names_at, names_in, first_content, names_found, name_list}
use Rattle.wasm_names.proofs.NameMaps.{ReadsExactly, map_sound, map_complete}
use Rattle.wasm_names.proofs.Subsections.{one_map_sound, one_map_complete}
use Rattle.wasm_names.proofs.NameSections.{first_sound, first_complete}

-- The law on the frames of files, which the lemmas below use.
pub record FramesAreDecided : Type 0 where
  pub framed : (bytes : List ℕ) (ss : List Section) → IsBytes bytes → (framed_at bytes ≡ Ok ss) ↔ Framed bytes ss
  pub contents : (bytes : List ℕ) (ss : List Section) → IsBytes bytes → Framed bytes ss → AreBytes ss

-- ---- contents consist of bytes

subsections_bytes : (bytes : List ℕ) (ss : List Section) → IsBytes bytes → Each SpellsSubsection bytes ss → AreBytes ss
subsections_bytes bytes [] small h = tt
subsections_bytes bytes (s ∷ ss) small h =
    let both = subst IsBytes h.4 small in
    let front : IsBytes h.0 = front_holds (λ n. n < 256) (omega arith) h.0 h.1 both in
    let sized = rest_holds (λ n. n < 256) h.2.0 h.2.1 (subst IsBytes h.2.4 front) in
    (rest_holds (λ n. n < 256) h.2.3.0 s.1 (subst IsBytes h.2.3.2 sized), subsections_bytes h.1 ss (rest_holds (λ n. n < 256) h.0 h.1 both) h.3)

map_bytes : (s : Section) (ss : List Section) → IsBytes s.1 → (one : Bool) → (s.0 == 1) ≡ one → Every IsBytes (func_name_maps ss) → Every IsBytes (func_name_maps (s ∷ ss))
map_bytes s ss small true is later = rw is (small, later)
map_bytes s ss small false is later = rw is later

maps_bytes : (ss : List Section) → AreBytes ss → Every IsBytes (func_name_maps ss)
maps_bytes [] small = tt
maps_bytes (s ∷ ss) small = map_bytes s ss small.0 (s.0 == 1) refl (maps_bytes ss small.1)

-- The content of a name section after its name consists of bytes.
behind_bytes : (s : Section) (rest : List ℕ) → IsBytes s.1 → IsNameSection s rest → IsBytes rest
behind_bytes s rest small h = rest_holds (λ n. n < 256) h.1.0 rest (subst IsBytes h.1.2 small)

-- ---- the content after the name

names_sound : ReadsExactly → (content : List ℕ) (ns : List FuncName) → IsBytes content → names_at content ≡ Ok ns → SpellsNames content ns
unfolding names_at
names_sound reads content ns small e =
    let r = bind_ok (name_map_at (length content) None content) names_of_map ns e in
    let t = one_map_sound reads (length content) None content r.0 small r.1 in
    (t.0, t.1, split r.0 (func_name_maps t.0) (maps_bytes t.0 (subsections_bytes content t.0 small t.1)) t.2 r.2)
  where
    split : (r : Option (List ℕ)) (maps : List (List ℕ)) → Every IsBytes maps → option_to_list r ≡ maps → names_of_map r ≡ Ok ns → SpellsOneMap maps ns
    split None [] b h k = let same : [] ≡ ns = cc in sym same
    split None (m ∷ maps) b h k = cc
    split (Some c) [] b h k = cc
    split (Some c) (m ∷ []) b h k = let same : c ≡ m = cc in map_sound reads m ns b.0 (rw (sym same) k)
    split (Some c) (m ∷ other ∷ maps) b h k = cc

names_complete : ReadsExactly → (content : List ℕ) (ns : List FuncName) → SpellsNames content ns → names_at content ≡ Ok ns
unfolding names_at
names_complete reads content ns h = split (func_name_maps h.0) refl h.2
  where
    found : (r : Option (List ℕ)) → option_to_list r ≡ func_name_maps h.0 → name_map_at (length content) None content ≡ Ok r
    found r e = one_map_complete reads (length content) None content h.0 r (omega arith) h.1 e

    split : (maps : List (List ℕ)) → func_name_maps h.0 ≡ maps → SpellsOneMap maps ns → names_at content ≡ Ok ns
    split [] e k = rw (found None (sym e), k) refl
    split (m ∷ []) e k = rw (found (Some m) (sym e)) (map_complete reads m ns k)
    split (m ∷ other ∷ maps) e k = absurd k

-- ---- a file

ok_is : {A E : Type 0} (r : Result A E) (x : A) → result_ok r ≡ Some x → r ≡ Ok x
ok_is (Ok y) x h = let same : y ≡ x = cc in ap Ok same
ok_is (Err e) x h = cc

found_sound : FramesAreDecided → ReadsExactly → (bytes : List ℕ) (ns : List FuncName) → IsBytes bytes → names_found bytes ≡ Some ns → SpellsFunctionNames bytes ns
unfolding names_found
found_sound frames reads bytes ns small e =
    let content = and_then_is (option_and_then first_content (result_ok (framed_at bytes))) names_in ns e in
    let ss = and_then_is (result_ok (framed_at bytes)) first_content content.0 content.1 in
    let framed = (frames.framed bytes ss.0 small).0 (ok_is (framed_at bytes) ss.0 ss.1) in
    let each = frames.contents bytes ss.0 small framed in
    let f = first_sound reads ss.0 content.0 each ss.2 in
    record {
      before = f.before;
      section = f.section;
      after = f.after;
      framed = subst (Framed bytes) f.all framed;
      first = f.first;
      content = content.0;
      called = f.called;
      spelled = names_sound reads content.0 ns (behind_bytes f.section content.0 (at f.before f.section f.after (subst AreBytes f.all each)) f.called) (ok_is (names_at content.0) ns content.2);
    }
  where
    at : (before : List Section) (s : Section) (after : List Section) → AreBytes (before ++ s ∷ after) → IsBytes s.1
    at [] s after b = b.0
    at (x ∷ before) s after b = at before s after b.1

found_complete : FramesAreDecided → ReadsExactly → (bytes : List ℕ) (ns : List FuncName) → IsBytes bytes → SpellsFunctionNames bytes ns → names_found bytes ≡ Some ns
unfolding names_found
found_complete frames reads bytes ns small h =
    let each = before h.before h.section h.after (frames.contents bytes (h.before ++ h.section ∷ h.after) small h.framed) in
    rw ((frames.framed bytes (h.before ++ h.section ∷ h.after) small).1 h.framed, first_complete reads h.before h.section h.after h.content each h.first h.called, names_complete reads h.content ns h.spelled) refl
  where
    before : (front : List Section) (s : Section) (after : List Section) → AreBytes (front ++ s ∷ after) → AreBytes front
    before [] s after b = tt
    before (x ∷ front) s after b = (b.0, before front s after b.1)

pub names_law : FramesAreDecided → ReadsExactly → (bytes : List ℕ) (ns : List FuncName) → IsBytes bytes → AreFunctionNames bytes ns ↔ (ns ≡ name_list bytes)
names_law frames reads bytes ns small = (to, back (names_found bytes) refl)
  where
    to : AreFunctionNames bytes ns → ns ≡ name_list bytes
    to h = ⊎_elim (λ k. rw (found_complete frames reads bytes ns small k) refl) (λ k. k.1 ∙ none (names_found bytes) refl k.0) h
      where
        none : (o : Option (List FuncName)) → names_found bytes ≡ o → ((ms : List FuncName) → SpellsFunctionNames bytes ms → ⊥) → [] ≡ name_list bytes
        none None e never = rw e refl
        none (Some ms) e never = absurd (never ms (found_sound frames reads bytes ms small e))

    back : (o : Option (List FuncName)) → names_found bytes ≡ o → ns ≡ name_list bytes → AreFunctionNames bytes ns
    back (Some ms) e h = let same : ns ≡ ms = h ∙ rw e refl in inl (found_sound frames reads bytes ns small (e ∙ ap Some (sym same)))
    back None e h = let same : ns ≡ [] = h ∙ rw e refl in inr (λ ms k. (let bad = sym e ∙ found_complete frames reads bytes ms small k in cc), same)

-- ---- calls

-- The names that are found are any list that is equal to the name list of the file.
pub only_list : {E : Type 0} (bytes : List ℕ) (ns : List FuncName) (r : Result (List FuncName) E) → IfOk r (λ found. found ≡ name_list bytes) → ns ≡ name_list bytes → IfOk r (λ found. found ≡ ns)
only_list bytes ns (Ok found) h k = h ∙ sym k
only_list bytes ns (Err e) h k = tt

-- The name list of a file with these sections.
list_of_frames : (bytes : List ℕ) (ss : List Section) → framed_at bytes ≡ Ok ss → unwrap_or (option_and_then names_in (first_content ss)) [] ≡ name_list bytes
unfolding names_found
list_of_frames bytes ss framed = rw framed refl

pub none_without_header : (bytes : List ℕ) → framed_at bytes ≡ Err NotModule → [] ≡ name_list bytes
unfolding names_found
none_without_header bytes never = rw never refl

pub none_in_bad_frames : (bytes : List ℕ) (n : ℕ) → framed_at bytes ≡ Err (Malformed n) → [] ≡ name_list bytes
unfolding names_found
none_in_bad_frames bytes n bad = rw bad refl

pub names_of_frames : {E : Type 0} (bytes : List ℕ) (fs : List Place) (content : Option (List ℕ)) (r : Result (List FuncName) E) → framed_at bytes ≡ Ok (framed_all bytes fs) → content ≡ first_content (framed_all bytes fs) →
    IfOk r (λ ns. ns ≡ unwrap_or (option_and_then names_in content) []) → IfOk r (λ ns. ns ≡ name_list bytes)
names_of_frames bytes fs content (Ok ns) framed is h = h ∙ ap (λ o. unwrap_or (option_and_then names_in o) []) is ∙ list_of_frames bytes (framed_all bytes fs) framed
names_of_frames bytes fs content (Err e) framed is h = tt
