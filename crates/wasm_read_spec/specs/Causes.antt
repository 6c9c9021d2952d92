-- What each fault says about the bytes. First comes the header, then the frames of all sections,
-- whatever they contain, then the contents, and then the rules on the whole file. If a content is
-- at fault, everything before the place is encoded and within the limits. At the place there is a
-- stop, or it is malformed: it encodes nothing that is allowed and has no stop.
use Rattle.std.specs.Prelude.{◌≡◌, ℕ, ◌+◌, ◌<◌, ◌≤◌, ◌⊎◌, List, ◌∷◌, ◌++◌, length, Bool, Option, Some, None}
use Rattle.wasm_bytes.specs.Prelude.{U32, Each, Sized, Section, HasHeader, Framed, FirstBad}
use Rattle.wasm_tree.specs.declared.which.Which.TheVariants.{Functions}
use Rattle.wasm_tree_spec.specs.Prelude.{limit, imported_funcs}
use Rattle.wasm_read_spec.specs.declared.fault.ReadFault.{ReadFault}
use Rattle.wasm_read_spec.specs.declared.fault.ReadFault.TheVariants.{NoMemory, NotModule, Malformed, MalformedBody, Unsupported, Limit}
use Rattle.wasm_read_spec.specs.declared.parts.Parts.{Parts}
use Rattle.base_lists.specs.Every.{Every}
use Rattle.wasm_read_spec.specs.Bodies.{CodeEntry, SpellsCode, SpellsEntry, SmallCode}
use Rattle.wasm_read_spec.specs.Files.{nothing, SpellsSection, SectionIsSmall, SectionContents, Rules}
use Rattle.wasm_read_spec.specs.Stops.{Stop, NotSupported, Over, CodeStops, section_stops}

-- ---- places

-- The frames of the whole file are right, section `n` is `s`, and the sections before it are
-- encoded, lead to the parts `p` and are within the limits.
pub record UpTo (bytes : List ℕ) (many : Bool) (n : ℕ) (s : Section) (p : Parts) : Type 0 where
  pub front : List Section
  pub back : List Section
  pub framed : Framed bytes (front ++ s ∷ back)
  pub number : length front ≡ n
  pub spelled : SectionContents many nothing front p
  pub within : Every (SectionIsSmall many) front

-- In the content of a code section whose first entry is of function `func`, the count and the
-- entries before that of function `f` are encoded and within the limits, and the entry of `f` has
-- an encoded size and this content.
pub record EntryOf (many : Bool) (func : ℕ) (section : List ℕ) (f : ℕ) (content : List ℕ) : Type 0 where
  pub count : List ℕ
  pub front : List ℕ
  pub entry : List ℕ
  pub back : List ℕ
  pub total : ℕ
  pub text : section ≡ count ++ (front ++ (entry ++ back))
  pub counted : U32 count total
  pub few : total ≤ limit Functions
  pub codes : List CodeEntry
  pub more : length codes < total
  pub spelled : Each (SpellsEntry many) front codes
  pub within : Every SmallCode codes
  pub sized : Sized entry content
  pub number : f ≡ func + length codes

-- Section `n` is the code section, and the entry of function `f` has this content.
pub record InEntry (bytes : List ℕ) (many : Bool) (n : ℕ) (f : ℕ) (content : List ℕ) : Type 0 where
  pub here : Section
  pub parts : Parts
  pub before : UpTo bytes many n here parts
  pub code : here.0 ≡ 10
  pub entry : EntryOf many (length (imported_funcs parts.imports)) here.1 f content

-- ---- what is at a place

-- Section `n` has this stop.
pub record SectionStops (bytes : List ℕ) (many : Bool) (n : ℕ) (stop : Stop) : Type 0 where
  pub here : Section
  pub parts : Parts
  pub before : UpTo bytes many n here parts
  pub stops : section_stops many here.0 stop here.1

-- The entry of function `f` has this stop.
abbrev pub EntryStops : List ℕ → Bool → ℕ → ℕ → Stop → Type 0
EntryStops bytes many n f stop = (content : List ℕ) × InEntry bytes many n f content × CodeStops many stop content

-- Section `n` has this stop, or the entry of a function in it has.
abbrev pub StopsAt : List ℕ → Bool → ℕ → Option ℕ → Stop → Type 0
StopsAt bytes many n None stop = SectionStops bytes many n stop
StopsAt bytes many n (Some f) stop = EntryStops bytes many n f stop

-- The content of an entry is encoded and within the limits.
abbrev pub IsCode : Bool → List ℕ → Type 0
IsCode many content = (c : CodeEntry) × SpellsCode many content c × SmallCode c

-- The content of an entry is no encoding and has no stop. Left-over bytes are one case.
pub record MalformedContent (many : Bool) (content : List ℕ) : Type 0 where
  pub unspelled : (c : CodeEntry) → SpellsCode many content c → ⊥
  pub no_stop : (stop : Stop) → CodeStops many stop content → ⊥

-- In section `n` the entry of function `f` is malformed.
abbrev pub MalformedEntry : List ℕ → Bool → ℕ → ℕ → Type 0
MalformedEntry bytes many n f = (content : List ℕ) × InEntry bytes many n f content × MalformedContent many content

-- The content of section `n` is no encoding and has no stop. If it is the code section, each entry
-- whose content is reached is encoded and within the limits, so a count or a size is malformed or
-- too great, or bytes are left over.
pub record MalformedSection (bytes : List ℕ) (many : Bool) (n : ℕ) : Type 0 where
  pub here : Section
  pub parts : Parts
  pub before : UpTo bytes many n here parts
  pub unspelled : (q : Parts) → SpellsSection many parts here q → ⊥
  pub no_stop : (stop : Stop) → section_stops many here.0 stop here.1 → ⊥
  pub entries : here.0 ≡ 10 → (f : ℕ) (content : List ℕ) → EntryOf many (length (imported_funcs parts.imports)) here.1 f content → IsCode many content

-- All sections are encoded and within the limits, and a rule on the whole file is broken.
pub record FaultyWhole (bytes : List ℕ) (many : Bool) (n : ℕ) : Type 0 where
  pub sections : List Section
  pub parts : Parts
  pub framed : Framed bytes sections
  pub number : length sections ≡ n
  pub spelled : SectionContents many nothing sections parts
  pub within : Every (SectionIsSmall many) sections
  pub faulty : Rules parts → ⊥

-- ---- faults

-- The cause of a fault: what it says about the bytes. `NoMemory` says nothing about them.
abbrev pub Cause : List ℕ → Bool → ReadFault → Type 0
Cause bytes many NoMemory = ⊥
Cause bytes many NotModule = HasHeader bytes → ⊥
Cause bytes many (Malformed n) = FirstBad bytes n ⊎ (MalformedSection bytes many n ⊎ FaultyWhole bytes many n)
Cause bytes many (MalformedBody f) = (n : ℕ) × MalformedEntry bytes many n f
Cause bytes many (Unsupported n None) = SectionStops bytes many n NotSupported
Cause bytes many (Unsupported n (Some f)) = EntryStops bytes many n f NotSupported
Cause bytes many (Limit w) = (n : ℕ) × (SectionStops bytes many n (Over w) ⊎ ((f : ℕ) × EntryStops bytes many n f (Over w)))
