-- Limits of staying imports.
use Rattle.std.specs.Prelude.{◌≡◌, ℕ, List, Option, Some, None, cond, map, slice_get}
use Rattle.base_lists.specs.Options.{◌>>=◌}
use Rattle.wasm_tree_spec.specs.Prelude.{Limits}
use Rattle.wasm_meaning.specs.Linking as linking
use Rattle.merge_spec.specs.declared.parts.Part.{Part}
use Rattle.merge_spec.specs.declared.faults.LinkFault.{LinkFault}
use Rattle.merge_spec.specs.declared.faults.LinkFault.TheVariants.{LimitsClash}
use Rattle.merge_spec.specs.Prelude.{is_under, named_modules}
use Rattle.merge_link.specs.declared.sites.Site.{Site}
use Rattle.merge_link.specs.Sites.{the_site}

-- the greatest minimum and the least maximum of all imports that end at this one
unfoldable pub met_at : List Part → Site → Limits
met_at parts s = linking.met_limits (named_modules parts) (the_site s)

-- the same, of those among the imports `ts`
unfoldable pub met_of : List Part → List Site → Site → Limits
met_of parts ts s = linking.met (linking.demands (named_modules parts) (the_site s) (map the_site ts))

-- the limits that an import asks for
abbrev pub asked_limits : List linking.Part → linking.Site → Option Limits
asked_limits lp t = linking.import_at lp t >>= λ i. linking.limits_of i.desc

-- the import asks for no limits of a staying import, or for these limits of the one with this
-- number
abbrev pub IsDemand : List linking.Part → linking.Site → linking.End → Option (ℕ × Limits) → Type 0
IsDemand lp t (linking.Defined e) o = o ≡ None
IsDemand lp t (linking.Outside u) None = asked_limits lp t ≡ None
IsDemand lp t (linking.Outside u) (Some d) = (slice_get (linking.sites lp) d.0 ≡ Some u) × (asked_limits lp t ≡ Some d.1)

-- the limits `met`, if the import is a table or memory that ends at itself
abbrev pub kept_of : List linking.Part → linking.Site → linking.End → Limits → Option Limits
kept_of lp s e met = cond (linking.is_outside s (Some e)) (asked_limits lp s >>= λ l. Some met) None

abbrev pub clash_of : linking.Site → Option Limits → Option LinkFault
clash_of s limits = limits >>= λ l. cond (is_under l.max l.min) (Some (LimitsClash s.part s.import)) None
