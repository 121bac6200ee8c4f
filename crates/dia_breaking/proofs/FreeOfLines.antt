-- What messages that are free of lines show.
use Rattle.std.proofs.Common.{◌≡◌, ℕ, List, [], length, map, sym, ap, ◌∙◌, arith, inl, inr}
use Rattle.std.specs.Prelude.{◌⊎◌, Contains, slice_get}
use Rattle.dia_wire.specs.declared.Header.{Header}
use Rattle.dia_wire.specs.Wire.{PlainAvp}
use Rattle.dia_book.specs.Dictionary.{Dictionary, PlainDefinition}
use Rattle.dia_terms.specs.declared.Unknown.{Unknown}
use Rattle.dia_terms.specs.declared.Sends.{Sends}
use Rattle.dia_breaking_sites.specs.Selection.{AreValid}
use Rattle.dia_breaking.specs.declared.line.Cause.{Cause}
use Rattle.dia_breaking.specs.declared.line.Cause.TheVariants as causes
use Rattle.dia_breaking.specs.declared.line.Line.{Line}
use Rattle.dia_breaking.specs.declared.line.Site.{Site}
use Rattle.dia_breaking.specs.Confirmed.{recorded_of}
use Rattle.dia_breaking.specs.Free.{IsLineOf, IsFreeLevel, RecordsFlags, IsFree, AreValidWhereFree}
use Rattle.dia_breaking.specs.Headers.{RecordsRefusal}
use Rattle.dia_breaking.specs.Corrected.{AreValidOnceCorrected, IsUnsent}
use Rattle.dia_breaking.specs.OwnKeys.{data_key, flags_key}
use Rattle.dia_breaking.specs.Sides.{sides, answer}
use Rattle.dia_breaking.proofs.Lists.{same_image}

no_member : (lines : List Line) (line : Line) → lines ≡ [] → Contains lines line → ⊥
no_member lines line none (i, within, is) = absurd (let e : length lines ≡ 0 = ap length none in omega (arith, within, e))

-- where nothing is reported, each message is free
pub nothing_recorded : (da db : Dictionary) (who : Sends) (u : Unknown) (sites : List Site) (lines : List Line) (c : ℕ) → AreValidWhereFree (sides da db who u) (answer c sites lines) → lines ≡ [] → AreValid da db who u c
nothing_recorded da db who u sites lines c valid none bytes sent =
    valid bytes sent (record {
      selects = λ recorded. absurd (no_member lines recorded.0 none recorded.1);
      proxiable = λ other is recorded. absurd (no_member lines recorded.0 none recorded.3);
      levels = λ other is a b inner lies. record {
        level = λ line recorded inside. absurd (no_member lines line none inside);
        flags = λ line key v inside. absurd (no_member lines line none inside);
        content = λ line key v inside. absurd (no_member lines line none inside);
      };
    })

-- where each is valid, each that is free is
pub all_valid : (da db : Dictionary) (who : Sends) (u : Unknown) (sites : List Site) (lines : List Line) (c : ℕ) → AreValid da db who u c → AreValidWhereFree (sides da db who u) (answer c sites lines)
all_valid da db who u sites lines c valid bytes sent free = valid bytes sent

-- where none is sent
pub unsent_valid : (da db : Dictionary) (who : Sends) (u : Unknown) (c : ℕ) → IsUnsent (sides da db who u) c → AreValid da db who u c
unsent_valid da db who u c unsent bytes sent = absurd (unsent bytes sent)

pub unsent_corrected : (da db : Dictionary) (who : Sends) (u : Unknown) (sites : List Site) (lines : List Line) (c : ℕ) → IsUnsent (sides da db who u) c
    → AreValidOnceCorrected (sides da db who u) (answer c sites lines)
unsent_corrected da db who u sites lines c unsent bytes corrected sent app site other header level asked mends message = absurd (unsent bytes sent)

-- ---- lines of which something else is known

module _ (da db : Dictionary) (u : Unknown) (sites : List Site) (old new : List Line) (c : ℕ) (same : map recorded_of new ≡ map recorded_of old) where
  -- a line of these sites and these causes
  record There (line : Line) : Type 0 where
    other : Line
    inside : Contains new other
    site : other.site ≡ line.site
    cause : other.cause ≡ line.cause

  there : (line : Line) → Contains old line → There line
  there line inside =
      let r = same_image recorded_of old new line (sym same) inside in
      record { other = r.0; inside = r.1; site = ap (λ (p : ℕ × Cause). p.0) r.2; cause = ap (λ (p : ℕ × Cause). p.1) r.2 }

  its_levels : (line : Line) (t : There line) (x y : PlainDefinition) → IsLineOf da db sites c line x y → IsLineOf da db sites c t.other x y
  its_levels line t x y (site, at, read) = (site, ap (slice_get sites) t.site ∙ at, read)

  free_level : (x y : PlainDefinition) (avps : List PlainAvp) → IsFreeLevel da db u sites new c x y avps → IsFreeLevel da db u sites old c x y avps
  free_level x y avps free = record {
    level = λ line recorded inside cause of. let t = there line inside in free.level t.other recorded t.inside (t.cause ∙ cause) (its_levels line t x y of);
    flags = λ line key v inside is. let t = there line inside in free.flags t.other key v t.inside (ap flags_key t.cause ∙ is);
    content = λ line key v inside is. let t = there line inside in free.content t.other key v t.inside (ap data_key t.cause ∙ is);
  }

  refusal : RecordsRefusal old → RecordsRefusal new
  refusal (line, inside, cause) = let t = there line inside in (t.other, t.inside, by t cause)
    where
      by : (t : There line) → (line.cause ≡ causes.Command) ⊎ (line.cause ≡ causes.Application) → (t.other.cause ≡ causes.Command) ⊎ (t.other.cause ≡ causes.Application)
      by t (inl e) = inl (t.cause ∙ e)
      by t (inr e) = inr (t.cause ∙ e)

  flags_recorded : (other : PlainDefinition) (flags : ℕ) → RecordsFlags da db sites old c other flags → RecordsFlags da db sites new c other flags
  flags_recorded other flags (line, set, x, inside, cause, of, has) = let t = there line inside in (t.other, set, x, t.inside, t.cause ∙ cause, its_levels line t x other of, has)

  still_free : (header : Header) (command : PlainDefinition) (avps : List PlainAvp) → IsFree da db u sites new c header command avps → IsFree da db u sites old c header command avps
  still_free header command avps free = record {
    selects = λ recorded. free.selects (refusal recorded);
    proxiable = λ other is recorded. free.proxiable other is (flags_recorded other header.flags recorded);
    levels = λ other is a b inner lies. free_level a b inner (free.levels other is a b inner lies);
  }

  pub still_valid : (who : Sends) → AreValidWhereFree (sides da db who u) (answer c sites old) → AreValidWhereFree (sides da db who u) (answer c sites new)
  still_valid who valid bytes sent free = valid bytes sent (still_free sent.header sent.command sent.avps free)

  pub still_corrected : (who : Sends) → AreValidOnceCorrected (sides da db who u) (answer c sites old) → AreValidOnceCorrected (sides da db who u) (answer c sites new)
  still_corrected who valid bytes corrected sent app site other header level asked mends message =
      valid bytes corrected sent app site other header level (λ a b inner lies. free_level a b inner (asked a b inner lies)) mends message
