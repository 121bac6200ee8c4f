-- What is told of a command, by what was found of it.
use Rattle.std.proofs.Common.{◌≡◌, ℕ, Bool, false, List, [], subst}
use Rattle.dia_breaking.specs.declared.line.Breaks.{Breaks}
use Rattle.dia_breaking.specs.declared.line.Line.{Line}
use Rattle.dia_breaking.specs.Confirmed.{HaveStandings, left_after}
use Rattle.dia_breaking.specs.Free.{AreValidWhereFree}
use Rattle.dia_breaking.specs.Listing.{AreUnchecked}
use Rattle.dia_breaking.specs.Messages.{IsLineMessage, Stock}
use Rattle.dia_breaking.specs.OwnBreaks.{ReportData}
use Rattle.dia_breaking.specs.Sides.{Sides, answer}
use Rattle.dia_breaking.specs.TheLines.{HasTheLines}
use Rattle.dia_breaking.specs.TheMeanings.{AreMeaningsOf, AreMeant, HoldsOfLevels, IsReadAsSent}
use Rattle.dia_breaking.specs.RecordedMessages.{AreConfirmedWhere}
use Rattle.dia_upgrades.specs.Recorded.{AreParts, AreShown, IsLineRecorded, IsRecordedOf, apart_of, number_at, says_at}
use Rattle.dia_upgrades.specs.Rows.{Row}

-- what was found of a command, by its number
pub record IsFound (s : Sides) (k : Stock) (meaning : Bool) (number budget following : ℕ) (breaks : Breaks) (shown : List Line) : Type 0 where
  pub are_lines : HasTheLines s (answer number breaks.sites.items breaks.lines.items)
  pub free : ∥ AreValidWhereFree s (answer number breaks.sites.items breaks.lines.items) ∥₁
  pub confirmed : AreConfirmedWhere s k number breaks.sites.items budget breaks.lines.items
  pub standings : HaveStandings budget breaks.lines.items
  pub after_is : following ≡ left_after budget breaks.lines.items
  pub formats : ∥ ReportData s breaks.lines.items ∥₁
  pub are_meanings : AreMeaningsOf s (answer number breaks.sites.items breaks.lines.items) breaks.meanings.items
  pub unchecked : AreUnchecked breaks.meanings.items
  pub all_meant : ∥ HoldsOfLevels s (answer number breaks.sites.items breaks.lines.items) (AreMeant s breaks.meanings.items) ∥₁
  pub read_alike : breaks.meanings.items ≡ [] → ∥ HoldsOfLevels s (answer number breaks.sites.items breaks.lines.items) (IsReadAsSent s) ∥₁
  pub are_shown : AreShown meaning breaks.lines.items breaks.meanings.items shown

pub recorded_so : (s : Sides) (k : Stock) (messages meaning : Bool) (lengths : List ℕ) (place number budget following : ℕ) (breaks : Breaks) (shown : List Line) (recorded apart : List Row)
    → number ≡ number_at s.sender place → IsFound s k meaning number budget following breaks shown
    → AreParts (IsLineRecorded place messages (says_at s lengths number breaks.sites.items) (IsLineMessage s k number breaks.sites.items)) shown recorded
    → AreParts (IsLineRecorded place false (says_at s lengths number breaks.sites.items) (IsLineMessage s k number breaks.sites.items)) (apart_of meaning breaks.meanings.items) apart
    → IsRecordedOf s k messages meaning lengths place budget following recorded apart
recorded_so s k messages meaning lengths place number budget following breaks shown recorded apart is found recorded_are apart_are =
    let here = subst (λ (n : ℕ). IsFound s k meaning n budget following breaks shown) is found in record {
      sites = breaks.sites.items;
      lines = breaks.lines.items;
      meanings = breaks.meanings.items;
      shown = shown;
      are_lines = here.are_lines;
      free = here.free;
      confirmed = here.confirmed;
      standings = here.standings;
      after_is = here.after_is;
      formats = here.formats;
      are_meanings = here.are_meanings;
      unchecked = here.unchecked;
      all_meant = here.all_meant;
      read_alike = here.read_alike;
      are_shown = here.are_shown;
      recorded_are = subst (λ (n : ℕ). AreParts (IsLineRecorded place messages (says_at s lengths n breaks.sites.items) (IsLineMessage s k n breaks.sites.items)) shown recorded) is recorded_are;
      apart_are = subst (λ (n : ℕ). AreParts (IsLineRecorded place false (says_at s lengths n breaks.sites.items) (IsLineMessage s k n breaks.sites.items))
          (apart_of meaning breaks.meanings.items) apart) is apart_are;
    }
