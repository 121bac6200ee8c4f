-- The messages of lines show what the lines report, and so each confirmed line does.
use Rattle.std.proofs.Common.{◌≡◌, ℕ, zero, suc, ◌^◌, ◌<◌, get_or, List, [], ◌∷◌, length, map, Some, None, refl, subst}
use Rattle.std.specs.Prelude.{Contains, slice_get}
use Rattle.std.proofs.Math.Logic.{∥∥₁_elim, ∥∥₁_map, ∥∥₁_map₂}
use Rattle.std.proofs.Props.{props}
use Rattle.std.proofs.lemmas.Option.{none-some, same_Some, slice_get-get_or}
use Rattle.dia_book.specs.Dictionary.{IsDictionary}
use Rattle.dia_breaking.specs.declared.line.Cause.{Cause}
use Rattle.dia_breaking.specs.declared.line.Cause.TheVariants as causes
use Rattle.dia_breaking.specs.declared.line.Line.{Line}
use Rattle.dia_breaking.specs.declared.line.Site.{Site}
use Rattle.dia_breaking.specs.declared.line.Standing.TheVariants.{Confirmed}
use Rattle.dia_breaking.specs.Confirmed.{left_following}
use Rattle.dia_breaking.specs.Lengths.{IsLeastFor}
use Rattle.dia_breaking.specs.Listing.{records}
use Rattle.dia_breaking.specs.Messages.{Stock}
use Rattle.dia_breaking.specs.OwnBreaks.{ReportData, RecordsData}
use Rattle.dia_breaking.specs.ShownLines.{EachIsShown, HasSpellableKey, HaveSpellableKeys, IsShown, LinesAreShown, ShowsCause}
use Rattle.dia_breaking.specs.Sides.{Sides}
use Rattle.dia_breaking.specs.Stocks.{IsStock, IsStockOf}
use Rattle.dia_breaking.specs.TheLines.{AreTheLines}
use Rattle.dia_breaking.specs.RecordedMessages.{AreConfirmedWhere, BreaksAsRecorded, IsBroken}
use Rattle.dia_breaking.proofs.CostsOfSides.{AreCostsOf}
use Rattle.dia_breaking.proofs.Lists.{all_in, contains_at}
use Rattle.dia_breaking.proofs.MessageBytes.{message_bytes}
use Rattle.dia_breaking.proofs.ShownAvps.{data_shown, format_shown, m_bit_shown, unknown_shown}
use Rattle.dia_breaking.proofs.ShownLevels.{level_lines_shown}

-- what messages are made of: what AVPs take, and what shortest ones are made of
record IsMadeBy (s : Sides) (k : Stock) : Type 0 where
  costs : AreCostsOf s k.costs
  lengths : List ℕ
  least : IsLeastFor s.sender s.sends k.least lengths

made_by : (s : Sides) (k : Stock) → IsStock s k → ∥ IsMadeBy s k ∥₁
made_by s k stock = ∥∥₁_elim stock (hlevel props) (λ known. of known.0 known.1)
  where
    of : (lengths : List ℕ) → IsStockOf s lengths k → ∥ IsMadeBy s k ∥₁
    of lengths is = ∥∥₁_map₂ is.least_is is.others_are (λ least others.
        record { costs = (k.least.lengths.items, lengths, k.costs.others, least.is_least.lengths, least.are_lengths, others, is.costs_are); lengths = lengths; least = least })

module _ (s : Sides) (k : Stock) (c : ℕ) (sites : List Site) where
  module _ (lines : List Line) (sa : IsDictionary s.sender) (sb : IsDictionary s.receiver) (few : length sites < 2 ^ 64) (all : AreTheLines s c sites (map records lines)) (made : IsMadeBy s k)
      (line : Line) (inside : Contains lines line) (spellable : HasSpellableKey line.cause) (recorded : RecordsData s line.cause) (bytes : List ℕ) (broken : BreaksAsRecorded s k c sites line bytes) where
    shows_cause : (cause : Cause) → line.cause ≡ cause → ShowsCause s k c sites line bytes cause
    shows_cause (causes.Level level) is =
        level_lines_shown s k c sites lines line level bytes sa sb few all made.costs inside is (message_bytes s k c sites line bytes broken.message) broken
    shows_cause (causes.Unknown key m) is = unknown_shown s k c sites lines line bytes broken made.lengths made.least all inside key m is spellable
    shows_cause (causes.MBit key m) is = m_bit_shown s k c sites lines line bytes broken made.lengths made.least all inside key m is spellable
    shows_cause (causes.Format key (Some found)) is = data_shown s k c sites lines line bytes broken made.lengths made.least all inside key found is spellable recorded
    shows_cause (causes.Format key None) is = format_shown s k c sites lines line bytes broken made.lengths made.least all inside key is spellable recorded
    shows_cause causes.Command is = tt
    shows_cause causes.Application is = tt
    shows_cause (causes.Proxiable set) is = tt
    shows_cause (causes.LevelAsLeaf key) is = tt
    shows_cause (causes.Meaning key) is = tt

  -- a line that is confirmed has a message that breaks
  broken_at : (left : ℕ) (lines : List Line) (i : ℕ) (line : Line) → slice_get lines i ≡ Some line → AreConfirmedWhere s k c sites left lines → line.standing ≡ Confirmed → IsBroken s k c sites line
  broken_at left [] i line at are is = absurd (none-some line at)
  broken_at left (x ∷ xs) zero line at are is =
      subst (λ (l : Line). l.standing ≡ Confirmed → IsBroken s k c sites l) (same_Some x line at) (λ here. (are.0.0 here).1) is
  broken_at left (x ∷ xs) (suc i) line at are is = broken_at (left_following left x) xs i line at are.1 is

  each : (lines : List Line) → IsDictionary s.sender → IsDictionary s.receiver → length sites < 2 ^ 64 → AreTheLines s c sites (map records lines) → IsMadeBy s k → ReportData s lines
      → HaveSpellableKeys lines → (left : ℕ) → AreConfirmedWhere s k c sites left lines → EachIsShown s k c sites lines
  each lines sa sb few all made recorded spellable left are = λ i d within is. at i (get_or lines i d) (slice_get-get_or lines i d within) is
    where
      at : (i : ℕ) (line : Line) → slice_get lines i ≡ Some line → line.standing ≡ Confirmed → IsShown s k c sites line
      at i line here is =
          let inside = contains_at lines i line here in
          let (bytes, broken) = broken_at left lines i line here are is in (
            bytes,
            broken,
            shows_cause lines sa sb few all made line inside (all_in (λ (l : Line). HasSpellableKey l.cause) lines line spellable inside)
                (all_in (λ (l : Line). RecordsData s l.cause) lines line recorded inside) bytes broken line.cause refl,
          )

  pub each_shown : (lines : List Line) → IsDictionary s.sender → IsDictionary s.receiver → IsStock s k → length sites < 2 ^ 64 → ∥ AreTheLines s c sites (map records lines) ∥₁ → ∥ ReportData s lines ∥₁
      → HaveSpellableKeys lines → (left : ℕ) → AreConfirmedWhere s k c sites left lines → ∥ EachIsShown s k c sites lines ∥₁
  each_shown lines sa sb stock few all recorded spellable left are =
      ∥∥₁_map₂ (∥∥₁_map₂ all recorded (λ x y. let both : AreTheLines s c sites (map records lines) × ReportData s lines = (x, y) in both)) (made_by s k stock) (λ known made. each lines sa sb few known.0 made known.1 spellable left are)

pub line_shown : LinesAreShown
line_shown s k c sites lines line bytes sa sb stock few all inside recorded spellable broken =
    ∥∥₁_map (made_by s k stock) (λ made. shows_cause s k c sites lines sa sb few all made line inside spellable recorded bytes broken line.cause refl)
