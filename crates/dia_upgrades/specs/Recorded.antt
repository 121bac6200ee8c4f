-- What is reported of the commands that are asked for: the lines of each, in their order.
use Rattle.std.specs.Prelude.{◌≡◌, ℕ, ◌+◌, Bool, true, false, if◌then◌else◌, List, [], ◌∷◌, ◌++◌, length, codes, Option}
use Rattle.std.specs.List.{flat_map}
use Rattle.hex.specs.Hex.{encode_lower}
use Rattle.dia_wire.specs.declared.Key.{Key}
use Rattle.dia_terms.specs.declared.sends.Sends.{Sends}
use Rattle.dia_book.specs.Dictionary.{Dictionary, groups}
use Rattle.dia_breaking_sites.specs.Sent.{AreBytes}
use Rattle.dia_breaking_shortest.specs.Exact.{AreExact}
use Rattle.dia_breaking.specs.declared.line.Line.{Line}
use Rattle.dia_breaking.specs.declared.line.Site.{Site}
use Rattle.dia_breaking.specs.declared.line.Standing.{Standing}
use Rattle.dia_breaking.specs.declared.line.Standing.TheVariants.{Confirmed, Unchecked, Undecided}
use Rattle.dia_breaking.specs.Confirmed.{HaveStandings, left_after, most_checked_together}
use Rattle.dia_breaking.specs.Free.{AreValidWhereFree}
use Rattle.dia_breaking.specs.LineParts.{PlainParts, parts_of}
use Rattle.dia_breaking.specs.Lengths.{AreEntryLengths, other_length}
use Rattle.dia_breaking.specs.Listing.{AreUnchecked}
use Rattle.dia_breaking.specs.Messages.{IsLineMessage, Stock}
use Rattle.dia_breaking.specs.Orders.{IsInOrderOf}
use Rattle.dia_breaking.specs.OwnBreaks.{ReportData}
use Rattle.dia_breaking.specs.Stocks.{IsStockOf}
use Rattle.dia_breaking.specs.TheLines.{HasTheLines}
use Rattle.dia_breaking.specs.TheMeanings.{AreMeaningsOf, AreMeant, HoldsOfLevels, IsReadAsSent}
use Rattle.dia_breaking.specs.RecordedMessages.{AreConfirmedWhere, BreaksAsRecorded, IsConfirmedWhere}
use Rattle.dia_breaking.specs.Words.{words_of}
use Rattle.dia_breaking.specs.Sides.{Sides, answer}
use Rattle.dia_run.specs.Texts.{line}
use Rattle.dia_upgrades.specs.declared.asked.Asked.{Asked}
use Rattle.dia_upgrades.specs.Rows.{Cause, Row, causes_of, digits_line}
use Rattle.dia_upgrades.specs.Writing.{Writing, cause_in, line_in}

-- the list is one of the first, then one of the second, and so on
abbrev pub AreParts : {X Y : Type 0} → (X → List Y → Type 0) → List X → List Y → Type 0
AreParts is [] ys = ys ≡ []
AreParts {X} {Y} is (x ∷ xs) ys = (front : List Y) × (rest : List Y) × is x front × AreParts is xs rest × (ys ≡ front ++ rest)

-- so are two lists, the parts of the one beside those of the other. Of a budget each part uses some, and leaves the rest for the next
abbrev pub AreBothParts : {X Y : Type 0} → (X → ℕ → ℕ → List Y → List Y → Type 0) → List X → ℕ → ℕ → List Y → List Y → Type 0
AreBothParts is [] budget following ys zs = (following ≡ budget) × (ys ≡ []) × (zs ≡ [])
AreBothParts {X} {Y} is (x ∷ xs) budget following ys zs = (next : ℕ) × (front : List Y) × (other : List Y) × (rest : List Y) × (others : List Y) × is x budget next front other
    × AreBothParts is xs next following rest others × (ys ≡ front ++ rest) × (zs ≡ other ++ others)

-- ---- a line

-- these bytes on a line of their own: two spaces, and hexadecimal digits
abbrev pub message_line : List ℕ → List ℕ
message_line bytes = line (codes "  " ++ encode_lower bytes)

-- the line of a message, of which these are the bytes
abbrev pub IsMessageLine : (List ℕ → Type 0) → List ℕ → Type 0
IsMessageLine are text = (bytes : List ℕ) × AreBytes bytes × are bytes × (text ≡ message_line bytes)

-- whether a line is followed by its message: where messages are asked for, each but the undecided ones
abbrev pub has_message : Bool → Standing → Bool
has_message messages Confirmed = messages
has_message messages Unchecked = messages
has_message messages Undecided = false

abbrev pub IsAfter : (List ℕ → Type 0) → Bool → List ℕ → Type 0
IsAfter are true text = IsMessageLine are text
IsAfter are false text = text ≡ []

-- what a line says: its words, and its parts
pub record Says : Type 0 where
  pub words : List ℕ
  pub parts : PlainParts

-- a line of the command at this place that says this, and the digits of its message, if one follows
abbrev pub row_of : ℕ → Says → Option (List ℕ) → Row
row_of place says digits = record { command = place; words = says.words; parts = says.parts; digits = digits }

abbrev pub IsLineRecorded : ℕ → Bool → (Line → Says) → (Line → List ℕ → Type 0) → Line → List Row → Type 0
IsLineRecorded place messages says are line recorded =
    (digits : Option (List ℕ)) × IsAfter (are line) (has_message messages line.standing) (digits_line digits) × (recorded ≡ row_of place (says line) digits ∷ [])

-- the text of lines
abbrev pub written : Writing → List Row → List ℕ
written w recorded = flat_map (line_in w) recorded

-- the text of causes
abbrev pub causes_written : Writing → List Cause → List ℕ
causes_written w causes = flat_map (cause_in w) causes

-- what is written of the lines that are left: these lines, or with `--once` one for each cause
abbrev pub answer_written : Writing → Asked → List Row → List ℕ
answer_written w asked left = if asked.once then causes_written w (causes_of left) else written w left

-- ---- a command

abbrev pub says_of : Sides → (Key → ℕ) → ℕ → List Site → Line → Says
says_of s other c sites line = record { words = words_of s other c sites line; parts = parts_of s other c sites line }

-- the number of a command among the definitions, by its place among the commands
abbrev pub number_at : Dictionary → ℕ → ℕ
number_at d place = length (groups d) + place

-- the words of a line, where A's entries have these lengths
abbrev pub words_at : Sides → List ℕ → ℕ → List Site → Line → List ℕ
words_at s lengths c sites line = words_of s (other_length s.sender s.sends lengths) c sites line

-- and its parts
abbrev pub says_at : Sides → List ℕ → ℕ → List Site → Line → Says
says_at s lengths c sites line = says_of s (other_length s.sender s.sends lengths) c sites line

-- for each of A's entries the length of a shortest AVP that A's side sends
abbrev pub AreShortest : Dictionary → Sends → List ℕ → Type 0
AreShortest a who lengths = ∥ ((least : List ℕ) × AreExact a who least × AreEntryLengths a least lengths) ∥₁

-- a line is among those of its command at its site
abbrev pub place_of : Line → ℕ
place_of line = line.site

-- the lines that are shown: those of what breaks; with `--meaning` also those of meanings, which follow the others of their site
abbrev pub AreShown : Bool → List Line → List Line → List Line → Type 0
AreShown true lines meanings shown = IsInOrderOf place_of (lines ++ meanings) shown
AreShown false lines meanings shown = shown ≡ lines

-- the meanings that aren't shown
abbrev pub apart_of : Bool → List Line → List Line
apart_of meaning meanings = if meaning then [] else meanings

-- these are reported of the command at this place: the lines that its dictionaries have. A message that A's side
-- sends, and that breaks in none of their ways, is valid under B. A line is confirmed exactly where its message is checked and
-- breaks as the line reports; which messages are checked follows from the lines' causes and lengths, and from how many bytes may be checked, of
-- which some are left after it; and a line about a format has data that B refuses, if it names some. The bytes of its message follow a line.
-- The meanings are those that its dictionaries have, and none of their messages is checked; they are all AVPs that B reads as another
-- format. Those that aren't shown are reported apart
pub record IsRecordedOf (s : Sides) (k : Stock) (messages meaning : Bool) (lengths : List ℕ) (place budget following : ℕ) (recorded apart : List Row) : Type 0 where
  pub sites : List Site
  pub lines : List Line
  pub meanings : List Line
  pub shown : List Line
  pub are_lines : HasTheLines s (answer (number_at s.sender place) sites lines)
  pub free : ∥ AreValidWhereFree s (answer (number_at s.sender place) sites lines) ∥₁
  pub confirmed : AreConfirmedWhere s k (number_at s.sender place) sites budget lines
  pub standings : HaveStandings budget lines
  pub after_is : following ≡ left_after budget lines
  pub formats : ∥ ReportData s lines ∥₁
  pub are_meanings : AreMeaningsOf s (answer (number_at s.sender place) sites lines) meanings
  pub unchecked : AreUnchecked meanings
  pub all_meant : ∥ HoldsOfLevels s (answer (number_at s.sender place) sites lines) (AreMeant s meanings) ∥₁
  pub read_alike : meanings ≡ [] → ∥ HoldsOfLevels s (answer (number_at s.sender place) sites lines) (IsReadAsSent s) ∥₁
  pub are_shown : AreShown meaning lines meanings shown
  pub recorded_are : AreParts (IsLineRecorded place messages (says_at s lengths (number_at s.sender place) sites) (IsLineMessage s k (number_at s.sender place) sites)) shown recorded
  pub apart_are : AreParts (IsLineRecorded place false (says_at s lengths (number_at s.sender place) sites) (IsLineMessage s k (number_at s.sender place) sites))
      (apart_of meaning meanings) apart

-- ---- all of them

-- these are reported of A's commands at these places, and these apart, where so many bytes may be checked for all of them. Their messages are made of one stock
pub record AreRecorded (s : Sides) (messages meaning : Bool) (places : List ℕ) (recorded apart : List Row) : Type 0 where
  pub lengths : List ℕ
  pub stock : Stock
  pub following : ℕ
  pub are_shortest : AreShortest s.sender s.sends lengths
  pub is_stock : IsStockOf s lengths stock
  pub each : AreBothParts (IsRecordedOf s stock messages meaning lengths) places most_checked_together following recorded apart

-- ---- after a line

-- one text follows it, whatever messages are made of
abbrev pub MessageTextsAreOne : Type 0
MessageTextsAreOne = (s : Sides) (lengths other_lengths : List ℕ) (k l : Stock) (c : ℕ) (sites : List Site) (line : Line) (text other : List ℕ) → IsStockOf s lengths k → IsStockOf s other_lengths l
    → IsMessageLine (IsLineMessage s k c sites line) text → IsMessageLine (IsLineMessage s l c sites line) other → text ≡ other

-- ---- after a confirmed line

-- the text that follows it is that of bytes that break as the line reports
abbrev pub ConfirmedTextsBreak : Type 0
ConfirmedTextsBreak = (s : Sides) (k : Stock) (c : ℕ) (sites : List Site) (left : ℕ) (line : Line) (text : List ℕ) → IsConfirmedWhere s k c sites left line line.standing
    → line.standing ≡ Confirmed → IsMessageLine (IsLineMessage s k c sites line) text → (bytes : List ℕ) × BreaksAsRecorded s k c sites line bytes × (text ≡ message_line bytes)
