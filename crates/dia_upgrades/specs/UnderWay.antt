-- Lines that are found one after another: what is known of them, and what is written.
use Rattle.std.specs.Prelude.{◌≡◌, ℕ, ◌+◌, ◌<◌, ◌^◌, ◌==◌, ◌&&◌, Bool, true, false, if◌then◌else◌, List, [], ◌∷◌, ◌++◌, length, map, string_bytes, Option, Result, Ok, Err}
use Rattle.std.specs.Global.{Global, Vec}
use Rattle.std.specs.declared.string.String.{String}
use Rattle.std.specs.List.{list_any}
use Rattle.std.specs.Option.{option_map, option_map_or}
use Rattle.std.specs.Io.KnownBytes.{Appends}
use Rattle.dia_book.specs.Dictionary.{Dictionary}
use Rattle.dia_book.specs.declared.book.Book.{Ghosts as Reads}
use Rattle.dia_io.specs.declared.Exit.{Exit}
use Rattle.dia_io.specs.declared.Exit.TheVariants.{Yes, No}
use Rattle.dia_io.specs.declared.Input.{Input}
use Rattle.dia_io.specs.declared.Inputs.{Inputs}
use Rattle.dia_io.specs.declared.RunFault.{RunFault}
use Rattle.dia_io.specs.declared.RunFault.TheVariants.{Device, NoMemory}
use Rattle.dia_io.specs.Writing.{AppendsFront}
use Rattle.dia_dict.specs.declared.IndexedBook.{IndexedBook}
use Rattle.dia_accepted.specs.Accepted.{PlainEntry, PlainRecorded, plain_entry, plain_recorded}
use Rattle.dia_accepted.specs.declared.list.Entry.{Entry}
use Rattle.dia_accepted.specs.declared.recorded.Recorded.{Recorded}
use Rattle.dia_accepted.specs.declared.counting.Causes.{Causes}
use Rattle.dia_accepted.specs.Causes.{has_cause, once_of as recorded_once}
use Rattle.dia_accepted.specs.Seen.{AreCauses as RecordedCauses}
use Rattle.dia_accepted.specs.Words.{cause_text}
use Rattle.dia_breaking.specs.declared.line.Breaks.{Breaks}
use Rattle.dia_breaking.specs.declared.line.Line.{Line}
use Rattle.dia_breaking.specs.declared.upgrade.Upgrade.{Upgrade}
use Rattle.dia_breaking.specs.LineParts.{plain_parts}
use Rattle.dia_breaking.specs.Messages.{IsLineMessage, Stock}
use Rattle.dia_breaking.specs.Sides.{Sides}
use Rattle.dia_breaking.specs.Upgrades.{other_length_of, sides_of, stock_of}
use Rattle.dia_upgrades.specs.declared.asked.Asked.{Asked}
use Rattle.dia_upgrades.specs.declared.pending.Pending.{Pending}
use Rattle.dia_upgrades.specs.declared.reporting.Counts.{Counts}
use Rattle.dia_upgrades.specs.declared.reporting.Findings.{Findings}
use Rattle.dia_upgrades.specs.declared.reporting.Findings.TheVariants as found
use Rattle.dia_upgrades.specs.declared.reporting.BooksAnswer.{BooksAnswer}
use Rattle.dia_upgrades.specs.declared.reporting.BreakingAnswer.{BreakingAnswer}
use Rattle.dia_upgrades.specs.declared.seen.First.{First}
use Rattle.dia_upgrades.specs.declared.seen.Seen.{Seen}
use Rattle.dia_upgrades.specs.declared.lines.Listing.{Listing}
use Rattle.dia_upgrades.specs.Begun.{IsBegun, IsBegunOrWhole, IsOutcomeBegun, IsOutcomeBegunOrWhole}
use Rattle.dia_upgrades.specs.Outcome.{IsBreakingOutcome, IsListed, accepted_of, counted}
use Rattle.dia_upgrades.specs.Report.{IsReport}
use Rattle.dia_upgrades.specs.Stale.{failing}
use Rattle.dia_upgrades.specs.Recorded.{AreParts, AreRecorded, IsAfter, IsLineRecorded, IsRecordedOf, Says, causes_written, row_of, says_of, written}
use Rattle.dia_upgrades.specs.Rows.{AreCauses, FirstLine, HasSeen, Row, cause_among, digits_line, first_of, firsts_of, left_of}
use Rattle.dia_upgrades.specs.Writing.{Writing, stale_text}

-- ---- what is put

-- since it began, so much was put that this text is put and pending
abbrev pub IsPut : Option (List ℕ) → Option (List ℕ) → Pending → List ℕ → Type 0
IsPut begun put pending text = (out : List ℕ) × Appends begun put out × (text ≡ out ++ pending.bytes.items)

-- what is written where a call fails of a text that was to be put and to be pending
abbrev pub Occurs : RunFault → Option (List ℕ) → Option (List ℕ) → Pending → List ℕ → Type 0
Occurs Device begun put pending text = AppendsFront begun put text
Occurs NoMemory begun put pending text = IsPut begun put pending text

-- and where nothing is pending any more
abbrev pub OccursPut : RunFault → Option (List ℕ) → Option (List ℕ) → List ℕ → Type 0
OccursPut Device begun put text = AppendsFront begun put text
OccursPut NoMemory begun put text = Appends begun put text

-- the same of a call that puts what is pending, after one that ended so
abbrev pub OccursAfter : {U : Type 0} → Result U RunFault → RunFault → Option (List ℕ) → Option (List ℕ) → Pending → Type 0
OccursAfter (Err Device) fault put new pending = (fault ≡ Device) × (new ≡ put)
OccursAfter (Err NoMemory) fault put new pending = (begun : Option (List ℕ)) (text : List ℕ) → IsPut begun put pending text → OccursPut fault begun new text
OccursAfter (Ok u) Device put new pending = (begun : Option (List ℕ)) (text : List ℕ) → IsPut begun put pending text → AppendsFront begun new text
OccursAfter (Ok u) NoMemory put new pending = ⊥

-- the digits of a message, on a line of their own
abbrev pub plain_digits : Option (String Global) → Option (List ℕ)
plain_digits digits = option_map (λ d. string_bytes d) digits

abbrev pub digits_text : Option (String Global) → List ℕ
digits_text digits = digits_line (plain_digits digits)

-- the text of a line that is written now, if it is
abbrev pub shown_text : Option (String Global) → List ℕ
shown_text shown = option_map_or (λ s. string_bytes s) shown []

-- what is written of lines as they are found: with `--once` nothing
abbrev pub text_shown : Writing → Asked → List Row → List ℕ
text_shown w asked left = if asked.once then [] else written w left

-- ---- what is known

abbrev pub is_any : List Row → Bool
is_any [] = false
is_any (t ∷ recorded) = true

-- how many lines are counted, where one more comes that counts or not
abbrev pub lines_after : Bool → ℕ → ℕ
lines_after is_other n = if is_other then n else counted (n + 1)

-- the list was asked for these lines, and they are counted
pub record AreJudged (list : List PlainEntry) (seen : Seen) (recorded apart : List Row) : Type 0 where
  pub accepting : HasSeen seen.accepting list (recorded ++ apart)
  pub lines_are : seen.lines ≡ counted (length (left_of list recorded))
  pub accepted_are : seen.accepted ≡ counted (length (accepted_of list recorded))
  pub is_some_is : seen.is_some ≡ is_any recorded

abbrev pub plain_first : First → FirstLine
plain_first first = record { words = string_bytes first.words; parts = plain_parts first.parts; digits = plain_digits first.digits }

-- what is stored of the first line of each cause: only where each cause has one line
abbrev pub firsts_in : Asked → List Row → List FirstLine
firsts_in asked left = if asked.once then firsts_of left else []

-- the causes of those that are left are stored
pub record AreKept (asked : Asked) (forgets : Bool) (list : List PlainEntry) (place visits : ℕ) (seen : Seen) (recorded apart : List Row) : Type 0 where
  pub causes : AreCauses forgets seen.causes (left_of list recorded) place visits
  pub meanings : AreCauses forgets seen.meanings (left_of list apart) place visits
  pub firsts : map plain_first seen.firsts.items ≡ firsts_in asked (left_of list recorded)

-- so these lines are known, the last ones of the command at this place
pub record AreSeen (asked : Asked) (forgets : Bool) (list : List PlainEntry) (place visits : ℕ) (seen : Seen) (recorded apart : List Row) : Type 0 where
  pub judged : AreJudged list seen recorded apart
  pub are_kept : AreKept asked forgets list place visits seen recorded apart

-- one more line is known, and this text is written of it
abbrev pub Sees : Writing → Asked → ℕ → Seen → Seen → Row → List ℕ → Type 0
Sees w asked place old new t text = (forgets : Bool) (list : List PlainEntry) (visits : ℕ) (recorded apart : List Row) → visits < 2 ^ 63
    → AreSeen asked forgets list place visits old recorded apart → AreSeen asked forgets list place visits new (recorded ++ t ∷ []) apart × (text ≡ text_shown w asked (left_of list (t ∷ [])))

-- these more lines are known, of meanings that aren't shown
abbrev pub SeesApart : Asked → ℕ → Seen → Seen → List Row → Type 0
SeesApart asked place old new more = (forgets : Bool) (list : List PlainEntry) (visits : ℕ) (recorded apart : List Row) → visits < 2 ^ 63
    → AreSeen asked forgets list place visits old recorded apart → AreSeen asked forgets list place visits new recorded (apart ++ more)

module _ {A B : Type 0} {a : Reads A} {b : Reads B} where
  -- the bytes are the message of a line of what was found of a command
  abbrev pub IsMessageIn : Upgrade A B a b → Breaks → Line → List ℕ → Type 0
  IsMessageIn up breaks = IsLineMessage (sides_of up) (stock_of up) breaks.command breaks.sites.items

  -- such a line is reported so
  abbrev pub IsRecordedIn : Upgrade A B a b → Breaks → ℕ → Bool → Line → List Row → Type 0
  IsRecordedIn up breaks place messages =
      IsLineRecorded place messages (says_of (sides_of up) (other_length_of up) breaks.command breaks.sites.items) (IsMessageIn up breaks)

-- where a line comes that says this, and that is followed by its message or not: it is stored, unless its cause is known
pub record IsStored (causes : Causes) (says : Says) (are : List ℕ → Type 0) (has : Bool) (old new : List First) : Type 0 where
  pub digits : Option (List ℕ)
  pub is_after : IsAfter are has (digits_line digits)
  pub is_stored : (forgets : Bool) (recorded : List PlainRecorded) (command visits : ℕ) → RecordedCauses forgets causes recorded command visits
      → map plain_first new ≡ map plain_first old ++ (if list_any (has_cause (cause_text says.words)) recorded then [] else first_of (row_of 0 says digits) ∷ [])

-- this is written of the causes of first lines, which so many commands have as were counted
abbrev pub IsTextOfCauses : Writing → Seen → List ℕ → Type 0
IsTextOfCauses w seen text = (forgets : Bool) (recorded : List PlainRecorded) (command visits : ℕ) → RecordedCauses forgets seen.causes recorded command visits
    → text ≡ causes_written w (map (cause_among recorded) (map plain_first seen.firsts.items))

-- ---- both

-- these lines are known, and what is to be written of them is put or pending
pub record IsUnderWay (w : Writing) (asked : Asked) (forgets : Bool) (list : List PlainEntry) (place visits : ℕ) (begun put : Option (List ℕ)) (listing : Listing) (recorded apart : List Row) : Type 0 where
  pub seen : AreSeen asked forgets list place visits listing.seen recorded apart
  pub is_put : IsPut begun put listing.pending (text_shown w asked (left_of list recorded))

-- it goes on with these lines, and with these apart
abbrev pub GoesOn : Writing → Asked → ℕ → Option (List ℕ) → Option (List ℕ) → Listing → Listing → List Row → List Row → Type 0
GoesOn w asked place put_old put old new more others = (forgets : Bool) (list : List PlainEntry) (visits : ℕ) (begun : Option (List ℕ)) (recorded apart : List Row) → visits < 2 ^ 63
    → IsUnderWay w asked forgets list place visits begun put_old old recorded apart → IsUnderWay w asked forgets list place visits begun put new (recorded ++ more) (apart ++ others)

-- it stops after these lines, or in the last of them
abbrev pub StopsAfter : Writing → Asked → ℕ → RunFault → Option (List ℕ) → Option (List ℕ) → Listing → Listing → List Row → Type 0
StopsAfter w asked place fault put_old put old new more = (forgets : Bool) (list : List PlainEntry) (visits : ℕ) (begun : Option (List ℕ)) (recorded apart : List Row) → visits < 2 ^ 63
    → IsUnderWay w asked forgets list place visits begun put_old old recorded apart → Occurs fault begun put new.pending (text_shown w asked (left_of list (recorded ++ more)))

-- among lines that report these
pub record StopsAmong (w : Writing) (asked : Asked) (place : ℕ) (fault : RunFault) (put_old put : Option (List ℕ)) (old new : Listing) (is : Line → List Row → Type 0) (lines : List Line) : Type 0 where
  pub more : List Row
  pub rest : List Row
  pub are_parts : AreParts is lines (more ++ rest)
  pub stops : StopsAfter w asked place fault put_old put old new more

-- before the lines of a command, or among them
pub data StopsIn (w : Writing) (s : Sides) (k : Stock) (asked : Asked) (lengths : List ℕ) (place : ℕ) (fault : RunFault) (put_old put : Option (List ℕ)) (old new : Listing) : Type 0 where
  before : StopsAfter w asked place fault put_old put old new [] → StopsIn w s k asked lengths place fault put_old put old new
  among : (following : ℕ) (more rest others : List Row) → IsRecordedOf s k asked.messages asked.meaning lengths place old.budget following (more ++ rest) others
      → StopsAfter w asked place fault put_old put old new more → StopsIn w s k asked lengths place fault put_old put old new

-- among the lines of commands, of which these are left
pub record AreFirstLines (s : Sides) (asked : Asked) (list : List PlainEntry) (places : List ℕ) (first : List Row) : Type 0 where
  pub front : List ℕ
  pub back : List ℕ
  pub recorded : List Row
  pub apart : List Row
  pub more : List Row
  pub parts : places ≡ front ++ back
  pub are_recorded : AreRecorded s asked.messages asked.meaning front recorded apart
  pub left_are : left_of list recorded ≡ first ++ more

-- ---- all lines

-- these are the lines of the commands, they are known, and what is to be written of them is put or pending
pub record AreUnderWay (w : Writing) (s : Sides) (asked : Asked) (forgets : Bool) (list : List PlainEntry) (places : List ℕ) (begun put : Option (List ℕ)) (listing : Listing) : Type 0 where
  pub recorded : List Row
  pub apart : List Row
  pub place : ℕ
  pub are_recorded : AreRecorded s asked.messages asked.meaning places recorded apart
  pub under_way : IsUnderWay w asked forgets list place (length places) begun put listing recorded apart

-- these are the lines of the commands, they are known, and what is to be written of them is put
pub record AreAllPut (w : Writing) (s : Sides) (asked : Asked) (list : List PlainEntry) (places : List ℕ) (begun put : Option (List ℕ)) (seen : Seen) : Type 0 where
  pub recorded : List Row
  pub apart : List Row
  pub forgets : Bool
  pub place : ℕ
  pub visits : ℕ
  pub are_recorded : AreRecorded s asked.messages asked.meaning places recorded apart
  pub are_seen : AreSeen asked forgets list place visits seen recorded apart
  pub is_put : Appends begun put (text_shown w asked (left_of list recorded))

-- what is written where no line is left: nothing, if so many entries fail
abbrev pub nothing_said : Writing → Bool → Bool → ℕ → List ℕ
nothing_said w meaning is_some failing = if failing == 0 then w.of_nothing meaning is_some else []

-- what is written of what is left of the lines, where so many entries fail
abbrev pub lines_end : Writing → Bool → ℕ → Bool → List ℕ → ℕ → List ℕ
lines_end w meaning lines is_some causes failing = if lines == 0 then nothing_said w meaning is_some failing else causes

-- what is written after all lines, where these entries fail
abbrev pub end_text : Writing → Bool → Bool → List ℕ → Counts → List PlainEntry → List ℕ
end_text w meaning is_some causes counts fails = lines_end w meaning counts.lines is_some causes (length fails) ++ (stale_text w fails ++ w.of_counts counts)

abbrev pub exit_of : ℕ → ℕ → Exit
exit_of lines failing = if lines == 0 && failing == 0 then Yes else No

abbrev pub fails_of : Asked → Vec Entry → List PlainEntry
fails_of asked stale = failing asked.stale (map plain_entry stale.items)

-- what was found of the lines that are known, with these entries of the list
pub record Finds (seen : Seen) (unused stale : Vec Entry) (is : Findings) : Type 0 where
  pub causes : Vec Recorded
  pub meanings : Vec Recorded
  pub found_is : is ≡ found.Listed unused stale seen.lines seen.accepted causes meanings
  pub causes_are : (forgets : Bool) (recorded : List PlainRecorded) (command visits : ℕ) → RecordedCauses forgets seen.causes recorded command visits → map plain_recorded causes.items ≡ recorded_once recorded
  pub meanings_are : (forgets : Bool) (recorded : List PlainRecorded) (command visits : ℕ) → RecordedCauses forgets seen.meanings recorded command visits → map plain_recorded meanings.items ≡ recorded_once recorded

-- how much there is of all
abbrev pub counts_in : Seen → Vec Recorded → Vec Entry → Counts
counts_in seen causes stale = record { lines = seen.lines; causes = length causes.items; accepted = seen.accepted; stale = length stale.items }

-- what was found, how it ends, and what was written after all lines; or why not
abbrev pub Ends : Writing → Asked → Seen → Vec Entry → Vec Entry → Option (List ℕ) → Option (List ℕ) → Result BooksAnswer RunFault → Type 0
Ends w asked seen unused stale old new (Ok listed) = (causes : List ℕ) × IsTextOfCauses w seen causes × (f : Finds seen unused stale listed.found)
    × (listed.exit ≡ exit_of seen.lines (length (fails_of asked stale)))
    × Appends old new (end_text w asked.meaning seen.is_some causes (counts_in seen f.causes stale) (fails_of asked stale))
Ends w asked seen unused stale old new (Err Device) = (is : Findings) × (causes : List ℕ) × IsTextOfCauses w seen causes × (f : Finds seen unused stale is)
    × AppendsFront old new (end_text w asked.meaning seen.is_some causes (counts_in seen f.causes stale) (fails_of asked stale))
Ends w asked seen unused stale old new (Err NoMemory) = new ≡ old

-- ---- what is answered

-- a call of `breaking` over two dictionaries and a list
abbrev pub Answers : Writing → Asked → Input → Dictionary → Dictionary → Option (List ℕ) → Option (List ℕ) → Result BooksAnswer RunFault → Type 0
Answers w asked input a b old new (Ok listed) = (text : List ℕ) × IsListed w asked input a b text listed.exit listed.found × Appends old new text
Answers w asked input a b old new (Err Device) = (text : List ℕ) × IsBegunOrWhole w asked input a b text × AppendsFront old new text
Answers w asked input a b old new (Err NoMemory) = (text : List ℕ) × IsBegun w asked input a b text × Appends old new text

-- over the inputs, in words
abbrev pub Reports : (IndexedBook → Dictionary) → Asked → Inputs → Option (List ℕ) → Option (List ℕ) → Result BreakingAnswer RunFault → Type 0
Reports meaning asked inputs old new (Ok reported) =
    (text : List ℕ) × IsBreakingOutcome asked inputs text reported.exit × IsReport meaning asked inputs reported.report text reported.exit × Appends old new text
Reports meaning asked inputs old new (Err Device) = (text : List ℕ) × IsOutcomeBegunOrWhole asked inputs text × AppendsFront old new text
Reports meaning asked inputs old new (Err NoMemory) = (text : List ℕ) × IsOutcomeBegun asked inputs text × Appends old new text
