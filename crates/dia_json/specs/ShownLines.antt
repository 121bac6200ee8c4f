-- `show` as JSON of a text that has a message a line.
use Rattle.std.specs.Prelude.{◌≡◌, ◌≢◌, ℕ, ◌==◌, ◌⊎◌, Bool, List, ◌++◌, Option, codes, string_bytes}
use Rattle.std.specs.Fmt.{decimal}
use Rattle.std.specs.List.{after_first, flat_map}
use Rattle.std.specs.Str.Lines.{lines}
use Rattle.std.specs.Io.KnownBytes.{Appends}
use Rattle.dia_dict.specs.Dictionary.{Dictionary}
use Rattle.dia_dict.specs.declared.IndexedBook.{IndexedBook}
use Rattle.dia_io.specs.declared.Exit.{Exit}
use Rattle.dia_io.specs.declared.Exit.TheVariants.{Bad}
use Rattle.dia_io.specs.declared.Input.{Input}
use Rattle.dia_io.specs.declared.Input.TheVariants.{TooLong}
use Rattle.dia_io.specs.declared.Inputs.{Inputs}
use Rattle.dia_streams.specs.FeedToSink.{FrontAnswered, LinesAnswered}
use Rattle.dia_streams.specs.Lines.{recorded_lines}
use Rattle.dia_refused_json.specs.Recording.{IsRefusal, IsRefusedOr, RefusedDictionary}
use Rattle.dia_run.specs.declared.commands.Outcome.{Outcome}
use Rattle.dia_run.specs.Outcome.{IsMessageShown}
use Rattle.dia_run.specs.Texts.{line, IsDictionaryText, IsMessageText, IsNoMessageText}
use Rattle.dia_show.specs.declared.lines.Opening.{Opening}
use Rattle.dia_show.specs.declared.lines.Opening.TheVariants.{Ready, Refused}
use Rattle.dia_show.specs.declared.reporting.Reported.{Reported}
use Rattle.dia_show.specs.declared.reporting.Report.{Report as ShownReport}
use Rattle.dia_show.specs.declared.reporting.Report.TheVariants.{OfShow, NoValues}
use Rattle.dia_report.specs.declared.reporting.Report.TheVariants.{Done}
use Rattle.dia_show.specs.Lines.{AreOutcomesListed}
use Rattle.dia_show.specs.Listing.{Manner}
use Rattle.dia_show.specs.Words.{Word, IsNoValuesText, IsValuesText, plain_words}
use Rattle.dia_json.specs.Messages.{RecordsMessage}
use Rattle.dia_json.specs.Runs.{IsNothing, IsRefusalFront, IsRefusalPut}
use Rattle.dia_json.specs.Whole.{RefusesValues, RecordsValues}

-- ---- a line

-- `show` refuses the message of the line, and writes this without JSON
abbrev pub RefusesMessage : Dictionary → Input → List ℕ → Type 0
RefusesMessage d message recorded = ((bytes : List ℕ) × IsMessageText message bytes × IsMessageShown d bytes (line recorded) Bad) ⊎ IsNoMessageText message recorded

-- the objects for the message of a line: those of `show`, or the one of its refusal, without a place in the line
abbrev pub IsLineShown : Manner → Dictionary → Input → List ℕ → Exit → Type 0
IsLineShown m d message text exit = ((bytes : List ℕ) × IsMessageText message bytes × RecordsMessage m d bytes text exit)
    ⊎ IsRefusal (RefusesMessage d message) TooLong text exit

abbrev pub OfLine : Manner → Dictionary → Input → Outcome → Type 0
OfLine m d message outcome = IsLineShown m d message (string_bytes outcome.text) outcome.exit

-- the member `line` before the others of an object, which follow its brace (123)
abbrev pub numbered_row : ℕ → List ℕ → List ℕ
numbered_row n row = line (codes "{\"line\":" ++ decimal n ++ codes "," ++ after_first (λ c. c == 123) row)

-- each object, which is a line of the text, with the number of the message's line
abbrev pub numbered_rows : ℕ → List ℕ → List ℕ
numbered_rows n text = flat_map (numbered_row n) (lines text)

abbrev pub recorded : ℕ → Outcome → List ℕ
recorded n outcome = numbered_rows n (string_bytes outcome.text)

-- ---- the inputs

-- the dictionary is refused, or the words of values
abbrev pub RefusesInputs : Inputs → List ℕ → Exit → Type 0
RefusesInputs inputs text exit = RefusedDictionary inputs text exit ⊎ RefusesValues inputs text exit

-- the inputs are a dictionary and words, of which P holds
abbrev pub WithInputs : Bool → Inputs → (Manner → Dictionary → Type 0) → Type 0
WithInputs names inputs P = (d : Dictionary) × (words : List Word) × IsDictionaryText inputs.first d × IsValuesText inputs.table words
    × P (record { words = words; names = names }) d

module _ (names : Bool) (inputs : Inputs) (fed_old fed put_old put : Option (List ℕ)) where
  -- each line has its objects; or an input is refused in one, and no line is read
  abbrev pub ShowsLines : Exit → Type 0
  ShowsLines exit = WithInputs names inputs (λ m d. AreOutcomesListed (OfLine m d) recorded fed_old fed put_old put exit)
      ⊎ IsRefusalPut (RefusesInputs inputs) fed_old fed put_old put exit

  -- a beginning of that was put
  abbrev pub ShowsFront : Type 0
  ShowsFront = WithInputs names inputs (λ m d. FrontAnswered (OfLine m d) (recorded_lines recorded) fed_old fed put_old put)
      ⊎ (IsRefusalFront (RefusesInputs inputs) fed_old fed put_old put ⊎ IsNothing fed_old fed put_old put)

  -- the objects of whole lines were put, and nothing else
  abbrev pub ShowsWhole : Type 0
  ShowsWhole = WithInputs names inputs (λ m d. LinesAnswered (OfLine m d) (recorded_lines recorded) fed_old fed put_old put)
      ⊎ IsNothing fed_old fed put_old put

-- ---- reports

-- the report has nothing of lines that were read, or else which input is refused
abbrev pub IsLinesReport : Inputs → ShownReport → List ℕ → Exit → Type 0
IsLinesReport inputs (OfShow report) text exit = IsRefusedOr (λ report text exit. (report ≡ Done) × (exit ≢ Bad)) report text exit
IsLinesReport inputs (NoValues bad) text exit = IsNoValuesText inputs.table bad × RecordsValues bad text exit

-- and this is what was put
abbrev pub HasLinesReport : Inputs → (put_old put : Option (List ℕ)) → Reported → Type 0
HasLinesReport inputs put_old put reported = (text : List ℕ) × IsLinesReport inputs reported.report text reported.exit × Appends put_old put text

-- what was read before the lines: the dictionary and the words, or one of them is refused with this text
abbrev pub IsOpening : (IndexedBook → Dictionary) → Bool → Inputs → Opening → Type 0
IsOpening meaning names inputs (Ready manner first) =
    IsDictionaryText inputs.first (meaning first.value.book) × IsValuesText inputs.table (plain_words manner.value.words) × (manner.value.names ≡ names)
IsOpening meaning names inputs (Refused answered) = IsLinesReport inputs answered.report (string_bytes answered.text) answered.exit
    × RefusesInputs inputs (string_bytes answered.text) answered.exit × (answered.exit ≡ Bad)
