-- What is written where `check` and `refute` answer as JSON, and how the program ends.
use Rattle.std.specs.Prelude.{◌≡◌, ℕ, ◌⊎◌, List, [], Option}
use Rattle.std.specs.Io.KnownBytes.{Appends, Consumes}
use Rattle.dia_dict.specs.Dictionary.{Dictionary}
use Rattle.dia_terms.specs.declared.Unknown.{Unknown}
use Rattle.dia_terms.specs.declared.Levels.{Levels}
use Rattle.dia_io.specs.declared.Input.{Input}
use Rattle.dia_io.specs.declared.Inputs.{Inputs}
use Rattle.dia_io.specs.declared.Exit.{Exit}
use Rattle.dia_io.specs.declared.Exit.TheVariants.{Bad}
use Rattle.dia_io.specs.Writing.{AppendsFront}
use Rattle.dia_streams.specs.Lines.{recorded_lines}
use Rattle.dia_streams.specs.FeedToSink.{FrontAnswered, LinesAnswered}
use Rattle.dia_streams.specs.Streams.{SomeRecorded, WholeRecorded}
use Rattle.dia_run.specs.Texts.{IsDictionaryText}
use Rattle.dia_captures.specs.declared.verdicts.Checked.{Checked}
use Rattle.dia_captures.specs.declared.verdicts.Refuted.{Refuted}
use Rattle.dia_captures.specs.declared.summaries.Lines.TheVariants as lines
use Rattle.dia_captures.specs.Counts.{checked_items, refuted_items}
use Rattle.dia_captures.specs.Runs.{AreLinesRecorded, IsStreamPut, IsStreamSummed, each_exit, some_exit}
use Rattle.dia_captures.specs.Summaries.{AreLinesSummed}
use Rattle.dia_captures.specs.Verdicts.{IsLineChecked, IsLineRefuted, IsPieceChecked, checked_exit, refuted_exit}
use Rattle.dia_refused_json.specs.Recording.{RefusedDictionaries, RefusedDictionary}
use Rattle.dia_json.specs.Values.{checked_json, numbered_json, numbered_refuted_json, placed_json, refuted_json}

-- ---- one message

-- the verdict on a message
abbrev pub RecordsChecked : Unknown → Levels → Dictionary → Input → List ℕ → Exit → Type 0
RecordsChecked u most d message text exit =
    (verdict : Checked) × IsLineChecked u most d message verdict × (text ≡ checked_json d verdict) × (exit ≡ checked_exit verdict)

-- `check` of the message
abbrev pub IsCheckJson : Unknown → Levels → Inputs → List ℕ → Exit → Type 0
IsCheckJson u most inputs text exit = ((d : Dictionary) × IsDictionaryText inputs.first d × RecordsChecked u most d inputs.message text exit)
    ⊎ RefusedDictionary inputs text exit

-- both verdicts on a message
abbrev pub RecordsRefuted : Unknown → Levels → Dictionary → Dictionary → Input → List ℕ → Exit → Type 0
RecordsRefuted u most a b message text exit =
    (verdict : Refuted) × IsLineRefuted u most a b message verdict × (text ≡ refuted_json a b verdict) × (exit ≡ refuted_exit verdict)

-- `refute` of the message
abbrev pub IsRefuteJson : Unknown → Levels → Inputs → List ℕ → Exit → Type 0
IsRefuteJson u most inputs text exit = ((a : Dictionary) × (b : Dictionary) × IsDictionaryText inputs.first a × IsDictionaryText inputs.second b
    × RecordsRefuted u most a b inputs.message text exit) ⊎ RefusedDictionaries inputs text exit

-- ---- many messages

-- nothing was read, and the line of a dictionary that is refused was put, or a beginning of it
abbrev pub IsRefusalPut : (List ℕ → Exit → Type 0) → (fed_old fed put_old put : Option (List ℕ)) → Exit → Type 0
IsRefusalPut refused fed_old fed put_old put exit = (text : List ℕ) × refused text exit × Consumes fed_old fed [] × Appends put_old put text

abbrev pub IsRefusalFront : (List ℕ → Exit → Type 0) → (fed_old fed put_old put : Option (List ℕ)) → Type 0
IsRefusalFront refused fed_old fed put_old put = (text : List ℕ) × refused text Bad × Consumes fed_old fed [] × AppendsFront put_old put text

-- nothing was read, and nothing put
abbrev pub IsNothing : (fed_old fed put_old put : Option (List ℕ)) → Type 0
IsNothing fed_old fed put_old put = Consumes fed_old fed [] × Appends put_old put []

module _ (u : Unknown) (most : Levels) (inputs : Inputs) (fed_old fed put_old put : Option (List ℕ)) where
  abbrev pub ChecksLines : Exit → Type 0
  ChecksLines exit = ((d : Dictionary) × IsDictionaryText inputs.first d
      × AreLinesRecorded (IsLineChecked u most d) (recorded_lines (numbered_json d)) checked_exit each_exit fed_old fed put_old put exit)
      ⊎ IsRefusalPut (RefusedDictionary inputs) fed_old fed put_old put exit

  abbrev pub RefutesLines : Exit → Type 0
  RefutesLines exit = ((a : Dictionary) × (b : Dictionary) × IsDictionaryText inputs.first a × IsDictionaryText inputs.second b
      × AreLinesRecorded (IsLineRefuted u most a b) (recorded_lines (numbered_refuted_json a b)) refuted_exit some_exit fed_old fed put_old put exit)
      ⊎ IsRefusalPut (RefusedDictionaries inputs) fed_old fed put_old put exit

  abbrev pub ChecksStream : Exit → Type 0
  ChecksStream exit = ((d : Dictionary) × IsDictionaryText inputs.first d × IsStreamPut (IsPieceChecked u most d) (placed_json d) fed_old fed put_old put exit)
      ⊎ IsRefusalPut (RefusedDictionary inputs) fed_old fed put_old put exit

  -- a beginning of that was put
  abbrev pub ChecksFront : Type 0
  ChecksFront = ((d : Dictionary) × IsDictionaryText inputs.first d × FrontAnswered (IsLineChecked u most d) (recorded_lines (numbered_json d)) fed_old fed put_old put)
      ⊎ (IsRefusalFront (RefusedDictionary inputs) fed_old fed put_old put ⊎ IsNothing fed_old fed put_old put)

  abbrev pub RefutesFront : Type 0
  RefutesFront = ((a : Dictionary) × (b : Dictionary) × IsDictionaryText inputs.first a × IsDictionaryText inputs.second b
      × FrontAnswered (IsLineRefuted u most a b) (recorded_lines (numbered_refuted_json a b)) fed_old fed put_old put)
      ⊎ (IsRefusalFront (RefusedDictionaries inputs) fed_old fed put_old put ⊎ IsNothing fed_old fed put_old put)

  abbrev pub StreamFront : Type 0
  StreamFront = ((d : Dictionary) × IsDictionaryText inputs.first d × SomeRecorded (IsPieceChecked u most d) (placed_json d) fed_old fed put_old put)
      ⊎ (IsRefusalFront (RefusedDictionary inputs) fed_old fed put_old put ⊎ IsNothing fed_old fed put_old put)

  -- the lines of whole messages were put, and nothing else
  abbrev pub ChecksWhole : Type 0
  ChecksWhole = ((d : Dictionary) × IsDictionaryText inputs.first d × LinesAnswered (IsLineChecked u most d) (recorded_lines (numbered_json d)) fed_old fed put_old put)
      ⊎ IsNothing fed_old fed put_old put

  abbrev pub RefutesWhole : Type 0
  RefutesWhole = ((a : Dictionary) × (b : Dictionary) × IsDictionaryText inputs.first a × IsDictionaryText inputs.second b
      × LinesAnswered (IsLineRefuted u most a b) (recorded_lines (numbered_refuted_json a b)) fed_old fed put_old put) ⊎ IsNothing fed_old fed put_old put

  abbrev pub StreamWhole : Type 0
  StreamWhole = ((d : Dictionary) × IsDictionaryText inputs.first d × WholeRecorded (IsPieceChecked u most d) (placed_json d) fed_old fed put_old put)
      ⊎ IsNothing fed_old fed put_old put

  -- ---- the summary of the verdicts whose lines were put

  abbrev pub ChecksSummary : List ℕ → Type 0
  ChecksSummary text = (d : Dictionary) × IsDictionaryText inputs.first d
      × AreLinesSummed (IsLineChecked u most d) (recorded_lines (numbered_json d)) checked_items d lines.Checked fed_old fed put_old put text

  abbrev pub RefutesSummary : List ℕ → Type 0
  RefutesSummary text = (a : Dictionary) × (b : Dictionary) × IsDictionaryText inputs.first a × IsDictionaryText inputs.second b
      × AreLinesSummed (IsLineRefuted u most a b) (recorded_lines (numbered_refuted_json a b)) refuted_items a lines.Refuted fed_old fed put_old put text

  abbrev pub StreamSummary : List ℕ → Type 0
  StreamSummary text = (d : Dictionary) × IsDictionaryText inputs.first d × IsStreamSummed (IsPieceChecked u most d) (placed_json d) d fed_old fed put_old put text
