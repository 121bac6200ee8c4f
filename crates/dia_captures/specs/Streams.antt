-- `check` of the messages of a stream.
use Rattle.std.specs.Prelude.{◌≡◌, ℕ, ◌⊎◌, List, [], ◌++◌, Option, None, Some, codes, map}
use Rattle.std.specs.List.{flat_map}
use Rattle.std.specs.Fmt.{decimal}
use Rattle.std.specs.Io.KnownBytes.{Appends, Consumes}
use Rattle.dia_dict.specs.Dictionary.{Dictionary}
use Rattle.dia_terms.specs.declared.Unknown.{Unknown}
use Rattle.dia_terms.specs.declared.Levels.{Levels}
use Rattle.dia_io.specs.declared.Inputs.{Inputs}
use Rattle.dia_io.specs.declared.Exit.{Exit}
use Rattle.dia_io.specs.Writing.{AppendsFront}
use Rattle.dia_streams.specs.Streams.{IsStreamRecorded, StillGives, SomeRecorded}
use Rattle.dia_run.specs.Texts.{line, IsDictionaryText}
use Rattle.dia_run.specs.Outcome.{IsJudged, Refuses}
use Rattle.dia_captures.specs.Ending.{ended_of}
use Rattle.dia_captures.specs.Lines.{Answer, checks}
use Rattle.dia_run.specs.RefusedDictionaries.{RefusesFirst}

-- what `check` answers of the bytes of a message under the first dictionary, or of what isn't hexadecimal
abbrev pub OfMessage : Unknown → Levels → Inputs → Option (List ℕ) → Answer → Type 0
OfMessage u most inputs (Some bytes) answer = (d : Dictionary) × IsDictionaryText inputs.first d × IsJudged u most d bytes answer.0 answer.1
OfMessage u most inputs None answer = Refuses (codes "message: not hexadecimal") answer.0 answer.1

-- the line of an answer after the place where its message begins
abbrev pub placed : ℕ × Answer → List ℕ
placed answer = decimal answer.0 ++ codes " " ++ answer.1.0

-- the text for this stream, and how the program ends: the line of each message in order, or one line of a dictionary that is refused
pub data IsStreamOutcome (u : Unknown) (most : Levels) (inputs : Inputs) (stream text : List ℕ) (exit : Exit) : Type 0 where
  recorded : (answers : List (ℕ × Answer)) → ((why : List ℕ) → ¬ RefusesFirst inputs why) → IsStreamRecorded (OfMessage u most inputs) stream answers
      → text ≡ flat_map placed answers → exit ≡ (checks u most).exit_of (ended_of (map (λ (a : ℕ × Answer). a.1.1) answers))
      → IsStreamOutcome u most inputs stream text exit
  refused : (why : List ℕ) → RefusesFirst inputs why → Refuses why text exit → IsStreamOutcome u most inputs stream text exit

-- the text for all that the feed gives was put, though not all may have been read
pub record IsStreamAnswered (u : Unknown) (most : Levels) (inputs : Inputs) (fed_old fed put_old put : Option (List ℕ)) (exit : Exit) : Type 0 where
  pub read : List ℕ
  pub text : List ℕ
  pub consumed : Consumes fed_old fed read
  pub outcome : (rest : List ℕ) → StillGives fed rest → IsStreamOutcome u most inputs (read ++ rest) text exit
  pub is_put : Appends put_old put text

-- a beginning of the text was put
abbrev pub IsStreamFrontPut : Unknown → Levels → Inputs → (fed_old fed put_old put : Option (List ℕ)) → Type 0
IsStreamFrontPut u most inputs fed_old fed put_old put = SomeRecorded (OfMessage u most inputs) placed fed_old fed put_old put
    ⊎ ((why : List ℕ) × RefusesFirst inputs why × Consumes fed_old fed [] × AppendsFront put_old put (line why))
