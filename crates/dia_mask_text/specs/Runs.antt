-- `mask` from a feed into a sink: what was put of the answers.
use Rattle.std.specs.Prelude.{◌≡◌, ℕ, ◌⊎◌, List, [], Option, Some}
use Rattle.std.specs.Io.KnownBytes.{Appends, Consumes}
use Rattle.dia_io.specs.declared.Exit.{Exit}
use Rattle.dia_io.specs.declared.Input.{Input}
use Rattle.dia_io.specs.Writing.{AppendsFront}
use Rattle.dia_streams.specs.FeedToSink.{AllAnswered, FrontAnswered}
use Rattle.dia_streams.specs.Lines.{recorded_lines}
use Rattle.dia_streams.specs.LinesUnderWay.{AreRead}
use Rattle.dia_dict.specs.Dictionary.{Dictionary}
use Rattle.dia_run.specs.Texts.{IsDictionaryText}
use Rattle.dia_mask.specs.declared.choice.Choice.{Choice}
use Rattle.dia_mask.specs.declared.words.Words.{Words}
use Rattle.dia_mask.specs.Runs.{words_of}
use Rattle.dia_mask.specs.Words.{AreAllNumbers, Grows}
use Rattle.dia_mask_text.specs.declared.answering.Answered.{Answered}
use Rattle.dia_mask_text.specs.declared.answering.State.{State}
use Rattle.dia_mask_text.specs.Names.{IsChoice, Lists}
use Rattle.dia_mask_text.specs.Lines.{Counts, IsLineMasked, MaskedLine, lines_of, numbered_text}
use Rattle.dia_mask_text.specs.Outcome.{AreMasked, IsMaskOutcome, IsRefusal}

-- what is written of lines
abbrev pub text_of : List MaskedLine → List ℕ
text_of lines = recorded_lines numbered_text lines

-- so many pieces were read from the feed, and the answers to what was read were put: the same by all words that come later
pub record HasRead (choice : Choice) (d : Dictionary) (fed_old fed put_old put : Option (List ℕ)) (state : State) (now : Answered) (pieces : ℕ) : Type 0 where
  pub numbers : AreAllNumbers (words_of state.run)
  pub are_read : (words : Words) → Grows (words_of state.run) words
      → AreRead (IsLineMasked choice words d) numbered_text Counts fed_old fed put_old put 0 state.unread (lines_of now) pieces

-- all that the feed gave was masked
pub record AllMasked (choice : Choice) (d : Dictionary) (fed_old fed put_old put : Option (List ℕ)) (unread : ℕ) : Type 0 where
  pub words : Words
  pub numbers : AreAllNumbers words
  pub answered : AllAnswered (IsLineMasked choice words d) text_of Counts fed_old fed put_old put 0 unread

-- a prefix of the answers was put
pub record FrontMasked (choice : Choice) (d : Dictionary) (fed_old fed put_old put : Option (List ℕ)) : Type 0 where
  pub words : Words
  pub numbers : AreAllNumbers words
  pub answered : FrontAnswered (IsLineMasked choice words d) text_of fed_old fed put_old put

-- the text for all that the feed gave was put. It is that of all that the feed has
pub record AreAllMasked (choice : Choice) (d : Dictionary) (fed_old fed put_old put : Option (List ℕ)) (exit : Exit) : Type 0 where
  pub bytes : List ℕ
  pub text : List ℕ
  pub consumed : Consumes fed_old fed bytes
  pub outcome : AreMasked choice d bytes text exit
  pub whole : (all : List ℕ) → fed_old ≡ Some all → AreMasked choice d all text exit
  pub is_put : Appends put_old put text

-- ---- the whole run

-- these bytes were read, and the text for them was put
pub record IsMaskPut (lists : Lists) (dictionary : Input) (fed_old fed put_old put : Option (List ℕ)) (exit : Exit) : Type 0 where
  pub bytes : List ℕ
  pub text : List ℕ
  pub consumed : Consumes fed_old fed bytes
  pub outcome : IsMaskOutcome lists dictionary bytes text exit
  pub is_put : Appends put_old put text

-- the text for all bytes that a feed has was put, however they come
abbrev pub IsMaskOfAll : Lists → Input → (fed_old put_old put : Option (List ℕ)) → Exit → Type 0
IsMaskOfAll lists dictionary fed_old put_old put exit = (bytes : List ℕ) → fed_old ≡ Some bytes
    → (text : List ℕ) × IsMaskOutcome lists dictionary bytes text exit × Appends put_old put text

abbrev pub IsRefusalPut : Lists → Input → (put_old put : Option (List ℕ)) → Exit → Type 0
IsRefusalPut lists dictionary put_old put exit = (text : List ℕ) × IsRefusal lists dictionary text exit × Appends put_old put text

-- a prefix of a refusal was put, or nothing
abbrev pub IsRefusalBegun : Lists → Input → (put_old put : Option (List ℕ)) → Type 0
IsRefusalBegun lists dictionary put_old put = ((text : List ℕ) × (exit : Exit) × IsRefusal lists dictionary text exit × AppendsFront put_old put text) ⊎ Appends put_old put []

-- a prefix of what `mask` writes was put
abbrev pub IsMaskBegun : Lists → Input → (fed_old fed put_old put : Option (List ℕ)) → Type 0
IsMaskBegun lists dictionary fed_old fed put_old put =
    ((d : Dictionary) × (choice : Choice) × IsDictionaryText dictionary d × IsChoice lists d choice × FrontMasked choice d fed_old fed put_old put)
    ⊎ (Consumes fed_old fed [] × IsRefusalBegun lists dictionary put_old put)
