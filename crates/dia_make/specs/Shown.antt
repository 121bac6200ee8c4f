-- What `show --as-text` writes for its inputs, and how it ends.
use Rattle.std.specs.Prelude.{◌≡◌, ℕ, ◌+◌, ◌<◌, List, ◌++◌, length, drop, Result, Ok, Err, codes, string_bytes}
use Rattle.dia_io.specs.declared.Exit.{Exit}
use Rattle.dia_io.specs.declared.Exit.TheVariants.{Yes, No, Bad}
use Rattle.dia_io.specs.declared.Inputs.{Inputs}
use Rattle.dia_wire.specs.Lengths.{header_length}
use Rattle.dia_wire.specs.Wire.{BeginsMessage, BeginsWithNone}
use Rattle.dia_wire.specs.declared.MessageFault.{MessageFault}
use Rattle.dia_dict.specs.Dictionary.{Dictionary}
use Rattle.dia_text.specs.Made.{made_lines, digits_line}
use Rattle.dia_text.specs.TextOf.{IsTextOf, IsNoMessage, AreAvps}
use Rattle.dia_report.specs.declared.refusing.Refused.{Refused}
use Rattle.dia_report.specs.Refusals.{RecordsOf, message_fault_word}
use Rattle.dia_run.specs.Listing.{bad_length_line}
use Rattle.dia_run.specs.Outcome.{IsMessageOutcome, Refuses}
use Rattle.dia_run.specs.Texts.{line}
use Rattle.dia_make.specs.declared.reporting.Answered.{Answered}

-- at this byte of the message, after AVPs, no AVP begins (RFC 6733 section 4.1)
pub record IsCutAt (message : List ℕ) (place : ℕ) : Type 0 where
  pub front : List ℕ
  pub rest : List ℕ
  pub parts : drop header_length message ≡ front ++ rest
  pub is_front : AreAvps front
  pub some : 0 < length rest
  pub no_avp : BeginsWithNone rest
  pub is_place : place ≡ header_length + length front

-- the text of a message, which `make` reads as the same bytes; or why it has none
pub data IsTextShown (d : Dictionary) (message text : List ℕ) (exit : Exit) : Type 0 where
  written : IsTextOf d message text → made_lines d text ≡ Ok (digits_line message) → exit ≡ Yes → IsTextShown d message text exit
  cut : (place : ℕ) → BeginsMessage message (length message) → IsCutAt message place → text ≡ bad_length_line place → exit ≡ No
      → IsTextShown d message text exit
  bad_message : (why : MessageFault) → IsNoMessage why message → Refuses (codes "message: " ++ message_fault_word why) text exit
      → IsTextShown d message text exit

-- the dictionary is judged before the message
abbrev pub IsShowTextOutcome : Inputs → List ℕ → Exit → Type 0
IsShowTextOutcome inputs text exit = IsMessageOutcome IsTextShown inputs text exit

-- what is answered has P, and so has the line of a refusal
abbrev pub Gives : (List ℕ → Exit → Type 0) → Result Answered Refused → Type 0
Gives P (Ok answered) = P (string_bytes answered.text) answered.exit
Gives P (Err refused) = RecordsOf (λ recorded. P (line recorded) Bad) refused
