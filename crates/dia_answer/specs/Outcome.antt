-- What is written of the answer to a request, and how the command ends.
use Rattle.std.specs.Prelude.{◌≡◌, ℕ, List, ◌++◌, Result, Ok, Err, codes}
use Rattle.hex.specs.Hex.{encode_lower}
use Rattle.dia_io.specs.declared.Exit.{Exit}
use Rattle.dia_io.specs.declared.Exit.TheVariants.{Yes, No}
use Rattle.dia_dict.specs.Dictionary.{Dictionary}
use Rattle.dia_terms.specs.declared.Unknown.{Unknown}
use Rattle.dia_terms.specs.declared.Levels.{Levels}
use Rattle.dia_run.specs.Texts.{line}
use Rattle.dia_answer.specs.declared.forms.Made.{Made}
use Rattle.dia_answer.specs.declared.forms.NoAnswer.{NoAnswer}
use Rattle.dia_answer.specs.Reports.{IsAnswered, no_answer_word}

-- the answer as a line of hexadecimal digits, or why there is none
abbrev pub answer_text : Result Made NoAnswer → List ℕ
answer_text (Ok made) = line (encode_lower made.bytes.items)
answer_text (Err why) = line (codes "no answer: " ++ no_answer_word why)

abbrev pub answer_exit : Result Made NoAnswer → Exit
answer_exit (Ok made) = Yes
answer_exit (Err why) = No

-- the text of what is answered of the request by a node with this Origin-Host and Origin-Realm
pub record IsAnswerText (host realm : List ℕ) (u : Unknown) (most : Levels) (d : Dictionary) (request text : List ℕ) (exit : Exit) : Type 0 where
  pub found : Result Made NoAnswer
  pub answered : IsAnswered d u most host realm request found
  pub text_is : text ≡ answer_text found
  pub exit_is : exit ≡ answer_exit found
