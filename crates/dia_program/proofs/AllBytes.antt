-- What is written for messages whose bytes are known.
use Rattle.std.proofs.Common.{◌≡◌, ◌∙◌, ℕ, Bool, true, false, List, ◌++◌, refl, subst, sym}
use Rattle.std.specs.Prelude.{◌≢◌, Option, None, Some, Ok, if◌then◌else◌}
use Rattle.std.specs.Io.KnownBytes.{Consumes, IsAtEnd}
use Rattle.std.proofs.KnownBytes.{Consumes-whole}
use Rattle.dia_io.specs.declared.Exit.{Exit}
use Rattle.dia_io.specs.declared.Exit.TheVariants.{Yes, No, Bad}
use Rattle.dia_io.specs.declared.Inputs.{Inputs}
use Rattle.dia_terms.specs.declared.Unknown.{Unknown}
use Rattle.dia_terms.specs.declared.Levels.{Levels}
use Rattle.dia_report.specs.declared.reporting.Reported.{Reported}
use Rattle.dia_captures.specs.declared.ended.Ended.{Ended}
use Rattle.dia_captures.specs.declared.summaries.Lines.{Lines}
use Rattle.dia_captures.specs.declared.summaries.Lines.TheVariants.{Checked, Refuted, Placed}
use Rattle.dia_captures.specs.Lines.{AreLinesAnswered, IsLinesOutcome, MessageCommand, answered, checks, refused, refutations}
use Rattle.dia_captures.specs.Streams.{IsStreamAnswered, IsStreamOutcome}
use Rattle.dia_streams.specs.Streams.{StillGives}
use Rattle.dia_show.specs.Lines.{AreLinesShown, IsLinesOutcome as AreLinesOutcome, shown, each_whole}
use Rattle.dia_show.specs.Lines as show
use Rattle.dia_cli.specs.Ending.{Stream}
use Rattle.dia_cli.specs.declared.task.Answering.{Answering}
use Rattle.dia_program.specs.Captures.{Captures, Fed, IsReadOut, Lists}
use Rattle.dia_driver.specs.Endings.{Runs, Writes}
use Rattle.dia_program.specs.Replies.{Replies}
use Rattle.dia_program.specs.Replies as replies
use Rattle.dia_program.specs.AllBytes.{AreAllReplied, IsTextOfAll, named, unnamed}

ends_well : (b : Bool) (exit : Exit) → exit ≡ (if b then Yes else No) → exit ≡ Bad → ⊥
ends_well true exit is bad = let e : Yes ≡ Bad = sym is ∙ bad in cc
ends_well false exit is bad = let e : No ≡ Bad = sym is ∙ bad in cc

module _ (command : MessageCommand) (is_well : (ended : Ended) (exit : Exit) → exit ≡ command.exit_of ended → exit ≡ Bad → ⊥) (inputs : Inputs) (bytes : List ℕ) where
  of_all : (read text : List ℕ) (fed : Option (List ℕ)) (exit : Exit) → Consumes (Some bytes) fed read → (exit ≢ Bad → IsAtEnd fed)
      → IsLinesOutcome command inputs read text exit → IsLinesOutcome command inputs bytes text exit
  of_all read text fed exit consumed to_end (answered answers none are is_text is_exit) =
      Consumes-whole (Some bytes) fed read (λ (b : List ℕ). IsLinesOutcome command inputs b text exit) consumed (to_end (is_well _ exit is_exit))
      (answered answers none are is_text is_exit)
  of_all read text fed exit consumed to_end (refused recorded is refuses) = refused recorded is refuses

  lines_of_bytes : (feed : Fed) (out : Stream) (exit : Exit) → feed.old ≡ Some bytes → AreLinesAnswered command inputs feed.old feed.new out.old out.new exit
      → IsReadOut feed exit → Writes (IsLinesOutcome command inputs bytes) out exit
  lines_of_bytes feed out exit same h to_end =
      (h.text, of_all h.bytes h.text feed.new exit (subst (λ (o : Option (List ℕ)). Consumes o feed.new h.bytes) same h.consumed) to_end h.outcome, h.is_put)

stream_whole : (u : Unknown) (most : Levels) (inputs : Inputs) (bytes read text : List ℕ) (fed : Option (List ℕ)) (exit : Exit) → Consumes (Some bytes) fed read
    → ((rest : List ℕ) → StillGives fed rest → IsStreamOutcome u most inputs (read ++ rest) text exit) → IsStreamOutcome u most inputs bytes text exit
stream_whole u most inputs bytes read text None exit consumed outcome = absurd consumed
stream_whole u most inputs bytes read text (Some rest) exit consumed outcome =
    subst (λ (b : List ℕ). IsStreamOutcome u most inputs b text exit) (sym consumed) (outcome rest refl)

stream_of_bytes : (u : Unknown) (most : Levels) (inputs : Inputs) (bytes : List ℕ) (feed : Fed) (out : Stream) (exit : Exit) → feed.old ≡ Some bytes
    → IsStreamAnswered u most inputs feed.old feed.new out.old out.new exit → Writes (IsStreamOutcome u most inputs bytes) out exit
stream_of_bytes u most inputs bytes feed out exit same h =
    (h.text, stream_whole u most inputs bytes h.read h.text feed.new exit (subst (λ (o : Option (List ℕ)). Consumes o feed.new h.read) same h.consumed) h.outcome, h.is_put)

pub captures_of_bytes : (lines : Lines) (u : Unknown) (most : Levels) (inputs : Inputs) (bytes word : List ℕ) (out : Stream) (reported : Reported)
    → Captures lines u most false inputs (Some bytes) word out (Ok reported) → Runs (IsTextOfAll lines u most inputs bytes) out (Ok reported)
captures_of_bytes Checked u most inputs bytes word out reported p =
    (p.0, lines_of_bytes (checks u most) (λ ended exit. ends_well ended.each exit) inputs bytes p.1.0 out reported.exit p.1.1 p.1.2.0 p.1.2.1)
captures_of_bytes Refuted u most inputs bytes word out reported p =
    (p.0, lines_of_bytes (refutations u most) (λ ended exit. ends_well ended.some exit) inputs bytes p.1.0 out reported.exit p.1.1 p.1.2.0 p.1.2.1)
captures_of_bytes Placed u most inputs bytes word out reported p =
    (p.0, stream_of_bytes u most inputs bytes p.1.0 out reported.exit p.1.1 p.1.2)

module _ (names : Bool) (inputs : Inputs) (bytes : List ℕ) where
  all_shown : (read text : List ℕ) (fed : Option (List ℕ)) (exit : Exit) → Consumes (Some bytes) fed read → (exit ≢ Bad → IsAtEnd fed)
      → AreLinesOutcome names inputs read text exit → AreLinesOutcome names inputs bytes text exit
  all_shown read text fed exit consumed to_end (shown answers none are is_text is_exit) =
      Consumes-whole (Some bytes) fed read (λ (b : List ℕ). AreLinesOutcome names inputs b text exit) consumed (to_end (ends_well (each_whole answers) exit is_exit))
      (shown answers none are is_text is_exit)
  all_shown read text fed exit consumed to_end (show.refused recorded is refuses) = show.refused recorded is refuses

  shown_of_bytes : (feed : Fed) (out : Stream) (exit : Exit) → feed.old ≡ Some bytes → AreLinesShown names inputs feed.old feed.new out.old out.new exit
      → IsReadOut feed exit → Writes (AreLinesOutcome names inputs bytes) out exit
  shown_of_bytes feed out exit same h to_end =
      (h.text, all_shown h.bytes h.text feed.new exit (subst (λ (o : Option (List ℕ)). Consumes o feed.new h.bytes) same h.consumed) to_end h.outcome, h.is_put)

pub lists_of_bytes : (names : Bool) (inputs : Inputs) (bytes word : List ℕ) (out : Stream) (reported : Reported)
    → Lists false names inputs (Some bytes) word out (Ok reported) → Runs (AreLinesOutcome names inputs bytes) out (Ok reported)
lists_of_bytes names inputs bytes word out reported p = (p.0, shown_of_bytes names inputs bytes p.1.0 out reported.exit p.1.1 p.1.2.0 p.1.2.1)

pub replies_of_bytes : (asked : Answering) (inputs : Inputs) (bytes word : List ℕ) (out : Stream) (reported : Reported)
    → Replies asked inputs (Some bytes) word out (Ok reported) → Runs (AreAllReplied asked inputs bytes) out (Ok reported)
replies_of_bytes asked inputs bytes word out reported (replies.named names p) =
    let (text, is, is_put) =
    lines_of_bytes (replies.replies_by asked) (λ ended exit. ends_well ended.each exit) inputs bytes p.1.0 out reported.exit p.1.1 p.1.2.0 p.1.2.1 in
    (p.0, (text, named names is, is_put))
replies_of_bytes asked inputs bytes word out reported (replies.unnamed (live, (text, is, is_put))) = (live, (text, unnamed is, is_put))
