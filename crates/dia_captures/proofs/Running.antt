-- Runs over many messages: what was put, and its summary.
use Rattle.std.proofs.Common.{◌≡◌, ℕ, List, [], Option, Some, Result, Ok, Err, map, sym, ap, subst, ◌∙◌}
use Rattle.std.specs.Prelude.{IfOk}
use Rattle.std.specs.declared.alloc.AllocError.{AllocError}
use Rattle.dia_dict.specs.Dictionary.{Dictionary}
use Rattle.dia_io.specs.declared.Exit.{Exit}
use Rattle.dia_io.specs.declared.Input.{Input}
use Rattle.dia_streams.specs.FeedToSink.{AllAnswered}
use Rattle.dia_streams.specs.Streams.{AllRecorded}
use Rattle.dia_captures.specs.declared.ended.Ended.{Ended}
use Rattle.dia_captures.specs.declared.summaries.Lines.{Lines}
use Rattle.dia_captures.specs.declared.summaries.Lines.TheVariants as lines
use Rattle.dia_captures.specs.declared.verdicts.Checked.{Checked}
use Rattle.dia_captures.specs.Counts.{Item, placed_items}
use Rattle.dia_captures.specs.Ending.{ended_of}
use Rattle.dia_captures.specs.Runs.{AreLinesRecorded, IsStreamPut, IsStreamSummed, each_exit}
use Rattle.dia_captures.specs.Summaries.{AreLinesSummed, IsMade, IsSummary}
use Rattle.dia_captures.specs.Verdicts.{checked_exit}

module _ {V W : Type 0} (P : Input → V → Type 0) (recorded : List V → List ℕ) (saw : W → List V → Type 0) (fed_old fed put_old put : Option (List ℕ)) (w x : W)
    (h : AllAnswered P recorded saw fed_old fed put_old put w x) (nothing_seen : saw w []) where
  pub lines_recorded : (exit_of : V → Exit) (ends : Ended → Exit) (ended : Ended) (exit : Exit) → exit ≡ ends ended
      → ((verdicts : List V) → saw x verdicts → ended ≡ ended_of (map exit_of verdicts)) → AreLinesRecorded P recorded exit_of ends fed_old fed put_old put exit
  lines_recorded exit_of ends ended exit is counts = record {
    bytes = h.bytes;
    verdicts = h.verdicts;
    consumed = h.consumed;
    answered = h.answered;
    is_put = h.is_put;
    is_exit = is ∙ ap ends (counts h.verdicts (h.seen [] nothing_seen));
  }

  pub lines_summed : {T : Type 0} (text_of : T → List ℕ) (items_of : List V → List Item) (d : Dictionary) (l : Lines) (sum : Result T AllocError) (now : Option (Result T AllocError)) → now ≡ Some sum
      → ((verdicts : List V) → saw x verdicts → IfOk sum (λ text. IsSummary d l (items_of verdicts) (text_of text)))
      → IsMade now (λ text. AreLinesSummed P recorded items_of d l fed_old fed put_old put (text_of text))
  lines_summed {T} text_of items_of d l sum now same is =
      subst (λ (s : Option (Result T AllocError)). IsMade s (λ text. AreLinesSummed P recorded items_of d l fed_old fed put_old put (text_of text))) (sym same) (by sum is)
    where
      by : (s : Result T AllocError) → ((verdicts : List V) → saw x verdicts → IfOk s (λ text. IsSummary d l (items_of verdicts) (text_of text)))
          → IfOk s (λ text. AreLinesSummed P recorded items_of d l fed_old fed put_old put (text_of text))
      by (Err refused) sums = tt
      by (Ok text) sums = record {
        bytes = h.bytes;
        verdicts = h.verdicts;
        consumed = h.consumed;
        answered = h.answered;
        is_put = h.is_put;
        summary = sums h.verdicts (h.seen [] nothing_seen);
      }

module _ {W : Type 0} (P : Option (List ℕ) → Checked → Type 0) (recorded : ℕ × Checked → List ℕ) (saw : W → List (ℕ × Checked) → Type 0) (fed_old fed put_old put : Option (List ℕ)) (w x : W)
    (h : AllRecorded P recorded saw fed_old fed put_old put w x) (nothing_seen : saw w []) where
  pub stream_recorded : (ended : Ended) (exit : Exit) → exit ≡ each_exit ended
      → ((verdicts : List (ℕ × Checked)) → saw x verdicts → ended ≡ ended_of (map (λ (v : ℕ × Checked). checked_exit v.1) verdicts))
      → IsStreamPut P recorded fed_old fed put_old put exit
  stream_recorded ended exit is counts = record {
    read = h.read;
    verdicts = h.verdicts;
    consumed = h.consumed;
    answered = h.recorded;
    is_put = h.is_put;
    is_exit = is ∙ ap each_exit (counts h.verdicts (h.seen [] nothing_seen));
  }

  pub stream_summed : {T : Type 0} (text_of : T → List ℕ) (d : Dictionary) (sum : Result T AllocError) (now : Option (Result T AllocError)) → now ≡ Some sum
      → ((verdicts : List (ℕ × Checked)) → saw x verdicts → IfOk sum (λ text. IsSummary d lines.Placed (placed_items verdicts) (text_of text)))
      → IsMade now (λ text. IsStreamSummed P recorded d fed_old fed put_old put (text_of text))
  stream_summed {T} text_of d sum now same is =
      subst (λ (s : Option (Result T AllocError)). IsMade s (λ text. IsStreamSummed P recorded d fed_old fed put_old put (text_of text))) (sym same) (by sum is)
    where
      by : (s : Result T AllocError) → ((verdicts : List (ℕ × Checked)) → saw x verdicts → IfOk s (λ text. IsSummary d lines.Placed (placed_items verdicts) (text_of text)))
          → IfOk s (λ text. IsStreamSummed P recorded d fed_old fed put_old put (text_of text))
      by (Err refused) sums = tt
      by (Ok text) sums = record {
        read = h.read;
        verdicts = h.verdicts;
        consumed = h.consumed;
        answered = h.recorded;
        is_put = h.is_put;
        summary = sums h.verdicts (h.seen [] nothing_seen);
      }
