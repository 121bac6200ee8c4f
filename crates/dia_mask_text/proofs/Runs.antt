-- `mask` from a feed into a sink.
use Rattle.std.proofs.Common.{◌≡◌, ℕ, ◌+◌, ◌<◌, ◌==◌, Bool, List, [], ◌∷◌, ◌++◌, Option, None, Some, Result, Ok, Err, inl, inr, length, refl, sym, ap, subst, ◌∙◌}
use Rattle.std.specs.Prelude.{◌⊎◌, ◌↔◌, if◌then◌else◌, string_bytes, suc, unwrap_or}
use Rattle.std.specs.List.{flat_map}
use Rattle.std.specs.Io.KnownBytes.{Appends, Consumes, Keeps, IsAtEnd}
use Rattle.std.proofs.KnownBytes.{Consumes-nil}
use Rattle.std.proofs.lemmas.List.{append-nil}
use Rattle.dia_io.specs.declared.Exit.{Exit}
use Rattle.dia_io.specs.declared.Exit.TheVariants.{Yes, No}
use Rattle.dia_io.specs.Writing.{AppendsFront}
use Rattle.dia_streams.specs.declared.fault.LinesFault.{LinesFault}
use Rattle.dia_streams.specs.declared.fault.LinesFault.TheVariants.{Device}
use Rattle.dia_streams.specs.Lines.{IsAnswered, IsLineInput, recorded_from}
use Rattle.dia_streams.specs.LinesUnderWay.{AreRead}
use Rattle.dia_streams.proofs.FeedToSink as streams
use Rattle.dia_dict.specs.Dictionary.{Dictionary}
use Rattle.dia_mask.specs.declared.choice.Choice.{Choice}
use Rattle.dia_mask.specs.declared.words.Words.{Words}
use Rattle.dia_mask.specs.Runs.{words_of}
use Rattle.dia_mask.specs.Words.{AreAllNumbers, Grows}
use Rattle.dia_mask.proofs.Characters.{grows_on, no_more}
use Rattle.dia_mask_text.specs.declared.answering.Answered.{Answered}
use Rattle.dia_mask_text.specs.declared.answering.State.{State}
use Rattle.dia_mask_text.specs.Lines.{Counts, EndsMasked, IsLineMasked, MaskedLine, ReadsMasked, are_messages, line_text, lines_of, numbered_text}
use Rattle.dia_mask_text.specs.Outcome.{AreMasked, exit_of}
use Rattle.dia_mask_text.specs.Runs.{AllMasked, AreAllMasked, FrontMasked, HasRead, text_of}

-- ---- what a feed has

the_bytes : (xs all : List ℕ) → Some xs ≡ Some all → xs ≡ all
the_bytes xs all is = ap (λ (o : Option (List ℕ)). unwrap_or o xs) is

-- at its end, what was read is all of it
all_of_feed : (fed fed' : Option (List ℕ)) (bytes all : List ℕ) → Consumes fed fed' bytes → IsAtEnd fed' → fed ≡ Some all → all ≡ bytes
all_of_feed None fed' bytes all h at_end is = absurd (let z : None ≡ Some all = is in cc)
all_of_feed (Some xs) None bytes all h at_end is = absurd h
all_of_feed (Some xs) (Some ys) bytes all h at_end is = sym (the_bytes xs all is) ∙ h ∙ ap (λ (l : List ℕ). bytes ++ l) at_end ∙ append-nil bytes

-- no device failed
pub not_failed : {A : Type 0} (a : A) (P Q : Type 0) → (◌≡◌ {A = Result A LinesFault} (Ok a) (Err Device) ↔ (P ⊎ Q)) → (P → ⊥) × (Q → ⊥)
not_failed {A} a P Q iff = (λ p. no (iff.1 (inl p)), λ q. no (iff.1 (inr q)))
  where
    no : ◌≡◌ {A = Result A LinesFault} (Ok a) (Err Device) → ⊥
    no e = let z : ◌≡◌ {A = Result A LinesFault} (Ok a) (Err Device) = e in cc

-- ---- what is written

-- the numbers of lines make no difference
each_line : (n : ℕ) (lines : List MaskedLine) → recorded_from numbered_text n lines ≡ flat_map line_text lines
each_line n [] = refl
each_line n (said ∷ lines) = ap (λ (t : List ℕ). line_text said ++ t) (each_line (suc n) lines)

module _ (choice : Choice) (d : Dictionary) where
  -- no piece was read
  pub first_read : (fed put : Option (List ℕ)) (state : State) (now : Answered) → AreAllNumbers (words_of state.run) → state.unread ≡ 0
      → IsLineInput now.line [] → now.count ≡ 0 → string_bytes now.text ≡ [] → HasRead choice d fed fed put put state now 0
  first_read fed put state now numbers zero line count text = record {
    numbers = numbers;
    are_read = λ words grows. subst (λ (u : ℕ). AreRead (IsLineMasked choice words d) numbered_text Counts fed fed put put 0 u (lines_of now) 0) (sym zero)
        (streams.first_read (IsLineMasked choice words d) numbered_text Counts fed put 0 (lines_of now) line count text);
  }

  -- the feed failed, or memory was refused
  pub feed_failed : (fed f f' put p : Option (List ℕ)) (state : State) (now : Answered) (n : ℕ) → Keeps f f' → HasRead choice d fed f put p state now n → FrontMasked choice d fed f' put p
  feed_failed fed f f' put p state now n kept a =
      let words = words_of state.run in record {
        words = words;
        numbers = a.numbers;
        answered = streams.feed_failed (IsLineMasked choice words d) numbered_text Counts fed f f' put p 0 state.unread (lines_of now) n kept (a.are_read words (no_more words));
      }

  pub lines_before : (fed f f' put p : Option (List ℕ)) (state : State) (now : Answered) (n : ℕ) (piece : List ℕ) → Consumes f f' piece → HasRead choice d fed f put p state now n
      → FrontMasked choice d fed f' put p
  lines_before fed f f' put p state now n piece consumed a =
      let words = words_of state.run in
      let P = IsLineMasked choice words d in record {
        words = words;
        numbers = a.numbers;
        answered = streams.front_of_lines P numbered_text Counts fed f' put p
            (streams.lines_before P numbered_text Counts fed f f' put p 0 state.unread (lines_of now) n piece consumed (a.are_read words (no_more words)));
      }

  pub whole_lines : (fed f put p : Option (List ℕ)) (state : State) (now : Answered) (n : ℕ) → HasRead choice d fed f put p state now n → FrontMasked choice d fed f put p
  whole_lines fed f put p state now n a = lines_before fed f f put p state now n [] (Consumes-nil f) a

  -- ---- a piece was read
  module _ (fed f f' put p p' : Option (List ℕ)) (old new : State) (before now : Answered) (n : ℕ) (piece : List ℕ) (consumed : Consumes f f' piece)
      (a : HasRead choice d fed f put p old before n) (grown : Grows (words_of old.run) (words_of new.run))
      (reads : (words : Words) → Grows (words_of new.run) words → (lines : List MaskedLine) × ReadsMasked choice words d before now old.unread new.unread piece lines) where
    pub piece_masked : (later : Answered) → 0 < length piece → Appends p p' (string_bytes now.text) → later.line ≡ now.line → later.count ≡ now.count → string_bytes later.text ≡ []
        → HasRead choice d fed f' put p' new later (n + 1)
    piece_masked later some is_put line count nothing = record {
      numbers = grown.sound a.numbers;
      are_read = λ words grows.
          let (lines, r) = reads words grows in
          streams.piece_read (IsLineMasked choice words d) numbered_text Counts fed f f' put p p' 0 old.unread new.unread (lines_of before) (lines_of now) n piece lines consumed r
          (a.are_read words (grows_on (words_of old.run) (words_of new.run) words grown grows)) (lines_of later) some is_put line count nothing;
    }

    -- the sink failed after it
    pub sink_failed : AppendsFront p p' (string_bytes now.text) → FrontMasked choice d fed f' put p'
    sink_failed is_put =
        let words = words_of new.run in
        let (lines, r) = reads words (no_more words) in record {
          words = words;
          numbers = grown.sound a.numbers;
          answered = streams.sink_failed (IsLineMasked choice words d) numbered_text Counts fed f f' put p p' 0 old.unread new.unread (lines_of before) (lines_of now) n piece lines consumed r
              (a.are_read words grown) is_put;
        }

  -- ---- the end was reached
  module _ (fed f f' put p p' : Option (List ℕ)) (old new : State) (before now : Answered) (n : ℕ) (consumed : Consumes f f' [])
      (a : HasRead choice d fed f put p old before n) (grown : Grows (words_of old.run) (words_of new.run))
      (ends : (words : Words) → Grows (words_of new.run) words → (lines : List MaskedLine) × EndsMasked choice words d before now old.unread new.unread lines) where
    pub all_masked : Appends p p' (string_bytes now.text) → AllMasked choice d fed f' put p' new.unread
    all_masked is_put =
        let words = words_of new.run in
        let (lines, e) = ends words (no_more words) in record {
          words = words;
          numbers = grown.sound a.numbers;
          answered = streams.all_read (IsLineMasked choice words d) numbered_text Counts fed f f' put p p' 0 old.unread new.unread (lines_of before) (lines_of now) n lines consumed e
              (a.are_read words grown) is_put;
        }

    -- the sink failed after it
    pub sink_failed_at_end : IsAtEnd f' → AppendsFront p p' (string_bytes now.text) → FrontMasked choice d fed f' put p'
    sink_failed_at_end at_end is_put =
        let words = words_of new.run in
        let (lines, e) = ends words (no_more words) in record {
          words = words;
          numbers = grown.sound a.numbers;
          answered = streams.sink_failed_at_end (IsLineMasked choice words d) numbered_text Counts fed f f' put p p' 0 old.unread new.unread (lines_of before) (lines_of now) n lines consumed e
              (a.are_read words grown) at_end is_put;
        }

  -- ---- all of it
  by_test : (b : Bool) (exit : Exit) (lines : List MaskedLine) → b ≡ are_messages lines → exit ≡ (if b then Yes else No) → exit ≡ exit_of lines
  by_test b exit lines same is = is ∙ ap (λ (x : Bool). if x then Yes else No) same

  pub all_put : (fed f put p : Option (List ℕ)) (unread : ℕ) (exit : Exit) → AllMasked choice d fed f put p unread → IsAtEnd f → exit ≡ (if unread == 0 then Yes else No)
      → AreAllMasked choice d fed f put p exit
  all_put fed f put p unread exit a at_end is =
      let masked : (bytes : List ℕ) → IsAnswered (IsLineMasked choice a.words d) bytes a.answered.verdicts → AreMasked choice d bytes (text_of a.answered.verdicts) exit = λ bytes answered. record {
        words = a.words;
        lines = a.answered.verdicts;
        numbers = a.numbers;
        are_lines = answered;
        is_text = each_line 1 a.answered.verdicts;
        is_exit = by_test (unread == 0) exit a.answered.verdicts (a.answered.seen [] refl) is;
      } in record {
        bytes = a.answered.bytes;
        text = text_of a.answered.verdicts;
        consumed = a.answered.consumed;
        outcome = masked a.answered.bytes a.answered.answered;
        whole = λ all is_all. masked all (subst (λ (b : List ℕ). IsAnswered (IsLineMasked choice a.words d) b a.answered.verdicts) (sym (all_of_feed fed f a.answered.bytes all a.answered.consumed at_end is_all)) a.answered.answered);
        is_put = a.answered.is_put;
      }
