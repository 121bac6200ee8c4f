-- A piece after the header, as a stream takes it.
use Rattle.std.proofs.Common.{◌≡◌, ◌≢◌, ℕ, ◌+◌, ◌-◌, ◌<◌, ◌≤◌, List, ◌++◌, length, take, drop, None, refl, sym, ap, subst, ◌∙◌, arith, inl, inr}
use Rattle.std.specs.Prelude.{◌⊎◌, ◌^◌, IsTrue, Result, Ok, Err}
use Rattle.std.proofs.Math.Seq.{take-append_seam, drop-append_seam}
use Rattle.std.proofs.lemmas.List.{append_assoc, length-append}
use Rattle.dia_book.specs.Dictionary.{Dictionary, IsDictionary}
use Rattle.dia_terms.specs.declared.Unknown.{Unknown}
use Rattle.dia_terms.specs.declared.Levels.{Levels}
use Rattle.dia_check.specs.declared.fault.Selected.{Selected}
use Rattle.dia_check.specs.declared.fault.Refusal.{Refusal}
use Rattle.dia_check.specs.declared.fault.Refusal.TheVariants as refusal
use Rattle.dia_check.specs.declared.stream.stages.Body.{Body}
use Rattle.dia_check.specs.declared.stream.stages.Stage.{Stage}
use Rattle.dia_check.specs.declared.stream.stages.Stage.TheVariants.{Header, InBody, Over, NoMemory}
use Rattle.dia_valid.specs.Valid.{IsValidOf}
use Rattle.dia_check.specs.Faults.{HasGoodHeader, IsAnswer}
use Rattle.dia_check.specs.Walks.{Walks, whole, IsFoundIn}
use Rattle.dia_check.specs.Reading.{BeginsLevel, IsInPart, IsStop, LiesAt}
use Rattle.dia_check.specs.Streaming.{is_sound, wanted, HoweverItEnds, IsReading, IsWholeAnswer, HasRead, HasReadUnless, MayRead, OpensAfter}
use Rattle.dia_check.proofs.CheckAnswers.{walk_answers}
use Rattle.dia_check.proofs.HeaderAnswers.{found_answers}
use Rattle.dia_check.proofs.StreamMessages.{same_sound, same_wanted, however_on, ends_with_zeros, zeros_to_end, sized_end, part_within, whole_refusal}

pub lies_there : (a piece more : List ℕ) → LiesAt ((a ++ piece) ++ more) (length a) piece
lies_there a piece more =
    let e : (length a + length piece) - length a ≡ length piece = omega arith in
    let all = length-append (a ++ piece) more in let front = length-append a piece in (
      ap (λ (k : ℕ). take k (drop (length a) ((a ++ piece) ++ more))) e ∙ ap (λ (t : List ℕ). take (length piece) (drop (length a) t)) (append_assoc a piece more)
          ∙ ap (take (length piece)) (drop-append_seam a (piece ++ more)) ∙ take-append_seam piece more,
      omega (arith, all, front),
    )

found_in : (d : Dictionary) (u : Unknown) (most : Levels) (all : List ℕ) (good : HasGoodHeader d all) (Memory : Type 0) (e : Refusal)
    → IsStop d u most all good Memory e → IsFoundIn d u most (whole good.command.rules all) e
found_in d u most all good Memory (refusal.Fault f) h = h
found_in d u most all good Memory refusal.NoMemory h = tt
found_in d u most all good Memory refusal.Truncated h = h
found_in d u most all good Memory refusal.Trailing h = h
found_in d u most all good Memory refusal.Spent h = h

module _ (d : Dictionary) (sound : IsDictionary d) (u : Unknown) (most : Levels) (bytes : List ℕ) (from : ℕ) (piece : List ℕ) where
  abbrev now : List ℕ
  now = bytes ++ piece

  still_whole : (answer : Result Selected Refusal) → 20 ≤ length bytes → length now ≤ wanted bytes → IsWholeAnswer (length bytes) (wanted bytes) answer → IsWholeAnswer (length now) (wanted now) answer
  still_whole (Ok found) long within h = let more = length-append bytes piece in let e = same_wanted bytes piece long in omega (arith, more, e, within, h)
  still_whole (Err (refusal.Fault f)) long within h = tt
  still_whole (Err refusal.Truncated) long within h = absurd h
  still_whole (Err refusal.Trailing) long within h = absurd h
  still_whole (Err refusal.NoMemory) long within h = absurd h
  still_whole (Err refusal.Spent) long within h = absurd h

  -- a stage in which no body is read stays as it is
  pub still_stage : (Memory : Type 0) (body : Body) (stage : Stage) → stage ≢ InBody → MayRead d u most bytes body stage from piece → HasReadUnless Memory d u most now body stage
  still_stage Memory body (Header front) none may = let (short, kept) = may.read in let long = may.long in absurd (omega (arith, short, long))
  still_stage Memory body InBody none may = absurd (none refl)
  still_stage Memory body (Over answer) none may =
      let (long, whole_answer, however) = may.read in (
        let more = length-append bytes piece in omega (arith, more, long),
        still_whole answer long may.within whole_answer,
        however_on
            (λ (all : List ℕ). IsAnswer d u most all answer) bytes piece long however,
      )
  still_stage Memory body NoMemory none may = absurd may.read

  module _ (body : Body) (may : MayRead d u most bytes body InBody from piece) where
    pub long_now : 20 ≤ length now
    long_now = let more = length-append bytes piece in let long = may.long in omega (arith, more, long)

    pub sound_now : IsTrue (is_sound now)
    sound_now = let (long, is, less, however) = may.read in same_sound bytes piece long ∙ is

    pub reading_now : HoweverItEnds now (IsReading d u most body from)
    reading_now =
        let (long, is, less, however) = may.read in
        subst (λ (n : ℕ). HoweverItEnds now (IsReading d u most body n)) (sym may.from_end) (however_on (IsReading d u most body (length bytes)) bytes piece long however)

    pub lies_now : (more : List ℕ) → LiesAt (now ++ more) from piece
    lies_now more = subst (λ (n : ℕ). LiesAt (now ++ more) n piece) (sym may.from_end) (lies_there bytes piece more)

    pub to_now : from + length piece ≡ length now
    to_now = let more = length-append bytes piece in let e = may.from_end in omega (arith, more, e)

    pub end_now : length (now ++ zeros_to_end now) ≡ wanted now
    end_now = ends_with_zeros now (let w = may.within in let e = same_wanted bytes piece may.long in omega (arith, w, e))

    pub few_now : length (now ++ zeros_to_end now) < 2 ^ 32
    few_now = let f = may.few in let e = same_wanted bytes piece may.long in omega (arith, f, e, end_now)

    pub still_reads : (after : Body) → after.def ≡ body.def
        → ((all : List ℕ) (good : HasGoodHeader d all) → IsInPart d u most all good body.open_levels body.part from
        → LiesAt all from piece → IsInPart d u most all good after.open_levels after.part (from + length piece))
        → HasRead d u most now after InBody
    still_reads after same reads = (long_now, sound_now, less, λ more size. each more size)
      where
        each : (more : List ℕ) → length (now ++ more) ≡ wanted now → IsReading d u most after (length now) (now ++ more)
        each more size =
            let (good, is, part) = reading_now more size in
            (good, is ∙ sym same, subst (λ (n : ℕ). IsInPart d u most (now ++ more) good after.open_levels after.part n) to_now (reads (now ++ more) good part (lies_now more)))

        less : length now < wanted now
        less =
            let (good, is, part) = each (zeros_to_end now) end_now in
            let l = part_within d sound u most (now ++ zeros_to_end now) good after.open_levels after.part (length now) part in omega (arith, l, end_now)

    pub reads_all : (after : Body) → after.def ≡ body.def
        → ((all : List ℕ) (good : HasGoodHeader d all) → IsInPart d u most all good body.open_levels body.part from
        → LiesAt all from piece → Walks d u most (whole good.command.rules all) None × (from + length piece ≡ length all))
        → HasRead d u most now after (Over (Ok (record { def = after.def })))
    reads_all after same walks = (
      long_now,
      all_taken,
      λ more size.
          let (good, is, part) = reading_now more size in
          subst (IsValidOf d u most (now ++ more)) (is ∙ sym same)
          (walk_answers d sound u most (now ++ more) (sized_end now more long_now sound_now size) good None
          (let (walk, end) = walks (now ++ more) good part (lies_now more) in walk)),
    )
      where
        all_taken : length now ≡ wanted now
        all_taken =
            let (good, is, part) = reading_now (zeros_to_end now) end_now in
            let (walk, end) = walks (now ++ zeros_to_end now) good part (lies_now (zeros_to_end now)) in
            sym to_now ∙ end ∙ end_now

    module _ (e : Refusal)
        (stops : (all : List ℕ) (good : HasGoodHeader d all) → IsInPart d u most all good body.open_levels body.part from → LiesAt all from piece
        → IsStop d u most all good (BeginsLevel d most all from (from + length piece)) e) where
      answers : HoweverItEnds now (λ all. IsAnswer d u most all (Err e))
      answers more size =
          let (good, is, part) = reading_now more size in
          found_answers d sound u most (now ++ more) (sized_end now more long_now sound_now size) good e (found_in d u most (now ++ more) good _ e (stops (now ++ more) good part (lies_now more)))

      pub stops_reading : (after : Body) (stage : Stage) → ((e ≡ refusal.NoMemory) × (stage ≡ NoMemory)) ⊎ ((e ≢ refusal.NoMemory) × (stage ≡ Over (Err e)))
          → HasReadUnless (OpensAfter d most from now) d u most now after stage
      stops_reading after stage (inl (memory, is)) = subst (HasReadUnless (OpensAfter d most from now) d u most now after) (sym is) (
        sound_now,
        λ more size.
            let (good, same, part) = reading_now more size in (
              good,
              subst (λ (n : ℕ). BeginsLevel d most (now ++ more) from n) to_now
                  (subst (IsStop d u most (now ++ more) good (BeginsLevel d most (now ++ more) from (from + length piece))) memory (stops (now ++ more) good part (lies_now more))),
            ),
      )
      stops_reading after stage (inr (ne, is)) = subst (HasReadUnless (OpensAfter d most from now) d u most now after) (sym is) (
        long_now,
        whole_refusal d u most (now ++ zeros_to_end now) (length now)
            (wanted now) e ne (sized_end now (zeros_to_end now) long_now sound_now end_now) (answers (zeros_to_end now) end_now),
        answers,
      )
