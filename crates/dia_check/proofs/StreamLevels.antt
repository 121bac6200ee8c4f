-- What `levels` answers of a stream.
use Rattle.std.proofs.Common.{◌≡◌, ◌≢◌, ℕ, ◌+◌, ◌-◌, ◌<◌, ◌≤◌, List, [], ◌++◌, length, take, drop, refl, sym, ap, subst, ◌∙◌, arith}
use Rattle.std.specs.Prelude.{◌^◌, Result, Ok, Err, replicate}
use Rattle.std.proofs.lemmas.List.{append-nil}
use Rattle.std.proofs.lemmas.Option.{none-some}
use Rattle.dia_wire.specs.Number.{number}
use Rattle.dia_book.specs.Dictionary.{Dictionary, IsDictionary}
use Rattle.dia_terms.specs.declared.Unknown.{Unknown}
use Rattle.dia_terms.specs.declared.Levels.{Levels}
use Rattle.dia_terms.specs.declared.Levels.TheVariants.{Any, AtMost}
use Rattle.dia_check.specs.declared.fault.Selected.{Selected}
use Rattle.dia_check.specs.declared.fault.Refusal.{Refusal}
use Rattle.dia_check.specs.declared.fault.Refusal.TheVariants as refusal
use Rattle.dia_check.specs.declared.stream.stages.Body.{Body}
use Rattle.dia_check.specs.declared.stream.stages.Stage.{Stage}
use Rattle.dia_check.specs.declared.stream.stages.Stage.TheVariants.{Header, InBody, Over, NoMemory}
use Rattle.dia_valid.specs.Valid.{IsValidOf}
use Rattle.dia_check.specs.Levels.{IsOpen, filled}
use Rattle.dia_check.specs.Faults.{HasGoodHeader}
use Rattle.dia_check.specs.Streaming.{wanted, AreCurrent, BeginsValid, CountsLevels, HasTaken, IsReading, IsSpentStage, IsWholeAnswer, IsWithinLimit}
use Rattle.dia_check.proofs.CheckAnswers.{valid_answer}
use Rattle.dia_check.proofs.LevelsAtPlaces.{CountsOuter, IsDeepest, all_of_them, chain, chain_size, each_holds, each_once, least_start, part_deepest, within_limit}
use Rattle.dia_check.proofs.StreamMessages.{ends_with_zeros, length_sound, same_wanted, sound_wants, zeros_to_end}
use Rattle.dia_check.proofs.FirstFaults.{open_bounds}
use Rattle.dia_check.proofs.FaultlessMessages.{valid_good}
use Rattle.dia_check.proofs.OneAnswer.{valid_length}

no_levels : (most : Levels) → IsWithinLimit most 0
no_levels Any = tt
no_levels (AtMost m) = omega arith

module _ (d : Dictionary) (sound : IsDictionary d) (u : Unknown) (most : Levels) (bytes : List ℕ) where
  -- ---- a body is being read

  module _ (body : Body) (taken all : ℕ) (h : HasTaken d u most taken all body InBody bytes) (count : ℕ)
      (counted : (message : List ℕ) (good : HasGoodHeader d message) → CountsOuter d sound u most message good body.open_levels count) where
    abbrev message : List ℕ
    message = bytes ++ zeros_to_end bytes

    is_filled : message ≡ filled bytes
    is_filled = let (long, is, less, however) = h.read in ap (λ (k : ℕ). bytes ++ replicate (k - length bytes) 0) (sound_wants bytes long is)

    reading : IsReading d u most body (length bytes) message
    reading = let (long, is, less, however) = h.read in however (zeros_to_end bytes) (ends_with_zeros bytes h.within)

    abbrev good : HasGoodHeader d message
    good = reading.0

    deepest : IsDeepest d sound u most message good body.open_levels (length bytes) count
    deepest = let (g, is, part) = reading in part_deepest d sound u most message g body.open_levels body.part (length bytes) part count (counted message g)

    current : AreCurrent d most bytes (chain d most message good deepest.level deepest.is_open)
    current = record {
      distinct = λ i j l at at'. each_once d most message good u (length bytes) deepest.level deepest.is_open deepest.holds i j l at at';
      each = λ l. (
        λ has. let (op, holds) = each_holds d most message good u (length bytes) deepest.level deepest.is_open deepest.holds l has in let (from, to) = holds in
            (subst (λ (m : List ℕ). IsOpen d most m l) is_filled op, from, to),
        λ x. let (op, from, to) = x in
            all_of_them d most message good u (length bytes) deepest.level deepest.is_open deepest.holds deepest.none_inside l
            (subst (λ (m : List ℕ). IsOpen d most m l) (sym is_filled) op) (from, to),
      );
    }

    pub counts_body : CountsLevels d u most bytes (count + 1)
    counts_body =
        let deep = deepest.is_depth in
        record {
          none_yet = λ short. let (long, is, less, however) = h.read in absurd (omega (arith, short, long));
          bound = λ long. let least = least_start d most message deepest.level deepest.is_open in let from = deepest.holds.0 in omega (arith, least, from, deep);
          limit = subst (λ (k : ℕ). IsWithinLimit most (k + 1)) deep (within_limit d most message deepest.level deepest.is_open);
          done = λ e. let (long, is, less, however) = h.read in absurd (omega (arith, e, less));
          header = λ some. let (long, is, less, however) = h.read in (is, subst (HasGoodHeader d) is_filled good);
          exact = λ long valid. (
            chain d most message good deepest.level deepest.is_open,
            current,
            (let size = chain_size d most message good deepest.level deepest.is_open in omega (arith, size, deep)),
          );
        }

    pub few_levels : count + 1 < 2 ^ 32
    few_levels =
        let least = least_start d most message deepest.level deepest.is_open in let from = deepest.holds.0 in let deep = deepest.is_depth in
        let f = h.few in let w = h.wants in let within = h.within in
        omega (arith, least, from, deep, f, w, within)

  -- ---- no body is being read

  counts_none : (20 ≤ length bytes → BeginsValid d u most bytes → AreCurrent d most bytes []) → CountsLevels d u most bytes 0
  counts_none none = record {
    none_yet = λ short. refl;
    bound = λ long. omega arith;
    limit = no_levels most;
    done = λ e. refl;
    header = λ some. absurd (omega (arith, some));
    exact = λ long valid. ([], none long valid, refl);
  }

  valid_size : (rest : List ℕ) (c : ℕ) → 20 ≤ length bytes → IsValidOf d u most (bytes ++ rest) c → length (bytes ++ rest) ≡ wanted bytes
  valid_size rest c long valid =
      let (is, e) = length_sound (bytes ++ rest) (length (bytes ++ rest)) (valid_length d sound u most (bytes ++ rest) c valid) in
      sym e ∙ same_wanted bytes rest long

  -- a message that is read wholly has no open level
  none_left : (c : ℕ) → 20 ≤ length bytes → length bytes ≡ wanted bytes → IsValidOf d u most bytes c → AreCurrent d most bytes []
  none_left c long all valid = record {
    distinct = λ i j l at at'. absurd (none-some l at);
    each = λ l. (
      λ has. let (k, less, is) = has in absurd (omega (arith, less)),
      λ x. let (op, from, to) = x in
          let (a, b) = open_bounds d u most bytes (valid_good d sound u most bytes c valid) l (subst (λ (m : List ℕ). IsOpen d most m l) same op) in
          absurd (omega (arith, b, to)),
    );
  }
    where
      same : filled bytes ≡ bytes
      same =
          let (is, e) = length_sound bytes (length bytes) (valid_length d sound u most bytes c valid) in
          let w = sound_wants bytes long is in
          let none : number (take 3 (drop 1 bytes)) - length bytes ≡ 0 = omega (arith, w, all) in
          ap (λ (k : ℕ). bytes ++ replicate k 0) none ∙ append-nil bytes

  counts_over : (body : Body) (answer : Result Selected Refusal) (taken all : ℕ) → HasTaken d u most taken all body (Over answer) bytes → CountsLevels d u most bytes 0
  counts_over body (Ok found) taken all h = counts_none (λ long valid.
      let (long', whole, however) = h.read in
      none_left found.def long whole (subst (λ (m : List ℕ). IsValidOf d u most m found.def) (append-nil bytes) (however [] (ap length (append-nil bytes) ∙ whole))))
  counts_over body (Err e) taken all h = counts_none (λ long valid.
      let (long', whole, however) = h.read in
      let (rest, some) = valid in
      let (c, is_valid) = some in
      let memory : e ≡ refusal.NoMemory = valid_answer d sound u most (bytes ++ rest) (Err e) c (however rest (valid_size rest c long is_valid)) is_valid in
      absurd (subst (λ (x : Refusal). IsWholeAnswer (length bytes) (wanted bytes) (Err x)) memory whole))

  -- a stage in which no body is read
  pub counts_zero : (body : Body) (stage : Stage) → stage ≢ InBody → ¬ IsSpentStage stage → (taken all : ℕ) → HasTaken d u most taken all body stage bytes → CountsLevels d u most bytes 0
  counts_zero body (Header front) none live taken all h = counts_none (λ long valid. let (short, kept) = h.read in absurd (omega (arith, long, short)))
  counts_zero body InBody none live taken all h = absurd (none refl)
  counts_zero body (Over answer) none live taken all h = counts_over body answer taken all h
  counts_zero body NoMemory none live taken all h = absurd (live tt)
