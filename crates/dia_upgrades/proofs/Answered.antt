-- What `breaking` answers, by the lines that were found.
use Rattle.std.proofs.Common.{◌≡◌, ◌≢◌, ℕ, suc, ◌<◌, ◌==◌, Bool, true, false, cond, List, [], ◌∷◌, ◌++◌, length, map, Result, Ok, Err, refl, sym, ap, subst, ◌∙◌, append_assoc, arith, inl, inr}
use Rattle.std.specs.Prelude.{◌&&◌, filter, IfErr, IfOk, OnOk, Option}
use Rattle.std.specs.Io.KnownBytes.{Appends}
use Rattle.std.specs.List.{AllByRecursion}
use Rattle.std.proofs.KnownBytes.{Appends-nil, Appends-trans}
use Rattle.std.proofs.lemmas.Bool.{eqb-true}
use Rattle.std.proofs.lemmas.List.{append-nil, length-map}
use Rattle.std.proofs.lemmas.List.Elements.{All-contains, All-from_recursion}
use Rattle.dia_book.specs.Dictionary.{Dictionary, IsDictionary}
use Rattle.dia_breaking_sites.specs.Selection.{AreValid}
use Rattle.dia_io.specs.declared.Input.{Input}
use Rattle.dia_io.specs.declared.Exit.{Exit}
use Rattle.dia_io.specs.declared.Exit.TheVariants.{Yes, No, Bad}
use Rattle.dia_io.specs.declared.RunFault.{RunFault}
use Rattle.dia_io.specs.declared.RunFault.TheVariants.{Device, NoMemory}
use Rattle.dia_io.specs.Writing.{AppendsFront}
use Rattle.dia_accepted.specs.Accepted.{PlainEntry, PlainRecorded, is_about, plain_entry, plain_recorded}
use Rattle.dia_accepted.specs.declared.list.Entry.{Entry}
use Rattle.dia_accepted.specs.Accepted.{unused_of as recorded_unused}
use Rattle.dia_accepted.specs.Seen.{HasSeen as RecordedSeen}
use Rattle.dia_breaking.specs.Sides.{Sides}
use Rattle.std.specs.Global.{Vec}
use Rattle.dia_terms.specs.declared.Sends.TheVariants as sent
use Rattle.dia_upgrades.specs.declared.asked.Asked.{Asked}
use Rattle.dia_upgrades.specs.declared.reporting.Counts.{Counts}
use Rattle.dia_upgrades.specs.declared.reporting.Findings.{Findings}
use Rattle.dia_upgrades.specs.declared.reporting.BooksAnswer.{BooksAnswer}
use Rattle.dia_upgrades.specs.declared.seen.Seen.{Seen}
use Rattle.dia_upgrades.specs.Asking.{names_of}
use Rattle.dia_upgrades.specs.Begun.{IsBegun, nothing_yet, some_lines}
use Rattle.dia_upgrades.specs.Lists.{IsListText}
use Rattle.dia_upgrades.specs.Outcome.{AreAllRecorded, CanAsk, IsAcceptedWhole, IsAnswerable, IsListed, IsReadAlike, OfEach, RecordsFound, accepted_of, counted, counts_of, sides_in}
use Rattle.dia_upgrades.specs.Outcome.{nothing, nothing_else, lines}
use Rattle.dia_upgrades.specs.Places.{asked_places}
use Rattle.dia_upgrades.specs.Stale.{AreLookedFor, AreStale, AreUnused, AreUnusedBy, failing}
use Rattle.dia_upgrades.specs.Recorded.{AreRecorded, answer_written, causes_written, number_at, written}
use Rattle.dia_upgrades.specs.UnderWay.{AreAllPut, AreFirstLines, Answers, Ends, Finds, IsTextOfCauses, OccursPut, counts_in, end_text, exit_of, fails_of, firsts_in, is_any, lines_end, nothing_said, text_shown}
use Rattle.dia_upgrades.proofs.AskedCommands.{asked_each, command_occurs}
use Rattle.dia_upgrades.proofs.LinesToReport.{nothing_shown}
use Rattle.dia_upgrades.proofs.Puts.{front_after}
use Rattle.dia_upgrades.proofs.RecordedLines.{recorded_accepted, recorded_alike, recorded_valid}
use Rattle.dia_upgrades.specs.Rows.{FirstLine, Row, cause_among, causes_of, firsts_of, left_of, once_of, tolds, unused_of}
use Rattle.dia_upgrades.specs.Writing.{Writing, stale_text}

-- ---- what is told of commands

-- what holds of the places that are asked for holds of each command
of_each : (asked : Asked) (a : Dictionary) (P : ℕ → Type 0) → IsDictionary a → AllByRecursion (λ place. P (number_at a place)) (asked_places a (names_of asked)) → OfEach asked a P
of_each asked a P sound all = λ number command at is_asked.
    let s = command_occurs a sound number command is_asked.0 at in
    let inside = asked_each a sound (names_of asked) s.place command s.at is_asked in
    let places = asked_places a (names_of asked) in
    subst P (sym s.number_is) (All-contains (λ place. P (number_at a place)) places s.place (All-from_recursion (λ place. P (number_at a place)) places all) inside)

-- ---- what is answered

-- what is written in the end, where no line is left and no entry fails
end_of_none : (w : Writing) (asked : Asked) (recorded left : List Row) (causes : List ℕ) (counts : Counts) (is_some : Bool) → left ≡ [] → counts.lines ≡ counted (length left) → is_some ≡ is_any recorded
    → text_shown w asked left ++ end_text w asked.meaning is_some causes counts [] ≡ w.of_nothing asked.meaning (is_any recorded) ++ w.of_counts counts
end_of_none w asked recorded left causes counts is_some none lines_are some =
    let zero : counts.lines ≡ 0 = lines_are ∙ ap (λ (xs : List Row). counted (length xs)) none in
    (λ i. text_shown w asked (none i) ++ (lines_end w asked.meaning (zero i) (some i) causes 0 ++ w.of_counts counts))
    ∙ ap (λ (x : List ℕ). x ++ (w.of_nothing asked.meaning (is_any recorded) ++ w.of_counts counts)) (nothing_shown w asked)

not_zero_by : (m : ℕ) → 0 < m → (m == 0) ≡ false
not_zero_by m some = test (m == 0) refl
  where
    test : (b : Bool) → (m == 0) ≡ b → (m == 0) ≡ false
    test true e = absurd (omega (arith, some, eqb-true m 0 e))
    test false e = e

some_lines_left : (lines : ℕ) (t : Row) (left : List Row) → lines ≡ counted (length (t ∷ left)) → (lines == 0) ≡ false
some_lines_left n t left counts = ap (λ (m : ℕ). m == 0) counts ∙ by (length left)
  where
    by : (n : ℕ) → (counted (suc n) == 0) ≡ false
    by n = not_zero_by (counted (suc n)) (omega arith)

-- this is written of the causes of lines
abbrev AreWritten : Writing → Asked → List Row → List ℕ → Type 0
AreWritten w asked left causes = causes ≡ causes_written w (map (cause_among (tolds left)) (firsts_in asked left))

-- what is written of the lines that are left
lines_of_some : (w : Writing) (asked : Asked) (left : List Row) (causes : List ℕ) (lines : ℕ) (is_some : Bool) (n : ℕ) → (lines == 0) ≡ false → AreWritten w asked left causes
    → text_shown w asked left ++ lines_end w asked.meaning lines is_some causes n ≡ answer_written w asked left
lines_of_some w asked left causes count is_some n some causes_are =
    ap (λ (b : Bool). text_shown w asked left ++ cond b (nothing_said w asked.meaning is_some n) causes) some ∙ ap (λ (x : List ℕ). text_shown w asked left ++ x) causes_are
    ∙ by asked.once
  where
    by : (b : Bool) → cond b [] (written w left) ++ causes_written w (map (cause_among (tolds left)) (cond b (firsts_of left) [])) ≡ cond b (causes_written w (causes_of left)) (written w left)
    by true = refl
    by false = append-nil (written w left)

end_of_some : (w : Writing) (asked : Asked) (left : List Row) (causes : List ℕ) (counts : Counts) (is_some : Bool) (fails : List PlainEntry) → (counts.lines == 0) ≡ false → AreWritten w asked left causes
    → text_shown w asked left ++ end_text w asked.meaning is_some causes counts fails ≡ answer_written w asked left ++ (stale_text w fails ++ w.of_counts counts)
end_of_some w asked left causes counts is_some fails some causes_are =
    sym (append_assoc (text_shown w asked left) (lines_end w asked.meaning counts.lines is_some causes (length fails)) (stale_text w fails ++ w.of_counts counts))
    ∙ ap (λ (x : List ℕ). x ++ (stale_text w fails ++ w.of_counts counts)) (lines_of_some w asked left causes counts.lines is_some (length fails) some causes_are)

-- where no line is left, and some entry fails
end_of_stale : (w : Writing) (asked : Asked) (left : List Row) (causes : List ℕ) (counts : Counts) (is_some : Bool) (e : PlainEntry) (fails : List PlainEntry) → left ≡ []
    → counts.lines ≡ counted (length left)
    → text_shown w asked left ++ end_text w asked.meaning is_some causes counts (e ∷ fails) ≡ answer_written w asked left ++ (stale_text w (e ∷ fails) ++ w.of_counts counts)
end_of_stale w asked left causes counts is_some e fails none lines_are =
    let zero : counts.lines ≡ 0 = lines_are ∙ ap (λ (xs : List Row). counted (length xs)) none in
    let others = stale_text w (e ∷ fails) ++ w.of_counts counts in
    (λ i. text_shown w asked (none i) ++ (lines_end w asked.meaning (zero i) is_some causes (length (e ∷ fails)) ++ others))
    ∙ ap (λ (x : List ℕ). x ++ (lines_end w asked.meaning 0 is_some causes (length (e ∷ fails)) ++ others)) (nothing_shown w asked)
    ∙ ap (λ (b : Bool). cond b (w.of_nothing asked.meaning is_some) [] ++ others) (not_zero_by (suc (length fails)) (omega arith))
    ∙ ap (λ (x : List ℕ). x ++ others) (sym (by asked.once))
    ∙ ap (λ (xs : List Row). answer_written w asked xs ++ others) (sym none)
  where
    by : (b : Bool) → cond b (causes_written w (causes_of [])) (written w []) ≡ []
    by true = refl
    by false = refl

-- how much there is of all, as it was counted
counts_are : (list : List PlainEntry) (recorded apart : List Row) (stale : List PlainEntry) (seen : Seen) (is : Findings) (unused stale_ones : Vec Entry) (f : Finds seen unused stale_ones is)
    → seen.lines ≡ counted (length (left_of list recorded)) → seen.accepted ≡ counted (length (accepted_of list recorded)) → map plain_recorded f.causes.items ≡ once_of (left_of list recorded)
    → map plain_entry stale_ones.items ≡ stale → counts_in seen f.causes stale_ones ≡ counts_of list recorded stale
counts_are list recorded apart stale seen is unused stale_ones f lines_are accepted_are causes_are stale_are = λ i. record {
  lines = lines_are i;
  causes = (sym (length-map f.causes.items plain_recorded) ∙ ap length causes_are) i;
  accepted = accepted_are i;
  stale = (sym (length-map stale_ones.items plain_entry) ∙ ap length stale_are) i;
}

module _ (w : Writing) (asked : Asked) (input : Input) (a b : Dictionary) (list : List PlainEntry) (is_list : IsListText input list) where
  module _ (sound : IsDictionary a) (can : CanAsk asked a) (apart : List Row) (stale : List PlainEntry) where
    answerable : (recorded : List Row) (is : Findings) → AreAllRecorded asked a b recorded apart → AreStale asked a b list recorded apart stale → RecordsFound list recorded apart stale is
        → IsAnswerable asked input a b list recorded apart stale is
    answerable recorded is all are_stale records = record { list_is = is_list; can_ask = can; all_recorded = all; are_stale = are_stale; records = records }

    by_left : (recorded left : List Row) (causes : List ℕ) (fails : List PlainEntry) (counts : Counts) (is_some : Bool) (exit : Exit) (is : Findings) → AreAllRecorded asked a b recorded apart → AreStale asked a b list recorded apart stale
        → RecordsFound list recorded apart stale is → left_of list recorded ≡ left → failing asked.stale stale ≡ fails
        → counts ≡ counts_of list recorded stale → is_some ≡ is_any recorded → AreWritten w asked (left_of list recorded) causes → exit ≡ exit_of counts.lines (length fails)
        → IsListed w asked input a b (text_shown w asked (left_of list recorded) ++ end_text w asked.meaning is_some causes counts fails) exit is
    by_left [] [] causes [] counts is_some exit is all are_stale records none no_fails same some causes_are ends =
        let places = asked_places a (names_of asked) in
        let breaks = of_each asked a (λ number. ∥ AreValid a b asked.sends asked.unknown number ∥₁) sound (recorded_valid a b asked.sends asked.unknown asked.messages asked.meaning places [] apart all refl) in
        let differs = λ (wanted : asked.meaning ≡ true). of_each asked a (IsReadAlike (sides_in asked a b)) sound (recorded_alike a b asked.sends asked.unknown asked.messages asked.meaning places [] apart all refl wanted) in
        nothing list apart stale (answerable [] is all are_stale records) breaks differs no_fails (end_of_none w asked [] (left_of list []) causes counts is_some none (ap (λ (n : Counts). n.lines) same) some ∙ ap (λ (n : Counts). w.of_nothing asked.meaning false ++ w.of_counts n) same)
        (ends ∙ ap (λ (m : ℕ). exit_of m 0) ((ap (λ (n : Counts). n.lines) same) ∙ ap (λ (xs : List Row). counted (length xs)) none))
    by_left (t ∷ recorded) [] causes [] counts is_some exit is all are_stale records none no_fails same some causes_are ends =
        let places = asked_places a (names_of asked) in
        let accepted = recorded_accepted a b asked.sends asked.unknown asked.messages asked.meaning list places (t ∷ recorded) apart all none in
        nothing_else list (t ∷ recorded) apart stale (answerable (t ∷ recorded) is all are_stale records) none (λ e. let z : t ∷ recorded ≡ [] = e in cc)
        (of_each asked a (IsAcceptedWhole (sides_in asked a b) asked.meaning list) sound accepted) no_fails (end_of_none w asked (t ∷ recorded) (left_of list (t ∷ recorded)) causes counts is_some none (ap (λ (n : Counts). n.lines) same) some
        ∙ ap (λ (n : Counts). w.of_nothing asked.meaning true ++ w.of_counts n) same)
        (ends ∙ ap (λ (m : ℕ). exit_of m 0) ((ap (λ (n : Counts). n.lines) same) ∙ ap (λ (xs : List Row). counted (length xs)) none))
    by_left recorded [] causes (e ∷ fails) counts is_some exit is all are_stale records none some_fail same some causes_are ends =
        let never : failing asked.stale stale ≡ [] → ⊥ = λ z. (let y : e ∷ fails ≡ [] = sym some_fail ∙ z in cc) in
        lines list recorded apart stale (answerable recorded is all are_stale records) (inr never)
        (end_of_stale w asked (left_of list recorded) causes counts is_some e fails none (ap (λ (n : Counts). n.lines) same)
        ∙ (λ i. answer_written w asked (left_of list recorded) ++ (stale_text w (sym some_fail i) ++ w.of_counts (same i))))
        (ends ∙ ap (λ (m : ℕ). exit_of m (suc (length fails))) ((ap (λ (n : Counts). n.lines) same) ∙ ap (λ (xs : List Row). counted (length xs)) none)
        ∙ ap (λ (b : Bool). cond b Yes No) (not_zero_by (suc (length fails)) (omega arith)))
    by_left recorded (t ∷ left) causes fails counts is_some exit is all are_stale records left_is fail same some causes_are ends =
        let never : left_of list recorded ≡ [] → ⊥ = λ e. (let z : t ∷ left ≡ [] = sym left_is ∙ e in cc) in
        let not_none = some_lines_left counts.lines t left ((ap (λ (n : Counts). n.lines) same) ∙ ap (λ (xs : List Row). counted (length xs)) left_is) in
        lines list recorded apart stale (answerable recorded is all are_stale records) (inl never)
        (end_of_some w asked (left_of list recorded) causes counts is_some fails not_none causes_are
        ∙ (λ i. answer_written w asked (left_of list recorded) ++ (stale_text w (sym fail i) ++ w.of_counts (same i))))
        (ends ∙ ap (λ (b : Bool). cond (b && length fails == 0) Yes No) not_none)

    module _ (places : List ℕ) (old mid : Option (List ℕ)) (seen : Seen) (places_are : places ≡ asked_places a (names_of asked))
        (all : AreAllPut w (sides_in asked a b) asked list places old mid seen) (apart_is : all.apart ≡ apart) (unused_ones stale_ones : Vec Entry)
        (stale_is : map plain_entry stale_ones.items ≡ stale) (unused_are : map plain_entry unused_ones.items ≡ unused_of list (all.recorded ++ apart)) (are_stale : AreStale asked a b list all.recorded apart stale) where
      all_recorded : AreAllRecorded asked a b all.recorded apart
      all_recorded =
          subst (AreRecorded (sides_in asked a b) asked.messages asked.meaning (asked_places a (names_of asked)) all.recorded) apart_is
          (subst (λ (ps : List ℕ). AreRecorded (sides_in asked a b) asked.messages asked.meaning ps all.recorded all.apart) places_are all.are_recorded)

      text_of_causes : (causes : List ℕ) → IsTextOfCauses w seen causes → AreWritten w asked (left_of list all.recorded) causes
      text_of_causes causes is =
          let left = left_of list all.recorded in
          is all.forgets (tolds left) all.place all.visits all.are_seen.are_kept.causes
          ∙ ap (λ (fs : List FirstLine). causes_written w (map (cause_among (tolds left)) fs)) all.are_seen.are_kept.firsts

      finds_report : (is : Findings) → Finds seen unused_ones stale_ones is → RecordsFound list all.recorded apart stale is
      finds_report is f = record {
        unused = unused_ones;
        stale_ones = stale_ones;
        lines = seen.lines;
        accepted = seen.accepted;
        causes = f.causes;
        meanings = f.meanings;
        is_listed = f.found_is;
        unused_are = unused_are;
        stale_are = stale_is;
        lines_are = all.are_seen.judged.lines_are;
        accepted_are = all.are_seen.judged.accepted_are;
        causes_are = f.causes_are all.forgets (tolds (left_of list all.recorded)) all.place all.visits all.are_seen.are_kept.causes;
        meanings_are = f.meanings_are all.forgets (tolds (left_of list all.apart)) all.place all.visits all.are_seen.are_kept.meanings ∙ ap (λ (xs : List Row). once_of (left_of list xs)) apart_is;
      }

      abbrev pub whole_text : List ℕ → Counts → List ℕ
      whole_text causes counts = text_shown w asked (left_of list all.recorded) ++ end_text w asked.meaning seen.is_some causes counts (fails_of asked stale_ones)

      listed_so : (causes : List ℕ) → IsTextOfCauses w seen causes → (is : Findings) (f : Finds seen unused_ones stale_ones is) (exit : Exit) → exit ≡ exit_of seen.lines (length (fails_of asked stale_ones))
          → IsListed w asked input a b (whole_text causes (counts_in seen f.causes stale_ones)) exit is
      unfolding finds_report
      listed_so causes written_so is f exit ends =
          let judged = all.are_seen.judged in
          let report = finds_report is f in
          by_left all.recorded (left_of list all.recorded) causes (fails_of asked stale_ones) (counts_in seen f.causes stale_ones) seen.is_some exit is all_recorded are_stale report refl
          (ap (failing asked.stale) (sym stale_is)) (counts_are list all.recorded apart stale seen is unused_ones stale_ones f judged.lines_are judged.accepted_are report.causes_are stale_is)
          judged.is_some_is (text_of_causes causes written_so) ends

      begun_whole : (is_once : Bool) → asked.once ≡ is_once → IsBegun w asked input a b (cond is_once [] (written w (left_of list all.recorded)))
      begun_whole true e = nothing_yet refl
      begun_whole false e =
          some_lines list (asked_places a (names_of asked)) [] all.recorded apart (left_of list all.recorded) [] is_list can e (sym (append-nil (asked_places a (names_of asked)))) all_recorded
          (sym (append-nil (left_of list all.recorded))) refl

      -- where all lines were put, and it is known what stands behind them
      pub all_answered : (new : Option (List ℕ)) (r : Result BooksAnswer RunFault) → Ends w asked seen unused_ones stale_ones mid new r → Answers w asked input a b old new r
      all_answered new (Ok listed) (causes, written_so, f, ends, put) =
          (whole_text causes (counts_in seen f.causes stale_ones), listed_so causes written_so listed.found f listed.exit ends, Appends-trans old mid new (text_shown w asked (left_of list all.recorded)) _ all.is_put put)
      all_answered new (Err Device) (is, causes, written_so, f, front) =
          let exit = exit_of seen.lines (length (fails_of asked stale_ones)) in
          (whole_text causes (counts_in seen f.causes stale_ones), inr (exit, (is, listed_so causes written_so is f exit refl)), front_after old mid new (text_shown w asked (left_of list all.recorded)) _ all.is_put front)
      all_answered new (Err NoMemory) same =
          (text_shown w asked (left_of list all.recorded), begun_whole asked.once refl, subst (λ (o : Option (List ℕ)). Appends old o (text_shown w asked (left_of list all.recorded))) (sym same) all.is_put)

  -- where memory is refused behind all lines
  module _ (can : CanAsk asked a) (places : List ℕ) (old new : Option (List ℕ)) (seen : Seen) (places_are : places ≡ asked_places a (names_of asked))
      (all : AreAllPut w (sides_in asked a b) asked list places old new seen) where
    all_begun : (is_once : Bool) → asked.once ≡ is_once → IsBegun w asked input a b (cond is_once [] (written w (left_of list all.recorded)))
    all_begun true e = nothing_yet refl
    all_begun false e =
        some_lines list places [] all.recorded all.apart (left_of list all.recorded) [] is_list can e (sym places_are ∙ sym (append-nil places)) all.are_recorded (sym (append-nil (left_of list all.recorded))) refl

    pub no_memory_answered : Answers w asked input a b old new (Err NoMemory)
    no_memory_answered = (text_shown w asked (left_of list all.recorded), all_begun asked.once refl, all.is_put)

  -- where not all lines were put
  module _ (can : CanAsk asked a) (places : List ℕ) (old new : Option (List ℕ)) (places_are : places ≡ asked_places a (names_of asked)) where
    begun_so : (first : List Row) → AreFirstLines (sides_in asked a b) asked list places first → (is_once : Bool) → asked.once ≡ is_once → IsBegun w asked input a b (cond is_once [] (written w first))
    begun_so first f true e = nothing_yet refl
    begun_so first f false e = some_lines list f.front f.back f.recorded f.apart first f.more is_list can e (sym places_are ∙ f.parts) f.are_recorded f.left_are refl

    pub first_answered : (fault : RunFault) (first : List Row) → AreFirstLines (sides_in asked a b) asked list places first → OccursPut fault old new (text_shown w asked first)
        → Answers w asked input a b old new (Err fault)
    first_answered Device first f occurs = (text_shown w asked first, inl (begun_so first f asked.once refl), occurs)
    first_answered NoMemory first f occurs = (text_shown w asked first, begun_so first f asked.once refl, occurs)

-- the entries that accept none of the lines that were found
pub unused_by : (w : Writing) (asked : Asked) (list : List PlainEntry) (s : Sides) (places : List ℕ) (old new : Option (List ℕ)) (seen : Seen) (all : AreAllPut w s asked list places old new seen) (unused : List PlainEntry)
    → ((list : List PlainEntry) (recorded : List PlainRecorded) → RecordedSeen seen.accepting list recorded → unused ≡ recorded_unused list recorded) → unused ≡ unused_of list (all.recorded ++ all.apart)
unused_by w asked list s places old new seen all unused is = is list (tolds (all.recorded ++ all.apart)) all.are_seen.judged.accepting

pub are_stale_by : (asked : Asked) (a b : Dictionary) (list : List PlainEntry) (recorded apart : List Row) (stale : List PlainEntry) (unused : Vec Entry) (slice : List Entry) → slice ≡ unused.items
    → map plain_entry unused.items ≡ unused_of list (recorded ++ apart)
    → AreLookedFor asked.stale asked a b (filter (is_about (names_of asked)) (map plain_entry slice)) stale → AreStale asked a b list recorded apart stale
are_stale_by asked a b list recorded apart stale unused slice same is found =
    subst (λ (es : List PlainEntry). AreLookedFor asked.stale asked a b (filter (is_about (names_of asked)) es) stale) (ap (map plain_entry) same ∙ is) found

-- entries that are unused with one sender after another
pub unused_in : (asked : Asked) (a b : Dictionary) (entries about first second stale : List PlainEntry) → entries ≡ about → AreUnusedBy asked a b sent.Any entries first
    → AreUnusedBy asked a b sent.Known first second → AreUnusedBy asked a b sent.Listed second stale → AreUnused asked a b about stale
unused_in asked a b entries about first second stale same one two three =
    subst (λ (es : List PlainEntry). AreUnused asked a b es stale) same (first, second, one, two, three)

-- nothing is written where memory is refused before
pub none_answered : (w : Writing) (asked : Asked) (input : Input) (a b : Dictionary) (put : Option (List ℕ)) → Answers w asked input a b put put (Err NoMemory)
none_answered w asked input a b put = ([], nothing_yet refl, Appends-nil put)

-- a refusal is written
pub refusal_answered : (w : Writing) (asked : Asked) (input : Input) (a b : Dictionary) (old new : Option (List ℕ)) (text : List ℕ) (is : Findings) (r : Result BooksAnswer RunFault) → IsListed w asked input a b text Bad is
    → OnOk r (Appends old new text) → IfOk r (λ listed. listed.exit ≡ Bad) → IfOk r (λ listed. listed.found ≡ is) → IfErr r (λ fault. fault ≡ Device) → AppendsFront old new text
    → Answers w asked input a b old new r
refusal_answered w asked input a b old new text is (Ok listed) refusal put exit found_is fault front =
    (text, subst (λ (e : Exit). IsListed w asked input a b text e listed.found) (sym exit) (subst (IsListed w asked input a b text Bad) (sym found_is) refusal), put)
refusal_answered w asked input a b old new text is (Err Device) refusal put exit found_is fault front = (text, inr (Bad, (is, refusal)), front)
refusal_answered w asked input a b old new text is (Err NoMemory) refusal put exit found_is fault front = absurd (let z : NoMemory ≡ Device = fault in cc)

pub no_items : {X : Type 0} (xs : List X) → length xs ≡ 0 → xs ≡ []
no_items [] none = refl
no_items (x ∷ xs) none = absurd (omega (arith, none))

pub some_items : {X : Type 0} (xs : List X) → length xs ≢ 0 → xs ≢ []
some_items xs some none = some (ap length none)

pub not_zero : (n : ℕ) → (n == 0) ≡ false → n ≢ 0
not_zero n e is_zero = let t : (n == 0) ≡ true = ap (λ (k : ℕ). k == 0) is_zero in cc
