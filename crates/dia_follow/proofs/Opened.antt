-- A connection that shows no departure from the capabilities exchange begins with it.
use Rattle.std.proofs.Common.{◌≡◌, ℕ, ◌⊎◌, ◌==◌, ◌&&◌, ◌||◌, Bool, true, false, not, List, [], ◌∷◌, ◌++◌, Option, None, Some, is_some, option_map, zero, suc, refl, sym, ap, subst, ◌∙◌, inl, inr}
use Rattle.std.specs.Prelude.{drop, if◌then◌else◌}
use Rattle.std.specs.List.{list_any}
use Rattle.std.specs.Option.{option_map_or, option_or}
use Rattle.std.proofs.lemmas.Bool.{and_from, and_parts, both_ways, eqb-true, false≢true, not-false, not-true, or_parts, true≢false}
use Rattle.std.proofs.lemmas.List.Folds.{list_any-append}
use Rattle.dia_follow.specs.declared.end.End.{End}
use Rattle.dia_follow.specs.declared.end.End.TheVariants.{Initiator, Responder}
use Rattle.dia_follow.specs.declared.phase.Phase.{Phase}
use Rattle.dia_follow.specs.declared.phase.Phase.TheVariants.{Start, Asked, Open, Refused, Middle}
use Rattle.dia_follow.specs.declared.side.Side.{Side}
use Rattle.dia_follow.specs.declared.message.Line.{Line}
use Rattle.dia_follow.specs.declared.message.Message.{Message as AnyMessage}
use Rattle.dia_follow.specs.declared.message.Seen.{Seen}
use Rattle.dia_follow.specs.declared.message.Seen.TheVariants.{Unread, Message}
use Rattle.dia_follow.specs.declared.reason.Reason.{Reason}
use Rattle.dia_follow.specs.declared.reason.Reason.TheVariants as reason
use Rattle.dia_follow.specs.declared.request.Request.{Request}
use Rattle.dia_follow.specs.Applications.{Apps, is_relay, shares_number}
use Rattle.dia_follow.specs.Commons.{common_apps}
use Rattle.dia_follow.specs.Connections.{PlainConnection, Sides, after, after_by, answered_cer, answers_cer, apps_of, findings_by, findings_of, host_in, moment, new_connection}
use Rattle.dia_follow.specs.Connections.{noted_end, opens, opens_in, own, phase_after, request_of, state_in, taken, with_own, with_sides}
use Rattle.dia_follow.specs.Connections.{noted as noted_side}
use Rattle.dia_follow.specs.Contents.{PlainContents}
use Rattle.dia_follow.specs.Departures.{Row, answers_nothing, before_cea, cer_again, cer_from_acceptor, findings, if_known, is_asked, is_cea, known_common, may_not_ask, no_cer, no_common}
use Rattle.dia_follow.specs.Departures.{notes_of_frame, notes_of_state, of_answers, of_frame, of_opening, of_requests, of_results, recorded}
use Rattle.dia_follow.specs.Messages.{contents_of, is_cer, is_success, result_of}
use Rattle.dia_follow.specs.Moments.{PlainMoment}
use Rattle.dia_follow.specs.Opened.{HaveCommon, IsCeaOfSuccess, IsOpened, NoDepartureOpens, Sent, OpensWithout, found, is_of_opening, run}
use Rattle.dia_follow.specs.Places.{at_place}
use Rattle.dia_follow.specs.Sides.{new_side}
use Rattle.dia_follow.proofs.SameCommons.{common_symmetric}

-- ---- reasons that aren't reported

any_parts : (test : Reason → Bool) (xs ys : List Reason) → list_any test (xs ++ ys) ≡ false → (list_any test xs ≡ false) × (list_any test ys ≡ false)
any_parts test xs ys none = or_parts (list_any test xs) (list_any test ys) (sym (list_any-append test xs ys) ∙ none)

no_row : (test : Reason → Bool) (r : Reason) (b : Bool) (rows : List Row) → test r ≡ true → list_any test (recorded ((r, b) ∷ rows)) ≡ false → b ≡ false
no_row test r false rows is none = refl
no_row test r true rows is none = absurd (both_ways (test r) (or_parts (test r) (list_any test (recorded rows)) none).0 is)

more_rows : (test : Reason → Bool) (r : Reason) (b : Bool) (rows : List Row) → list_any test (recorded ((r, b) ∷ rows)) ≡ false → list_any test (recorded rows) ≡ false
more_rows test r false rows none = none
more_rows test r true rows none = (or_parts (test r) (list_any test (recorded rows)) none).1

record Shows (m : PlainMoment) : Type 0 where
  not_no_cer : no_cer m ≡ false
  not_from_acceptor : cer_from_acceptor m ≡ false
  not_again : cer_again m ≡ false
  not_before : before_cea m ≡ false
  not_nothing : answers_nothing m ≡ false
  not_no_common : no_common m ≡ false

shows : (m : PlainMoment) → list_any is_of_opening (findings m) ≡ false → Shows m
shows m none =
    let frame : List Reason = recorded (of_frame m) in
    let opening : List Reason = recorded (of_opening m) in
    let requests : List Reason = recorded (of_requests m) in
    let answers : List Reason = recorded (of_answers m) in
    let results : List Reason = recorded (of_results m) in
    let notes : List Reason = recorded (notes_of_frame m) in
    let to_notes = any_parts is_of_opening (((((frame ++ opening) ++ requests) ++ answers) ++ results) ++ notes) (recorded (notes_of_state m)) none in
    let to_results = any_parts is_of_opening ((((frame ++ opening) ++ requests) ++ answers) ++ results) notes to_notes.0 in
    let to_answers = any_parts is_of_opening (((frame ++ opening) ++ requests) ++ answers) results to_results.0 in
    let to_requests = any_parts is_of_opening ((frame ++ opening) ++ requests) answers to_answers.0 in
    let to_opening = any_parts is_of_opening (frame ++ opening) requests to_requests.0 in
    let all = (any_parts is_of_opening frame opening to_opening.0).1 in
    let from_second = more_rows is_of_opening reason.NoCer (no_cer m) (drop 1 (of_opening m)) all in
    let from_third = more_rows is_of_opening reason.CerFromAcceptor (cer_from_acceptor m) (drop 2 (of_opening m)) from_second in
    let from_fourth = more_rows is_of_opening reason.CerAgain (cer_again m) (drop 3 (of_opening m)) from_third in
    record {
      not_no_cer = no_row is_of_opening reason.NoCer (no_cer m) (drop 1 (of_opening m)) refl all;
      not_from_acceptor = no_row is_of_opening reason.CerFromAcceptor (cer_from_acceptor m) (drop 2 (of_opening m)) refl from_second;
      not_again = no_row is_of_opening reason.CerAgain (cer_again m) (drop 3 (of_opening m)) refl from_third;
      not_before = no_row is_of_opening reason.BeforeCea (before_cea m) [] refl from_fourth;
      not_nothing = no_row is_of_opening reason.AnswersNothing (answers_nothing m) (drop 1 (of_answers m)) refl to_requests.1;
      not_no_common = no_row is_of_opening reason.NoCommon (no_common m) (drop 1 (of_results m)) refl to_answers.1;
    }

-- ---- phases in which no CEA comes any more

abbrev is_past : Phase → Bool
is_past Start = false
is_past (Asked e) = false
is_past (Open e) = true
is_past (Refused e) = true
is_past Middle = true

own_phase : (c : PlainConnection) (e : End) (s : Side) → (with_own c e s).phase ≡ c.phase
own_phase c Initiator s = refl
own_phase c Responder s = refl

sides_phase : (c : PlainConnection) (e : End) (s : Sides) → (with_sides c e s).phase ≡ c.phase
sides_phase c Initiator s = refl
sides_phase c Responder s = refl

taken_phase : (c : PlainConnection) (from : End) (number : ℕ) (time : Option ℕ) (m : AnyMessage) → (taken c from number time m).phase ≡ (opens c from m).phase
taken_phase c from number time m = sides_phase (opens c from m) from _

goes_phase : (b : Bool) (c : PlainConnection) (from : End) → (if b then noted_end c from else c).phase ≡ c.phase
goes_phase true c from = own_phase c from (noted_side (own c from))
goes_phase false c from = refl

opens_past : (p : Phase) (c : PlainConnection) (from : End) (m : AnyMessage) → c.phase ≡ p → is_past p ≡ true → (opens_in p c from m).phase ≡ p
opens_past Start c from m is past = absurd (false≢true past)
opens_past (Asked e) c from m is past = absurd (false≢true past)
opens_past (Open e) c from m is past = is
opens_past (Refused e) c from m is past = goes_phase (m.head.request && not (is_cer m.head)) c from ∙ is
opens_past Middle c from m is past = is

seen_past : (c : PlainConnection) (from : End) (line : Line) (seen : Seen) → is_past c.phase ≡ true → is_past (after_by c from line seen).phase ≡ true
seen_past c from line (Unread f) past = refl
seen_past c from line (Message m) past =
    ap is_past (taken_phase c from line.number line.time m ∙ opens_past c.phase c from m refl past) ∙ past

run_past : (c : PlainConnection) (messages : List Sent) → is_past c.phase ≡ true → is_past (run c messages).phase ≡ true
run_past c [] past = past
run_past c (s ∷ messages) past = run_past (after c s.from s.line) messages (seen_past c s.from s.line s.line.seen past)

not_asked : (p : Phase) → is_past p ≡ true → is_asked p ≡ false
not_asked Start past = refl
not_asked (Asked e) past = absurd (false≢true past)
not_asked (Open e) past = refl
not_asked (Refused e) past = refl
not_asked Middle past = refl

and_four : (a b c d : Bool) → (a && b && c && d) ≡ true → a ≡ true
and_four true b c d is = refl
and_four false b c d is = is

no_cea : (c : PlainConnection) (from : End) (line : Line) (m : AnyMessage) → is_past c.phase ≡ true → is_cea (moment c from line m) ≡ true → ⊥
no_cea c from line m past is = both_ways (is_asked c.phase) (not_asked c.phase past) (and_four (is_asked c.phase) _ _ _ is)

-- ---- the first message

-- after a CER of the initiator
abbrev asked_by : ℕ → Option ℕ → AnyMessage → PlainConnection
asked_by number time m = record {
  phase = Asked Initiator;
  initiator = record new_side { waits = request_of number time m ∷ []; apps = apps_of m.body; host = host_in m.body; origin_state = option_or (state_in m.body) None };
  responder = new_side;
  last = time;
}

abbrev timed : Option ℕ → PlainConnection → PlainConnection
timed time c = record c { last = time }

abbrev as_cer : AnyMessage → AnyMessage
as_cer m = record m { head = record m.head { request = true; code = 257 } }

is_as_cer : (m : AnyMessage) → is_cer m.head ≡ true → m ≡ as_cer m
is_as_cer m is =
    let parts = and_parts m.head.request (m.head.code == 257) is in
    let request : m.head.request ≡ true = parts.0 in
    let code : m.head.code ≡ 257 = eqb-true m.head.code 257 parts.1 in
    λ i. record m { head = record m.head { request = request i; code = code i } }

asked_first : (number : ℕ) (time : Option ℕ) (m : AnyMessage) → is_cer m.head ≡ true → timed time (taken new_connection Initiator number time m) ≡ asked_by number time m
asked_first number time m is = subst (λ (x : AnyMessage). timed time (taken new_connection Initiator number time x) ≡ asked_by number time x) (sym (is_as_cer m is)) refl

asked_after : (line : Line) (m : AnyMessage) → line.seen ≡ Message m → is_cer m.head ≡ true → after new_connection Initiator line ≡ asked_by line.number line.time m
asked_after line m seen is = ap (λ (x : Seen). timed line.time (after_by new_connection Initiator line x)) seen ∙ asked_first line.number line.time m is

may_ask : (e : End) → may_not_ask Start e ≡ false → e ≡ Initiator
may_ask Initiator h = refl
may_ask Responder h = absurd (true≢false h)

and_rest : (a b : Bool) → a ≡ true → (a && b) ≡ false → b ≡ false
and_rest true b is none = none
and_rest false b is none = absurd (false≢true is)

-- it can't be read, or it is a CER of the initiator
abbrev IsFirst : Sent → Seen → Type 0
IsFirst s seen = (is_past (after_by new_connection s.from s.line seen).phase ≡ true) ⊎ ((m : AnyMessage) × (seen ≡ Message m) × (s.from ≡ Initiator) × (is_cer m.head ≡ true))

first_seen : (s : Sent) (seen : Seen) → list_any is_of_opening (findings_by new_connection s.from s.line seen) ≡ false → IsFirst s seen
first_seen s (Unread f) none = inl refl
first_seen s (Message m) none =
    let h = shows (moment new_connection s.from s.line m) none in
    let is : is_cer m.head ≡ true = not-false (is_cer m.head) h.not_no_cer in
    inr (m, refl, may_ask s.from (and_rest (is_cer m.head) (may_not_ask Start s.from) is h.not_from_acceptor), is)

-- ---- the second message

past_after : (success : Bool) (e : End) → is_past (phase_after success e) ≡ true
past_after true e = refl
past_after false e = refl

answered_past : (c : PlainConnection) (asker from : End) (m : AnyMessage) (result : Option ℕ) → is_past (answered_cer c asker from m result).phase ≡ true
answered_past c asker from m None = refl
answered_past c asker from m (Some code) = ap is_past (own_phase _ from _) ∙ past_after (is_success (Some code)) asker

no_cer_of_asker : (cer : Bool) → (cer && true && true) ≡ false → cer ≡ false
no_cer_of_asker true h = absurd (true≢false h)
no_cer_of_asker false h = refl

no_cer_of_other : (cer : Bool) → (cer && true) ≡ false → cer ≡ false
no_cer_of_other true h = absurd (true≢false h)
no_cer_of_other false h = refl

too_early : (cer : Bool) → cer ≡ false → (not cer && true) ≡ false → ⊥
too_early true is h = true≢false is
too_early false is h = true≢false h

must_be_cea : (cea cer : Bool) → cer ≡ false → (not cea && not cer && true) ≡ false → cea ≡ true
must_be_cea true cer is h = refl
must_be_cea false true is h = absurd (true≢false is)
must_be_cea false false is h = absurd (true≢false h)

module _ (number : ℕ) (time : Option ℕ) (cer : AnyMessage) where
  abbrev asked : PlainConnection
  asked = asked_by number time cer

  must_answer : (from : End) (line : Line) (m : AnyMessage) → Shows (moment asked from line m) → answers_cer Initiator from m.head ≡ true
  must_answer Initiator line m h = absurd (too_early (is_cer m.head) (no_cer_of_asker (is_cer m.head) h.not_again) h.not_before)
  must_answer Responder line m h = must_be_cea (answers_cer Initiator Responder m.head) (is_cer m.head) (no_cer_of_other (is_cer m.head) h.not_from_acceptor) h.not_before

  second_seen : (from : End) (line : Line) (seen : Seen) → list_any is_of_opening (findings_by asked from line seen) ≡ false → is_past (after_by asked from line seen).phase ≡ true
  second_seen from line (Unread f) none = refl
  second_seen from line (Message m) none =
      ap is_past (taken_phase asked from line.number line.time m)
      ∙ ap (λ (b : Bool). is_past (if b then answered_cer asked Initiator from m (result_of m.body) else (if is_cer m.head then asked else noted_end asked from)).phase)
      (must_answer from line m (shows (moment asked from line m) none))
      ∙ answered_past asked Initiator from m (result_of m.body)

  -- no other message comes before the CEA
  only_cer : (c : PlainConnection) (between : List Sent) (next : Sent) (cea : AnyMessage) → c ≡ asked → list_any is_of_opening (found c (between ++ next ∷ [])) ≡ false
      → is_cea (moment (run c between) next.from next.line cea) ≡ true → between ≡ []
  only_cer c [] next cea is none is_cea = refl
  only_cer c (s ∷ between) next cea is none is_cea =
      let here = (any_parts is_of_opening (findings_of c s.from s.line) (found (after c s.from s.line) (between ++ next ∷ [])) none).0 in
      let past = second_seen s.from s.line s.line.seen (subst (λ (x : PlainConnection). list_any is_of_opening (findings_of x s.from s.line) ≡ false) is here) in
      absurd (no_cea (run (after c s.from s.line) between) next.from next.line cea
      (run_past (after c s.from s.line) between (subst (λ (x : PlainConnection). is_past (after x s.from s.line).phase ≡ true) (sym is) past)) is_cea)

-- ---- the CEA

only_place : (r : Request) (place : Option ℕ) → is_some (at_place (r ∷ []) place) ≡ true → at_place (r ∷ []) place ≡ Some r
only_place r None is = absurd (false≢true is)
only_place r (Some zero) is = refl
only_place r (Some (suc n)) is = absurd (false≢true is)

has_request : (request some : Bool) → request ≡ false → (not request && not some && true) ≡ false → some ≡ true
has_request true some is h = absurd (true≢false is)
has_request false true is h = refl
has_request false false is h = absurd (true≢false h)

one_shares : (s a b : Bool) → (not s && not a && not b) ≡ false → (s || a || b) ≡ true
one_shares true a b h = refl
one_shares false true b h = refl
one_shares false false true h = refl
one_shares false false false h = absurd (true≢false h)

-- what is there at the CEA, as the CER waits
record IsAnswered (c : PlainConnection) (from : End) (line : Line) (cea : AnyMessage) (number : ℕ) (time : Option ℕ) (cer : AnyMessage) : Type 0 where
  of_responder : from ≡ Responder
  answers : (moment c from line cea).request ≡ Some (request_of number time cer)
  common : (ours theirs : PlainContents) → contents_of cer.body ≡ Some ours → contents_of cea.body ≡ Some theirs → HaveCommon (moment c from line cea) ours.apps theirs.apps

module _ (number : ℕ) (time : Option ℕ) (cer : AnyMessage) (line : Line) (cea : AnyMessage) where
  abbrev waiting : PlainConnection
  waiting = asked_by number time cer

  abbrev at_cea : PlainMoment
  at_cea = moment waiting Responder line cea

  abbrev differ : Apps → Apps → Bool
  differ a b = not (shares_number a b) && not (is_relay a) && not (is_relay b)

  have_common : is_cea at_cea ≡ true → is_success (result_of cea.body) ≡ true → no_common at_cea ≡ false
      → (ours theirs : PlainContents) → contents_of cer.body ≡ Some ours → contents_of cea.body ≡ Some theirs → HaveCommon at_cea ours.apps theirs.apps
  have_common is success none ours theirs of_cer of_cea =
      let apps : apps_of cer.body ≡ Some ours.apps = ap (λ (o : Option PlainContents). option_map (λ (c : PlainContents). c.apps) o) of_cer in
      let tested = and_rest (is_cea at_cea && is_success (result_of cea.body)) _ (and_from (is_cea at_cea) (is_success (result_of cea.body)) is success) none in
      let same : if_known (apps_of cer.body) (λ x. option_map_or (λ (c : PlainContents). differ x c.apps) (contents_of cea.body) false) ≡ differ ours.apps theirs.apps =
      ap (λ (o : Option Apps). if_known o (λ x. option_map_or (λ (c : PlainContents). differ x c.apps) (contents_of cea.body) false)) apps
      ∙ ap (λ (o : Option PlainContents). option_map_or (λ (c : PlainContents). differ ours.apps c.apps) o false) of_cea in
      record {
        shares = one_shares (shares_number ours.apps theirs.apps) (is_relay ours.apps) (is_relay theirs.apps) (sym same ∙ tested);
        written = ap (λ (o : Option Apps). known_common (record at_cea { other = record at_cea.other { apps = o } })) apps
            ∙ ap (λ (o : Option PlainContents). option_map (λ (c : PlainContents). common_apps ours.apps c.apps) o) of_cea;
        symmetric = common_symmetric ours.apps theirs.apps;
      }

  responder_answers : is_cea at_cea ≡ true → is_success (result_of cea.body) ≡ true → Shows at_cea → IsAnswered waiting Responder line cea number time cer
  responder_answers is success h =
      let answer : cea.head.request ≡ false = not-true cea.head.request (and_parts (not cea.head.request) (cea.head.code == 257) is).0 in
      record {
        of_responder = refl;
        answers = only_place (request_of number time cer) _ (has_request cea.head.request (is_some at_cea.request) answer h.not_nothing);
        common = have_common is success h.not_no_common;
      }

is_answered : (from : End) (line : Line) (cea : AnyMessage) (number : ℕ) (time : Option ℕ) (cer : AnyMessage) → is_cea (moment (asked_by number time cer) from line cea) ≡ true
    → is_success (result_of cea.body) ≡ true → Shows (moment (asked_by number time cer) from line cea) → IsAnswered (asked_by number time cer) from line cea number time cer
is_answered Initiator line cea number time cer is success h = absurd (false≢true is)
is_answered Responder line cea number time cer is success h = responder_answers number time cer line cea is success h

-- ---- all of it

module _ (line : Line) (cer : AnyMessage) (seen : line.seen ≡ Message cer) (asks : is_cer cer.head ≡ true) (next : Sent) (cea : AnyMessage) where
  abbrev at_first : List Sent
  at_first = record { from = Initiator; line = line } ∷ []

  opened_by : IsCeaOfSuccess at_first next cea → OpensWithout (at_first ++ next ∷ []) → IsOpened at_first next cea
  opened_by h none =
      let c = after new_connection Initiator line in
      let is : c ≡ asked_by line.number line.time cer = asked_after line cer seen asks in
      let rest = (any_parts is_of_opening (findings_of new_connection Initiator line) (found c (next ∷ [])) none).1 in
      let here = (any_parts is_of_opening (findings_of c next.from next.line) [] rest).0 in
      let found_here : list_any is_of_opening (findings (moment c next.from next.line cea)) ≡ false =
      subst (λ (s : Seen). list_any is_of_opening (findings_by c next.from next.line s) ≡ false) h.seen here in
      let answered : IsAnswered c next.from next.line cea line.number line.time cer =
      subst (λ (x : PlainConnection). IsAnswered x next.from next.line cea line.number line.time cer) (sym is)
      (is_answered next.from next.line cea line.number line.time cer (subst (λ (x : PlainConnection). is_cea (moment x next.from next.line cea) ≡ true) is h.is_cea) h.succeeds
      (shows (moment (asked_by line.number line.time cer) next.from next.line cea)
      (subst (λ (x : PlainConnection). list_any is_of_opening (findings (moment x next.from next.line cea)) ≡ false) is found_here))) in
      record { line = line; cer = cer; first = refl; seen = seen; is_cer = asks; from = answered.of_responder; answers = answered.answers; common = answered.common }

pub no_departure_opens : NoDepartureOpens
no_departure_opens [] next cea h none = absurd (false≢true h.is_cea)
no_departure_opens (s ∷ between) next cea h none =
    let parts = any_parts is_of_opening (findings_of new_connection s.from s.line) (found (after new_connection s.from s.line) (between ++ next ∷ [])) none in
    elim (first_seen s s.line.seen parts.0) [
      | inl past ↦ absurd (no_cea (run (after new_connection s.from s.line) between) next.from next.line cea (run_past (after new_connection s.from s.line) between past) h.is_cea)
      | inr first ↦ begins s between next cea h none first parts.1
    ]
  where
    begins : (s : Sent) (between : List Sent) (next : Sent) (cea : AnyMessage) → IsCeaOfSuccess (s ∷ between) next cea → OpensWithout (s ∷ between ++ next ∷ [])
        → (m : AnyMessage) × (s.line.seen ≡ Message m) × (s.from ≡ Initiator) × (is_cer m.head ≡ true)
        → list_any is_of_opening (found (after new_connection s.from s.line) (between ++ next ∷ [])) ≡ false → IsOpened (s ∷ between) next cea
    begins s between next cea h none (m, seen, from, is) rest =
        let known : after new_connection s.from s.line ≡ asked_by s.line.number s.line.time m =
        ap (λ (e : End). after new_connection e s.line) from ∙ asked_after s.line m seen is in
        let alone : between ≡ [] = only_cer s.line.number s.line.time m (after new_connection s.from s.line) between next cea known rest h.is_cea in
        let same : s ∷ between ≡ record { from = Initiator; line = s.line } ∷ [] = λ i. record { from = from i; line = s.line } ∷ alone i in
        subst (λ (b : List Sent). IsOpened b next cea) (sym same)
        (opened_by s.line m seen is next cea (subst (λ (b : List Sent). IsCeaOfSuccess b next cea) same h) (subst (λ (b : List Sent). OpensWithout (b ++ next ∷ [])) same none))
