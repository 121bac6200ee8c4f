-- How a connection begins whose messages show no departure from the capabilities exchange (RFC 6733 sections 5.3 and 5.6).
use Rattle.std.specs.Prelude.{◌≡◌, ℕ, ◌||◌, Bool, true, false, ⊤, IsTrue, List, [], ◌∷◌, ◌++◌, Option, None, Some}
use Rattle.std.specs.List.{fold, list_any}
use Rattle.dia_follow.specs.declared.end.End.{End}
use Rattle.dia_follow.specs.declared.end.End.TheVariants.{Initiator, Responder}
use Rattle.dia_follow.specs.declared.message.Line.{Line}
use Rattle.dia_follow.specs.declared.message.Message.{Message as AnyMessage}
use Rattle.dia_follow.specs.declared.message.Seen.TheVariants.{Message}
use Rattle.dia_follow.specs.declared.reason.Reason.{Reason}
use Rattle.dia_follow.specs.declared.reason.Reason.TheVariants.{NoCer, CerFromAcceptor, CerAgain, BeforeCea, AnswersNothing, NoCommon}
use Rattle.dia_follow.specs.Applications.{Apps, has, is_relay, shares_number}
use Rattle.dia_follow.specs.Commons.{common_apps}
use Rattle.dia_follow.specs.Connections.{PlainConnection, after, findings_of, moment, new_connection, request_of}
use Rattle.dia_follow.specs.Contents.{PlainContents}
use Rattle.dia_follow.specs.Departures.{is_cea, known_common}
use Rattle.dia_follow.specs.Messages.{contents_of, is_cer, is_success, result_of}
use Rattle.dia_follow.specs.Moments.{PlainMoment}

-- ---- messages of a connection, in order

-- a line, and the end that sent its message
pub record Sent : Type 0 where
  pub from : End
  pub line : Line

-- what is known after these
abbrev pub run : PlainConnection → List Sent → PlainConnection
run c messages = fold (λ known s. after known s.from s.line) c messages

-- what is reported of each, in order
abbrev pub found : PlainConnection → List Sent → List Reason
found c [] = []
found c (s ∷ messages) = findings_of c s.from s.line ++ found (after c s.from s.line) messages

-- what is there as a message follows these, from the beginning of the connection
abbrev pub moment_after : List Sent → Sent → AnyMessage → PlainMoment
moment_after before s m = moment (run new_connection before) s.from s.line m

-- ---- sets in common

-- the same numbers of each kind
pub record AreSame (a b : Apps) : Type 0 where
  pub auth : (n : ℕ) → has a.auth n ≡ has b.auth n
  pub acct : (n : ℕ) → has a.acct n ≡ has b.acct n

abbrev pub IsSameCommon : Option Apps → Option Apps → Type 0
IsSameCommon None None = ⊤
IsSameCommon (Some a) (Some b) = AreSame a b
IsSameCommon None (Some b) = ⊥
IsSameCommon (Some a) None = ⊥

-- what two ends have in common is the same from either end
abbrev pub CommonIsSymmetric : Type 0
CommonIsSymmetric = (ours theirs : Apps) → IsSameCommon (common_apps ours theirs) (common_apps theirs ours)

-- ---- the capabilities exchange

-- a departure of a CER, of a message before the CEA, or of an answer
abbrev pub is_of_opening : Reason → Bool
is_of_opening NoCer = true
is_of_opening CerFromAcceptor = true
is_of_opening CerAgain = true
is_of_opening BeforeCea = true
is_of_opening AnswersNothing = true
is_of_opening NoCommon = true
is_of_opening reason = false

-- none of these departures is reported of these messages
abbrev pub OpensWithout : List Sent → Type 0
OpensWithout messages = list_any is_of_opening (found new_connection messages) ≡ false

-- after these messages this one is a CEA of success
pub record IsCeaOfSuccess (before : List Sent) (next : Sent) (cea : AnyMessage) : Type 0 where
  pub seen : next.line.seen ≡ Message cea
  pub is_cea : IsTrue (is_cea (moment_after before next cea))
  pub succeeds : IsTrue (is_success (result_of cea.body))

-- they have an application in common by its number, or one of them is a relay's; the line of the CEA has this set, which is the same
-- from either end
pub record HaveCommon (m : PlainMoment) (ours theirs : Apps) : Type 0 where
  pub shares : IsTrue (shares_number ours theirs || is_relay ours || is_relay theirs)
  pub written : known_common m ≡ Some (common_apps ours theirs)
  pub symmetric : IsSameCommon (common_apps ours theirs) (common_apps theirs ours)

-- the connection begins with a CER of the end that opened the transport connection. The next message is the CEA, of the other end: it
-- answers the CER. Where the bodies of both are known, they have applications in common.
pub record IsOpened (before : List Sent) (next : Sent) (cea : AnyMessage) : Type 0 where
  pub line : Line
  pub cer : AnyMessage
  pub first : before ≡ record { from = Initiator; line = line } ∷ []
  pub seen : line.seen ≡ Message cer
  pub is_cer : IsTrue (is_cer cer.head)
  pub from : next.from ≡ Responder
  pub answers : (moment_after before next cea).request ≡ Some (request_of line.number line.time cer)
  pub common : (ours theirs : PlainContents) → contents_of cer.body ≡ Some ours → contents_of cea.body ≡ Some theirs
      → HaveCommon (moment_after before next cea) ours.apps theirs.apps

-- a CEA of success without such a departure up to it opens the connection
abbrev pub NoDepartureOpens : Type 0
NoDepartureOpens = (before : List Sent) (next : Sent) (cea : AnyMessage) → IsCeaOfSuccess before next cea → OpensWithout (before ++ next ∷ [])
    → IsOpened before next cea
