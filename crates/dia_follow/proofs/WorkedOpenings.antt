-- Beginnings of connections, computed: what is reported of them, and that one of them is as `no_departure_opens` says.
use Rattle.std.proofs.Common.{◌≡◌, ℕ, Bool, true, false, List, [], ◌∷◌, Option, None, Some, is_some, refl}
use Rattle.dia_follow.specs.declared.end.End.{End}
use Rattle.dia_follow.specs.declared.end.End.TheVariants.{Initiator, Responder}
use Rattle.dia_follow.specs.declared.message.Body.TheVariants.{Known}
use Rattle.dia_follow.specs.declared.message.Head.{Head}
use Rattle.dia_follow.specs.declared.message.Judged.TheVariants.{Unasked}
use Rattle.dia_follow.specs.declared.message.Line.{Line}
use Rattle.dia_follow.specs.declared.message.Message.{Message as AnyMessage}
use Rattle.dia_follow.specs.declared.message.Seen.TheVariants.{Message}
use Rattle.dia_follow.specs.declared.reason.Reason.TheVariants.{AnswersNothing, BeforeCea, CerAgain, CerFromAcceptor, NoCer, NoCommon}
use Rattle.dia_follow.specs.Connections.{new_connection}
use Rattle.dia_follow.specs.Contents.{PlainContents}
use Rattle.dia_follow.specs.Opened.{IsCeaOfSuccess, OpensWithout, Sent, found}

abbrev head : Bool → ℕ → ℕ → Head
head request code hop = record { request = request; proxiable = false; error = false; retransmitted = false; code = code; app = 0; hop = hop; e2e = 1 }

abbrev says : Option ℕ → List ℕ → PlainContents
says result auth = record {
  host = None;
  session = None;
  result = result;
  has_result = is_some result;
  experimental = None;
  has_experimental = false;
  cause = None;
  has_destination = false;
  origin_state = None;
  apps = record { auth = auth; acct = [] };
}

abbrev cer : ℕ → AnyMessage
cer hop = record { head = head true 257 hop; length = 32; body = Known (says None (4 ∷ [])) }

abbrev cea : ℕ → ℕ → AnyMessage
cea hop auth = record { head = head false 257 hop; length = 44; body = Known (says (Some 2001) (auth ∷ [])) }

abbrev dwr : AnyMessage
dwr = record { head = head true 280 2; length = 20; body = Known (says None []) }

module _ (line : Line) where
  abbrev sent : End → ℕ → AnyMessage → Sent
  sent e number m = record { from = e; line = record line { number = number; time = None; bytes = record line.bytes { now = [] }; seen = Message m; judged = Unasked } }

  is_cea : IsCeaOfSuccess (sent Initiator 1 (cer 1) ∷ []) (sent Responder 2 (cea 1 4)) (cea 1 4)
  is_cea = record { seen = refl; is_cea = refl; succeeds = refl }

  shows_none : OpensWithout (sent Initiator 1 (cer 1) ∷ sent Responder 2 (cea 1 4) ∷ [])
  shows_none = refl

  no_cer_first : found new_connection (sent Responder 1 dwr ∷ []) ≡ NoCer ∷ []
  no_cer_first = refl

  of_the_acceptor : found new_connection (sent Responder 1 (cer 1) ∷ []) ≡ CerFromAcceptor ∷ []
  of_the_acceptor = refl

  before_the_cea : found new_connection (sent Initiator 1 (cer 1) ∷ sent Initiator 2 dwr ∷ sent Responder 3 (cea 1 4) ∷ []) ≡ BeforeCea ∷ []
  before_the_cea = refl

  a_second_cer : found new_connection (sent Initiator 1 (cer 1) ∷ sent Initiator 2 (cer 2) ∷ sent Responder 3 (cea 1 4) ∷ []) ≡ CerAgain ∷ []
  a_second_cer = refl

  to_nothing : found new_connection (sent Initiator 1 (cer 1) ∷ sent Responder 2 (cea 9 4) ∷ []) ≡ AnswersNothing ∷ []
  to_nothing = refl

  nothing_in_common : found new_connection (sent Initiator 1 (cer 1) ∷ sent Responder 2 (cea 1 5) ∷ []) ≡ NoCommon ∷ []
  nothing_in_common = refl
