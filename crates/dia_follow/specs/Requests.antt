-- Requests without answer, and the Session-Ids that are remembered of them.
use Rattle.std.specs.Prelude.{ℕ, ◌==◌, ◌&&◌, Bool, List, length, take}
use Rattle.std.specs.Str.{bytes_eq}
use Rattle.dia_follow.specs.declared.codes.TheConstants.{SESSION_START}

-- what is remembered of a Session-Id (RFC 6733 section 8.8): how long it is, and how it begins
pub record PlainSession : Type 0 where
  pub len : ℕ
  pub start : List ℕ

abbrev pub session_of : List ℕ → PlainSession
session_of bytes = record { len = length bytes; start = take SESSION_START bytes }

abbrev pub is_session : PlainSession → List ℕ → Bool
is_session s bytes = (s.len == length bytes) && bytes_eq s.start (take SESSION_START bytes)
