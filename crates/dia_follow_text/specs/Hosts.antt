-- An Origin-Host, as `show` prints a DiameterIdentity (RFC 6733 section 4.3.1).
use Rattle.std.specs.Prelude.{ℕ, ◌==◌, ◌&&◌, nat_le, Bool, not, if◌then◌else◌, List, [], ◌++◌, length, Option, Some, None, codes}
use Rattle.std.specs.List.{list_all}
use Rattle.dia_data.specs.Shown.{hexadecimal, quoted}
use Rattle.dia_follow.specs.Connections.{host_in}
use Rattle.dia_follow.specs.Moments.{PlainMoment}

abbrev pub is_graphic : ℕ → Bool
is_graphic byte = nat_le 33 byte && nat_le byte 126

-- printing characters, and at least one
abbrev pub is_identity : List ℕ → Bool
is_identity host = not (length host == 0) && list_all is_graphic host

-- other bytes are shown in hexadecimal
abbrev pub identity_text : List ℕ → List ℕ
identity_text host = if is_identity host then quoted host else hexadecimal host

abbrev pub host_text : Option (List ℕ) → List ℕ
host_text None = []
host_text (Some host) = identity_text host

-- that of a message, and the one before
abbrev pub hosts_text : PlainMoment → List ℕ
hosts_text m = host_text (host_in m.message.body) ++ codes ", " ++ host_text m.own.host ++ codes " before"
