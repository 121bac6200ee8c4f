-- The requests of an end that have no answer yet, in order (RFC 6733 section 6.2).
use Rattle.std.specs.Prelude.{ℕ, ◌==◌, ◌&&◌, Bool, false, not, nat_lt, List, length, position, Option, Some, None, option_map}
use Rattle.dia_follow.specs.declared.codes.TheConstants.{DEVICE_WATCHDOG, DISCONNECT_PEER, MOST_WAITING}
use Rattle.dia_follow.specs.declared.request.Request.{Request}
use Rattle.dia_follow.specs.Places.{first}

abbrev pub has_ids : ℕ → ℕ → Request → Bool
has_ids hop e2e r = (r.hop == hop) && (r.e2e == e2e)

abbrev pub has_hop : ℕ → Request → Bool
has_hop hop r = r.hop == hop

abbrev pub is_dwr : Request → Bool
is_dwr r = r.code == DEVICE_WATCHDOG

abbrev pub is_dpr : Option Request → Bool
is_dpr None = false
is_dpr (Some r) = r.code == DISCONNECT_PEER

abbrev pub line_of : Request → ℕ
line_of r = r.line

-- the first place, if there is one, else the second
abbrev pub or_else : Option ℕ → Option ℕ → Option ℕ
or_else None other = other
or_else (Some place) other = Some place

-- the place of what an answer with these identifiers answers: the first with both, else the first with the Hop-by-Hop Identifier
abbrev pub answered_place : List Request → ℕ → ℕ → Option ℕ
answered_place waits hop e2e = or_else (position (has_ids hop e2e) waits) (position (has_hop hop) waits)

-- since which line a request with this Hop-by-Hop Identifier waits
abbrev pub since : List Request → ℕ → Option ℕ
since waits hop = option_map line_of (first (has_hop hop) waits)

-- the line of the first DWR that waits
abbrev pub dwr_line : List Request → Option ℕ
dwr_line waits = option_map line_of (first is_dwr waits)

-- as many as are remembered
abbrev pub is_full : List Request → Bool
is_full waits = not (nat_lt (length waits) MOST_WAITING)
