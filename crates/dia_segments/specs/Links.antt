-- What precedes IP in a packet: link types (the registry of the IETF) and tags (IEEE 802.1Q).
use Rattle.std.specs.Prelude.{ℕ, ◌+◌, ◌*◌, ◌≤◌, ◌==◌, ◌||◌, nat_le, if◌then◌else◌, Bool, List, ◌∷◌, length, drop, Option, Some, None, Result, Ok, Err, ⊤}
use Rattle.dia_segments.specs.declared.link.Layout.{Layout}
use Rattle.dia_segments.specs.declared.link.Layout.TheVariants.{Ip, Typed}
use Rattle.dia_segments.specs.declared.unread.Unread.{Unread}
use Rattle.dia_segments.specs.declared.unread.Unread.TheVariants.{EtherType, LinkType, Malformed}
use Rattle.dia_segments.specs.Numbers.{number_at}

-- IP begins at an offset; or an EtherType is at the first offset, and what it is the type of at the second.
-- Ethernet, Linux cooked (versions 1 and 2), BSD loopback, raw IP
abbrev pub layout_of : ℕ → Option Layout
layout_of link =
    if link == 1 then Some (Typed 12 14) else
    if link == 113 then Some (Typed 14 16) else
    if link == 276 then Some (Typed 0 20) else
    if link == 0 || link == 108 then Some (Ip 4) else
    if link == 12 || link == 14 || link == 101 || link == 228 || link == 229 then Some (Ip 0) else None

-- a type precedes what it is the type of
abbrev pub IsLaidOut : Layout → Type 0
IsLaidOut (Ip start) = ⊤
IsLaidOut (Typed kind start) = kind + 2 ≤ start

abbrev pub is_tag : ℕ → Bool
is_tag kind = kind == 0x8100 || kind == 0x88a8 || kind == 0x9100

abbrev pub is_ip : ℕ → Bool
is_ip kind = kind == 0x0800 || kind == 0x86dd

-- the type after all tags, and what it is the type of. A tag has four bytes; the last two are the type of what follows
abbrev pub untagged : ℕ → List ℕ → ℕ × List ℕ
untagged kind (a ∷ b ∷ c ∷ d ∷ rest) = if is_tag kind then untagged (c * 256 + d) rest else (kind, a ∷ b ∷ c ∷ d ∷ rest)
untagged kind bytes = (kind, bytes)

-- IP alone is read
abbrev pub typed : ℕ × List ℕ → Result (List ℕ) Unread
typed found = if is_ip found.0 then Ok found.1 else if is_tag found.0 then Err Malformed else Err (EtherType found.0)

abbrev pub from_layout : Layout → List ℕ → Result (List ℕ) Unread
from_layout (Ip start) bytes = if nat_le start (length bytes) then Ok (drop start bytes) else Err Malformed
from_layout (Typed kind start) bytes = if nat_le start (length bytes) then typed (untagged (number_at 2 kind bytes) (drop start bytes)) else Err Malformed

abbrev pub laid_out : ℕ → Option Layout → List ℕ → Result (List ℕ) Unread
laid_out link None bytes = Err (LinkType link)
laid_out link (Some layout) bytes = from_layout layout bytes

-- the bytes of a packet from IP on
abbrev pub network : ℕ → List ℕ → Result (List ℕ) Unread
network link bytes = laid_out link (layout_of link) bytes
