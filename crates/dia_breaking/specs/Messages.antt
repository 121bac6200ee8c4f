-- The message that is written for a line: a header, the levels of the path from the command inwards, each the shortest that has
-- the next, and within them the level that shows the line (RFC 6733 sections 3, 3.2 and 4.1).
use Rattle.std.specs.Prelude.{◌≡◌, ℕ, ◌+◌, ◌-◌, min, nat_lt, Bool, true, false, if◌then◌else◌, bit_and, bit_or, List, [], ◌∷◌, ◌++◌, length, take, drop}
use Rattle.std.specs.Prelude.{Option, Some, None, MatchOption, option_and_then, position, slice_get, slice_index, slice_set, unwrap_or}
use Rattle.std.specs.Int.{w32, to_be_bytes}
use Rattle.std.specs.Option.{option_map_or}
use Rattle.dia_wire.specs.declared.Key.{Key}
use Rattle.dia_wire.specs.Lengths.{header_length}
use Rattle.dia_breaking_data.specs.Shortest.{witness_bytes}
use Rattle.dia_book.specs.Keys.{same_key}
use Rattle.dia_book.specs.declared.Class.{Class}
use Rattle.dia_book.specs.declared.Class.TheVariants as classes
use Rattle.dia_book.specs.declared.MRule.{MRule}
use Rattle.dia_book.specs.declared.MRule.TheVariants.{Must, MustNot, Any}
use Rattle.dia_book.specs.declared.DRule.{DRule}
use Rattle.dia_book.specs.Dictionary.{Dictionary, entry_of, group_place, selected}
use Rattle.dia_valid.specs.Rules.{rules_in}
use Rattle.dia_breaking_sites.specs.Sent.{AreBytes}
use Rattle.dia_breaking_levels.specs.declared.line.Part.{Part}
use Rattle.dia_breaking_levels.specs.Chosen.{IsLineLevel, Reads, least_parts, parts_with, reads_between}
use Rattle.dia_breaking_shortest.specs.declared.lookup.Least.{Least}
use Rattle.dia_breaking_shortest.specs.Bytes.{avp_bytes, head_bytes, least_avp, length_bytes, parts_bytes}
use Rattle.dia_breaking_shortest.specs.Floors.{shortest_head}
use Rattle.dia_breaking.specs.declared.heads.Head.{Head}
use Rattle.dia_breaking.specs.declared.line.Cause.{Cause}
use Rattle.dia_breaking.specs.declared.line.Cause.TheVariants as causes
use Rattle.dia_breaking.specs.declared.line.Line.{Line}
use Rattle.dia_breaking.specs.declared.line.Place.{Place}
use Rattle.dia_breaking.specs.declared.line.Place.TheVariants as places
use Rattle.dia_breaking.specs.declared.line.Site.{Site}
use Rattle.dia_breaking.specs.Lengths.{Costs, other_in, others_in}
use Rattle.dia_breaking.specs.Meanings.{m_rule_in}
use Rattle.dia_breaking.specs.Sides.{Sides}
use Rattle.dia_breaking.specs.Words.{head_at, is_command, path_to}

-- what messages are made of: the shortest AVPs that the sender's side sends, and what AVPs take in its levels
pub record Stock : Type 0 where
  pub least : Least
  pub costs : Costs

abbrev pub stock : Least → Costs → Stock
stock least costs = record { least = least; costs = costs }

-- a shortest AVP of the key
abbrev pub shortest_avp : Sides → Stock → Key → List ℕ
shortest_avp s k key = least_avp s.sender k.least key

-- the greatest number of 64 bits, where the sum is above it
abbrev pub sum_64 : ℕ → ℕ → ℕ
sum_64 a b = min (a + b) 18446744073709551615

-- ---- the M flag (section 4.1)

abbrev pub is_must : Option MRule → Bool
is_must (Some Must) = true
is_must (Some MustNot) = false
is_must (Some Any) = false
is_must None = false

-- M as the sender's rule wants it; where that allows either, as the receiver's rule does
abbrev pub wanted_m : Option MRule → Option MRule → Bool
wanted_m (Some Must) read = true
wanted_m (Some MustNot) read = false
wanted_m (Some Any) read = is_must read
wanted_m None read = false

abbrev pub wants_m : Sides → Key → Bool
wants_m s key = wanted_m (m_rule_in s.sender key) (m_rule_in s.receiver key)

abbrev pub flags_with : Bool → ℕ → ℕ
flags_with true flags = bit_or flags 64
flags_with false flags = bit_and flags 191

-- an AVP with this M flag: its flags are the fifth byte
abbrev pub with_m : Bool → List ℕ → List ℕ
with_m m bytes = if nat_lt 4 (length bytes) then slice_set bytes 4 (flags_with m (slice_index bytes 4)) else bytes

-- ---- the AVP of a line

-- an AVP and its key
pub record Shown : Type 0 where
  pub key : Key
  pub bytes : List ℕ

abbrev pub shown : Key → List ℕ → Shown
shown key bytes = record { key = key; bytes = bytes }

-- the AVP that breaks by itself, or that is read as another format: a shortest one with the M flag or the data that the line
-- reports. None, where the level shows the line by itself
abbrev pub shown_avp : Sides → Stock → Cause → Option Shown
shown_avp s k causes.Command = None
shown_avp s k causes.Application = None
shown_avp s k (causes.Proxiable set) = None
shown_avp s k (causes.Level line) = None
shown_avp s k (causes.Unknown key m) = Some (shown key (with_m m (shortest_avp s k key)))
shown_avp s k (causes.MBit key m) = Some (shown key (with_m m (shortest_avp s k key)))
shown_avp s k (causes.Format key None) = Some (shown key (shortest_avp s k key))
shown_avp s k (causes.Format key (Some found)) = Some (shown key (avp_bytes key (wants_m s key) (witness_bytes found)))
shown_avp s k (causes.LevelAsLeaf key) = Some (shown key (shortest_avp s k key))
shown_avp s k (causes.Meaning key) = Some (shown key (with_m (wants_m s key) (shortest_avp s k key)))

-- ---- levels

-- the numbers of the definitions of each side by which the level at a place is read, in messages of the command c
abbrev pub group_number : Dictionary → Key → Option ℕ
group_number d key = option_and_then (group_place d) (entry_of d key)

abbrev pub sent_number : Sides → ℕ → Place → Option ℕ
sent_number s c (places.Command app read_as is_recorded proxiable) = Some c
sent_number s c (places.Group key outer) = group_number s.sender key

abbrev pub read_number : Sides → ℕ → Place → Option ℕ
read_number s c (places.Command app read_as is_recorded proxiable) = option_and_then (λ head. selected s.receiver head.code head.class read_as) (head_at s.sender c)
read_number s c (places.Group key outer) = group_number s.receiver key

-- the shortest level of the sender's definition that has an AVP of the key; nothing, where there is no definition
abbrev pub parts_round : Sides → Stock → ℕ → Place → Key → List Part
parts_round s k c place key = option_map_or (λ def. parts_with (others_in k.costs (rules_in s.sender def)) (rules_in s.sender def) key) (sent_number s c place) []

-- how many parts precede the first of the key
abbrev pub parts_before : Key → List Part → ℕ
parts_before key parts = unwrap_or (position (λ part. same_key part.key key) parts) (length parts)

-- the first part has one AVP less
abbrev pub one_less : List Part → List Part
one_less [] = []
one_less (part ∷ parts) = record { key = part.key; count = part.count - 1 } ∷ parts

abbrev pub front_parts : Key → List Part → List Part
front_parts key parts = take (parts_before key parts) parts

abbrev pub rest_parts : Key → List Part → List Part
rest_parts key parts = one_less (drop (parts_before key parts) parts)

-- the level, with these bytes in the place of its first AVP of the key
abbrev pub level_round : Sides → Stock → ℕ → Place → Key → List ℕ → List ℕ
level_round s k c place key bytes =
    parts_bytes (shortest_avp s k) (front_parts key (parts_round s k c place key)) ++ bytes ++ parts_bytes (shortest_avp s k) (rest_parts key (parts_round s k c place key))

-- ---- the path

abbrev pub key_at : Place → Option Key
key_at (places.Command app read_as is_recorded proxiable) = None
key_at (places.Group key outer) = Some key

-- a group with these data. What is around the level at its site takes `way`, and all AVPs take `size`
abbrev pub group_head : Sides → ℕ → Site → Key → List ℕ
group_head s size site key = head_bytes key (wants_m s key) (sum_64 (size - site.way) (shortest_head key))

-- the level of the outer site, with the level of the inner one in a group of it
abbrev pub site_round : Sides → Stock → ℕ → ℕ → Site → Site → List ℕ → List ℕ
site_round s k c size outer site bytes = option_map_or (λ key. level_round s k c outer.place key (group_head s size site key ++ bytes)) (key_at site.place) bytes

-- the level of a site, and in it those of the following sites; the last one has these bytes
abbrev pub levels_from : Sides → Stock → ℕ → ℕ → Site → List Site → List ℕ → List ℕ
levels_from s k c size outer [] bytes = bytes
levels_from s k c size outer (site ∷ path) bytes = site_round s k c size outer site (levels_from s k c size site path bytes)

abbrev pub levels_on : Sides → Stock → ℕ → ℕ → List Site → List ℕ → List ℕ
levels_on s k c size [] bytes = bytes
levels_on s k c size (site ∷ path) bytes = levels_from s k c size site path bytes

-- ---- the level of the line

-- how the levels of the sender's rules are read by the receiver's
abbrev pub reads_in : Costs → List DRule → List DRule → Reads
reads_in k sent accepted = reads_between sent accepted k.listed (other_in k sent) (others_in k sent)

-- a level that shows by itself what its line reports, and else the least level
abbrev pub AreParts : Sides → Stock → ℕ → Place → ℕ → Cause → List Part → Type 0
AreParts s k c place def (causes.Level line) parts = MatchOption (read_number s c place) (parts ≡ least_parts (others_in k.costs (rules_in s.sender def)) (rules_in s.sender def))
    (λ other. IsLineLevel (reads_in k.costs (rules_in s.sender def) (rules_in s.receiver other)) line parts)
AreParts s k c place def cause parts = parts ≡ least_parts (others_in k.costs (rules_in s.sender def)) (rules_in s.sender def)

-- the bytes of such a level; none, where the sender has no definition of it
abbrev pub IsAlone : Sides → Stock → ℕ → Place → Cause → List ℕ → Type 0
IsAlone s k c place cause bytes =
    MatchOption (sent_number s c place) (bytes ≡ []) (λ def. (parts : List Part) × AreParts s k c place def cause parts × (bytes ≡ parts_bytes (shortest_avp s k) parts))

-- the level at a place that shows the line, by itself or round the AVP that the line reports
abbrev pub IsShowingLevel : Sides → Stock → ℕ → Cause → Place → List ℕ → Type 0
IsShowingLevel s k c cause place bytes = MatchOption (shown_avp s k cause) (IsAlone s k c place cause bytes) (λ found. bytes ≡ level_round s k c place found.key found.bytes)

abbrev pub IsInnermost : Sides → Stock → ℕ → Cause → Option Site → List ℕ → Type 0
IsInnermost s k c cause site bytes = MatchOption site (bytes ≡ []) (λ at. IsShowingLevel s k c cause at.place bytes)

-- ---- the header (section 3)

-- R of requests, E of errors, and P
abbrev pub command_flags : Class → Bool → ℕ
command_flags classes.Request p = if p then 192 else 128
command_flags classes.Answer p = if p then 64 else 0
command_flags classes.Error p = if p then 96 else 32

abbrev pub app_at : Place → ℕ
app_at (places.Command app read_as is_recorded proxiable) = app
app_at (places.Group key outer) = 0

abbrev pub p_at : Place → Bool
p_at (places.Command app read_as is_recorded proxiable) = proxiable
p_at (places.Group key outer) = false

-- P as the line reports, and else as at the command's site
abbrev pub line_p : Cause → Option Site → Bool
line_p (causes.Proxiable set) site = set
line_p cause site = option_map_or (λ at. p_at at.place) site false

-- version 1, the length, the flags, the code and the application; the Hop-by-Hop and the End-to-End Identifier are 0
abbrev pub header_bytes : Head → Line → Option Site → List ℕ
header_bytes head line site = (1 ∷ length_bytes (sum_64 line.length header_length)) ++ (command_flags head.class (line_p line.cause site) ∷ length_bytes head.code)
    ++ to_be_bytes w32 (option_map_or (λ at. app_at at.place) site 0) ++ (0 ∷ 0 ∷ 0 ∷ 0 ∷ 0 ∷ 0 ∷ 0 ∷ 0 ∷ [])

-- ---- the message

-- of a command with this head
abbrev pub IsMessageFor : Sides → Stock → ℕ → List Site → Line → Head → List ℕ → Type 0
IsMessageFor s k c sites line head bytes = (inner : List ℕ) × IsInnermost s k c line.cause (slice_get sites line.site) inner
    × (bytes ≡ header_bytes head line (slice_get (path_to sites line.site) 0) ++ levels_on s k c line.length (path_to sites line.site) inner)

-- the head of the command c, if it is the number of one
abbrev pub command_head : Dictionary → ℕ → Option Head
command_head d c = if is_command d c then head_at d c else None

-- the bytes are the message of a line of the command c; none, where the sender has no such command
abbrev pub IsLineMessage : Sides → Stock → ℕ → List Site → Line → List ℕ → Type 0
IsLineMessage s k c sites line bytes = MatchOption (command_head s.sender c) (bytes ≡ []) (λ head. IsMessageFor s k c sites line head bytes)

-- no line has two
abbrev pub LineMessagesAreOne : Type 0
LineMessagesAreOne = (s : Sides) (k : Stock) (c : ℕ) (sites : List Site) (line : Line) (bytes others : List ℕ) → IsLineMessage s k c sites line bytes → IsLineMessage s k c sites line others
    → bytes ≡ others

-- and each has one
abbrev pub EachLineHasAMessage : Type 0
EachLineHasAMessage = (s : Sides) (k : Stock) (c : ℕ) (sites : List Site) (line : Line) → (bytes : List ℕ) × IsLineMessage s k c sites line bytes

-- its numbers are bytes
abbrev pub LineMessagesAreBytes : Type 0
LineMessagesAreBytes = (s : Sides) (k : Stock) (c : ℕ) (sites : List Site) (line : Line) (bytes : List ℕ) → IsLineMessage s k c sites line bytes → AreBytes bytes
