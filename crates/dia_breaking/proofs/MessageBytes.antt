-- The numbers of the message of a line are bytes.
use Rattle.std.proofs.Common.{◌≡◌, ℕ, zero, suc, ◌-◌, ◌<◌, Bool, true, false, List, [], ◌∷◌, ◌++◌, length, Option, Some, None, subst, sym, arith}
use Rattle.std.specs.Prelude.{⊤, MatchOption, if◌then◌else◌, nat_lt, slice_get, slice_index, slice_set}
use Rattle.std.specs.Int.{w32, to_be_bytes}
use Rattle.std.specs.Option.{option_map_or}
use Rattle.std.proofs.lemmas.Nat.{and_le_r, or_of_8}
use Rattle.dia_wire.specs.declared.Key.{Key}
use Rattle.dia_wire.specs.Lengths.{header_length}
use Rattle.dia_breaking_data.specs.Shortest.{witness_bytes}
use Rattle.dia_book.specs.declared.Class.{Class}
use Rattle.dia_book.specs.declared.Class.TheVariants as classes
use Rattle.dia_breaking_sites.specs.Sent.{AreBytes}
use Rattle.dia_breaking_levels.specs.declared.line.Part.{Part}
use Rattle.dia_breaking_shortest.specs.Bytes.{length_bytes, parts_bytes}
use Rattle.dia_breaking_shortest.specs.Floors.{shortest_head}
use Rattle.dia_breaking_shortest.proofs.LeastBytes.{avp_are, bytes_of_witness, four_of_number, head_are, joined, least_are, parts_are, three_of_number}
use Rattle.dia_breaking.specs.declared.heads.Head.{Head}
use Rattle.dia_breaking.specs.declared.line.Cause.{Cause}
use Rattle.dia_breaking.specs.declared.line.Cause.TheVariants as causes
use Rattle.dia_breaking.specs.declared.line.Line.{Line}
use Rattle.dia_breaking.specs.declared.line.Place.{Place}
use Rattle.dia_breaking.specs.declared.line.Site.{Site}
use Rattle.dia_breaking.specs.Messages.{AreParts, IsAlone, IsInnermost, IsLineMessage, IsMessageFor, Shown, Stock, app_at, command_flags, command_head, flags_with, front_parts}
use Rattle.dia_breaking.specs.Messages.{group_head, header_bytes, key_at, level_round, levels_from, levels_on, line_p, parts_round, rest_parts, sent_number, shortest_avp, shown_avp}
use Rattle.dia_breaking.specs.Messages.{site_round, sum_64, wants_m, with_m}
use Rattle.dia_breaking.specs.Sides.{Sides}
use Rattle.dia_breaking.specs.Words.{path_to}
use Rattle.dia_breaking.proofs.SomeMessages.{some_message}

-- ---- flags

flags_small : (m : Bool) (flags : ℕ) → flags < 256 → flags_with m flags < 256
flags_small true flags small = or_of_8 flags 64 small (omega arith)
flags_small false flags small = let le = and_le_r flags 191 in omega (arith, le)

byte_at : (xs : List ℕ) (i : ℕ) → AreBytes xs → slice_index xs i < 256
byte_at [] i are = omega arith
byte_at (x ∷ xs) zero are = are.0
byte_at (x ∷ xs) (suc i) are = byte_at xs i are.1

byte_set : (xs : List ℕ) (i x : ℕ) → AreBytes xs → x < 256 → AreBytes (slice_set xs i x)
byte_set [] i x are small = tt
byte_set (y ∷ xs) zero x are small = (small, are.1)
byte_set (y ∷ xs) (suc i) x are small = (are.0, byte_set xs i x are.1 small)

marked : (m : Bool) (bytes : List ℕ) → AreBytes bytes → AreBytes (with_m m bytes)
marked m bytes are = by (nat_lt 4 (length bytes))
  where
    by : (b : Bool) → AreBytes (if b then slice_set bytes 4 (flags_with m (slice_index bytes 4)) else bytes)
    by true = byte_set bytes 4 (flags_with m (slice_index bytes 4)) are (flags_small m (slice_index bytes 4) (byte_at bytes 4 are))
    by false = are

command_flags_small : (class : Class) (p : Bool) → command_flags class p < 256
command_flags_small classes.Request true = omega arith
command_flags_small classes.Request false = omega arith
command_flags_small classes.Answer true = omega arith
command_flags_small classes.Answer false = omega arith
command_flags_small classes.Error true = omega arith
command_flags_small classes.Error false = omega arith

header_are : (head : Head) (line : Line) (site : Option Site) → AreBytes (header_bytes head line site)
header_are head line site =
    let size = length_bytes (sum_64 line.length header_length) in
    let flags = command_flags head.class (line_p line.cause site) in
    let app = to_be_bytes w32 (option_map_or (λ at. app_at at.place) site 0) in
    joined (((1 ∷ size) ++ (flags ∷ length_bytes head.code)) ++ app) (0 ∷ 0 ∷ 0 ∷ 0 ∷ 0 ∷ 0 ∷ 0 ∷ 0 ∷ [])
    (joined ((1 ∷ size) ++ (flags ∷ length_bytes head.code)) app
    (joined (1 ∷ size) (flags ∷ length_bytes head.code) (omega arith, three_of_number (sum_64 line.length header_length))
    (command_flags_small head.class (line_p line.cause site), three_of_number head.code))
    (four_of_number (option_map_or (λ at. app_at at.place) site 0)))
    (omega arith, (omega arith, (omega arith, (omega arith, (omega arith, (omega arith, (omega arith, (omega arith, tt))))))))

-- ---- levels

module _ (s : Sides) (k : Stock) (c : ℕ) where
  avp_of : (key : Key) → AreBytes (shortest_avp s k key)
  avp_of key = least_are s.sender k.least key

  round_are : (place : Place) (key : Key) (bytes : List ℕ) → AreBytes bytes → AreBytes (level_round s k c place key bytes)
  round_are place key bytes are =
      let front = parts_bytes (shortest_avp s k) (front_parts key (parts_round s k c place key)) in
      let rest = parts_bytes (shortest_avp s k) (rest_parts key (parts_round s k c place key)) in
      joined (front ++ bytes) rest
      (joined front bytes (parts_are (shortest_avp s k) avp_of (front_parts key (parts_round s k c place key))) are)
      (parts_are (shortest_avp s k) avp_of (rest_parts key (parts_round s k c place key)))

  site_are : (size : ℕ) (outer site : Site) (bytes : List ℕ) → AreBytes bytes → AreBytes (site_round s k c size outer site bytes)
  site_are size outer site bytes are = by (key_at site.place)
    where
      by : (o : Option Key) → AreBytes (option_map_or (λ key. level_round s k c outer.place key (group_head s size site key ++ bytes)) o bytes)
      by None = are
      by (Some key) =
          round_are outer.place key (group_head s size site key ++ bytes)
          (joined (group_head s size site key) bytes (head_are key (wants_m s key) (sum_64 (size - site.way) (shortest_head key))) are)

  from_are : (size : ℕ) (outer : Site) (path : List Site) (bytes : List ℕ) → AreBytes bytes → AreBytes (levels_from s k c size outer path bytes)
  from_are size outer [] bytes are = are
  from_are size outer (site ∷ path) bytes are = site_are size outer site (levels_from s k c size site path bytes) (from_are size site path bytes are)

  on_are : (size : ℕ) (path : List Site) (bytes : List ℕ) → AreBytes bytes → AreBytes (levels_on s k c size path bytes)
  on_are size [] bytes are = are
  on_are size (site ∷ path) bytes are = from_are size site path bytes are

  -- ---- the level of the line

  abbrev IsShownBytes : Option Shown → Type 0
  IsShownBytes None = ⊤
  IsShownBytes (Some found) = AreBytes found.bytes

  shown_are : (cause : Cause) → IsShownBytes (shown_avp s k cause)
  shown_are causes.Command = tt
  shown_are causes.Application = tt
  shown_are (causes.Proxiable set) = tt
  shown_are (causes.Level line) = tt
  shown_are (causes.Unknown key m) = marked m (shortest_avp s k key) (avp_of key)
  shown_are (causes.MBit key m) = marked m (shortest_avp s k key) (avp_of key)
  shown_are (causes.Format key None) = avp_of key
  shown_are (causes.Format key (Some found)) = avp_are key (wants_m s key) (witness_bytes found) (bytes_of_witness found)
  shown_are (causes.LevelAsLeaf key) = avp_of key
  shown_are (causes.Meaning key) = marked (wants_m s key) (shortest_avp s k key) (avp_of key)

  alone_are : (place : Place) (cause : Cause) (number : Option ℕ) (bytes : List ℕ)
      → MatchOption number (bytes ≡ []) (λ def. (parts : List Part) × AreParts s k c place def cause parts × (bytes ≡ parts_bytes (shortest_avp s k) parts)) → AreBytes bytes
  alone_are place cause None bytes is = subst AreBytes (sym is) tt
  alone_are place cause (Some def) bytes (parts, are, is) = subst AreBytes (sym is) (parts_are (shortest_avp s k) avp_of parts)

  showing_are : (cause : Cause) (place : Place) (found : Option Shown) (bytes : List ℕ) → IsShownBytes found
      → MatchOption found (IsAlone s k c place cause bytes) (λ avp. bytes ≡ level_round s k c place avp.key avp.bytes) → AreBytes bytes
  showing_are cause place None bytes own is = alone_are place cause (sent_number s c place) bytes is
  showing_are cause place (Some avp) bytes own is = subst AreBytes (sym is) (round_are place avp.key avp.bytes own)

  inner_are : (cause : Cause) (site : Option Site) (bytes : List ℕ) → IsInnermost s k c cause site bytes → AreBytes bytes
  inner_are cause None bytes is = subst AreBytes (sym is) tt
  inner_are cause (Some at) bytes is = showing_are cause at.place (shown_avp s k cause) bytes (shown_are cause) is

  module _ (sites : List Site) (line : Line) where
    for_are : (head : Option Head) (bytes : List ℕ) → MatchOption head (bytes ≡ []) (λ h. IsMessageFor s k c sites line h bytes) → AreBytes bytes
    for_are None bytes is = subst AreBytes (sym is) tt
    for_are (Some head) bytes (inner, shows, is) =
        subst AreBytes (sym is)
        (joined (header_bytes head line (slice_get (path_to sites line.site) 0)) (levels_on s k c line.length (path_to sites line.site) inner)
        (header_are head line (slice_get (path_to sites line.site) 0))
        (on_are line.length (path_to sites line.site) inner (inner_are line.cause (slice_get sites line.site) inner shows)))

    pub message_bytes : (bytes : List ℕ) → IsLineMessage s k c sites line bytes → AreBytes bytes
    message_bytes bytes is = for_are (command_head s.sender c) bytes is

    -- and there is one
    pub some_bytes : (bytes : List ℕ) × AreBytes bytes × IsLineMessage s k c sites line bytes
    some_bytes = let (bytes, is) = some_message s k c sites line in (bytes, message_bytes bytes is, is)
