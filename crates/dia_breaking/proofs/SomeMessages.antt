-- Each line has a message.
use Rattle.std.proofs.Common.{◌≡◌, ℕ, List, [], ◌++◌, Option, Some, None, refl}
use Rattle.std.specs.Prelude.{MatchOption, slice_get}
use Rattle.dia_valid.specs.Rules.{rules_in}
use Rattle.dia_breaking_levels.specs.declared.line.Line.{Line as LevelLine}
use Rattle.dia_breaking_levels.specs.declared.line.Part.{Part}
use Rattle.dia_breaking_levels.specs.Chosen.{IsLineLevel, least_parts}
use Rattle.dia_breaking_levels.proofs.SomeLineLevel.{some_level}
use Rattle.dia_breaking_shortest.specs.Bytes.{parts_bytes}
use Rattle.dia_breaking.specs.declared.heads.Head.{Head}
use Rattle.dia_breaking.specs.declared.line.Cause.{Cause}
use Rattle.dia_breaking.specs.declared.line.Cause.TheVariants as causes
use Rattle.dia_breaking.specs.declared.line.Line.{Line}
use Rattle.dia_breaking.specs.declared.line.Place.{Place}
use Rattle.dia_breaking.specs.declared.line.Site.{Site}
use Rattle.dia_breaking.specs.Lengths.{others_in}
use Rattle.dia_breaking.specs.Messages.{AreParts, IsAlone, IsInnermost, IsLineMessage, IsMessageFor, Shown, Stock}
use Rattle.dia_breaking.specs.Messages.{command_head, header_bytes, level_round, levels_on, read_number, reads_in, sent_number, shortest_avp, shown_avp}
use Rattle.dia_breaking.specs.Sides.{Sides}
use Rattle.dia_breaking.specs.Words.{path_to}

module _ (s : Sides) (k : Stock) (c : ℕ) where
  abbrev least_here : ℕ → List Part
  least_here def = least_parts (others_in k.costs (rules_in s.sender def)) (rules_in s.sender def)

  some_line_level : (def : ℕ) (line : LevelLine) (read : Option ℕ) → (parts : List Part) × MatchOption read (parts ≡ least_here def)
      (λ other. IsLineLevel (reads_in k.costs (rules_in s.sender def) (rules_in s.receiver other)) line parts)
  some_line_level def line None = (least_here def, refl)
  some_line_level def line (Some other) = some_level (reads_in k.costs (rules_in s.sender def) (rules_in s.receiver other)) line

  some_parts : (place : Place) (def : ℕ) (cause : Cause) → (parts : List Part) × AreParts s k c place def cause parts
  some_parts place def causes.Command = (least_here def, refl)
  some_parts place def causes.Application = (least_here def, refl)
  some_parts place def (causes.Proxiable set) = (least_here def, refl)
  some_parts place def (causes.Level line) = some_line_level def line (read_number s c place)
  some_parts place def (causes.Unknown key m) = (least_here def, refl)
  some_parts place def (causes.MBit key m) = (least_here def, refl)
  some_parts place def (causes.Format key found) = (least_here def, refl)
  some_parts place def (causes.LevelAsLeaf key) = (least_here def, refl)
  some_parts place def (causes.Meaning key) = (least_here def, refl)

  some_alone : (place : Place) (cause : Cause) (number : Option ℕ) → (bytes : List ℕ)
      × MatchOption number (bytes ≡ []) (λ def. (parts : List Part) × AreParts s k c place def cause parts × (bytes ≡ parts_bytes (shortest_avp s k) parts))
  some_alone place cause None = ([], refl)
  some_alone place cause (Some def) = let (parts, are) = some_parts place def cause in (parts_bytes (shortest_avp s k) parts, (parts, are, refl))

  some_showing : (cause : Cause) (place : Place) (found : Option Shown) → (bytes : List ℕ)
      × MatchOption found (IsAlone s k c place cause bytes) (λ avp. bytes ≡ level_round s k c place avp.key avp.bytes)
  some_showing cause place None = some_alone place cause (sent_number s c place)
  some_showing cause place (Some avp) = (level_round s k c place avp.key avp.bytes, refl)

  some_inner : (cause : Cause) (site : Option Site) → (bytes : List ℕ) × IsInnermost s k c cause site bytes
  some_inner cause None = ([], refl)
  some_inner cause (Some at) = some_showing cause at.place (shown_avp s k cause)

  module _ (sites : List Site) (line : Line) where
    some_for : (head : Option Head) → (bytes : List ℕ) × MatchOption head (bytes ≡ []) (λ h. IsMessageFor s k c sites line h bytes)
    some_for None = ([], refl)
    some_for (Some head) =
        let (inner, shows) = some_inner line.cause (slice_get sites line.site) in
        (header_bytes head line (slice_get (path_to sites line.site) 0) ++ levels_on s k c line.length (path_to sites line.site) inner, (inner, shows, refl))

    pub some_message : (bytes : List ℕ) × IsLineMessage s k c sites line bytes
    some_message = some_for (command_head s.sender c)
