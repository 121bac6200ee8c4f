-- The message of a line is one, where its AVPs and their lengths are.
use Rattle.std.proofs.Common.{◌≡◌, ℕ, List, [], ◌∷◌, ◌++◌, Option, Some, None, refl, sym, ap, subst, ◌∙◌}
use Rattle.std.specs.Prelude.{MatchOption, slice_get}
use Rattle.std.specs.Option.{option_map_or}
use Rattle.dia_wire.specs.declared.Key.{Key}
use Rattle.dia_valid.specs.Rules.{rules_in}
use Rattle.dia_breaking_levels.specs.declared.line.Line.{Line as LevelLine}
use Rattle.dia_breaking_levels.specs.declared.line.Part.{Part}
use Rattle.dia_breaking_levels.specs.Chosen.{IsLineLevel, Reads, least_parts, parts_with}
use Rattle.dia_breaking_levels.proofs.OneLineLevel.{one_level}
use Rattle.dia_breaking_shortest.specs.Bytes.{parts_bytes}
use Rattle.dia_breaking.specs.declared.heads.Head.{Head}
use Rattle.dia_breaking.specs.declared.line.Cause.{Cause}
use Rattle.dia_breaking.specs.declared.line.Cause.TheVariants as causes
use Rattle.dia_breaking.specs.declared.line.Line.{Line}
use Rattle.dia_breaking.specs.declared.line.Place.{Place}
use Rattle.dia_breaking.specs.declared.line.Site.{Site}
use Rattle.dia_breaking.specs.Lengths.{Costs, others_in}
use Rattle.dia_breaking.specs.Messages.{AreParts, IsAlone, IsInnermost, IsLineMessage, IsMessageFor, Shown, Stock}
use Rattle.dia_breaking.specs.Messages.{command_head, front_parts, group_head, header_bytes, key_at, level_round, levels_from, levels_on, read_number, reads_in, rest_parts, sent_number, shortest_avp, shown, shown_avp}
use Rattle.dia_breaking.specs.Messages.{site_round, wants_m, with_m}
use Rattle.dia_breaking.specs.Sides.{Sides}
use Rattle.dia_breaking.specs.Words.{path_to}

module _ (s : Sides) (k l : Stock) (c : ℕ) (avps : shortest_avp s k ≡ shortest_avp s l) (costs : k.costs ≡ l.costs) where
  -- ---- the level of the line

  abbrev least_by : ℕ → Costs → List Part
  least_by def costs = least_parts (others_in costs (rules_in s.sender def)) (rules_in s.sender def)

  abbrev reads_by : ℕ → ℕ → Costs → Reads
  reads_by def other costs = reads_in costs (rules_in s.sender def) (rules_in s.receiver other)

  one_least : (def : ℕ) (xs ys : List Part) → xs ≡ least_by def k.costs → ys ≡ least_by def l.costs → xs ≡ ys
  one_least def xs ys a b = a ∙ ap (least_by def) costs ∙ sym b

  one_line_level : (def : ℕ) (line : LevelLine) (read : Option ℕ) (xs ys : List Part)
      → MatchOption read (xs ≡ least_by def k.costs) (λ other. IsLineLevel (reads_by def other k.costs) line xs)
      → MatchOption read (ys ≡ least_by def l.costs) (λ other. IsLineLevel (reads_by def other l.costs) line ys) → xs ≡ ys
  one_line_level def line None xs ys a b = one_least def xs ys a b
  one_line_level def line (Some other) xs ys a b = one_level (reads_by def other k.costs) line xs ys a (subst (λ (m : Costs). IsLineLevel (reads_by def other m) line ys) (sym costs) b)

  one_parts : (place : Place) (def : ℕ) (cause : Cause) (xs ys : List Part) → AreParts s k c place def cause xs → AreParts s l c place def cause ys → xs ≡ ys
  one_parts place def causes.Command xs ys a b = one_least def xs ys a b
  one_parts place def causes.Application xs ys a b = one_least def xs ys a b
  one_parts place def (causes.Proxiable set) xs ys a b = one_least def xs ys a b
  one_parts place def (causes.Level line) xs ys a b = one_line_level def line (read_number s c place) xs ys a b
  one_parts place def (causes.Unknown key m) xs ys a b = one_least def xs ys a b
  one_parts place def (causes.MBit key m) xs ys a b = one_least def xs ys a b
  one_parts place def (causes.Format key found) xs ys a b = one_least def xs ys a b
  one_parts place def (causes.LevelAsLeaf key) xs ys a b = one_least def xs ys a b
  one_parts place def (causes.Meaning key) xs ys a b = one_least def xs ys a b

  one_alone : (place : Place) (cause : Cause) (number : Option ℕ) (xs ys : List ℕ)
      → MatchOption number (xs ≡ []) (λ def. (parts : List Part) × AreParts s k c place def cause parts × (xs ≡ parts_bytes (shortest_avp s k) parts))
      → MatchOption number (ys ≡ []) (λ def. (parts : List Part) × AreParts s l c place def cause parts × (ys ≡ parts_bytes (shortest_avp s l) parts)) → xs ≡ ys
  one_alone place cause None xs ys a b = a ∙ sym b
  one_alone place cause (Some def) xs ys (ps, are, is) (qs, are_other, is_other) =
      is ∙ ap (parts_bytes (shortest_avp s k)) (one_parts place def cause ps qs are are_other) ∙ ap (λ (avp : Key → List ℕ). parts_bytes avp qs) avps ∙ sym is_other

  -- ---- the levels round it

  abbrev parts_by : Place → Key → Costs → List Part
  parts_by place key costs = option_map_or (λ def. parts_with (others_in costs (rules_in s.sender def)) (rules_in s.sender def) key) (sent_number s c place) []

  abbrev round_by : (Key → List ℕ) → Place → Key → List ℕ → Costs → List ℕ
  round_by avp place key bytes costs = parts_bytes avp (front_parts key (parts_by place key costs)) ++ bytes ++ parts_bytes avp (rest_parts key (parts_by place key costs))

  one_round : (place : Place) (key : Key) (bytes : List ℕ) → level_round s k c place key bytes ≡ level_round s l c place key bytes
  one_round place key bytes = ap (λ (avp : Key → List ℕ). round_by avp place key bytes k.costs) avps ∙ ap (round_by (shortest_avp s l) place key bytes) costs

  one_site : (size : ℕ) (outer site : Site) (bytes : List ℕ) → site_round s k c size outer site bytes ≡ site_round s l c size outer site bytes
  one_site size outer site bytes = by (key_at site.place)
    where
      by : (o : Option Key) → option_map_or (λ key. level_round s k c outer.place key (group_head s size site key ++ bytes)) o bytes
          ≡ option_map_or (λ key. level_round s l c outer.place key (group_head s size site key ++ bytes)) o bytes
      by None = refl
      by (Some key) = one_round outer.place key (group_head s size site key ++ bytes)

  one_path : (size : ℕ) (outer : Site) (path : List Site) (bytes : List ℕ) → levels_from s k c size outer path bytes ≡ levels_from s l c size outer path bytes
  one_path size outer [] bytes = refl
  one_path size outer (site ∷ path) bytes = ap (site_round s k c size outer site) (one_path size site path bytes) ∙ one_site size outer site (levels_from s l c size site path bytes)

  all_levels : (size : ℕ) (path : List Site) (bytes : List ℕ) → levels_on s k c size path bytes ≡ levels_on s l c size path bytes
  all_levels size [] bytes = refl
  all_levels size (site ∷ path) bytes = one_path size site path bytes

  -- ---- the AVP of the line

  one_shown : (cause : Cause) → shown_avp s k cause ≡ shown_avp s l cause
  one_shown causes.Command = refl
  one_shown causes.Application = refl
  one_shown (causes.Proxiable set) = refl
  one_shown (causes.Level line) = refl
  one_shown (causes.Unknown key m) = ap (λ (avp : Key → List ℕ). Some (shown key (with_m m (avp key)))) avps
  one_shown (causes.MBit key m) = ap (λ (avp : Key → List ℕ). Some (shown key (with_m m (avp key)))) avps
  one_shown (causes.Format key None) = ap (λ (avp : Key → List ℕ). Some (shown key (avp key))) avps
  one_shown (causes.Format key (Some found)) = refl
  one_shown (causes.LevelAsLeaf key) = ap (λ (avp : Key → List ℕ). Some (shown key (avp key))) avps
  one_shown (causes.Meaning key) = ap (λ (avp : Key → List ℕ). Some (shown key (with_m (wants_m s key) (avp key)))) avps

  one_showing : (cause : Cause) (place : Place) (found : Option Shown) (xs ys : List ℕ)
      → MatchOption found (IsAlone s k c place cause xs) (λ avp. xs ≡ level_round s k c place avp.key avp.bytes)
      → MatchOption found (IsAlone s l c place cause ys) (λ avp. ys ≡ level_round s l c place avp.key avp.bytes) → xs ≡ ys
  one_showing cause place None xs ys a b = one_alone place cause (sent_number s c place) xs ys a b
  one_showing cause place (Some avp) xs ys a b = a ∙ one_round place avp.key avp.bytes ∙ sym b

  one_inner : (cause : Cause) (site : Option Site) (xs ys : List ℕ) → IsInnermost s k c cause site xs → IsInnermost s l c cause site ys → xs ≡ ys
  one_inner cause None xs ys a b = a ∙ sym b
  one_inner cause (Some at) xs ys a b =
      one_showing cause at.place (shown_avp s k cause) xs ys a
      (subst (λ (found : Option Shown). MatchOption found (IsAlone s l c at.place cause ys) (λ avp. ys ≡ level_round s l c at.place avp.key avp.bytes)) (sym (one_shown cause)) b)

  -- ---- the message

  module _ (sites : List Site) (line : Line) where
    one_for : (head : Option Head) (xs ys : List ℕ) → MatchOption head (xs ≡ []) (λ h. IsMessageFor s k c sites line h xs) → MatchOption head (ys ≡ []) (λ h. IsMessageFor s l c sites line h ys)
        → xs ≡ ys
    one_for None xs ys a b = a ∙ sym b
    one_for (Some head) xs ys (inner, shows, is) (other, shows_other, is_other) =
        let header = header_bytes head line (slice_get (path_to sites line.site) 0) in
        let path = path_to sites line.site in
        is ∙ ap (λ (bytes : List ℕ). header ++ levels_on s k c line.length path bytes) (one_inner line.cause (slice_get sites line.site) inner other shows shows_other)
        ∙ ap (λ (bytes : List ℕ). header ++ bytes) (all_levels line.length path other) ∙ sym is_other

    pub one_by : (bytes others : List ℕ) → IsLineMessage s k c sites line bytes → IsLineMessage s l c sites line others → bytes ≡ others
    one_by bytes others a b = one_for (command_head s.sender c) bytes others a b

-- of one stock
pub one_message : (s : Sides) (k : Stock) (c : ℕ) (sites : List Site) (line : Line) (bytes others : List ℕ) → IsLineMessage s k c sites line bytes → IsLineMessage s k c sites line others → bytes ≡ others
one_message s k c sites line bytes others a b = one_by s k k c refl refl sites line bytes others a b
