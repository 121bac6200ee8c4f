-- Levels in one another, written part by part.
use Rattle.std.proofs.Common.{◌≡◌, ℕ, zero, suc, ◌+◌, Bool, List, [], ◌∷◌, ◌++◌, Option, Some, None, refl, sym, ap, subst, ◌∙◌, append_assoc, add-one}
use Rattle.std.specs.Prelude.{reverse, slice_get, MatchOption}
use Rattle.std.specs.Int.{w32, to_be_bytes}
use Rattle.std.specs.Option.{option_map, option_map_or}
use Rattle.std.proofs.lemmas.Grind.{flat_map-append}
use Rattle.std.proofs.lemmas.List.{append-nil}
use Rattle.dia_wire.specs.declared.Key.{Key}
use Rattle.dia_wire.specs.Lengths.{header_length}
use Rattle.dia_breaking_levels.specs.declared.line.Part.{Part}
use Rattle.dia_breaking_shortest.specs.Bytes.{length_bytes, parts_bytes, repeated}
use Rattle.dia_breaking.specs.declared.heads.Head.{Head}
use Rattle.dia_breaking.specs.declared.line.Cause.{Cause}
use Rattle.dia_breaking.specs.declared.line.Line.{Line}
use Rattle.dia_breaking.specs.declared.line.Place.{Place}
use Rattle.dia_breaking.specs.declared.line.Site.{Site}
use Rattle.dia_breaking.specs.declared.shown.ShownAvp.{ShownAvp}
use Rattle.dia_breaking.specs.Messages.{AreParts, IsAlone, IsInnermost, IsMessageFor, IsShowingLevel, Shown, Stock, app_at, command_flags, front_parts, group_head, header_bytes, key_at, level_round}
use Rattle.dia_breaking.specs.Messages.{levels_from, levels_on, line_p, parts_round, sent_number, shortest_avp, shown_avp, site_round, sum_64}
use Rattle.dia_breaking.specs.Nested.{fronts, group_front, group_rest, plain_shown, rests}
use Rattle.dia_breaking.specs.Sides.{Sides}
use Rattle.dia_breaking.specs.Words.{path_to}

-- ---- bytes in a row

-- a header, part by part
pub header_parts : (old : List ℕ) (x : ℕ) (a : List ℕ) (y : ℕ) (b c d first second third fourth fifth last : List ℕ) → first ≡ old ++ x ∷ [] → second ≡ first ++ a → third ≡ second ++ y ∷ []
    → fourth ≡ third ++ b → fifth ≡ fourth ++ c → last ≡ fifth ++ d → last ≡ old ++ ((x ∷ a) ++ (y ∷ b) ++ c ++ d)
header_parts old x a y b c d first second third fourth fifth last is_first is_second is_third is_fourth is_fifth is_last =
    is_last ∙ ap (λ (xs : List ℕ). xs ++ d) (is_fifth ∙ ap (λ (xs : List ℕ). xs ++ c) upto ∙ append_assoc old ((x ∷ a) ++ (y ∷ b)) c) ∙ append_assoc old (((x ∷ a) ++ (y ∷ b)) ++ c) d
  where
    front : second ≡ old ++ x ∷ a
    front = is_second ∙ ap (λ (xs : List ℕ). xs ++ a) is_first ∙ append_assoc old (x ∷ []) a

    middle : fourth ≡ second ++ y ∷ b
    middle = is_fourth ∙ ap (λ (xs : List ℕ). xs ++ b) is_third ∙ append_assoc second (y ∷ []) b

    upto : fourth ≡ old ++ ((x ∷ a) ++ (y ∷ b))
    upto = middle ∙ ap (λ (xs : List ℕ). xs ++ y ∷ b) front ∙ append_assoc old (x ∷ a) (y ∷ b)

pub header_written : (head : Head) (line : Line) (site : Option Site) (old first second third fourth fifth last app : List ℕ) (size flags code number : ℕ) (p : Bool) → first ≡ old ++ 1 ∷ []
    → second ≡ first ++ length_bytes size → size ≡ sum_64 line.length header_length → third ≡ second ++ flags ∷ [] → flags ≡ command_flags head.class p → p ≡ line_p line.cause site
    → fourth ≡ third ++ length_bytes code → code ≡ head.code → fifth ≡ fourth ++ app → app ≡ to_be_bytes w32 number → number ≡ option_map_or (λ at. app_at at.place) site 0
    → last ≡ fifth ++ (0 ∷ 0 ∷ 0 ∷ 0 ∷ 0 ∷ 0 ∷ 0 ∷ 0 ∷ []) → last ≡ old ++ header_bytes head line site
header_written head line site old first second third fourth fifth last app size flags code number p is_first is_second is_size is_third is_flags is_p is_fourth is_code is_fifth is_app is_number
    is_last =
    header_parts old 1 (length_bytes (sum_64 line.length header_length)) (command_flags head.class (line_p line.cause site)) (length_bytes head.code)
    (to_be_bytes w32 (option_map_or (λ at. app_at at.place) site 0)) (0 ∷ 0 ∷ 0 ∷ 0 ∷ 0 ∷ 0 ∷ 0 ∷ 0 ∷ []) first second third fourth fifth last is_first
    (is_second ∙ ap (λ (n : ℕ). first ++ length_bytes n) is_size) (is_third ∙ ap (λ (n : ℕ). second ++ n ∷ []) (is_flags ∙ ap (command_flags head.class) is_p))
    (is_fourth ∙ ap (λ (n : ℕ). third ++ length_bytes n) is_code) (is_fifth ∙ ap (λ (xs : List ℕ). fourth ++ xs) (is_app ∙ ap (to_be_bytes w32) is_number)) is_last

-- these bytes once more
pub repeated_more : (n : ℕ) (bytes : List ℕ) → repeated n bytes ++ bytes ≡ repeated (suc n) bytes
repeated_more zero bytes = sym (append-nil bytes)
repeated_more (suc n) bytes = append_assoc bytes (repeated n bytes) bytes ∙ ap (λ (xs : List ℕ). bytes ++ xs) (repeated_more n bytes)

pub once_more : (n : ℕ) (bytes old out new : List ℕ) → out ≡ old ++ repeated n bytes → new ≡ out ++ bytes → new ≡ old ++ repeated (n + 1) bytes
once_more n bytes old out new before more =
    more ∙ ap (λ (xs : List ℕ). xs ++ bytes) before ∙ append_assoc old (repeated n bytes) bytes ∙ ap (λ (xs : List ℕ). old ++ xs) (repeated_more n bytes)
    ∙ ap (λ (k : ℕ). old ++ repeated k bytes) (sym (add-one n))

pub parts_join : (avp : Key → List ℕ) (xs ys : List Part) → parts_bytes avp (xs ++ ys) ≡ parts_bytes avp xs ++ parts_bytes avp ys
parts_join avp xs ys = flat_map-append (λ (part : Part). repeated part.count (avp part.key)) xs ys

-- ---- the path

regrouped : (f h fs b rs r : List ℕ) → (f ++ (h ++ ((fs ++ b) ++ rs))) ++ r ≡ (((f ++ h) ++ fs) ++ b) ++ (rs ++ r)
regrouped f h fs b rs r = simp append_assoc refl

module _ (s : Sides) (k : Stock) (c size : ℕ) where
  one_apart : (outer site : Site) (key : Option Key) (fs bytes : List ℕ) (rs : List Part)
      → option_map_or (λ (at : Key). level_round s k c outer.place at (group_head s size site at ++ ((fs ++ bytes) ++ parts_bytes (shortest_avp s k) rs))) key
      ((fs ++ bytes) ++ parts_bytes (shortest_avp s k) rs)
      ≡ ((option_map_or (group_front s k c size outer.place site) key [] ++ fs) ++ bytes) ++ parts_bytes (shortest_avp s k) (rs ++ option_map_or (group_rest s k c outer.place) key [])
  one_apart outer site None fs bytes rs = ap (λ (ps : List Part). (fs ++ bytes) ++ parts_bytes (shortest_avp s k) ps) (sym (append-nil rs))
  one_apart outer site (Some key) fs bytes rs =
      let avp = shortest_avp s k in
      let front = parts_bytes avp (front_parts key (parts_round s k c outer.place key)) in
      let rest = group_rest s k c outer.place key in
      regrouped front (group_head s size site key) fs bytes (parts_bytes avp rs) (parts_bytes avp rest)
      ∙ ap (λ (xs : List ℕ). (((front ++ group_head s size site key) ++ fs) ++ bytes) ++ xs) (sym (parts_join avp rs rest))

  pub levels_apart : (outer : Site) (path : List Site) (bytes : List ℕ)
      → levels_from s k c size outer path bytes ≡ (fronts s k c size (Some outer) path ++ bytes) ++ parts_bytes (shortest_avp s k) (rests s k c (Some outer) path)
  levels_apart outer [] bytes = sym (append-nil bytes)
  levels_apart outer (site ∷ path) bytes =
      ap (site_round s k c size outer site) (levels_apart site path bytes) ∙ one_apart outer site (key_at site.place) (fronts s k c size (Some site) path) bytes (rests s k c (Some site) path)

  pub all_apart : (path : List Site) (bytes : List ℕ) → levels_on s k c size path bytes ≡ (fronts s k c size None path ++ bytes) ++ parts_bytes (shortest_avp s k) (rests s k c None path)
  all_apart [] bytes = sym (append-nil bytes)
  all_apart (site ∷ path) bytes =
      levels_apart site path bytes ∙ ap (λ (ps : List Part). (fronts s k c size (Some site) path ++ bytes) ++ parts_bytes (shortest_avp s k) ps) (sym (append-nil (rests s k c (Some site) path)))

  -- a path written: what precedes, the innermost level, and what follows
  pub path_written : (path : List Site) (bytes old first second last : List ℕ) (waiting turned none : List Part) → none ≡ [] → first ≡ old ++ fronts s k c size None path
      → reverse waiting ≡ rests s k c None path ++ reverse none → second ≡ first ++ bytes → turned ≡ reverse waiting → last ≡ second ++ parts_bytes (shortest_avp s k) turned
      → last ≡ old ++ levels_on s k c size path bytes
  path_written path bytes old first second last waiting turned none empty is_first is_open is_second is_turned is_last =
      let avp = shortest_avp s k in
      let parts : turned ≡ rests s k c None path = is_turned ∙ is_open ∙ ap (λ (ps : List Part). rests s k c None path ++ reverse ps) empty ∙ append-nil (rests s k c None path) in
      is_last ∙ ap (λ (ps : List Part). second ++ parts_bytes avp ps) parts
      ∙ ap (λ (xs : List ℕ). xs ++ parts_bytes avp (rests s k c None path)) (is_second ∙ ap (λ (xs : List ℕ). xs ++ bytes) is_first ∙ append_assoc old (fronts s k c size None path) bytes)
      ∙ append_assoc old (fronts s k c size None path ++ bytes) (parts_bytes avp (rests s k c None path)) ∙ ap (λ (xs : List ℕ). old ++ xs) (sym (all_apart path bytes))

-- ---- the innermost level, and the message

module _ (s : Sides) (k : Stock) (c : ℕ) (cause : Cause) (place : Place) where
  pub alone_some : (o : Option ℕ) (def : ℕ) (parts : List Part) (none bytes : List ℕ) (again : List Part) → o ≡ sent_number s c place → o ≡ Some def → AreParts s k c place def cause parts → none ≡ []
      → again ≡ parts → bytes ≡ none ++ parts_bytes (shortest_avp s k) again → IsAlone s k c place cause bytes
  alone_some o def parts none bytes again at is are empty same written =
      subst (λ (number : Option ℕ). MatchOption number (bytes ≡ []) (λ d. (ps : List Part) × AreParts s k c place d cause ps × (bytes ≡ parts_bytes (shortest_avp s k) ps))) (sym is ∙ at)
      (parts, are, written ∙ ap (λ (xs : List ℕ). xs ++ parts_bytes (shortest_avp s k) again) empty ∙ ap (parts_bytes (shortest_avp s k)) same)

  pub alone_none : (o : Option ℕ) (bytes : List ℕ) → o ≡ sent_number s c place → o ≡ None → bytes ≡ [] → IsAlone s k c place cause bytes
  alone_none o bytes at is empty =
      subst (λ (number : Option ℕ). MatchOption number (bytes ≡ []) (λ d. (ps : List Part) × AreParts s k c place d cause ps × (bytes ≡ parts_bytes (shortest_avp s k) ps))) (sym is ∙ at) empty

  pub showing_some : (o : Option ShownAvp) (avp : ShownAvp) (bytes : List ℕ) → option_map plain_shown o ≡ shown_avp s k cause → o ≡ Some avp
      → bytes ≡ level_round s k c place avp.key avp.bytes.items → IsShowingLevel s k c cause place bytes
  showing_some o avp bytes at is written =
      subst (λ (found : Option Shown). MatchOption found (IsAlone s k c place cause bytes) (λ v. bytes ≡ level_round s k c place v.key v.bytes)) (sym (ap (option_map plain_shown) is) ∙ at) written

  pub showing_none : (o : Option ShownAvp) (bytes : List ℕ) → option_map plain_shown o ≡ shown_avp s k cause → o ≡ None → IsAlone s k c place cause bytes → IsShowingLevel s k c cause place bytes
  showing_none o bytes at is alone =
      subst (λ (found : Option Shown). MatchOption found (IsAlone s k c place cause bytes) (λ v. bytes ≡ level_round s k c place v.key v.bytes)) (sym (ap (option_map plain_shown) is) ∙ at) alone

pub message_written : (s : Sides) (k : Stock) (c : ℕ) (sites : List Site) (line : Line) (head : Head) (inner level none first last : List ℕ) (path its : List Site) (site : Option Site)
    → IsInnermost s k c line.cause (slice_get sites line.site) inner → path ≡ path_to sites line.site → its ≡ path → level ≡ inner → site ≡ slice_get its 0 → none ≡ []
    → first ≡ none ++ header_bytes head line site → last ≡ first ++ levels_on s k c line.length its level → IsMessageFor s k c sites line head last
message_written s k c sites line head inner level none first last path its site shows is_path is_its is_level is_site empty is_first is_last =
    let at : its ≡ path_to sites line.site = is_its ∙ is_path in (
      inner,
      shows,
      is_last ∙ ap (λ (xs : List ℕ). xs ++ levels_on s k c line.length its level) (is_first ∙ ap (λ (xs : List ℕ). xs ++ header_bytes head line site) empty
          ∙ ap (header_bytes head line) (is_site ∙ ap (λ (xs : List Site). slice_get xs 0) at))
          ∙ ap (λ (xs : List Site). header_bytes head line (slice_get (path_to sites line.site) 0) ++ levels_on s k c line.length xs level) at
          ∙ ap (λ (xs : List ℕ). header_bytes head line (slice_get (path_to sites line.site) 0) ++ levels_on s k c line.length (path_to sites line.site) xs) is_level,
    )
