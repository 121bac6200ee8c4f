-- The words of a line are those of its parts.
use Rattle.std.proofs.Common.{◌≡◌, ◌∙◌, ℕ, Bool, true, false, not, cond, List, [], ◌∷◌, ◌++◌, Option, Some, None, codes, slice_get, append_assoc, refl, sym, ap, subst}
use Rattle.std.specs.Fmt.{decimal}
use Rattle.std.specs.List.{AllByRecursion, flat_map}
use Rattle.std.specs.Option.{option_map_or}
use Rattle.std.proofs.lemmas.List.{append-nil}
use Rattle.dia_wire.specs.declared.Key.{Key}
use Rattle.dia_terms.specs.declared.Unknown.{Unknown}
use Rattle.dia_terms.specs.declared.Unknown.TheVariants.{Kept, Refused}
use Rattle.dia_breaking_levels.specs.declared.line.Reason.{Reason as LevelReason}
use Rattle.dia_breaking_levels.specs.declared.line.Reason.TheVariants as levels
use Rattle.dia_breaking.specs.declared.line.Cause.{Cause}
use Rattle.dia_breaking.specs.declared.line.Cause.TheVariants as causes
use Rattle.dia_breaking.specs.declared.line.Place.{Place}
use Rattle.dia_breaking.specs.declared.line.Place.TheVariants as places
use Rattle.dia_breaking.specs.declared.line.Site.{Site}
use Rattle.dia_breaking.specs.declared.line.Standing.{Standing}
use Rattle.dia_breaking.specs.LineParts.{IsCommandPlace, IsFromCommand, IsGroupPlace, PlainParts, WordsAreOfParts, Data, M, accepted_of, application_at, application_on, after_of, both_words, format_words, group_names, groups_on}
use Rattle.dia_breaking.specs.LineParts.{matter_words, more_numbers, no_parts, numbers_lacking, numbers_sent, numbers_text, parts_in, parts_words, path_on, path_words, read_of, reason_of, sent_of, sent_words, subject_of, subject_words, recorded_application, unknown_sent}
use Rattle.dia_breaking.specs.Sides.{Sides}
use Rattle.dia_breaking.specs.Words.{application_text, avp_name, bounds_text, cause_text, definition_name, flag_word, level_text, path_text, path_to, place_text, range_text, ranges_text, refused_application, spot, standing_text, subject_name, unknown_detail}

-- ---- the path

groups_are : (s : Sides) (c : ℕ) (sites : List Site) → AllByRecursion (λ other. IsGroupPlace other.place) sites → path_text s c sites ≡ flat_map (λ name. codes "/" ++ name) (groups_on s sites)
groups_are s c [] all = refl
groups_are s c (site ∷ sites) (here, all) = by site.place here ∙ ap (λ (t : List ℕ). flat_map (λ name. codes "/" ++ name) (group_names s site.place) ++ t) (groups_are s c sites all) ∙ more site.place here
  where
    by : (place : Place) → IsGroupPlace place → place_text s c place ++ path_text s c sites ≡ flat_map (λ name. codes "/" ++ name) (group_names s place) ++ path_text s c sites
    by (places.Command app read_as is_recorded proxiable) is = absurd is
    by (places.Group key outer) is = ap (λ (t : List ℕ). t ++ path_text s c sites) (sym (append-nil (place_text s c (places.Group key outer))))

    more : (place : Place) → IsGroupPlace place → flat_map (λ name. codes "/" ++ name) (group_names s place) ++ flat_map (λ name. codes "/" ++ name) (groups_on s sites)
        ≡ flat_map (λ name. codes "/" ++ name) (group_names s place ++ groups_on s sites)
    more (places.Command app read_as is_recorded proxiable) is = absurd is
    more (places.Group key outer) is = ap (λ (t : List ℕ). t ++ flat_map (λ name. codes "/" ++ name) (groups_on s sites)) (append-nil (place_text s c (places.Group key outer)))

recorded_words : (is_recorded : Bool) (read_as : ℕ) → application_text is_recorded read_as ≡ option_map_or (application_text true) (cond is_recorded (Some read_as) None) []
recorded_words true read_as = refl
recorded_words false read_as = refl

-- ---- numbers

numbers_end : (range : ℕ × ℕ) (ranges : List (ℕ × ℕ)) → ranges_text (range ∷ ranges) ≡ numbers_text range ranges ++ codes " "
numbers_end range [] = append-nil (range_text range ++ codes " ") ∙ ap (λ (t : List ℕ). t ++ codes " ") (sym (append-nil (range_text range)))
numbers_end range (next ∷ ranges) =
    ap (λ (t : List ℕ). (range_text range ++ codes " ") ++ t) (numbers_end next ranges) ∙ regroup (range_text range) (range_text next) (more_numbers ranges)
  where
    regroup : (r n m : List ℕ) → (r ++ codes " ") ++ ((n ++ m) ++ codes " ") ≡ (r ++ ((codes " " ++ n) ++ m)) ++ codes " "
    regroup r n m = simp append_assoc

-- ---- what is sent and accepted

sent_is : (t : List ℕ) → (t ++ codes " ") ++ codes "sent" ≡ t ++ codes " sent"
sent_is t = append_assoc t (codes " ") (codes "sent")

both_are : (t u end : List ℕ) → ((t ++ codes " sent, ") ++ u) ++ end ≡ (((t ++ codes " ") ++ codes "sent") ++ codes ", ") ++ (u ++ end)
both_are t u end =
    append_assoc (t ++ codes " sent, ") u end ∙ ap (λ (w : List ℕ). w ++ (u ++ end)) (sym (append_assoc t (codes " sent") (codes ", ")) ∙ ap (λ (w : List ℕ). w ++ codes ", ") (sym (sent_is t)))

lacking_are : (o : Option (List (ℕ × ℕ))) (a b : List ℕ) → option_map_or (λ numbers. ranges_text numbers ++ codes "sent, not in the list") o (((a ++ codes " sent, ") ++ b) ++ codes " accepted")
    ≡ format_words (option_map_or numbers_sent o (Some (Data a))) (option_map_or (λ numbers. None) o (Some (Data b)))
lacking_are None a b = both_are a b (codes " accepted")
lacking_are (Some []) a b = refl
lacking_are (Some (range ∷ ranges)) a b =
    ap (λ (t : List ℕ). t ++ codes "sent, not in the list") (numbers_end range ranges) ∙ sym (append_assoc (numbers_text range ranges ++ codes " ") (codes "sent") (codes ", not in the list"))

unknown_words : (unknown : Unknown) (m : Bool) → unknown_detail unknown m ≡ sent_words (unknown_sent unknown m) ++ codes ", not known"
unknown_words Kept true = refl
unknown_words Kept false = refl
unknown_words Refused m = refl

-- ---- reason, subject and detail

framed : (r n d : List ℕ) → ((r ++ n) ++ codes ": ") ++ d ≡ r ++ (n ++ (codes ": " ++ d))
framed r n d = append_assoc (r ++ n) (codes ": ") d ∙ append_assoc r n (codes ": " ++ d)

-- where the detail is the same
framed_as : (r n d e : List ℕ) → d ≡ e → ((r ++ n) ++ codes ": ") ++ d ≡ r ++ (n ++ (codes ": " ++ e))
framed_as r n d e same = framed r n d ∙ ap (λ (t : List ℕ). r ++ (n ++ (codes ": " ++ t))) same

m_bit_is : (name : List ℕ) (m : Bool) → ((((codes "m-bit " ++ name) ++ codes ": M ") ++ flag_word m) ++ codes " sent, M ") ++ flag_word (not m) ++ codes " accepted"
    ≡ codes "m-bit " ++ (name ++ (codes ": " ++ both_words (Some (M m)) (Some (M (not m)))))
m_bit_is name true = six (codes "m-bit " ++ name) (codes ": M ") (codes "set") (codes " sent, M ") (codes "clear") (codes " accepted") ∙ append_assoc (codes "m-bit ") name (codes ": M set sent, M clear accepted")
  where
    six : (x a b c d e : List ℕ) → ((((x ++ a) ++ b) ++ c) ++ d) ++ e ≡ x ++ (a ++ (b ++ (c ++ (d ++ e))))
    six x a b c d e = simp append_assoc
m_bit_is name false = six (codes "m-bit " ++ name) (codes ": M ") (codes "clear") (codes " sent, M ") (codes "set") (codes " accepted") ∙ append_assoc (codes "m-bit ") name (codes ": M clear sent, M set accepted")
  where
    six : (x a b c d e : List ℕ) → ((((x ++ a) ++ b) ++ c) ++ d) ++ e ≡ x ++ (a ++ (b ++ (c ++ (d ++ e))))
    six x a b c d e = simp append_assoc

application_is : (path : List Site) → IsFromCommand path → option_map_or (λ site. refused_application site.place) (slice_get path 0) []
    ≡ codes "application " ++ (subject_words (application_on path) ++ codes ": not accepted")
application_is [] from = absurd from
application_is (site ∷ path) (here, all) = by site.place here
  where
    by : (place : Place) → IsCommandPlace place → refused_application place ≡ codes "application " ++ (subject_words (application_at place) ++ codes ": not accepted")
    by (places.Command app read_as is_recorded proxiable) is = append_assoc (codes "application ") (decimal app) (codes ": not accepted")
    by (places.Group key outer) is = absurd is

module _ (s : Sides) (other : Key → ℕ) (c : ℕ) (sites : List Site) (n : ℕ) (standing : Standing) where
  -- the parts of a line with this cause, by what is at its site
  abbrev parts_at : Option Site → Cause → PlainParts
  parts_at site cause = record {
    path = path_on s c (path_to sites n);
    standing = standing;
    reason = reason_of cause;
    subject = subject_of s (path_to sites n) cause;
    sent = sent_of s other c site cause;
    following = after_of s cause;
    accepted = accepted_of s c site cause;
    read = read_of s cause;
  }

  level_is : (site : Site) (r : LevelReason) (key following : Option Key) (length : ℕ) → level_text s other c (Some site) (record { reason = r; key = key; following = following; length = length })
      ≡ matter_words (parts_at (Some site) (causes.Level (record { reason = r; key = key; following = following; length = length })))
  level_is site levels.Missing key following length = framed_as (codes "missing ") (subject_name s key) _ _ (both_are (bounds_text _) (bounds_text _) (codes " accepted"))
  level_is site levels.TooMany key following length = framed_as (codes "too-many ") (subject_name s key) _ _ (both_are (bounds_text _) (bounds_text _) (codes " accepted"))
  level_is site levels.NotAllowed key following length = framed_as (codes "not-allowed ") (subject_name s key) _ _ (sym (sent_is (bounds_text _)))
  level_is site levels.NotAllowedOther key following length = framed_as (codes "not-allowed ") (subject_name s key) _ _ (sym (sent_is (bounds_text _)))
  level_is site levels.MissingOthers key following length = framed (codes "missing ") (subject_name s key) _
  level_is site levels.TooManyOthers key following length = framed (codes "too-many ") (subject_name s key) _
  level_is site levels.Order key following length = framed (codes "order ") (subject_name s key) _

  module _ (site : Site) (at : slice_get sites n ≡ Some site) (from : IsFromCommand (path_to sites n)) where
    pub matter_is : (cause : Cause) → cause_text s other (spot c sites n) cause ≡ matter_words (parts_at (slice_get sites n) cause)
    matter_is causes.Command = refl
    matter_is causes.Application = application_is (path_to sites n) from
    matter_is (causes.Proxiable true) = refl
    matter_is (causes.Proxiable false) = refl
    matter_is (causes.Level l) =
        subst (λ (o : Option Site). level_text s other c o l ≡ matter_words (parts_at o (causes.Level l))) (sym at) (level_is site l.reason l.key l.following l.length)
    matter_is (causes.Unknown key m) = framed_as (codes "unknown ") (avp_name s key) _ _ (unknown_words s.unknown m)
    matter_is (causes.MBit key m) = m_bit_is (avp_name s key) m
    matter_is (causes.Format key found) = framed_as (codes "format ") (avp_name s key) _ _ (lacking_are (numbers_lacking s key) _ _)
    matter_is (causes.LevelAsLeaf key) =
        append_assoc (avp_name s key) (codes ": ") _ ∙ ap (λ (t : List ℕ). avp_name s key ++ (codes ": " ++ t)) (both_are _ _ (codes " accepted"))
    matter_is (causes.Meaning key) = framed_as (codes "meaning ") (avp_name s key) _ _ (both_are _ _ (codes " read"))

-- ---- the line

path_is : (s : Sides) (c : ℕ) (path : List Site) → IsFromCommand path → path_text s c path ≡ path_words (path_on s c path)
path_is s c [] from = absurd from
path_is s c (site ∷ path) (here, all) = by site.place here
  where
    by : (place : Place) → IsCommandPlace place → place_text s c place ++ path_text s c path
        ≡ (definition_name s.sender c ++ option_map_or (application_text true) (recorded_application place) []) ++ flat_map (λ name. codes "/" ++ name) (group_names s place ++ groups_on s path)
    by (places.Command app read_as is_recorded proxiable) is = λ i. (definition_name s.sender c ++ recorded_words is_recorded read_as i) ++ groups_are s c path all i
    by (places.Group key outer) is = absurd is

pub words_are : WordsAreOfParts
words_are s other c sites line site is at from =
    let said : ((path_text s c (path_to sites line.site) ++ codes ": ") ++ standing_text line.standing) ++ cause_text s other (spot c sites line.site) line.cause ≡ parts_words (parts_in s other c sites line) =
    λ i. ((path_is s c (path_to sites line.site) from i ++ codes ": ") ++ standing_text line.standing) ++ matter_is s other c sites line.site line.standing site at from line.cause i in
    ap (λ (b : Bool). cond b (((path_text s c (path_to sites line.site) ++ codes ": ") ++ standing_text line.standing) ++ cause_text s other (spot c sites line.site) line.cause) []) is
    ∙ said ∙ sym (ap (λ (b : Bool). parts_words (cond b (parts_in s other c sites line) (no_parts line.standing))) is)
