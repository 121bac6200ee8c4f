-- A message whose rows are written has one text, and ends in one way, where each row is written as one text.
use Rattle.std.proofs.Common.{◌≡◌, ◌≢◌, ℕ, ◌<◌, ◌≤◌, Bool, true, false, List, ◌∷◌, length, take, drop, refl, sym, ap, subst, ◌∙◌, arith, codes, Option, Some, None}
use Rattle.std.specs.Prelude.{slice_index}
use Rattle.std.specs.List.{concat}
use Rattle.std.proofs.lemmas.Bool.{both_ways}
use Rattle.dia_wire.specs.declared.Header.{Header}
use Rattle.dia_wire.specs.Number.{number}
use Rattle.dia_wire.specs.Wire.{IsHead, IsMessageLength}
use Rattle.dia_wire.proofs.OneHeader.{one_header, head_says}
use Rattle.dia_data.specs.Leaf.{IsLeaf}
use Rattle.dia_data.specs.Plain.{PlainFormat, Grouped}
use Rattle.dia_data.specs.Shown.{IsValueText}
use Rattle.dia_ccf.specs.Names.{same_bytes}
use Rattle.dia_dict.specs.Dictionary.{Dictionary}
use Rattle.dia_dict.proofs.LookUpsByName.{same_bytes-Decides}
use Rattle.dia_io.specs.declared.Exit.{Exit}
use Rattle.dia_run.specs.Listing.{IsDataText, IsFormatText, IsPlainRow, avp_line, name_text}
use Rattle.dia_run.specs.Outcome.{Refuses, IsWritten, listing, short, version, bad_length, truncated, trailing, listing_exit}
use Rattle.dia_run.specs.Rows.{AreMessageRows, AreWritten, PlainKnown, Row, body_of, command_name, of_avp, of_bad_length, of_header}
use Rattle.dia_run.proofs.OneInput.{Same, refused_once}
use Rattle.dia_run.proofs.OneWalk.{WritesOne, one_walk, one_written}

-- ---- the text of a message, by what is wrong with it

abbrev IsShort : List ℕ → Type 0
IsShort bytes = length bytes < 20

abbrev HasOtherVersion : List ℕ → Type 0
HasOtherVersion bytes = (20 ≤ length bytes) × (slice_index bytes 0 ≢ 1)

abbrev HasBadLength : List ℕ → Type 0
HasBadLength bytes = (20 ≤ length bytes) × (slice_index bytes 0 ≡ 1) × (¬ IsMessageLength (number (take 3 (drop 1 bytes))))

-- a header of a Message Length stands at the front
abbrev HasHead : List ℕ → Header → ℕ → Type 0
HasHead bytes h len = IsHead h len (take 20 bytes) × IsMessageLength len

short_or_head : (bytes : List ℕ) (h : Header) (len : ℕ) → IsShort bytes → HasHead bytes h len → ⊥
short_or_head bytes h len is_short (is_head, is_length) = let says = head_says h len bytes is_head in omega (arith, is_short, says.0)

version_or_head : (bytes : List ℕ) (h : Header) (len : ℕ) → HasOtherVersion bytes → HasHead bytes h len → ⊥
version_or_head bytes h len (long, other) (is_head, is_length) = other (head_says h len bytes is_head).1

length_or_head : (bytes : List ℕ) (h : Header) (len : ℕ) → HasBadLength bytes → HasHead bytes h len → ⊥
length_or_head bytes h len (long, is_one, bad) (is_head, is_length) = bad (subst IsMessageLength (sym (head_says h len bytes is_head).2) is_length)

same_length : (bytes : List ℕ) (h k : Header) (len more : ℕ) → HasHead bytes h len → HasHead bytes k more → len ≡ more
same_length bytes h k len more (is_head, is_length) (is_head', is_length') = (one_header h k len more (take 20 bytes) is_head is_head').1

module _ (P : Row → List ℕ → Type 0) (one : WritesOne P) (d : Dictionary) where
  at_short : (bytes t : List ℕ) (x : Exit) → IsWritten P d bytes t x → IsShort bytes → Refuses (codes "message: short") t x
  at_short bytes t x (listing rows texts bad are written is_t is_x) is_short = absurd (short_or_head bytes are.h (length bytes) is_short (are.head, are.long))
  at_short bytes t x (short is_short' refuses) is_short = refuses
  at_short bytes t x (version long other refuses) is_short = absurd (omega (arith, is_short, long))
  at_short bytes t x (bad_length long is_one bad refuses) is_short = absurd (omega (arith, is_short, long))
  at_short bytes t x (truncated len (h, is_head, is_length) less refuses) is_short = absurd (short_or_head bytes h len is_short (is_head, is_length))
  at_short bytes t x (trailing len (h, is_head, is_length) more refuses) is_short = absurd (short_or_head bytes h len is_short (is_head, is_length))

  at_version : (bytes t : List ℕ) (x : Exit) → IsWritten P d bytes t x → HasOtherVersion bytes → Refuses (codes "message: version") t x
  at_version bytes t x (listing rows texts bad are written is_t is_x) other = absurd (version_or_head bytes are.h (length bytes) other (are.head, are.long))
  at_version bytes t x (short is_short refuses) other = absurd (omega (arith, is_short, other.0))
  at_version bytes t x (version long other' refuses) other = refuses
  at_version bytes t x (bad_length long is_one bad refuses) other = absurd (other.1 is_one)
  at_version bytes t x (truncated len (h, is_head, is_length) less refuses) other = absurd (version_or_head bytes h len other (is_head, is_length))
  at_version bytes t x (trailing len (h, is_head, is_length) more refuses) other = absurd (version_or_head bytes h len other (is_head, is_length))

  at_bad_length : (bytes t : List ℕ) (x : Exit) → IsWritten P d bytes t x → HasBadLength bytes → Refuses (codes "message: length") t x
  at_bad_length bytes t x (listing rows texts bad are written is_t is_x) wrong = absurd (length_or_head bytes are.h (length bytes) wrong (are.head, are.long))
  at_bad_length bytes t x (short is_short refuses) wrong = absurd (omega (arith, is_short, wrong.0))
  at_bad_length bytes t x (version long other refuses) wrong = absurd (other wrong.1)
  at_bad_length bytes t x (bad_length long is_one bad refuses) wrong = refuses
  at_bad_length bytes t x (truncated len (h, is_head, is_length) less refuses) wrong = absurd (length_or_head bytes h len wrong (is_head, is_length))
  at_bad_length bytes t x (trailing len (h, is_head, is_length) more refuses) wrong = absurd (length_or_head bytes h len wrong (is_head, is_length))

  at_truncated : (bytes t : List ℕ) (x : Exit) (k : Header) (n : ℕ) → IsWritten P d bytes t x → HasHead bytes k n → length bytes < n → Refuses (codes "message: truncated") t x
  at_truncated bytes t x k n (listing rows texts bad are written is_t is_x) head less = absurd (omega (arith, less, same_length bytes are.h k (length bytes) n (are.head, are.long) head))
  at_truncated bytes t x k n (short is_short refuses) head less = absurd (short_or_head bytes k n is_short head)
  at_truncated bytes t x k n (version long other refuses) head less = absurd (version_or_head bytes k n (long, other) head)
  at_truncated bytes t x k n (bad_length long is_one bad refuses) head less = absurd (length_or_head bytes k n (long, is_one, bad) head)
  at_truncated bytes t x k n (truncated len (h, is_head, is_length) less' refuses) head less = refuses
  at_truncated bytes t x k n (trailing len (h, is_head, is_length) more refuses) head less = absurd (omega (arith, less, more, same_length bytes h k len n (is_head, is_length) head))

  at_trailing : (bytes t : List ℕ) (x : Exit) (k : Header) (n : ℕ) → IsWritten P d bytes t x → HasHead bytes k n → n < length bytes → Refuses (codes "message: trailing") t x
  at_trailing bytes t x k n (listing rows texts bad are written is_t is_x) head more = absurd (omega (arith, more, same_length bytes are.h k (length bytes) n (are.head, are.long) head))
  at_trailing bytes t x k n (short is_short refuses) head more = absurd (short_or_head bytes k n is_short head)
  at_trailing bytes t x k n (version long other refuses) head more = absurd (version_or_head bytes k n (long, other) head)
  at_trailing bytes t x k n (bad_length long is_one bad refuses) head more = absurd (length_or_head bytes k n (long, is_one, bad) head)
  at_trailing bytes t x k n (truncated len (h, is_head, is_length) less refuses) head more = absurd (omega (arith, more, less, same_length bytes h k len n (is_head, is_length) head))
  at_trailing bytes t x k n (trailing len (h, is_head, is_length) more' refuses) head more = refuses

  one_message_rows : (bytes : List ℕ) (rows others : List Row) (bad bad' : Bool) → AreMessageRows d bytes rows bad → AreMessageRows d bytes others bad' → (rows ≡ others) × (bad ≡ bad')
  one_message_rows bytes rows others bad bad' a b =
      let same_head : a.h ≡ b.h = (one_header a.h b.h (length bytes) (length bytes) (take 20 bytes) a.head b.head).0 in
      let walk = one_walk d (body_of bytes) a.avps b.avps bad bad' a.body b.body in (
        a.are ∙ ap (λ (h : Header). of_header h (length bytes) (command_name d h) ∷ a.avps) same_head
            ∙ ap (λ (avps : List Row). of_header b.h (length bytes) (command_name d b.h) ∷ avps) walk.0 ∙ sym b.are,
        walk.1,
      )

  listed_once : (bytes t u : List ℕ) (x y : Exit) (rows : List Row) (texts : List (List ℕ)) (bad : Bool) → AreMessageRows d bytes rows bad → AreWritten P rows texts
      → t ≡ concat texts → x ≡ listing_exit bad → IsWritten P d bytes u y → Same t u x y
  listed_once bytes t u x y rows texts bad are written is_t is_x (listing others more bad' are' written' is_u is_y) =
      let same = one_message_rows bytes rows others bad bad' are are' in
      let same_texts : texts ≡ more = one_written P one others texts more (subst (λ (rs : List Row). AreWritten P rs texts) same.0 written) written' in
      (is_t ∙ ap concat same_texts ∙ sym is_u, is_x ∙ ap listing_exit same.1 ∙ sym is_y)
  listed_once bytes t u x y rows texts bad are written is_t is_x (short is_short refuses) = absurd (short_or_head bytes are.h (length bytes) is_short (are.head, are.long))
  listed_once bytes t u x y rows texts bad are written is_t is_x (version long other refuses) = absurd (version_or_head bytes are.h (length bytes) (long, other) (are.head, are.long))
  listed_once bytes t u x y rows texts bad are written is_t is_x (bad_length long is_one wrong refuses) =
      absurd (length_or_head bytes are.h (length bytes) (long, is_one, wrong) (are.head, are.long))
  listed_once bytes t u x y rows texts bad are written is_t is_x (truncated len (k, is_head, is_length) less refuses) =
      absurd (omega (arith, less, same_length bytes k are.h len (length bytes) (is_head, is_length) (are.head, are.long)))
  listed_once bytes t u x y rows texts bad are written is_t is_x (trailing len (k, is_head, is_length) more refuses) =
      absurd (omega (arith, more, same_length bytes k are.h len (length bytes) (is_head, is_length) (are.head, are.long)))

  pub written_once : (bytes t u : List ℕ) (x y : Exit) → IsWritten P d bytes t x → IsWritten P d bytes u y → Same t u x y
  written_once bytes t u x y (listing rows texts bad are written is_t is_x) second = listed_once bytes t u x y rows texts bad are written is_t is_x second
  written_once bytes t u x y (short is_short refuses) second = refused_once (codes "message: short") (codes "message: short") t u x y refl refuses (at_short bytes u y second is_short)
  written_once bytes t u x y (version long other refuses) second = refused_once (codes "message: version") (codes "message: version") t u x y refl refuses (at_version bytes u y second (long, other))
  written_once bytes t u x y (bad_length long is_one bad refuses) second =
      refused_once (codes "message: length") (codes "message: length") t u x y refl refuses (at_bad_length bytes u y second (long, is_one, bad))
  written_once bytes t u x y (truncated len (h, is_head, is_length) less refuses) second =
      refused_once (codes "message: truncated") (codes "message: truncated") t u x y refl refuses (at_truncated bytes u y h len second (is_head, is_length) less)
  written_once bytes t u x y (trailing len (h, is_head, is_length) more refuses) second =
      refused_once (codes "message: trailing") (codes "message: trailing") t u x y refl refuses (at_trailing bytes u y h len second (is_head, is_length) more)

-- ---- the lines of `show`

-- texts that can't differ are one
one_if_no_two : (a b : List ℕ) → (¬ (a ≡ b) → ⊥) → a ≡ b
one_if_no_two a b no_two = by (same_bytes a b) refl
  where
    by : (c : Bool) → same_bytes a b ≡ c → a ≡ b
    by true e = (same_bytes-Decides a b).0 e
    by false e = absurd (no_two (λ same. both_ways (same_bytes a b) e ((same_bytes-Decides a b).1 same)))

pub one_value : (format : PlainFormat) (bytes t u : List ℕ) → IsValueText format bytes t → IsValueText format bytes u → t ≡ u
one_value format bytes t u a b = one_if_no_two t u (λ two.
    let refused : ¬ IsLeaf format bytes = λ h. two (a.accepted h ∙ sym (b.accepted h)) in
    two (a.refused refused ∙ sym (b.refused refused)))

one_format_text : (format : PlainFormat) (bytes t u : List ℕ) → IsFormatText format bytes t → IsFormatText format bytes u → t ≡ u
one_format_text Grouped bytes t u a b = a ∙ sym b
one_format_text format bytes t u a b = one_value format bytes t u a b

one_data : (known : Option PlainKnown) (bytes t u : List ℕ) → IsDataText known bytes t → IsDataText known bytes u → t ≡ u
one_data None bytes t u a b = a ∙ sym b
one_data (Some known) bytes t u a b = one_format_text known.format bytes t u a b

pub plain_writes_one : WritesOne IsPlainRow
plain_writes_one (of_header h len command) t u a b = a ∙ sym b
plain_writes_one (of_avp place depth v known) t u (value, is_value, is_t) (other, is_other, is_u) =
    is_t ∙ ap (avp_line place depth v (name_text known)) (one_data known v.bytes value other is_value is_other) ∙ sym is_u
plain_writes_one (of_bad_length place) t u a b = a ∙ sym b
