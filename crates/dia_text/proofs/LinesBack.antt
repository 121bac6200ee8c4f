-- The lines of AVPs, read back: what each adds.
use Rattle.std.proofs.Common.{◌≡◌, ℕ, ◌-◌, ◌%◌, ◌^◌, ◌<◌, ◌==◌, ◌&&◌, Bool, true, false, if◌then◌else◌, List, [], ◌∷◌, ◌++◌, length, take, Option, Some, None, unwrap_or, Result, Ok, codes, refl, sym, ap, ◌∙◌, arith}
use Rattle.std.specs.Option.{option_map_or}
use Rattle.std.proofs.lemmas.Bool.{lt-ltb, ne_eqb, and_right}
use Rattle.std.proofs.lemmas.List.{length-drop}
use Rattle.dia_terms.specs.Names.{same_bytes}
use Rattle.dia_wire.specs.Wire.{PlainAvp, Spells, head_length, avp_length}
use Rattle.dia_wire.specs.Written.{padding}
use Rattle.byteorder.specs.Endian.{big_bytes}
use Rattle.dia_data.specs.Plain.{PlainFormat}
use Rattle.dia_data.specs.Shown.{hexadecimal}
use Rattle.dia_book.specs.Dictionary.{Dictionary, IsDictionary}
use Rattle.dia_book.proofs.LookUpsByName.{same_bytes-true}
use Rattle.dia_text.specs.declared.fault.Wanted.TheVariants.{AvpFlags}
use Rattle.dia_text.specs.declared.keys.AvpCode.{AvpCode}
use Rattle.dia_text.specs.declared.line.Head.{Head}
use Rattle.dia_text.specs.Words.{first_word, after_word}
use Rattle.dia_text.specs.Reading.{◌>>=◌}
use Rattle.dia_text.specs.Fields.{flags_field, length_field, padding_field}
use Rattle.dia_text.specs.Keys.{code_of, default_flags, format_at}
use Rattle.dia_text.specs.Dates.{time_of}
use Rattle.dia_text.specs.Values.{value_at, is_time, is_date_of, after_date, takes_remark, is_remark, after_remark, after_note}
use Rattle.dia_text.specs.PlainLines.{PlainLine, Blank, Leaf, Open, Close}
use Rattle.dia_text.specs.Avps.{avp_letters, head_at, data_at, close_at, avp_at, part_at}
use Rattle.dia_text.specs.Lines.{whole_line, line_of}
use Rattle.dia_text.specs.Drafts.{Level, added, avp_of}
use Rattle.dia_text.specs.Avps.{in_line}
use Rattle.dia_text.specs.Made.{line_added}
use Rattle.dia_text.specs.LineTexts.{spaced, avp_word, code_at, avp_flags, IsWordOf, pad_words, leaf_line, open_line, close_line}
use Rattle.dia_text.specs.TextOf.{after_data}
use Rattle.dia_text.proofs.Bytes.{HasParts, plain_head}
use Rattle.dia_text.proofs.WordsBack.{HasNoFeed, first_is, after_is, next_is, no_feed_words, no_feeds_both, no_feed_line}
use Rattle.dia_text.proofs.FieldsBack.{keyword, flags_back, length_not_there, padding_back, said_pad, flags_have_no_feeds, pad_are_words}
use Rattle.dia_text.proofs.ValuesBack.{value_back}
use Rattle.dia_text.proofs.KeysBack.{NamesAvp, word_names}

-- ---- what a line says

head_read : (d : Dictionary) (text t1 t2 : List ℕ) (code : AvpCode) (flags : ℕ) → code_of d (first_word text) ≡ Ok code → after_word text ≡ t1
    → flags_field avp_letters AvpFlags (Some (default_flags d code)) AvpFlags t1 ≡ Ok (flags, t2) → length_field t2 ≡ Ok (None, t2) → head_at d text ≡ Ok (record { code = code; flags = flags; said_length = None }, t2)
unfolding head_at
head_read d text t1 t2 code flags a b c e = rw (a, b, c, e) refl

data_read : (d : Dictionary) (head : Head) (text t1 bytes : List ℕ) (pad : Option (List ℕ)) → value_at (format_at d head.code) text ≡ Ok (bytes, t1)
    → after_note (format_at d head.code) bytes t1 ≡ t1 → padding_field t1 ≡ Ok (pad, []) → data_at d head text ≡ Ok (Leaf head bytes pad, [])
unfolding data_at
data_read d head text t1 bytes pad a c b = rw (a, c, b) refl

-- no date stands before padding
no_date : (format : Option PlainFormat) (bytes text : List ℕ) → time_of (first_word text) ≡ None → after_date format bytes text ≡ text
no_date format bytes text none =
    let other : (is_time format && is_date_of bytes (first_word text)) ≡ false = and_right _ _ (ap (λ (o : Option ℕ). option_map_or (λ n. same_bytes (big_bytes 4 n) bytes) o false) none) in
    ap (λ (b : Bool). if b then after_word text else text) other

no_word : (format : Option PlainFormat) (text : List ℕ) → is_remark (first_word text) ≡ false → after_remark format text ≡ text
no_word format text none =
    let other : (takes_remark format && is_remark (first_word text)) ≡ false = and_right _ _ none in
    ap (λ (b : Bool). if b then after_word text else text) other

no_note : (format : Option PlainFormat) (bytes text : List ℕ) → is_remark (first_word text) ≡ false → time_of (first_word text) ≡ None → after_note format bytes text ≡ text
no_note format bytes text no_remark none = ap (after_date format bytes) (no_word format text no_remark) ∙ no_date format bytes text none

pad_no_note : (format : Option PlainFormat) (bytes : List ℕ) (len : ℕ) (pad : List ℕ) → after_note format bytes (spaced (pad_words len pad)) ≡ spaced (pad_words len pad)
pad_no_note format bytes len pad = by (same_bytes pad (padding len))
  where
    by : (b : Bool) → after_note format bytes (spaced (if b then [] else (codes "pad" ∷ hexadecimal pad ∷ []))) ≡ spaced (if b then [] else (codes "pad" ∷ hexadecimal pad ∷ []))
    by true = no_note format bytes [] refl refl
    by false =
        let next = next_is (codes "pad") (hexadecimal pad ∷ []) (keyword (codes "pad") (omega arith) refl) in
        no_note format bytes (spaced (codes "pad" ∷ hexadecimal pad ∷ [])) (ap is_remark next) (ap time_of next)

avp_is_leaf : (d : Dictionary) (text t : List ℕ) (head : Head) (l : PlainLine × List ℕ) → head_at d text ≡ Ok (head, t) → same_bytes (first_word t) (codes "{") ≡ false → data_at d head t ≡ Ok l → avp_at d text ≡ Ok l
unfolding avp_at
avp_is_leaf d text t head l a other b = rw (a, other, b) refl

avp_is_open : (d : Dictionary) (text t : List ℕ) (head : Head) → head_at d text ≡ Ok (head, t) → same_bytes (first_word t) (codes "{") ≡ true → after_word t ≡ [] → avp_at d text ≡ Ok (Open head, [])
unfolding avp_at
avp_is_open d text t head a same b = rw (a, same, b) refl

part_is_avp : (d : Dictionary) (text : List ℕ) (l : PlainLine × List ℕ) → same_bytes (first_word text) (codes "}") ≡ false → avp_at d text ≡ Ok l → part_at d text ≡ Ok l
unfolding part_at
part_is_avp d text l other is = rw (other, is) refl

line_is_part : (d : Dictionary) (text : List ℕ) (l : PlainLine) → 0 < length (first_word text) → part_at d text ≡ Ok (l, []) → whole_line d l [] ≡ Ok l → line_of d text ≡ Ok l
unfolding line_of
line_is_part d text l some is alone =
    let no_blank : (length (first_word text) == 0) ≡ false = ne_eqb (length (first_word text)) 0 (λ e. omega (arith, e, some)) in
    rw (no_blank, is) alone

line_is_avp : (d : Dictionary) (text : List ℕ) (l : PlainLine) → 0 < length (first_word text) → same_bytes (first_word text) (codes "}") ≡ false → avp_at d text ≡ Ok (l, []) → whole_line d l [] ≡ Ok l → line_of d text ≡ Ok l
line_is_avp d text l some other is alone = line_is_part d text l some (part_is_avp d text (l, []) other is) alone

pub closes : (d : Dictionary) → line_of d close_line ≡ Ok (Close None)
unfolding line_of part_at close_at padding_field
closes d = refl

pub blank : (d : Dictionary) → line_of d [] ≡ Ok Blank
unfolding line_of
blank d = refl

-- ---- the lines that are written

-- the head of a line, and the words behind it
head_back : (d : Dictionary) (v : PlainAvp) (front : List ℕ) (ws : List (List ℕ)) → HasParts v front → NamesAvp d (code_at v) (avp_word d (code_at v))
    → same_bytes (first_word (spaced ws)) (codes "flags") ≡ false → same_bytes (first_word (spaced ws)) (codes "length") ≡ false
    → head_at d (avp_word d (code_at v) ++ spaced (avp_flags d v ++ ws)) ≡ Ok (plain_head v, spaced ws)
head_back d v front ws p names no_flags no_length =
    let w = avp_word d (code_at v) in
    let first = first_is w (avp_flags d v ++ ws) names.begins.word in
    head_read d (w ++ spaced (avp_flags d v ++ ws)) (spaced (avp_flags d v ++ ws)) (spaced ws) (code_at v) v.flags (ap (code_of d) first ∙ names.reads)
    (after_is w (avp_flags d v ++ ws) names.begins.word) (flags_back avp_letters AvpFlags AvpFlags (Some (default_flags d (code_at v))) v.flags ws p.flags no_flags) (length_not_there (spaced ws) no_length)

-- a line that is read so
pub record IsLineOf (d : Dictionary) (l : PlainLine) (line : List ℕ) : Type 0 where
  pub reads : line_of d line ≡ Ok l
  pub feeds : HasNoFeed line

pub leaf_back : (d : Dictionary) (v : PlainAvp) (front word : List ℕ) → IsDictionary d → HasParts v front → IsWordOf d v word
    → IsLineOf d (Leaf (plain_head v) v.bytes (said_pad (avp_length v) (after_data v front))) (leaf_line d v word (after_data v front))
leaf_back d v front word sound p is_word =
    let names = word_names d (code_at v) sound p.code p.vendor in
    let value = value_back (format_at d (code_at v)) v.bytes word p.bytes is_word in
    let w = avp_word d (code_at v) in
    let pads = pad_words (avp_length v) (after_data v front) in
    let ws : List (List ℕ) = word ∷ pads in
    let line = leaf_line d v word (after_data v front) in
    let head = head_back d v front ws p names (value.flags pads) (value.len pads) in
    let leaf = data_read d (plain_head v) (spaced ws) (spaced pads) v.bytes (said_pad (avp_length v) (after_data v front)) (value.reads pads)
    (pad_no_note (format_at d (code_at v)) v.bytes (avp_length v) (after_data v front)) (padding_back (avp_length v) (after_data v front) p.following) in
    let first = first_is w (avp_flags d v ++ ws) names.begins.word in
    let some = names.begins.word.some in
    record {
      reads = line_is_avp d line _ (omega (arith, ap length first, some)) (ap (λ (t : List ℕ). same_bytes t (codes "}")) first ∙ names.begins.brace)
          (avp_is_leaf d line (spaced ws) (plain_head v) _ head (value.brace pads) leaf) refl;
      feeds = no_feed_line w (avp_flags d v ++ ws) names.begins.word
          (no_feeds_both (avp_flags d v) ws (flags_have_no_feeds (Some (default_flags d (code_at v))) v.flags p.flags)
          (value.feeds, no_feed_words pads (pad_are_words (avp_length v) (after_data v front) p.following)));
    }

pub open_back : (d : Dictionary) (v : PlainAvp) (front : List ℕ) → IsDictionary d → HasParts v front → IsLineOf d (Open (plain_head v)) (open_line d v)
open_back d v front sound p =
    let names = word_names d (code_at v) sound p.code p.vendor in
    let w = avp_word d (code_at v) in
    let ws : List (List ℕ) = codes "{" ∷ [] in
    let line = open_line d v in
    let head = head_back d v front ws p names refl refl in
    let first = first_is w (avp_flags d v ++ ws) names.begins.word in
    let some = names.begins.word.some in
    record {
      reads = line_is_avp d line _ (omega (arith, ap length first, some)) (ap (λ (t : List ℕ). same_bytes t (codes "}")) first ∙ names.begins.brace)
          (avp_is_open d line (spaced ws) (plain_head v) head refl refl) refl;
      feeds = no_feed_line w (avp_flags d v ++ ws) names.begins.word
          (no_feeds_both (avp_flags d v) ws (flags_have_no_feeds (Some (default_flags d (code_at v))) v.flags p.flags) ((refl, tt), tt));
    }

-- ---- what they add

avp_with : (v : PlainAvp) (front : List ℕ) (pad : Option (List ℕ)) → HasParts v front → unwrap_or pad (padding (avp_length v)) ≡ after_data v front → avp_of (plain_head v) v.bytes pad ≡ Ok front
unfolding avp_of
avp_with v front pad p ends =
    rw (lt-ltb (avp_length v) (2 ^ 24) p.len, ends) (ap Ok (sym p.is))

said_ends : (len : ℕ) (pad : List ℕ) → unwrap_or (said_pad len pad) (padding len) ≡ pad
said_ends len pad = by (same_bytes pad (padding len)) refl
  where
    by : (b : Bool) → same_bytes pad (padding len) ≡ b → unwrap_or (if b then None else Some pad) (padding len) ≡ pad
    by true e = sym (same_bytes-true pad (padding len) e)
    by false e = refl

bound : {A B E : Type 0} (r : Result A E) (x : A) (f : A → Result B E) (y : Result B E) → r ≡ Ok x → f x ≡ y → (r >>= f) ≡ y
bound {A} {B} {E} r x f y is after = ap (λ (q : Result A E). q >>= f) is ∙ after

adds : (d : Dictionary) (l : List ℕ) (line : PlainLine) (at next : Level) → line_of d l ≡ Ok line → added at line ≡ Ok next → line_added d l at ≡ Ok next
adds d l line at next reads is = bound (line_of d l) line (λ x. in_line d l x (added at x)) (Ok next) reads (ap (in_line d l line) is)

pub leaf_added : (d : Dictionary) (v : PlainAvp) (front word : List ℕ) (at : Level) → IsDictionary d → HasParts v front → IsWordOf d v word
    → line_added d (leaf_line d v word (after_data v front)) at ≡ Ok (record { outer = at.outer; bytes = at.bytes ++ front })
leaf_added d v front word at sound p is_word =
    adds d (leaf_line d v word (after_data v front)) (Leaf (plain_head v) v.bytes (said_pad (avp_length v) (after_data v front))) at (record { outer = at.outer; bytes = at.bytes ++ front })
    (leaf_back d v front word sound p is_word).reads
    (bound (avp_of (plain_head v) v.bytes (said_pad (avp_length v) (after_data v front))) front (λ avp. Ok (record { outer = at.outer; bytes = at.bytes ++ avp })) (Ok (record { outer = at.outer; bytes = at.bytes ++ front }))
    (avp_with v front (said_pad (avp_length v) (after_data v front)) p (said_ends (avp_length v) (after_data v front))) refl)

-- a group that is opened
abbrev pub framed : PlainAvp → Level → Level
framed v at = record { outer = record { before = at.bytes; head = plain_head v } ∷ at.outer; bytes = [] }

pub open_added : (d : Dictionary) (v : PlainAvp) (front : List ℕ) (at : Level) → IsDictionary d → HasParts v front → line_added d (open_line d v) at ≡ Ok (framed v at)
open_added d v front at sound p = adds d (open_line d v) (Open (plain_head v)) at (framed v at) (open_back d v front sound p).reads refl

pub close_added : (d : Dictionary) (v : PlainAvp) (front : List ℕ) (at : Level) → HasParts v front → padding (avp_length v) ≡ after_data v front
    → line_added d close_line (record { outer = record { before = at.bytes; head = plain_head v } ∷ at.outer; bytes = v.bytes }) ≡ Ok (record { outer = at.outer; bytes = at.bytes ++ front })
close_added d v front at p ends =
    let inside : Level = record { outer = record { before = at.bytes; head = plain_head v } ∷ at.outer; bytes = v.bytes } in
    adds d close_line (Close None) inside (record { outer = at.outer; bytes = at.bytes ++ front }) (closes d)
    (bound (avp_of (plain_head v) v.bytes None) front (λ avp. Ok (record { outer = at.outer; bytes = at.bytes ++ avp })) (Ok (record { outer = at.outer; bytes = at.bytes ++ front }))
    (avp_with v front None p ends) refl)

pub blank_added : (d : Dictionary) (at : Level) → line_added d [] at ≡ Ok at
blank_added d at = adds d [] Blank at at (blank d) refl

-- ---- a group whose data ends at a multiple of four has no padding

head_aligned : (o : Option ℕ) → head_length o % 4 ≡ 0
head_aligned None = refl
head_aligned (Some n) = refl

no_bytes : (bytes : List ℕ) → length bytes ≡ 0 → bytes ≡ []
no_bytes [] h = refl
no_bytes (b ∷ bytes) h = absurd (omega (arith, h))

pub group_ends : (v : PlainAvp) (front : List ℕ) → Spells v front → HasParts v front → length v.bytes % 4 ≡ 0 → padding (avp_length v) ≡ after_data v front
group_ends v front s p even =
    let long : avp_length v % 4 ≡ 0 = omega (arith, even, head_aligned v.vendor) in
    let whole = s.aligned in
    let short = p.short in
    let none : length (after_data v front) ≡ 0 = omega (arith, length-drop (avp_length v) front, long, whole, short) in
    ap (λ (n : ℕ). take ((4 - n) % 4) (0 ∷ 0 ∷ 0 ∷ [])) long ∙ sym (no_bytes (after_data v front) none)
