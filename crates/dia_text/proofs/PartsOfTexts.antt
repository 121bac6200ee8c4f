-- Texts that are cut at a byte, and the bytes of parts one behind the other.
use Rattle.std.proofs.Common.{◌≡◌, ℕ, ◌+◌, ◌-◌, ◌<◌, ◌≤◌, ◌^◌, ◌==◌, if◌then◌else◌, false, true, List, [], ◌∷◌, ◌++◌, length, map, take, drop}
use Rattle.std.proofs.Common.{not, append_assoc, append-nil, All, Bor, Option, Some, None, option_and_then, Result, Ok, Err, refl, sym, ap, ◌∙◌, arith}
use Rattle.std.specs.Prelude.{◌≢◌, slice_index}
use Rattle.std.specs.Option.{option_map}
use Rattle.std.specs.List.{AllByRecursion, prefix_len, slice_split}
use Rattle.std.proofs.lemmas.List.{map-append, drop_all, drop_more, length-append, length-map, take_at, take_rest, drop_at, take-append-drop}
use Rattle.std.proofs.lemmas.List.Elements.{recursion_from_All}
use Rattle.std.proofs.lemmas.Bool.{ne_eqb, eq-eqb, eqb-true}
use Rattle.std.proofs.lemmas.List.Splits.{slice_split_at, slice_split_none}
use Rattle.memchr.specs.Find.{Passes, is_byte}
use Rattle.dia_text.specs.declared.fault.Kind.{Kind}
use Rattle.dia_text.specs.declared.fault.Kind.TheVariants.{Value}
use Rattle.dia_text.specs.declared.fault.Misread.{Misread}
use Rattle.dia_text.specs.declared.fault.Misread.TheVariants as misread
use Rattle.dia_text.specs.Reading.{some_or, Fails}
use Rattle.dia_text.specs.declared.keys.AvpCode.{AvpCode}
use Rattle.dia_text.specs.Numbers.{number_below}
use Rattle.dia_text.specs.Keys.{with_vendor, parted_code}
use Rattle.dia_text.specs.Values.{each, decimal_byte, byte_pair, in_family, address_of, unescaped, text_at}

-- ---- texts that are cut

other_byte : (c byte : ℕ) → ¬ (c ≡ byte) → (c == byte) ≡ false
other_byte c byte h = ne_eqb c byte h

same_byte : (byte : ℕ) → (byte == byte) ≡ true
same_byte byte = eq-eqb byte byte refl

pub more_parts : (byte : ℕ) (found : List (Bor (List ℕ))) (part : Bor (List ℕ)) (rest following : List ℕ) → rest ≡ part.now ++ byte ∷ following → All (λ c. c ≢ byte) part.now
    → map (λ (x : Bor (List ℕ)). x.now) (found ++ part ∷ []) ++ slice_split (λ b. b == byte) following ≡ map (λ (x : Bor (List ℕ)). x.now) found ++ slice_split (λ b. b == byte) rest
more_parts byte found part rest following is all =
    ap (λ (t : List (List ℕ)). t ++ slice_split (λ b. b == byte) following) (map-append (λ (x : Bor (List ℕ)). x.now) found (part ∷ []))
    ∙ append_assoc (map (λ (x : Bor (List ℕ)). x.now) found) (part.now ∷ []) (slice_split (λ b. b == byte) following)
    ∙ ap (λ (t : List (List ℕ)). map (λ (x : Bor (List ℕ)). x.now) found ++ t)
    (sym (ap (slice_split (λ b. b == byte)) is ∙ slice_split_at (λ b. b == byte) part.now byte following (λ k d lt. other_byte _ byte (all k d lt)) (same_byte byte)))

pub last_part : (byte : ℕ) (found : List (Bor (List ℕ))) (rest : Bor (List ℕ)) → All (λ c. c ≢ byte) rest.now
    → map (λ (x : Bor (List ℕ)). x.now) (found ++ rest ∷ []) ≡ map (λ (x : Bor (List ℕ)). x.now) found ++ slice_split (λ b. b == byte) rest.now
last_part byte found rest all =
    map-append (λ (x : Bor (List ℕ)). x.now) found (rest ∷ [])
    ∙ ap (λ (t : List (List ℕ)). map (λ (x : Bor (List ℕ)). x.now) found ++ t) (sym (slice_split_none (λ b. b == byte) rest.now (λ k d lt. other_byte _ byte (all k d lt))))

-- a text around the first such byte
pub around_byte : (byte : ℕ) (text : List ℕ) (at : ℕ) → at < length text → Passes (is_byte byte) text at
    → text ≡ take at text ++ byte ∷ take (length text - (at + 1)) (drop (at + 1) text)
around_byte byte text at within passes =
    sym (take-append-drop at text)
    ∙ ap (λ (t : List ℕ). take at text ++ t) (drop_more text at 0 within
    ∙ ap (λ (c : ℕ). c ∷ drop (at + 1) text) (eqb-true (slice_index text at) byte passes)
    ∙ ap (λ (t : List ℕ). byte ∷ t) (sym (take_rest text (at + 1))))

-- ---- the first such byte

-- where it stands, and what is in front of it and behind it
pub first_byte : (byte : ℕ) (text front following : List ℕ) → text ≡ front ++ byte ∷ following → All (λ c. c ≢ byte) front
    → (prefix_len (λ c. not (c == byte)) text ≡ length front) × ((length front == length text) ≡ false) × (take (length front) text ≡ front) × (drop (length front + 1) text ≡ following)
first_byte byte text front following is others = (
  ap (prefix_len (λ c. not (c == byte))) is ∙ up_to front (recursion_from_All (λ c. c ≢ byte) front others),
  ne_eqb (length front) (length text) (λ e. omega (arith, e, ap length is, length-append front (byte ∷ following))),
  ap (take (length front)) is ∙ take_at front (byte ∷ following) (length front) refl,
  ap (drop (length front + 1)) (is ∙ sym (append_assoc front (byte ∷ []) following))
      ∙ drop_at (front ++ byte ∷ []) following (length front + 1) (omega (arith, length-append front (byte ∷ []))),
)
  where
    up_to : (front : List ℕ) → AllByRecursion (λ c. c ≢ byte) front → prefix_len (λ c. not (c == byte)) (front ++ byte ∷ following) ≡ length front
    up_to [] others = rw (same_byte byte) refl
    up_to (c ∷ front) others = rw (other_byte c byte others.0, up_to front others.1) (omega arith)

pub no_such_byte : (byte : ℕ) (text : List ℕ) → All (λ c. c ≢ byte) text → (prefix_len (λ c. not (c == byte)) text == length text) ≡ true
no_such_byte byte text others = eq-eqb _ _ (whole text (recursion_from_All (λ c. c ≢ byte) text others))
  where
    whole : (text : List ℕ) → AllByRecursion (λ c. c ≢ byte) text → prefix_len (λ c. not (c == byte)) text ≡ length text
    whole [] others = refl
    whole (c ∷ text) others = rw (other_byte c byte others.0, whole text others.1) (omega arith)

some_read : (o : Option (List ℕ)) (bytes : List ℕ) → some_or o Value ≡ Ok bytes → o ≡ Some bytes
some_read None bytes is = absurd (let e : Err Value ≡ Ok bytes = is in cc)
some_read (Some b) bytes is = ap (λ (r : Result (List ℕ) Kind). read r) is
  where
    read : Result (List ℕ) Kind → Option (List ℕ)
    read (Ok x) = Some x
    read (Err k) = None

none_read : (o : Option (List ℕ)) (kind : Kind) → some_or o Value ≡ Err kind → (o ≡ None) × (kind ≡ Value)
none_read None kind is = (refl, let e : Err Value ≡ Err kind = is in cc)
none_read (Some b) kind is = absurd (let e : Ok b ≡ Err kind = is in cc)

abbrev vendor_cut : ℕ → List ℕ → Option AvpCode
vendor_cut at word =
    if at == length word then None
    else option_and_then (λ code. option_map (with_vendor code) (number_below (2 ^ 32) (drop (at + 1) word))) (number_below (2 ^ 32) (take at word))

pub code_and_vendor : (mark : ℕ) (word code vendor : List ℕ) (a b : Option ℕ) → word ≡ code ++ mark ∷ vendor → All (λ c. c ≢ mark) code → a ≡ number_below (2 ^ 32) code → b ≡ number_below (2 ^ 32) vendor
    → parted_code mark word ≡ option_and_then (λ n. option_map (with_vendor n) b) a
code_and_vendor mark word code vendor a b is others is_code is_vendor =
    let (at, within, front, following) = first_byte mark word code vendor is others in
    ap (λ (n : ℕ). vendor_cut n word) at ∙ rw (within, front, following, sym is_code, sym is_vendor) refl

pub no_vendor : (mark : ℕ) (word : List ℕ) → All (λ c. c ≢ mark) word → parted_code mark word ≡ None
no_vendor mark word others = rw (no_such_byte mark word others) refl

abbrev text_cut : ℕ → List ℕ → Option (List ℕ × List ℕ)
text_cut at text = if at == length text then None else option_map (λ bytes. (bytes, drop (at + 1) text)) (unescaped (slice_split (λ c. c == 92) (take at text)))

pub quoted_text : (text quoted following : List ℕ) → text ≡ quoted ++ 34 ∷ following → All (λ c. c ≢ 34) quoted
    → text_at text ≡ option_map (λ bytes. (bytes, following)) (unescaped (slice_split (λ c. c == 92) quoted))
quoted_text text quoted following is others =
    let (at, within, front, rest) = first_byte 34 text quoted following is others in
    ap (λ (n : ℕ). text_cut n text) at ∙ rw (within, front, rest) refl

pub no_quoted_text : (text : List ℕ) → All (λ c. c ≢ 34) text → text_at text ≡ None
no_quoted_text text others = rw (no_such_byte 34 text others) refl

-- the bytes of a text, and what is behind it
pub text_read : (text quoted following bytes : List ℕ) → text ≡ quoted ++ 34 ∷ following → All (λ c. c ≢ 34) quoted → some_or (unescaped (slice_split (λ c. c == 92) quoted)) Value ≡ Ok bytes
    → some_or (text_at text) Value ≡ Ok (bytes, following)
text_read text quoted following bytes is others read =
    ap (λ (o : Option (List ℕ × List ℕ)). some_or o Value) (quoted_text text quoted following is others ∙ ap (option_map (λ (b : List ℕ). (b, following))) (some_read _ bytes read))

pub text_refused : (text quoted following : List ℕ) (e : Misread) → text ≡ quoted ++ 34 ∷ following → All (λ c. c ≢ 34) quoted → Fails e (some_or (unescaped (slice_split (λ c. c == 92) quoted)) Value)
    → Fails e (some_or (text_at text) Value)
text_refused text quoted following misread.NoMemory is others fails = tt
text_refused text quoted following (misread.Fault kind) is others fails =
    let (none, is_value) = none_read _ kind fails in
    ap (λ (o : Option (List ℕ × List ℕ)). some_or o Value) (quoted_text text quoted following is others ∙ ap (option_map (λ (b : List ℕ). (b, following))) none) ∙ ap (λ (k : Kind). Err k) (sym is_value)

-- ---- the bytes of parts

abbrev pub onto : List ℕ → Option (List ℕ) → Option (List ℕ)
onto front o = option_map (λ rest. front ++ rest) o

onto-onto : (a b : List ℕ) (o : Option (List ℕ)) → onto a (onto b o) ≡ onto (a ++ b) o
onto-onto a b None = refl
onto-onto a b (Some bytes) = ap Some (sym (append_assoc a b bytes))

onto-nothing : (o : Option (List ℕ)) → o ≡ onto [] o
onto-nothing None = refl
onto-nothing (Some bytes) = refl

-- the parts are read up to one of them
abbrev pub IsReadUpTo : (List ℕ → Option (List ℕ)) → List (List ℕ) → ℕ → List ℕ → List ℕ → Type 0
IsReadUpTo bytes parts i old now = (front : List ℕ) × (now ≡ old ++ front) × (each bytes parts ≡ onto front (each bytes (drop i parts)))

pub read_nothing : (bytes : List ℕ → Option (List ℕ)) (parts : List (List ℕ)) (old : List ℕ) → IsReadUpTo bytes parts 0 old old
read_nothing bytes parts old = ([], sym (append-nil old), onto-nothing (each bytes parts))

pub read_more : (bytes : List ℕ → Option (List ℕ)) (parts : List (List ℕ)) (i : ℕ) (p b old now new : List ℕ) → drop i parts ≡ p ∷ drop (i + 1) parts → IsReadUpTo bytes parts i old now
    → some_or (bytes p) Value ≡ Ok b → new ≡ now ++ b → IsReadUpTo bytes parts (i + 1) old new
read_more bytes parts i p b old now new here (front, is_now, so_far) is_part is_new =
    let more : each bytes (drop i parts) ≡ onto b (each bytes (drop (i + 1) parts)) = ap (each bytes) here
    ∙ ap (λ (o : Option (List ℕ)). option_and_then (λ f. onto f (each bytes (drop (i + 1) parts))) o) (some_read (bytes p) b is_part) in (
      front ++ b,
      is_new ∙ ap (λ (t : List ℕ). t ++ b) is_now ∙ append_assoc old front b,
      so_far ∙ ap (onto front) more ∙ onto-onto front b (each bytes (drop (i + 1) parts)),
    )

none_of_all : (bytes : List ℕ → Option (List ℕ)) (parts : List (List ℕ)) (i : ℕ) (p old now : List ℕ) → drop i parts ≡ p ∷ drop (i + 1) parts → IsReadUpTo bytes parts i old now → bytes p ≡ None
    → each bytes parts ≡ None
none_of_all bytes parts i p old now here (front, is_now, so_far) none =
    so_far ∙ ap (λ (ps : List (List ℕ)). onto front (each bytes ps)) here
    ∙ ap (λ (o : Option (List ℕ)). onto front (option_and_then (λ f. onto f (each bytes (drop (i + 1) parts))) o)) none

pub read_failed : (bytes : List ℕ → Option (List ℕ)) (parts : List (List ℕ)) (i : ℕ) (p old now : List ℕ) (e : Misread) → drop i parts ≡ p ∷ drop (i + 1) parts → IsReadUpTo bytes parts i old now
    → Fails e (some_or (bytes p) Value) → Fails e (some_or (each bytes parts) Value)
read_failed bytes parts i p old now misread.NoMemory here h fails = tt
read_failed bytes parts i p old now (misread.Fault kind) here h fails =
    let (none, is_value) = none_read (bytes p) kind fails in
    ap (λ (o : Option (List ℕ)). some_or o Value) (none_of_all bytes parts i p old now here h none) ∙ ap (λ (k : Kind). Err k) (sym is_value)

pub read_all : (bytes : List ℕ → Option (List ℕ)) (parts : List (List ℕ)) (i : ℕ) (old now : List ℕ) → length parts ≤ i → IsReadUpTo bytes parts i old now
    → (all : List ℕ) × (some_or (each bytes parts) Value ≡ Ok all) × (now ≡ old ++ all)
read_all bytes parts i old now ends (front, is_now, so_far) = (
  front ++ [],
  ap (λ (o : Option (List ℕ)). some_or o Value) (so_far ∙ ap (λ (ps : List (List ℕ)). onto front (each bytes ps)) (drop_all i parts ends)),
  is_now ∙ ap (λ (t : List ℕ). old ++ t) (sym (append-nil front)),
)

-- ---- addresses

abbrev address_by : List (List ℕ) → List (List ℕ) → Option (List ℕ)
address_by numbers pairs =
    if length numbers == 4 then in_family 1 (each decimal_byte numbers)
    else if length pairs == 8 then in_family 2 (each byte_pair pairs)
    else None

count_is : (parts : List (Bor (List ℕ))) (n : ℕ) → length parts ≡ n → (length (map (λ (x : Bor (List ℕ)). x.now) parts) == n) ≡ true
count_is parts n is = eq-eqb (length (map (λ (x : Bor (List ℕ)). x.now) parts)) n (length-map parts (λ (x : Bor (List ℕ)). x.now) ∙ is)

pub ipv4_parts : (word : List ℕ) (numbers : List (Bor (List ℕ))) → map (λ (x : Bor (List ℕ)). x.now) numbers ≡ slice_split (λ c. c == 46) word → length numbers ≡ 4
    → in_family 1 (each decimal_byte (map (λ (x : Bor (List ℕ)). x.now) numbers)) ≡ address_of word
ipv4_parts word numbers parts four =
    sym (ap (λ (ps : List (List ℕ)). address_by ps (slice_split (λ (c : ℕ). c == 58) word)) (sym parts) ∙ rw (count_is numbers 4 four) refl)

pub ipv6_parts : (word : List ℕ) (numbers groups : List (Bor (List ℕ))) → map (λ (x : Bor (List ℕ)). x.now) numbers ≡ slice_split (λ c. c == 46) word → ¬ (length numbers ≡ 4)
    → map (λ (x : Bor (List ℕ)). x.now) groups ≡ slice_split (λ c. c == 58) word → length groups ≡ 8 → in_family 2 (each byte_pair (map (λ (x : Bor (List ℕ)). x.now) groups)) ≡ address_of word
ipv6_parts word numbers groups parts other pairs eight =
    let no_four : (length (map (λ (x : Bor (List ℕ)). x.now) numbers) == 4) ≡ false =
    ne_eqb (length (map (λ (x : Bor (List ℕ)). x.now) numbers)) 4 (λ e. other (sym (length-map numbers (λ (x : Bor (List ℕ)). x.now)) ∙ e)) in
    sym (ap (λ (ps : List (List ℕ)). address_by ps (slice_split (λ (c : ℕ). c == 58) word)) (sym parts)
    ∙ ap (λ (ps : List (List ℕ)). address_by (map (λ (x : Bor (List ℕ)). x.now) numbers) ps) (sym pairs) ∙ rw (no_four, count_is groups 8 eight) refl)
