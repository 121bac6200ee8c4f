-- The data of AVPs as JSON values.
use Rattle.std.proofs.Common.{◌≡◌, ◌≢◌, ℕ, ℤ, pos, negsuc, Bool, true, false, List, ◌++◌, length, take, drop, refl, sym, ap, subst, ◌∙◌, inl, inr, codes, arith, ◌-◌}
use Rattle.std.specs.Prelude.{◌⊎◌, ◌==◌, if◌then◌else◌}
use Rattle.std.specs.List.{flat_map}
use Rattle.std.specs.Str.{IsUtf8}
use Rattle.std.specs.Fmt.{decimal, signed_decimal}
use Rattle.std.specs.Int.{w32, w64}
use Rattle.std.proofs.lemmas.Bool.{eqb-true, false≢true}
use Rattle.std.proofs.lemmas.List.{length-append, length-drop}
use Rattle.std.proofs.Math.Seq.{take-length}
use Rattle.byteorder.specs.Endian.{big_from}
use Rattle.json.specs.Print.{quoted}
use Rattle.serde_json.specs.Data.{Data, number, string}
use Rattle.serde_json.specs.Find.{of_integer}
use Rattle.serde_json.specs.Written.{compact_text}
use Rattle.serde_json.proofs.OnLiterals.{serde_json_on_literals}
use Rattle.dia_data.specs.declared.accept.Leaf.{Leaf}
use Rattle.dia_data.specs.declared.accept.Leaf.TheVariants.{Fine, BadLength, BadValue}
use Rattle.dia_data.specs.declared.FormatKind.TheVariants as of_format
use Rattle.dia_data.specs.declared.Reading.{Reading}
use Rattle.dia_data.specs.declared.Reading.TheVariants.{Signed, Unsigned, Bits}
use Rattle.dia_data.specs.Plain.{PlainFormat, AnyBytes, FourBytes, EightBytes, Grouped, Address, Utf8String, DiameterIdentity, DiameterUri, Enumerated, eight_reading, four_reading}
use Rattle.dia_data.specs.Leaf.{IsAddress, IsLeaf, IsLeafAnswer}
use Rattle.dia_data.specs.Number as numbers
use Rattle.dia_data.specs.Shown.{IsValueText, address, hex_byte, number_text, value_text}
use Rattle.dia_data.proofs.Numbers.{big_from-number}
use Rattle.dia_data.proofs.FormatsBelow.{leaf_below}
use Rattle.dia_data.proofs.ShownValues.{leaf_from_fine}
use Rattle.dia_data.proofs.Leaves.{leaf_fits}
use Rattle.dia_json.specs.declared.values.ValueKind.{ValueKind}
use Rattle.dia_json.specs.declared.values.ValueKind.TheVariants as kind
use Rattle.dia_json.specs.Messages.{IsValue, address_value, hex_value, integer_of, kind_as, kind_of, number_as, other_address, value_as}

-- ---- kinds

-- data of these kinds is that of no group
abbrev is_leaf_kind : ValueKind → Bool
is_leaf_kind kind.Octets = false
is_leaf_kind k = true

no_group : (f : PlainFormat) (k : ValueKind) → kind_of f ≡ k → is_leaf_kind k ≡ true → f ≢ Grouped
no_group f k is leaf grouped =
    false≢true (ap is_leaf_kind (sym (ap kind_of grouped) ∙ is) ∙ leaf)

leaf_of : (f : PlainFormat) (bytes : List ℕ) (k : ValueKind) → kind_of f ≡ k → is_leaf_kind k ≡ true → IsLeafAnswer Fine f bytes → IsLeaf f bytes
leaf_of f bytes k is leaf fine = leaf_from_fine Fine f bytes refl (no_group f k is leaf) fine

abbrev is_numeric : ValueKind → Bool
is_numeric kind.Number = true
is_numeric kind.LongNumber = true
is_numeric k = false

shown_four : (r : Reading) (bytes : List ℕ) → is_numeric (kind_as (of_format.FourBytes r)) ≡ true → number_text w32 r bytes ≡ signed_decimal (number_as w32 r bytes)
shown_four Signed bytes h = refl
shown_four Unsigned bytes h = refl
shown_four Bits bytes h = absurd (false≢true h)

shown_eight : (r : Reading) (bytes : List ℕ) → is_numeric (kind_as (of_format.EightBytes r)) ≡ true → number_text w64 r bytes ≡ signed_decimal (number_as w64 r bytes)
shown_eight Signed bytes h = refl
shown_eight Unsigned bytes h = refl
shown_eight Bits bytes h = absurd (false≢true h)

shown_integer : (f : PlainFormat) (bytes : List ℕ) → is_numeric (kind_of f) ≡ true → value_text f bytes ≡ signed_decimal (integer_of f bytes)
shown_integer (AnyBytes name) bytes h = absurd (false≢true h)
shown_integer (FourBytes name) bytes h = shown_four (four_reading name) bytes h
shown_integer (EightBytes name) bytes h = shown_eight (eight_reading name) bytes h
shown_integer Grouped bytes h = absurd (false≢true h)
shown_integer Address bytes h = absurd (false≢true h)
shown_integer Utf8String bytes h = absurd (false≢true h)
shown_integer DiameterIdentity bytes h = absurd (false≢true h)
shown_integer DiameterUri bytes h = absurd (false≢true h)
shown_integer (Enumerated ranges) bytes h = refl

abbrev is_text : ValueKind → Bool
is_text kind.Text = true
is_text k = false

four_no_text : (r : Reading) → is_text (kind_as (of_format.FourBytes r)) ≡ false
four_no_text Signed = refl
four_no_text Unsigned = refl
four_no_text Bits = refl

eight_no_text : (r : Reading) → is_text (kind_as (of_format.EightBytes r)) ≡ false
eight_no_text Signed = refl
eight_no_text Unsigned = refl
eight_no_text Bits = refl

text_leaf : (f : PlainFormat) (bytes : List ℕ) → is_text (kind_of f) ≡ true → IsLeaf f bytes → IsUtf8 bytes
text_leaf (AnyBytes name) bytes h leaf = absurd (false≢true h)
text_leaf (FourBytes name) bytes h leaf = absurd (false≢true (sym (four_no_text (four_reading name)) ∙ h))
text_leaf (EightBytes name) bytes h leaf = absurd (false≢true (sym (eight_no_text (eight_reading name)) ∙ h))
text_leaf Grouped bytes h leaf = absurd (false≢true h)
text_leaf Address bytes h leaf = absurd (false≢true h)
text_leaf Utf8String bytes h leaf = leaf
text_leaf DiameterIdentity bytes h leaf = leaf_below DiameterIdentity Utf8String tt bytes leaf
text_leaf DiameterUri bytes h leaf = leaf_below DiameterUri Utf8String tt bytes leaf
text_leaf (Enumerated ranges) bytes h leaf = absurd (false≢true h)

-- accepted data of a text's kind is UTF-8
pub text_kind : (f : PlainFormat) (bytes : List ℕ) → kind_of f ≡ kind.Text → IsLeafAnswer Fine f bytes → IsUtf8 bytes
text_kind f bytes is fine = text_leaf f bytes (ap is_text is) (leaf_of f bytes kind.Text is refl fine)

abbrev is_address : ValueKind → Bool
is_address kind.Address = true
is_address k = false

four_no_address : (r : Reading) → is_address (kind_as (of_format.FourBytes r)) ≡ false
four_no_address Signed = refl
four_no_address Unsigned = refl
four_no_address Bits = refl

eight_no_address : (r : Reading) → is_address (kind_as (of_format.EightBytes r)) ≡ false
eight_no_address Signed = refl
eight_no_address Unsigned = refl
eight_no_address Bits = refl

address_format : (f : PlainFormat) → is_address (kind_of f) ≡ true → f ≡ Address
address_format (AnyBytes name) h = absurd (false≢true h)
address_format (FourBytes name) h = absurd (false≢true (sym (four_no_address (four_reading name)) ∙ h))
address_format (EightBytes name) h = absurd (false≢true (sym (eight_no_address (eight_reading name)) ∙ h))
address_format Grouped h = absurd (false≢true h)
address_format Address h = refl
address_format Utf8String h = absurd (false≢true h)
address_format DiameterIdentity h = absurd (false≢true h)
address_format DiameterUri h = absurd (false≢true h)
address_format (Enumerated ranges) h = absurd (false≢true h)

pub address_kind : (f : PlainFormat) → kind_of f ≡ kind.Address → f ≡ Address
address_kind f is = address_format f (ap is_address is)

pub address_leaf : (f : PlainFormat) (bytes : List ℕ) → kind_of f ≡ kind.Address → IsLeafAnswer Fine f bytes → IsAddress bytes
address_leaf f bytes is fine = subst (λ (g : PlainFormat). IsLeaf g bytes) (address_kind f is) (leaf_of f bytes kind.Address is refl fine)

-- ---- their texts

integer_text : (z : ℤ) → compact_text (number (of_integer z)) ≡ signed_decimal z
integer_text (pos n) = refl
integer_text (negsuc n) = refl

-- the text of a value of this kind is that of its format's kind
of_kind : (f : PlainFormat) (bytes text : List ℕ) (k : ValueKind) → kind_of f ≡ k → text ≡ compact_text (value_as k f bytes) → text ≡ compact_text (value_as (kind_of f) f bytes)
of_kind f bytes text k is h = h ∙ ap (λ (l : ValueKind). compact_text (value_as l f bytes)) (sym is)

pub number_recorded : (f : PlainFormat) (bytes text : List ℕ) → kind_of f ≡ kind.Number → IsLeafAnswer Fine f bytes → IsValueText f bytes text
    → text ≡ compact_text (value_as (kind_of f) f bytes)
number_recorded f bytes text is fine shown =
    of_kind f bytes text kind.Number is
    (shown.accepted (leaf_of f bytes kind.Number is refl fine) ∙ shown_integer f bytes (ap is_numeric is) ∙ sym (integer_text (integer_of f bytes)))

pub long_recorded : (f : PlainFormat) (bytes text : List ℕ) → kind_of f ≡ kind.LongNumber → IsLeafAnswer Fine f bytes
    → (shown : List ℕ) × IsValueText f bytes shown × (text ≡ quoted shown) → text ≡ compact_text (value_as (kind_of f) f bytes)
long_recorded f bytes text is fine (shown, is_shown, is_text) =
    of_kind f bytes text kind.LongNumber is
    (is_text ∙ ap quoted (is_shown.accepted (leaf_of f bytes kind.LongNumber is refl fine) ∙ shown_integer f bytes (ap is_numeric is)))

pub octets_recorded : (f : PlainFormat) (bytes text : List ℕ) → kind_of f ≡ kind.Octets → text ≡ compact_text (hex_value bytes) → text ≡ compact_text (value_as (kind_of f) f bytes)
octets_recorded f bytes text is is_text = of_kind f bytes text kind.Octets is is_text

pub address_recorded : (f : PlainFormat) (bytes text : List ℕ) → kind_of f ≡ kind.Address → text ≡ compact_text (address_value bytes) → text ≡ compact_text (value_as (kind_of f) f bytes)
address_recorded f bytes text is is_text = of_kind f bytes text kind.Address is is_text

-- ---- accepted or not

fine_is : (f : PlainFormat) (bytes : List ℕ) → IsLeafAnswer Fine f bytes → ¬ IsLeaf f bytes → value_as (kind_of f) f bytes ≡ hex_value bytes
fine_is f bytes (inl leaf) none = absurd (none leaf)
fine_is f bytes (inr grouped) none = ap (λ (g : PlainFormat). value_as (kind_of g) f bytes) grouped

pub accepted_value : (f : PlainFormat) (bytes text : List ℕ) → IsLeafAnswer Fine f bytes → text ≡ compact_text (value_as (kind_of f) f bytes)
    → (value : Data) × IsValue f bytes value × (text ≡ compact_text value)
accepted_value f bytes text fine is = (value_as (kind_of f) f bytes, record { accepted = λ leaf. refl; refused = fine_is f bytes fine }, is)

no_leaf : (answer : Leaf) (f : PlainFormat) (bytes : List ℕ) → IsLeafAnswer answer f bytes → answer ≢ Fine → ¬ IsLeaf f bytes
no_leaf Fine f bytes said other = λ leaf. other refl
no_leaf BadLength f bytes said other = λ leaf. said (leaf_fits f bytes leaf)
no_leaf BadValue f bytes said other = said.1

pub refused_value : (answer : Leaf) (f : PlainFormat) (bytes text : List ℕ) → IsLeafAnswer answer f bytes → answer ≢ Fine → text ≡ compact_text (hex_value bytes)
    → (value : Data) × IsValue f bytes value × (text ≡ compact_text value)
refused_value answer f bytes text said other is =
    (hex_value bytes, record { accepted = λ leaf. absurd (no_leaf answer f bytes said other leaf); refused = λ none. refl }, is)

-- ---- addresses

abbrev by_family : ℕ → List ℕ → Data
by_family n bytes = if n == 1 then string (address bytes) else (if n == 2 then string (address bytes) else other_address n (drop 2 bytes))

unequal : (n m : ℕ) → n ≢ m → (n == m) ≡ false
unequal n m other = by (n == m) refl
  where
    by : (b : Bool) → (n == m) ≡ b → b ≡ false
    by true e = absurd (other (eqb-true n m e))
    by false e = refl

of_family : (bytes : List ℕ) (n : ℕ) → n ≡ numbers.number (take 2 bytes) → address_value bytes ≡ by_family n bytes
of_family bytes n is = ap (λ (k : ℕ). by_family k bytes) (sym is)

-- an address of a family that is shown
pub shown_address : (f : PlainFormat) (bytes text : List ℕ) (n : ℕ) → n ≡ numbers.number (take 2 bytes) → (n ≡ 1) ⊎ (n ≡ 2) → f ≡ Address → IsAddress bytes
    → (shown : List ℕ) × IsValueText f bytes shown × (text ≡ quoted shown) → text ≡ compact_text (address_value bytes)
shown_address f bytes text n is known of leaf (shown, is_shown, is_text) =
    let says : shown ≡ address bytes =
    (subst (λ (g : PlainFormat). IsValueText g bytes shown) of is_shown).accepted leaf in
    is_text ∙ ap quoted says ∙ ap compact_text (sym (of_family bytes n is ∙ by known))
  where
    by : (n ≡ 1) ⊎ (n ≡ 2) → by_family n bytes ≡ string (address bytes)
    by (inl one) = ap (λ (k : ℕ). by_family k bytes) one
    by (inr two) = ap (λ (k : ℕ). by_family k bytes) two

other_is : (n : ℕ) (bytes : List ℕ)
    → compact_text (other_address n bytes) ≡ codes "{\"family\":" ++ (decimal n ++ (codes ",\"hex\":" ++ (quoted (flat_map hex_byte bytes) ++ codes "}")))
unfolding serde_json_on_literals
other_is n bytes = refl

-- one of another family
pub other_recorded : (bytes digits text : List ℕ) (n : ℕ) → n ≡ numbers.number (take 2 bytes) → n ≢ 1 → n ≢ 2 → digits ≡ quoted (flat_map hex_byte (drop 2 bytes))
    → text ≡ codes "{\"family\":" ++ (decimal n ++ (codes ",\"hex\":" ++ (digits ++ codes "}"))) → text ≡ compact_text (address_value bytes)
other_recorded bytes digits text n is first second is_digits is_text =
    let other = other_address n (drop 2 bytes) in
    let shown = string (address bytes) in
    is_text ∙ ap (λ (d : List ℕ). codes "{\"family\":" ++ (decimal n ++ (codes ",\"hex\":" ++ (d ++ codes "}")))) is_digits ∙ sym (other_is n (drop 2 bytes))
    ∙ ap compact_text (sym (of_family bytes n is ∙ ap (λ (b : Bool). if b then shown else (if n == 2 then shown else other)) (unequal n 1 first)
    ∙ ap (λ (b : Bool). if b then shown else other) (unequal n 2 second)))

-- a slice up to the end
pub all_after : (n : ℕ) (s : List ℕ) → take (length s - n) (drop n s) ≡ drop n s
all_after n s = ap (λ (k : ℕ). take k (drop n s)) (sym (length-drop n s)) ∙ take-length (drop n s)

-- the two bytes of the family
pub family_is : (bytes : List ℕ) (n : ℕ) → IsAddress bytes → n ≡ big_from 0 2 bytes → n ≡ numbers.number (take 2 bytes)
family_is bytes n leaf is = is ∙ big_from-number 2 bytes (omega (arith, ap length leaf.parts, length-append leaf.family leaf.rest, leaf.width))

-- ---- bytes

pub hex_recorded : (bytes digits text : List ℕ) → digits ≡ quoted (flat_map hex_byte bytes) → text ≡ codes "{\"hex\":" ++ (digits ++ codes "}") → text ≡ compact_text (hex_value bytes)
unfolding serde_json_on_literals
hex_recorded bytes digits text is_digits is = is ∙ ap (λ (d : List ℕ). codes "{\"hex\":" ++ (d ++ codes "}")) is_digits

pub not_length : BadLength ≢ Fine
not_length e = cc

pub not_value : BadValue ≢ Fine
not_value e = cc
