-- Messages under way: what each line adds.
use Rattle.std.specs.Prelude.{◌≡◌, ℕ, ◌+◌, ◌^◌, nat_lt, if◌then◌else◌, List, [], ◌∷◌, ◌++◌, length, Option, unwrap_or, Result, Ok, Err}
use Rattle.byteorder.specs.Endian.{big_bytes}
use Rattle.dia_wire.specs.Wire.{head_length}
use Rattle.dia_wire.specs.Written.{vendor_bytes, padding}
use Rattle.dia_text.specs.declared.fault.Kind.{Kind}
use Rattle.dia_text.specs.declared.fault.Kind.TheVariants.{Braces, Limit}
use Rattle.dia_text.specs.declared.fault.Misread.{Misread}
use Rattle.dia_text.specs.declared.draft.Opened.{Opened}
use Rattle.dia_text.specs.declared.line.Head.{Head}
use Rattle.dia_text.specs.Reading.{◌>>=◌, Fails}
use Rattle.dia_text.specs.PlainLines.{PlainLine, Blank, Leaf, Open, Close}

-- the bytes of an AVP before its data (RFC 6733 section 4.1)
abbrev pub front_bytes : Head → ℕ → List ℕ
front_bytes head len = big_bytes 4 head.code.code ++ (head.flags ∷ big_bytes 3 len) ++ vendor_bytes head.code.vendor

-- header, Vendor-ID and so many bytes of data
abbrev pub full_length : Head → ℕ → ℕ
full_length head n = head_length head.code.vendor + n

-- the AVP Length: that of the data, unless the line writes another
abbrev pub length_of : Head → ℕ → Result ℕ Kind
length_of head n =
    let len = unwrap_or head.said_length (full_length head n) in
    if nat_lt len (2 ^ 24) then Ok len else Err Limit

-- zero bytes up to a multiple of four, unless the line writes others
abbrev pub end_bytes : Head → ℕ → Option (List ℕ) → List ℕ
end_bytes head n pad = unwrap_or pad (padding (full_length head n))

unfoldable pub avp_of : Head → List ℕ → Option (List ℕ) → Result (List ℕ) Kind
avp_of head bytes pad = length_of head (length bytes) >>= λ len. Ok (front_bytes head len ++ (bytes ++ end_bytes head (length bytes) pad))

-- a group that is open: the bytes of its level before it, and what its line says
pub record Frame : Type 0 where
  pub before : List ℕ
  pub head : Head

-- the level under way, and the groups that it lies in, the innermost first
pub record Level : Type 0 where
  pub outer : List Frame
  pub bytes : List ℕ

abbrev pub no_level : Level
no_level = record { outer = []; bytes = [] }

abbrev pub closed : List Frame → List ℕ → Option (List ℕ) → Result Level Kind
closed [] bytes pad = Err Braces
closed (f ∷ fs) bytes pad = avp_of f.head bytes pad >>= λ avp. Ok (record { outer = fs; bytes = f.before ++ avp })

abbrev pub added : Level → PlainLine → Result Level Kind
added level Blank = Ok level
added level (Leaf head bytes pad) = avp_of head bytes pad >>= λ avp. Ok (record { outer = level.outer; bytes = level.bytes ++ avp })
added level (Open head) = Ok (record { outer = record { before = level.bytes; head = head } ∷ level.outer; bytes = [] })
added level (Close pad) = closed level.outer level.bytes pad

-- ---- how the program has them

-- the bytes of all levels, one after the other, with a length of 0 in the head of each open group; and where these begin
abbrev pub Occurs : List Frame → List ℕ → List ℕ → List Opened → Type 0
Occurs [] bytes out groups = (out ≡ bytes) × (groups ≡ [])
Occurs (f ∷ fs) bytes out groups = (o : List ℕ) × (rest : List Opened) × (groups ≡ rest ++ record { place = length o; head = f.head } ∷ [])
    × (out ≡ o ++ (front_bytes f.head 0 ++ bytes)) × Occurs fs f.before o rest

-- the bytes that are read were added, unless memory was refused
abbrev pub IsAppended : Result (List ℕ) Kind → Result (Unit {0}) Misread → List ℕ → List ℕ → Type 0
IsAppended read (Ok u) old new = (avp : List ℕ) × (read ≡ Ok avp) × (new ≡ old ++ avp)
IsAppended read (Err e) old new = Fails e read

abbrev pub IsAdded : Result Level Kind → Result (Unit {0}) Misread → List ℕ → List Opened → Type 0
IsAdded read (Ok u) out groups = (level : Level) × (read ≡ Ok level) × Occurs level.outer level.bytes out groups
IsAdded read (Err e) out groups = Fails e read
