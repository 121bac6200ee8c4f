-- Which data each format accepts (RFC 6733 sections 4.2 and 4.3, RFC 3629).
use Rattle.std.specs.Prelude.{◌≡◌, ◌≢◌, ℕ, ◌<◌, ◌≤◌, ◌⊎◌, List, ◌++◌, length, map, Option, All, Any, IfSome, codes, ⊤}
use Rattle.std.specs.Str.{IsUtf8}
use Rattle.std.specs.Char.{to_ascii_lowercase}
use Rattle.dia_data.specs.Number.{number}
use Rattle.dia_data.specs.Plain.{PlainFormat, AnyBytes, FourBytes, EightBytes, Grouped, Address, Utf8String, DiameterIdentity, DiameterUri, Enumerated}
use Rattle.dia_data.specs.declared.accept.Leaf.{Leaf}
use Rattle.dia_data.specs.declared.accept.Leaf.TheVariants.{Fine, BadLength, BadValue}

-- the number lies in the range, both ends in
abbrev pub IsWithin : ℕ → ℕ × ℕ → Type 0
IsWithin n range = (range.0 ≤ n) × (n ≤ range.1)

-- the number is one of an Enumerated format's: some range holds it, or there is no list
abbrev pub IsListed : Option (List (ℕ × ℕ)) → ℕ → Type 0
IsListed ranges n = IfSome ranges (λ rs. Any (IsWithin n) rs)

-- a printing character of ASCII that is no space
abbrev pub IsGraphic : ℕ → Type 0
IsGraphic byte = (33 ≤ byte) × (byte ≤ 126)

-- two bytes of address family, then 4 bytes for IPv4, 16 for IPv6, any for others (RFC 6733 section 4.3.1)
pub record IsAddress (bytes : List ℕ) : Type 0 where
  pub family : List ℕ
  pub rest : List ℕ
  pub parts : bytes ≡ family ++ rest
  pub width : length family ≡ 2
  pub ipv4 : number family ≡ 1 → length rest ≡ 4
  pub ipv6 : number family ≡ 2 → length rest ≡ 16

-- one or more graphic bytes (our profile)
abbrev pub IsIdentity : List ℕ → Type 0
IsIdentity bytes = (0 < length bytes) × All IsGraphic bytes

-- the scheme in either letter case, and one or more bytes after it
pub record NamesScheme (scheme bytes : List ℕ) : Type 0 where
  pub front : List ℕ
  pub rest : List ℕ
  pub parts : bytes ≡ front ++ rest
  pub spelled : map to_ascii_lowercase front ≡ map to_ascii_lowercase scheme
  pub more : 0 < length rest

-- one of two schemes and something after it, all graphic (our profile)
abbrev pub IsUri : List ℕ → Type 0
IsUri bytes = (NamesScheme (codes "aaa://") bytes ⊎ NamesScheme (codes "aaas://") bytes) × All IsGraphic bytes

-- the data is one that the format accepts. The data of Grouped is a level of AVPs and no leaf
abbrev pub IsLeaf : PlainFormat → List ℕ → Type 0
IsLeaf (AnyBytes name) bytes = ⊤
IsLeaf (FourBytes name) bytes = length bytes ≡ 4
IsLeaf (EightBytes name) bytes = length bytes ≡ 8
IsLeaf Grouped bytes = ⊥
IsLeaf Address bytes = IsAddress bytes
IsLeaf Utf8String bytes = IsUtf8 bytes
IsLeaf DiameterIdentity bytes = IsIdentity bytes
IsLeaf DiameterUri bytes = IsUri bytes
IsLeaf (Enumerated ranges) bytes = (length bytes ≡ 4) × IsListed ranges (number bytes)

-- the data has a length that the format can have
abbrev pub LengthFits : PlainFormat → List ℕ → Type 0
LengthFits (FourBytes name) bytes = length bytes ≡ 4
LengthFits (EightBytes name) bytes = length bytes ≡ 8
LengthFits Address bytes = IsAddress bytes
LengthFits (Enumerated ranges) bytes = length bytes ≡ 4
LengthFits format bytes = ⊤

-- what is said of the data: accepted, or a wrong length, or else a wrong value. A level is not looked at
abbrev pub IsLeafAnswer : Leaf → PlainFormat → List ℕ → Type 0
IsLeafAnswer Fine format bytes = IsLeaf format bytes ⊎ (format ≡ Grouped)
IsLeafAnswer BadLength format bytes = ¬ LengthFits format bytes
IsLeafAnswer BadValue format bytes = LengthFits format bytes × (¬ IsLeaf format bytes) × (format ≢ Grouped)
