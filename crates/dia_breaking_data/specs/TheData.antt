-- Which shortest data of a format are retained.
use Rattle.std.specs.Prelude.{ℕ, nat_le, min, if◌then◌else◌, List, [], ◌∷◌, Option, Some, None}
use Rattle.std.specs.Option.{option_map, option_map_or}
use Rattle.dia_data.specs.Plain.{PlainFormat, AnyBytes, FourBytes, EightBytes, Grouped, Address, Utf8String, DiameterIdentity, DiameterUri, Enumerated}
use Rattle.dia_breaking_data.specs.Kinds.{Kind, Octets, Four, Eight, Level, Host, Text, Identity, Link, Listed, four_bytes}

-- the least number of the ranges, if they hold any
abbrev pub least_number : List (ℕ × ℕ) → Option ℕ
least_number [] = None
least_number (range ∷ ranges) = if nat_le range.0 range.1 then Some (option_map_or (min range.0) (least_number ranges) range.0) else least_number ranges

abbrev pub four_zeros : List ℕ
four_zeros = 0 ∷ 0 ∷ 0 ∷ 0 ∷ []

abbrev pub eight_zeros : List ℕ
eight_zeros = 0 ∷ 0 ∷ 0 ∷ 0 ∷ 0 ∷ 0 ∷ 0 ∷ 0 ∷ []

-- "a"
abbrev pub one_letter : List ℕ
one_letter = 97 ∷ []

-- "aaa://a"
abbrev pub one_letter_uri : List ℕ
one_letter_uri = 97 ∷ 97 ∷ 97 ∷ 58 ∷ 47 ∷ 47 ∷ 97 ∷ []

-- a number is 0, or the least of its list; of text there is as little as there can be; and an address is of the family 0. Grouped
-- has no leaf
abbrev pub the_data : PlainFormat → Option (List ℕ)
the_data (AnyBytes name) = Some []
the_data (FourBytes name) = Some four_zeros
the_data (EightBytes name) = Some eight_zeros
the_data Grouped = None
the_data Address = Some (0 ∷ 0 ∷ [])
the_data Utf8String = Some []
the_data DiameterIdentity = Some one_letter
the_data DiameterUri = Some one_letter_uri
the_data (Enumerated None) = Some four_zeros
the_data (Enumerated (Some list)) = option_map four_bytes (least_number list)

-- the same of a kind, whose ranges are in order
abbrev pub first_number : List (ℕ × ℕ) → Option ℕ
first_number [] = None
first_number (range ∷ ranges) = Some range.0

abbrev pub kind_data : Kind → Option (List ℕ)
kind_data Octets = Some []
kind_data Four = Some four_zeros
kind_data Eight = Some eight_zeros
kind_data Level = None
kind_data Host = Some (0 ∷ 0 ∷ [])
kind_data Text = Some []
kind_data Identity = Some one_letter
kind_data Link = Some one_letter_uri
kind_data (Listed ranges) = option_map four_bytes (first_number ranges)
