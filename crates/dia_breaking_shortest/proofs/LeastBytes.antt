-- The numbers of a shortest AVP are bytes.
use Rattle.std.proofs.Common.{ℕ, zero, suc, ◌+◌, ◌-◌, ◌^◌, ◌<◌, Bool, true, false, List, [], ◌∷◌, ◌++◌, length, take, Option, Some, None, sym, subst, arith}
use Rattle.std.specs.Prelude.{◌/◌, ◌%◌, ◌==◌, if◌then◌else◌, is_some, vec_len}
use Rattle.std.specs.Int.{w32, to_be_bytes}
use Rattle.std.specs.Option.{option_map, option_map_or}
use Rattle.std.proofs.Math.Nat.{mod-lt}
use Rattle.std.proofs.lemmas.List.Concat.{flat_map-cons}
use Rattle.dia_wire.specs.declared.Key.{Key}
use Rattle.dia_wire.specs.Written.{padding}
use Rattle.dia_breaking_data.specs.declared.short_data.Witness.{Witness}
use Rattle.dia_breaking_data.specs.Shortest.{AreBytes as AreWitnessBytes, witness_bytes}
use Rattle.dia_breaking_data.proofs.TheData.{witness_are_bytes}
use Rattle.dia_book.specs.Dictionary.{Dictionary, entry_of, group_place}
use Rattle.dia_breaking_sites.specs.Sent.{AreBytes}
use Rattle.dia_breaking_levels.specs.declared.line.Part.{Part}
use Rattle.dia_breaking_shortest.specs.declared.lookup.Least.{Least}
use Rattle.dia_breaking_shortest.specs.Bytes.{avp_bytes, avp_flags, avp_within, entry_front, front_bytes, head_bytes, inner_parts, is_short, leaf_bytes, least_avp, length_bytes, needs_m, parts_bytes, repeated, vendor_bytes}
use Rattle.dia_breaking_shortest.specs.Floors.{shortest_head}
use Rattle.dia_breaking_shortest.specs.Kept.{kept_at}
use Rattle.dia_breaking_shortest.specs.Lengths.{entry_length}

-- ---- lists of bytes

pub joined : (xs ys : List ℕ) → AreBytes xs → AreBytes ys → AreBytes (xs ++ ys)
joined [] ys first second = second
joined (x ∷ xs) ys first second = (first.0, joined xs ys first.1 second)

pub front_of : (n : ℕ) (xs : List ℕ) → AreBytes xs → AreBytes (take n xs)
front_of zero xs are = tt
front_of (suc n) [] are = tt
front_of (suc n) (x ∷ xs) are = (are.0, front_of n xs are.1)

pub bytes_of_witness : (witness : Witness) → AreBytes (witness_bytes witness)
bytes_of_witness witness = same (witness_bytes witness) (witness_are_bytes witness)
  where
    same : (xs : List ℕ) → AreWitnessBytes xs → AreBytes xs
    same [] are = tt
    same (x ∷ xs) are = (are.0, same xs are.1)

-- ---- numbers in network byte order

low_byte : (n : ℕ) → n % 256 < 256
low_byte n = mod-lt n (omega arith)

pub four_of_number : (n : ℕ) → AreBytes (to_be_bytes w32 n)
four_of_number n = (low_byte (n / 256 ^ 3), (low_byte (n / 256 ^ 2), (low_byte (n / 256 ^ 1), (low_byte n, tt))))

pub three_of_number : (n : ℕ) → AreBytes (length_bytes n)
three_of_number n = (low_byte (n / 256 ^ 2), (low_byte (n / 256 ^ 1), (low_byte n, tt)))

-- ---- an AVP

flags_small : (vendor : ℕ) (m : Bool) → avp_flags vendor m < 256
flags_small vendor m = by (vendor == 0) m
  where
    by : (b m : Bool) → (if b then (if m then 64 else 0) else (if m then 192 else 128)) < 256
    by true true = omega arith
    by true false = omega arith
    by false true = omega arith
    by false false = omega arith

vendor_are : (vendor : ℕ) → AreBytes (vendor_bytes vendor)
vendor_are vendor = by (vendor == 0)
  where
    by : (b : Bool) → AreBytes (if b then [] else to_be_bytes w32 vendor)
    by true = tt
    by false = four_of_number vendor

pub head_are : (key : Key) (m : Bool) (size : ℕ) → AreBytes (head_bytes key m size)
head_are key m size =
    joined (to_be_bytes w32 key.code ++ (avp_flags key.vendor m ∷ length_bytes size)) (vendor_bytes key.vendor)
    (joined (to_be_bytes w32 key.code) (avp_flags key.vendor m ∷ length_bytes size) (four_of_number key.code) (flags_small key.vendor m, three_of_number size)) (vendor_are key.vendor)

padding_are : (n : ℕ) → AreBytes (padding n)
padding_are n = front_of ((4 - n % 4) % 4) (0 ∷ 0 ∷ 0 ∷ []) (omega arith, (omega arith, (omega arith, tt)))

pub avp_are : (key : Key) (m : Bool) (bytes : List ℕ) → AreBytes bytes → AreBytes (avp_bytes key m bytes)
avp_are key m bytes are =
    joined (head_bytes key m (shortest_head key + length bytes) ++ bytes) (padding (length bytes))
    (joined (head_bytes key m (shortest_head key + length bytes)) bytes (head_are key m (shortest_head key + length bytes)) are) (padding_are (length bytes))

-- ---- AVPs in a row

repeated_are : (n : ℕ) (bytes : List ℕ) → AreBytes bytes → AreBytes (repeated n bytes)
repeated_are zero bytes are = tt
repeated_are (suc n) bytes are = joined bytes (repeated n bytes) are (repeated_are n bytes are)

pub parts_are : (avp : Key → List ℕ) → ((key : Key) → AreBytes (avp key)) → (parts : List Part) → AreBytes (parts_bytes avp parts)
parts_are avp each [] = tt
parts_are avp each (part ∷ parts) =
    subst AreBytes (sym (flat_map-cons (λ (p : Part). repeated p.count (avp p.key)) part parts))
    (joined (repeated part.count (avp part.key)) (parts_bytes avp parts) (repeated_are part.count (avp part.key) (each part.key)) (parts_are avp each parts))

-- ---- a shortest AVP

module _ (d : Dictionary) (least : Least) where
  leaf_are : (key : Key) (m : Bool) (found : Option Witness) → AreBytes (leaf_bytes key m (option_map witness_bytes found))
  leaf_are key m None = tt
  leaf_are key m (Some witness) = avp_are key m (witness_bytes witness) (bytes_of_witness witness)

  entry_are : (key : Key) (e : ℕ) → AreBytes (entry_front d least key e)
  entry_are key e = by (is_some (group_place d e))
    where
      by : (b : Bool) → AreBytes (if b then head_bytes key (needs_m d e) (entry_length least.lengths.items e) else leaf_bytes key (needs_m d e) (option_map witness_bytes (kept_at least.leaf_data.items e)))
      by true = head_are key (needs_m d e) (entry_length least.lengths.items e)
      by false = leaf_are key (needs_m d e) (kept_at least.leaf_data.items e)

  front_are : (key : Key) → AreBytes (front_bytes d least key)
  front_are key = by (entry_of d key)
    where
      by : (o : Option ℕ) → AreBytes (option_map_or (entry_front d least key) o (head_bytes key false (shortest_head key)))
      by None = head_are key false (shortest_head key)
      by (Some e) = entry_are key e

  within_are : (n : ℕ) (key : Key) → AreBytes (avp_within d least n key)
  within_are zero key = tt
  within_are (suc n) key =
      joined (front_bytes d least key) (parts_bytes (avp_within d least n) (inner_parts d least key)) (front_are key) (parts_are (avp_within d least n) (within_are n) (inner_parts d least key))

  pub least_are : (key : Key) → AreBytes (least_avp d least key)
  least_are key = by (is_short d least key)
    where
      by : (b : Bool) → AreBytes (if b then avp_within d least (suc (vec_len least.lengths)) key else [])
      by true = within_are (suc (vec_len least.lengths)) key
      by false = tt
