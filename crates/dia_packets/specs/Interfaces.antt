-- Interface Description Blocks of pcapng (draft-ietf-opsawg-pcapng, sections 3.5 and 4.2), and the times of their packets.
use Rattle.std.specs.Prelude.{◌≡◌, ◌≢◌, ℕ, ◌+◌, ◌-◌, ◌*◌, ◌/◌, ◌%◌, ◌^◌, ◌≤◌, ◌&&◌, nat_lt, nat_le, if◌then◌else◌, List, length, take, drop, Option, Some, None, slice_index, option_and_then}
use Rattle.std.specs.Option.{option_map_or}
use Rattle.dia_packets.specs.declared.interfaces.Interface.{Interface}
use Rattle.dia_packets.specs.declared.order.Order.{Order}
use Rattle.dia_packets.specs.Fields.{field}

-- ---- options: code, length, value with padding to four bytes

abbrev pub option_size : Order → List ℕ → ℕ
option_size order bytes = 4 + (field order 2 2 bytes + 3) / 4 * 4

-- a whole option is at the front, and not the one with code 0, which ends them
pub record HasOption (order : Order) (bytes : List ℕ) : Type 0 where
  pub head : 4 ≤ length bytes
  pub goes_on : field order 2 0 bytes ≢ 0
  pub whole : option_size order bytes ≤ length bytes

-- it has this code, and a value of so many bytes
abbrev pub IsOption : Order → (code width : ℕ) → List ℕ → Type 0
IsOption order code width bytes = (field order 2 0 bytes ≡ code) × (field order 2 2 bytes ≡ width)

-- the value of the first such option, with all that follows it
pub data FirstOption (order : Order) (code width : ℕ) : (options : List ℕ) → Option (List ℕ) → Type 0 where
  here : {options : List ℕ} → HasOption order options → IsOption order code width options → FirstOption order code width options (Some (drop 4 options))
  later : {options : List ℕ} {found : Option (List ℕ)} → HasOption order options → ¬ IsOption order code width options
      → FirstOption order code width (drop (option_size order options) options) found → FirstOption order code width options found
  nowhere : {options : List ℕ} → ¬ HasOption order options → FirstOption order code width options None

-- ---- an Interface Description Block of so many bytes: link type at 8, options from 16 to the length at its end

abbrev pub options_of : (size : ℕ) → List ℕ → List ℕ
options_of size bytes = take (size - 4 - 16) (drop 16 bytes)

-- if_tsresol; microseconds if it isn't there
abbrev pub HasResolution : Order → (options : List ℕ) → ℕ → Type 0
HasResolution order options resolution =
    (found : Option (List ℕ)) × FirstOption order 9 1 options found × (resolution ≡ option_map_or (λ value. slice_index value 0) found 6)

-- if_tsoffset; 0 if it isn't there
abbrev pub HasOffset : Order → (options : List ℕ) → ℕ → Type 0
HasOffset order options offset =
    (found : Option (List ℕ)) × FirstOption order 14 8 options found × (offset ≡ option_map_or (λ value. field order 8 0 value) found 0)

pub record IsInterface (order : Order) (size : ℕ) (bytes : List ℕ) (one : Interface) : Type 0 where
  pub link_is : one.link ≡ field order 2 8 bytes
  pub resolution_is : HasResolution order (options_of size bytes) one.resolution
  pub offset_is : HasOffset order (options_of size bytes) one.offset

-- ---- times

-- how many units of if_tsresol a second has: a power of 10, or with the highest bit a power of 2
abbrev pub units_of : ℕ → Option ℕ
units_of resolution =
    if nat_le resolution 9 then Some (10 ^ resolution) else
    if nat_le 128 resolution && nat_le resolution 160 then Some (2 ^ (resolution - 128)) else None

-- what isn't below 2^64 isn't known
abbrev pub known : ℕ → Option ℕ
known n = if nat_lt n (2 ^ 64) then Some n else None

-- seconds since 1970 with if_tsoffset, which is negative from 2^63 on (two's complement)
abbrev pub moved : (offset seconds : ℕ) → Option ℕ
moved offset seconds =
    if nat_lt offset (2 ^ 63) then known (seconds + offset) else
    if nat_le (2 ^ 64 - offset) seconds then Some (seconds - (2 ^ 64 - offset)) else None

abbrev pub time_in : (units offset stamp : ℕ) → Option ℕ
time_in units offset stamp = option_and_then (λ seconds. known (seconds * 1000000000 + stamp % units * 1000000000 / units)) (moved offset (stamp / units))

-- nanoseconds since 1970, cut
abbrev pub time_of : Interface → (stamp : ℕ) → Option ℕ
time_of one stamp = option_and_then (λ units. time_in units one.offset stamp) (units_of one.resolution)
