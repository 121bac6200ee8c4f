-- What a program in C learns of the other end of a connection, by the numbers of dia.h.
use Rattle.std.specs.Prelude.{◌≡◌, ◌==◌, ℕ, ◌<◌, if◌then◌else◌, List, length, Option, Some}
use Rattle.dia_peer.specs.declared.connection.values.Value.{Value}
use Rattle.dia_peer.specs.declared.connection.values.Value.TheVariants as value
use Rattle.dia_peer.specs.Core.{PlainCore}
use Rattle.dia_peer.specs.Life.{IsSuspect, heard}
use Rattle.dia_peer.specs.Values.{IsValue, code_of, said_in}
use Rattle.dia_c_calls.specs.PeerSteps.{PlainEnd}

-- a message of an application came, and nothing else has changed
abbrev pub Hears : PlainEnd → PlainEnd → Type 0
Hears old new = new ≡ record { core = heard old.core; left = old.left }

abbrev pub SuspectAs : PlainEnd → ℕ → Type 0
SuspectAs peer n = (IsSuspect peer.core → n ≡ 1) × (¬ IsSuspect peer.core → n ≡ 0)

abbrev pub value_of : ℕ → Value
value_of n = if n == 0 then value.Host else (if n == 1 then value.Realm else (if n == 2 then value.Product else (if n == 3 then value.Result else value.Cause)))

abbrev pub IsValueNumber : ℕ → Type 0
IsValueNumber n = n < 5

-- what the other end said of itself
abbrev pub Says : Value → PlainCore → Option (List ℕ) → Type 0
Says v core found = IsValue (code_of v) (said_in core v) found

-- a value of so many bytes
abbrev pub SaysBytes : Value → ℕ → PlainCore → Type 0
SaysBytes v count core = (bytes : List ℕ) × (length bytes ≡ count) × Says v core (Some bytes)

-- the same by a number, of an end
abbrev pub HasSaid : ℕ → PlainEnd → Option (List ℕ) → Type 0
HasSaid which peer found = Says (value_of which) peer.core found

abbrev pub HasSaidBytes : ℕ → ℕ → PlainEnd → Type 0
HasSaidBytes which count peer = SaysBytes (value_of which) count peer.core
