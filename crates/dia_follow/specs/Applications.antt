-- Sets of applications, and what two of them have in common (RFC 6733 sections 2.4 and 5.3).
use Rattle.std.specs.Prelude.{ℕ, ◌||◌, Bool, List, [], filter, length, ◌==◌, ◌&&◌}
use Rattle.std.specs.List.{list_any, fold}
use Rattle.std.specs.Ordering.{nat_cmp, is_eq}
use Rattle.std.specs.BTreeSet.{insert_key}
use Rattle.dia_follow.specs.declared.codes.TheConstants.{RELAY}

-- the numbers of each kind, each once and in order
pub record Apps : Type 0 where
  pub auth : List ℕ
  pub acct : List ℕ

abbrev pub no_apps : Apps
no_apps = record { auth = []; acct = [] }

abbrev pub with_auth : Apps → ℕ → Apps
with_auth a n = record { auth = insert_key nat_cmp a.auth n; acct = a.acct }

abbrev pub with_acct : Apps → ℕ → Apps
with_acct a n = record { auth = a.auth; acct = insert_key nat_cmp a.acct n }

-- the number is one of these
abbrev pub has : List ℕ → ℕ → Bool
has numbers n = list_any (λ k. is_eq (nat_cmp n k)) numbers

-- of either kind
abbrev pub has_number : Apps → ℕ → Bool
has_number a n = has a.auth n || has a.acct n

-- the number of relays is among them
abbrev pub is_relay : Apps → Bool
is_relay a = has_number a RELAY

-- messages of the application are for an end that advertises these
abbrev pub serves : Apps → ℕ → Bool
serves a n = has_number a n || is_relay a

-- those of both
abbrev pub union : Apps → Apps → Apps
union a b = fold with_acct (fold with_auth a b.auth) b.acct

-- a number of these is one of those, of whichever kind
abbrev pub shares_number : Apps → Apps → Bool
shares_number a b = list_any (has_number b) a.auth || list_any (has_number b) a.acct

-- those of each kind that are in both
abbrev pub both : Apps → Apps → Apps
both a b = record { auth = filter (has b.auth) a.auth; acct = filter (has b.acct) a.acct }

-- an application of these is one of those
abbrev pub shares_kind : Apps → Apps → Bool
shares_kind a b = list_any (has b.auth) a.auth || list_any (has b.acct) a.acct

abbrev pub is_empty : Apps → Bool
is_empty a = (length a.auth == 0) && (length a.acct == 0)
