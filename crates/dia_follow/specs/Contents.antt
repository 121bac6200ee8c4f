-- What the AVPs of a body say of its connection (RFC 6733 sections 5.3, 5.4, 6.3, 7.1, 8.8 and 8.16).
use Rattle.std.specs.Prelude.{◌≡◌, ℕ, ◌||◌, Bool, true, false, List, [], ◌∷◌, Option, Some, None, is_some}
use Rattle.std.specs.Prelude.{if◌then◌else◌}
use Rattle.std.specs.List.{fold}
use Rattle.dia_wire.specs.Wire.{PlainAvp}
use Rattle.dia_follow.specs.declared.codes.TheConstants.{
  ORIGIN_HOST,
  SESSION_ID,
  RESULT_CODE,
  ORIGIN_STATE_ID,
  DISCONNECT_CAUSE,
  DESTINATION_HOST,
  DESTINATION_REALM,
  EXPERIMENTAL_RESULT,
  EXPERIMENTAL_RESULT_CODE,
  VENDOR_ID,
  AUTH_APPLICATION_ID,
  ACCT_APPLICATION_ID,
  VENDOR_SPECIFIC_APPLICATION_ID,
}
use Rattle.dia_follow.specs.Applications.{Apps, no_apps, with_auth, with_acct}
use Rattle.dia_follow.specs.Fronts.{IsFront, is_avp, first_data, first_number, number_of}

-- of each kind, the first
pub record PlainContents : Type 0 where
  pub host : Option (List ℕ)
  pub session : Option (List ℕ)
  pub result : Option ℕ
  pub has_result : Bool
  pub experimental : Option (ℕ × ℕ)
  pub has_experimental : Bool
  pub cause : Option ℕ
  pub has_destination : Bool
  pub origin_state : Option ℕ
  pub apps : Apps

-- the application that an AVP names by itself (RFC 6733 sections 6.8 and 6.9)
abbrev pub with_number : Bool → Bool → Apps → Option ℕ → Apps
with_number auth acct apps None = apps
with_number auth acct apps (Some n) = if auth then with_auth apps n else (if acct then with_acct apps n else apps)

abbrev pub add_named : Apps → PlainAvp → Apps
add_named apps v = with_number (is_avp AUTH_APPLICATION_ID v) (is_avp ACCT_APPLICATION_ID v) apps (number_of v.bytes)

-- with those of an AVP: of a Vendor-Specific-Application-Id those directly inside it (RFC 6733 section 6.11)
abbrev pub RecordsBy : Bool → PlainAvp → Apps → Apps → Type 0
RecordsBy true v before after = (inner : List PlainAvp) × (left : List ℕ) × IsFront inner v.bytes left × (after ≡ fold add_named before inner)
RecordsBy false v before after = after ≡ add_named before v

abbrev pub Records : PlainAvp → Apps → Apps → Type 0
Records v before after = RecordsBy (is_avp VENDOR_SPECIFIC_APPLICATION_ID v) v before after

abbrev pub AreRecorded : List PlainAvp → Apps → Apps → Type 0
AreRecorded [] before after = before ≡ after
AreRecorded (v ∷ vs) before after = (between : Apps) × Records v before between × AreRecorded vs between after

abbrev pub both_numbers : Option ℕ → Option ℕ → Option (ℕ × ℕ)
both_numbers None b = None
both_numbers (Some x) None = None
both_numbers (Some x) (Some y) = Some (x, y)

-- vendor and code of an Experimental-Result (RFC 6733 section 7.6)
abbrev pub IsExperimental : Option (List ℕ) → Option (ℕ × ℕ) → Type 0
IsExperimental None pair = pair ≡ None
IsExperimental (Some bytes) pair = (inner : List PlainAvp) × (left : List ℕ) × IsFront inner bytes left × (pair ≡ both_numbers (first_number VENDOR_ID inner) (first_number EXPERIMENTAL_RESULT_CODE inner))

-- a Destination-Host or a Destination-Realm (RFC 6733 sections 6.5 and 6.6)
abbrev pub has_destination : List PlainAvp → Bool
has_destination avps = is_some (first_data DESTINATION_HOST avps) || is_some (first_data DESTINATION_REALM avps)

-- what these AVPs say
pub record IsIn (avps : List PlainAvp) (c : PlainContents) : Type 0 where
  pub host : c.host ≡ first_data ORIGIN_HOST avps
  pub session : c.session ≡ first_data SESSION_ID avps
  pub result : c.result ≡ first_number RESULT_CODE avps
  pub has_result : c.has_result ≡ is_some (first_data RESULT_CODE avps)
  pub experimental : IsExperimental (first_data EXPERIMENTAL_RESULT avps) c.experimental
  pub has_experimental : c.has_experimental ≡ is_some (first_data EXPERIMENTAL_RESULT avps)
  pub cause : c.cause ≡ first_number DISCONNECT_CAUSE avps
  pub destination : c.has_destination ≡ has_destination avps
  pub origin_state : c.origin_state ≡ first_number ORIGIN_STATE_ID avps
  pub apps : AreRecorded avps no_apps c.apps
