-- AVPs whose data B's side accepts and reads as another format (our profile, over RFC 6733 sections 4.2 and 4.3).
use Rattle.std.specs.Prelude.{◌≡◌, ◌⊎◌, ℕ, Bool, true, false, Option, Some, None}
use Rattle.std.specs.Option.{option_map}
use Rattle.dia_wire.specs.declared.Key.{Key}
use Rattle.dia_data.specs.Below.{FormatBelow}
use Rattle.dia_data.specs.Plain.{PlainFormat}
use Rattle.dia_book.specs.Dictionary.{Dictionary}
use Rattle.dia_book.specs.declared.MRule.{MRule}
use Rattle.dia_book.specs.declared.MRule.TheVariants.{Must, MustNot}
use Rattle.dia_valid.specs.Valid.{MHolds, known}
use Rattle.dia_breaking_avps.specs.Sent.{group_of}
use Rattle.dia_breaking.specs.Sides.{Sides}
use Rattle.dia_breaking.specs.Taken.{AreGroups, IsDataTaken}
use Rattle.dia_breaking.specs.Words.{format_in}

-- neither dictionary sees a level in AVPs of the key
abbrev pub AreLeaves : Dictionary → Dictionary → Key → Type 0
AreLeaves da db key = (group_of da key ≡ None) × (group_of db key ≡ None)

-- AVPs of the key are levels for both dictionaries, which are read AVP by AVP; or leaves for both, and A's format is below B's
abbrev pub AreAlike : Dictionary → Dictionary → Key → PlainFormat → PlainFormat → Type 0
AreAlike da db key sent read = AreGroups da db key ⊎ (AreLeaves da db key × FormatBelow sent read)

-- both dictionaries know AVPs of the key, and B's format for them is another than A's: they are leaves for both, and A's format
-- isn't below B's; or a level for A and a leaf for B, or a leaf for A and a level for B
pub record AreOtherFormats (da db : Dictionary) (key : Key) : Type 0 where
  pub sent : PlainFormat
  pub read : PlainFormat
  pub sent_is : format_in da key ≡ Some sent
  pub read_is : format_in db key ≡ Some read
  pub other : ¬ AreAlike da db key sent read

abbrev pub m_rule_in : Dictionary → Key → Option MRule
m_rule_in d key = option_map (λ e. e.rule) (known d key)

-- both dictionaries know AVPs of the key, and some M flag meets the rules of both (RFC 6733 section 4.1)
pub record ShareFlags (da db : Dictionary) (key : Key) : Type 0 where
  pub sent : MRule
  pub read : MRule
  pub sent_is : m_rule_in da key ≡ Some sent
  pub read_is : m_rule_in db key ≡ Some read
  pub flags : ℕ
  pub is_sent : MHolds sent flags
  pub is_read : MHolds read flags

-- B accepts some AVPs of the key, whatever data A's side sends in them, and reads these as another format. Left out are AVPs of
-- another format of which B refuses each M flag that is sent, or some data; or which are levels for A and UTF8Strings, Addresses
-- or numbers of eight bytes for B, where it isn't known whether B accepts all of them. They have lines of what breaks, if a
-- message has room for such data
pub record IsReadAsOther (s : Sides) (key : Key) : Type 0 where
  pub formats : AreOtherFormats s.sender s.receiver key
  pub flags : ShareFlags s.sender s.receiver key
  pub accepted : IsDataTaken s.sender s.receiver s.sends s.unknown key

-- some M flag meets both rules
abbrev pub share_flag : MRule → MRule → Bool
share_flag Must MustNot = false
share_flag MustNot Must = false
share_flag sent read = true
