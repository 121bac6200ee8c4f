-- The last members of an AVP, as they are written.
use Rattle.std.specs.Prelude.{◌≡◌, ℕ, true, List, Option}
use Rattle.serde_json.specs.Data.{Members}
use Rattle.serde_json.specs.Written.{members_text}
use Rattle.dia_data.specs.Plain.{PlainFormat}
use Rattle.dia_run.specs.Rows.{PlainKnown}
use Rattle.dia_show.specs.Listing.{Manner}
use Rattle.dia_json.specs.Messages.{IsNamed, IsRecorded, name_member}

-- the text of the last members of an AVP of this name, with the brace after them
abbrev pub IsNamedLeaf : Manner → List ℕ → PlainFormat → List ℕ → List ℕ → Type 0
IsNamedLeaf m name format bytes text = (recorded : Members) × IsRecorded m name format bytes recorded × (text ≡ members_text true (name_member name recorded))

-- the same of any AVP
abbrev pub IsNamedText : Manner → Option PlainKnown → List ℕ → List ℕ → Type 0
IsNamedText m known bytes text = (named : Members) × IsNamed m known bytes named × (text ≡ members_text true named)
