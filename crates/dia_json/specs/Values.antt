-- The answers of `check` and `refute` as JSON values (RFC 8259), whose members are in this order.
use Rattle.std.specs.Prelude.{ℕ, List, Option, None, Some, codes, slice_get}
use Rattle.serde_json.specs.Data.{Members, boolean, member, no_members, number, object, string, unsigned}
use Rattle.dia_wire.specs.declared.Key.{Key}
use Rattle.dia_dict.specs.Dictionary.{Dictionary, DictEntry, definitions}
use Rattle.dia_check.specs.declared.Fault.{Fault}
use Rattle.dia_check.specs.declared.Subject.{Subject}
use Rattle.dia_check.specs.declared.Subject.TheVariants.{Nothing, Avp, Wildcard}
use Rattle.dia_valid.specs.Valid.{known}
use Rattle.dia_check.specs.Reasons.{reason_word}
use Rattle.dia_captures.specs.declared.verdicts.Checked.{Checked}
use Rattle.dia_captures.specs.declared.verdicts.Checked.TheVariants.{Valid, Wrong}
use Rattle.dia_captures.specs.declared.verdicts.Flaw.TheVariants as flaw
use Rattle.dia_captures.specs.declared.verdicts.Refuted.{Refuted}
use Rattle.dia_captures.specs.Verdicts.{name_of, refutes, unless_refused}
use Rattle.dia_refused_json.specs.Members.{json_line, key_members, named_members, refused_members, verdict_members}

-- ---- what a fault is about

-- an AVP, with its name if the dictionary knows it
abbrev pub avp_members : Key → Option DictEntry → Members
avp_members key None = key_members key
avp_members key (Some e) = named_members e.name key

abbrev pub about : Members → Members
about avp = member (codes "avp") (object avp) no_members

-- the AVP, if there is one. The wildcard is called AVP
abbrev pub subject_members : Dictionary → Subject → Members
subject_members d Nothing = no_members
subject_members d (Avp key) = about (avp_members key (known d key))
subject_members d Wildcard = about (member (codes "name") (string (codes "AVP")) no_members)

-- ---- verdicts

abbrev pub valid_members : List ℕ → Members
valid_members name = verdict_members (codes "valid") (member (codes "command") (string name) no_members)

abbrev pub fault_members : Dictionary → Fault → Members
fault_members d fault = verdict_members (codes "fault") (member (codes "code") (number (unsigned fault.code))
    (member (codes "at") (number (unsigned fault.place)) (member (codes "reason") (string (reason_word fault.reason)) (subject_members d fault.subject))))

-- a text that spells no message
abbrev pub too_long_members : Members
too_long_members = refused_members (codes "message") (codes "too long") no_members

abbrev pub not_hexadecimal_members : Members
not_hexadecimal_members = refused_members (codes "message") (codes "not hexadecimal") no_members

-- a verdict of `check`
abbrev pub checked_members : Dictionary → Checked → Members
checked_members d (Valid found) = valid_members (name_of (slice_get (definitions d) found.def))
checked_members d (Wrong (flaw.Fault fault)) = fault_members d fault
checked_members d (Wrong flaw.Truncated) = verdict_members (codes "truncated") no_members
checked_members d (Wrong flaw.Trailing) = verdict_members (codes "trailing") no_members
checked_members d (Wrong flaw.TooLong) = too_long_members
checked_members d (Wrong flaw.NotHexadecimal) = not_hexadecimal_members

-- that on a message of a stream, after its place
abbrev pub placed_members : Dictionary → ℕ × Checked → Members
placed_members d verdict = member (codes "place") (number (unsigned verdict.0)) (checked_members d verdict.1)

-- the members after the number of a line
abbrev pub numbered : ℕ → Members → Members
numbered n members = member (codes "line") (number (unsigned n)) members

-- both verdicts of `refute`, after what they say together. A text that spells no message is reported once
abbrev pub both_members : Dictionary → Dictionary → Refuted → Members
both_members a b verdict = member (codes "refutes") (boolean (refutes verdict))
    (member (codes "first") (object (checked_members a verdict.first)) (member (codes "second") (object (checked_members b verdict.second)) no_members))

abbrev pub refuted_members : Dictionary → Dictionary → Refuted → Members
refuted_members a b verdict = unless_refused too_long_members not_hexadecimal_members (both_members a b verdict) verdict.first

-- ---- their lines, and those of messages in the n-th line of a text

abbrev pub checked_json : Dictionary → Checked → List ℕ
checked_json d verdict = json_line (checked_members d verdict)

abbrev pub numbered_json : Dictionary → ℕ → Checked → List ℕ
numbered_json d n verdict = json_line (numbered n (checked_members d verdict))

abbrev pub placed_json : Dictionary → ℕ × Checked → List ℕ
placed_json d verdict = json_line (placed_members d verdict)

abbrev pub refuted_json : Dictionary → Dictionary → Refuted → List ℕ
refuted_json a b verdict = json_line (refuted_members a b verdict)

abbrev pub numbered_refuted_json : Dictionary → Dictionary → ℕ → Refuted → List ℕ
numbered_refuted_json a b n verdict = json_line (numbered n (refuted_members a b verdict))
