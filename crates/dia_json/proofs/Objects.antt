-- The texts of the objects of a message.
use Rattle.std.proofs.Common.{◌≡◌, ◌≢◌, ◌∙◌, ℕ, List, [], ◌∷◌, ◌++◌, Option, Some, None, Result, Ok, Err, append_assoc, ap, refl, sym, subst, true, codes, inl, inr, arith}
use Rattle.std.specs.Prelude.{slice_get, IfSome, OnOk, option_and_then}
use Rattle.std.specs.Fmt.{decimal}
use Rattle.std.specs.List.{concat}
use Rattle.std.proofs.lemmas.List.Concat.{flat_map-cons}
use Rattle.std.proofs.lemmas.Option.{slice_get_cases}
use Rattle.json.specs.Print.{quoted}
use Rattle.serde_json.specs.Data.{Data, Members, member, no_members}
use Rattle.serde_json.specs.Written.{compact_text, members_text}
use Rattle.serde_json.proofs.OnLiterals.{serde_json_on_literals}
use Rattle.dia_wire.specs.declared.Header.{Header}
use Rattle.dia_wire.specs.declared.Key.{Key}
use Rattle.dia_wire.specs.Wire.{PlainAvp, avp_length}
use Rattle.dia_data.specs.declared.Format.{Format}
use Rattle.dia_data.specs.declared.Format.TheVariants as format
use Rattle.dia_data.specs.Plain.{PlainFormat, plain_format}
use Rattle.dia_dict.specs.Dictionary.{Dictionary, DictEntry, entry_of}
use Rattle.dia_dict.specs.Keys.{same_key}
use Rattle.dia_dict.proofs.Lists.{position-within}
use Rattle.dia_check.specs.declared.Subject.TheVariants.{Avp}
use Rattle.dia_valid.specs.Valid.{known}
use Rattle.dia_io.specs.declared.Exit.{Exit}
use Rattle.dia_io.specs.declared.Exit.TheVariants as exits
use Rattle.dia_io.specs.declared.Inputs.{Inputs}
use Rattle.dia_report.specs.declared.refusing.Refused.{Refused}
use Rattle.dia_report.specs.declared.refusing.Refused.TheVariants.{Bad, NoMemory}
use Rattle.dia_report.specs.Refusals.{RecordsOf}
use Rattle.dia_run.specs.Listing.{IsPlainRow}
use Rattle.dia_run.specs.Outcome.{Ends, IsShowOutcome, IsWritten, ended}
use Rattle.dia_run.specs.Rows.{AreWritten, PlainKnown, Row, of_avp}
use Rattle.dia_run.specs.Texts.{IsDictionaryText, IsMessageText}
use Rattle.dia_run.specs.Walk.{Adds}
use Rattle.dia_run.proofs.OutcomeParts.{not_refused, refused_as}
use Rattle.dia_show.specs.Listing.{Manner, IsDateOf, IsWordOf}
use Rattle.dia_json.specs.Listing.{IsNamedLeaf, IsNamedText}
use Rattle.dia_json.specs.Messages.{IsFormatNamed, IsObject, IsObjectRow, IsRecorded, IsValue, RecordsMessage, bad_length_members, command_member, header_members, hex_value, lines_of, name_member}
use Rattle.dia_json.specs.Messages.{note_members, shown_members, text_member, value_member, vendor_value}
use Rattle.dia_json.specs.Values.{about, avp_members, subject_members}
use Rattle.dia_refused_json.specs.Members.{json_line, key_members, named_members}
use Rattle.dia_refused_json.specs.Recording.{RefusesAs}

-- ---- the last members of an AVP

pub unnamed_recorded : (value : Data) (written text : List ℕ) → written ≡ compact_text value → text ≡ codes ",\"value\":" ++ (written ++ codes "}")
    → text ≡ members_text true (value_member value)
unfolding serde_json_on_literals
unnamed_recorded value written text is_value is = is ∙ ap (λ (t : List ℕ). codes ",\"value\":" ++ (t ++ codes "}")) is_value

pub group_recorded : (name written text : List ℕ) → written ≡ quoted name → text ≡ codes ",\"name\":" ++ (written ++ codes "}")
    → text ≡ members_text true (name_member name no_members)
unfolding serde_json_on_literals
group_recorded name written text is_name is = is ∙ ap (λ (t : List ℕ). codes ",\"name\":" ++ (t ++ codes "}")) is_name

leaf_is : (name : List ℕ) (value : Data) (notes : Members)
    → members_text true (name_member name (member (codes "value") value notes))
    ≡ codes ",\"name\":" ++ (quoted name ++ (codes ",\"value\":" ++ (compact_text value ++ members_text true notes)))
unfolding serde_json_on_literals
leaf_is name value notes = refl

pub leaf_recorded : (m : Manner) (name : List ℕ) (f : PlainFormat) (bytes written shown rest text : List ℕ) (word date : Option (List ℕ)) → written ≡ quoted name
    → (value : Data) × IsValue f bytes value × (shown ≡ compact_text value) → IsWordOf m name f bytes word → IsDateOf m.names f bytes date
    → rest ≡ members_text true (note_members word date)
    → text ≡ codes ",\"name\":" ++ (written ++ (codes ",\"value\":" ++ (shown ++ rest))) → IsNamedLeaf m name f bytes text
leaf_recorded m name f bytes written shown rest text word date is_name (value, is_value, is_shown) is_word is_date is_rest is = (
  member (codes "value") value (note_members word date),
  record { value = value; word = word; date = date; is_value = is_value; is_word = is_word; is_date = is_date; parts = refl },
  is ∙ ap (λ (t : List ℕ). codes ",\"name\":" ++ (t ++ (codes ",\"value\":" ++ (shown ++ rest)))) is_name
      ∙ ap (λ (t : List ℕ). codes ",\"name\":" ++ (quoted name ++ (codes ",\"value\":" ++ (t ++ rest)))) is_shown
      ∙ ap (λ (t : List ℕ). codes ",\"name\":" ++ (quoted name ++ (codes ",\"value\":" ++ (compact_text value ++ t)))) is_rest
      ∙ sym (leaf_is name value (note_members word date)),
)

-- the date of an AVP, and its word in front of it
pub date_recorded : (date written text : List ℕ) → written ≡ quoted date → text ≡ codes ",\"time\":" ++ (written ++ codes "}")
    → text ≡ members_text true (text_member (codes "time") (Some date) no_members)
unfolding serde_json_on_literals
date_recorded date written text is_written is = is ∙ ap (λ (t : List ℕ). codes ",\"time\":" ++ (t ++ codes "}")) is_written

pub word_recorded : (word written last text : List ℕ) (more : Members) → written ≡ quoted word → last ≡ members_text true more
    → text ≡ codes ",\"word\":" ++ (written ++ last) → text ≡ members_text true (text_member (codes "word") (Some word) more)
unfolding serde_json_on_literals
word_recorded word written last text more is_written is_last is =
    is ∙ ap (λ (t : List ℕ). codes ",\"word\":" ++ (t ++ last)) is_written ∙ ap (λ (t : List ℕ). codes ",\"word\":" ++ (quoted word ++ t)) is_last

-- ---- objects

abbrev object_text : (place depth code : ℕ) → List ℕ → (flags len : ℕ) → List ℕ → List ℕ
object_text place depth code vendor flags len rest =
    codes "{\"at\":" ++ (decimal place ++ (codes ",\"depth\":" ++ (decimal depth ++ (codes ",\"code\":" ++ (decimal code ++ (codes ",\"vendor\":" ++ (vendor
    ++ (codes ",\"flags\":" ++ (decimal flags ++ (codes ",\"length\":" ++ (decimal len ++ rest)))))))))))

object_is : (place depth : ℕ) (v : PlainAvp) (named : Members) → json_line (shown_members place depth v named)
    ≡ object_text place depth v.code (compact_text (vendor_value v.vendor)) v.flags (avp_length v) (members_text true named) ++ codes "\n"
unfolding serde_json_on_literals
object_is place depth v named = refl

object_ends : (place depth code : ℕ) (vendor : List ℕ) (flags len : ℕ) (rest : List ℕ)
    → object_text place depth code vendor flags len (rest ++ codes "\n") ≡ object_text place depth code vendor flags len rest ++ codes "\n"
object_ends place depth code vendor flags len rest = simp append_assoc

object_joined : (place depth code : ℕ) (vendor : List ℕ) (flags len : ℕ) (rest old : List ℕ)
    → ((old ++ (codes "{\"at\":" ++ (decimal place ++ (codes ",\"depth\":" ++ (decimal depth ++ (codes ",\"code\":" ++ (decimal code ++ codes ",")))))))
    ++ (codes "\"vendor\":" ++ (vendor ++ (codes ",\"flags\":" ++ (decimal flags ++ codes ","))))) ++ (codes "\"length\":" ++ (decimal len ++ rest))
    ≡ old ++ object_text place depth code vendor flags len rest
object_joined place depth code vendor flags len rest old = simp append_assoc

pub object_recorded : (place depth : ℕ) (v : PlainAvp) (members : Members) (vendor named old one two new : List ℕ) (len : ℕ) → vendor ≡ compact_text (vendor_value v.vendor)
    → len ≡ avp_length v → named ≡ members_text true members
    → one ≡ old ++ (codes "{\"at\":" ++ (decimal place ++ (codes ",\"depth\":" ++ (decimal depth ++ (codes ",\"code\":" ++ (decimal v.code ++ codes ","))))))
    → two ≡ one ++ (codes "\"vendor\":" ++ (vendor ++ (codes ",\"flags\":" ++ (decimal v.flags ++ codes ","))))
    → new ≡ two ++ (codes "\"length\":" ++ (decimal len ++ (named ++ codes "\n")))
    → new ≡ old ++ json_line (shown_members place depth v members)
object_recorded place depth v members vendor named old one two new len is_vendor is_len is_named is_one is_two is_new =
    is_new ∙ ap (λ (t : List ℕ). t ++ (codes "\"length\":" ++ (decimal len ++ (named ++ codes "\n"))))
    (is_two ∙ ap (λ (t : List ℕ). t ++ (codes "\"vendor\":" ++ (vendor ++ (codes ",\"flags\":" ++ (decimal v.flags ++ codes ","))))) is_one)
    ∙ object_joined place depth v.code vendor v.flags len (named ++ codes "\n") old
    ∙ ap (λ (t : List ℕ). old ++ t)
    (ap (λ (t : List ℕ). object_text place depth v.code t v.flags len (named ++ codes "\n")) is_vendor
    ∙ ap (λ (n : ℕ). object_text place depth v.code (compact_text (vendor_value v.vendor)) v.flags n (named ++ codes "\n")) is_len
    ∙ ap (λ (t : List ℕ). object_text place depth v.code (compact_text (vendor_value v.vendor)) v.flags (avp_length v) (t ++ codes "\n")) is_named
    ∙ object_ends place depth v.code (compact_text (vendor_value v.vendor)) v.flags (avp_length v) (members_text true members)
    ∙ sym (object_is place depth v members))

abbrev bad_text : ℕ → List ℕ → List ℕ
bad_text place rest = codes "{\"verdict\":\"fault\",\"code\":" ++ (decimal 5014 ++ (codes ",\"at\":" ++ (decimal place ++ rest)))

bad_is : (place : ℕ) → json_line (bad_length_members place) ≡ bad_text place (codes ",\"reason\":\"avp-length\"}") ++ codes "\n"
unfolding serde_json_on_literals
bad_is place = refl

bad_ends : (place : ℕ) → bad_text place (codes ",\"reason\":\"avp-length\"}\n") ≡ bad_text place (codes ",\"reason\":\"avp-length\"}") ++ codes "\n"
bad_ends place = simp append_assoc

pub bad_recorded : (place : ℕ) (old new : List ℕ) → new ≡ old ++ bad_text place (codes ",\"reason\":\"avp-length\"}\n") → new ≡ old ++ json_line (bad_length_members place)
bad_recorded place old new is = is ∙ ap (λ (t : List ℕ). old ++ t) (bad_ends place ∙ sym (bad_is place))

-- ---- the row of an AVP

-- data that is no group's has its value
leaf_named : (m : Manner) (name : List ℕ) (f : Format) (bytes : List ℕ) (recorded : Members) → ¬ (f ≡ format.Grouped) → IsRecorded m name (plain_format f) bytes recorded
    → IsFormatNamed m name (plain_format f) bytes (name_member name recorded)
leaf_named m name format.Grouped bytes recorded no_group is = absurd (no_group refl)
leaf_named m name f bytes recorded no_group is = (recorded, is, refl)

pub named_unknown : (m : Manner) (bytes text : List ℕ) → text ≡ members_text true (value_member (hex_value bytes)) → IsNamedText m None bytes text
named_unknown m bytes text is = (value_member (hex_value bytes), refl, is)

pub named_group : (m : Manner) (name : List ℕ) (f : Format) (bytes text : List ℕ) → f ≡ format.Grouped → text ≡ members_text true (name_member name no_members)
    → IsNamedText m (Some (record { name = name; format = plain_format f })) bytes text
named_group m name f bytes text is_group is =
    (name_member name no_members, subst (λ (g : Format). IsFormatNamed m name (plain_format g) bytes (name_member name no_members)) (sym is_group) refl, is)

pub named_leaf : (m : Manner) (name : List ℕ) (f : Format) (bytes text : List ℕ) → ¬ (f ≡ format.Grouped) → IsNamedLeaf m name (plain_format f) bytes text
    → IsNamedText m (Some (record { name = name; format = plain_format f })) bytes text
named_leaf m name f bytes text no_group (recorded, is_recorded, is) = (name_member name recorded, leaf_named m name f bytes recorded no_group is_recorded, is)

pub avp_added : {X E : Type 0} (r : Result X E) (m : Manner) (place depth : ℕ) (v : PlainAvp) (known : Option PlainKnown) (text old new : List ℕ) → IsNamedText m known v.bytes text
    → OnOk r ((members : Members) → text ≡ members_text true members → new ≡ old ++ json_line (shown_members place depth v members))
    → OnOk r (Adds (IsObjectRow m (of_avp place depth v known)) old new)
avp_added (Ok x) m place depth v known text old new (named, is_named, is_text) added =
    (json_line (shown_members place depth v named), (shown_members place depth v named, (named, is_named, refl), refl), added named is_text)
avp_added (Err e) m place depth v known text old new named added = tt

-- a row of one object
pub object_added : {X E : Type 0} (r : Result X E) (m : Manner) (row : Row) (object : Members) (old new : List ℕ) → IsObject m row object → OnOk r (new ≡ old ++ json_line object)
    → OnOk r (Adds (IsObjectRow m row) old new)
object_added (Ok x) m row object old new is added = (json_line object, (object, is, refl), added)
object_added (Err e) m row object old new is added = tt

-- ---- headers

abbrev header_text : Header → ℕ → List ℕ → List ℕ
header_text h len rest =
    codes "{\"version\":" ++ (decimal 1 ++ (codes ",\"flags\":" ++ (decimal h.flags ++ (codes ",\"code\":" ++ (decimal h.code ++ (codes ",\"application\":" ++ (decimal h.app
    ++ (codes ",\"hop_by_hop\":" ++ (decimal h.hop ++ (codes ",\"end_to_end\":" ++ (decimal h.e2e ++ (codes ",\"length\":" ++ (decimal len ++ rest)))))))))))))

header_is : (h : Header) (len : ℕ) (name : Option (List ℕ)) → json_line (header_members h len name) ≡ header_text h len (members_text true (command_member name)) ++ codes "\n"
unfolding serde_json_on_literals
header_is h len name = refl

header_ends : (h : Header) (len : ℕ) (rest : List ℕ) → header_text h len (rest ++ codes "\n") ≡ header_text h len rest ++ codes "\n"
header_ends h len rest = simp append_assoc

header_joined : (h : Header) (len : ℕ) (rest old : List ℕ)
    → ((old ++ (codes "{\"version\":" ++ (decimal 1 ++ (codes ",\"flags\":" ++ (decimal h.flags ++ (codes ",\"code\":" ++ (decimal h.code ++ codes ",")))))))
    ++ (codes "\"application\":" ++ (decimal h.app ++ (codes ",\"hop_by_hop\":" ++ (decimal h.hop ++ (codes ",\"end_to_end\":" ++ (decimal h.e2e ++ codes ",")))))))
    ++ (codes "\"length\":" ++ (decimal len ++ rest)) ≡ old ++ header_text h len rest
header_joined h len rest old = simp append_assoc

pub header_recorded : (h : Header) (len : ℕ) (name : Option (List ℕ)) (command old one two new : List ℕ) → command ≡ members_text true (command_member name)
    → one ≡ old ++ (codes "{\"version\":" ++ (decimal 1 ++ (codes ",\"flags\":" ++ (decimal h.flags ++ (codes ",\"code\":" ++ (decimal h.code ++ codes ","))))))
    → two ≡ one ++ (codes "\"application\":" ++ (decimal h.app ++ (codes ",\"hop_by_hop\":" ++ (decimal h.hop ++ (codes ",\"end_to_end\":" ++ (decimal h.e2e ++ codes ","))))))
    → new ≡ two ++ (codes "\"length\":" ++ (decimal len ++ (command ++ codes "\n")))
    → new ≡ old ++ json_line (header_members h len name)
header_recorded h len name command old one two new is_command is_one is_two is_new =
    is_new ∙ ap (λ (t : List ℕ). t ++ (codes "\"length\":" ++ (decimal len ++ (command ++ codes "\n"))))
    (is_two ∙ ap (λ (t : List ℕ). t ++ (codes "\"application\":" ++ (decimal h.app ++ (codes ",\"hop_by_hop\":" ++ (decimal h.hop ++ (codes ",\"end_to_end\":"
    ++ (decimal h.e2e ++ codes ","))))))) is_one)
    ∙ header_joined h len (command ++ codes "\n") old
    ∙ ap (λ (t : List ℕ). old ++ t)
    (ap (λ (t : List ℕ). header_text h len (t ++ codes "\n")) is_command
    ∙ header_ends h len (members_text true (command_member name)) ∙ sym (header_is h len name))

pub command_recorded : (name written text : List ℕ) → written ≡ quoted name → text ≡ codes ",\"command\":" ++ (written ++ codes "}") → text ≡ members_text true (command_member (Some name))
unfolding serde_json_on_literals
command_recorded name written text is_name is = is ∙ ap (λ (t : List ℕ). codes ",\"command\":" ++ (t ++ codes "}")) is_name

-- ---- a whole message

objects_written : (m : Manner) (rows : List Row) (texts : List (List ℕ)) → AreWritten (IsObjectRow m) rows texts
    → (objects : List Members) × AreWritten (IsObject m) rows objects × (concat texts ≡ lines_of objects)
objects_written m [] [] all = ([], tt, refl)
objects_written m [] (t ∷ texts) all = absurd all
objects_written m (row ∷ rows) [] all = absurd all
objects_written m (row ∷ rows) (t ∷ texts) ((object, is_object, is_text), all) =
    let (objects, are, same) = objects_written m rows texts all in
    (object ∷ objects, (is_object, are), ap (λ (front : List ℕ). front ++ concat texts) is_text ∙ ap (λ (rest : List ℕ). json_line object ++ rest) same ∙ sym (flat_map-cons json_line object objects))

pub message_recorded : (m : Manner) (d : Dictionary) (bytes text : List ℕ) (exit : Exit) → IsWritten (IsObjectRow m) d bytes text exit → exit ≢ exits.Bad → RecordsMessage m d bytes text exit
message_recorded m d bytes text exit written whole =
    let (rows, texts, bad, are, are_written, is_text, is_exit) = not_refused (IsObjectRow m) d bytes text exit written whole in
    let (objects, are_objects, same) = objects_written m rows texts are_written in
    (objects, bad, (rows, are, are_objects), is_text ∙ same, is_exit)

-- a message that is refused, as `show` refuses it
pub message_refused : (m : Manner) (inputs : Inputs) (d : Dictionary) (bytes : List ℕ) (r : Refused) → IsDictionaryText inputs.first d → IsMessageText inputs.message bytes
    → Ends (IsWritten (IsObjectRow m) d bytes) (Err r) → RecordsOf (RefusesAs (IsShowOutcome inputs)) r
message_refused m inputs d bytes (Bad bad) is_d is_message written = ended d bytes is_d is_message (refused_as (IsObjectRow m) IsPlainRow d bytes _ written)
message_refused m inputs d bytes NoMemory is_d is_message written = tt

-- ---- what a fault is about

-- an AVP that the book knows by this name
pub known_about : (d : Dictionary) (key : Key) (i : ℕ) (name : List ℕ) → Some i ≡ entry_of d key → IfSome (slice_get d.entries i) (λ e. name ≡ e.name)
    → members_text true (about (named_members name key)) ≡ members_text true (subject_members d (Avp key))
known_about d key i name is_i is_name =
    elim (slice_get_cases d.entries i).1 [
      | inl (e, inside, is_e, here) ↦
          let same : name ≡ e.name = rw is_e at is_name in
          let is_known : known d key ≡ Some e = ap (λ (o : Option ℕ). option_and_then (slice_get d.entries) o) (sym is_i) ∙ is_e in
          ap (λ (n : List ℕ). members_text true (about (named_members n key))) same ∙ ap (λ (o : Option DictEntry). members_text true (about (avp_members key o))) (sym is_known)
      | inr (past, none) ↦ absurd (omega (arith, past, position-within (λ (e : DictEntry). same_key key e.key) d.entries i (sym is_i)))
    ]

pub unknown_about : (d : Dictionary) (key : Key) → None ≡ entry_of d key → members_text true (about (key_members key)) ≡ members_text true (subject_members d (Avp key))
unknown_about d key none =
    ap (λ (o : Option ℕ). members_text true (about (avp_members key (option_and_then (slice_get d.entries) o)))) none
