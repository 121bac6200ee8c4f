-- What a dictionary knows of an AVP, from what a book's look-ups answer.
use Rattle.std.proofs.Common.{◌≡◌, ℕ, List, ◌++◌, Option, Some, None, Result, Ok, Err, if◌then◌else◌, codes, refl, sym, ap, subst, ◌∙◌, append_assoc, arith, inl, inr}
use Rattle.std.specs.Prelude.{slice_get, IfSome, OnOk, is_ok, option_and_then}
use Rattle.std.proofs.lemmas.Option.{slice_get_cases}
use Rattle.std.specs.Fmt.{decimal}
use Rattle.dia_wire.specs.declared.Key.{Key}
use Rattle.dia_wire.specs.Wire.{PlainAvp}
use Rattle.dia_data.specs.declared.Format.{Format}
use Rattle.dia_data.specs.declared.Format.TheVariants as format
use Rattle.dia_data.specs.Plain.{PlainFormat, AnyBytes, plain_format, OctetString}
use Rattle.dia_data.specs.Shown.{AddsValueText, IsValueText}
use Rattle.dia_dict.specs.Dictionary.{Dictionary, DictEntry, entry_of}
use Rattle.dia_dict.specs.Keys.{same_key}
use Rattle.dia_check.specs.declared.Fault.{Fault}
use Rattle.dia_check.specs.Reasons.{reason_word}
use Rattle.dia_check.specs.declared.Subject.{Subject}
use Rattle.dia_check.specs.declared.Subject.TheVariants.{Avp}
use Rattle.dia_dict.proofs.Lists.{position-within}
use Rattle.dia_run.specs.Texts.{line}
use Rattle.dia_run.specs.Verdict.{known_name, subject_text, fault_line}
use Rattle.dia_valid.specs.Valid.{known}
use Rattle.dia_run.specs.Listing.{IsDataText, IsFormatText, IsPlainRow, avp_columns, avp_line, name_text, AddsNameAndValue}
use Rattle.dia_run.specs.Rows.{PlainKnown, of_avp}
use Rattle.dia_run.specs.Walk.{Adds}

-- ---- the line of an AVP

-- data that is no group's is written as its format says
pub leaf_text : (f : Format) (bytes value : List ℕ) → ¬ (f ≡ format.Grouped) → IsValueText (plain_format f) bytes value → IsFormatText (plain_format f) bytes value
leaf_text format.Grouped bytes value h shown = absurd (h refl)
leaf_text f bytes value h shown = shown

-- a line is its columns, and then the name and the value
joined : (old columns name value : List ℕ) → (old ++ columns) ++ line (name ++ codes " " ++ value) ≡ old ++ line (columns ++ name ++ codes " " ++ value)
joined old columns name value = simp append_assoc

of_group_joined : (old columns name : List ℕ) → ((old ++ columns) ++ name) ++ codes " group\n" ≡ old ++ line (columns ++ name ++ codes " " ++ codes "group")
of_group_joined old columns name = simp append_assoc

pub line_joined : (old columns front name value new : List ℕ) → front ≡ old ++ columns → new ≡ front ++ line (name ++ codes " " ++ value)
    → new ≡ old ++ line (columns ++ name ++ codes " " ++ value)
line_joined old columns front name value new is_front is_new = is_new ∙ ap (λ (f : List ℕ). f ++ line (name ++ codes " " ++ value)) is_front ∙ joined old columns name value

pub group_joined : (old columns front name named new : List ℕ) → front ≡ old ++ columns → named ≡ front ++ name → new ≡ named ++ codes " group\n"
    → new ≡ old ++ line (columns ++ name ++ codes " " ++ codes "group")
group_joined old columns front name named new is_front is_named is_new =
    is_new ∙ ap (λ (t : List ℕ). t ++ codes " group\n") (is_named ∙ ap (λ (t : List ℕ). t ++ name) is_front) ∙ of_group_joined old columns name

module _ (place depth : ℕ) (v : PlainAvp) (old front new : List ℕ) (is_front : front ≡ old ++ avp_columns place depth v) where
  -- the line with the name and the value that were added
  line_added : (known : Option PlainKnown) (value : List ℕ) → IsDataText known v.bytes value → new ≡ front ++ line (name_text known ++ codes " " ++ value)
      → Adds (IsPlainRow (of_avp place depth v known)) old new
  line_added known value is_value is_new = (
    avp_line place depth v (name_text known) value,
    (value, is_value, refl),
    line_joined old (avp_columns place depth v) front (name_text known) value new is_front is_new,
  )

  pub unknown_added : {X E : Type 0} (r : Result X E) → OnOk r (AddsNameAndValue (codes "?") (AnyBytes OctetString) v.bytes front new)
      → OnOk r (Adds (IsPlainRow (of_avp place depth v None)) old new)
  unknown_added (Ok x) (value, shown, is_new) = line_added None value (shown.accepted tt) is_new
  unknown_added (Err e) added = tt

  pub leaf_added : {X E : Type 0} (r : Result X E) (name : List ℕ) (f : Format) → ¬ (f ≡ format.Grouped) → OnOk r (AddsNameAndValue name (plain_format f) v.bytes front new)
      → OnOk r (Adds (IsPlainRow (of_avp place depth v (Some (record { name = name; format = plain_format f })))) old new)
  leaf_added (Ok x) name f no_group (value, shown, is_new) =
      line_added (Some (record { name = name; format = plain_format f })) value (leaf_text f v.bytes value no_group shown) is_new
  leaf_added (Err e) name f no_group added = tt

  pub group_added : {X E : Type 0} (r : Result X E) (name named : List ℕ) (f : Format) → f ≡ format.Grouped → named ≡ front ++ name
      → new ≡ (if is_ok r then named ++ codes " group\n" else named)
      → OnOk r (Adds (IsPlainRow (of_avp place depth v (Some (record { name = name; format = plain_format f })))) old new)
  group_added (Ok x) name named f is_group is_named is_new = (
    avp_line place depth v name (codes "group"),
    (codes "group", subst (λ (g : Format). IsFormatText (plain_format g) v.bytes (codes "group")) (sym is_group) refl, refl),
    group_joined old (avp_columns place depth v) front name named new is_front is_named is_new,
  )
  group_added (Err e) name named f is_group is_named is_new = tt

-- a row that is one text
pub adds_on_ok : {X E : Type 0} (r : Result X E) (P : List ℕ → Type 0) (old new text : List ℕ) → P text → OnOk r (new ≡ old ++ text) → OnOk r (Adds P old new)
adds_on_ok (Ok x) P old new text h is = (text, h, is)
adds_on_ok (Err e) P old new text h is = tt

value_joined : (old name blank value end : List ℕ) → (((old ++ name) ++ blank) ++ value) ++ end ≡ old ++ ((name ++ blank ++ value) ++ end)
value_joined old name blank value end = simp append_assoc

-- the name and the value, which end a line
pub value_after : {X E : Type 0} (name : List ℕ) (format : PlainFormat) (bytes old one two three new : List ℕ) (r : Result X E) → one ≡ old ++ name → two ≡ one ++ codes " "
    → AddsValueText format bytes two three → new ≡ (if is_ok r then three ++ codes "\n" else three) → OnOk r (AddsNameAndValue name format bytes old new)
value_after name format bytes old one two three new (Ok x) is_one is_two (value, shown, is_three) is_new = (
  value,
  shown,
  is_new ∙ ap (λ (t : List ℕ). t ++ codes "\n") (is_three ∙ ap (λ (t : List ℕ). t ++ value) (is_two ∙ ap (λ (t : List ℕ). t ++ codes " ") is_one)) ∙ value_joined old name (codes " ") value (codes "\n"),
)
value_after name format bytes old one two three new (Err e) is_one is_two added is_new = tt

-- the name of an AVP that the book knows is what is told of it
subject_name : (d : Dictionary) (key : Key) (subject : Subject) (i : ℕ) (name : List ℕ) → subject ≡ Avp key → Some i ≡ entry_of d key → IfSome (slice_get d.entries i) (λ e. name ≡ e.name)
    → name ≡ subject_text d subject
subject_name d key subject i name is_subject is_i is_name =
    elim (slice_get_cases d.entries i).1 [
      | inl (e, inside, is_e, here) ↦
          let same : name ≡ e.name = rw is_e at is_name in
          let is_known : known d key ≡ Some e = ap (λ (o : Option ℕ). option_and_then (slice_get d.entries) o) (sym is_i) ∙ is_e in
          same ∙ sym (ap (subject_text d) is_subject ∙ ap (known_name key) is_known)
      | inr (past, none) ↦ absurd (omega (arith, past, position-within (λ (e : DictEntry). same_key key e.key) d.entries i (sym is_i)))
    ]

pub subject_known : {X E : Type 0} (d : Dictionary) (key : Key) (subject : Subject) (i : ℕ) (name old new : List ℕ) (r : Result X E) → subject ≡ Avp key → Some i ≡ entry_of d key
    → IfSome (slice_get d.entries i) (λ e. name ≡ e.name) → new ≡ (if is_ok r then old ++ name else old) → OnOk r (new ≡ old ++ subject_text d subject)
subject_known d key subject i name old new (Ok x) is_subject is_i is_name is_new = is_new ∙ ap (λ (t : List ℕ). old ++ t) (subject_name d key subject i name is_subject is_i is_name)
subject_known d key subject i name old new (Err e) is_subject is_i is_name is_new = tt

pub subject_unknown : {X E : Type 0} (d : Dictionary) (key : Key) (subject : Subject) (old new : List ℕ) (r : Result X E) → subject ≡ Avp key → None ≡ entry_of d key
    → OnOk r (new ≡ old ++ (decimal key.code ++ (codes ":" ++ decimal key.vendor))) → OnOk r (new ≡ old ++ subject_text d subject)
subject_unknown d key subject old new (Ok x) is_subject none is_new =
    let is_known : known d key ≡ None = ap (λ (o : Option ℕ). option_and_then (slice_get d.entries) o) (sym none) in
    is_new ∙ ap (λ (t : List ℕ). old ++ t) (sym (append_assoc (decimal key.code) (codes ":") (decimal key.vendor)) ∙ sym (ap (subject_text d) is_subject ∙ ap (known_name key) is_known))
subject_unknown d key subject old new (Err e) is_subject none is_new = tt

eight : (a b c d e f g h i : List ℕ) → ((a ++ (b ++ (c ++ (d ++ (e ++ (f ++ g)))))) ++ h) ++ i ≡ (a ++ b ++ c ++ d ++ e ++ f ++ g ++ h) ++ i
eight a b c d e f g h i =
    ap (λ (t : List ℕ). t ++ h ++ i) (sym (append_assoc (a ++ b ++ c ++ d ++ e) f g ∙ append_assoc (a ++ b ++ c ++ d) e (f ++ g) ∙ append_assoc (a ++ b ++ c) d (e ++ (f ++ g))
    ∙ append_assoc (a ++ b) c (d ++ (e ++ (f ++ g))) ∙ append_assoc a b (c ++ (d ++ (e ++ (f ++ g))))))

-- the line of a fault, as it is made
pub fault_recorded : (d : Dictionary) (fault : Fault) (reason one two new : List ℕ)
    → one ≡ codes "fault " ++ (decimal fault.code ++ (codes " at " ++ (decimal fault.place ++ (codes " " ++ (reason ++ codes " ")))))
    → reason ≡ reason_word fault.reason → two ≡ one ++ subject_text d fault.subject → new ≡ two ++ codes "\n" → new ≡ fault_line d fault
fault_recorded d fault reason one two new is_one is_reason is_two is_new =
    is_new ∙ ap (λ (t : List ℕ). t ++ codes "\n") (is_two ∙ ap (λ (t : List ℕ). t ++ subject_text d fault.subject) (is_one
    ∙ ap (λ (r : List ℕ). codes "fault " ++ (decimal fault.code ++ (codes " at " ++ (decimal fault.place ++ (codes " " ++ (r ++ codes " ")))))) is_reason))
    ∙ eight (codes "fault ") (decimal fault.code) (codes " at ") (decimal fault.place) (codes " ") (reason_word fault.reason) (codes " ") (subject_text d fault.subject) (codes "\n")
