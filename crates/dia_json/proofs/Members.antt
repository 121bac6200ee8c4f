-- The texts of members.
use Rattle.std.proofs.Common.{◌≡◌, ◌∙◌, ℕ, List, [], ◌∷◌, ◌++◌, Bool, false, true, Result, Ok, Err, append_assoc, ap, refl, sym, codes}
use Rattle.std.specs.Fmt.{decimal}
use Rattle.std.specs.Prelude.{OnOk, if◌then◌else◌, is_ok}
use Rattle.json.specs.Print.{quoted}
use Rattle.serde_json.specs.Data.{Members, boolean, member, no_members, object}
use Rattle.serde_json.specs.Written.{members_text}
use Rattle.serde_json.proofs.OnLiterals.{serde_json_on_literals}
use Rattle.dia_wire.specs.declared.Key.{Key}
use Rattle.dia_dict.specs.Dictionary.{Dictionary}
use Rattle.dia_check.specs.declared.Fault.{Fault}
use Rattle.dia_check.specs.declared.Reason.{Reason}
use Rattle.dia_check.specs.declared.Reason.TheVariants as reason
use Rattle.dia_captures.specs.declared.verdicts.Checked.{Checked}
use Rattle.dia_captures.specs.declared.verdicts.Checked.TheVariants.{Valid, Wrong}
use Rattle.dia_captures.specs.declared.verdicts.Flaw.TheVariants as flaw
use Rattle.dia_captures.specs.declared.verdicts.Refuted.{Refuted}
use Rattle.dia_captures.specs.Verdicts.{refutes, unless_refused}
use Rattle.dia_check.specs.Reasons.{reason_word}
use Rattle.dia_json.specs.Values.{about, both_members, checked_members, fault_members, not_hexadecimal_members, numbered, placed_json, refuted_members}
use Rattle.dia_refused_json.specs.Members.{json_line, named_members}
use Rattle.dia_json.specs.Values.{subject_members, too_long_members}

-- what the last call of a function adds
pub last_pushed : {X E : Type 0} (r : Result X E) (new more same : List ℕ) → new ≡ (if is_ok r then more else same) → OnOk r (new ≡ more)
last_pushed (Ok x) new more same is = is
last_pushed (Err e) new more same is = tt

-- ---- an AVP, whose name is quoted so

abbrev named_text : List ℕ → Key → List ℕ → List ℕ
named_text q key rest =
    codes "{\"name\":" ++ (q ++ (codes ",\"code\":" ++ (decimal key.code ++ (codes ",\"vendor\":" ++ (decimal key.vendor ++ 125 ∷ rest)))))

named_ends : (q : List ℕ) (key : Key) (rest : List ℕ) → named_text q key rest ≡ named_text q key [] ++ rest
named_ends q key rest = simp append_assoc

named_is : (name : List ℕ) (key : Key) → members_text true (about (named_members name key)) ≡ codes ",\"avp\":" ++ (named_text (quoted name) key [] ++ 125 ∷ [])
unfolding serde_json_on_literals
named_is name key = refl

pub named_recorded : (old new written name : List ℕ) (key : Key) → written ≡ quoted name → new ≡ old ++ (codes ",\"avp\":" ++ named_text written key (125 ∷ []))
    → new ≡ old ++ members_text true (about (named_members name key))
named_recorded old new written name key is_quoted is_new =
    is_new ∙ ap (λ (q : List ℕ). old ++ (codes ",\"avp\":" ++ named_text q key (125 ∷ []))) is_quoted
    ∙ ap (λ (t : List ℕ). old ++ (codes ",\"avp\":" ++ t)) (named_ends (quoted name) key (125 ∷ [])) ∙ ap (λ (t : List ℕ). old ++ t) (sym (named_is name key))

-- ---- a fault

-- no byte of a reason's word is escaped
reason_is_plain : (r : Reason) → quoted (reason_word r) ≡ codes "\"" ++ reason_word r ++ codes "\""
unfolding serde_json_on_literals
reason_is_plain reason.Version = refl
reason_is_plain other = refl

-- up to the reason's word
abbrev fault_front : ℕ → ℕ → List ℕ → List ℕ
fault_front code place rest =
    codes "\"verdict\":\"fault\",\"code\":" ++ (decimal code ++ (codes ",\"at\":" ++ (decimal place ++ (codes ",\"reason\":" ++ rest))))

fault_joined : (code place : ℕ) (word rest : List ℕ)
    → fault_front code place (codes "\"" ++ (word ++ codes "\"")) ++ rest ≡ fault_front code place ((codes "\"" ++ word ++ codes "\"") ++ rest)
fault_joined code place word rest = simp append_assoc

fault_is : (d : Dictionary) (fault : Fault)
    → members_text false (fault_members d fault) ≡ fault_front fault.code fault.place (quoted (reason_word fault.reason) ++ members_text true (subject_members d fault.subject))
unfolding serde_json_on_literals
fault_is d fault = refl

pub fault_recorded : (d : Dictionary) (fault : Fault) (old front new word : List ℕ) → word ≡ reason_word fault.reason
    → front ≡ old ++ fault_front fault.code fault.place (codes "\"" ++ (word ++ codes "\"")) → new ≡ front ++ members_text true (subject_members d fault.subject)
    → new ≡ old ++ members_text false (fault_members d fault)
fault_recorded d fault old front new word is_word is_front is_new =
    let rest = members_text true (subject_members d fault.subject) in
    let own = reason_word fault.reason in
    is_new ∙ ap (λ (t : List ℕ). t ++ rest) (is_front ∙ ap (λ (w : List ℕ). old ++ fault_front fault.code fault.place (codes "\"" ++ (w ++ codes "\""))) is_word)
    ∙ append_assoc old (fault_front fault.code fault.place (codes "\"" ++ (own ++ codes "\""))) rest
    ∙ ap (λ (t : List ℕ). old ++ t)
    (fault_joined fault.code fault.place own rest ∙ ap (λ (q : List ℕ). fault_front fault.code fault.place (q ++ rest)) (sym (reason_is_plain fault.reason)) ∙ sym (fault_is d fault))

-- ---- lines

-- the line of members
pub line_recorded : (members : Members) (old begun inside new : List ℕ) → begun ≡ old ++ codes "{" → inside ≡ begun ++ members_text false members
    → new ≡ inside ++ codes "\n" → new ≡ old ++ json_line members
line_recorded members old begun inside new is_begun is_inside is_new =
    is_new ∙ ap (λ (t : List ℕ). t ++ codes "\n") (is_inside ∙ ap (λ (t : List ℕ). t ++ members_text false members) is_begun)
    ∙ simp append_assoc

-- members that stand behind another one
abbrev IsAfter : Members → Type 0
IsAfter members = members_text true members ≡ 44 ∷ members_text false members

pub checked_after : (d : Dictionary) (verdict : Checked) → IsAfter (checked_members d verdict)
checked_after d (Valid found) = refl
checked_after d (Wrong (flaw.Fault fault)) = refl
checked_after d (Wrong flaw.Truncated) = refl
checked_after d (Wrong flaw.Trailing) = refl
checked_after d (Wrong flaw.TooLong) = refl
checked_after d (Wrong flaw.NotHexadecimal) = refl

pub refuted_after : (a b : Dictionary) (verdict : Refuted) → IsAfter (refuted_members a b verdict)
refuted_after a b verdict = by verdict.first
  where
    by : (first : Checked) → IsAfter (unless_refused too_long_members not_hexadecimal_members (both_members a b verdict) first)
    by (Valid found) = refl
    by (Wrong (flaw.Fault fault)) = refl
    by (Wrong flaw.Truncated) = refl
    by (Wrong flaw.Trailing) = refl
    by (Wrong flaw.TooLong) = refl
    by (Wrong flaw.NotHexadecimal) = refl

-- behind the place of a message

abbrev place_text : ℕ → List ℕ → List ℕ
place_text at rest = codes "{\"place\":" ++ (decimal at ++ rest)

placed_is : (d : Dictionary) (at : ℕ) (verdict : Checked) → placed_json d (at, verdict) ≡ place_text at (members_text true (checked_members d verdict)) ++ codes "\n"
unfolding serde_json_on_literals
placed_is d at verdict = refl

placed_joined : (at : ℕ) (old members : List ℕ) → ((old ++ place_text at (codes ",")) ++ members) ++ codes "\n" ≡ old ++ (place_text at (44 ∷ members) ++ codes "\n")
placed_joined at old members = simp append_assoc

pub placed_recorded : (d : Dictionary) (at : ℕ) (verdict : Checked) (old begun members new : List ℕ) → begun ≡ old ++ place_text at (codes ",")
    → members ≡ begun ++ members_text false (checked_members d verdict) → new ≡ members ++ codes "\n" → new ≡ old ++ placed_json d (at, verdict)
placed_recorded d at verdict old begun members new is_begun is_members is_new =
    is_new ∙ ap (λ (t : List ℕ). t ++ codes "\n") (is_members ∙ ap (λ (t : List ℕ). t ++ members_text false (checked_members d verdict)) is_begun)
    ∙ placed_joined at old (members_text false (checked_members d verdict))
    ∙ ap (λ (t : List ℕ). old ++ (place_text at t ++ codes "\n")) (sym (checked_after d verdict)) ∙ ap (λ (t : List ℕ). old ++ t) (sym (placed_is d at verdict))

-- behind the number of a line

abbrev number_text : ℕ → List ℕ → List ℕ
number_text n rest = codes "{\"line\":" ++ (decimal n ++ rest)

numbered_is : (n : ℕ) (members : Members) → json_line (numbered n members) ≡ number_text n (members_text true members) ++ codes "\n"
unfolding serde_json_on_literals
numbered_is n members = refl

numbered_joined : (n : ℕ) (old inside : List ℕ) → ((old ++ number_text n (codes ",")) ++ inside) ++ codes "\n" ≡ old ++ (number_text n (44 ∷ inside) ++ codes "\n")
numbered_joined n old inside = simp append_assoc

pub numbered_recorded : (n : ℕ) (members : Members) (old begun inside new : List ℕ) → IsAfter members → begun ≡ old ++ number_text n (codes ",")
    → inside ≡ begun ++ members_text false members → new ≡ inside ++ codes "\n" → new ≡ old ++ json_line (numbered n members)
numbered_recorded n members old begun inside new following is_begun is_inside is_new =
    is_new ∙ ap (λ (t : List ℕ). t ++ codes "\n") (is_inside ∙ ap (λ (t : List ℕ). t ++ members_text false members) is_begun)
    ∙ numbered_joined n old (members_text false members)
    ∙ ap (λ (t : List ℕ). old ++ (number_text n t ++ codes "\n")) (sym following) ∙ ap (λ (t : List ℕ). old ++ t) (sym (numbered_is n members))

-- what isn't hexadecimal, which has no names
no_digits_joined : (at : ℕ) → codes "{\"place\":" ++ (decimal at ++ codes ",\"error\":\"message\",\"kind\":\"not hexadecimal\"}\n")
    ≡ place_text at (members_text true not_hexadecimal_members) ++ codes "\n"
unfolding serde_json_on_literals
no_digits_joined at = simp append_assoc

pub no_digits_recorded : (d : Dictionary) (at : ℕ) (old new : List ℕ)
    → new ≡ old ++ (codes "{\"place\":" ++ (decimal at ++ codes ",\"error\":\"message\",\"kind\":\"not hexadecimal\"}\n"))
    → new ≡ old ++ placed_json d (at, Wrong flaw.NotHexadecimal)
no_digits_recorded d at old new is_new =
    is_new ∙ ap (λ (t : List ℕ). old ++ t) (no_digits_joined at ∙ sym (placed_is d at (Wrong flaw.NotHexadecimal)))

-- ---- both verdicts

abbrev bool_text : Bool → List ℕ
bool_text b = if b then codes "true" else codes "false"

abbrev both_text : Bool → List ℕ → List ℕ → List ℕ
both_text b one two = codes "\"refutes\":" ++ (bool_text b ++ (codes ",\"first\":{" ++ (one ++ (codes ",\"second\":{" ++ (two ++ codes "}")))))

abbrev both_as : Bool → Members → Members → Members
both_as t one two = member (codes "refutes") (boolean t) (member (codes "first") (object one) (member (codes "second") (object two) no_members))

both_is : (t : Bool) (one two : Members) → members_text false (both_as t one two) ≡ both_text t (members_text false one) (members_text false two)
unfolding serde_json_on_literals
both_is true one two = refl
both_is false one two = refl

both_joined : (t : Bool) (old one two : List ℕ)
    → (((old ++ (codes "\"refutes\":" ++ (bool_text t ++ codes ",\"first\":{"))) ++ one) ++ codes ",\"second\":{" ++ two) ++ codes "}" ≡ old ++ both_text t one two
both_joined t old one two = simp append_assoc

pub both_recorded : (a b : Dictionary) (verdict : Refuted) (t : Bool) (old begun first second last new : List ℕ) → t ≡ refutes verdict
    → begun ≡ old ++ (codes "\"refutes\":" ++ (bool_text t ++ codes ",\"first\":{")) → first ≡ begun ++ members_text false (checked_members a verdict.first)
    → second ≡ first ++ codes ",\"second\":{" → last ≡ second ++ members_text false (checked_members b verdict.second) → new ≡ last ++ codes "}"
    → new ≡ old ++ members_text false (both_members a b verdict)
both_recorded a b verdict t old begun first second last new is_t is_begun is_first is_second is_last is_new =
    let one = members_text false (checked_members a verdict.first) in
    let two = members_text false (checked_members b verdict.second) in
    is_new ∙ ap (λ (s : List ℕ). s ++ codes "}") (is_last ∙ ap (λ (s : List ℕ). s ++ two) (is_second ∙ ap (λ (s : List ℕ). s ++ codes ",\"second\":{") (is_first ∙ ap (λ (s : List ℕ). s ++ one) is_begun)))
    ∙ both_joined t old one two
    ∙ ap (λ (s : List ℕ). old ++ s)
    (sym (both_is t (checked_members a verdict.first) (checked_members b verdict.second))
    ∙ ap (λ (r : Bool). members_text false (both_as r (checked_members a verdict.first) (checked_members b verdict.second))) is_t)
