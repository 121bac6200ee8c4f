-- The texts of objects and arrays.
use Rattle.std.proofs.Common.{◌≡◌, ◌∙◌, ℕ, Bool, true, false, nat_eq, List, [], ◌∷◌, ◌++◌, append_assoc, ap, ap₂, refl, sym, codes}
use Rattle.std.specs.Prelude.{if◌then◌else◌, IfSome, Option, Some, None}
use Rattle.std.specs.Fmt.{decimal}
use Rattle.std.specs.List.{after_first, flat_map}
use Rattle.json.specs.Print.{quoted}
use Rattle.serde_json.specs.Data.{Data, Members, array, boolean, member, no_members, object, string}
use Rattle.serde_json.specs.Written.{compact_text, items_text, members_text}
use Rattle.serde_json.proofs.OnLiterals.{serde_json_on_literals}
use Rattle.dia_terms.specs.MRules.{rule_word}
use Rattle.dia_wire.specs.declared.Key.{Key}
use Rattle.dia_terms.specs.declared.FormatName.{FormatName}
use Rattle.dia_terms.specs.declared.FormatName.TheVariants as name
use Rattle.dia_terms.specs.Formats.{format_word}
use Rattle.dia_data.specs.Plain.{PlainFormat, Enumerated, name_of, word_of}
use Rattle.dia_book.specs.declared.MRule.{MRule}
use Rattle.dia_book.specs.declared.MRule.TheVariants.{Must}
use Rattle.dia_book.specs.declared.DefHead.{DefHead}
use Rattle.dia_book.specs.declared.DRule.{DRule}
use Rattle.dia_book.specs.Dictionary.{Dictionary, DictEntry, PlainDefinition, is_fixed}
use Rattle.dia_compat.specs.declared.Failing.{Failing}
use Rattle.dia_compat.specs.declared.Failing.TheVariants as failing
use Rattle.dia_compat.specs.declared.PairKind.{PairKind}
use Rattle.dia_compat.specs.declared.PairKind.TheVariants as kind
use Rattle.dia_compat.specs.declared.Test.{Test}
use Rattle.dia_compat.specs.declared.Test.TheVariants as tests
use Rattle.dia_compat.specs.PairTests.{NamePair}
use Rattle.dia_compat.specs.PairTests.{p_of}
use Rattle.dia_run.specs.Pairs.{test_word}
use Rattle.dia_refused_json.specs.Members.{json_line, named_members}
use Rattle.dia_compared_json.specs.Failures.{failure_members, kind_word}
use Rattle.dia_compared_json.specs.Parts.{why_word}
use Rattle.dia_compared_json.specs.Objects.{app_of, code_of, command_members, declared_members, element, head_members, is_of_requests, items_of}
use Rattle.dia_compared_json.specs.Objects.{number_or_null, p_value, rule_members, slot_name, taken_members, values_members, values_value}

abbrev Text : Type 0
Text = List ℕ

-- a word in quotes, none of whose bytes has an escape
abbrev plain : Text → Text
plain word = codes "\"" ++ (word ++ codes "\"")

-- ---- arrays

abbrev after_comma : Text → Text
after_comma text = after_first (λ c. nat_eq c 44) text

items_end : (values : List Data) → items_text true (items_of values) ≡ flat_map element values ++ codes "]"
items_end [] = refl
items_end (v ∷ vs) = ap (λ (t : Text). codes "," ++ (compact_text v ++ t)) (items_end vs) ∙ regroup (compact_text v) (flat_map element vs) (codes "]")
  where
    regroup : (n t e : Text) → codes "," ++ (n ++ (t ++ e)) ≡ ((codes "," ++ n) ++ t) ++ e
    regroup n t e = simp append_assoc

pub array_is : (written text : Text) (values : List Data) → written ≡ flat_map element values → text ≡ codes "[" ++ (after_comma written ++ codes "]") → text ≡ compact_text (array (items_of values))
array_is written text values are is = is ∙ ap (λ (t : Text). codes "[" ++ (after_comma t ++ codes "]")) are ∙ by values
  where
    by : (values : List Data) → codes "[" ++ (after_comma (flat_map element values) ++ codes "]") ≡ compact_text (array (items_of values))
    by [] = refl
    by (v ∷ vs) = sym (ap (λ (t : Text). codes "[" ++ (compact_text v ++ t)) (items_end vs) ∙ regroup (compact_text v) (flat_map element vs) (codes "]"))
      where
        regroup : (n t e : Text) → codes "[" ++ (n ++ (t ++ e)) ≡ codes "[" ++ ((n ++ t) ++ e)
        regroup n t e = simp append_assoc

-- ---- rules

abbrev bool_text : Bool → Text
bool_text b = if b then codes "true" else codes "false"

abbrev rule_text : ℕ → (name fixed : Text) → ℕ → (max : Text) → Text
rule_text n name fixed min max = codes "{\"number\":" ++ (decimal n ++ (codes ",\"avp\":" ++ (name ++ (codes ",\"fixed\":" ++ (fixed
    ++ (codes ",\"min\":" ++ (decimal min ++ (codes ",\"max\":" ++ (max ++ codes "}")))))))))

rule_is : (d : Dictionary) (n : ℕ) (r : DRule)
    → compact_text (object (rule_members d n r)) ≡ rule_text n (quoted (slot_name d r.key)) (compact_text (boolean (is_fixed r))) r.min (compact_text (number_or_null r.max))
unfolding serde_json_on_literals
rule_is d n r = refl

bool_is : (b : Bool) → bool_text b ≡ compact_text (boolean b)
bool_is true = refl
bool_is false = refl

pub rule_recorded : (d : Dictionary) (n : ℕ) (r : DRule) (b : Bool) (slot name max text : Text) → b ≡ is_fixed r → slot ≡ slot_name d r.key → name ≡ quoted slot
    → max ≡ compact_text (number_or_null r.max) → text ≡ rule_text n name (bool_text b) r.min max → text ≡ compact_text (object (rule_members d n r))
rule_recorded d n r b slot name max text is_b is_slot is_name is_max is =
    is ∙ ap₂ (λ (x y : Text). rule_text n x (bool_text b) r.min y) (is_name ∙ ap quoted is_slot) is_max
    ∙ ap (λ (x : Text). rule_text n (quoted (slot_name d r.key)) x r.min (compact_text (number_or_null r.max))) (bool_is b ∙ ap (λ (x : Bool). compact_text (boolean x)) is_b) ∙ sym (rule_is d n r)

-- ---- declarations

abbrev named_text : Text → Key → Text → Text
named_text name key rest = codes "{\"name\":" ++ (name ++ (codes ",\"code\":" ++ (decimal key.code ++ (codes ",\"vendor\":" ++ (decimal key.vendor ++ rest)))))

named_is : (name : Text) (key : Key) → compact_text (object (named_members name key)) ≡ named_text (quoted name) key (codes "}")
unfolding serde_json_on_literals
named_is name key = refl

pub named_recorded : (name : Text) (key : Key) (written text : Text) → written ≡ quoted name → text ≡ named_text written key (codes "}") → text ≡ compact_text (object (named_members name key))
named_recorded name key written text is_name is = is ∙ ap (λ (x : Text). named_text x key (codes "}")) is_name ∙ sym (named_is name key)

declared_is : (e : DictEntry) → compact_text (object (declared_members e)) ≡ named_text (quoted e.name) e.key (members_text true (taken_members e.format e.rule))
unfolding serde_json_on_literals
declared_is e = refl

pub declared_recorded : (found : Option DictEntry) (name : Text) (key : Key) (format : PlainFormat) (rule : MRule) (written taken text : Text)
    → IfSome found (λ e. name ≡ e.name) → IfSome found (λ e. key ≡ e.key) → IfSome found (λ e. format ≡ e.format) → IfSome found (λ e. rule ≡ e.rule)
    → written ≡ quoted name → taken ≡ members_text true (taken_members format rule) → text ≡ named_text written key taken
    → IfSome found (λ e. text ≡ compact_text (object (declared_members e)))
declared_recorded None name key format rule written taken text is_name is_key is_format is_rule is_written is_taken is = tt
declared_recorded (Some e) name key format rule written taken text is_name is_key is_format is_rule is_written is_taken is =
    is ∙ ap₂ (λ (x y : Text). named_text x key y) (is_written ∙ ap quoted is_name)
    (is_taken ∙ ap₂ (λ (f : PlainFormat) (m : MRule). members_text true (taken_members f m)) is_format is_rule)
    ∙ ap (λ (k : Key). named_text (quoted e.name) k (members_text true (taken_members e.format e.rule))) is_key ∙ sym (declared_is e)

abbrev taken_text : (word m values : Text) → Text
taken_text word m values = codes ",\"format\":" ++ (word ++ (codes ",\"m\":" ++ (m ++ values)))

taken_is : (format : PlainFormat) (m : MRule)
    → members_text true (taken_members format m) ≡ taken_text (quoted (word_of format)) (quoted (rule_word m)) (members_text true (values_members format))
unfolding serde_json_on_literals
taken_is format m = refl

-- no byte of these words is escaped
format_is_plain : (f : FormatName) → plain (format_word f) ≡ quoted (format_word f)
unfolding serde_json_on_literals
format_is_plain name.OctetString = refl
format_is_plain f = refl

m_is_plain : (m : MRule) → plain (rule_word m) ≡ quoted (rule_word m)
unfolding serde_json_on_literals
m_is_plain Must = refl
m_is_plain m = refl

abbrev written_taken : (word m values : Text) → Text
written_taken word m values = codes ",\"format\":\"" ++ (word ++ (codes "\",\"m\":\"" ++ (m ++ (codes "\"" ++ values))))

taken_joined : (word m values : Text) → written_taken word m values ≡ taken_text (plain word) (plain m) values
taken_joined word m values = simp append_assoc

pub taken_recorded : (format : PlainFormat) (rule : MRule) (word m values text : Text) → word ≡ word_of format → m ≡ rule_word rule
    → values ≡ members_text true (values_members format) → text ≡ written_taken word m values → text ≡ members_text true (taken_members format rule)
taken_recorded format rule word m values text is_word is_m is_values is =
    is ∙ taken_joined word m values ∙ ap₂ (λ (x y : Text). taken_text (plain x) (plain y) values) is_word is_m
    ∙ ap₂ (λ (x y : Text). taken_text x y values) (format_is_plain (name_of format)) (m_is_plain rule)
    ∙ ap (λ (x : Text). taken_text (quoted (word_of format)) (quoted (rule_word rule)) x) is_values ∙ sym (taken_is format rule)

-- ---- commands

abbrev head_text : (code request app p : Text) → Text
head_text code request app p = codes ",\"code\":" ++ (code ++ (codes ",\"request\":" ++ (request ++ (codes ",\"application\":" ++ (app ++ (codes ",\"p\":" ++ (p ++ codes "}")))))))

head_is : (h : DefHead) → members_text true (head_members h)
    ≡ head_text (compact_text (number_or_null (code_of h))) (compact_text (boolean (is_of_requests h))) (compact_text (number_or_null (app_of h))) (compact_text (p_value (p_of h)))
unfolding serde_json_on_literals
head_is h = refl

pub head_recorded : (h : DefHead) (b : Bool) (code app p text : Text) → b ≡ is_of_requests h → code ≡ compact_text (number_or_null (code_of h)) → app ≡ compact_text (number_or_null (app_of h))
    → p ≡ compact_text (p_value (p_of h)) → text ≡ head_text code (bool_text b) app p → text ≡ members_text true (head_members h)
head_recorded h b code app p text is_b is_code is_app is_p is =
    is ∙ ap₂ (λ (x y : Text). head_text x (bool_text b) y p) is_code is_app
    ∙ ap₂ (λ (x y : Text). head_text (compact_text (number_or_null (code_of h))) x (compact_text (number_or_null (app_of h))) y)
    (bool_is b ∙ ap (λ (x : Bool). compact_text (boolean x)) is_b) is_p ∙ sym (head_is h)

command_is : (c : PlainDefinition) → compact_text (object (command_members c)) ≡ codes "{\"command\":" ++ (quoted c.name ++ members_text true (head_members c.head))
unfolding serde_json_on_literals
command_is c = refl

pub command_recorded : (c : PlainDefinition) (name selects text : Text) → name ≡ quoted c.name → selects ≡ members_text true (head_members c.head)
    → text ≡ codes "{\"command\":" ++ (name ++ selects) → text ≡ compact_text (object (command_members c))
command_recorded c name selects text is_name is_selects is = is ∙ ap₂ (λ (x y : Text). codes "{\"command\":" ++ (x ++ y)) is_name is_selects ∙ sym (command_is c)

-- ---- lists of values

values_is : (ranges : Option (List (ℕ × ℕ))) → members_text true (values_members (Enumerated ranges)) ≡ codes ",\"values\":" ++ (compact_text (values_value ranges) ++ codes "}")
unfolding serde_json_on_literals
values_is ranges = refl

pub values_recorded : (ranges : Option (List (ℕ × ℕ))) (listed text : Text) → listed ≡ compact_text (values_value ranges) → text ≡ codes ",\"values\":" ++ (listed ++ codes "}")
    → text ≡ members_text true (values_members (Enumerated ranges))
values_recorded ranges listed text is_listed is = is ∙ ap (λ (t : Text). codes ",\"values\":" ++ (t ++ codes "}")) is_listed ∙ sym (values_is ranges)

-- ---- failings

abbrev failing_text : (why sent accepted more : Text) → Text
failing_text why sent accepted more = codes "{\"why\":" ++ (why ++ (codes ",\"sent\":" ++ (sent ++ (codes ",\"accepted\":" ++ (accepted ++ more)))))

failing_is : (f : Failing) (sent accepted : Data) (more : Members)
    → compact_text (object (member (codes "why") (string (why_word f)) (member (codes "sent") sent (member (codes "accepted") accepted more))))
    ≡ failing_text (quoted (why_word f)) (compact_text sent) (compact_text accepted) (members_text true more)
unfolding serde_json_on_literals
failing_is f sent accepted more = refl

-- no byte of these words is escaped
why_is_plain : (f : Failing) → plain (why_word f) ≡ quoted (why_word f)
unfolding serde_json_on_literals
why_is_plain (failing.Fixed first second) = refl
why_is_plain f = refl

abbrev written_failing : (why sent accepted more : Text) → Text
written_failing why sent accepted more = codes "{\"why\":\"" ++ (why ++ (codes "\",\"sent\":" ++ (sent ++ (codes ",\"accepted\":" ++ (accepted ++ more)))))

failing_joined : (why sent accepted more : Text) → written_failing why sent accepted more ≡ failing_text (plain why) sent accepted more
failing_joined why sent accepted more = simp append_assoc

pub failing_recorded : (f : Failing) (sent accepted : Data) (more : Members) (why recorded_sent recorded_accepted recorded_more text : Text) → why ≡ why_word f
    → recorded_sent ≡ compact_text sent → recorded_accepted ≡ compact_text accepted → recorded_more ≡ members_text true more → text ≡ written_failing why recorded_sent recorded_accepted recorded_more
    → text ≡ compact_text (object (member (codes "why") (string (why_word f)) (member (codes "sent") sent (member (codes "accepted") accepted more))))
failing_recorded f sent accepted more why recorded_sent recorded_accepted recorded_more text is_why is_sent is_accepted is_more is =
    is ∙ failing_joined why recorded_sent recorded_accepted recorded_more ∙ ap₂ (λ (x y : Text). failing_text (plain x) y recorded_accepted recorded_more) is_why is_sent
    ∙ ap (λ (x : Text). failing_text x (compact_text sent) recorded_accepted recorded_more) (why_is_plain f)
    ∙ ap₂ (λ (x y : Text). failing_text (quoted (why_word f)) (compact_text sent) x y) is_accepted is_more ∙ sym (failing_is f sent accepted more)

pub more_recorded : (own : Text) (recorded : Data) (name value text : Text) → name ≡ quoted own → value ≡ compact_text recorded → text ≡ codes "," ++ (name ++ (codes ":" ++ (value ++ codes "}")))
    → text ≡ members_text true (member own recorded no_members)
more_recorded own recorded name value text is_name is_value is = is ∙ ap₂ (λ (x y : Text). codes "," ++ (x ++ (codes ":" ++ (y ++ codes "}")))) is_name is_value

-- ---- a pair that fails a test

abbrev failure_text : (kind first second test fails rest : Text) → Text
failure_text kind first second test fails rest = codes "{\"verdict\":\"no\",\"kind\":" ++ (kind ++ (codes ",\"first\":" ++ (first ++ (codes ",\"second\":"
    ++ (second ++ (codes ",\"test\":" ++ (test ++ (codes ",\"fails\":" ++ (fails ++ rest)))))))))

failure_is : (k : PairKind) (p : NamePair) (test : Test) (recorded : List Data) → json_line (failure_members k p test recorded)
    ≡ failure_text (quoted (kind_word k)) (quoted p.0) (quoted p.1) (quoted (test_word test)) (compact_text (array (items_of recorded))) (codes "}") ++ codes "\n"
unfolding serde_json_on_literals
failure_is k p test recorded = refl

failure_ends : (kind first second test fails : Text) → failure_text kind first second test fails (codes "}\n") ≡ failure_text kind first second test fails (codes "}") ++ codes "\n"
failure_ends kind first second test fails = simp append_assoc

-- no byte of these words is escaped
kind_is_plain : (k : PairKind) → plain (kind_word k) ≡ quoted (kind_word k)
unfolding serde_json_on_literals
kind_is_plain kind.Command = refl
kind_is_plain k = refl

test_is_plain : (t : Test) → plain (test_word t) ≡ quoted (test_word t)
unfolding serde_json_on_literals
test_is_plain tests.N1 = refl
test_is_plain t = refl

abbrev written_failure : (kind first second test fails : Text) → Text
written_failure kind first second test fails = codes "{\"verdict\":\"no\",\"kind\":\"" ++ (kind ++ (codes "\",\"first\":" ++ (first ++ (codes ",\"second\":"
    ++ (second ++ (codes ",\"test\":\"" ++ (test ++ (codes "\",\"fails\":" ++ (fails ++ codes "}\n")))))))))

failure_joined : (kind first second test fails : Text) → written_failure kind first second test fails ≡ failure_text (plain kind) first second (plain test) fails (codes "}\n")
failure_joined kind first second test fails = simp append_assoc

pub failure_recorded : (k : PairKind) (p : NamePair) (test : Test) (recorded : List Data) (own_kind own_test first second fails text : Text) → own_kind ≡ kind_word k → own_test ≡ test_word test
    → first ≡ quoted p.0 → second ≡ quoted p.1 → fails ≡ compact_text (array (items_of recorded))
    → text ≡ written_failure own_kind first second own_test fails → text ≡ json_line (failure_members k p test recorded)
failure_recorded k p test recorded own_kind own_test first second fails text is_kind is_test is_first is_second is_fails is =
    is ∙ failure_joined own_kind first second own_test fails ∙ ap₂ (λ (x y : Text). failure_text (plain x) first second (plain y) fails (codes "}\n")) is_kind is_test
    ∙ ap₂ (λ (x y : Text). failure_text x first second y fails (codes "}\n")) (kind_is_plain k) (test_is_plain test)
    ∙ ap₂ (λ (x y : Text). failure_text (quoted (kind_word k)) x y (quoted (test_word test)) fails (codes "}\n")) is_first is_second
    ∙ ap (λ (x : Text). failure_text (quoted (kind_word k)) (quoted p.0) (quoted p.1) (quoted (test_word test)) x (codes "}\n")) is_fails
    ∙ failure_ends (quoted (kind_word k)) (quoted p.0) (quoted p.1) (quoted (test_word test)) (compact_text (array (items_of recorded))) ∙ sym (failure_is k p test recorded)
