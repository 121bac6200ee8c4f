use Rattle.std.proofs.Common.{inl, inr, ℕ, List, ap, ◌∙◌}
use Rattle.std.specs.List.{flat_map}
use Rattle.json.specs.Print.{quoted}
use Rattle.dia_data.specs.Shown.{hex_byte}
use Rattle.std.specs.Prelude.{string_bytes}
use Rattle.std.proofs.lemmas.Result.{IfOk-weaker}
use Rattle.dia_data.specs.Plain.{plain_format}
use Rattle.dia_json.proofs.DataValues.{all_after, family_is, shown_address, other_recorded}
use Rattle.dia_json.proofs.values.address_text.Goals as goal

pub returns-then-family-eq1 : goal.returns-then-family-eq1
returns-then-family-eq1 c =
    let is = family_is c.args.bytes.now c.read_u16-family.result c.requires.address c.read_u16-family.ensures in
    IfOk-weaker c.shown_text.result _ _
    (λ text shown. shown_address (plain_format c.args.format.now) c.args.bytes.now (string_bytes text) c.read_u16-family.result is (inl c.if-family-eq1.true) c.requires.format
    c.requires.address shown) c.shown_text.ensures

pub returns-then-family-eq2 : goal.returns-then-family-eq2
returns-then-family-eq2 c =
    let is = family_is c.args.bytes.now c.read_u16-family.result c.requires.address c.read_u16-family.ensures in
    IfOk-weaker c.shown_text-then-family-eq2.result _ _
    (λ text shown. shown_address (plain_format c.args.format.now) c.args.bytes.now (string_bytes text) c.read_u16-family.result is (inr c.if-family-eq2.true) c.requires.format
    c.requires.address shown) c.shown_text-then-family-eq2.ensures

pub returns-in_ok-digits : goal.returns-in_ok-digits
returns-in_ok-digits c =
    let is = family_is c.args.bytes.now c.read_u16-family.result c.requires.address c.read_u16-family.ensures in
    IfOk-weaker c.format.result _ _
    (λ text says. other_recorded c.args.bytes.now _ _ c.read_u16-family.result is c.if-family-eq1.false c.if-family-eq2.false
    (c.in_ok-digits.ensures ∙ ap (λ (rest : List ℕ). quoted (flat_map hex_byte rest)) (all_after 2 c.args.bytes.now)) says) c.format.ensures.ok
