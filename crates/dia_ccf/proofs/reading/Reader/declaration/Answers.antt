use Rattle.std.proofs.Common.{refl, Ok, Err, ◌∙◌, arith, ◌≡◌}
use Rattle.std.specs.Prelude.{true, string_bytes, nat_lt}
use Rattle.std.proofs.lemmas.Bool.{lt-ltb}
use Rattle.dia_ccf.specs.Limits.{max_number}
use Rattle.dia_ccf.specs.Plain.{plain_decl}
use Rattle.dia_ccf.specs.Machine.{Between, Decl_name, Decl_code, Decl_vendor, Decl_format, Decl_rule, Decl_values, add_decl}
use Rattle.dia_ccf.specs.ReaderFunctions.{course}
use Rattle.dia_ccf.proofs.TokenTests.{name_at-is, number_at-is}
use Rattle.dia_ccf.proofs.ReaderSteps.{exits, exits_along}
use Rattle.dia_ccf.proofs.ReaderInDeclarations.{bare, name_leads, code_leads, format_leads, rule_leads}
use Rattle.std.specs.Option.{option_map}
use Rattle.dia_terms.specs.Formats.{format_word}
use Rattle.dia_ccf.specs.Grammar.{◌then◌, name, number, vendor, word, values, rule_word}
use Rattle.dia_ccf.proofs.ReaderPlaces.{along, name_derived, number_derived, format_derived, m_rule_derived}
use Rattle.dia_ccf.proofs.reading.Reader.declaration.Goals as goal

pub returns-in_err-name-clause-read : goal.returns-in_err-name-clause-read
returns-in_err-name-clause-read c = λ done.
    exits (course (done, Decl_name) c.args.self.now)
    (λ d. (add_decl done (plain_decl d), Between)) c.in_err-name.field-0.0 c.from_residual.result c.name.new.self c.from_residual.ensures.1
    (name_leads done c.args.self.now c.name.new.self (Err c.in_err-name.field-0.0) c.in_err-name.ensures)

pub returns-in_err-code-clause-read : goal.returns-in_err-code-clause-read
returns-in_err-code-clause-read c = λ done.
    (let n = string_bytes c.in_ok-name.name in
    exits_along (course (done, Decl_name) c.args.self.now) (course (done, Decl_code n) c.name.new.self)
    (λ d. (add_decl done (plain_decl d), Between)) c.in_err-code.field-0.0 c.from_residual-in_err-code.result c.number.new.self
    (name_leads done c.args.self.now c.name.new.self (Ok c.in_ok-name.name) c.in_ok-name.ensures)
    c.from_residual-in_err-code.ensures.1 (code_leads done n c.name.new.self c.number.new.self (Err c.in_err-code.field-0.0) c.in_err-code.ensures))

pub returns-in_err-vendor-clause-read : goal.returns-in_err-vendor-clause-read
returns-in_err-vendor-clause-read c = λ done.
    (let n = string_bytes c.in_ok-name.name in
    let code = c.in_ok-code.code in
    exits_along (course (done, Decl_name) c.args.self.now) (course (done, Decl_vendor n code) c.number.new.self)
    (λ d. (add_decl done (plain_decl d), Between)) c.in_err-vendor.field-0.0 c.from_residual-in_err-vendor.result c.vendor.new.self
    (name_leads done c.args.self.now c.name.new.self (Ok c.in_ok-name.name) c.in_ok-name.ensures
    ∙ code_leads done n c.name.new.self c.number.new.self (Ok c.in_ok-code.code) c.in_ok-code.ensures)
    c.from_residual-in_err-vendor.ensures.1 (c.in_err-vendor.ensures.read done n code))

pub returns-in_err-format-clause-read : goal.returns-in_err-format-clause-read
returns-in_err-format-clause-read c = λ done.
    (let n = string_bytes c.in_ok-name.name in
    let code = c.in_ok-code.code in
    let v = c.in_ok-vendor.vendor in
    exits_along (course (done, Decl_name) c.args.self.now) (course (done, Decl_format n code v) c.vendor.new.self)
    (λ d. (add_decl done (plain_decl d), Between)) c.in_err-format.field-0.0 c.from_residual-in_err-format.result c.format.new.self
    (name_leads done c.args.self.now c.name.new.self (Ok c.in_ok-name.name) c.in_ok-name.ensures
    ∙ code_leads done n c.name.new.self c.number.new.self (Ok c.in_ok-code.code) c.in_ok-code.ensures
    ∙ c.in_ok-vendor.ensures.read done n code)
    c.from_residual-in_err-format.ensures.1 (format_leads done n code v c.vendor.new.self c.format.new.self (Err c.in_err-format.field-0.0) c.in_err-format.ensures))

pub returns-in_err-rule-clause-read : goal.returns-in_err-rule-clause-read
returns-in_err-rule-clause-read c = λ done.
    (let n = string_bytes c.in_ok-name.name in
    let code = c.in_ok-code.code in
    let v = c.in_ok-vendor.vendor in
    let f = c.in_ok-format.format in
    exits_along (course (done, Decl_name) c.args.self.now) (course (done, Decl_rule n code v f) c.format.new.self)
    (λ d. (add_decl done (plain_decl d), Between)) c.in_err-rule.field-0.0 c.from_residual-in_err-rule.result c.m_rule.new.self
    (name_leads done c.args.self.now c.name.new.self (Ok c.in_ok-name.name) c.in_ok-name.ensures
    ∙ code_leads done n c.name.new.self c.number.new.self (Ok c.in_ok-code.code) c.in_ok-code.ensures
    ∙ c.in_ok-vendor.ensures.read done n code
    ∙ format_leads done n code v c.vendor.new.self c.format.new.self (Ok c.in_ok-format.format) c.in_ok-format.ensures)
    c.from_residual-in_err-rule.ensures.1 (rule_leads done n code v f c.format.new.self c.m_rule.new.self (Err c.in_err-rule.field-0.0) c.in_err-rule.ensures))

pub returns-in_err-values-clause-read : goal.returns-in_err-values-clause-read
returns-in_err-values-clause-read c = λ done.
    (let n = string_bytes c.in_ok-name.name in
    let code = c.in_ok-code.code in
    let v = c.in_ok-vendor.vendor in
    let f = c.in_ok-format.format in
    let r = c.in_ok-rule.rule in
    exits_along (course (done, Decl_name) c.args.self.now) (course (done, Decl_values (bare n code v f r)) c.m_rule.new.self)
    (λ d. (add_decl done (plain_decl d), Between)) c.in_err-values.field-0.0 c.from_residual-in_err-values.result c.values.new.self
    (name_leads done c.args.self.now c.name.new.self (Ok c.in_ok-name.name) c.in_ok-name.ensures
    ∙ code_leads done n c.name.new.self c.number.new.self (Ok c.in_ok-code.code) c.in_ok-code.ensures
    ∙ c.in_ok-vendor.ensures.read done n code
    ∙ format_leads done n code v c.vendor.new.self c.format.new.self (Ok c.in_ok-format.format) c.in_ok-format.ensures
    ∙ rule_leads done n code v f c.format.new.self c.m_rule.new.self (Ok c.in_ok-rule.rule) c.in_ok-rule.ensures)
    c.from_residual-in_err-values.ensures.1 (c.in_err-values.ensures.read done (bare n code v f r) refl refl))

pub returns-clause-read : goal.returns-clause-read
returns-clause-read c = λ done.
    (let n = string_bytes c.in_ok-name.name in
    let code = c.in_ok-code.code in
    let v = c.in_ok-vendor.vendor in
    let f = c.in_ok-format.format in
    let r = c.in_ok-rule.rule in
    name_leads done c.args.self.now c.name.new.self (Ok c.in_ok-name.name) c.in_ok-name.ensures
    ∙ code_leads done n c.name.new.self c.number.new.self (Ok c.in_ok-code.code) c.in_ok-code.ensures
    ∙ c.in_ok-vendor.ensures.read done n code
    ∙ format_leads done n code v c.vendor.new.self c.format.new.self (Ok c.in_ok-format.format) c.in_ok-format.ensures
    ∙ rule_leads done n code v f c.format.new.self c.m_rule.new.self (Ok c.in_ok-rule.rule) c.in_ok-rule.ensures
    ∙ c.in_ok-values.ensures.read done (bare n code v f r) refl refl)

pub invariant_of-result : goal.invariant_of-result
invariant_of-result c =
    let n = number_at-is 0 max_number c.in_ok-code.ensures.0 c.in_ok-code.code c.in_ok-code.ensures.1 in
    let small : nat_lt c.in_ok-code.code 4294967296 ≡ true = lt-ltb c.in_ok-code.code 4294967296 (omega (arith, n.2)) in
    record {
      named = (name_at-is c.in_ok-name.ensures.0 (string_bytes c.in_ok-name.name) c.in_ok-name.ensures.1).1;
      numbered = rw (small, c.in_ok-vendor.ensures.small) refl;
      listed = c.in_ok-values.ensures.listed;
    }

pub returns-clause-derived : goal.returns-clause-derived
returns-clause-derived c =
    let n = c.in_ok-name.name in
    let code = number max_number c.in_ok-code.code in
    let v = vendor c.in_ok-vendor.vendor in
    let f = word (format_word c.in_ok-format.format) in
    let r = word (rule_word c.in_ok-rule.rule) in
    let vs = values c.in_ok-format.format (option_map (λ v. v.items) c.in_ok-values.values) in
    let numbered = c.in_ok-code.ensures in
    along (name (string_bytes n)) (code then v then f then r then vs) c.args.self.now c.name.new.self c.values.new.self (name_derived c.args.self.now c.name.new.self n c.in_ok-name.ensures)
    (along code (v then f then r then vs) c.name.new.self c.number.new.self c.values.new.self (number_derived c.name.new.self c.number.new.self c.in_ok-code.code numbered.0 numbered.1 numbered.2)
    (along v (f then r then vs) c.number.new.self c.vendor.new.self c.values.new.self c.in_ok-vendor.ensures.derived
    (along f (r then vs) c.vendor.new.self c.format.new.self c.values.new.self (format_derived c.vendor.new.self c.format.new.self c.in_ok-format.format c.in_ok-format.ensures)
    (along r vs c.format.new.self c.m_rule.new.self c.values.new.self (m_rule_derived c.format.new.self c.m_rule.new.self c.in_ok-rule.rule c.in_ok-rule.ensures) c.in_ok-values.ensures.derived))))
