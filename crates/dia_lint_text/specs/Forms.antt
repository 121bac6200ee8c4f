-- The parts of an entry as plain values.
use Rattle.dia_lint_text.specs.Lists.{Form}
use Rattle.dia_lint_text.specs.declared.form.Form.{Form as Parts}

abbrev pub plain_form : Parts → Form
plain_form f = record { rule = f.rule; subject = f.subject.now; detail = f.detail.now }
