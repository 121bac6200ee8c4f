use Rattle.std.proofs.Common.{List, ℕ, Option, sym, ◌∙◌, subst}
use Rattle.dia_text.specs.declared.fault.Kind.TheVariants.{Value}
use Rattle.dia_text.specs.Reading.{some_or, Gives}
use Rattle.dia_text.proofs.PartsOfTexts.{ipv4_parts, ipv6_parts}
use Rattle.dia_text.proofs.values.address_of.Goals as goal

pub returns-then-len-eq4 : goal.returns-then-len-eq4
returns-then-len-eq4 c =
    subst (λ (o : Option (List ℕ)). Gives (λ bytes. bytes.items) c.in_family.result (some_or o Value)) (ipv4_parts c.args.word.now _ c.in_ok-numbers.ensures (sym c.in_ok-numbers.numbers.ok.0 ∙ sym c.len.ensures ∙ c.if-len-eq4.true))
    (rw c.deref.ensures.value at c.in_family.ensures)

pub returns-then-len-eq8 : goal.returns-then-len-eq8
returns-then-len-eq8 c =
    subst (λ (o : Option (List ℕ)). Gives (λ bytes. bytes.items) c.in_family-then-len-eq8.result (some_or o Value))
    (ipv6_parts c.args.word.now _ _ c.in_ok-numbers.ensures (λ e. c.if-len-eq4.false (c.len.ensures ∙ c.in_ok-numbers.numbers.ok.0 ∙ e)) c.in_ok-groups.ensures (sym c.in_ok-groups.groups.ok.0 ∙ sym c.len-2.ensures ∙ c.if-len-eq8.true))
    (rw c.deref-then-len-eq8.ensures.value at c.in_family-then-len-eq8.ensures)
