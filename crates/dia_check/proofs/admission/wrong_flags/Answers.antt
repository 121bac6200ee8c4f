use Rattle.std.proofs.Common.{sym, ◌∙◌}
use Rattle.std.proofs.lemmas.Bool.{both_ways}
use Rattle.dia_valid.proofs.Entries.{entry_within}
use Rattle.dia_check.proofs.AvpFaults.{known_flags, known_wrong, unknown_flags, unknown_wrong}
use Rattle.dia_check.proofs.admission.wrong_flags.Goals as goal

pub rule-requires : goal.rule-requires
rule-requires g c = entry_within (g.B.Book.meaning c.args.basis.now.book.now) c.args.key _ (sym c.in-Some.is ∙ c.requires)

pub returns-then-m_holds : goal.returns-then-m_holds
returns-then-m_holds g c =
    known_flags (g.B.Book.meaning c.args.basis.now.book.now) c.args.basis.now.unknown c.args.key c.args.flags _ c.rule.result (sym c.in-Some.is ∙ c.requires) c.rule.ensures
    (c.m_holds.ensures.0 c.if-m_holds.true)

pub returns-else-m_holds : goal.returns-else-m_holds
returns-else-m_holds g c =
    rw c.avp.ensures
    (known_wrong (g.B.Book.meaning c.args.basis.now.book.now) c.args.basis.now.unknown c.args.key c.args.flags _ c.rule.result (sym c.in-Some.is ∙ c.requires) c.rule.ensures
    (λ holds. both_ways c.m_holds.result c.if-m_holds.false (c.m_holds.ensures.1 holds)))

pub returns-then-is_accepted : goal.returns-then-is_accepted
returns-then-is_accepted g c =
    unknown_flags (g.B.Book.meaning c.args.basis.now.book.now) c.args.basis.now.unknown c.args.key c.args.flags (sym c.in-None.is ∙ c.requires) (c.is_accepted.ensures.0 c.if-is_accepted.true)

pub returns-else-is_accepted : goal.returns-else-is_accepted
returns-else-is_accepted g c =
    rw c.avp-else-is_accepted.ensures
    (unknown_wrong (g.B.Book.meaning c.args.basis.now.book.now) c.args.basis.now.unknown c.args.key c.args.flags (sym c.in-None.is ∙ c.requires)
    (λ accepted. both_ways c.is_accepted.result c.if-is_accepted.false (c.is_accepted.ensures.1 accepted)))
