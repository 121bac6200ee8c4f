use Rattle.std.proofs.Common.{Option, sym, ap, ◌∙◌}
use Rattle.std.specs.Prelude.{option_and_then}
use Rattle.dia_data.specs.Plain.{plain_format}
use Rattle.dia_book.specs.Dictionary.{DictEntry}
use Rattle.dia_valid.proofs.Entries.{entry_here, entry_within, not_known}
use Rattle.dia_breaking_avps.proofs.Entries.{group_here, group_within, no_group}
use Rattle.dia_breaking_avps.proofs.Readings.{entry_format, from_leaf, from_level, from_unknown}
use Rattle.dia_breaking_avps.proofs.AnyData.{takes_any, no_levels, no_levels_unknown}
use Rattle.dia_breaking_avps.proofs.avp.known_break.Goals as goal

pub sent_level-requires-clause-group : goal.sent_level-requires-clause-group
sent_level-requires-clause-group g c =
    let da = g.A.Book.meaning c.args.a.now in
    let own = sym c.in-Some.is ∙ c.avp.ensures in
    group_within da c.in-Some.own c.in-Some-group.group (g.met.A.Book.sound c.args.a.now) (entry_within da c.args.key c.in-Some.own own) (sym c.in-Some-group.is ∙ c.group.ensures)

pub sent_level-requires-clause-entry : goal.sent_level-requires-clause-entry
sent_level-requires-clause-entry g c = entry_within (g.B.Book.meaning c.args.b.now) c.args.key c.args.entry c.requires

pub sent_leaf-requires : goal.sent_leaf-requires
sent_leaf-requires g c = entry_within (g.B.Book.meaning c.args.b.now) c.args.key c.args.entry c.requires

pub sent_leaf-requires-in-Any : goal.sent_leaf-requires-in-Any
sent_leaf-requires-in-Any g c = entry_within (g.B.Book.meaning c.args.b.now) c.args.key c.args.entry c.requires

pub returns-in-Some-group-clause-content : goal.returns-in-Some-group-clause-content
returns-in-Some-group-clause-content g c u =
    let da = g.A.Book.meaning c.args.a.now in
    let db = g.B.Book.meaning c.args.b.now in
    let (e, at, is) = entry_here db c.args.key c.args.entry c.requires in
    let (own, at_own, is_own) = entry_here da c.args.key c.in-Some.own (sym c.in-Some.is ∙ c.avp.ensures) in
    let (x, some, def) = group_here da c.in-Some.own c.in-Some-group.group own (g.met.A.Book.sound c.args.a.now) at_own (sym c.in-Some-group.is ∙ c.group.ensures) in
    from_level da db c.args.sends u c.args.key e is own is_own c.in-Some-group.group x some def c.sent_level.result (c.sent_level.ensures x e def at)

pub returns-in-None-group-clause-content : goal.returns-in-None-group-clause-content
returns-in-None-group-clause-content g c u =
    let da = g.A.Book.meaning c.args.a.now in
    let db = g.B.Book.meaning c.args.b.now in
    let (e, at, is) = entry_here db c.args.key c.args.entry c.requires in
    let (own, at_own, is_own) = entry_here da c.args.key c.in-Some.own (sym c.in-Some.is ∙ c.avp.ensures) in
    from_leaf da db c.args.sends u c.args.key e is own is_own (plain_format c.format.result.now) (no_group da c.in-Some.own own at_own (sym c.in-None-group.is ∙ c.group.ensures))
    (entry_format da c.in-Some.own own (plain_format c.format.result.now) at_own c.format.ensures) c.sent_leaf.result (c.sent_leaf.ensures u e at)

pub returns-in-Any-clause-content : goal.returns-in-Any-clause-content
returns-in-Any-clause-content g c u =
    let da = g.A.Book.meaning c.args.a.now in
    let db = g.B.Book.meaning c.args.b.now in
    let (e, at, is) = entry_here db c.args.key c.args.entry c.requires in
    from_unknown da db c.args.sends u c.args.key e is (not_known da c.args.key (sym c.in-None.is ∙ c.avp.ensures)) c.sent_leaf-in-Any.result c.in-Any.is (c.sent_leaf-in-Any.ensures u e at)

pub returns-in-Some-group-clause-levels : goal.returns-in-Some-group-clause-levels
returns-in-Some-group-clause-levels g c = λ group fits.
    let da = g.A.Book.meaning c.args.a.now in
    let db = g.B.Book.meaning c.args.b.now in
    let (e, at, is) = entry_here db c.args.key c.args.entry c.requires in
    let (own, at_own, is_own) = entry_here da c.args.key c.in-Some.own (sym c.in-Some.is ∙ c.avp.ensures) in
    let (x, some, def) = group_here da c.in-Some.own c.in-Some-group.group own (g.met.A.Book.sound c.args.a.now) at_own (sym c.in-Some-group.is ∙ c.group.ensures) in
    let has = ap (λ (o : Option DictEntry). option_and_then (λ (y : DictEntry). y.group) o) is_own ∙ some in
    takes_any da db c.args.sends c.args.key c.in-Some-group.group x e c.sent_level.result has is (c.sent_level.ensures x e def at) fits

pub returns-in-None-group-clause-levels : goal.returns-in-None-group-clause-levels
returns-in-None-group-clause-levels g c = λ group fits.
    let da = g.A.Book.meaning c.args.a.now in
    let (own, at_own, is_own) = entry_here da c.args.key c.in-Some.own (sym c.in-Some.is ∙ c.avp.ensures) in
    absurd (no_levels da c.args.key own is_own (no_group da c.in-Some.own own at_own (sym c.in-None-group.is ∙ c.group.ensures)) group)

pub returns-in-Any-clause-levels : goal.returns-in-Any-clause-levels
returns-in-Any-clause-levels g c = λ group fits. absurd (no_levels_unknown (g.A.Book.meaning c.args.a.now) c.args.key (not_known (g.A.Book.meaning c.args.a.now) c.args.key (sym c.in-None.is ∙ c.avp.ensures)) group)

pub returns-in-Known-clause-levels : goal.returns-in-Known-clause-levels
returns-in-Known-clause-levels g c = λ group fits. absurd (no_levels_unknown (g.A.Book.meaning c.args.a.now) c.args.key (not_known (g.A.Book.meaning c.args.a.now) c.args.key (sym c.in-None.is ∙ c.avp.ensures)) group)
