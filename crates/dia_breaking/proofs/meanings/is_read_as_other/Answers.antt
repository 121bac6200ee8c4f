use Rattle.std.proofs.Common.{subst}
use Rattle.dia_breaking_avps.specs.declared.breaking.DataBreak.TheVariants as data_breaks
use Rattle.dia_breaking_avps.specs.Breaks.{IsDataBreak}
use Rattle.dia_breaking.proofs.OtherReadings.{broken_apart, groups_alike}
use Rattle.dia_breaking.proofs.meanings.is_read_as_other.Goals as goal

pub returns-in-Groups : goal.returns-in-Groups
returns-in-Groups g c =
    let da = g.A.Book.meaning c.args.a.now in
    let db = g.B.Book.meaning c.args.b.now in
    let who = c.args.sends in
    let u = c.args.unknown in
    groups_alike da db who u c.args.key _ _ (subst (IsDataBreak da db who u c.args.key) c.in-Groups.is c.requires.content)

pub returns-in-Data : goal.returns-in-Data
returns-in-Data g c =
    let da = g.A.Book.meaning c.args.a.now in
    let db = g.B.Book.meaning c.args.b.now in
    let who = c.args.sends in
    let u = c.args.unknown in
    broken_apart da db who u c.args.key (data_breaks.Data c.in-Data.field-0) (subst (IsDataBreak da db who u c.args.key) c.in-Data.is c.requires.content) (λ silent. silent)

pub returns-in-LeastLevel : goal.returns-in-LeastLevel
returns-in-LeastLevel g c =
    let da = g.A.Book.meaning c.args.a.now in
    let db = g.B.Book.meaning c.args.b.now in
    let who = c.args.sends in
    let u = c.args.unknown in
    broken_apart da db who u c.args.key data_breaks.LeastLevel (subst (IsDataBreak da db who u c.args.key) c.in-LeastLevel.is c.requires.content) (λ silent. silent)

pub returns-in-EightBytes : goal.returns-in-EightBytes
returns-in-EightBytes g c =
    let da = g.A.Book.meaning c.args.a.now in
    let db = g.B.Book.meaning c.args.b.now in
    let who = c.args.sends in
    let u = c.args.unknown in
    broken_apart da db who u c.args.key data_breaks.EightBytes (subst (IsDataBreak da db who u c.args.key) c.in-EightBytes.is c.requires.content) (λ silent. silent)

pub returns-in-Undecided : goal.returns-in-Undecided
returns-in-Undecided g c =
    let da = g.A.Book.meaning c.args.a.now in
    let db = g.B.Book.meaning c.args.b.now in
    let who = c.args.sends in
    let u = c.args.unknown in
    broken_apart da db who u c.args.key data_breaks.Undecided (subst (IsDataBreak da db who u c.args.key) c.in-Undecided.is c.requires.content) (λ silent. silent)
