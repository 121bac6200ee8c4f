use Rattle.std.proofs.Common.{◌≡◌, ◌<◌, length, sym, ap, ◌∙◌, arith}
use Rattle.std.specs.Prelude.{slice_get}
use Rattle.std.proofs.lemmas.List.{append-nil}
use Rattle.dia_book.specs.Dictionary.{DictEntry}
use Rattle.dia_valid.proofs.Members.{there_is, at_some}
use Rattle.dia_breaking.specs.SentKeys.{is_unknown}
use Rattle.dia_breaking.proofs.SentKeys.{unknown_all, unknown_more}
use Rattle.dia_breaking.proofs.keys.push_keys_of_b_alone.Goals as goal

pub loop-index-init : goal.loop-index-init
loop-index-init g c = sym (append-nil c.args.keys.now.items)

pub loop-index-preserved : goal.loop-index-preserved
loop-index-preserved g c =
    let entries = (g.B.Book.meaning c.args.b.now).entries in
    let i = c.loop-index.index in
    let within : i < length entries = omega (arith, c.loop-index-test.true, c.entries-index-end.ensures.count) in
    let x = there_is entries i within in
    let key = at_some (λ (e : DictEntry). c.entry_key.result ≡ e.key) (slice_get entries c.entry_at.result) x.0 c.entry_key.ensures (ap (slice_get entries) c.entry_at.ensures ∙ x.1) in
    unknown_more (is_unknown (g.A.Book.meaning c.args.a.now)) entries i x.0 c.entry_key.result c.args.keys.now.items c.loop-index.keys.items c.push_unknown.new.keys.items x.1 key
    c.in_ok-push_unknown.ensures c.loop-index.invariant

pub returns : goal.returns
returns g c =
    let entries = (g.B.Book.meaning c.args.b.now).entries in
    unknown_all (is_unknown (g.A.Book.meaning c.args.a.now)) entries c.loop-index.index c.args.keys.now.items c.loop-index.keys.items
    (omega (arith, c.loop-index-test.false, c.entries-index-end.ensures.count)) c.loop-index.invariant
