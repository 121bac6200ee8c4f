use Rattle.std.proofs.Common.{◌≡◌, ◌<◌, ◌∙◌, ℕ, length, map, arith, ap, subst}
use Rattle.std.specs.Prelude.{IfSome, slice_get, string_bytes}
use Rattle.std.specs.Option.{option_map}
use Rattle.std.proofs.lemmas.List.{take_all}
use Rattle.dia_names.specs.Names.{mark}
use Rattle.dia_names.proofs.Marks.{marks_more, texts_of}
use Rattle.dia_names.proofs.names.marks_of.Goals as goal

pub loop-index-preserved : goal.loop-index-preserved
loop-index-preserved g c =
    let da = g.A.Book.meaning c.args.a.now in
    let db = g.B.Book.meaning c.args.b.now in
    let n = c.loop-index.index in
    let within : n < length db.entries = omega (arith, c.loop-index-test.true, c.entries-index-end.ensures.count) in
    marks_more da db.entries n within c.loop-index.marks.items c.push.new.self.items c.in_ok-mark_of.field-0 c.in_ok-push.ensures.items
    (subst (λ (k : ℕ). IfSome (slice_get db.entries k) (λ e. option_map string_bytes c.in_ok-mark_of.field-0 ≡ mark da e)) c.entry_at.ensures c.in_ok-mark_of.ensures) c.loop-index.invariant

pub returns : goal.returns
returns g c =
    let da = g.A.Book.meaning c.args.a.now in
    let db = g.B.Book.meaning c.args.b.now in
    c.loop-index.invariant ∙ ap (map (mark da)) (take_all c.loop-index.index db.entries (omega (arith, c.loop-index-test.false, c.entries-index-end.ensures.count)))
