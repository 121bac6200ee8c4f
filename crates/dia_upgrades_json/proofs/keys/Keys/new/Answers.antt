use Rattle.std.proofs.Common.{◌≡◌, ◌<◌, List, ℕ, length, string_bytes, sym, subst, arith}
use Rattle.std.specs.Prelude.{IfSome, slice_get}
use Rattle.dia_upgrades_json.proofs.Kept.{more_kept}
use Rattle.dia_upgrades_json.proofs.keys.Keys.new.Goals as goal

pub loop-index-preserved : goal.loop-index-preserved
loop-index-preserved g c =
    let entries = (g.B.Book.meaning c.args.book.now).entries in
    let i = c.loop-index.index in
    let within : i < length entries = omega (arith, c.loop-index-test.true, c.entries-index-end.ensures.count) in
    let named = subst (λ (text : List ℕ). IfSome (slice_get entries c.entry_at-entry.result) (λ e. text ≡ e.name)) (sym c.in_ok-name.ensures.ok) c.entry_name.ensures in
    more_kept entries i c.entry_at-entry.result (string_bytes c.in_ok-name.name) (string_bytes c.in_ok-number.number) c.entry_key-key.result c.loop-index.keys
    c.add_first.new.keys c.add_first-in-loop-index.new.keys within c.entry_at-entry.ensures named c.entry_key-key.ensures c.in_ok-number.ensures
    c.in_ok-add_first.ensures c.in_ok-add_first-2.ensures c.loop-index.invariant
