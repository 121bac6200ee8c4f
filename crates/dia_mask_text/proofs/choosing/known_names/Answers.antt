use Rattle.std.proofs.Common.{◌≡◌, ◌<◌, ℕ, List, Bool, Some, cond, length, arith, ap, ◌∙◌, bytes_eq}
use Rattle.std.specs.HashMap.{get_by}
use Rattle.std.proofs.lemmas.Map.Text.{hash_map_updates_str}
use Rattle.dia_dict.specs.Dictionary.{DictEntry}
use Rattle.dia_mask.specs.Choosing.{is_replaceable}
use Rattle.dia_mask_text.proofs.Naming.{at_entry, known_more, there_is}
use Rattle.dia_mask_text.proofs.choosing.known_names.Goals as goal

pub loop-index-preserved : goal.loop-index-preserved
loop-index-preserved g c =
    let d = g.B.Book.meaning c.args.book.now in
    let n = c.loop-index.index in
    let within : n < length d.entries = omega (arith, c.loop-index-test.true, c.entries-index-end.ensures.count) in
    let (e, at) = there_is d.entries n within in
    let text : c.entry_name.result.now ≡ e.name =
    at_entry (λ (x : DictEntry). c.entry_name.result.now ≡ x.name) d.entries n c.entry_at-entry.result e c.entry_at-entry.ensures c.entry_name.ensures at in
    let form = at_entry _ d.entries n c.entry_at-entry.result e c.entry_at-entry.ensures c.format.ensures at in
    λ q. known_more d.entries (g.met.B.Book.sound c.args.book.now).distinct_names n e at q (get_by (λ k. bytes_eq q k.now) c.loop-index.known) (get_by (λ k. bytes_eq q k.now) c.insert.new.self)
    (c.loop-index.invariant q)
    (hash_map_updates_str c.entry_name.result.now c.loop-index.known c.insert.new.self (Some c.can_be_masked.result) c.in_ok-insert.ensures.updates q
    ∙ ap (λ (t : List ℕ). cond (bytes_eq t q) (Some c.can_be_masked.result) (get_by (λ k. bytes_eq q k.now) c.loop-index.known)) text
    ∙ ap (λ (b : Bool). cond (bytes_eq e.name q) (Some b) (get_by (λ k. bytes_eq q k.now) c.loop-index.known))
    (c.can_be_masked.ensures ∙ ap is_replaceable form))
