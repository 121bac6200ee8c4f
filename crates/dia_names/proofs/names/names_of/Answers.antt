use Rattle.std.proofs.Common.{◌≡◌, ◌<◌, ℕ, List, Some, Bor, cond, length, arith, ap, subst, sym, ◌∙◌}
use Rattle.std.specs.Prelude.{IfSome, is_some, slice_get}
use Rattle.std.specs.HashMap.{get_by}
use Rattle.std.specs.List.{list_any}
use Rattle.std.specs.Map.{lookup}
use Rattle.std.specs.Str.{bytes_eq}
use Rattle.std.proofs.lemmas.List.{take_all}
use Rattle.std.proofs.lemmas.Map.Text.{hash_map_updates_str}
use Rattle.dia_book.specs.Dictionary.{DictEntry}
use Rattle.dia_valid.proofs.Members.{at_some, there_is}
use Rattle.dia_names.proofs.Found.{found_more, is_named}
use Rattle.dia_names.proofs.names.names_of.Goals as goal

pub loop-index-init : goal.loop-index-init
loop-index-init g c = λ q. ap is_some (ap (λ (es : List (Bor (List ℕ) × ℕ)). lookup (λ (k : Bor (List ℕ)). bytes_eq q k.now) es) c.new-names.ensures.empty)

pub loop-index-preserved : goal.loop-index-preserved
loop-index-preserved g c =
    let d = g.A.Book.meaning c.args.a.now in
    let n = c.loop-index.index in
    let within : n < length d.entries = omega (arith, c.loop-index-test.true, c.entries-index-end.ensures.count) in
    let (x, at) = there_is d.entries n within in
    let text : c.entry_name.result.now ≡ x.name = at_some (λ (e : DictEntry). c.entry_name.result.now ≡ e.name) (slice_get d.entries n) x
    (subst (λ (k : ℕ). IfSome (slice_get d.entries k) (λ (e : DictEntry). c.entry_name.result.now ≡ e.name)) c.entry_at.ensures c.entry_name.ensures) at in
    found_more d.entries n x at (λ (q : List ℕ). get_by (λ k. bytes_eq q k.now) c.loop-index.names) (λ (q : List ℕ). get_by (λ k. bytes_eq q k.now) c.insert.new.self)
    (λ q. hash_map_updates_str c.entry_name.result.now c.loop-index.names c.insert.new.self (Some n) c.in_ok-insert.ensures.updates q
    ∙ ap (λ (t : List ℕ). cond (bytes_eq t q) (Some n) (get_by (λ k. bytes_eq q k.now) c.loop-index.names)) text) c.loop-index.invariant

pub returns : goal.returns
returns g c = λ q.
    let d = g.A.Book.meaning c.args.a.now in
    c.loop-index.invariant q ∙ ap (list_any (is_named q)) (take_all c.loop-index.index d.entries (omega (arith, c.loop-index-test.false, c.entries-index-end.ensures.count)))
