use Rattle.std.proofs.Common.{◌≡◌, ◌<◌, ℕ, List, Some, Bor, cond, length, arith, ap, subst, ◌∙◌}
use Rattle.std.specs.Prelude.{IfSome, slice_get}
use Rattle.std.specs.HashMap.{get_by}
use Rattle.std.specs.Map.{lookup}
use Rattle.std.specs.Str.{bytes_eq}
use Rattle.std.proofs.lemmas.Map.Text.{hash_map_updates_str}
use Rattle.std.proofs.lemmas.Slice.Eq.{bytes_eq-Decides}
use Rattle.dia_book.specs.Dictionary.{DictEntry}
use Rattle.dia_valid.proofs.Members.{at_some, there_is}
use Rattle.dia_differences.proofs.FoundKeys.{found_all, found_more, found_none}
use Rattle.dia_differences.proofs.partners.avp_names.Goals as goal

pub loop-index-init : goal.loop-index-init
loop-index-init g c =
    let d = g.B.Book.meaning c.args.book.now in
    found_none (λ (e : DictEntry). e.name) bytes_eq bytes_eq-Decides d.entries (g.met.B.Book.sound c.args.book.now).distinct_names (λ (q : List ℕ). get_by (λ k. bytes_eq q k.now) c.new-names.result)
    (λ q. ap (λ (es : List (Bor (List ℕ) × ℕ)). lookup (λ (k : Bor (List ℕ)). bytes_eq q k.now) es) c.new-names.ensures.empty)

pub loop-index-preserved : goal.loop-index-preserved
loop-index-preserved g c =
    let d = g.B.Book.meaning c.args.book.now in
    let n = c.loop-index.index in
    let within : n < length d.entries = omega (arith, c.loop-index-test.true, c.entries-index-end.ensures.count) in
    let (x, at) = there_is d.entries n within in
    let text : c.entry_name.result.now ≡ x.name = at_some (λ (e : DictEntry). c.entry_name.result.now ≡ e.name) (slice_get d.entries n) x
    (subst (λ (k : ℕ). IfSome (slice_get d.entries k) (λ (e : DictEntry). c.entry_name.result.now ≡ e.name)) c.entry_at.ensures c.entry_name.ensures) at in
    found_more (λ (e : DictEntry). e.name) bytes_eq bytes_eq-Decides d.entries (g.met.B.Book.sound c.args.book.now).distinct_names (λ (q : List ℕ). get_by (λ k. bytes_eq q k.now) c.loop-index.names)
    (λ (q : List ℕ). get_by (λ k. bytes_eq q k.now) c.insert.new.self) n x at
    (λ q. hash_map_updates_str c.entry_name.result.now c.loop-index.names c.insert.new.self (Some n) c.in_ok-insert.ensures.updates q
    ∙ ap (λ (t : List ℕ). cond (bytes_eq t q) (Some n) (get_by (λ k. bytes_eq q k.now) c.loop-index.names)) text) c.loop-index.invariant

pub returns : goal.returns
returns g c =
    let d = g.B.Book.meaning c.args.book.now in
    found_all (λ (e : DictEntry). e.name) bytes_eq bytes_eq-Decides d.entries (g.met.B.Book.sound c.args.book.now).distinct_names (λ (q : List ℕ). get_by (λ k. bytes_eq q k.now) c.loop-index.names) c.loop-index.index
    (omega (arith, c.loop-index-test.false, c.entries-index-end.ensures.count)) c.loop-index.invariant
