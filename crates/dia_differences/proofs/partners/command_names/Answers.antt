use Rattle.std.proofs.Common.{ℕ, List, Some, Bor, cond, arith, ap, ◌∙◌}
use Rattle.std.specs.HashMap.{get_by}
use Rattle.std.specs.Map.{lookup}
use Rattle.std.specs.Str.{bytes_eq}
use Rattle.std.proofs.lemmas.Map.Text.{hash_map_updates_str}
use Rattle.std.proofs.lemmas.Slice.Eq.{bytes_eq-Decides}
use Rattle.dia_book.specs.Dictionary.{PlainDefinition, plain_definition}
use Rattle.dia_valid.proofs.SelectedCommands.{command_at}
use Rattle.dia_differences.proofs.FoundKeys.{found_all, found_more, found_none}
use Rattle.dia_differences.proofs.partners.command_names.Goals as goal

pub loop-index-init : goal.loop-index-init
loop-index-init g c =
    let d = g.B.Book.meaning c.args.book.now in
    found_none (λ (e : PlainDefinition). e.name) bytes_eq bytes_eq-Decides d.commands (g.met.B.Book.sound c.args.book.now).distinct_commands (λ (q : List ℕ). get_by (λ k. bytes_eq q k.now) c.new-names.result)
    (λ q. ap (λ (es : List (Bor (List ℕ) × ℕ)). lookup (λ (k : Bor (List ℕ)). bytes_eq q k.now) es) c.new-names.ensures.empty)

pub loop-index-preserved : goal.loop-index-preserved
loop-index-preserved g c =
    let d = g.B.Book.meaning c.args.book.now in
    let n = c.loop-index.index in
    let x = plain_definition c.def.result.now in
    let at = command_at d n c.command_at.result x c.command_at.ensures c.def.ensures in
    found_more (λ (e : PlainDefinition). e.name) bytes_eq bytes_eq-Decides d.commands (g.met.B.Book.sound c.args.book.now).distinct_commands (λ (q : List ℕ). get_by (λ k. bytes_eq q k.now) c.loop-index.names)
    (λ (q : List ℕ). get_by (λ k. bytes_eq q k.now) c.insert.new.self) n x at
    (λ q. hash_map_updates_str c.as_str.result.now c.loop-index.names c.insert.new.self (Some n) c.in_ok-insert.ensures.updates q
    ∙ ap (λ (t : List ℕ). cond (bytes_eq t q) (Some n) (get_by (λ k. bytes_eq q k.now) c.loop-index.names)) c.as_str.ensures.value) c.loop-index.invariant

pub returns : goal.returns
returns g c =
    let d = g.B.Book.meaning c.args.book.now in
    found_all (λ (e : PlainDefinition). e.name) bytes_eq bytes_eq-Decides d.commands (g.met.B.Book.sound c.args.book.now).distinct_commands (λ (q : List ℕ). get_by (λ k. bytes_eq q k.now) c.loop-index.names) c.loop-index.index
    (omega (arith, c.loop-index-test.false, c.commands-index-end.ensures)) c.loop-index.invariant
