use Rattle.std.proofs.Common.{◌≡◌, ℕ, List, Option, sym, subst, ◌∙◌}
use Rattle.std.specs.Option.{option_map}
use Rattle.dia_data.specs.Leaf.{IsLeaf}
use Rattle.dia_data.specs.Plain.{PlainFormat, plain_format}
use Rattle.dia_book.specs.declared.DRule.{DRule}
use Rattle.dia_book.specs.Dictionary.{Dictionary, plain_definition}
use Rattle.dia_terms.specs.declared.Unknown.{Unknown}
use Rattle.dia_valid.specs.Valid.{Fits, IsLevel}
use Rattle.dia_breaking_data.specs.declared.short_data.Witness.{Witness}
use Rattle.dia_breaking_data.specs.Shortest.{witness_bytes}
use Rattle.dia_breaking_avps.specs.Answers.{IsShortestBreak}
use Rattle.dia_breaking_avps.proofs.Entries.{group_within}
use Rattle.dia_breaking_avps.proofs.Readings.{leaf_as_leaf, leaf_as_level}
use Rattle.dia_breaking_avps.proofs.forms.sent_leaf.Goals as goal

of_rules : (d : Dictionary) (u : Unknown) (f : PlainFormat) (o : Option Witness) (read rules : List DRule) → read ≡ rules
    → IsShortestBreak (IsLeaf f) (λ bytes. (n : ℕ) × IsLevel (Fits d u n) read bytes) (option_map witness_bytes o) → IsShortestBreak (IsLeaf f) (λ bytes. (n : ℕ) × IsLevel (Fits d u n) rules bytes) (option_map witness_bytes o)
of_rules d u f o read rules e h = subst (λ (rs : List DRule). IsShortestBreak (IsLeaf f) (λ bytes. (n : ℕ) × IsLevel (Fits d u n) rs bytes) (option_map witness_bytes o)) e h

pub group-requires : goal.group-requires
group-requires g c = c.requires

pub def-requires : goal.def-requires
def-requires g c =
    group_within (g.B.Book.meaning c.args.b.now) c.args.entry c.in-Some.group (g.met.B.Book.sound c.args.b.now) c.requires (sym c.in-Some.is ∙ c.group.ensures)

pub format-requires : goal.format-requires
format-requires g c = c.requires

pub returns-in-Some : goal.returns-in-Some
returns-in-Some g c u e at =
    let d = g.B.Book.meaning c.args.b.now in
    rw c.break_of.ensures
    (leaf_as_level d u c.args.entry c.in-Some.group e (plain_definition c.def.result.now) (plain_format c.args.format.now) c.shortest_no_level.result (g.met.B.Book.sound c.args.b.now) at
    (sym c.in-Some.is ∙ c.group.ensures) c.def.ensures (of_rules d u (plain_format c.args.format.now) c.shortest_no_level.result c.deref.result.now c.def.result.now.rules.items c.deref.ensures.value (c.shortest_no_level.ensures d u)))

pub returns-in-None : goal.returns-in-None
returns-in-None g c u e at =
    rw c.break_of-in-None.ensures
    (leaf_as_leaf (g.B.Book.meaning c.args.b.now) u c.args.entry e (plain_format c.args.format.now) (plain_format c.format.result.now) c.witness.result at (sym c.in-None.is ∙ c.group.ensures)
    c.format.ensures c.witness.ensures.some c.witness.ensures.none)
