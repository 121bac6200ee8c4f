use Rattle.std.proofs.Common.{◌≡◌, ◌<◌, ◌+◌, Bool, List, length, Some, refl, sym, ap, subst, ◌∙◌}
use Rattle.std.specs.Prelude.{IfOk, slice_get, if◌then◌else◌}
use Rattle.dia_book.specs.declared.DRule.{DRule}
use Rattle.dia_book.specs.Dictionary.{Dictionary, plain_definition, definitions, groups}
use Rattle.dia_book.proofs.Members.{into_right}
use Rattle.dia_valid.specs.Rules.{rules_in}
use Rattle.dia_valid.proofs.Members.{there_is}
use Rattle.dia_valid.proofs.SelectedCommands.{command_at}
use Rattle.dia_compat.specs.Sides.{Sides}
use Rattle.dia_compat.specs.Failings.{head_failings, rule_failings}
use Rattle.dia_compat.proofs.PlacesOfCommands.{within}
use Rattle.dia_compat.proofs.FailingPairs.{at_places, rules_at}
use Rattle.dia_compat.proofs.comparing.failing_pairs.definition_failings.Goals as goal

pub returns-then-is_tenth : goal.returns-then-is_tenth
returns-then-is_tenth g c =
    let all = c.args.cover.now in
    let t = c.args.test in
    let x = plain_definition c.def.result.now in
    let y = plain_definition c.def-then-is_tenth.result.now in
    let first = c.first-a.ensures.meaning ∙ ap (λ (s : Sides). s.first) c.sides-sides.ensures in
    let second = c.second-b.ensures.meaning ∙ ap (λ (s : Sides). s.second) c.sides-sides.ensures in
    let at_x = subst (λ (d : Dictionary). slice_get d.commands c.args.first ≡ Some x) first
    (command_at (g.A.Book.meaning c.first-a.result.now) c.args.first c.command_at-first.result x c.command_at-first.ensures c.def.ensures) in
    let at_y = subst (λ (d : Dictionary). slice_get d.commands c.args.second ≡ Some y) second
    (command_at (g.B.Book.meaning c.second-b.result.now) c.args.second c.command_at-second.result y c.command_at-second.ensures c.def-then-is_tenth.ensures) in
    let tenth = sym c.is_tenth.ensures ∙ c.if-is_tenth.true in
    at_places (λ v. v.items) all t c.args.first c.args.second x y c.head_failings.result at_x at_y
    (subst (λ (b : Bool). IfOk c.head_failings.result (λ v. v.items ≡ (if b then head_failings all x y else rule_failings all t x.rules y.rules))) (sym tenth) c.head_failings.ensures)

pub returns-else-is_tenth : goal.returns-else-is_tenth
returns-else-is_tenth g c =
    let all = c.args.cover.now in
    let t = c.args.test in
    let n = c.command_at-first.result in
    let m = c.command_at-second.result in
    let first = c.first-a.ensures.meaning ∙ ap (λ (s : Sides). s.first) c.sides-sides.ensures in
    let second = c.second-b.ensures.meaning ∙ ap (λ (s : Sides). s.second) c.sides-sides.ensures in
    let (x, at_x) = there_is all.sides.first.commands c.args.first c.requires.first in
    let (y, at_y) = there_is all.sides.second.commands c.args.second c.requires.second in
    let at_n = subst (λ (d : Dictionary). n ≡ length (groups d) + c.args.first) first c.command_at-first.ensures in
    let at_m = subst (λ (d : Dictionary). m ≡ length (groups d) + c.args.second) second c.command_at-second.ensures in
    let there_x = ap (slice_get (definitions all.sides.first)) at_n ∙ into_right (groups all.sides.first) all.sides.first.commands c.args.first x at_x in
    let there_y = ap (slice_get (definitions all.sides.second)) at_m ∙ into_right (groups all.sides.second) all.sides.second.commands c.args.second y at_y in
    let rules_x = c.first_rules-a.ensures ∙ ap (λ (s : Sides). rules_in s.first n) c.sides-sides.ensures ∙ rules_at all.sides.first n x there_x in
    let rules_y = c.second_rules-b.ensures ∙ ap (λ (s : Sides). rules_in s.second m) c.sides-sides.ensures ∙ rules_at all.sides.second m y there_y in
    let other = sym c.is_tenth.ensures ∙ c.if-is_tenth.false in
    at_places (λ v. v.items) all t c.args.first c.args.second x y c.rule_failings.result at_x at_y
    (subst (λ (b : Bool). IfOk c.rule_failings.result (λ v. v.items ≡ (if b then head_failings all x y else rule_failings all t x.rules y.rules))) (sym other)
    (subst (λ (rs : List DRule). IfOk c.rule_failings.result (λ v. v.items ≡ rule_failings all t x.rules rs)) rules_y
    (subst (λ (rs : List DRule). IfOk c.rule_failings.result (λ v. v.items ≡ rule_failings all t rs c.second_rules-b.result)) rules_x c.rule_failings.ensures)))

pub command_at-first-requires : goal.command_at-first-requires
command_at-first-requires g c =
    let same = sym (c.first-a.ensures.meaning ∙ ap (λ (s : Sides). s.first) c.sides-sides.ensures) in
    subst (λ (d : Dictionary). c.args.first < length d.commands) same c.requires.first

pub def-requires : goal.def-requires
def-requires g c =
    let d = g.A.Book.meaning c.first-a.result.now in
    let same = sym (c.first-a.ensures.meaning ∙ ap (λ (s : Sides). s.first) c.sides-sides.ensures) in
    within d d c.command_at-first.result c.args.first refl c.command_at-first.ensures (subst (λ (e : Dictionary). c.args.first < length e.commands) same c.requires.first)

pub first_rules-a-requires : goal.first_rules-a-requires
first_rules-a-requires g c =
    let below = subst (λ (s : Sides). c.args.first < length s.first.commands) (sym c.sides-sides.ensures) c.requires.first in
    within (g.A.Book.meaning c.first-a.result.now) c.sides-sides.result.now.first c.command_at-first.result c.args.first c.first-a.ensures.meaning c.command_at-first.ensures below

pub command_at-second-requires : goal.command_at-second-requires
command_at-second-requires g c =
    let same = sym (c.second-b.ensures.meaning ∙ ap (λ (s : Sides). s.second) c.sides-sides.ensures) in
    subst (λ (d : Dictionary). c.args.second < length d.commands) same c.requires.second

pub def-requires-then-is_tenth : goal.def-requires-then-is_tenth
def-requires-then-is_tenth g c =
    let d = g.B.Book.meaning c.second-b.result.now in
    let same = sym (c.second-b.ensures.meaning ∙ ap (λ (s : Sides). s.second) c.sides-sides.ensures) in
    within d d c.command_at-second.result c.args.second refl c.command_at-second.ensures (subst (λ (e : Dictionary). c.args.second < length e.commands) same c.requires.second)

pub second_rules-b-requires : goal.second_rules-b-requires
second_rules-b-requires g c =
    let below = subst (λ (s : Sides). c.args.second < length s.second.commands) (sym c.sides-sides.ensures) c.requires.second in
    within (g.B.Book.meaning c.second-b.result.now) c.sides-sides.result.now.second c.command_at-second.result c.args.second c.second-b.ensures.meaning c.command_at-second.ensures below
