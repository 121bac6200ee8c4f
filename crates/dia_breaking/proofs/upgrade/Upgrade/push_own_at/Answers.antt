use Rattle.std.proofs.Common.{◌≡◌, List, Option, Some, sym, subst, ◌∙◌, arith}
use Rattle.std.specs.Prelude.{All, OnOk, option_and_then, option_to_list, slice_get}
use Rattle.dia_breaking_ways.specs.declared.graph.Reach.{Reach}
use Rattle.dia_breaking.specs.declared.own_breaks.OwnBreaks.{OwnBreaks}
use Rattle.dia_breaking.specs.Listing.{AddsRecorded, own_line, reached_line}
use Rattle.dia_breaking.specs.OwnBreaks.{HasDataBreak}
use Rattle.dia_breaking.specs.Upgrades.{sides_of}
use Rattle.dia_breaking.proofs.FormatData.{when_on_ok}
use Rattle.dia_breaking.proofs.Lists.{at_place}
use Rattle.dia_breaking.proofs.RecordedLists.{adds_at, adds_at_on_ok, adds_none, adds_past}
use Rattle.dia_breaking.proofs.upgrade.Upgrade.push_own_at.Goals as goal

pub returns-in-None-clause-recorded : goal.returns-in-None-clause-recorded
returns-in-None-clause-recorded g c =
    adds_past (reached_line c.args.kind c.args.numbers.first c.args.numbers.count c.args.reached.now c.args.place) c.args.self.now.own.items c.args.place c.args.lines.now.items
    (omega (arith, c.in-None.ensures.lookup))

pub returns-in-Some-reach_at-clause-formats : goal.returns-in-Some-reach_at-clause-formats
returns-in-Some-reach_at-clause-formats g c =
    let s = sides_of c.args.self.now in
    let own = c.in-Some.own.now in
    let Has = HasDataBreak s c.args.self.now.lengths.least c.args.self.now.lengths.entries.items in
    let there = c.in-Some.ensures.lookup.3 in
    when_on_ok _ _ c.push_own.result
    (λ keeps have. keeps (subst Has (sym (there.1 own)) (subst (All Has) (sym c.deref.ensures.value) have c.args.place own there.0)))
    c.push_own.ensures.formats

pub returns-in-Some-reach_at-clause-recorded : goal.returns-in-Some-reach_at-clause-recorded
returns-in-Some-reach_at-clause-recorded g c =
    let own = c.in-Some.own.now in
    let there = c.in-Some.ensures.lookup in
    let numbers = c.args.numbers in
    let result = c.push_own.result in
    let old = c.args.lines.now.items in
    let new = c.push_own.new.lines.items in
    let line = own_line c.args.kind numbers.first numbers.count own in
    adds_at_on_ok (reached_line c.args.kind numbers.first numbers.count c.args.reached.now c.args.place) c.args.self.now.own.items c.args.place own result old new
    (subst (λ (owns : List OwnBreaks). slice_get owns c.args.place ≡ Some own) c.deref.ensures.value (at_place c.deref.result.now c.args.place own there.3.0 there.1))
    (subst (λ (reach : Option Reach). OnOk result (AddsRecorded old new (option_to_list (option_and_then line reach)))) (sym c.in-Some-reach_at.is ∙ c.reach_at.ensures) c.push_own.ensures.recorded)

pub returns-in-None-reach_at-clause-recorded : goal.returns-in-None-reach_at-clause-recorded
returns-in-None-reach_at-clause-recorded g c =
    let own = c.in-Some.own.now in
    let there = c.in-Some.ensures.lookup in
    let numbers = c.args.numbers in
    let lines = c.args.lines.now.items in
    let line = own_line c.args.kind numbers.first numbers.count own in
    adds_at (reached_line c.args.kind numbers.first numbers.count c.args.reached.now c.args.place) c.args.self.now.own.items c.args.place own lines lines
    (subst (λ (owns : List OwnBreaks). slice_get owns c.args.place ≡ Some own) c.deref.ensures.value (at_place c.deref.result.now c.args.place own there.3.0 there.1))
    (subst (λ (reach : Option Reach). AddsRecorded lines lines (option_to_list (option_and_then line reach))) (sym c.in-None-reach_at.is ∙ c.reach_at.ensures) (adds_none lines))
