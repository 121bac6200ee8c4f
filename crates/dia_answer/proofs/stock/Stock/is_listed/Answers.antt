use Rattle.std.proofs.Common.{List, length, true, false, refl, sym, ap, ◌∙◌}
use Rattle.std.specs.Prelude.{◌==◌}
use Rattle.std.specs.List.{list_all}
use Rattle.dia_wire.specs.declared.Key.{Key}
use Rattle.dia_valid.specs.Valid.{is_listed}
use Rattle.dia_answer.specs.declared.held.Held.{Held}
use Rattle.dia_answer.specs.Bodies.{proxy_info}
use Rattle.dia_answer.specs.Helds.{plain_held}
use Rattle.dia_answer.specs.Stocks.{may_be_unlisted}
use Rattle.dia_answer.proofs.Building.{listed_by}
use Rattle.dia_answer.proofs.stock.Stock.is_listed.Goals as goal

pub returns-then-is_listed : goal.returns-then-is_listed
returns-then-is_listed c =
    let rules = c.args.rules.now in
    let few = c.args.self.now.few.items in
    let proxies = c.args.self.now.proxies.items in
    c.if-is_listed.true
    ∙ listed_by rules few proxies true true (length proxies == 0) c.requires (sym c.if-all_listed.true ∙ c.all_listed.ensures ∙ ap (λ (xs : List Held). list_all (λ h. may_be_unlisted rules (plain_held h)) xs) c.deref.ensures.value)
    (sym c.if-is_listed.true ∙ c.is_listed.ensures ∙ ap (λ (k : Key). is_listed rules k) c.base_key.ensures) refl

pub returns-else-is_listed : goal.returns-else-is_listed
returns-else-is_listed c =
    let rules = c.args.rules.now in
    let few = c.args.self.now.few.items in
    let proxies = c.args.self.now.proxies.items in
    listed_by rules few proxies true false c.is_empty.result c.requires (sym c.if-all_listed.true ∙ c.all_listed.ensures ∙ ap (λ (xs : List Held). list_all (λ h. may_be_unlisted rules (plain_held h)) xs) c.deref.ensures.value)
    (sym c.if-is_listed.false ∙ c.is_listed.ensures ∙ ap (λ (k : Key). is_listed rules k) c.base_key.ensures) (c.is_empty.ensures ∙ ap (λ (xs : List Held). length xs == 0) c.as_slice.ensures.value)

pub returns-else-all_listed : goal.returns-else-all_listed
returns-else-all_listed c =
    let rules = c.args.rules.now in
    let few = c.args.self.now.few.items in
    let proxies = c.args.self.now.proxies.items in
    c.if-all_listed.false
    ∙ listed_by rules few proxies false (is_listed rules proxy_info) (length proxies == 0) c.requires
    (sym c.if-all_listed.false ∙ c.all_listed.ensures ∙ ap (λ (xs : List Held). list_all (λ h. may_be_unlisted rules (plain_held h)) xs) c.deref.ensures.value) refl refl
