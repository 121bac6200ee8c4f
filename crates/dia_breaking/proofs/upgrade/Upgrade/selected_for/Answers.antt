use Rattle.std.proofs.Common.{option_and_then, sym, ap, ◌∙◌}
use Rattle.dia_book.specs.Dictionary.{selected}
use Rattle.dia_breaking.specs.Upgrades.{sides_of}
use Rattle.dia_breaking.proofs.FoundLines.{head_there}
use Rattle.dia_breaking.proofs.upgrade.Upgrade.selected_for.Goals as goal

pub returns-in-Some-clause-selected : goal.returns-in-Some-clause-selected
returns-in-Some-clause-selected g c =
    let s = sides_of c.args.self.now in
    c.command_of.ensures.selected
    ∙ ap (option_and_then (λ head. selected s.receiver head.code head.class c.args.app)) (sym (head_there s.sender c.args.command c.head_of.result c.requires c.head_of.ensures ∙ c.in-Some.is))

pub returns-in-None-clause-selected : goal.returns-in-None-clause-selected
returns-in-None-clause-selected g c =
    let s = sides_of c.args.self.now in
    ap (option_and_then (λ head. selected s.receiver head.code head.class c.args.app)) (sym (head_there s.sender c.args.command c.head_of.result c.requires c.head_of.ensures ∙ c.in-None.is))
