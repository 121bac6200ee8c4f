use Rattle.std.proofs.Common.{ap, ◌∙◌, Some, None, option_map}
use Rattle.dia_follow.specs.Places.{first}
use Rattle.dia_follow.specs.Waits.{is_dwr, line_of}
use Rattle.dia_follow.proofs.Numbered.{line_at}
use Rattle.dia_follow.proofs.waiting.Waiting.dwr_line.Goals as goal

pub returns-in-Some : goal.returns-in-Some
returns-in-Some c =
    c.line.ensures
    ∙ line_at is_dwr c.self.inside.table (Some c.in-Some.number) c.in-Some.ensures.rise c.in-Some.ensures.number
    ∙ ap (λ ws. option_map line_of (first is_dwr ws)) c.self.view_is

pub returns-in-None : goal.returns-in-None
returns-in-None c =
    line_at is_dwr c.self.inside.table None c.in-None.ensures.rise c.in-None.ensures.number
    ∙ ap (λ ws. option_map line_of (first is_dwr ws)) c.self.view_is
