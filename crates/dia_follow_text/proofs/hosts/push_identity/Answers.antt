use Rattle.std.proofs.Common.{◌++◌, List, ℕ, ap, ◌∙◌}
use Rattle.std.specs.Prelude.{string_bytes}
use Rattle.dia_streams.proofs.LinesUnderWay.{on_ok_map}
use Rattle.dia_follow_text.proofs.Identities.{identity_shown}
use Rattle.dia_follow_text.proofs.hosts.push_identity.Goals as goal

pub returns : goal.returns
returns c = on_ok_map c.push_value.result
    (λ h.
    let (text, shown, added) = h in
    added ∙ ap (λ (t : List ℕ). string_bytes c.args.text.now ++ t) (identity_shown c.args.host.now text shown))
    c.push_value.ensures
