use Rattle.std.proofs.Common.{ap, refl, [], ◌∷◌}
use Rattle.std.specs.Option.{option_map}
use Rattle.dia_data.specs.Plain.{plain_format}
use Rattle.dia_breaking_data.specs.Shortest.{witness_bytes}
use Rattle.dia_breaking_data.specs.Kinds.{Four, shown}
use Rattle.dia_breaking_data.proofs.Found.{missing_none}
use Rattle.dia_breaking_data.proofs.TriedData.{easy_four, three, tried}
use Rattle.dia_breaking_data.proofs.finding.of_four.Goals as goal

pub returns-in_err-number-in-Listed : goal.returns-in_err-number-in-Listed
returns-in_err-number-in-Listed c =
    missing_none (shown c.args.kind) c.in-Listed.ranges.now c.from_residual.result (ap shown c.in-Listed.is) c.from_residual.ensures (c.first_missing.ensures.none c.in_err-number-in-Listed.was)

pub returns-in_default : goal.returns-in_default
returns-in_default c =
    let a = witness_bytes c.new.result in let b = witness_bytes c.new-in_default.result in let d = witness_bytes c.new-in_default-2.result in
    tried Four (shown c.args.kind) Four (plain_format c.args.format.now) (a ∷ b ∷ d ∷ []) (option_map witness_bytes c.first_refused.result) refl (easy_four c.args.kind c.in_default.not-Listed)
    c.requires.kind
    (three a b d _ _ _ c.new.ensures c.new-in_default.ensures c.new-in_default-2.ensures) c.first_refused.ensures
