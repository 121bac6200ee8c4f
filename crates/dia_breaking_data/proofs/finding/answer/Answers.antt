use Rattle.std.proofs.Common.{ap, List, ℕ, [], ◌∷◌}
use Rattle.std.specs.Option.{option_map}
use Rattle.dia_data.specs.Plain.{plain_format}
use Rattle.dia_breaking_data.specs.Shortest.{witness_bytes}
use Rattle.dia_breaking_data.specs.Kinds.{Octets, Eight, Host, Text, Identity, Link, shown}
use Rattle.dia_breaking_data.proofs.TriedData.{two, three, tried}
use Rattle.dia_breaking_data.proofs.finding.answer.Goals as goal

pub returns-in-Octets : goal.returns-in-Octets
returns-in-Octets c =
    let a = witness_bytes c.new.result in let b = witness_bytes c.new-in-Octets.result in
    tried Octets (shown c.args.accepted) (shown c.args.sent) (plain_format c.args.format.now) (a ∷ b ∷ []) (option_map witness_bytes c.first_refused.result) (ap shown c.in-Octets.is) tt
    c.requires.kind
    (two a b _ _ c.new.ensures c.new-in-Octets.ensures) c.first_refused.ensures

pub returns-in-Eight : goal.returns-in-Eight
returns-in-Eight c =
    let a = witness_bytes c.new-in-Eight.result in let b = witness_bytes c.new-in-Eight-2.result in let d = witness_bytes c.new-in-Eight-3.result in
    tried Eight (shown c.args.accepted) (shown c.args.sent) (plain_format c.args.format.now) (a ∷ b ∷ d ∷ []) (option_map witness_bytes c.first_refused-in-Eight.result) (ap shown c.in-Eight.is)
    tt c.requires.kind
    (three a b d _ _ _ c.new-in-Eight.ensures c.new-in-Eight-2.ensures c.new-in-Eight-3.ensures) c.first_refused-in-Eight.ensures

pub returns-in-Host : goal.returns-in-Host
returns-in-Host c =
    let a = witness_bytes c.new-in-Host.result in let b = witness_bytes c.new-in-Host-2.result in
    tried Host (shown c.args.accepted) (shown c.args.sent) (plain_format c.args.format.now) (a ∷ b ∷ []) (option_map witness_bytes c.first_refused-in-Host.result) (ap shown c.in-Host.is) tt
    c.requires.kind
    (two a b _ _ c.new-in-Host.ensures c.new-in-Host-2.ensures) c.first_refused-in-Host.ensures

pub returns-in-Text : goal.returns-in-Text
returns-in-Text c =
    tried Text (shown c.args.accepted) (shown c.args.sent) (plain_format c.args.format.now) (witness_bytes c.new-in-Text.result ∷ []) (option_map witness_bytes c.first_refused-in-Text.result)
    (ap shown c.in-Text.is) tt
    c.requires.kind (ap (λ (x : List ℕ). x ∷ []) c.new-in-Text.ensures) c.first_refused-in-Text.ensures

pub returns-in-Identity : goal.returns-in-Identity
returns-in-Identity c =
    tried Identity (shown c.args.accepted) (shown c.args.sent) (plain_format c.args.format.now) (witness_bytes c.new-in-Identity.result ∷ [])
    (option_map witness_bytes c.first_refused-in-Identity.result)
    (ap shown c.in-Identity.is) tt c.requires.kind (ap (λ (x : List ℕ). x ∷ []) c.new-in-Identity.ensures) c.first_refused-in-Identity.ensures

pub returns-in-Link : goal.returns-in-Link
returns-in-Link c =
    tried Link (shown c.args.accepted) (shown c.args.sent) (plain_format c.args.format.now) (witness_bytes c.new-in-Link.result ∷ []) (option_map witness_bytes c.first_refused-in-Link.result)
    (ap shown c.in-Link.is) tt
    c.requires.kind (ap (λ (x : List ℕ). x ∷ []) c.new-in-Link.ensures) c.first_refused-in-Link.ensures
