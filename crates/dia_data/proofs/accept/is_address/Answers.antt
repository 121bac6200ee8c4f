use Rattle.std.proofs.Common.{◌≡◌, take, refl, ◌∙◌}
use Rattle.dia_data.specs.Number.{number}
use Rattle.dia_data.proofs.Numbers.{big_from-number}
use Rattle.dia_data.proofs.Addresses.{address_from_long}
use Rattle.dia_data.proofs.accept.is_address.Goals as goal

pub returns-else-family-eq2 : goal.returns-else-family-eq2
returns-else-family-eq2 c =
    let bytes = c.args.bytes.now in
    let family : c.read_u16-family.result ≡ number (take 2 bytes) = c.read_u16-family.ensures ∙ big_from-number 2 bytes c.if-bytes-lt2.false in (
      λ t. address_from_long bytes (record {
        family = c.if-bytes-lt2.false;
        ipv4 = λ e. absurd (c.if-family-eq1.false (family ∙ e));
        ipv6 = λ e. absurd (c.if-family-eq2.false (family ∙ e));
      }),
      λ a. refl,
    )
