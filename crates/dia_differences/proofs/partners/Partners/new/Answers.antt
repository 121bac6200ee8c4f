use Rattle.dia_differences.proofs.PartnerPlaces.{same_matches}
use Rattle.dia_differences.proofs.partners.Partners.new.Goals as goal

pub returns : goal.returns
returns g c = same_matches _ _ c.in_ok-avps.ensures.there c.in_ok-avps.ensures.back c.in_ok-commands.ensures.there c.in_ok-commands.ensures.back
