use Rattle.dia_breaking.specs.Listing.{meanings_of}
use Rattle.dia_breaking.proofs.OneOwn.{meanings_alike}
use Rattle.dia_breaking.proofs.TheOneList.{one_list_of}
use Rattle.dia_breaking.proofs.laws.the_meanings_are_one.Goals as goal

pub returns : goal.returns
returns c =
    λ s command sites others recorded meanings within first second.
    one_list_of meanings_of meanings_alike s.sender s.receiver s.sends s.unknown command sites others recorded meanings first second
