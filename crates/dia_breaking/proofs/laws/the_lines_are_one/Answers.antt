use Rattle.dia_breaking.specs.Listing.{lines_of}
use Rattle.dia_breaking.proofs.OneOwn.{lines_alike}
use Rattle.dia_breaking.proofs.TheOneList.{one_list_of}
use Rattle.dia_breaking.proofs.laws.the_lines_are_one.Goals as goal

pub returns : goal.returns
returns c =
    λ s command sites others recorded lines within first second. one_list_of lines_of lines_alike s.sender s.receiver s.sends s.unknown command sites others recorded lines first second
