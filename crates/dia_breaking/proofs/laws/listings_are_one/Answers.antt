use Rattle.dia_breaking.specs.Listing.{lines_of}
use Rattle.dia_breaking.proofs.OneListing.{one_listing}
use Rattle.dia_breaking.proofs.laws.listings_are_one.Goals as goal

pub returns : goal.returns
returns c = λ db basis sites others recorded lines first second. one_listing lines_of db basis sites others recorded lines first second
