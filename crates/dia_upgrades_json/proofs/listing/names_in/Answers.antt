use Rattle.dia_upgrades_json.proofs.listing.names_in.Goals as goal

pub returns : goal.returns
returns c = record { first_are = rw c.deref.ensures at c.in_ok-first.ensures; second_are = rw c.deref-2.ensures at c.in_ok-second.ensures; texts_are = c.in_ok-texts.ensures }
