use Rattle.dia_breaking_ways.proofs.ListedPlaces.{listed_found}
use Rattle.dia_breaking_ways.proofs.stages.Stage.lists.Goals as goal

pub returns : goal.returns
returns c = listed_found c.deref.result.now c.args.self.now.places.items c.args.place c.binary_search.result c.is_ok.result c.deref.ensures.value c.is_ok.ensures.value c.requires
    c.binary_search.ensures.position
