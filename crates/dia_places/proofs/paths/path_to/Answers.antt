use Rattle.std.proofs.Common.{sym, ◌∙◌}
use Rattle.dia_book.specs.Dictionary.{plain_definition}
use Rattle.dia_places.proofs.NamedPaths.{name_here, path_names}
use Rattle.dia_places.proofs.paths.path_to.Goals as goal

pub returns : goal.returns
returns g c =
    let d = g.B.Book.meaning c.args.book.now in
    path_names d c.args.reached.now c.args.last c.new-names.result.items c.push.new.self.items c.push_around.new.names.items c.reverse.new.self.items c.as_str.result c.new-names.ensures.items
    c.in_ok-push.ensures.items (c.as_str.ensures.value ∙ sym (name_here d c.args.last.def (plain_definition c.def.result.now) c.def.ensures)) c.in_ok-push_around.ensures c.reverse.ensures.items
