use Rattle.std.proofs.Common.{◌≡◌, map, take}
use Rattle.dia_breaking.specs.Sites.{command_site}
use Rattle.dia_breaking.proofs.sites.command_sites.Given as goal

abbrev pub invariant-loop-reading : goal.invariant-loop-reading
invariant-loop-reading g l = l.sites.items ≡ map (command_site (g.B.Book.meaning l.b) l.head) (take l.reading-index l.readings)
