use Rattle.std.proofs.Common.{◌≡◌, ◌++◌, string_bytes, take}
use Rattle.dia_breaking.specs.Upgrades.{sides_of}
use Rattle.dia_breaking.specs.Words.{path_text}
use Rattle.dia_breaking.proofs.upgrade.Upgrade.push_path.Given as goal

abbrev pub invariant-loop-site : goal.invariant-loop-site
invariant-loop-site g l = string_bytes l.out ≡ string_bytes l.initial.out ++ path_text (sides_of l.self) l.command (take l.site-index l.path)
