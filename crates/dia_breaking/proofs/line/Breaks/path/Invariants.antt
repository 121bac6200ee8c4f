use Rattle.std.proofs.Common.{◌≡◌, ◌≤◌, ◌++◌, length, reverse}
use Rattle.dia_breaking.specs.Words.{path_to, path_below}
use Rattle.dia_breaking.proofs.line.Breaks.path.Given as goal

abbrev pub invariant-loop-wanted : goal.invariant-loop-wanted
invariant-loop-wanted l = record {
  within : l.below ≤ length l.self.sites.items;
  rest : path_below l.self.sites.items l.below l.wanted ++ reverse l.path.items ≡ path_to l.self.sites.items l.fn.site;
}

abbrev pub decreases-loop-wanted : goal.decreases-loop-wanted
decreases-loop-wanted l = l.below
