use Rattle.std.proofs.Common.{◌≡◌, length}
use Rattle.dia_segments.specs.Links.{untagged}
use Rattle.dia_segments.proofs.link.skip_tags.Given as goal

abbrev pub invariant-loop-next : goal.invariant-loop-next
invariant-loop-next l = untagged l.initial.kind l.initial.rest ≡ untagged l.kind l.rest

abbrev pub decreases-loop-next : goal.decreases-loop-next
decreases-loop-next l = length l.rest
