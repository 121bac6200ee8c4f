use Rattle.std.proofs.Common.{◌≡◌, ◌-◌, length}
use Rattle.dia_text.specs.Drafts.{Level, Occurs}
use Rattle.dia_text.specs.Groups.{group_from, group_at}
use Rattle.dia_text.proofs.groups.group_at.Given as goal

abbrev pub invariant-loop : goal.invariant-loop
invariant-loop g l =
    (level : Level) × Occurs level.outer level.bytes l.out.items l.groups.items
    × (group_from (length l.text - l.counter) l.named l.head level l.rest ≡ group_at l.named l.head l.text)
