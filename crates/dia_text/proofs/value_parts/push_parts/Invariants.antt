use Rattle.std.proofs.Common.{map, ℕ, List, Bor}
use Rattle.dia_text.specs.ValueParts.{part_bytes}
use Rattle.dia_text.proofs.PartsOfTexts.{IsReadUpTo}
use Rattle.dia_text.proofs.value_parts.push_parts.Given as goal

abbrev pub invariant-loop-text : goal.invariant-loop-text
invariant-loop-text l = IsReadUpTo (part_bytes l.part) (map (λ (x : Bor (List ℕ)). x.now) l.texts) l.text-index l.fn.out.items l.out.items
