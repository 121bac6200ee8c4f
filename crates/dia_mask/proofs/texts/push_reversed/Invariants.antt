use Rattle.std.proofs.Common.{◌≡◌, ◌++◌, length, reverse, encode_utf8_all}
use Rattle.std.specs.Prelude.{string_bytes}
use Rattle.dia_mask.proofs.texts.push_reversed.Given as goal

abbrev pub invariant-loop-character : goal.invariant-loop-character
invariant-loop-character l = string_bytes l.out ++ encode_utf8_all (reverse l.characters.items) ≡ string_bytes l.fn.out ++ encode_utf8_all (reverse l.fn.characters.items)

abbrev pub decreases-loop-character : goal.decreases-loop-character
decreases-loop-character l = length l.characters.items
