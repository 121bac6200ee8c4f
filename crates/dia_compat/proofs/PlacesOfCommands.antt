-- The numbers of commands among the definitions of a dictionary.
use Rattle.std.proofs.Common.{◌≡◌, ◌<◌, ◌+◌, ℕ, Some, length, ap, arith}
use Rattle.std.specs.Prelude.{slice_get}
use Rattle.std.proofs.lemmas.List.{length-append}
use Rattle.dia_book.specs.Dictionary.{Dictionary, IsCommandHead, IsDictionary, PlainDefinition, definitions, groups}
use Rattle.dia_valid.proofs.Members.{all_of, in_at}
use Rattle.dia_valid.proofs.SelectedCommands.{command_at}

-- a command's number is one of a definition
pub within : (d e : Dictionary) (k i : ℕ) → d ≡ e → k ≡ length (groups d) + i → i < length e.commands → k < length (definitions e)
within d e k i same at below = omega (arith, ap (λ (x : Dictionary). length (groups x)) same, at, below, length-append (groups e) e.commands)

-- what is there has the header of a command
pub command_head : (d : Dictionary) (k i : ℕ) (x : PlainDefinition) → IsDictionary d → k ≡ length (groups d) + i → slice_get (definitions d) k ≡ Some x → IsCommandHead x.head
command_head d k i x sound number at =
    all_of (λ (y : PlainDefinition). IsCommandHead y.head) d.commands x sound.command_heads (in_at d.commands i x (command_at d i k x number at))
