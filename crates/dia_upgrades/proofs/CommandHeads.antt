-- The heads of commands.
use Rattle.std.proofs.Common.{ℕ, ◌+◌, ◌<◌, length, Option, refl, sym, subst, ◌∙◌}
use Rattle.std.specs.Prelude.{IsSome, option_and_then}
use Rattle.std.proofs.lemmas.List.Elements.{All-contains}
use Rattle.dia_book.specs.declared.DefHead.{DefHead}
use Rattle.dia_book.specs.declared.DefHead.TheVariants.{Command, Error, Group}
use Rattle.dia_book.specs.Dictionary.{Dictionary, PlainDefinition, IsDictionary, IsCommandHead, groups}
use Rattle.dia_book.proofs.NumberedGroups.{slice_get-append_right}
use Rattle.dia_breaking_sites.proofs.Members.{contains_in, in_at}
use Rattle.dia_valid.proofs.Members.{there_is}
use Rattle.dia_breaking.specs.Headers.{head_in}
use Rattle.dia_breaking.specs.Words.{head_at}

has_head : (head : DefHead) → IsCommandHead head → IsSome (head_in head)
has_head (Group key) is = absurd is
has_head (Command code class app p) is = refl
has_head (Error p) is = refl

-- a command has a head, at its place behind the groups
pub head_occurs : (d : Dictionary) (sound : IsDictionary d) (place : ℕ) → place < length d.commands → IsSome (head_at d (length (groups d) + place))
head_occurs d sound place less =
    let x = there_is d.commands place less in
    let head = All-contains (λ (c : PlainDefinition). IsCommandHead c.head) d.commands x.0 sound.command_heads (contains_in d.commands x.0 (in_at d.commands place x.0 x.1)) in
    subst (λ (o : Option PlainDefinition). IsSome (option_and_then (λ y. head_in y.head) o)) (sym (slice_get-append_right (groups d) d.commands place ∙ x.1)) (has_head x.0.head head)
