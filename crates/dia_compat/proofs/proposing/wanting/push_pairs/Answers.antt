use Rattle.std.proofs.Common.{◌≡◌, ◌≢◌, ◌+◌, ℕ, List, [], ◌∷◌, ◌++◌, String, length, map, arith, ap, ◌∙◌}
use Rattle.std.specs.Global.{Global}
use Rattle.std.proofs.lemmas.List.{append-nil, length-append, length-map}
use Rattle.dia_book.specs.Dictionary.{PlainDefinition, plain_definition}
use Rattle.dia_compat.specs.TableText.{plain_pair}
use Rattle.dia_compat.specs.WantedNames.{AddsPairs, or_alone, wanted_names}
use Rattle.dia_compat.proofs.proposing.wanting.push_pairs.Goals as goal

abbrev Pairs : Type 0
Pairs = List (String Global × String Global)

-- each name adds a pair
longer : (c : PlainDefinition) (names : List (List ℕ)) (old new : Pairs) → AddsPairs c names old new → length new ≡ length old + length names
longer c names old new h =
    let pair : List ℕ → List ℕ × List ℕ = λ name. (c.name, name) in
    omega (arith, length-map new plain_pair, length-map old plain_pair, length-map names pair, ap length h, length-append (map plain_pair old) (map pair names))

-- with names, its own is not added
beside : (c : PlainDefinition) (names : List (List ℕ)) (old new : Pairs) → AddsPairs c names old new → length new ≢ length old → AddsPairs c (or_alone c.name names) old new
beside c [] old new h other = absurd (other (omega (arith, longer c [] old new h)))
beside c (n ∷ ns) old new h other = h

-- without one, it is
alone : (c : PlainDefinition) (names : List (List ℕ)) (old mid new : Pairs) → AddsPairs c names old mid → length mid ≡ length old → map plain_pair new ≡ map plain_pair mid ++ (c.name, c.name) ∷ []
    → AddsPairs c (or_alone c.name names) old new
alone c [] old mid new h same at = at ∙ ap (λ (ps : List (List ℕ × List ℕ)). ps ++ (c.name, c.name) ∷ []) (h ∙ append-nil (map plain_pair old))
alone c (n ∷ ns) old mid new h same at = absurd (omega (arith, longer c (n ∷ ns) old mid h, same))

pub returns-in_ok-push_pair : goal.returns-in_ok-push_pair
returns-in_ok-push_pair g c =
    let command = plain_definition c.args.command.now in
    alone command (wanted_names c.args.commands.now command.head) c.args.pairs.now.items c.push_wanted.new.pairs.items c.push_pair.new.pairs.items c.in_ok-push_wanted.ensures
    (omega (arith, c.push_wanted.new.pairs.ok.0, c.args.pairs.now.ok.0, c.len.ensures, c.if-len-before.true, c.len-before.ensures))
    (c.in_ok-push_pair.ensures ∙ ap (λ (ps : List (List ℕ × List ℕ)). map plain_pair c.push_wanted.new.pairs.items ++ ps)
    (ap (λ (n : List ℕ). (n, c.as_str-then-len-before.result.now) ∷ []) c.as_str.ensures.value ∙ ap (λ (n : List ℕ). (command.name, n) ∷ []) c.as_str-then-len-before.ensures.value))

pub returns-else-len-before : goal.returns-else-len-before
returns-else-len-before g c =
    let command = plain_definition c.args.command.now in
    beside command (wanted_names c.args.commands.now command.head) c.args.pairs.now.items c.push_wanted.new.pairs.items c.in_ok-push_wanted.ensures
    (λ e. c.if-len-before.false (omega (arith, c.push_wanted.new.pairs.ok.0, c.args.pairs.now.ok.0, c.len.ensures, e, c.len-before.ensures)))
