-- The findings of commands without messages and of groups without AVPs, once all are added.
use Rattle.std.proofs.Common.{◌≡◌, ℕ, List, [], ◌++◌, length, None, sym, ap, subst, ◌∙◌}
use Rattle.std.proofs.lemmas.List.{append-nil}
use Rattle.dia_wire.specs.declared.Key.{Key}
use Rattle.dia_book.specs.Dictionary.{Dictionary, groups}
use Rattle.dia_terms.specs.declared.Sends.{Sends}
use Rattle.dia_terms.specs.declared.Unknown.{Unknown}
use Rattle.dia_lint.specs.declared.finding.Finding.{Finding}
use Rattle.dia_lint.specs.declared.finding.Subject.{Subject}
use Rattle.dia_lint.specs.declared.rule.Rule.{Rule}
use Rattle.dia_lint.specs.Costs.{level_of, sender_of}
use Rattle.dia_lint.specs.Exact.{AreOfMessages, is_no_level, is_no_message, reported}
use Rattle.dia_lint.specs.Gathered.{Adds, long_commands, long_groups, ways_in}
use Rattle.dia_lint.proofs.Added.{adds_more, adds_then, of_messages_list}

-- these are reported of a dictionary
abbrev pub AreReported : Dictionary → Sends → List ℕ → List Key → List Finding → Type 0
AreReported d sends lengths others found = (reported is_no_message found ≡ long_commands (level_of d sends lengths others) (length (groups d)) (length d.commands))
    × (reported is_no_level found ≡ long_groups d lengths (length d.entries)) × AreOfMessages found

pub all_reported : (d book : Dictionary) (u : Unknown) (sends : Sends) (lengths : List ℕ) (others : List Key) (v w x : List (Rule × Subject)) (none first second last : List Finding) → book ≡ d
    → sends ≡ sender_of u → none ≡ []
    → Adds [] (long_groups book lengths (length book.entries)) v none first
    → Adds (long_commands (level_of book sends lengths others) (length (groups book)) (length book.commands)) [] w first second → Adds [] [] x second last
    → AreReported d (sender_of u) lengths others last × (ways_in last ≡ (v ++ w) ++ x)
all_reported d book u sends lengths others v w x none first second last is_book is_sends is_none of_groups of_commands aside =
    let commands = long_commands (level_of book sends lengths others) (length (groups book)) (length book.commands) in
    let levels = long_groups book lengths (length book.entries) in
    let all = adds_then ([] ++ commands) (levels ++ []) (v ++ w) x none second last (adds_more [] levels commands [] v w none first second of_groups of_commands) aside in
    let here : AreReported book sends lengths others last = (
      all.of_messages ∙ ap (λ (xs : List Finding). reported is_no_message xs ++ commands) is_none,
      all.of_levels ∙ ap (λ (xs : List Finding). reported is_no_level xs ++ (levels ++ [])) is_none ∙ append-nil levels,
      all.rules (subst AreOfMessages (sym is_none) (of_messages_list None tt)),
    ) in (
      subst (λ (s : Sends). AreReported d s lengths others last) is_sends (subst (λ (b : Dictionary). AreReported b sends lengths others last) is_book here),
      all.of_ways ∙ ap (λ (xs : List Finding). ways_in xs ++ ((v ++ w) ++ x)) is_none,
    )
