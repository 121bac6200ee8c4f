use Rattle.std.proofs.Common.{◌++◌, ◌∷◌, [], map, ap, ◌∙◌}
use Rattle.std.specs.Option.{option_copied}
use Rattle.std.proofs.lemmas.List.{map-append}
use Rattle.dia_lint_text.specs.Asking.{words_from}
use Rattle.dia_lint_text.proofs.Commas.{pushed_cut, pushed_whole}
use Rattle.dia_lint_text.proofs.choice.push_word.Goals as goal

pub returns-in_ok-push-in-Some-split_at_comma-clause-added : goal.returns-in_ok-push-in-Some-split_at_comma-clause-added
returns-in_ok-push-in-Some-split_at_comma-clause-added c =
    let old = c.args.words.now.items in
    let word = c.in-Some-split_at_comma.word in
    let following = c.in-Some-split_at_comma.following.now in
    ap (λ ws. ws ++ words_from [] following) (ap (map (λ w. w.now)) c.in_ok-push-in-Some-split_at_comma.ensures.items ∙ map-append (λ w. w.now) old (word ∷ []))
    ∙ pushed_cut (map (λ w. w.now) old) c.in-Some.list.now word.now following (option_copied c.args.rest) (ap option_copied c.in-Some.is) c.in-Some-split_at_comma.ensures

pub returns-in_ok-push-in-None-clause-added : goal.returns-in_ok-push-in-None-clause-added
returns-in_ok-push-in-None-clause-added c =
    let old = c.args.words.now.items in
    let list = c.in-Some.list in
    ap (λ ws. ws ++ []) (ap (map (λ w. w.now)) c.in_ok-push-in-None.ensures.items ∙ map-append (λ w. w.now) old (list ∷ []))
    ∙ pushed_whole (map (λ w. w.now) old) list.now (option_copied c.args.rest) (ap option_copied c.in-Some.is) c.in-None.ensures
