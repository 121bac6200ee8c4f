use Rattle.std.proofs.Common.{◌++◌, codes, string_bytes, ap, ◌∙◌}
use Rattle.dia_breaking.specs.Words.{flag_word}
use Rattle.dia_breaking.proofs.ValueTexts.{pushed_last, regrouped}
use Rattle.dia_breaking.proofs.words.push_proxiable.Goals as goal

pub returns : goal.returns
returns c =
    let was = string_bytes c.args.out.now in
    let front = codes "proxiable -: P " in
    let back = codes " sent" in
    pushed_last c.push_str-3.result (string_bytes c.push_str-2.new.self) back _ _ c.push_str-3.ensures.bytes
    (ap (λ t. t ++ back) (c.in_ok-push_str-2.ensures.bytes ∙ ap (λ t. t ++ c.flag_word.result.now) c.in_ok-push_str.ensures.bytes)
    ∙ ap (λ word. was ++ front ++ word ++ back) c.flag_word.ensures ∙ regrouped was front (flag_word c.args.set) back)
