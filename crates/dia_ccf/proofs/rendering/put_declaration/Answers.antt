use Rattle.std.proofs.Common.{◌≡◌, ℕ, List, ◌++◌, codes, cond, Result, Ok, Err, OnOk, is_ok, string_bytes, encode_utf8, lit<, ap, ◌∙◌, append_assoc}
use Rattle.std.specs.Fmt.{decimal}
use Rattle.dia_ccf.specs.Plain.{plain_decl}
use Rattle.dia_terms.specs.Formats.{format_word}
use Rattle.dia_ccf.specs.Grammar.{rule_word}
use Rattle.dia_ccf.specs.CanonicalText.{vendor_text, values_text, line_feed}
use Rattle.dia_ccf.proofs.rendering.put_declaration.Goals as goal

pushed_last : {T E : Type 0} (r : Result T E) (was more new all : List ℕ) → new ≡ cond (is_ok r) (was ++ more) was → was ++ more ≡ all → OnOk r (new ≡ all)
pushed_last (Ok x) was more new all now same = now ∙ same
pushed_last (Err e) was more new all now same = tt

line-regroup : (was a n s c v f r vs l : List ℕ) → was ++ (a ++ n ++ s ++ c ++ v) ++ (s ++ f ++ s ++ r ++ vs) ++ l ≡ was ++ (a ++ n ++ s ++ c ++ v ++ s ++ f ++ s ++ r ++ vs ++ l)
line-regroup was a n s c v f r vs l = simp append_assoc

pub returns : goal.returns
returns c =
    let was = string_bytes c.args.text.now in
    let d = plain_decl c.args.decl.now in
    let type = codes " " ++ format_word d.format ++ codes " " ++ rule_word d.rule ++ values_text d.values in
    pushed_last c.push.result (string_bytes c.put_type.new.text) (encode_utf8 10) _ _ c.push.ensures.bytes
    (ap (λ feed. string_bytes c.put_type.new.text ++ feed) (c.push.ensures.ascii (lit< tt))
    ∙ ap (λ t. t ++ line_feed) c.in_ok-put_type.ensures
    ∙ ap (λ t. t ++ type ++ line_feed) c.in_ok-put_key.ensures
    ∙ line-regroup was (codes "%avp ") d.name (codes " ") (decimal d.code) (vendor_text d.vendor) (format_word d.format) (rule_word d.rule) (values_text d.values) line_feed)
