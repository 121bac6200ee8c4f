-- Parts of lines that are the same.
use Rattle.std.proofs.Common.{◌≡◌, ℕ, List, Bool, Option, ap, ◌∙◌}
use Rattle.dia_differences.specs.declared.lines.Effects.{Effects}
use Rattle.dia_diff_text.specs.Lines.{LineParts}

pub same_parts : (p q : LineParts) → p.is_command ≡ q.is_command → p.name ≡ q.name → p.field ≡ q.field → p.first ≡ q.first → p.second ≡ q.second → p.there ≡ q.there → p.back ≡ q.back → p ≡ q
same_parts p q command name field first second there back =
    let f1 : Bool → LineParts = λ v. record { is_command = v; name = p.name; field = p.field; first = p.first; second = p.second; there = p.there; back = p.back } in
    let f2 : List ℕ → LineParts = λ v. record { is_command = q.is_command; name = v; field = p.field; first = p.first; second = p.second; there = p.there; back = p.back } in
    let f3 : Option (List ℕ) → LineParts = λ v. record { is_command = q.is_command; name = q.name; field = v; first = p.first; second = p.second; there = p.there; back = p.back } in
    let f4 : Option (List ℕ) → LineParts = λ v. record { is_command = q.is_command; name = q.name; field = q.field; first = v; second = p.second; there = p.there; back = p.back } in
    let f5 : Option (List ℕ) → LineParts = λ v. record { is_command = q.is_command; name = q.name; field = q.field; first = q.first; second = v; there = p.there; back = p.back } in
    let f6 : Effects → LineParts = λ v. record { is_command = q.is_command; name = q.name; field = q.field; first = q.first; second = q.second; there = v; back = p.back } in
    let f7 : Effects → LineParts = λ v. record { is_command = q.is_command; name = q.name; field = q.field; first = q.first; second = q.second; there = q.there; back = v } in
    ap f1 command ∙ ap f2 name ∙ ap f3 field ∙ ap f4 first ∙ ap f5 second ∙ ap f6 there ∙ ap f7 back
