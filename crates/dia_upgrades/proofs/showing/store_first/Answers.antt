use Rattle.std.proofs.Common.{[], ◌∷◌, ◌++◌, Bool, ap, cond, map, sym, ◌∙◌}
use Rattle.std.specs.List.{list_any}
use Rattle.std.proofs.lemmas.List.{append-nil, map-append}
use Rattle.dia_accepted.specs.Causes.{has_cause}
use Rattle.dia_accepted.specs.Words.{cause_text}
use Rattle.dia_breaking.specs.Upgrades.{sides_of, stock_of}
use Rattle.dia_breaking.proofs.MessageBytes.{some_bytes}
use Rattle.dia_upgrades.specs.Recorded.{Says, has_message, row_of}
use Rattle.dia_upgrades.specs.Rows.{FirstLine, first_of}
use Rattle.dia_upgrades.specs.UnderWay.{IsMessageIn, plain_digits, plain_first}
use Rattle.dia_upgrades.proofs.LinesToReport.{digits_after, occurs_after}
use Rattle.dia_upgrades.proofs.showing.store_first.Goals as goal

pub returns-then-has : goal.returns-then-has
returns-then-has g c = λ says is same.
    let up = c.args.upgrade.now in
    let line = c.args.line.now in
    let has = has_message c.args.messages line.standing in
    let some = some_bytes (sides_of up) (stock_of up) c.args.breaks.now.command c.args.breaks.now.sites.items line in
    let old = map plain_first c.args.firsts.now.items in
    let digits = digits_after has some.0 in
    record {
      digits = digits;
      is_after = occurs_after (IsMessageIn up c.args.breaks.now line) has some.0 (some.1, some.2);
      is_stored = λ forgets recorded command visits are.
          let known = ap (λ w. list_any (has_cause (cause_text w)) recorded) same ∙ sym (c.has.ensures forgets recorded command visits are) ∙ c.if-has.true in
          sym (append-nil old) ∙ sym (ap (λ (b : Bool). old ++ cond b [] (first_of (row_of 0 says digits) ∷ [])) known);
    }

pub returns : goal.returns
returns g c = λ says is same.
    let old = map plain_first c.args.firsts.now.items in
    let digits = plain_digits c.in_ok-digits.digits in
    let made : FirstLine = record { words = c.args.words.now; parts = says.parts; digits = digits } in
    record {
      digits = digits;
      is_after = c.in_ok-digits.ensures;
      is_stored = λ forgets recorded command visits are.
          let new = ap (λ w. list_any (has_cause (cause_text w)) recorded) same ∙ sym (c.has.ensures forgets recorded command visits are) ∙ c.if-has.false in
          ap (map plain_first) c.in_ok-push.ensures.items ∙ map-append plain_first c.args.firsts.now.items _
          ∙ (λ i. old ++ (record { words = (c.in_ok-words.ensures.ok ∙ sym same) i; parts = (c.in_ok-parts.ensures ∙ sym (ap (λ (s : Says). s.parts) is)) i; digits = digits } ∷ []))
          ∙ sym (ap (λ (b : Bool). old ++ cond b [] (first_of (row_of 0 says digits) ∷ [])) new);
    }
