use Rattle.std.proofs.Common.{[], ◌∷◌, Bool, cond, ap, inl, refl, sym, ◌∙◌}
use Rattle.std.proofs.lemmas.List.{append-nil}
use Rattle.dia_breaking.specs.Upgrades.{other_length_of, sides_of, stock_of}
use Rattle.dia_breaking.proofs.MessageBytes.{some_bytes}
use Rattle.dia_upgrades.specs.Recorded.{has_message, row_of, says_of, written}
use Rattle.dia_upgrades.specs.Writing.{line_in}
use Rattle.dia_upgrades.specs.UnderWay.{IsMessageIn, plain_digits}
use Rattle.dia_upgrades.proofs.LinesToReport.{digits_after, sees_accepted, sees_left}
use Rattle.dia_upgrades.proofs.Listings.{could_be}
use Rattle.dia_upgrades.proofs.showing.see_line.Goals as goal
use Rattle.dia_upgrades.specs.Rows.{recorded_of, tolds}
use Rattle.dia_upgrades.proofs.Rows.{come_cause, none_stored, stored_more}

pub returns-then-known : goal.returns-then-known
returns-then-known g c =
    let up = c.args.upgrade.now in
    let place = c.args.place in
    let asked = c.args.asked in
    let line = c.args.line.now in
    let says = says_of (sides_of up) (other_length_of up) c.args.breaks.now.command c.args.breaks.now.sites.items in
    let made = rw c.new-words.ensures.bytes at c.in_ok-push_words.ensures.words in
    let recorded = c.as_str-recorded.ensures.value ∙ made in
    let some = some_bytes (sides_of up) (stock_of up) c.args.breaks.now.command c.args.breaks.now.sites.items line in
    let t = row_of place (says line) (digits_after (has_message asked.messages line.standing) some.0) in
    let judged = c.in_ok-known.ensures in (
      t,
      could_be place asked.messages says (IsMessageIn up c.args.breaks.now) line some.0 (some.1, some.2),
      sees_accepted (g.W.LineWriter.writes c.args.writer.now) asked place c.args.seen.now c.judge.new.self t c.as_str-recorded.result.now c.in_ok-known.known (sym recorded) judged.accepted judged.judged judged.causes judged.meanings judged.firsts c.if-known.true,
    )

pub returns-then-asked : goal.returns-then-asked
returns-then-asked g c =
    let up = c.args.upgrade.now in
    let place = c.args.place in
    let asked = c.args.asked in
    let line = c.args.line.now in
    let says = says_of (sides_of up) (other_length_of up) c.args.breaks.now.command c.args.breaks.now.sites.items in
    let made = rw c.new-words.ensures.bytes at c.in_ok-push_words.ensures.words in
    let recorded = c.as_str-recorded.ensures.value ∙ made in
    let stored = c.in_ok-store_first.ensures (says line) refl (sym recorded) in
    let t = row_of place (says line) stored.digits in
    let judged = c.in_ok-known.ensures in
    let once = c.if-asked.true in (
      t,
      (stored.digits, stored.is_after, refl),
      sees_left (g.W.LineWriter.writes c.args.writer.now) asked place c.args.seen.now c.judge.new.self t c.as_str-recorded.result.now c.in_ok-known.known (sym recorded) judged.accepted judged.judged judged.causes judged.meanings judged.firsts _ [] c.if-known.false refl refl refl refl refl
          (λ forgets before visits small are.
          come_cause forgets c.add.new.self before t place visits (c.in_ok-add.ensures forgets (tolds before) (recorded_of t) visits small refl (sym recorded) (inl (sym c.new-none.ensures.bytes)) are))
          (λ forgets before visits are same. stored_more asked before t _ _ once (stored.is_stored forgets (tolds before) place visits are) same)
          (sym (ap (λ (b : Bool). cond b [] (written (g.W.LineWriter.writes c.args.writer.now) (t ∷ []))) once)),
    )

pub returns : goal.returns
returns g c =
    let up = c.args.upgrade.now in
    let place = c.args.place in
    let asked = c.args.asked in
    let line = c.args.line.now in
    let says = says_of (sides_of up) (other_length_of up) c.args.breaks.now.command c.args.breaks.now.sites.items in
    let made = rw c.new-words.ensures.bytes at c.in_ok-push_words.ensures.words in
    let recorded = c.as_str-recorded.ensures.value ∙ made in
    let following = plain_digits c.in_ok-digits.digits in
    let t = row_of place (says line) following in
    let judged = c.in_ok-known.ensures in
    let each = c.if-asked.false in (
      t,
      (following, c.in_ok-digits.ensures, refl),
      sees_left (g.W.LineWriter.writes c.args.writer.now) asked place c.args.seen.now c.judge.new.self t c.as_str-recorded.result.now c.in_ok-known.known (sym recorded) judged.accepted judged.judged judged.causes judged.meanings judged.firsts _ _ c.if-known.false refl refl refl refl refl
          (λ forgets before visits small are.
          come_cause forgets c.add-2.new.self before t place visits (c.in_ok-add-2.ensures forgets (tolds before) (recorded_of t) visits small refl (sym recorded) (inl (sym c.new-none.ensures.bytes)) are))
          (λ forgets before visits are same. none_stored asked before t _ each same)
          (c.in_ok-shown.ensures place (says line) refl (sym recorded) ∙ sym (append-nil (line_in (g.W.LineWriter.writes c.args.writer.now) t)) ∙ sym (ap (λ (b : Bool). cond b [] (written (g.W.LineWriter.writes c.args.writer.now) (t ∷ []))) each)),
    )
