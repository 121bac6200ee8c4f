use Rattle.std.proofs.Common.{◌≡◌, ℕ, List, refl, length, get_or, map, sym, ap, subst, ◌∙◌, arith}
use Rattle.std.proofs.lemmas.List.{take_all}
use Rattle.dia_breaking.specs.Confirmed.{HaveStandings, IsConfirmed, IsStandingOf, left_after, left_following}
use Rattle.dia_breaking.specs.Listing.{unchecked}
use Rattle.dia_breaking.specs.Corrected.{HasMessage}
use Rattle.dia_breaking.specs.declared.line.Line.{Line}
use Rattle.dia_breaking.specs.declared.line.Standing.TheVariants.{Confirmed}
use Rattle.dia_breaking.specs.ShownLines.{HasSpellableKey}
use Rattle.dia_breaking.specs.RecordedMessages.{AreConfirmedWhere, IsConfirmedWhere}
use Rattle.dia_breaking.specs.Upgrades.{sides_of, stock_of}
use Rattle.dia_breaking.proofs.Lists.{all_more, image_more, none_of}
use Rattle.dia_breaking.proofs.Standings.{left_more, so_recorded, so_where, standings_more, where_more}
use Rattle.dia_breaking.proofs.upgrade.Upgrade.with_standings.Goals as goal

pub loop-line-init : goal.loop-line-init
loop-line-init g c =
    let up = c.args.self.now in
    let none = c.new-lines.ensures.items in
    record {
      kept = ap (map unchecked) none;
      each = none_of (λ (line : Line). line.standing ≡ Confirmed
          → (bytes : List ℕ) × IsConfirmed (sides_of up) bytes c.args.breaks.command) c.new-lines.result.items none;
      each_corrected = none_of (λ (line : Line). line.standing ≡ Confirmed → HasMessage (sides_of up) c.args.breaks.command c.args.breaks.sites.items line) c.new-lines.result.items none;
      standings = subst (HaveStandings c.args.left.now) (sym none) tt;
      exactly = subst (AreConfirmedWhere (sides_of up) (stock_of up) c.args.breaks.command c.args.breaks.sites.items c.args.left.now) (sym none) tt;
      spellable = none_of (λ (line : Line). HasSpellableKey line.cause) c.new-lines.result.items none;
      left = ap (left_after c.args.left.now) (sym none);
    }

pub loop-line-preserved : goal.loop-line-preserved
loop-line-preserved g c =
    let up = c.args.self.now in
    let old = c.loop-line.lines.items in
    let line = c.line-item.result in
    let is = c.in_ok-push.ensures.items in
    let recorded = record line { standing = c.in_ok-standing.standing } in
    record {
      kept = image_more unchecked old _ c.args.breaks.lines.items c.loop-line.line-index _ line is (omega (arith, ap length c.deref-line-items.ensures.value))
          (ap unchecked c.line-item.is ∙ ap (λ (xs : List Line). unchecked (get_or xs c.loop-line.line-index line)) c.deref-line-items.ensures.value) c.loop-line.invariant.kept;
      each = all_more (λ (line : Line). line.standing ≡ Confirmed
          → (bytes : List ℕ) × IsConfirmed (sides_of up) bytes c.args.breaks.command) old _ _ is c.loop-line.invariant.each
          c.in_ok-standing.ensures.confirmed;
      each_corrected = all_more (λ (line : Line). line.standing ≡ Confirmed → HasMessage (sides_of up) c.args.breaks.command c.args.breaks.sites.items line) old _ _ is
          c.loop-line.invariant.each_corrected c.in_ok-standing.ensures.corrected;
      standings = subst (HaveStandings c.args.left.now) (sym is) (standings_more c.args.left.now old recorded c.loop-line.invariant.standings
          (subst (λ left. IsStandingOf left recorded recorded.standing) c.loop-line.invariant.left (so_recorded c.loop-line.left line recorded.standing c.in_ok-standing.ensures.standing)));
      exactly = subst (AreConfirmedWhere (sides_of up) (stock_of up) c.args.breaks.command c.args.breaks.sites.items c.args.left.now) (sym is)
          (where_more (sides_of up) (stock_of up) c.args.breaks.command c.args.breaks.sites.items c.args.left.now old recorded c.loop-line.invariant.exactly
          (subst (λ left. IsConfirmedWhere (sides_of up) (stock_of up) c.args.breaks.command c.args.breaks.sites.items left recorded recorded.standing) c.loop-line.invariant.left
          (so_where (sides_of up) (stock_of up) c.args.breaks.command c.args.breaks.sites.items c.loop-line.left line recorded.standing c.in_ok-standing.ensures.exactly)));
      spellable = all_more (λ (line : Line). HasSpellableKey line.cause) old _ _ is c.loop-line.invariant.spellable c.spell_key.ensures;
      left = c.left_following.ensures ∙ ap (λ left. left_following left line) c.loop-line.invariant.left
          ∙ sym (left_more c.args.left.now old recorded) ∙ ap (left_after c.args.left.now) (sym is);
    }

pub returns-clause-kept : goal.returns-clause-kept
returns-clause-kept g c = c.loop-line.invariant.kept ∙ ap (map unchecked) (take_all c.loop-line.line-index c.args.breaks.lines.items (omega (arith, ap length c.deref-line-items.ensures.value)))

pub returns-clause-each : goal.returns-clause-each
returns-clause-each g c = c.loop-line.invariant.each

pub returns-clause-each_corrected : goal.returns-clause-each_corrected
returns-clause-each_corrected g c = c.loop-line.invariant.each_corrected

pub returns-clause-standings : goal.returns-clause-standings
returns-clause-standings g c = c.loop-line.invariant.standings

pub returns-clause-exactly : goal.returns-clause-exactly
returns-clause-exactly g c = c.loop-line.invariant.exactly

pub returns-clause-spellable : goal.returns-clause-spellable
returns-clause-spellable g c = c.loop-line.invariant.spellable

pub returns-clause-left : goal.returns-clause-left
returns-clause-left g c = c.loop-line.invariant.left

pub returns-clause-same : goal.returns-clause-same
returns-clause-same g c = (refl, refl, refl, refl, refl)
