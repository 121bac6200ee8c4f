use Rattle.std.proofs.Common.{ℕ, List, map, subst, sym, ◌∙◌}
use Rattle.std.proofs.Math.Logic.{∥∥₁_map}
use Rattle.dia_breaking.specs.Confirmed.{EachConfirmedBreaks}
use Rattle.dia_breaking.specs.Free.{AreValidWhereFree}
use Rattle.dia_breaking.specs.declared.line.Breaks.{Breaks}
use Rattle.dia_breaking.specs.declared.line.Line.{Line}
use Rattle.dia_breaking.specs.declared.line.Site.{Site}
use Rattle.dia_breaking.specs.Listing.{AreUnchecked}
use Rattle.dia_breaking.specs.Corrected.{AreValidOnceCorrected, EachHasMessage}
use Rattle.dia_breaking.specs.Listing.{Recorded, records}
use Rattle.dia_breaking.specs.ShownLines.{EachIsShown, HaveSpellableKeys}
use Rattle.dia_breaking.specs.Sides.{answer, answer_of}
use Rattle.dia_breaking.specs.TheLines.{AreTheLines, HasTheLines}
use Rattle.dia_breaking.specs.TheMeanings.{AreMeaningsOf, AreMeant, AreTheMeanings, HoldsOfLevels}
use Rattle.dia_breaking.specs.RecordedMessages.{AreConfirmedWhere}
use Rattle.dia_breaking.specs.Upgrades.{sides_of, stock_of}
use Rattle.dia_breaking.proofs.EachShown.{each_shown}
use Rattle.dia_breaking.proofs.FormatData.{data_kept}
use Rattle.dia_breaking.proofs.FreeOfLines.{still_corrected, still_valid}
use Rattle.dia_breaking.proofs.Lists.{when_ok, when_three, when_two}
use Rattle.dia_breaking.proofs.StockOfUpgrade.{stock_is}
use Rattle.dia_breaking.proofs.RecordedLists.{records_kept, recorded_kept}
use Rattle.dia_breaking.proofs.upgrade.Upgrade.lines_of.Goals as goal

pub returns : goal.returns
returns g c =
    let s = sides_of c.args.self.now in
    let up = c.args.self.now in
    let k = stock_of up in
    let found = c.in_ok-found.found in
    let own = c.in_ok-found.ensures.command in
    let head = c.in_ok-found.ensures.head in
    record {
      command = when_ok _ _ c.with_standings.result (λ recorded same. same.0 ∙ own) c.with_standings.ensures.same;
      head = when_ok _ _ c.with_standings.result (λ recorded same. (same.1 ∙ head.0, same.2 ∙ head.1)) c.with_standings.ensures.same;
      free = when_two _ _ _ c.with_standings.result
          (λ recorded same kept. ∥∥₁_map c.in_ok-found.ensures.free (λ valid.
          subst (λ (at : List Site). AreValidWhereFree s (answer recorded.command at recorded.lines.items)) (sym same.3)
          (subst (λ (number : ℕ). AreValidWhereFree s (answer number found.sites.items recorded.lines.items)) (sym same.0)
          (still_valid s.sender s.receiver s.unknown found.sites.items found.lines.items recorded.lines.items found.command (recorded_kept recorded.lines.items found.lines.items kept) s.sends valid))))
          c.with_standings.ensures.same c.with_standings.ensures.kept;
      corrected = when_two _ _ _ c.with_standings.result
          (λ recorded same kept. ∥∥₁_map c.in_ok-found.ensures.corrected (λ valid.
          subst (λ (at : List Site). AreValidOnceCorrected s (answer recorded.command at recorded.lines.items)) (sym same.3)
          (subst (λ (number : ℕ). AreValidOnceCorrected s (answer number found.sites.items recorded.lines.items)) (sym same.0)
          (still_corrected s.sender s.receiver s.unknown found.sites.items found.lines.items recorded.lines.items found.command (recorded_kept recorded.lines.items found.lines.items kept) s.sends valid))))
          c.with_standings.ensures.same c.with_standings.ensures.kept;
      lines = when_two _ _ _ c.with_standings.result
          (λ recorded same kept. subst (λ (at : List Site). HasTheLines s (answer recorded.command at recorded.lines.items)) (sym same.3)
          (subst (λ (number : ℕ). HasTheLines s (answer number found.sites.items recorded.lines.items)) (sym same.0)
          (subst (λ (all : List Recorded). ∥ AreTheLines s found.command found.sites.items all ∥₁) (sym (records_kept recorded.lines.items found.lines.items kept)) c.in_ok-found.ensures.lines)))
          c.with_standings.ensures.same c.with_standings.ensures.kept;
      meanings = when_two _ _ _ c.with_standings.result
          (λ recorded same kept. subst (λ (at : List Site). AreMeaningsOf s (answer recorded.command at recorded.lines.items) recorded.meanings.items) (sym same.3)
          (subst (λ (number : ℕ). AreMeaningsOf s (answer number found.sites.items recorded.lines.items) recorded.meanings.items) (sym same.0)
          (subst (λ (meanings : List Line). ∥ AreTheMeanings s found.command found.sites.items (map records meanings) ∥₁) (sym same.4) c.in_ok-found.ensures.meanings)))
          c.with_standings.ensures.same c.with_standings.ensures.kept;
      all_meanings = when_two _ _ _ c.with_standings.result
          (λ recorded same kept. ∥∥₁_map c.in_ok-found.ensures.all_meanings (λ meant.
          subst (λ (meanings : List Line). HoldsOfLevels s (answer_of recorded) (AreMeant s meanings)) (sym same.4)
          (subst (λ (at : List Site). HoldsOfLevels s (answer recorded.command at recorded.lines.items) (AreMeant s found.meanings.items)) (sym same.3)
          (subst (λ (number : ℕ). HoldsOfLevels s (answer number found.sites.items recorded.lines.items) (AreMeant s found.meanings.items)) (sym same.0) meant))))
          c.with_standings.ensures.same c.with_standings.ensures.kept;
      each = when_ok _ _ c.with_standings.result (λ recorded h. subst (λ (number : ℕ). EachConfirmedBreaks s number recorded.lines.items) own h) c.with_standings.ensures.each;
      each_corrected = when_two _ _ _ c.with_standings.result
          (λ recorded same has. subst (λ (at : List Site). EachHasMessage s c.args.command at recorded.lines.items) (sym same.3)
          (subst (λ (number : ℕ). EachHasMessage s number found.sites.items recorded.lines.items) own has))
          c.with_standings.ensures.same c.with_standings.ensures.each_corrected;
      standings = c.with_standings.ensures.standings;
      exactly = when_two _ _ _ c.with_standings.result
          (λ recorded same are. subst (λ (at : List Site). AreConfirmedWhere s (stock_of c.args.self.now) c.args.command at c.args.left.now recorded.lines.items) (sym same.3)
          (subst (λ (number : ℕ). AreConfirmedWhere s (stock_of c.args.self.now) number found.sites.items c.args.left.now recorded.lines.items) own are))
          c.with_standings.ensures.same c.with_standings.ensures.exactly;
      shown = when_three _ _ _ _ c.with_standings.result
          (λ recorded same kept found_so.
          let lines = subst (λ (list : List Recorded). ∥ AreTheLines s found.command found.sites.items list ∥₁) (sym (records_kept recorded.lines.items found.lines.items kept)) c.in_ok-found.ensures.lines in
          let formats = ∥∥₁_map c.in_ok-found.ensures.formats (data_kept s.sender s.receiver s.sends s.unknown found.lines.items recorded.lines.items kept) in
          let shown = each_shown s k found.command found.sites.items recorded.lines.items (g.met.A.Book.sound up.lengths.book.now) (g.met.B.Book.sound up.b.now) (stock_is up) c.in_ok-found.ensures.few lines
          formats found_so.1 c.args.left.now found_so.0 in
          subst (λ (at : List Site). ∥ EachIsShown s k c.args.command at recorded.lines.items ∥₁) (sym same.3)
          (subst (λ (number : ℕ). ∥ EachIsShown s k number found.sites.items recorded.lines.items ∥₁) own shown))
          c.with_standings.ensures.same c.with_standings.ensures.kept
          (when_two _ _ (λ (recorded : Breaks). AreConfirmedWhere s k found.command found.sites.items c.args.left.now recorded.lines.items × HaveSpellableKeys recorded.lines.items) c.with_standings.result
          (λ recorded are spellable. (are, spellable)) c.with_standings.ensures.exactly c.with_standings.ensures.spellable);
      left = c.with_standings.ensures.left;
      unchecked = when_ok _ _ c.with_standings.result (λ recorded same. subst AreUnchecked (sym same.4) c.in_ok-found.ensures.unchecked) c.with_standings.ensures.same;
      formats = when_ok _ _ c.with_standings.result
          (λ recorded kept. ∥∥₁_map c.in_ok-found.ensures.formats (data_kept s.sender s.receiver s.sends s.unknown found.lines.items recorded.lines.items kept)) c.with_standings.ensures.kept;
    }
