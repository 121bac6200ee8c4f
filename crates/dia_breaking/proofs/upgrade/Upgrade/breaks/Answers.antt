use Rattle.std.proofs.Common.{◌≡◌, ℕ, List, Option, is_some, sym, refl, ap, subst, true≢false, ◌∙◌}
use Rattle.std.specs.Prelude.{IfOk, IfSome, slice_get}
use Rattle.std.proofs.Math.Logic.{∥∥₁_map}
use Rattle.dia_book.specs.Dictionary.{definitions, PlainDefinition}
use Rattle.dia_valid.proofs.Members.{there_is, at_some}
use Rattle.dia_breaking.specs.Confirmed.{HaveStandings, IsConfirmed, left_after}
use Rattle.dia_breaking.specs.declared.heads.Head.{Head}
use Rattle.dia_breaking.specs.Free.{AllAreValid}
use Rattle.dia_breaking.specs.Headers.{head_in}
use Rattle.dia_breaking.specs.Corrected.{HasMessage}
use Rattle.dia_breaking.specs.OwnBreaks.{RecordsData}
use Rattle.dia_breaking.specs.ShownLines.{IsShown}
use Rattle.dia_breaking.specs.TheLines.{IsOfHead}
use Rattle.dia_breaking.specs.RecordedMessages.{AreConfirmedWhere}
use Rattle.dia_breaking.specs.Upgrades.{sides_of, stock_of}
use Rattle.dia_breaking.specs.declared.line.Line.{Line}
use Rattle.dia_breaking.specs.declared.line.Standing.TheVariants.{Confirmed, Unchecked}
use Rattle.dia_breaking.specs.Words.{head_at}
use Rattle.dia_breaking.proofs.AllMeanings.{none_meant}
use Rattle.dia_breaking.proofs.FoundLines.{head_there, none_there}
use Rattle.dia_breaking.proofs.FreeOfLines.{all_valid, nothing_recorded, unsent_corrected, unsent_valid}
use Rattle.dia_breaking.proofs.Lists.{none_of, when_ok, when_two}
use Rattle.dia_breaking.proofs.StockOfUpgrade.{stock_is}
use Rattle.dia_breaking.proofs.TooLong.{no_message_of_group}
use Rattle.dia_breaking.proofs.upgrade.Upgrade.breaks.Goals as goal

pub lines_of-requires : goal.lines_of-requires
lines_of-requires g c =
    let da = (sides_of c.args.self.now).sender in
    let x = there_is (definitions da) c.args.command c.requires in (
      x.0,
      x.1,
      sym (at_some (λ (y : PlainDefinition). c.head_of.result ≡ head_in y.head) (slice_get (definitions da) c.args.command) x.0 c.head_of.ensures x.1) ∙ c.in-Some.is,
    )

pub returns-in-Some-clause-all : goal.returns-in-Some-clause-all
returns-in-Some-clause-all g c =
    let s = sides_of c.args.self.now in
    when_two _ _ _ c.lines_of.result (λ recorded own free none. ∥∥₁_map free (λ valid.
    subst (λ (number : ℕ). AllAreValid s number) own (nothing_recorded s.sender s.receiver s.sends s.unknown recorded.sites.items recorded.lines.items recorded.command valid none)))
    c.lines_of.ensures.command c.lines_of.ensures.free

pub returns-in-Some-clause-lines : goal.returns-in-Some-clause-lines
returns-in-Some-clause-lines g c = when_ok _ _ c.lines_of.result (λ recorded lines some. lines) c.lines_of.ensures.lines

pub returns-in-Some-clause-meanings : goal.returns-in-Some-clause-meanings
returns-in-Some-clause-meanings g c = when_ok _ _ c.lines_of.result (λ recorded meanings some. meanings) c.lines_of.ensures.meanings

pub returns-in-Some-clause-no_meanings : goal.returns-in-Some-clause-no_meanings
returns-in-Some-clause-no_meanings g c =
    let s = sides_of c.args.self.now in
    when_ok _ _ c.lines_of.result (λ recorded all none. ∥∥₁_map all
    (none_meant s.sender s.receiver s.sends s.unknown recorded.command recorded.sites.items recorded.lines.items recorded.meanings.items none)) c.lines_of.ensures.all_meanings

pub returns-in-Some-clause-head : goal.returns-in-Some-clause-head
returns-in-Some-clause-head g c =
    let da = (sides_of c.args.self.now).sender in
    let at = head_there da c.args.command c.head_of.result c.requires c.head_of.ensures ∙ c.in-Some.is in
    subst (λ (o : Option Head). IfSome o (λ head. IfOk c.lines_of.result (λ breaks. IsOfHead breaks head))) (sym at) c.lines_of.ensures.head

pub returns-in-Some-clause-none : goal.returns-in-Some-clause-none
returns-in-Some-clause-none g c = λ none.
    let da = (sides_of c.args.self.now).sender in
    let at = head_there da c.args.command c.head_of.result c.requires c.head_of.ensures ∙ c.in-Some.is in
    absurd (true≢false (ap (λ (o : Option Head). is_some o) (sym at ∙ none)))

pub returns-in-Some-clause-stock : goal.returns-in-Some-clause-stock
returns-in-Some-clause-stock g c = stock_is c.args.self.now

pub returns-in-None : goal.returns-in-None
returns-in-None g c =
    let s = sides_of c.args.self.now in
    let da = s.sender in
    let x = there_is (definitions da) c.args.command c.requires in
    let none = head_there da c.args.command c.head_of.result c.requires c.head_of.ensures ∙ c.in-None.is in
    let unsent = no_message_of_group da s.receiver s.sends s.unknown c.args.command x.0 x.1
    (sym c.in-None.is ∙ at_some (λ (y : PlainDefinition). c.head_of.result ≡ head_in y.head) (slice_get (definitions da) c.args.command) x.0 c.head_of.ensures x.1) in
    let valid = unsent_valid da s.receiver s.sends s.unknown c.args.command unsent in
    record {
      corrected = ∣ unsent_corrected da s.receiver s.sends s.unknown _ _ c.args.command unsent ∣₁;
      free = ∣ all_valid da s.receiver s.sends s.unknown _ _ c.args.command valid ∣₁;
      all = λ none. ∣ valid ∣₁;
      each = none_of (λ (line : Line). line.standing ≡ Confirmed → (bytes : List ℕ) × IsConfirmed s bytes c.args.command) c.new-lines.result.items c.new-lines.ensures.items;
      each_corrected = none_of (λ (line : Line). line.standing ≡ Confirmed → HasMessage s c.args.command c.new.result.items line) c.new-lines.result.items c.new-lines.ensures.items;
      standings = subst (HaveStandings c.args.left.now) (sym c.new-lines.ensures.items) tt;
      exactly = subst (AreConfirmedWhere s (stock_of c.args.self.now) c.args.command c.new.result.items c.args.left.now) (sym c.new-lines.ensures.items) tt;
      stock = stock_is c.args.self.now;
      shown = ∣ none_of (λ (line : Line). line.standing ≡ Confirmed → IsShown s (stock_of c.args.self.now) c.args.command c.new.result.items line) c.new-lines.result.items
          c.new-lines.ensures.items ∣₁;
      left = ap (left_after c.args.left.now) (sym c.new-lines.ensures.items);
      formats = ∣ none_of (λ (line : Line). RecordsData s line.cause) c.new-lines.result.items c.new-lines.ensures.items ∣₁;
      command = refl;
      head = none_there _ (head_at da c.args.command) none;
      none = λ none. (c.new.ensures.items, c.new-lines.ensures.items, c.new-meanings.ensures.items);
      lines = λ some. absurd (true≢false (sym some ∙ ap (λ (o : Option Head). is_some o) none));
      meanings = λ some. absurd (true≢false (sym some ∙ ap (λ (o : Option Head). is_some o) none));
      unchecked = none_of (λ (line : Line). line.standing ≡ Unchecked) c.new-meanings.result.items c.new-meanings.ensures.items;
      all_meanings = ∣ (λ bytes sent. absurd (unsent bytes sent)) ∣₁;
      no_meanings = λ empty. ∣ (λ bytes sent. absurd (unsent bytes sent)) ∣₁;
    }
