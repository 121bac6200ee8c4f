use Rattle.std.proofs.Common.{ℕ, false, List, [], ◌++◌, ap, refl, subst, sym, ◌∙◌}
use Rattle.std.specs.Prelude.{IsSome}
use Rattle.std.proofs.lemmas.List.{append-nil}
use Rattle.std.proofs.lemmas.Result.{err_from_is_err_and}
use Rattle.dia_book.specs.Dictionary.{Dictionary}
use Rattle.dia_breaking.specs.Words.{head_at}
use Rattle.dia_breaking.specs.Upgrades.{facts_of, sender_of, sides_of, stock_of}
use Rattle.dia_breaking.specs.RecordedMessages.{AreConfirmedWhere}
use Rattle.dia_breaking.proofs.MessageBytes.{some_bytes}
use Rattle.dia_breaking.specs.declared.line.Line.{Line}
use Rattle.dia_upgrades.specs.Recorded.{AreParts, IsRecordedOf, apart_of, number_at, says_at}
use Rattle.dia_upgrades.specs.declared.lines.Listing.{Listing}
use Rattle.dia_upgrades.specs.UnderWay.{GoesOn, IsMessageIn, IsRecordedIn, among, before}
use Rattle.dia_upgrades.proofs.CommandHeads.{head_occurs}
use Rattle.dia_upgrades.proofs.Listings.{any_recorded, apart_goes, goes_both, goes_from, stops_after, stops_from, stops_here}
use Rattle.dia_upgrades.proofs.RecordedCommands.{IsFound, recorded_so}
use Rattle.dia_upgrades.proofs.lines.put_command.Goals as goal
use Rattle.dia_upgrades.specs.Rows.{Row}

pub returns-in_err-breaks-clause-stops : goal.returns-in_err-breaks-clause-stops
returns-in_err-breaks-clause-stops g c =
    let p = err_from_is_err_and c.from_residual.result c.from_residual.ensures.1 in
    let mid : Listing = record { seen = c.args.listing.now.seen; pending = c.args.listing.now.pending; budget = c.breaks.new.left } in
    rw (p.1, p.2) (before (stops_here (g.W.LineWriter.writes c.args.writer.now) c.args.asked c.args.place (g.S.Sink.written c.args.sink.now) c.args.listing.now mid refl))

pub returns-in_err-shown-clause-stops : goal.returns-in_err-shown-clause-stops
returns-in_err-shown-clause-stops g c =
    let p = err_from_is_err_and c.from_residual-in_err-shown.result c.from_residual-in_err-shown.ensures.1 in
    let mid : Listing = record { seen = c.args.listing.now.seen; pending = c.args.listing.now.pending; budget = c.breaks.new.left } in
    rw (p.1, p.2) (before (stops_here (g.W.LineWriter.writes c.args.writer.now) c.args.asked c.args.place (g.S.Sink.written c.args.sink.now) c.args.listing.now mid refl))

pub returns-in_err-put_each-clause-stops : goal.returns-in_err-put_each-clause-stops
returns-in_err-put_each-clause-stops g c =
    let p = err_from_is_err_and c.from_residual-in_err-put_each.result c.from_residual-in_err-put_each.ensures.1 in
    let up = c.args.upgrade.now in
    let s = sides_of up in
    let k = stock_of up in
    let place = c.args.place in
    let asked = c.args.asked in
    let breaks = c.in_ok-breaks.breaks in
    let found = c.in_ok-breaks.ensures in
    let shown = c.in_ok-shown.shown.items in
    let number = c.command_at-command.ensures ∙ ap (λ (d : Dictionary). number_at d place) (ap g.A.Book.meaning c.sender.ensures) in
    let same = found.command ∙ number in
    let some = subst (λ (n : ℕ). IsSome (head_at s.sender n)) (sym number) (head_occurs s.sender (g.met.A.Book.sound (sender_of up)) place c.requires.place) in
    let lengths = (facts_of up).lengths in
    let says = says_at s lengths breaks.command breaks.sites.items in
    let apart_is = c.apart_of-apart.ensures ∙ ap (apart_of asked.meaning) c.as_slice.ensures.value in
    let is_found : IsFound s k asked.meaning breaks.command c.args.listing.now.budget c.breaks.new.left breaks shown = record {
      are_lines = found.lines some;
      free = found.free;
      confirmed = subst (λ (n : ℕ). AreConfirmedWhere s k n breaks.sites.items c.args.listing.now.budget breaks.lines.items) (sym found.command) found.exactly;
      standings = found.standings;
      after_is = found.left;
      formats = found.formats;
      are_meanings = found.meanings some;
      unchecked = found.unchecked;
      all_meant = found.all_meanings;
      read_alike = found.no_meanings;
      are_shown = c.in_ok-shown.ensures;
    } in
    let stops = c.in_err-put_each.ensures.stops in
    let mid : Listing = record { seen = c.args.listing.now.seen; pending = c.args.listing.now.pending; budget = c.breaks.new.left } in
    let recorded = subst (λ (ls : List Line). AreParts (IsRecordedIn up breaks place asked.messages) ls (stops.more ++ stops.rest)) c.as_slice-lines.ensures.value stops.are_parts in
    let apart = any_recorded place false says (IsMessageIn up breaks) (some_bytes s k breaks.command breaks.sites.items) (apart_of asked.meaning breaks.meanings.items) in
    rw (p.1, p.2)
    (among c.breaks.new.left stops.more stops.rest apart.0
    (recorded_so s k asked.messages asked.meaning lengths place breaks.command c.args.listing.now.budget c.breaks.new.left breaks shown (stops.more ++ stops.rest) apart.0 same is_found recorded apart.1)
    (stops_from (g.W.LineWriter.writes c.args.writer.now) asked place _ _ _ c.args.listing.now mid c.put_each.new.listing stops.more refl refl stops.stops))

pub returns-in_err-see_each_apart-clause-stops : goal.returns-in_err-see_each_apart-clause-stops
returns-in_err-see_each_apart-clause-stops g c =
    let p = err_from_is_err_and c.from_residual-in_err-see_each_apart.result c.from_residual-in_err-see_each_apart.ensures.1 in
    let up = c.args.upgrade.now in
    let s = sides_of up in
    let k = stock_of up in
    let place = c.args.place in
    let asked = c.args.asked in
    let breaks = c.in_ok-breaks.breaks in
    let found = c.in_ok-breaks.ensures in
    let shown = c.in_ok-shown.shown.items in
    let number = c.command_at-command.ensures ∙ ap (λ (d : Dictionary). number_at d place) (ap g.A.Book.meaning c.sender.ensures) in
    let same = found.command ∙ number in
    let some = subst (λ (n : ℕ). IsSome (head_at s.sender n)) (sym number) (head_occurs s.sender (g.met.A.Book.sound (sender_of up)) place c.requires.place) in
    let lengths = (facts_of up).lengths in
    let says = says_at s lengths breaks.command breaks.sites.items in
    let apart_is = c.apart_of-apart.ensures ∙ ap (apart_of asked.meaning) c.as_slice.ensures.value in
    let is_found : IsFound s k asked.meaning breaks.command c.args.listing.now.budget c.breaks.new.left breaks shown = record {
      are_lines = found.lines some;
      free = found.free;
      confirmed = subst (λ (n : ℕ). AreConfirmedWhere s k n breaks.sites.items c.args.listing.now.budget breaks.lines.items) (sym found.command) found.exactly;
      standings = found.standings;
      after_is = found.left;
      formats = found.formats;
      are_meanings = found.meanings some;
      unchecked = found.unchecked;
      all_meant = found.all_meanings;
      read_alike = found.no_meanings;
      are_shown = c.in_ok-shown.ensures;
    } in
    let (more, parts, goes) = c.in_ok-put_each.ensures.all in
    let mid : Listing = record { seen = c.args.listing.now.seen; pending = c.args.listing.now.pending; budget = c.breaks.new.left } in
    let new : Listing = record { seen = c.see_each_apart.new.seen; pending = c.put_each.new.listing.pending; budget = c.put_each.new.listing.budget } in
    let recorded = subst (λ (ls : List Line). AreParts (IsRecordedIn up breaks place asked.messages) ls more) c.as_slice-lines.ensures.value parts in
    let apart = any_recorded place false says (IsMessageIn up breaks) (some_bytes s k breaks.command breaks.sites.items) (apart_of asked.meaning breaks.meanings.items) in
    let is_recorded = recorded_so s k asked.messages asked.meaning lengths place breaks.command c.args.listing.now.budget c.breaks.new.left breaks shown more apart.0 same is_found recorded apart.1 in
    rw (p.1, p.2)
    (among c.breaks.new.left more [] apart.0 (subst (λ (xs : List Row). IsRecordedOf s k asked.messages asked.meaning lengths place c.args.listing.now.budget c.breaks.new.left xs apart.0) (sym (append-nil more)) is_recorded)
    (stops_after (g.W.LineWriter.writes c.args.writer.now) asked place _ _ c.args.listing.now c.put_each.new.listing new more [] refl (goes_from (g.W.LineWriter.writes c.args.writer.now) asked place _ _ c.args.listing.now mid c.put_each.new.listing more [] refl refl goes)))

pub returns-clause-all : goal.returns-clause-all
returns-clause-all g c =
    let up = c.args.upgrade.now in
    let s = sides_of up in
    let k = stock_of up in
    let place = c.args.place in
    let asked = c.args.asked in
    let breaks = c.in_ok-breaks.breaks in
    let found = c.in_ok-breaks.ensures in
    let shown = c.in_ok-shown.shown.items in
    let number = c.command_at-command.ensures ∙ ap (λ (d : Dictionary). number_at d place) (ap g.A.Book.meaning c.sender.ensures) in
    let same = found.command ∙ number in
    let some = subst (λ (n : ℕ). IsSome (head_at s.sender n)) (sym number) (head_occurs s.sender (g.met.A.Book.sound (sender_of up)) place c.requires.place) in
    let lengths = (facts_of up).lengths in
    let says = says_at s lengths breaks.command breaks.sites.items in
    let apart_is = c.apart_of-apart.ensures ∙ ap (apart_of asked.meaning) c.as_slice.ensures.value in
    let is_found : IsFound s k asked.meaning breaks.command c.args.listing.now.budget c.breaks.new.left breaks shown = record {
      are_lines = found.lines some;
      free = found.free;
      confirmed = subst (λ (n : ℕ). AreConfirmedWhere s k n breaks.sites.items c.args.listing.now.budget breaks.lines.items) (sym found.command) found.exactly;
      standings = found.standings;
      after_is = found.left;
      formats = found.formats;
      are_meanings = found.meanings some;
      unchecked = found.unchecked;
      all_meant = found.all_meanings;
      read_alike = found.no_meanings;
      are_shown = c.in_ok-shown.ensures;
    } in
    let (more, parts, goes) = c.in_ok-put_each.ensures.all in
    let mid : Listing = record { seen = c.args.listing.now.seen; pending = c.args.listing.now.pending; budget = c.breaks.new.left } in
    let new : Listing = record { seen = c.see_each_apart.new.seen; pending = c.put_each.new.listing.pending; budget = c.put_each.new.listing.budget } in
    let (others, apart_parts, sees) = c.in_ok-see_each_apart.ensures in
    let recorded = subst (λ (ls : List Line). AreParts (IsRecordedIn up breaks place asked.messages) ls more) c.as_slice-lines.ensures.value parts in
    let apart = subst (λ (ls : List Line). AreParts (IsRecordedIn up breaks place false) ls others) apart_is apart_parts in
    let is_recorded = recorded_so s k asked.messages asked.meaning lengths place breaks.command c.args.listing.now.budget c.breaks.new.left breaks shown more others same is_found recorded apart in
    let both = goes_both (g.W.LineWriter.writes c.args.writer.now) asked place _ _ _ c.args.listing.now c.put_each.new.listing new more [] [] others
    (goes_from (g.W.LineWriter.writes c.args.writer.now) asked place _ _ c.args.listing.now mid c.put_each.new.listing more [] refl refl goes) (apart_goes (g.W.LineWriter.writes c.args.writer.now) asked place _ c.put_each.new.listing new others refl (sees asked)) in (
      more,
      others,
      subst (λ (n : ℕ). IsRecordedOf s k asked.messages asked.meaning lengths place c.args.listing.now.budget n more others) (sym c.in_ok-put_each.ensures.budget) is_recorded,
      subst (λ (xs : List Row). GoesOn (g.W.LineWriter.writes c.args.writer.now) asked place (g.S.Sink.written c.args.sink.now) (g.S.Sink.written c.put_each.new.sink) c.args.listing.now new xs others) (append-nil more) both,
    )
