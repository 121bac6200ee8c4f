use Rattle.std.proofs.Common.{List, map, refl, ap, subst, ◌∙◌}
use Rattle.dia_breaking.specs.declared.exits.Outlook.{Outlook}
use Rattle.dia_breaking.specs.declared.keys.Own.{Own}
use Rattle.dia_breaking.specs.declared.keys.Recording.{Recording}
use Rattle.dia_breaking.specs.Exits.{AreOutlooks}
use Rattle.dia_breaking.specs.Nodes.{node_in}
use Rattle.dia_breaking.specs.OwnBreaks.{AreOwnBreaks}
use Rattle.dia_breaking.specs.Sender.{costs_of, sender_in}
use Rattle.dia_breaking.specs.Sides.{sides}
use Rattle.dia_breaking.proofs.Shortest.{first_is_shortest}
use Rattle.dia_breaking.proofs.upgrade.Upgrade.new.Goals as goal

pub invariant_of-result : goal.invariant_of-result
invariant_of-result g c =
    let lengths = c.in_ok-lengths.lengths in
    let db = g.B.Book.meaning c.args.b.now in
    let k = costs_of lengths in
    let s = sides (sender_in lengths) db lengths.sends c.args.unknown in
    record {
      shortest = first_is_shortest s.sender db lengths.sends lengths.entries.items lengths.others.items (g.met.A.Book.sound lengths.book.now) (g.met.B.Book.sound c.args.b.now) c.in_ok-lengths.ensures.others;
      graph = c.in_ok-nodes.ensures ∙ ap (λ (os : List Outlook). map node_in os) c.deref-2.ensures.value;
      known = ∣ record {
        least = lengths.least.lengths.items;
        are_least = c.in_ok-lengths.ensures.least;
        are_lengths = c.in_ok-lengths.ensures.entries;
        are_others = c.in_ok-lengths.ensures.others;
        is_recording = c.in_ok-recording.ensures;
        are_outlooks = subst (λ recording. AreOutlooks s.sender db recording k c.in_ok-outlooks.outlooks.items) c.deref.ensures c.in_ok-outlooks.ensures.exact;
        have_lines = c.in_ok-outlooks.ensures.levels;
        are_own = subst (λ (recorded : List Own). AreOwnBreaks s k.listed recorded c.in_ok-own.own.items) (c.deref-4.ensures.value ∙ ap (λ (t : Recording). t.own.items) c.deref-3.ensures) c.in_ok-own.ensures;
      } ∣₁;
      named = c.in_ok-names.ensures;
      first_apps = c.in_ok-apps.ensures.first;
      second_apps = c.in_ok-apps.ensures.second;
      others = c.in_ok-new_apps.ensures;
    }

pub outlooks-requires : goal.outlooks-requires
outlooks-requires g c =
    let lengths = c.in_ok-lengths.lengths in
    first_is_shortest (sender_in lengths) (g.B.Book.meaning c.args.b.now) lengths.sends lengths.entries.items lengths.others.items
    (g.met.A.Book.sound lengths.book.now) (g.met.B.Book.sound c.args.b.now) c.in_ok-lengths.ensures.others

pub returns : goal.returns
returns g c = record { sender = c.in_ok-lengths.ensures.book; receiver = refl; sends = c.in_ok-lengths.ensures.sends; unknown = refl }
