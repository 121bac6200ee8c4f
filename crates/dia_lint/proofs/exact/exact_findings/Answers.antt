use Rattle.std.proofs.Common.{[], length, ap, subst, sym, ◌∙◌}
use Rattle.dia_book.specs.Dictionary.{Dictionary, groups}
use Rattle.dia_terms.specs.declared.Sends.{Sends}
use Rattle.dia_lint.specs.Costs.{AreLengths, level_of, sender_of}
use Rattle.dia_lint.specs.ExactLines.{command_lines, group_lines}
use Rattle.dia_lint.specs.Gathered.{gathered, long_commands, long_groups}
use Rattle.dia_lint.specs.Exact.{NoLevelIsExact}
use Rattle.dia_lint.specs.Held.{NeverHeldIsTrue, NeverListedIsTrue, NeverStandsIsTrue, NoOthersIsTrue, OthersAreHeld, OthersAreListed, OthersStand, OtherWildcardsStand}
use Rattle.dia_lint.specs.WayLines.{command_part, group_part}
use Rattle.dia_lint.specs.Ways.{side_of}
use Rattle.dia_lint.proofs.ExactLists.{exact_lines}
use Rattle.dia_lint.proofs.ExactFindings.{AreReported, all_reported}
use Rattle.dia_lint.proofs.FoundLevels.{other_wildcards_stand, others_are_held, others_are_listed, others_stand}
use Rattle.dia_lint.proofs.FoundWays.{of_side}
use Rattle.dia_lint.proofs.Messages.{not_filled}
use Rattle.dia_lint.proofs.Projections.{adds_projected, of_commands, of_groups}
use Rattle.dia_lint.proofs.Reported.{commands_ascend, commands_exact, groups_ascend, groups_exact, others_have_avps, others_have_messages}
use Rattle.dia_lint.proofs.WayTruths.{never_held, never_listed, never_stands, no_others, unreached}
use Rattle.dia_lint.proofs.exact.exact_findings.Goals as goal

pub new-requires : goal.new-requires
new-requires g c = λ e. not_filled c.args.unknown (sym c.sender_of.ensures ∙ e)

pub of-requires : goal.of-requires
of-requires g c =
    let made = c.in_ok-lengths.lengths in
    of_side (side_of g.B.Book.meaning made) (g.B.Book.meaning c.args.book.now) c.sender_of.result c.in_ok-lengths.ensures.lengths (ap g.B.Book.meaning c.in_ok-lengths.ensures.book)
    c.in_ok-lengths.ensures.sends

pub returns : goal.returns
returns g c =
    let d = g.B.Book.meaning c.args.book.now in
    let u = c.args.unknown in
    let made = c.in_ok-lengths.lengths in
    let lengths = made.least.lengths.items in
    let others = made.others.items in
    let found = c.push_unreached.new.found.items in
    let is = g.met.B.Book.sound c.args.book.now in
    let are = subst (λ (s : Sends). AreLengths d s lengths others) c.sender_of.ensures c.in_ok-lengths.ensures.lengths in
    let sends = c.in_ok-lengths.ensures.sends ∙ c.sender_of.ensures in
    let book = ap g.B.Book.meaning c.in_ok-lengths.ensures.book in
    let s = side_of g.B.Book.meaning made in
    let reached = c.in_ok-reached.reached in
    let n = length s.book.entries in
    let m = length s.book.commands in
    let first = gathered (group_part s reached) n in
    let second = gathered (command_part s reached) m in
    let long = long_commands (level_of s.book s.sends s.lengths s.others) (length (groups s.book)) m in
    let before = c.new-found.result.items in
    let mid = c.push_groups.new.found.items in
    let then = c.push_commands.new.found.items in
    let last = unreached s reached then found c.in_ok-push_unreached.ensures in
    let both = all_reported d s.book u made.least.sends lengths others first second last.ways before mid then found book sends c.new-found.ensures.items
    (adds_projected [] (long_groups s.book lengths n) first (gathered (group_lines s reached) n) before mid (of_groups s reached n) c.in_ok-push_groups.ensures)
    (adds_projected long [] second (gathered (command_lines s reached) m) mid then (of_commands s reached m) c.in_ok-push_commands.ensures) last.adds in
    let all : AreReported d (sender_of c.args.unknown) lengths others found = both.0 in
    let sound = g.met.B.Book.sound made.book.now in
    let own = of_side s d (sender_of u) are book sends in
    let exact = groups_exact d u lengths others found is are all.1 in
    let levels = subst (λ (b : Dictionary). NoLevelIsExact b u found) (sym book) exact in
    let walked = c.in_ok-reached.ensures in
    record {
      lines = exact_lines d u s book sends own reached walked before mid then found c.new-found.ensures.items c.in_ok-push_groups.ensures c.in_ok-push_commands.ensures c.in_ok-push_unreached.ensures;
      rules = all.2;
      no_message = commands_exact d u lengths others found is are all.0;
      no_level = exact;
      others_have_messages = others_have_messages d u lengths others found is are all.0;
      others_have_avps = others_have_avps d u lengths others found is are all.1;
      messages_once = commands_ascend (level_of d (sender_of c.args.unknown) lengths others) (length (groups d)) (length d.commands) found all.0;
      levels_once = groups_ascend d lengths (length d.entries) found all.1;
      never_held = subst (λ (b : Dictionary). NeverHeldIsTrue b u found) book (never_held u s sound own reached walked sends last.ways found both.1 last.are);
      never_listed = subst (λ (b : Dictionary). NeverListedIsTrue b found) book (never_listed u s sound own reached walked sends last.ways found both.1 last.are);
      never_stands = subst (λ (b : Dictionary). NeverStandsIsTrue b u found) book (never_stands u s sound own reached walked sends last.ways found both.1 last.are);
      no_others = subst (λ (b : Dictionary). NoOthersIsTrue b u found) book (no_others u s sound own reached walked sends last.ways found both.1 last.are);
      others_are_held = subst (λ (b : Dictionary). OthersAreHeld b u found) book (others_are_held u s sound own reached walked sends last.ways found both.1 last.are levels);
      others_are_listed = subst (λ (b : Dictionary). OthersAreListed b u found) book (others_are_listed u s sound own reached walked sends last.ways found both.1 last.are);
      others_stand = subst (λ (b : Dictionary). OthersStand b u found) book (others_stand u s sound own reached walked sends last.ways found both.1 last.are);
      other_wildcards_stand = subst (λ (b : Dictionary). OtherWildcardsStand b u found) book (other_wildcards_stand u s sound own reached walked sends last.ways found both.1 last.are);
    }
