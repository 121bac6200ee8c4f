use Rattle.std.proofs.Common.{◌≡◌, ℕ, ◌<◌, length, refl, sym, ap, subst, arith}
use Rattle.std.specs.HashSet.{contains}
use Rattle.dia_breaking.specs.Sides.{Sides}
use Rattle.dia_differences.specs.declared.lines.Effects.{Effects}
use Rattle.dia_diff.specs.Marked.{effects_by}
use Rattle.dia_diff.specs.Marks.{IsFound}
use Rattle.dia_diff.specs.Origins.{found_of}
use Rattle.dia_diff.specs.Routes.{route_of}
use Rattle.dia_diff.specs.Subjects.{same_subject}
use Rattle.dia_diff.specs.Unbroken.{IsValidIfNone, MarksFound}
use Rattle.dia_diff.proofs.FoundMarks.{marks_next, no_marks}
use Rattle.dia_diff.proofs.marking.marks_by.Goals as goal

pub loop-index-init : goal.loop-index-init
loop-index-init g c = no_marks (contains same_subject c.args.present.now) (route_of g.A.Book.meaning g.B.Book.meaning c.args.traffic.now) (effects_by c.new-marks.result) (λ w. ap (λ (e : Effects). e.breaks) (c.new-marks.ensures w))
    (λ w. ap (λ (e : Effects). e.other_format) (c.new-marks.ensures w)) (λ w. ap (λ (e : Effects). e.ignored) (c.new-marks.ensures w))

pub breaks_of-requires : goal.breaks_of-requires
breaks_of-requires g c =
    let within : c.loop-index.index < length (g.A.Book.meaning c.args.traffic.now.sender.now).commands = omega (arith, c.loop-index-test.true, c.commands-index-end.ensures) in
    subst (λ (s : Sides). c.loop-index.index < length s.sender.commands) (sym c.requires) within

pub loop-index-preserved : goal.loop-index-preserved
loop-index-preserved g c =
    let r = route_of g.A.Book.meaning g.B.Book.meaning c.args.traffic.now in
    let f = found_of c.loop-index.index c.in_ok-breaks.breaks in
    marks_next (contains same_subject c.args.present.now) r c.loop-index.index (effects_by c.loop-index.marks) (effects_by c.mark_command.new.marks) f c.loop-index.invariant refl
    (subst (λ (s : Sides). IsFound s f) c.requires c.in_ok-breaks.ensures.found) (subst (λ (s : Sides). IsValidIfNone s f) c.requires c.in_ok-breaks.ensures.valid) c.in_ok-mark_command.ensures.breaks c.in_ok-mark_command.ensures.other_format
    c.in_ok-mark_command.ensures.ignored

pub returns : goal.returns
returns g c =
    let r = route_of g.A.Book.meaning g.B.Book.meaning c.args.traffic.now in
    let all : c.loop-index.index ≡ length (g.A.Book.meaning c.args.traffic.now.sender.now).commands = omega (arith, c.loop-index-test.false, c.commands-index-end.ensures) in
    subst (λ (n : ℕ). MarksFound (contains same_subject c.args.present.now) r n (effects_by c.loop-index.marks)) all c.loop-index.invariant
