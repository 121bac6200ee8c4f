use Rattle.std.proofs.Common.{ap, subst, sym}
use Rattle.std.specs.Prelude.{Bool}
use Rattle.dia_lint.specs.Held.{AreHeld}
use Rattle.dia_lint.proofs.HeldAvps.{are_held}
use Rattle.dia_lint.proofs.held.held_avps.Goals as goal

pub returns : goal.returns
returns g c =
    let d = g.B.Book.meaning c.args.book.now in
    subst (λ avps. AreHeld d c.args.sends avps.items) (sym c.into_avps.ensures) (are_held d c.args.sends c.in_ok-reached.reached (g.met.B.Book.sound c.args.book.now) c.in_ok-reached.ensures)
