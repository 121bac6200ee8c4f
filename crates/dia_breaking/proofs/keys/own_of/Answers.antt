use Rattle.std.proofs.Common.{refl}
use Rattle.dia_breaking.proofs.OwnBreaks.{exactly_silent}
use Rattle.dia_breaking.proofs.Tellings.{silent_of}
use Rattle.dia_breaking.proofs.keys.own_of.Goals as goal

pub returns-clause-recorded : goal.returns-clause-recorded
returns-clause-recorded g c = record {
  key_is = refl;
  silent = λ e. silent_of (g.A.Book.meaning c.args.a.now) (g.B.Book.meaning c.args.b.now) c.args.sends c.args.unknown c.args.key c.avp_breaks-breaks.result c.avp_breaks-breaks.ensures.head
      c.avp_breaks-breaks.ensures.alone
      (c.breaks_alone.ensures.0 e);
  group = c.are_groups.ensures;
}

pub returns-clause-exact : goal.returns-clause-exact
returns-clause-exact g c =
    let breaks = c.avp_breaks-breaks in
    record {
      group = c.are_groups.ensures;
      silent =
          exactly_silent (g.A.Book.meaning c.args.a.now)
          (g.B.Book.meaning c.args.b.now) c.args.sends c.args.unknown c.args.key breaks.result _ breaks.ensures.head breaks.ensures.content breaks.ensures.levels
          c.breaks_alone.ensures.0 c.breaks_alone.ensures.1;
      other = c.is_read_as_other-is_other.ensures;
    }
