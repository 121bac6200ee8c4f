use Rattle.dia_c_calls.proofs.WhatBreaks.{line_is, never_absent, never_known}
use Rattle.dia_c_calls.proofs.upgrade.line_of_unknown.Goals as goal

pub unreachable-requires : goal.unreachable-requires
unreachable-requires g c = never_known _ _ _ c.requires.1 (rw c.in-Ok.is at c.in_ok-named.ensures.known)

pub unreachable-requires-in-None : goal.unreachable-requires-in-None
unreachable-requires-in-None g c = never_absent (g.A.Book.meaning c.args.a.now) c.args.names.now c.in-Err.name.now (rw c.in-Err.is at c.in_ok-named.ensures.unknown) c.in-None.ensures

pub returns : goal.returns
returns g c =
    line_is (g.A.Book.meaning c.args.a.now) c.args.names.now c.in-Err.name.now (rw c.in-Err.is at c.in_ok-named.ensures.unknown) c.in-Some.place _ c.in-Some.ensures c.line_number.ensures
