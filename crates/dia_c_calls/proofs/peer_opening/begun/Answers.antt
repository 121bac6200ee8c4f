use Rattle.std.proofs.Common.{inl}
use Rattle.dia_c_calls.specs.Peers.{IsNoText}
use Rattle.dia_c_calls.proofs.peer_opening.begun.Goals as goal

pub returns-in_default-clause-err : goal.returns-in_default-clause-err
returns-in_default-clause-err c not = inl (IsNoText.host c.in_default.ensures.cases.0)

pub returns-in_default-from_utf8-clause-err : goal.returns-in_default-from_utf8-clause-err
returns-in_default-from_utf8-clause-err c not = inl (IsNoText.realm c.in-Ok.ensures.cases.1 c.in_default-from_utf8.ensures.cases.0)

pub returns-in_default-from_utf8-2-clause-err : goal.returns-in_default-from_utf8-2-clause-err
returns-in_default-from_utf8-2-clause-err c not =
    inl (IsNoText.product c.in-Ok.ensures.cases.1 c.in-Ok-from_utf8.ensures.cases.1 c.in_default-from_utf8-2.ensures.cases.0)
