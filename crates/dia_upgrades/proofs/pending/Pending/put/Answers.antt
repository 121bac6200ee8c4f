use Rattle.dia_upgrades.proofs.Puts.{all_out, front_out}
use Rattle.dia_upgrades.proofs.pending.Pending.put.Goals as goal

pub returns-in_err-put_all-clause-front : goal.returns-in_err-put_all-clause-front
returns-in_err-put_all-clause-front g c = λ _ begun text is. front_out begun _ _ c.args.self.now text c.as_slice.result.now c.as_slice.ensures.value c.put_all.ensures.front is

pub returns-clause-put : goal.returns-clause-put
returns-clause-put g c = λ begun text is. all_out begun _ _ c.args.self.now text c.as_slice.result.now c.as_slice.ensures.value c.in_ok-put_all.ensures.ok is
