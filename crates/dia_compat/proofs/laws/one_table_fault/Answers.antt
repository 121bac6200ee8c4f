use Rattle.dia_compat.proofs.TableLines.{one_fault, fault_or_table}
use Rattle.dia_compat.proofs.laws.one_table_fault.Goals as goal

pub returns-clause-one : goal.returns-clause-one
returns-clause-one c = one_fault

pub returns-clause-none : goal.returns-clause-none
returns-clause-none c = fault_or_table
