-- A name of the node that is refused.
use Rattle.std.proofs.Common.{◌≡◌}
use Rattle.std.specs.Prelude.{◌↔◌, Result, Ok, Err, IfOk, string_bytes}
use Rattle.std.specs.declared.alloc.AllocError.{AllocError}
use Rattle.dia_answer.specs.Names.{IsName}
use Rattle.dia_answer.specs.declared.names.NameFault.{NameFault}
use Rattle.dia_answer.specs.declared.names.NameFault.TheVariants.{Host, Realm}
use Rattle.dia_cli.specs.declared.task.Answering.{Answering}
use Rattle.dia_io.specs.declared.Exit.TheVariants.{Bad}
use Rattle.dia_report.specs.declared.reporting.Answered.{Answered}
use Rattle.dia_program.specs.Answers.{IsNoName, name_line, no_host, no_realm}

module _ (asked : Answering) where
  pub is_refused : {A : Type 0} (r : Result A NameFault) (fault : NameFault) → r ≡ Err fault
      → ((r ≡ Err Host) ↔ (¬ IsName (string_bytes asked.host))) → ((r ≡ Err Realm) ↔ (IsName (string_bytes asked.host) × (¬ IsName (string_bytes asked.realm))))
      → (made : Result Answered AllocError) → IfOk made (λ answered. string_bytes answered.text ≡ name_line fault) → IfOk made (λ answered. answered.exit ≡ Bad)
      → IfOk made (λ answered. IsNoName asked (string_bytes answered.text) answered.exit)
  is_refused r Host is host realm (Ok answered) text exit = no_host (host.0 is) text exit
  is_refused r Realm is host realm (Ok answered) text exit = let both = realm.0 is in no_realm both.0 both.1 text exit
  is_refused r fault is host realm (Err refused) text exit = tt
