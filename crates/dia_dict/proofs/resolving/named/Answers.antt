use Rattle.std.proofs.Common.{sym, ap, ◌∙◌}
use Rattle.std.specs.Option.{option_map}
use Rattle.dia_ccf.specs.Plain.{plain_source}
use Rattle.dia_dict.specs.SourceChecks.{recorded}
use Rattle.dia_dict.proofs.FaultlessSources.{none_found}
use Rattle.dia_dict.proofs.resolving.named.Goals as goal

pub book-requires : goal.book-requires
book-requires c = none_found (plain_source c.args.names.now.source.now) (sym c.in_ok-recorded.ensures ∙ ap (option_map recorded) c.in-None.is)
