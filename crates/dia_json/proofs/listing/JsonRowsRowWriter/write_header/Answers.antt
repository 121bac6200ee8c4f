use Rattle.std.proofs.Common.{refl}
use Rattle.std.specs.Prelude.{option_map}
use Rattle.std.proofs.lemmas.Result.{on_ok_weaker}
use Rattle.dia_run.specs.Rows.{of_header}
use Rattle.dia_show.specs.Manners.{plain_manner_of}
use Rattle.dia_json.specs.Messages.{header_members}
use Rattle.dia_json.proofs.Objects.{object_added}
use Rattle.dia_json.proofs.listing.JsonRowsRowWriter.write_header.Goals as goal

pub returns : goal.returns
returns c =
    let name = option_map (λ name. name.now) c.args.command in
    object_added c.push_header.result (plain_manner_of c.args.self.now.manner.now) (of_header c.args.header.now c.args.length name) (header_members c.args.header.now c.args.length name) _ _ refl
    (on_ok_weaker c.push_header.result (λ added. added name c.in_ok-command.ensures) (rw c.as_str.ensures.value at c.push_header.ensures))
