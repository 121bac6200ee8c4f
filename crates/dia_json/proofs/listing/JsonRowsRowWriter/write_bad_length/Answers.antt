use Rattle.std.proofs.Common.{refl}
use Rattle.dia_run.specs.Rows.{of_bad_length}
use Rattle.dia_show.specs.Manners.{plain_manner_of}
use Rattle.dia_json.specs.Messages.{bad_length_members}
use Rattle.dia_json.proofs.Objects.{object_added}
use Rattle.dia_json.proofs.listing.JsonRowsRowWriter.write_bad_length.Goals as goal

pub returns : goal.returns
returns c =
    object_added c.push_bad_length.result (plain_manner_of c.args.self.now.manner.now) (of_bad_length c.args.place) (bad_length_members c.args.place) _ _ refl c.push_bad_length.ensures
