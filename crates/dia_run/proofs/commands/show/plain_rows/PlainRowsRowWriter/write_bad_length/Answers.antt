use Rattle.std.proofs.Common.{append_assoc, refl}
use Rattle.dia_run.specs.Listing.{IsPlainRow, bad_length_line}
use Rattle.dia_run.specs.Rows.{of_bad_length}
use Rattle.dia_run.proofs.KnownAvps.{adds_on_ok}
use Rattle.dia_run.proofs.commands.show.plain_rows.PlainRowsRowWriter.write_bad_length.Goals as goal

pub returns : goal.returns
returns c =
    adds_on_ok c.writeln.result (IsPlainRow (of_bad_length c.args.place)) _ _ (bad_length_line c.args.place) refl (simp append_assoc c.writeln.ensures.bytes)
