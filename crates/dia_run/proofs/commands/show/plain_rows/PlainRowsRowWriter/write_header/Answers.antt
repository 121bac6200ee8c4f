use Rattle.std.proofs.Common.{append_assoc, refl}
use Rattle.dia_run.specs.Listing.{IsPlainRow, header_line}
use Rattle.std.specs.Prelude.{option_map}
use Rattle.dia_run.specs.Rows.{of_header}
use Rattle.dia_run.proofs.KnownAvps.{adds_on_ok}
use Rattle.dia_run.proofs.commands.show.plain_rows.PlainRowsRowWriter.write_header.Goals as goal

pub returns : goal.returns
returns c =
    adds_on_ok c.writeln.result (IsPlainRow (of_header c.args.header.now c.args.length (option_map (λ name. name.now) c.args._command))) _ _ (header_line c.args.header.now c.args.length) refl
    (simp append_assoc (simp append_assoc at (rw (c.in_ok-push_hex_byte.ensures, c.in_ok-push_str.ensures.bytes) at c.writeln.ensures.bytes)))
