use Rattle.std.proofs.Common.{refl}
use Rattle.std.specs.Prelude.{option_map}
use Rattle.dia_run.specs.Rows.{of_header}
use Rattle.dia_run.proofs.KnownAvps.{adds_on_ok}
use Rattle.dia_show.specs.Listing.{IsNamedRow, header_of}
use Rattle.dia_show.specs.Manners.{plain_manner_of}
use Rattle.dia_show.proofs.listing.NamedRowsRowWriter.write_header.Goals as goal

pub returns : goal.returns
returns c =
    let command = option_map (λ name. name.now) c.args.command in
    adds_on_ok c.push_header.result (IsNamedRow (plain_manner_of c.args.self.now.manner.now) (of_header c.args.header.now c.args.length command)) _ _
    (header_of c.args.self.now.manner.now.names c.args.header.now c.args.length command) refl c.push_header.ensures
