use Rattle.dia_breaking.proofs.Nested.{header_written}
use Rattle.dia_breaking.proofs.message_headers.push_header.Goals as goal

pub returns : goal.returns
returns c =
    header_written c.args.head.now c.args.line.now c.args.site c.args.out.now.items c.push.new.self.items c.push_length.new.out.items c.push-2.new.self.items c.push_length-2.new.out.items
    c.extend_from_slice.new.self.items c.extend_from_slice-2.new.self.items c.big_endian.result c.saturating_add-size.result c.command_flags.result c.from.result c.application-app.result
    c.is_proxiable-p.result c.in_ok-push.ensures.items c.in_ok-push_length.ensures c.saturating_add-size.ensures c.in_ok-push-2.ensures.items c.command_flags.ensures c.is_proxiable-p.ensures
    c.in_ok-push_length-2.ensures c.from.ensures c.in_ok-extend_from_slice.ensures.items c.big_endian.ensures c.application-app.ensures c.in_ok-extend_from_slice-2.ensures.items
