use Rattle.std.proofs.Common.{refl}
use Rattle.dia_mask.proofs.Replacing.{puts_address}
use Rattle.dia_mask.proofs.texts.Masking.push_address.Goals as goal

pub returns : goal.returns
returns c =
    let old = c.args.self.now in
    puts_address old (record { words = old.words; word = old.word; pattern = old.pattern; kinds = old.kinds; characters = old.characters; masked = old.masked; «data» = c.extend_from_slice.new.self })
    c.push_bytes.new.self c.args.bytes.now _ c.min-family.result c.min-family.ensures refl refl c.in_ok-extend_from_slice.ensures.items c.in_ok-push_bytes.ensures
