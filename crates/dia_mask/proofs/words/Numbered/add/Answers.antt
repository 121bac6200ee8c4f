use Rattle.std.proofs.Common.{ℕ, ◌+◌, Option, ap, ◌∙◌, is_some, if◌then◌else◌}
use Rattle.std.specs.Box.{boxed_slice_items}
use Rattle.dia_mask.specs.Numbers.{count_of}
use Rattle.dia_mask.proofs.Maps.{numbers_put, was_absent}
use Rattle.dia_mask.proofs.words.Numbered.add.Goals as goal

pub returns : goal.returns
returns c =
    let old = c.args.self.now in
    let absent = was_absent boxed_slice_items old.numbers c.args.word.now c.in_ok-key.key c.in_ok-insert.field-0 c.in_ok-key.ensures.ok c.in_ok-insert.ensures.old c.requires in
    record {
      unknown = c.requires;
      next = c.len-number.ensures.len;
      more = c.in_ok-insert.ensures.len ∙ ap (λ (o : Option ℕ). count_of old + (if is_some o then 0 else 1)) absent;
      numbers = numbers_put boxed_slice_items old.numbers c.insert.new.self c.args.word.now c.len-number.result c.in_ok-key.key c.in_ok-key.ensures.ok c.in_ok-insert.ensures.updates;
    }
