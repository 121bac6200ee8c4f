use Rattle.std.proofs.Common.{◌≡◌, ℕ, ◌+◌, cond, map, ap, ◌∙◌, subst}
use Rattle.dia_wire.specs.declared.Key.{Key}
use Rattle.dia_wire.specs.Wire.{key_of, plain_avp}
use Rattle.dia_book.specs.Keys.{same_key}
use Rattle.dia_learn.specs.Open.{count_in, plain_open}
use Rattle.dia_learn.proofs.Keeping.{kept_noted, kept_opened}
use Rattle.dia_learn.proofs.Reading.{begun, ended, few, went_on}
use Rattle.dia_learn.proofs.seen.Seen.take_level.Goals as goal

pub loop-avp-init : goal.loop-avp-init
loop-avp-init g c =
    begun (g.B.Book.meaning c.args.book.now) c.args.level.place c.args.level.bytes.now c.args.self.now c.open.new.self (map plain_open c.args.open.now.items) c.new-counts.result
    (λ ls kept. kept_opened c.args.level.place ls c.args.self.now c.open.new.self c.in_ok-open.ensures.places c.in_ok-open.ensures.flags c.in_ok-open.ensures.most kept) c.new-counts.ensures.empty

pub count_one-requires : goal.count_one-requires
count_one-requires g c =
    few (g.B.Book.meaning c.args.book.now) c.args.level.place c.args.level.bytes.now c.args.self.now c.loop-avp.self (map plain_open c.args.open.now.items) (map plain_open c.loop-avp.open.items)
    c.loop-avp.counts c.loop-avp.rest.now c.key.result c.loop-avp.invariant c.requires

pub loop-avp-preserved : goal.loop-avp-preserved
loop-avp-preserved g c =
    let u = c.loop-avp.invariant in
    let v = plain_avp c.in-Some.avp in
    let counts = c.loop-avp.counts in
    let next = c.count_one.new.counts in
    let is : c.in_ok-count.count ≡ count_in c.loop-avp.counts (key_of (plain_avp c.in-Some.avp)) + 1 = c.in_ok-count.ensures.count ∙ ap (λ (q : Key). count_in c.loop-avp.counts q + 1) c.key.ensures in
    went_on (g.B.Book.meaning c.args.book.now) c.args.level.place c.args.level.bytes.now c.args.self.now c.loop-avp.self c.note.new.self (map plain_open c.args.open.now.items)
    (map plain_open c.loop-avp.open.items) (map plain_open c.open_group.new.open.items) counts next c.loop-avp.rest.now c.in-Some.following.now v u c.in-Some.ensures.avp
    (λ ls h. kept_noted c.args.level.place u.avps v ls c.loop-avp.self c.note.new.self c.in_ok-count.count (is ∙ ap (λ (n : ℕ). n + 1) (u.counted (key_of v)))
    c.in_ok-note.ensures.places c.in_ok-note.ensures.flags c.in_ok-note.ensures.most h) c.in_ok-open_group.ensures
    (subst (λ (q : Key). (k : Key) → count_in next k ≡ cond (same_key q k) (count_in counts q + 1) (count_in counts k)) c.key.ensures c.in_ok-count.ensures.counts)

pub returns : goal.returns
returns g c =
    ended (g.B.Book.meaning c.args.book.now) c.args.level.place c.args.level.bytes.now c.args.self.now c.loop-avp.self (map plain_open c.args.open.now.items) (map plain_open c.loop-avp.open.items)
    c.loop-avp.counts c.loop-avp.rest.now c.loop-avp.invariant c.in_default.ensures.none
