use Rattle.std.proofs.Common.{◌≡◌, ◌≤◌, true, false, length, ap, arith}
use Rattle.std.proofs.Math.Logic.{∥∥₁_elim, ∥∥₁_map}
use Rattle.std.specs.Coded.{le_prop}
use Rattle.dia_wire.specs.Wire.{head_length}
use Rattle.dia_wire.proofs.Spelling.{at_least_8}
use Rattle.dia_check.specs.declared.open_levels.OpenLevel.{OpenLevel}
use Rattle.dia_check.proofs.UnderWay.{place}
use Rattle.dia_check.proofs.DataInPieces.{each_entered, stop_ahead}
use Rattle.dia_check.proofs.HeadsInPieces.{occurs_here, is_there}
use Rattle.dia_check.proofs.group.enter_at.Goals as goal

pub overflow_sub-room : goal.overflow_sub-room
overflow_sub-room g c =
    let d = g.B.Book.meaning c.args.basis.now.book.now in let o = c.args.open_levels.now in
    let same = ap (λ (k : OpenLevel). k.end) c.innermost.ensures in
    let e : c.args.at ≤ o.innermost.end = ∥∥₁_elim c.requires le_prop (λ x. let (bytes, good, few, w, lies) = x in
    (place d (g.met.B.Book.sound c.args.basis.now.book.now) c.args.basis.now.unknown c.args.basis.now.levels bytes good o c.args.at w).0) in
    omega (arith, e, same)

pub enter_group-requires : goal.enter_group-requires
enter_group-requires g c =
    let d = g.B.Book.meaning c.args.basis.now.book.now in let o = c.args.open_levels.now in
    let has = rw c.in-Ok-Some.field-0-is at c.in-Ok-Some.ensures.head in
    let same = ap (λ (k : OpenLevel). k.end) c.innermost.ensures in
    ∥∥₁_map c.requires (λ x. let (bytes, good, few, w, lies) = x in (
      bytes,
      good,
      few,
      occurs_here d (g.met.B.Book.sound c.args.basis.now.book.now) c.args.basis.now.unknown c.args.basis.now.levels bytes good o c.args.at w c.args.bytes.now lies c.in-Ok-Some.head has.0 has.1
          (λ bad. let f : false ≡ true = c.in-Ok-Some.ensures.refused.1 (rw (← same) at bad) in cc),
    ))

pub returns-in-Ok-Some-clause-within : goal.returns-in-Ok-Some-clause-within
returns-in-Ok-Some-clause-within g c =
    let d = g.B.Book.meaning c.args.basis.now.book.now in let o = c.args.open_levels.now in
    let has = rw c.in-Ok-Some.field-0-is at c.in-Ok-Some.ensures.head in
    let same = ap (λ (k : OpenLevel). k.end) c.innermost.ensures in
    let there : head_length c.in-Ok-Some.head.vendor ≤ length c.args.bytes.now = ∥∥₁_elim c.requires le_prop (λ x. let (bytes, good, few, w, lies) = x in
    is_there d (g.met.B.Book.sound c.args.basis.now.book.now) c.args.basis.now.unknown c.args.basis.now.levels bytes good o c.args.at w c.args.bytes.now lies c.in-Ok-Some.head has.0 has.1
    (λ bad. let f : false ≡ true = c.in-Ok-Some.ensures.refused.1 (rw (← same) at bad) in cc)) in
    let least = at_least_8 c.in-Ok-Some.head.vendor in
    each_entered _ _ c.enter_group.result (λ start is. (omega (arith, is, least), omega (arith, is, there))) c.enter_group.ensures.start

pub returns-in-Ok-Some-clause-next : goal.returns-in-Ok-Some-clause-next
returns-in-Ok-Some-clause-next g c bytes good w lies =
    let d = g.B.Book.meaning c.args.basis.now.book.now in let o = c.args.open_levels.now in
    let has = rw c.in-Ok-Some.field-0-is at c.in-Ok-Some.ensures.head in
    let same = ap (λ (k : OpenLevel). k.end) c.innermost.ensures in
    let avp = occurs_here d (g.met.B.Book.sound c.args.basis.now.book.now) c.args.basis.now.unknown c.args.basis.now.levels bytes good o c.args.at w c.args.bytes.now lies c.in-Ok-Some.head has.0 has.1
    (λ bad. let f : false ≡ true = c.in-Ok-Some.ensures.refused.1 (rw (← same) at bad) in cc) in
    let there = is_there d (g.met.B.Book.sound c.args.basis.now.book.now) c.args.basis.now.unknown c.args.basis.now.levels bytes good o c.args.at w c.args.bytes.now lies c.in-Ok-Some.head has.0 has.1
    (λ bad. let f : false ≡ true = c.in-Ok-Some.ensures.refused.1 (rw (← same) at bad) in cc) in
    let least = at_least_8 c.in-Ok-Some.head.vendor in
    stop_ahead d c.args.basis.now.unknown c.args.basis.now.levels bytes good c.enter_group.new.open_levels _ _ c.enter_group.result
    (λ begins. record {
      level = begins.level;
      is_open = begins.is_open;
      following = (let s = begins.start in omega (arith, s, least));
      within = (let s = begins.start in omega (arith, s, there));
    })
    (c.enter_group.ensures.next bytes good avp)
