use Rattle.std.proofs.Common.{ℕ, List, refl, sym, subst, ◌∙◌}
use Rattle.std.specs.Prelude.{◌↔◌, IsTrue}
use Rattle.dia_terms.specs.declared.Levels.TheVariants as levels
use Rattle.dia_valid.specs.Valid.{IsValid}
use Rattle.dia_check.proofs.OneAnswer.{valid_length}
use Rattle.dia_breaking_sites.specs.Sent.{own_policy}
use Rattle.dia_valid.proofs.Members.{at_some}
use Rattle.dia_breaking.specs.Upgrades.{sides_of}
use Rattle.dia_breaking.proofs.Confirmed.{command_within, valid_of}
use Rattle.dia_breaking.proofs.CorrectedHeaders.{header_same}
use Rattle.dia_breaking.proofs.CorrectedLines.{breaks_kept}
use Rattle.dia_breaking.proofs.OnceCorrected.{never_corrected, no_some, said_corrected}
use Rattle.dia_breaking.proofs.upgrade.Upgrade.breaks_at.Goals as goal

pub header_of-header-requires : goal.header_of-header-requires
header_of-header-requires g c =
    let s = sides_of c.args.self.now in
    let v = valid_of s.sender s.receiver s.sends s.unknown c.args.bytes.now c.args.command c.requires in
    valid_length s.sender (g.met.A.Book.sound c.args.self.now.lengths.book.now) (own_policy s.sends) levels.Any c.args.bytes.now c.args.command v.0

pub corrected_header-requires : goal.corrected_header-requires
corrected_header-requires g c = let s = sides_of c.args.self.now in command_within s.sender s.receiver s.sends s.unknown c.args.bytes.now c.args.command c.requires

pub returns-in_default : goal.returns-in_default
returns-in_default g c =
    let s = sides_of c.args.self.now in (
      (λ yes. absurd cc),
      (λ breaks. absurd (never_corrected s.sender s.receiver s.sends s.unknown (g.met.A.Book.sound c.args.self.now.lengths.book.now) (g.met.B.Book.sound c.args.self.now.b.now) c.args.command c.args.place
          c.args.bytes.now c.header_of-header.result c.requires c.header_of-header.ensures.head (c.corrected_header.ensures.none (no_some c.corrected_header.result c.in_default.not-Some)) breaks)),
    )

pub returns-then-eq : goal.returns-then-eq
returns-then-eq g c =
    let s = sides_of c.args.self.now in
    let header = c.header_of-header.result in
    let corrected = c.in-Some.corrected in (
      (λ yes. breaks_kept s.sender s.receiver s.sends s.unknown c.args.command c.args.place c.args.bytes.now header corrected c.requires c.header_of-header.ensures.head
          (at_some _ _ _ c.corrected_header.ensures.some c.in-Some.is) (header_same corrected header (sym c.eq.ensures ∙ c.if-eq.true))),
      (λ breaks. refl),
    )

pub returns : goal.returns
returns g c =
    let s = sides_of c.args.self.now in
    let header = c.header_of-header.result in
    let corrected = c.in-Some.corrected in
    said_corrected s.sender s.receiver s.sends s.unknown (g.met.A.Book.sound c.args.self.now.lengths.book.now) (g.met.B.Book.sound c.args.self.now.b.now) c.args.command c.args.place c.args.bytes.now header
    c.requires c.header_of-header.ensures.head corrected c.in_ok-message.message.items (at_some _ _ _ c.corrected_header.ensures.some c.in-Some.is) c.in_ok-message.ensures c.in_ok-is_valid.field-0
    (subst (λ (xs : List ℕ). IsTrue c.in_ok-is_valid.field-0 ↔ IsValid s.receiver s.unknown levels.Any xs) c.deref.ensures.value c.in_ok-is_valid.ensures)
