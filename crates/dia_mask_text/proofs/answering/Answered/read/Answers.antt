use Rattle.std.proofs.Common.{List, ℕ, [], ◌∷◌, ◌++◌, refl, sym, subst}
use Rattle.dia_streams.specs.Lines.{line_feed}
use Rattle.dia_streams.specs.LinesUnderWay.{Reads}
use Rattle.dia_streams.proofs.LinesUnderWay.{Reads-both, Reads-nothing, Reads-rest, next_line}
use Rattle.dia_mask.specs.Runs.{words_of}
use Rattle.dia_mask.proofs.Characters.{grows_on, no_more}
use Rattle.dia_mask_text.specs.declared.answering.Answered.{Answered}
use Rattle.dia_mask_text.specs.Lines.{Counts, IsLineMasked, lines_of, numbered_text}
use Rattle.dia_mask_text.proofs.answering.Answered.read.Goals as goal

pub loop-line-init : goal.loop-line-init
loop-line-init g c = (
  no_more (words_of c.args.state.now.run),
  (
    [],
    refl,
    λ words grows. (
      [],
      Reads-nothing (IsLineMasked c.args.manner.now.choice words (g.B.Book.meaning c.args.manner.now.book.now)) numbered_text Counts (lines_of c.args.self.now) c.args.state.now.unread,
    ),
  ),
)

pub loop-line-preserved : goal.loop-line-preserved
loop-line-preserved g c =
    let (grown, (done, parts, reads)) = c.loop-line.invariant in
    let e = c.in_ok-read_line.ensures in
    let old = words_of c.loop-line.state.run in
    let new = words_of c.read_line.new.state.run in
    let line : List ℕ = c.in-Some.line.now ++ line_feed ∷ [] in (
      grows_on (words_of c.args.state.now.run) old new grown e.grows,
      (
        done ++ line,
        next_line c.args.piece.now done c.loop-line.rest.now c.in-Some.line.now c.in-Some.following.now parts c.in-Some.ensures.some,
        λ words grows.
            let (lines, before) = reads words (grows_on old new words e.grows grows) in
            let (more, after) = e.lines words grows in (
              lines ++ more,
              Reads-both (IsLineMasked c.args.manner.now.choice words (g.B.Book.meaning c.args.manner.now.book.now)) numbered_text Counts (lines_of c.args.self.now)
                  (lines_of c.loop-line.self) (lines_of c.read_line.new.self) c.args.state.now.unread c.loop-line.state.unread c.read_line.new.state.unread done line lines more before after,
            ),
      ),
    )

pub returns-clause-lines : goal.returns-clause-lines
returns-clause-lines g c =
    let (grown, (done, parts, reads)) = c.loop-line.invariant in
    let now : Answered = record { line = c.extend.new.line; count = c.loop-line.self.count; space = c.loop-line.self.space; text = c.loop-line.self.text } in
    let unread = c.loop-line.state.unread in
    λ words grows.
    let P = IsLineMasked c.args.manner.now.choice words (g.B.Book.meaning c.args.manner.now.book.now) in
    let (lines, before) = reads words grows in
    let after = Reads-rest P numbered_text Counts (lines_of c.loop-line.self) (lines_of now) unread c.loop-line.rest.now (c.in_default.ensures.none refl) c.in_ok-extend.ensures refl refl in
    let both = Reads-both P numbered_text Counts (lines_of c.args.self.now) (lines_of c.loop-line.self) (lines_of now) c.args.state.now.unread unread unread done c.loop-line.rest.now lines [] before after in (
      lines ++ [],
      subst (λ (bytes : List ℕ). Reads P numbered_text Counts (lines_of c.args.self.now) (lines_of now) c.args.state.now.unread unread bytes (lines ++ [])) (sym parts) both,
    )
