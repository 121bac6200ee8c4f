use Rattle.std.proofs.Common.{List, ℕ, ◌++◌, ◌∷◌, ◌∙◌, [], refl, sym}
use Rattle.dia_streams.specs.Lines.{line_feed}
use Rattle.dia_streams.proofs.LinesUnderWay.{next_line}
use Rattle.dia_follow_text.proofs.UnderWay.{line_read, line_refused, Reads-nothing, rest_read}
use Rattle.dia_follow_text.proofs.answering.Answered.read.Goals as goal

pub loop-line-init : goal.loop-line-init
loop-line-init g c = ([], refl, Reads-nothing (g.B.Book.meaning c.args.manner.now.book.now) c.args.manner.now.options c.args.self.now)

pub loop-line-preserved : goal.loop-line-preserved
loop-line-preserved g c =
    let (done, parts, reads) = c.loop-line.invariant in
    let line : List ℕ = c.in-Some.line.now ++ line_feed ∷ [] in (
      done ++ line,
      next_line c.args.piece.now done c.loop-line.rest.now c.in-Some.line.now c.in-Some.following.now parts c.in-Some.ensures.some,
      line_read (g.B.Book.meaning c.args.manner.now.book.now) c.args.manner.now.options c.args.self.now c.loop-line.self c.read_line.new.self done line c.in_ok-bad.bad
          (sym c.is_some.ensures ∙ c.if-is_some.false) reads c.in_ok-bad.ensures,
    )

pub returns-then-is_some : goal.returns-then-is_some
returns-then-is_some g c =
    let (done, parts, reads) = c.loop-line.invariant in
    line_refused (g.B.Book.meaning c.args.manner.now.book.now) c.args.manner.now.options c.args.self.now c.loop-line.self c.read_line.new.self c.args.piece.now done c.loop-line.rest.now
    c.in-Some.line.now c.in-Some.following.now c.in_ok-bad.bad parts c.in-Some.ensures.some (sym c.is_some.ensures ∙ c.if-is_some.true) reads c.in_ok-bad.ensures

pub returns : goal.returns
returns g c =
    let (done, parts, reads) = c.loop-line.invariant in
    rest_read (g.B.Book.meaning c.args.manner.now.book.now) c.args.manner.now.options c.args.self.now c.loop-line.self (record c.loop-line.self { line = c.extend.new.line }) c.args.piece.now done
    c.loop-line.rest.now parts (c.in_default.ensures.none refl) c.in_ok-extend.ensures refl reads
