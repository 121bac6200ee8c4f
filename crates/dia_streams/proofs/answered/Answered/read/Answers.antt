use Rattle.std.proofs.Common.{ℕ, List, ◌++◌, ◌∷◌, [], refl, sym, subst}
use Rattle.dia_streams.specs.declared.answered.Answered.{Answered}
use Rattle.dia_streams.specs.Lines.{line_feed}
use Rattle.dia_streams.specs.LinesUnderWay.{Reads}
use Rattle.dia_streams.proofs.LinesUnderWay.{on_ok_map, Reads-nothing, Reads-both, Reads-rest, next_line}
use Rattle.dia_streams.proofs.answered.Answered.read.Goals as goal

pub loop-line-init : goal.loop-line-init
loop-line-init g c = record { reads = ([], [], refl, Reads-nothing (g.J.Judge.says c.args.judge.now) (g.J.Judge.recorded c.args.judge.now) g.W.Watch.saw c.args.self.now c.args.watch.now) }

pub loop-line-preserved : goal.loop-line-preserved
loop-line-preserved g c =
    let (done, recorded, parts, reads) = c.loop-line.invariant.reads in
    let (more, reads_line) = c.in_ok-read_line.ensures in
    let line : List ℕ = c.in-Some.line.now ++ line_feed ∷ [] in
    record {
      reads = (
        done ++ line,
        recorded ++ more,
        next_line c.args.piece.now done c.loop-line.rest.now c.in-Some.line.now c.in-Some.following.now parts c.in-Some.ensures.some,
        Reads-both (g.J.Judge.says c.args.judge.now) (g.J.Judge.recorded c.args.judge.now) g.W.Watch.saw c.args.self.now c.loop-line.self c.read_line.new.self
            c.args.watch.now c.loop-line.watch c.read_line.new.watch done line recorded more reads reads_line,
      );
    }

pub returns : goal.returns
returns g c =
    let (done, recorded, parts, reads) = c.loop-line.invariant.reads in
    let new : Answered = record { line = c.extend.new.line; count = c.loop-line.self.count; space = c.loop-line.self.space; text = c.loop-line.self.text } in
    let P = g.J.Judge.says c.args.judge.now in
    let T = g.J.Judge.recorded c.args.judge.now in
    on_ok_map c.extend.result
    (λ longer.
    let rest = Reads-rest P T g.W.Watch.saw c.loop-line.self new c.loop-line.watch c.loop-line.rest.now (c.in_default.ensures.none refl) longer refl refl in
    let both = Reads-both P T g.W.Watch.saw c.args.self.now c.loop-line.self new c.args.watch.now c.loop-line.watch c.loop-line.watch done c.loop-line.rest.now recorded [] reads rest in
    (recorded ++ [], subst (λ (bytes : List ℕ). Reads P T g.W.Watch.saw c.args.self.now new c.args.watch.now c.loop-line.watch bytes (recorded ++ [])) (sym parts) both))
    c.extend.ensures
