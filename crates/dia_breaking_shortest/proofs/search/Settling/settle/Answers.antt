use Rattle.std.proofs.Common.{◌≡◌, sym, subst}
use Rattle.dia_breaking_shortest.specs.declared.order.Ranked.{Ranked}
use Rattle.dia_breaking_shortest.specs.Passes.{AreKept, AreNoShorter, length_in}
use Rattle.dia_breaking_shortest.proofs.LessLengths.{always, pushed_ranks}
use Rattle.dia_breaking_shortest.proofs.search.Settling.settle.Goals as goal

pub reach-requires : goal.reach-requires
reach-requires g c =
    let f = length_in (g.B.Book.meaning c.args.book.now) c.args.least.now in
    let r : Ranked = record { key = c.entry_key-key.result; length = c.key-length.result } in
    record {
      kept = c.requires.kept;
      ranks = subst (AreNoShorter f) (sym c.deref.ensures.value)
          (pushed_ranks f c.args.self.now.order.items c.push.new.self.items r c.in_ok-push.ensures.items c.requires.ranks c.key-length.ensures);
    }

pub returns : goal.returns
returns g c =
    let d = g.B.Book.meaning c.args.book.now in
    let least = c.reach.new.least in
    let order = c.push.new.self.items in
    let ranks = subst (AreNoShorter (length_in d least)) c.deref.ensures.value c.reach.ensures.ranks in
    record {
      sends = always (least.sends ≡ c.args.least.now.sends) c.reach.result c.reach.ensures.sends;
      kept = always (AreKept d least) c.reach.result c.reach.ensures.kept;
      ranks = always (AreNoShorter (length_in d least) order) c.reach.result ranks;
    }
