use Rattle.std.proofs.Common.{[], length}
use Rattle.dia_dict.specs.Dictionary.{Dictionary}
use Rattle.dia_check.specs.declared.Unknown.{Unknown}
use Rattle.dia_check.specs.declared.Levels.{Levels}
use Rattle.dia_check.specs.Streams.{Denotes, IsSpent}
use Rattle.dia_run.specs.Texts.{SpellsFirst}
use Rattle.dia_run.specs.FedTexts.{WasFed}
use Rattle.dia_run.proofs.commands.check.feeding.feed_text.Given as goal

abbrev pub invariant-loop-stream : goal.invariant-loop-stream
invariant-loop-stream g l = record {
  live : ¬ IsSpent l.stream;
  spelled : SpellsFirst l.text l.bytes.items l.fed.rest.now;
  fed : (d : Dictionary) (u : Unknown) (most : Levels)
      → Denotes g.B.Book.meaning l.fn.stream d u most [] → WasFed g.B.Book.meaning l.stream d u most l.bytes.items l.fed.trailing;
}

abbrev pub decreases-loop-stream : goal.decreases-loop-stream
decreases-loop-stream g l = length l.fed.rest.now
