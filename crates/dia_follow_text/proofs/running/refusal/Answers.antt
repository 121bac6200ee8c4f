use Rattle.std.proofs.lemmas.Result.{IfOk-weaker}
use Rattle.std.specs.Prelude.{string_bytes}
use Rattle.dia_refused_json.proofs.Recording.{dictionary_refused}
use Rattle.dia_follow_text.specs.FollowOutcome.{RefusesDictionary}
use Rattle.dia_follow_text.proofs.DictionaryRefused.{object_badly, refused_badly, refused_text}
use Rattle.dia_follow_text.proofs.running.refusal.Goals as goal

pub returns-then-json-clause-text : goal.returns-then-json-clause-text
returns-then-json-clause-text c = rw c.if-json.true (IfOk-weaker c.refuse.result _ _
    (λ a is. dictionary_refused (RefusesDictionary c.args.dictionary.now) c.args.dictionary.now c.args.refused c.requires.records c.requires.kept (string_bytes a.text) a.exit is) c.refuse.ensures.recorded)

pub returns-then-json-clause-exit : goal.returns-then-json-clause-exit
returns-then-json-clause-exit c = IfOk-weaker c.refuse.result _ _ (λ a is. object_badly c.args.dictionary.now c.args.refused (string_bytes a.text) a.exit is) c.refuse.ensures.recorded

pub returns-else-json-clause-text : goal.returns-else-json-clause-text
returns-else-json-clause-text c = rw c.if-json.false (IfOk-weaker c.answer_of.result _ _ (λ a is. refused_text c.args.dictionary.now c.args.refused a c.requires.records is) c.answer_of.ensures.refused)

pub returns-else-json-clause-exit : goal.returns-else-json-clause-exit
returns-else-json-clause-exit c = IfOk-weaker c.answer_of.result _ _ (λ a is. refused_badly c.args.refused a is) c.answer_of.ensures.refused
