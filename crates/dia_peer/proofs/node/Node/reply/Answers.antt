use Rattle.std.proofs.Common.{◌≡◌, ℕ, List, Result, Ok, Err, refl, subst}
use Rattle.dia_dict.specs.Base.{base}
use Rattle.dia_check.specs.declared.Unknown.TheVariants.{Kept}
use Rattle.dia_check.specs.declared.Levels.TheVariants.{Any}
use Rattle.dia_answer.specs.declared.forms.Made.{Made}
use Rattle.dia_answer.specs.declared.forms.NoAnswer.{NoAnswer}
use Rattle.dia_answer.specs.Reports.{IsAnswered}
use Rattle.dia_peer.specs.Core.{PlainConfig, plain_config}
use Rattle.dia_peer.specs.Replies.{IsAnsweredBy}
use Rattle.dia_peer.proofs.node.Node.reply.Goals as goal

by_names : (c : PlainConfig) (host realm bytes : List ℕ) (r found : Result Made NoAnswer) → host ≡ c.host → realm ≡ c.realm → r ≡ found → IsAnswered base Kept Any host realm bytes r → IsAnsweredBy c bytes found
by_names c host realm bytes r found is_host is_realm is h =
    subst (IsAnsweredBy c bytes) is
    (subst (λ (name : List ℕ). IsAnswered base Kept Any c.host name bytes r) is_realm (subst (λ (name : List ℕ). IsAnswered base Kept Any name realm bytes r) is_host h))

pub returns-in-Ok : goal.returns-in-Ok
returns-in-Ok c =
    let made = c.in-Ok.field-0 in
    (made, by_names (plain_config c.args.self.now.config) _ _ c.args.bytes.now _ (Ok made) c.as_str.ensures.value c.as_str-2.ensures.value c.in-Ok.is c.in_ok-bytes.ensures, refl)

pub returns-in-Err : goal.returns-in-Err
returns-in-Err c =
    let why = c.in-Err.field-0 in
    (why, by_names (plain_config c.args.self.now.config) _ _ c.args.bytes.now _ (Err why) c.as_str.ensures.value c.as_str-2.ensures.value c.in-Err.is c.in_ok-bytes.ensures)
