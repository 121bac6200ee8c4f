use Rattle.std.proofs.Common.{◌++◌, List, ℕ, ap, ◌∙◌}
use Rattle.dia_mask.specs.Replaced.{new_utf8}
use Rattle.dia_mask.proofs.Characters.{agrees_before, grows_on, no_more}
use Rattle.dia_mask.proofs.Replacing.{rule_begun, rule_ends, rule_goes_on}
use Rattle.dia_mask.proofs.texts.Masking.push_rule.Goals as goal

pub loop-front-init : goal.loop-front-init
loop-front-init c = (no_more c.args.self.now.words, λ numbers agrees. rule_begun numbers c.args.self.now.data.items c.args.bytes.now)

pub loop-front-preserved : goal.loop-front-preserved
loop-front-preserved c =
    let old = c.loop-front.self in
    let mid = c.push_text.new.self in
    let e = c.in_ok-push_text.ensures in (
      grows_on c.args.self.now.words old.words mid.words c.loop-front.invariant.0 e.grows,
      λ numbers agrees. rule_goes_on numbers c.args.self.now.data.items old.data.items mid.data.items c.push.new.self.items c.args.bytes.now c.loop-front.rest.now c.in-Some.front.now
          c.in-Some.following.now c.in-Some.ensures.some (e.text numbers agrees) c.in_ok-push.ensures.items
          (c.loop-front.invariant.1 numbers (agrees_before old.words mid.words numbers e.grows agrees)),
    )

pub returns-in_ok-push_text-in-Ok : goal.returns-in_ok-push_text-in-Ok
returns-in_ok-push_text-in-Ok c =
    let old = c.loop-front.self in
    let new = c.push_text-in-Ok.new.self in
    let e = c.in_ok-push_text-in-Ok.ensures in
    let same = c.in-Ok.ensures.cases.0 in (
      grows_on c.args.self.now.words old.words new.words c.loop-front.invariant.0 e.grows,
      λ numbers agrees. rule_ends numbers c.args.self.now.data.items old.data.items new.data.items c.args.bytes.now c.loop-front.rest.now c.in-Ok.ensures.cases.1
          (e.text numbers agrees ∙ ap (λ (t : List ℕ). old.data.items ++ new_utf8 numbers t) same)
          (c.loop-front.invariant.1 numbers (agrees_before old.words new.words numbers e.grows agrees)),
    )
