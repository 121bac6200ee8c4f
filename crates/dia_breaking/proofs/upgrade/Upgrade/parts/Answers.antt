use Rattle.std.proofs.Common.{◌≡◌, ◌∙◌, Bool, List, Option, ap, cond, slice_get, sym, true}
use Rattle.dia_breaking.specs.declared.line.Site.{Site}
use Rattle.dia_breaking.specs.LineParts.{accepted_of, no_parts, parts_in, path_on, sent_of, subject_of}
use Rattle.dia_breaking.specs.Upgrades.{other_length_of, sides_of}
use Rattle.dia_breaking.specs.Words.{is_command}
use Rattle.dia_breaking.proofs.upgrade.Upgrade.parts.Goals as goal

pub returns : goal.returns
returns g c =
    let s = sides_of c.args.self.now in
    let other = other_length_of c.args.self.now in
    let command = c.args.breaks.now.command in
    let sites = c.args.breaks.now.sites.items in
    let line = c.args.line.now in
    let there : is_command s.sender command ≡ true = sym c.is_command.ensures ∙ c.if-not-is_command.false in
    let at = c.site_at-site.ensures ∙ ap (λ (all : List Site). slice_get all line.site) c.deref.ensures.value in
    let path = c.in_ok-path_on.ensures ∙ ap (path_on s command) (c.deref-2.ensures.value ∙ c.in_ok-path.ensures) in
    let subject = c.subject_of.ensures ∙ ap (λ (p : List Site). subject_of s p line.cause) (c.deref-3.ensures.value ∙ c.in_ok-path.ensures) in
    let sent = c.in_ok-sent_of.ensures ∙ ap (λ (x : Option Site). sent_of s other command x line.cause) at in
    let accepted = c.in_ok-accepted_of.ensures ∙ ap (λ (x : Option Site). accepted_of s command x line.cause) at in
    (λ i. record {
      path = path i;
      standing = line.standing;
      reason = c.reason_of.ensures i;
      subject = subject i;
      sent = sent i;
      following = c.after_of.ensures i;
      accepted = accepted i;
      read = c.in_ok-read_of.ensures i;
    }) ∙ ap (λ (b : Bool). cond b (parts_in s other command sites line) (no_parts line.standing)) (sym there)
