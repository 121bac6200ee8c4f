use Rattle.std.proofs.Common.{◌≡◌, Bool, true, false, List, Option, Some, None, refl, sym, ap, ◌∙◌}
use Rattle.dia_ccf.specs.declared.lexer.Token.{Token as LexerToken}
use Rattle.dia_ccf.specs.declared.reading.Reader.{Reader}
use Rattle.dia_ccf.specs.Tokens.{Token}
use Rattle.dia_ccf.specs.LexerTokens.{left_from, ahead, sees, shown, shown_sign}
use Rattle.dia_ccf.specs.Machine.{same_sign}
use Rattle.dia_ccf.specs.ReaderFunctions.{left, Passes, Takes, begins_with}
use Rattle.dia_ccf.proofs.reading.Reader.takes.Goals as goal

took : (test : Token → Bool) (old new : Reader) (token : Option LexerToken) (rest : List Token) (b : Bool) → b ≡ true → b ≡ begins_with test (left old) → left old ≡ sees token rest
    → Passes old (ahead token) new → Takes test old b new
took test old new None rest true e h s passes = absurd (let k = h ∙ ap (begins_with test) s in cc)
took test old new (Some t) rest true e h s passes = (shown t, sym (h ∙ ap (begins_with test) s), passes)
took test old new token rest false e h s passes = absurd cc

stood : (test : Token → Bool) (old : Reader) (b : Bool) → b ≡ false → b ≡ begins_with test (left old) → Takes test old b old
stood test old true e h = absurd cc
stood test old false e h = (sym h, refl)

pub returns-then-found : goal.returns-then-found
returns-then-found c =
    let old = c.args.self.now in
    took (same_sign (shown_sign c.args.sign)) old c.advance.new.self old.token (left_from old.text.now old.end) c.is_at-found.result c.if-found.true c.is_at-found.ensures old.begins c.advance.ensures

pub returns-else-found : goal.returns-else-found
returns-else-found c = stood (same_sign (shown_sign c.args.sign)) c.args.self.now c.is_at-found.result c.if-found.false c.is_at-found.ensures
