use Rattle.std.proofs.Common.{◌≡◌, ℕ, ◌∙◌, Bool, true, false, List, [], ◌∷◌, Some, refl, sym, ap, slice_get}
use Rattle.std.specs.Prelude.{◌||◌, ◌==◌, nat_eq, codes}
use Rattle.std.specs.List.{starts_with}
use Rattle.dia_ccf.specs.Tokens.{Token, Declares, Assign, Dots, is_white, sign, piece}
use Rattle.dia_ccf.specs.Front.{front, run_front, begins_blank, byte_piece, run_piece}
use Rattle.dia_ccf.specs.LexerTokens.{shown_sign}
use Rattle.dia_ccf.proofs.lexer.sign_at_front.Goals as goal

neither : (a b : Bool) → (a || b) ≡ false → (a ≡ false) × (b ≡ false)
neither true b h = absurd cc
neither false b h = (refl, h)

declares : (bytes : List ℕ) → begins_blank bytes ≡ false → starts_with nat_eq bytes (codes "%avp") ≡ true → front bytes ≡ Some (sign Declares 4)
declares [] h a = absurd cc
declares (c ∷ rest) h a = let k = neither (is_white c) (c == 59) h in rw (k.0, k.1, a) refl

assign : (bytes : List ℕ) → begins_blank bytes ≡ false → starts_with nat_eq bytes (codes "%avp") ≡ false → starts_with nat_eq bytes (codes "::=") ≡ true → front bytes ≡ Some (sign Assign 3)
assign [] h a b = absurd cc
assign (c ∷ rest) h a b = let k = neither (is_white c) (c == 59) h in rw (k.0, k.1, a, b) refl

dots : (bytes : List ℕ) → begins_blank bytes ≡ false → starts_with nat_eq bytes (codes "%avp") ≡ false → starts_with nat_eq bytes (codes "::=") ≡ false
    → starts_with nat_eq bytes (codes "..") ≡ true → front bytes ≡ Some (sign Dots 2)
dots [] h a b d = absurd cc
dots (c ∷ rest) h a b d = let k = neither (is_white c) (c == 59) h in rw (k.0, k.1, a, b, d) refl

byte : (c : ℕ) (rest : List ℕ) → begins_blank (c ∷ rest) ≡ false → starts_with nat_eq (c ∷ rest) (codes "%avp") ≡ false → starts_with nat_eq (c ∷ rest) (codes "::=") ≡ false
    → starts_with nat_eq (c ∷ rest) (codes "..") ≡ false → piece c rest ≡ byte_piece c rest
byte c rest h a b d = let k = neither (is_white c) (c == 59) h in rw (k.0, k.1, a, b, d) refl

one_byte : (bytes : List ℕ) (c : ℕ) (token : Token) → begins_blank bytes ≡ false → starts_with nat_eq bytes (codes "%avp") ≡ false → starts_with nat_eq bytes (codes "::=") ≡ false
    → starts_with nat_eq bytes (codes "..") ≡ false → slice_get bytes 0 ≡ Some c → ((rest : List ℕ) → byte_piece c rest ≡ sign token 1) → front bytes ≡ Some (sign token 1)
one_byte [] c token h a b d is k = absurd cc
one_byte (e ∷ rest) c token h a b d is k = let same : e ≡ c = cc in ap Some (byte e rest h a b d ∙ ap (λ (x : ℕ). byte_piece x rest) same ∙ k rest)

no_byte : (bytes : List ℕ) (c : ℕ) → begins_blank bytes ≡ false → starts_with nat_eq bytes (codes "%avp") ≡ false → starts_with nat_eq bytes (codes "::=") ≡ false
    → starts_with nat_eq bytes (codes "..") ≡ false → slice_get bytes 0 ≡ Some c → ((rest : List ℕ) → byte_piece c rest ≡ run_piece c rest) → front bytes ≡ run_front bytes
no_byte [] c h a b d is k = refl
no_byte (e ∷ rest) c h a b d is k =
    let same : e ≡ c = cc in
    ap Some (byte e rest h a b d ∙ ap (λ (x : ℕ). byte_piece x rest) same ∙ k rest ∙ ap (λ (x : ℕ). run_piece x rest) (sym same))

pub returns-then-starts_with-clause-some : goal.returns-then-starts_with-clause-some
returns-then-starts_with-clause-some c = declares c.args.bytes.now c.requires (sym c.starts_with.ensures.value ∙ c.if-starts_with.true)

pub returns-then-starts_with-2-clause-some : goal.returns-then-starts_with-2-clause-some
returns-then-starts_with-2-clause-some c =
    assign c.args.bytes.now c.requires (sym c.starts_with.ensures.value ∙ c.if-starts_with.false) (sym c.starts_with-2.ensures.value ∙ c.if-starts_with-2.true)

pub returns-then-starts_with-3-clause-some : goal.returns-then-starts_with-3-clause-some
returns-then-starts_with-3-clause-some c =
    dots c.args.bytes.now c.requires (sym c.starts_with.ensures.value ∙ c.if-starts_with.false) (sym c.starts_with-2.ensures.value ∙ c.if-starts_with-2.false)
    (sym c.starts_with-3.ensures.value ∙ c.if-starts_with-3.true)

pub returns-in_err-sign-clause-none : goal.returns-in_err-sign-clause-none
returns-in_err-sign-clause-none c = λ none.
    no_byte c.args.bytes.now c.in_ok-first.field-0.now c.requires (sym c.starts_with.ensures.value ∙ c.if-starts_with.false) (sym c.starts_with-2.ensures.value ∙ c.if-starts_with-2.false)
    (sym c.starts_with-3.ensures.value ∙ c.if-starts_with-3.false) (sym c.in_ok-first.ensures.value) c.in_err-sign.ensures

pub returns-clause-some : goal.returns-clause-some
returns-clause-some c =
    one_byte c.args.bytes.now c.in_ok-first.field-0.now (shown_sign c.in_ok-sign.sign) c.requires (sym c.starts_with.ensures.value ∙ c.if-starts_with.false)
    (sym c.starts_with-2.ensures.value ∙ c.if-starts_with-2.false) (sym c.starts_with-3.ensures.value ∙ c.if-starts_with-3.false) (sym c.in_ok-first.ensures.value) c.in_ok-sign.ensures
