-- Worked texts, computed.
use Rattle.std.proofs.Common.{◌≡◌, [], ◌∷◌, ◌++◌, refl}
use Rattle.std.specs.Prelude.{codes}
use Rattle.dia_ccf.specs.Tokens.{Less, Greater, Open_brace, Close_brace, Open_bracket, Close_bracket, Open_parenthesis, Close_parenthesis}
use Rattle.dia_ccf.specs.Tokens.{Star, Comma, Assign, Colon, Dots, Declares, Number, Name, Other, tokens}

short : tokens (codes "<T> ::= <") ≡ Less ∷ Name (codes "T") ∷ Greater ∷ Assign ∷ Less ∷ []
short = refl

ranges : tokens (codes "%avp3G-x 007 (0..3 7)") ≡ Declares ∷ Name (codes "3G-x") ∷ Number 7 ∷ Open_parenthesis ∷ Number 0 ∷ Dots ∷ Number 3 ∷ Number 7 ∷ Close_parenthesis ∷ []
ranges = refl

odd : tokens (codes "a:::=-5 ; note < >") ≡ Name (codes "a") ∷ Colon ∷ Assign ∷ Other ∷ []
odd = refl

-- The longest sign.
declares : tokens (codes "%avpX %avp7") ≡ Declares ∷ Name (codes "X") ∷ Declares ∷ Number 7 ∷ []
declares = refl

no_declares : tokens (codes "%AVP %avp-x") ≡ Other ∷ Name (codes "AVP") ∷ Declares ∷ Other ∷ []
no_declares = refl

colons : tokens (codes ":: :::=") ≡ Colon ∷ Colon ∷ Colon ∷ Assign ∷ []
colons = refl

dots : tokens (codes "1..2 ...") ≡ Number 1 ∷ Dots ∷ Number 2 ∷ Dots ∷ Other ∷ []
dots = refl

signs : tokens (codes "<>{}[]()*,") ≡ Less ∷ Greater ∷ Open_brace ∷ Close_brace ∷ Open_bracket ∷ Close_bracket ∷ Open_parenthesis ∷ Close_parenthesis ∷ Star ∷ Comma ∷ []
signs = refl

-- The longest run of letters, digits and dashes.
runs : tokens (codes "300REQ 3GPP-IMSI 1-2 -a") ≡ Name (codes "300REQ") ∷ Name (codes "3GPP-IMSI") ∷ Other ∷ Other ∷ []
runs = refl

-- A character of no token: each of its bytes is a token `Other`.
bytes : tokens (codes "a" ++ 195 ∷ 169 ∷ codes "b") ≡ Name (codes "a") ∷ Other ∷ Other ∷ Name (codes "b") ∷ []
bytes = refl

-- A comment ends at a line feed alone.
comments : tokens (codes "a;" ++ 195 ∷ 169 ∷ codes "<" ++ 13 ∷ codes "b" ++ 10 ∷ codes "c ; d") ≡ Name (codes "a") ∷ Name (codes "c") ∷ []
comments = refl
