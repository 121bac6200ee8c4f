-- The text of the base dictionary is the canonical text of its source, and so is read as that source.
use Rattle.std.proofs.Common.{◌≡◌, refl, subst}
use Rattle.std.specs.Fmt.{digits}
use Rattle.dia_ccf.specs.declared.Source.{Source}
use Rattle.dia_ccf.specs.Grammar.{Derives}
use Rattle.dia_ccf.specs.Plain.{PlainSource, plain_source}
use Rattle.dia_ccf.specs.CanonicalText.{canonical}
use Rattle.dia_ccf.specs.Tokens.{tokens}
use Rattle.dia_ccf.proofs.CanonicalTexts.{derives-canonical}
use Rattle.dia_dict.specs.declared.base.text.TheConstants.{TEXT}
use Rattle.dia_dict.specs.Base.{base_source}

pub text-canonical : TEXT.now ≡ canonical base_source
unfolding digits
text-canonical = refl

pub derives-base : (s : Source) → plain_source s ≡ base_source → Derives (tokens (canonical base_source)) base_source
derives-base s same = subst (λ (p : PlainSource). Derives (tokens (canonical p)) p) same (derives-canonical s)
