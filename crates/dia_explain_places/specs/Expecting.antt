-- What may come at a place of a dictionary's text, as it is reported to a reader: a word or a few for each.
use Rattle.std.specs.Prelude.{ℕ, Bool, true, false, List, [], ◌∷◌, codes}
use Rattle.dia_ccf.specs.declared.wanted.Wanted.{Wanted}
use Rattle.dia_ccf.specs.declared.wanted.Wanted.TheVariants.{Item, Declaration, Definition, Head, Rules}
use Rattle.dia_ccf.specs.declared.wanted.InDeclaration.{InDeclaration}
use Rattle.dia_ccf.specs.declared.wanted.InDeclaration.TheVariants as declaration
use Rattle.dia_ccf.specs.declared.wanted.InDefinition.{InDefinition}
use Rattle.dia_ccf.specs.declared.wanted.InDefinition.TheVariants as definition
use Rattle.dia_ccf.specs.declared.wanted.InHead.{InHead}
use Rattle.dia_ccf.specs.declared.wanted.InHead.TheVariants as head
use Rattle.dia_ccf.specs.declared.wanted.InRules.{InRules}
use Rattle.dia_ccf.specs.declared.wanted.InRules.TheVariants as rules
use Rattle.dia_terms.specs.declared.RuleKind.TheVariants.{Optional}
use Rattle.dia_terms.specs.Formats.{format_words}

abbrev pub expected_in_declaration : InDeclaration → List (List ℕ)
expected_in_declaration declaration.Name = codes "the name of an AVP" ∷ []
expected_in_declaration declaration.Code = codes "the AVP code, a number below 2^32" ∷ []
expected_in_declaration declaration.VendorOrFormat = codes "vendor" ∷ format_words
expected_in_declaration declaration.Format = format_words
expected_in_declaration declaration.Vendor = codes "the vendor's number, below 2^32" ∷ []
expected_in_declaration (declaration.MRule is_enumerated) = codes "must" ∷ codes "mustnot" ∷ codes "any" ∷ []
expected_in_declaration declaration.ValuesOrItem =
    codes "( and a list of values" ∷ codes "%avp" ∷ codes "the name of a definition" ∷ codes "the end of the text" ∷ []
expected_in_declaration declaration.FirstValue = codes "a value below 2^31" ∷ []
expected_in_declaration (declaration.DotsOrValue low) = codes ".. and the end of a range" ∷ codes "the next value" ∷ codes ")" ∷ []
expected_in_declaration (declaration.High low) = codes "the end of the range: no less than its start, and below 2^31" ∷ []
expected_in_declaration declaration.NextValue = codes "the next value, below 2^31" ∷ codes ")" ∷ []

abbrev pub expected_in_definition : InDefinition → List (List ℕ)
expected_in_definition definition.Name = codes "the name of a definition" ∷ []
expected_in_definition definition.Close = codes "> after the name" ∷ []
expected_in_definition definition.Assign = codes "::= after the name of a definition" ∷ []
expected_in_definition definition.Head = codes "< Diameter Header: .. >" ∷ codes "< AVP Header: .. >" ∷ []

-- after the Command Code and some flags: REQ was read, PXY was, and a comma
abbrev pub flags_at : (request pxy comma : Bool) → List (List ℕ)
flags_at request true false = codes "the Application-ID" ∷ codes ">" ∷ []
flags_at request true true = codes "the Application-ID, a number below 2^32" ∷ []
flags_at true false false = codes "PXY" ∷ codes "the Application-ID" ∷ codes ">" ∷ []
flags_at true false true = codes "PXY" ∷ codes "the Application-ID, a number below 2^32" ∷ []
flags_at false false false = codes "REQ" ∷ codes "PXY" ∷ codes "the Application-ID" ∷ codes ">" ∷ []
flags_at false false true = codes "REQ" ∷ codes "PXY" ∷ codes "the Application-ID, a number below 2^32" ∷ []

abbrev pub expected_in_head : InHead → List (List ℕ)
expected_in_head head.Word = codes "Diameter Header for a command" ∷ codes "AVP Header for a group" ∷ []
expected_in_head (head.Header is_group) = codes "Header" ∷ []
expected_in_head (head.Colon is_group) = codes ": after Header" ∷ []
expected_in_head head.CommandCode = codes "the Command Code, a number below 2^24" ∷ codes "code" ∷ []
expected_in_head (head.Flags request pxy comma) = flags_at request pxy comma
expected_in_head (head.ErrorWord comma) = codes "ERR after code" ∷ []
expected_in_head (head.ErrorProxy false) = codes "PXY" ∷ codes "[, PXY]" ∷ codes ">" ∷ []
expected_in_head (head.ErrorProxy true) = codes "PXY" ∷ []
expected_in_head (head.ErrorEither comma) = codes "PXY" ∷ []
expected_in_head head.EitherClose = codes "]" ∷ []
expected_in_head head.GroupCode = codes "the AVP code, a number below 2^32" ∷ []
expected_in_head (head.Vendor false) = codes "the vendor's number" ∷ codes ">" ∷ []
expected_in_head (head.Vendor true) = codes "the vendor's number, below 2^32" ∷ []
expected_in_head head.Close = codes "> at the end of the header" ∷ []

abbrev pub rule_or_end : List (List ℕ)
rule_or_end = codes "a rule, as { X }, [ X ] or *3 [ X ]" ∷ codes "the next definition" ∷ codes "%avp" ∷ codes "the end of the text" ∷ []

abbrev pub expected_in_rules : InRules → List (List ℕ)
expected_in_rules (rules.Rule only_fixed) = rule_or_end
expected_in_rules (rules.Angled true) = rule_or_end
expected_in_rules (rules.Angled false) = codes "::=, since after { X } and [ X ] a name in angle brackets begins a definition" ∷ []
expected_in_rules (rules.Star only_fixed) = codes "* after the least count, as in 1*3 { X }" ∷ []
expected_in_rules (rules.Greatest true) = codes "a greatest count" ∷ codes "<" ∷ codes "{" ∷ codes "[" ∷ []
expected_in_rules (rules.Greatest false) = codes "a greatest count" ∷ codes "{" ∷ codes "[" ∷ []
expected_in_rules (rules.Bracket true) = codes "<" ∷ codes "{" ∷ codes "[" ∷ []
expected_in_rules (rules.Bracket false) = codes "{" ∷ codes "[" ∷ []
expected_in_rules rules.FixedName = codes "the name of an AVP" ∷ []
expected_in_rules (rules.AngledName true) = codes "the name of an AVP" ∷ []
expected_in_rules (rules.AngledName false) = codes "the name of a definition" ∷ []
expected_in_rules rules.FixedClose = codes "> after the name" ∷ []
expected_in_rules (rules.AngledClose only_fixed) = codes "> after the name" ∷ []
expected_in_rules (rules.LooseName kind) = codes "the name of an AVP" ∷ codes "AVP for any other" ∷ []
expected_in_rules (rules.LooseClose Optional) = codes "] after the name" ∷ []
expected_in_rules (rules.LooseClose kind) = codes "} after the name" ∷ []

-- what may come at a place
abbrev pub expected : Wanted → List (List ℕ)
expected Item = codes "%avp" ∷ codes "the name of a definition" ∷ codes "the end of the text" ∷ []
expected (Declaration place) = expected_in_declaration place
expected (Definition place) = expected_in_definition place
expected (Head place) = expected_in_head place
expected (Rules place) = expected_in_rules place
