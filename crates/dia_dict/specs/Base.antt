-- The base dictionary (after RFC 6733 sections 5 to 8; which rules and counts it lists is our profile).
use Rattle.std.specs.Prelude.{ℕ, true, false, List, [], ◌∷◌, Option, Some, None, codes}
use Rattle.dia_ccf.specs.declared.FormatName.{FormatName}
use Rattle.dia_ccf.specs.declared.FormatName.TheVariants.{OctetString, Unsigned32, Address, Utf8String, DiameterIdentity, Enumerated}
use Rattle.dia_terms.specs.declared.MRule.TheVariants.{Any}
use Rattle.dia_terms.specs.declared.Pxy.TheVariants.{Either}
use Rattle.dia_ccf.specs.declared.Head.{Head}
use Rattle.dia_ccf.specs.declared.Head.TheVariants.{Group, Command, Error}
use Rattle.dia_ccf.specs.declared.Qual.{Qual}
use Rattle.dia_terms.specs.declared.RuleKind.TheVariants.{Fixed, Required, Optional}
use Rattle.dia_ccf.specs.Plain.{PlainDecl, PlainRule, PlainDef, PlainSource}
use Rattle.dia_book.specs.Dictionary.{Dictionary}
use Rattle.dia_dict.specs.Resolution.{resolved}

-- an AVP without a vendor, whose M flag may be set or clear
abbrev pub avp : List ℕ → ℕ → FormatName → PlainDecl
avp name code format = record { name = name; code = code; vendor = 0; format = format; values = None; rule = Any }

-- a number or none, a star, and a number or none
abbrev pub times : Option ℕ → Option ℕ → Option Qual
times min max = Some (record { min = min; max = max })

abbrev pub any_number : Option Qual
any_number = times None None

abbrev pub one_or_more : Option Qual
one_or_more = times (Some 1) None

abbrev pub fixed : Option Qual → List ℕ → PlainRule
fixed qual name = record { kind = Fixed; name = Some name; qual = qual }

abbrev pub required : Option Qual → List ℕ → PlainRule
required qual name = record { kind = Required; name = Some name; qual = qual }

abbrev pub optional : Option Qual → List ℕ → PlainRule
optional qual name = record { kind = Optional; name = Some name; qual = qual }

abbrev pub required_any : Option Qual → PlainRule
required_any qual = record { kind = Required; name = None; qual = qual }

abbrev pub optional_any : Option Qual → PlainRule
optional_any qual = record { kind = Optional; name = None; qual = qual }

abbrev pub def : List ℕ → Head → List PlainRule → PlainDef
def name head rules = record { name = name; head = head; rules = rules }

-- what the text of the base dictionary says
abbrev pub base_source : PlainSource
base_source = record {
  avps =
      avp (codes "User-Name") 1 Utf8String ∷
      avp (codes "Proxy-State") 33 OctetString ∷
      avp (codes "Host-IP-Address") 257 Address ∷
      avp (codes "Auth-Application-Id") 258 Unsigned32 ∷
      avp (codes "Acct-Application-Id") 259 Unsigned32 ∷
      avp (codes "Session-Id") 263 Utf8String ∷
      avp (codes "Origin-Host") 264 DiameterIdentity ∷
      avp (codes "Supported-Vendor-Id") 265 Unsigned32 ∷
      avp (codes "Vendor-Id") 266 Unsigned32 ∷
      avp (codes "Firmware-Revision") 267 Unsigned32 ∷
      avp (codes "Result-Code") 268 Unsigned32 ∷
      avp (codes "Product-Name") 269 Utf8String ∷
      record { name = codes "Disconnect-Cause"; code = 273; vendor = 0; format = Enumerated; values = Some ((0, 0) ∷ (1, 1) ∷ (2, 2) ∷ []); rule = Any } ∷
      avp (codes "Origin-State-Id") 278 Unsigned32 ∷
      avp (codes "Proxy-Host") 280 DiameterIdentity ∷
      avp (codes "Error-Message") 281 Utf8String ∷
      avp (codes "Error-Reporting-Host") 294 DiameterIdentity ∷
      avp (codes "Origin-Realm") 296 DiameterIdentity ∷
      avp (codes "Experimental-Result-Code") 298 Unsigned32 ∷
      avp (codes "Inband-Security-Id") 299 Unsigned32 ∷
      [];
  groups =
      def (codes "Vendor-Specific-Application-Id") (Group 260 0) (
      required None (codes "Vendor-Id") ∷
      optional None (codes "Auth-Application-Id") ∷
      optional None (codes "Acct-Application-Id") ∷
      []) ∷
      def (codes "Failed-AVP") (Group 279 0) (
      required_any one_or_more ∷
      []) ∷
      def (codes "Proxy-Info") (Group 284 0) (
      required None (codes "Proxy-Host") ∷
      required None (codes "Proxy-State") ∷
      optional_any any_number ∷
      []) ∷
      def (codes "Experimental-Result") (Group 297 0) (
      required None (codes "Vendor-Id") ∷
      required None (codes "Experimental-Result-Code") ∷
      []) ∷
      [];
  commands =
      def (codes "CER") (Command 257 true false None) (
      required None (codes "Origin-Host") ∷
      required None (codes "Origin-Realm") ∷
      required one_or_more (codes "Host-IP-Address") ∷
      required None (codes "Vendor-Id") ∷
      required None (codes "Product-Name") ∷
      optional None (codes "Origin-State-Id") ∷
      optional any_number (codes "Supported-Vendor-Id") ∷
      optional any_number (codes "Auth-Application-Id") ∷
      optional any_number (codes "Inband-Security-Id") ∷
      optional any_number (codes "Acct-Application-Id") ∷
      optional any_number (codes "Vendor-Specific-Application-Id") ∷
      optional None (codes "Firmware-Revision") ∷
      optional_any any_number ∷
      []) ∷
      def (codes "CEA") (Command 257 false false None) (
      required None (codes "Result-Code") ∷
      required None (codes "Origin-Host") ∷
      required None (codes "Origin-Realm") ∷
      required one_or_more (codes "Host-IP-Address") ∷
      required None (codes "Vendor-Id") ∷
      required None (codes "Product-Name") ∷
      optional None (codes "Origin-State-Id") ∷
      optional None (codes "Error-Message") ∷
      optional None (codes "Failed-AVP") ∷
      optional any_number (codes "Supported-Vendor-Id") ∷
      optional any_number (codes "Auth-Application-Id") ∷
      optional any_number (codes "Inband-Security-Id") ∷
      optional any_number (codes "Acct-Application-Id") ∷
      optional any_number (codes "Vendor-Specific-Application-Id") ∷
      optional None (codes "Firmware-Revision") ∷
      optional_any any_number ∷
      []) ∷
      def (codes "DWR") (Command 280 true false None) (
      required None (codes "Origin-Host") ∷
      required None (codes "Origin-Realm") ∷
      optional None (codes "Origin-State-Id") ∷
      optional_any any_number ∷
      []) ∷
      def (codes "DWA") (Command 280 false false None) (
      required None (codes "Result-Code") ∷
      required None (codes "Origin-Host") ∷
      required None (codes "Origin-Realm") ∷
      optional None (codes "Error-Message") ∷
      optional None (codes "Failed-AVP") ∷
      optional None (codes "Origin-State-Id") ∷
      optional_any any_number ∷
      []) ∷
      def (codes "DPR") (Command 282 true false None) (
      required None (codes "Origin-Host") ∷
      required None (codes "Origin-Realm") ∷
      required None (codes "Disconnect-Cause") ∷
      optional_any any_number ∷
      []) ∷
      def (codes "DPA") (Command 282 false false None) (
      required None (codes "Result-Code") ∷
      required None (codes "Origin-Host") ∷
      required None (codes "Origin-Realm") ∷
      optional None (codes "Error-Message") ∷
      optional None (codes "Failed-AVP") ∷
      optional_any any_number ∷
      []) ∷
      def (codes "answer-message") (Error Either) (
      fixed (times (Some 0) (Some 1)) (codes "Session-Id") ∷
      required None (codes "Origin-Host") ∷
      required None (codes "Origin-Realm") ∷
      required None (codes "Result-Code") ∷
      optional None (codes "Origin-State-Id") ∷
      optional None (codes "Error-Message") ∷
      optional None (codes "Error-Reporting-Host") ∷
      optional None (codes "Failed-AVP") ∷
      optional None (codes "Experimental-Result") ∷
      optional any_number (codes "Proxy-Info") ∷
      optional_any any_number ∷
      []) ∷
      [];
}

abbrev pub base : Dictionary
base = resolved base_source
