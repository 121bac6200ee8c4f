-- The AVPs of the base protocol (RFC 6733 section 4.5).
use Rattle.std.specs.Prelude.{ℕ, List, [], ◌∷◌, codes}
use Rattle.dia_terms.specs.declared.FormatName.{FormatName}
use Rattle.dia_terms.specs.declared.FormatName.TheVariants as format
use Rattle.dia_terms.specs.declared.MRule.{MRule}
use Rattle.dia_terms.specs.declared.MRule.TheVariants.{Must, MustNot}
use Rattle.dia_lint.specs.declared.base_table.BaseRow.{BaseRow}

pub record BaseDeclared : Type 0 where
  pub code : ℕ
  pub name : List ℕ
  pub format : FormatName
  pub m : MRule

abbrev pub plain_row : BaseRow → BaseDeclared
plain_row row = record { code = row.code; name = row.name.now; format = row.format; m = row.m }

abbrev pub base_row : ℕ → List ℕ → FormatName → MRule → BaseDeclared
base_row code name form m = record { code = code; name = name; format = form; m = m }

-- by their codes
unfoldable pub base_rows : List BaseDeclared
base_rows =
    base_row 1 (codes "User-Name") format.Utf8String Must
    ∷ base_row 25 (codes "Class") format.OctetString Must
    ∷ base_row 27 (codes "Session-Timeout") format.Unsigned32 Must
    ∷ base_row 33 (codes "Proxy-State") format.OctetString Must
    ∷ base_row 44 (codes "Acct-Session-Id") format.OctetString Must
    ∷ base_row 50 (codes "Acct-Multi-Session-Id") format.Utf8String Must
    ∷ base_row 55 (codes "Event-Timestamp") format.Time Must
    ∷ base_row 85 (codes "Acct-Interim-Interval") format.Unsigned32 Must
    ∷ base_row 257 (codes "Host-IP-Address") format.Address Must
    ∷ base_row 258 (codes "Auth-Application-Id") format.Unsigned32 Must
    ∷ base_row 259 (codes "Acct-Application-Id") format.Unsigned32 Must
    ∷ base_row 260 (codes "Vendor-Specific-Application-Id") format.Grouped Must
    ∷ base_row 261 (codes "Redirect-Host-Usage") format.Enumerated Must
    ∷ base_row 262 (codes "Redirect-Max-Cache-Time") format.Unsigned32 Must
    ∷ base_row 263 (codes "Session-Id") format.Utf8String Must
    ∷ base_row 264 (codes "Origin-Host") format.DiameterIdentity Must
    ∷ base_row 265 (codes "Supported-Vendor-Id") format.Unsigned32 Must
    ∷ base_row 266 (codes "Vendor-Id") format.Unsigned32 Must
    ∷ base_row 267 (codes "Firmware-Revision") format.Unsigned32 MustNot
    ∷ base_row 268 (codes "Result-Code") format.Unsigned32 Must
    ∷ base_row 269 (codes "Product-Name") format.Utf8String MustNot
    ∷ base_row 270 (codes "Session-Binding") format.Unsigned32 Must
    ∷ base_row 271 (codes "Session-Server-Failover") format.Enumerated Must
    ∷ base_row 272 (codes "Multi-Round-Time-Out") format.Unsigned32 Must
    ∷ base_row 273 (codes "Disconnect-Cause") format.Enumerated Must
    ∷ base_row 274 (codes "Auth-Request-Type") format.Enumerated Must
    ∷ base_row 276 (codes "Auth-Grace-Period") format.Unsigned32 Must
    ∷ base_row 277 (codes "Auth-Session-State") format.Enumerated Must
    ∷ base_row 278 (codes "Origin-State-Id") format.Unsigned32 Must
    ∷ base_row 279 (codes "Failed-AVP") format.Grouped Must
    ∷ base_row 280 (codes "Proxy-Host") format.DiameterIdentity Must
    ∷ base_row 281 (codes "Error-Message") format.Utf8String MustNot
    ∷ base_row 282 (codes "Route-Record") format.DiameterIdentity Must
    ∷ base_row 283 (codes "Destination-Realm") format.DiameterIdentity Must
    ∷ base_row 284 (codes "Proxy-Info") format.Grouped Must
    ∷ base_row 285 (codes "Re-Auth-Request-Type") format.Enumerated Must
    ∷ base_row 287 (codes "Accounting-Sub-Session-Id") format.Unsigned64 Must
    ∷ base_row 291 (codes "Authorization-Lifetime") format.Unsigned32 Must
    ∷ base_row 292 (codes "Redirect-Host") format.DiameterUri Must
    ∷ base_row 293 (codes "Destination-Host") format.DiameterIdentity Must
    ∷ base_row 294 (codes "Error-Reporting-Host") format.DiameterIdentity MustNot
    ∷ base_row 295 (codes "Termination-Cause") format.Enumerated Must
    ∷ base_row 296 (codes "Origin-Realm") format.DiameterIdentity Must
    ∷ base_row 297 (codes "Experimental-Result") format.Grouped Must
    ∷ base_row 298 (codes "Experimental-Result-Code") format.Unsigned32 Must
    ∷ base_row 299 (codes "Inband-Security-Id") format.Unsigned32 Must
    ∷ base_row 480 (codes "Accounting-Record-Type") format.Enumerated Must
    ∷ base_row 483 (codes "Accounting-Realtime-Required") format.Enumerated Must
    ∷ base_row 485 (codes "Accounting-Record-Number") format.Unsigned32 Must
    ∷ []
