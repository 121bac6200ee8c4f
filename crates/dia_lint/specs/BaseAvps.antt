-- The AVPs of the base protocol that guidelines speak of (RFC 6733 section 4.5).
use Rattle.std.specs.Prelude.{ℕ, List, codes}
use Rattle.dia_wire.specs.declared.Key.{Key}
use Rattle.dia_lint.specs.declared.base_avps.BaseAvp.{BaseAvp}
use Rattle.dia_lint.specs.declared.base_avps.BaseAvp.TheVariants as base

abbrev pub base_code : BaseAvp → ℕ
base_code base.AuthSessionState = 277
base_code base.DestinationHost = 293
base_code base.DestinationRealm = 283
base_code base.ExperimentalResult = 297
base_code base.FailedAvp = 279
base_code base.OriginHost = 264
base_code base.OriginRealm = 296
base_code base.ProxyInfo = 284
base_code base.ResultCode = 268
base_code base.RouteRecord = 282
base_code base.SessionId = 263

-- they have no vendor
abbrev pub base_key : BaseAvp → Key
base_key avp = record { code = base_code avp; vendor = 0 }

abbrev pub base_name : BaseAvp → List ℕ
base_name base.AuthSessionState = codes "Auth-Session-State"
base_name base.DestinationHost = codes "Destination-Host"
base_name base.DestinationRealm = codes "Destination-Realm"
base_name base.ExperimentalResult = codes "Experimental-Result"
base_name base.FailedAvp = codes "Failed-AVP"
base_name base.OriginHost = codes "Origin-Host"
base_name base.OriginRealm = codes "Origin-Realm"
base_name base.ProxyInfo = codes "Proxy-Info"
base_name base.ResultCode = codes "Result-Code"
base_name base.RouteRecord = codes "Route-Record"
base_name base.SessionId = codes "Session-Id"
