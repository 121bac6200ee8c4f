-- A message as it was captured.
use Rattle.std.specs.Prelude.{ℕ, ◌==◌, ◌&&◌, ◌||◌, ◌/◌, Bool, false, Option, Some, None}
use Rattle.dia_follow.specs.declared.codes.TheConstants.{CAPABILITIES_EXCHANGE, DEVICE_WATCHDOG, DISCONNECT_PEER}
use Rattle.dia_follow.specs.declared.message.Head.{Head}
use Rattle.dia_follow.specs.declared.message.Body.{Body}
use Rattle.dia_follow.specs.declared.message.Body.TheVariants.{Cut, Gap, Known}
use Rattle.dia_follow.specs.Contents.{PlainContents}

abbrev pub is_cer : Head → Bool
is_cer h = h.request && (h.code == CAPABILITIES_EXCHANGE)

-- the commands of the base protocol between neighbors (RFC 6733 sections 5.3 to 5.5)
abbrev pub is_base_code : ℕ → Bool
is_base_code code = (code == CAPABILITIES_EXCHANGE) || (code == DEVICE_WATCHDOG) || (code == DISCONNECT_PEER)

abbrev pub contents_of : Body → Option PlainContents
contents_of Cut = None
contents_of (Gap at) = None
contents_of (Known c) = Some c

abbrev pub result_of : Body → Option ℕ
result_of Cut = None
result_of (Gap at) = None
result_of (Known c) = c.result

-- 2xxx (RFC 6733 section 7.1.2)
abbrev pub is_success : Option ℕ → Bool
is_success None = false
is_success (Some code) = code / 1000 == 2
