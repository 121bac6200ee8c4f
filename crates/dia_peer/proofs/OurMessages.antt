-- Each message that a core of an accepted configuration sends is valid.
use Rattle.std.proofs.Common.{◌≡◌, ℕ, List, map, Some, refl}
use Rattle.std.specs.Prelude.{slice_get}
use Rattle.std.specs.List.{AllByRecursion}
use Rattle.dia_wire.specs.Wire.{PlainAvp, key_of, IsMessage}
use Rattle.dia_dict.specs.Base.{base}
use Rattle.dia_book.specs.Dictionary.{definitions, selected}
use Rattle.dia_check.specs.declared.Unknown.TheVariants.{Kept}
use Rattle.dia_check.specs.declared.Levels.TheVariants.{Any}
use Rattle.dia_valid.specs.Valid.{IsValid, HasR, HasE, HasT, class_of, AllowsP, Placed, Fits}
use Rattle.dia_peer.specs.declared.kept_requests.Ids.{Ids}
use Rattle.dia_peer.specs.Core.{PlainConfig, IsConfig, Sent}
use Rattle.dia_peer.specs.Messages.{header_of, IsOurs, is_cer, is_cea, is_dwr, is_dwa, is_dpr, is_dpa}
use Rattle.dia_peer.proofs.AvpCounts.{definition, cer_occurs, cea_occurs, dwr_occurs, dwa_occurs, dpr_occurs, dpa_occurs}
use Rattle.dia_peer.proofs.OurAvps.{each_fits}
use Rattle.dia_peer.proofs.SentAvps.{all_ours}

-- what a message is to have, for the definition of this number
is_valid : (n flags code : ℕ) (ids : Ids) (avps : List PlainAvp) (bytes : List ℕ) → (HasR flags → ¬ HasE flags) → (HasT flags → HasR flags) → selected base code (class_of flags) 0 ≡ Some n
    → slice_get (definitions base) n ≡ Some (definition n) → AllowsP (definition n).head flags → Placed (definition n).rules (map key_of avps) → AllByRecursion (Fits base Kept 1) avps
    → IsMessage (header_of flags code ids) avps bytes → IsValid base Kept Any bytes
is_valid n flags code ids avps bytes apart again select is p placed fit message = (
  n,
  record {
    header = header_of flags code ids;
    avps = avps;
    command = definition n;
    message = message;
    no_error_request = apart;
    no_repeated_answer = again;
    select = select;
    is_command = is;
    proxiable = p;
    placed = placed;
    fit = (1, fit);
  },
)

pub ours_are_valid : (c : PlainConfig) (m : Sent) (bytes : List ℕ) → IsConfig c → IsOurs c m → IsMessage m.header m.avps bytes → IsValid base Kept Any bytes
ours_are_valid c m bytes ok ours message = by m ours (all_ours (Fits base Kept 1) c (each_fits c ok) ok.addresses.2 m ours) message
  where
    by : (m : Sent) → IsOurs c m → AllByRecursion (Fits base Kept 1) m.avps → IsMessage m.header m.avps bytes → IsValid base Kept Any bytes
    by m (is_cer ids) fit message = is_valid 4 128 257 ids _ bytes (λ r e. e refl) (λ t. absurd (t refl)) refl refl (λ p. p refl) (cer_occurs c ok) fit message
    by m (is_cea ids n) fit message = is_valid 5 0 257 ids _ bytes (λ r e. e refl) (λ t. absurd (t refl)) refl refl (λ p. p refl) (cea_occurs c n ok) fit message
    by m (is_dwr ids) fit message = is_valid 6 128 280 ids _ bytes (λ r e. e refl) (λ t. absurd (t refl)) refl refl (λ p. p refl) (dwr_occurs c) fit message
    by m (is_dwa ids) fit message = is_valid 7 0 280 ids _ bytes (λ r e. e refl) (λ t. absurd (t refl)) refl refl (λ p. p refl) (dwa_occurs c 2001) fit message
    by m (is_dpr ids cause) fit message = is_valid 8 128 282 ids _ bytes (λ r e. e refl) (λ t. absurd (t refl)) refl refl (λ p. p refl) (dpr_occurs c cause) fit message
    by m (is_dpa ids) fit message = is_valid 9 0 282 ids _ bytes (λ r e. e refl) (λ t. absurd (t refl)) refl refl (λ p. p refl) (dpa_occurs c 2001) fit message
