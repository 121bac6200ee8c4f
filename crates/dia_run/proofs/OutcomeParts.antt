-- An outcome, from what is known of its parts.
use Rattle.std.proofs.Common.{◌≡◌, ◌≢◌, ℕ, ◌<◌, ◌≤◌, List, [], ◌∷◌, ◌++◌, Bool, true, false, Option, Result, Err, length, take, drop, slice_index, refl, ap, subst, ◌∙◌}
use Rattle.std.specs.List.{concat}
use Rattle.dia_wire.specs.declared.Header.{Header}
use Rattle.dia_wire.specs.declared.header.MessageFault.{MessageFault}
use Rattle.dia_wire.specs.declared.header.MessageFault.TheVariants as faults
use Rattle.dia_wire.specs.Number.{number}
use Rattle.dia_wire.specs.Wire.{BeginsMessage, IsHead, IsMessageLength}
use Rattle.dia_dict.specs.Dictionary.{Dictionary}
use Rattle.dia_report.specs.declared.refusing.Refused.{Refused}
use Rattle.dia_report.specs.declared.refusing.Refused.TheVariants.{Bad}
use Rattle.dia_report.specs.declared.bad_input.BadInput.TheVariants.{Message}
use Rattle.dia_report.specs.declared.bad_input.BadMessage.TheVariants.{NoMessage}
use Rattle.dia_io.specs.declared.Exit.{Exit}
use Rattle.dia_io.specs.declared.Exit.TheVariants as exits
use Rattle.dia_run.specs.Rows.{AreMessageRows, AreWritten, Row, command_name, of_header}
use Rattle.dia_run.specs.Walk.{Adds, AddsLevel}
use Rattle.dia_run.specs.Outcome.{Ends, IsWritten, listing, short, version, bad_length, truncated, trailing, listing_exit}

-- bytes that are no single message, by what each fault says of them
pub Ends-unsplit : {A : Type 0} (P : Row → List ℕ → Type 0) (d : Dictionary) (bytes : List ℕ) (r : Result A MessageFault) (why : MessageFault) (refused : Refused) → r ≡ Err why → refused ≡ Bad (Message (NoMessage why))
    → (r ≡ Err faults.Short → length bytes < 20) → (r ≡ Err faults.Version → (20 ≤ length bytes) × (slice_index bytes 0 ≢ 1))
    → (r ≡ Err faults.Length → (20 ≤ length bytes) × (slice_index bytes 0 ≡ 1) × ¬ IsMessageLength (number (take 3 (drop 1 bytes))))
    → (r ≡ Err faults.Truncated → (n : ℕ) × BeginsMessage bytes n × (length bytes < n)) → (r ≡ Err faults.Trailing → (n : ℕ) × BeginsMessage bytes n × (n < length bytes))
    → Ends (IsWritten P d bytes) (Err refused)
Ends-unsplit P d bytes r faults.Short refused is same on_short on_version on_length on_truncated on_trailing = rw same (short (on_short is) (refl, refl))
Ends-unsplit P d bytes r faults.Version refused is same on_short on_version on_length on_truncated on_trailing = let (long, other) = on_version is in rw same (version long other (refl, refl))
Ends-unsplit P d bytes r faults.Length refused is same on_short on_version on_length on_truncated on_trailing = let (long, is_one, bad) = on_length is in
    rw same (bad_length long is_one bad (refl, refl))
Ends-unsplit P d bytes r faults.Truncated refused is same on_short on_version on_length on_truncated on_trailing = let (n, begins, less) = on_truncated is in
    rw same (truncated n begins less (refl, refl))
Ends-unsplit P d bytes r faults.Trailing refused is same on_short on_version on_length on_truncated on_trailing = let (n, begins, more) = on_trailing is in rw same (trailing n begins more (refl, refl))

-- the text of a message whose length is its Message Length
pub listed : (P : Row → List ℕ → Type 0) (d : Dictionary) (bytes body begun headed all : List ℕ) (h : Header) (command : Option (List ℕ)) (bad : Bool) (exit : Exit) → begun ≡ []
    → command ≡ command_name d h → Adds (P (of_header h (length bytes) command)) begun headed
    → IsHead h (length bytes) (take 20 bytes) → IsMessageLength (length bytes) → body ≡ drop 20 bytes → AddsLevel P d (record { depth = 0; place = 20; bytes = body }) headed all bad
    → exit ≡ listing_exit bad → IsWritten P d bytes all exit
listed P d bytes body begun headed all h command bad exit none is_command (line, is_line, is_headed) is_head is_length is_body (rows, texts, are, written, is_all) is_exit =
    listing (of_header h (length bytes) (command_name d h) ∷ rows) (line ∷ texts) bad
    (record { h = h; avps = rows; head = is_head; long = is_length; body = rw (← is_body) are; are = refl })
    (subst (λ (c : Option (List ℕ)). P (of_header h (length bytes) c) line) is_command is_line, written)
    (is_all ∙ ap (λ (f : List ℕ). f ++ concat texts) (is_headed ∙ ap (λ (f : List ℕ). f ++ line) none)) is_exit

-- rows that P writes are written by Q, where each text of P is one of Q
AreWritten-as : {T : Type 0} (P Q : Row → T → Type 0) → ((row : Row) (text : T) → P row text → Q row text) → (rows : List Row) (texts : List T) → AreWritten P rows texts → AreWritten Q rows texts
AreWritten-as P Q f [] [] all = tt
AreWritten-as P Q f [] (t ∷ texts) all = absurd all
AreWritten-as P Q f (row ∷ rows) [] all = absurd all
AreWritten-as P Q f (row ∷ rows) (t ∷ texts) (h, all) = (f row t h, AreWritten-as P Q f rows texts all)

pub written_as : (P Q : Row → List ℕ → Type 0) → ((row : Row) (text : List ℕ) → P row text → Q row text) → (d : Dictionary) (bytes text : List ℕ) (exit : Exit) → IsWritten P d bytes text exit
    → IsWritten Q d bytes text exit
written_as P Q f d bytes text exit (listing rows texts bad are written is_text is_exit) = listing rows texts bad are (AreWritten-as P Q f rows texts written) is_text is_exit
written_as P Q f d bytes text exit (short is_short refuses) = short is_short refuses
written_as P Q f d bytes text exit (version long other refuses) = version long other refuses
written_as P Q f d bytes text exit (bad_length long is_one bad refuses) = bad_length long is_one bad refuses
written_as P Q f d bytes text exit (truncated len begins less refuses) = truncated len begins less refuses
written_as P Q f d bytes text exit (trailing len begins more refuses) = trailing len begins more refuses

-- a refusal is the same whatever writes the rows
pub refused_as : (P Q : Row → List ℕ → Type 0) (d : Dictionary) (bytes text : List ℕ) → IsWritten P d bytes text exits.Bad → IsWritten Q d bytes text exits.Bad
refused_as P Q d bytes text (listing rows texts true are written is_text is_exit) = absurd cc
refused_as P Q d bytes text (listing rows texts false are written is_text is_exit) = absurd cc
refused_as P Q d bytes text (short is_short refuses) = short is_short refuses
refused_as P Q d bytes text (version long other refuses) = version long other refuses
refused_as P Q d bytes text (bad_length long is_one bad refuses) = bad_length long is_one bad refuses
refused_as P Q d bytes text (truncated len begins less refuses) = truncated len begins less refuses
refused_as P Q d bytes text (trailing len begins more refuses) = trailing len begins more refuses

-- what isn't refused has rows
pub not_refused : (P : Row → List ℕ → Type 0) (d : Dictionary) (bytes text : List ℕ) (exit : Exit) → IsWritten P d bytes text exit → exit ≢ exits.Bad
    → (rows : List Row) × (texts : List (List ℕ)) × (bad : Bool) × AreMessageRows d bytes rows bad × AreWritten P rows texts × (text ≡ concat texts) × (exit ≡ listing_exit bad)
not_refused P d bytes text exit (listing rows texts bad are written is_text is_exit) whole = (rows, texts, bad, are, written, is_text, is_exit)
not_refused P d bytes text exit (short is_short refuses) whole = absurd (whole refuses.1)
not_refused P d bytes text exit (version long other refuses) whole = absurd (whole refuses.1)
not_refused P d bytes text exit (bad_length long is_one bad refuses) whole = absurd (whole refuses.1)
not_refused P d bytes text exit (truncated len begins less refuses) whole = absurd (whole refuses.1)
not_refused P d bytes text exit (trailing len begins more refuses) whole = absurd (whole refuses.1)
