-- What two checks of a message show.
use Rattle.std.proofs.Common.{◌≡◌, ℕ, suc, ◌<◌, Bool, true, false, not, List, [], ◌∷◌, length, get_or, refl, sym, subst, ◌∙◌}
use Rattle.std.specs.Prelude.{◌↔◌, IsTrue}
use Rattle.std.proofs.lemmas.Option.{slice_get_within}
use Rattle.dia_book.specs.Dictionary.{Dictionary, definitions}
use Rattle.dia_terms.specs.declared.Unknown.{Unknown}
use Rattle.dia_terms.specs.declared.Levels.TheVariants as levels
use Rattle.dia_terms.specs.declared.Sends.{Sends}
use Rattle.dia_terms.specs.declared.Sends.TheVariants.{Any, Known, Filled, Listed}
use Rattle.dia_valid.specs.Valid.{IsValid, IsValidOf}
use Rattle.dia_breaking_sites.specs.Sent.{own_policy, AreBytes}
use Rattle.dia_breaking_sites.proofs.SentIsValid.{sent_valid, valid_sent}
use Rattle.dia_valid.specs.Inclusion.{PlainTable, IsIncluded}
use Rattle.dia_breaking.specs.declared.line.Line.{Line}
use Rattle.dia_breaking.specs.Confirmed.{IsConfirmed, EachConfirmedBreaks, NoneConfirmed, ListsCommand}
use Rattle.dia_breaking.specs.Sides.{sides}

pub confirmed : (da db : Dictionary) (who : Sends) (u : Unknown) (bytes : List ℕ) (c : ℕ) → AreBytes bytes → IsValidOf da (own_policy who) levels.Any bytes c
    → (¬ IsValid db u levels.Any bytes) → IsConfirmed (sides da db who u) bytes c
confirmed da db Any u bytes c are valid refused = (valid_sent da Any bytes c (λ e. absurd cc) (λ e. absurd cc) are valid, refused)
confirmed da db Known u bytes c are valid refused = (valid_sent da Known bytes c (λ e. absurd cc) (λ e. absurd cc) are valid, refused)
confirmed da db Filled u bytes c are valid refused = (valid, refused)
confirmed da db Listed u bytes c are valid refused = (valid, refused)

pub are_bytes : (xs : List ℕ) → ((k : ℕ) → get_or xs k 0 < 256) → AreBytes xs
are_bytes [] h = tt
are_bytes (x ∷ xs) h = (h 0, are_bytes xs (λ k. h (suc k)))

pub refused : (da db : Dictionary) (who : Sends) (u : Unknown) (bytes : List ℕ) (c : ℕ) (accepted : Bool) → AreBytes bytes → (own : Unknown) → own ≡ own_policy who
    → IsValidOf da own levels.Any bytes c → (IsTrue accepted ↔ IsValid db u levels.Any bytes) → IsTrue (not accepted) → IsConfirmed (sides da db who u) bytes c
refused da db who u bytes c true are own same valid iff h = absurd cc
refused da db who u bytes c false are own same valid iff h =
    confirmed da db who u bytes c are (subst (λ p. IsValidOf da p levels.Any bytes c) same valid) (λ v. absurd (let e : false ≡ true = iff.1 v in cc))

-- ---- a command that a table lists, where it shows inclusion

pub valid_of : (da db : Dictionary) (who : Sends) (u : Unknown) (bytes : List ℕ) (c : ℕ) → IsConfirmed (sides da db who u) bytes c
    → IsValidOf da (own_policy who) levels.Any bytes c × (¬ IsValid db u levels.Any bytes)
valid_of da db Any u bytes c h = (sent_valid da Any bytes c h.0, h.1)
valid_of da db Known u bytes c h = (sent_valid da Known bytes c h.0, h.1)
valid_of da db Filled u bytes c h = h
valid_of da db Listed u bytes c h = h

-- a message that breaks isn't accepted, and is one that is sent
pub not_accepted : (da db : Dictionary) (who : Sends) (u : Unknown) (bytes : List ℕ) (c : ℕ) (accepted : Bool) → (IsTrue accepted ↔ IsValid db u levels.Any bytes)
    → IsConfirmed (sides da db who u) bytes c → IsTrue (not accepted)
not_accepted da db who u bytes c true iff h = absurd ((valid_of da db who u bytes c h).1 (iff.0 refl))
not_accepted da db who u bytes c false iff h = refl

pub unsent : (da db : Dictionary) (who : Sends) (u : Unknown) (bytes : List ℕ) (c : ℕ) (own : Unknown) → own ≡ own_policy who → (sent : Bool) → sent ≡ false
    → (IsTrue sent ↔ IsValidOf da own levels.Any bytes c) → IsTrue sent ↔ IsConfirmed (sides da db who u) bytes c
unsent da db who u bytes c own same sent none iff = (
  (λ h. absurd (let e : false ≡ true = sym none ∙ h in cc)),
  (λ h. iff.1 (subst (λ (p : Unknown). IsValidOf da p levels.Any bytes c) (sym same) (valid_of da db who u bytes c h).0)),
)

-- the command is one of the sender's
pub command_within : (da db : Dictionary) (who : Sends) (u : Unknown) (bytes : List ℕ) (c : ℕ) → IsConfirmed (sides da db who u) bytes c → c < length (definitions da)
command_within da db who u bytes c h = let v = valid_of da db who u bytes c h in slice_get_within (definitions da) c v.0.command v.0.is_command

pub none_breaks : (da db : Dictionary) (who : Sends) (table : PlainTable) (c : ℕ) (bytes : List ℕ) → IsIncluded da db (own_policy who) table → ListsCommand da table c
    → ¬ IsConfirmed (sides da db who (own_policy who)) bytes c
none_breaks da db who table c bytes included (command, pair, at, inside, named) h =
    let v = valid_of da db who (own_policy who) bytes c h in
    let r = included levels.Any bytes c command pair at inside named v.0 in
    v.1 (r.0, r.4)

pub none_confirmed : (da db : Dictionary) (who : Sends) (table : PlainTable) (c : ℕ) (lines : List Line) → IsIncluded da db (own_policy who) table → ListsCommand da table c
    → EachConfirmedBreaks (sides da db who (own_policy who)) c lines → NoneConfirmed lines
none_confirmed da db who table c lines included listed each k d within is =
    let m = each k d within is in
    none_breaks da db who table c m.0 included listed m.1
