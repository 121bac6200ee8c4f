-- What clap found, read off the rows of a subcommand, and the request that is read once.
use Rattle.std.proofs.Common.{◌≡◌, ◌≢◌, ◌⊎◌, ◌∙◌, ℕ, ap, refl, subst, sym, inl, inr, arith, Bool, true, false, List, Option, Some, None}
use Rattle.std.specs.Borrow.{Bor}
use Rattle.std.specs.Result.{result_ok}
use Rattle.std.specs.Prelude.{◌&&◌, option_map, if◌then◌else◌, IfErr, IfOk, IsErrAnd, IsSomeAnd, Result, Ok, Err, unwrap_or}
use Rattle.std.specs.Str.Parse.{ParsesUnsigned}
use Rattle.clap.proofs.ValueTestLemmas.{accepts-Accepts}
use Rattle.clap.specs.ValueTests.{is_unsigned_in}
use Rattle.clap.specs.Walk.{Row, Text}
use Rattle.clap.specs.Words.{App, HasKind, fault_of, kind_of, subcommand_of}
use Rattle.clap.specs.declared.builder.value_parser.ValueParser.TheVariants as vp
use Rattle.clap.specs.declared.error.Error.{Error}
use Rattle.clap.specs.declared.error.kind.ErrorKind.TheVariants.{OutOfMemory}
use Rattle.dia_cli.specs.Asking.{IsAtFault, IsProgram, IsRefused, IsRequestOf, IsUnrun}
use Rattle.dia_cli.specs.Words.{is_limit}
use Rattle.dia_cli.specs.Origins.{reads_twice}
use Rattle.dia_cli.specs.Request.{read_once}
use Rattle.dia_cli.specs.declared.ending.Ending.{Ending}
use Rattle.dia_cli.specs.declared.ending.Ending.TheVariants.{NoMemory, ReadTwice, Recorded}
use Rattle.dia_cli.specs.declared.request.Request.{Request}

-- where a name and rows are those of one subcommand, what holds of the two holds of it
pub found_at : {X : Type 0} (s : Option X) (f : X → Text) (g : X → List Row) (name : Text) (rows : List Row) (P : Text × List Row → Type 0)
    → Some name ≡ option_map f s → Some rows ≡ option_map (λ (p : Text × List Row). p.1) (option_map (λ b. (f b, g b)) s)
    → P (name, rows) → IsSomeAnd (option_map (λ b. (f b, g b)) s) P
found_at None f g name rows P named read h = absurd cc
found_at (Some b) f g name rows P named read h =
    subst (λ n. P (n, g b)) (ap (λ o. unwrap_or o name) named) (subst (λ r. P (name, r)) (ap (λ o. unwrap_or o rows) read) h)

-- what holds of a request holds of it where it is read once
pub read_keeps : (request : Request) (read : Result Request Ending) (P : Request → Type 0) → read ≡ read_once request → P request → IfOk read P
read_keeps request read P is h = subst (λ r. IfOk r P) (sym is) (go (reads_twice request.origins))
  where
    go : (twice : Bool) → IfOk (if twice then Err ReadTwice else Ok request) P
    go true = tt
    go false = h

pub read_is_once : (request : Request) (read : Result Request Ending) → read ≡ read_once request → IfOk read (λ made. reads_twice made.origins ≡ false)
read_is_once request read is = subst (λ r. IfOk r (λ made. reads_twice made.origins ≡ false)) (sym is) (go (reads_twice request.origins) refl)
  where
    go : (twice : Bool) → reads_twice request.origins ≡ twice
        → IfOk (if twice then Err ReadTwice else Ok request) (λ made. reads_twice made.origins ≡ false)
    go true e = tt
    go false e = e

-- what isn't read as a number of 32 bits is no limit
pub unread : {E : Type 0} (word : Option (Bor Text)) (number : Bor Text) (read : Result ℕ E) → word ≡ Some number → ParsesUnsigned 32 10 number.now read
    → result_ok read ≡ None → is_limit (option_map (λ w. w.now) word) ≡ false
unread word number (Ok n) is parses none = absurd cc
unread word number (Err e) is parses none = ap (λ (o : Option (Bor Text)). is_limit (option_map (λ w. w.now) o)) is ∙ go (is_unsigned_in 0 4294967295 number.now) refl
  where
    go : (t : Bool) → is_unsigned_in 0 4294967295 number.now ≡ t → is_unsigned_in 0 4294967295 number.now ≡ false
    go false t = t
    go true t =
        let passes = accepts-Accepts false (vp.Unsigned 0 4294967295) number.now t in
        absurd (parses (passes.0, omega (arith, passes.3)))

-- a request that isn't read names standard input twice
pub read_unrun : (request : Request) (read : Result Request Ending) (found : Option (Text × List Row)) → read ≡ read_once request → IsSomeAnd found (IsRequestOf request)
    → IfErr read (IsUnrun found)
read_unrun request read found is asked = subst (λ r. IfErr r (IsUnrun found)) (sym is) (go (reads_twice request.origins) refl)
  where
    go : (twice : Bool) → reads_twice request.origins ≡ twice → IfErr (if twice then Err ReadTwice else Ok request) (IsUnrun found)
    go true e = (request, asked, e)
    go false e = tt

-- why clap's error ends the program
pub recorded_is_refused : (line : App) (words : List Text) (error : Error) (made : Ending) → IsProgram line → HasKind (fault_of line words) error
    → ((kind_of error ≡ OutOfMemory) × (made ≡ NoMemory)) ⊎ ((kind_of error ≢ OutOfMemory) × (made ≡ Recorded error)) → IsRefused words made
recorded_is_refused line words error made program kinds (inl memory) = (line, program, subst (λ e. IsAtFault (fault_of line words) e ⊎ IsUnrun (subcommand_of line words) e) (sym memory.1) (inr tt))
recorded_is_refused line words error made program (inl memory) (inr recorded) = absurd (recorded.0 memory)
recorded_is_refused line words error made program (inr among) (inr recorded) =
    (line, program, subst (λ e. IsAtFault (fault_of line words) e ⊎ IsUnrun (subcommand_of line words) e) (sym recorded.1) (inl among))

pub error_is_refused : {T : Type 0} (line : App) (words : List Text) (error : Error) (read : Result T Ending) → IsProgram line → HasKind (fault_of line words) error
    → IsErrAnd read (λ made. ((kind_of error ≡ OutOfMemory) × (made ≡ NoMemory)) ⊎ ((kind_of error ≢ OutOfMemory) × (made ≡ Recorded error))) → IfErr read (IsRefused words)
error_is_refused line words error (Ok x) program kinds made = absurd made
error_is_refused line words error (Err ending) program kinds made = recorded_is_refused line words error ending program kinds made

-- where memory is refused for the line
pub none_is_refused : {T : Type 0} (line : App) (words : List Text) (read : Result T Ending) → IsProgram line → IsErrAnd read (λ made. made ≡ NoMemory)
    → IfErr read (IsRefused words)
none_is_refused line words (Ok x) program made = absurd made
none_is_refused line words (Err ending) program made =
    (line, program, subst (λ e. IsAtFault (fault_of line words) e ⊎ IsUnrun (subcommand_of line words) e) (sym made) (inr tt))

-- one argument of several isn't there
pub and_no : (a b : Bool) → b ≡ false → (a && b) ≡ false
and_no true b is = is
and_no false b is = refl
