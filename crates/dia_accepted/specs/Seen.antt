-- Lines of an answer that come one by one, and what is recorded of them: which lines of a list accept one of them, and their causes.
use Rattle.std.specs.Prelude.{◌≡◌, ℕ, nat_eq, ◌+◌, ◌-◌, ◌^◌, ◌≤◌, min, ◌&&◌, Bool, false, if◌then◌else◌, List, [], ◌++◌, filter, map, not, Option, Some, None, unwrap_or}
use Rattle.std.specs.Global.{Vec}
use Rattle.std.specs.List.{count_by, list_any}
use Rattle.std.specs.Str.{bytes_eq}
use Rattle.dia_accepted.specs.declared.accepting.Accepting.{Accepting}
use Rattle.dia_accepted.specs.declared.counting.Causes.{Causes}
use Rattle.dia_accepted.specs.Accepted.{PlainEntry, PlainRecorded, accepts, plain_entry, plain_recorded}
use Rattle.dia_accepted.specs.Causes.{causes_of, each_once, has_cause, same_cause_of_command}
use Rattle.dia_accepted.specs.Sets.{bytes_of, found, has, tally}
use Rattle.dia_accepted.specs.Words.{cause_text}

-- ---- a list

abbrev pub entry_with : List ℕ → PlainEntry
entry_with text = record { line = 0; words = []; counted = text }

-- what is known of a text: nothing, if it doesn't count of a line of the list; else whether such a line accepts one of these
abbrev pub mark : List PlainEntry → List PlainRecorded → List ℕ → Option Bool
mark list recorded text = if list_any (λ e. bytes_eq text e.counted) list then Some (list_any (λ t. accepts t.words (entry_with text)) recorded) else None

-- the text of the entry isn't marked
abbrev pub is_unmarked : List (Vec ℕ × Bool) → PlainEntry → Bool
is_unmarked texts e = not (unwrap_or (found texts e.counted) false)

abbrev pub unmarked : List (Vec ℕ × Bool) → List PlainEntry → List PlainEntry
unmarked texts list = filter (is_unmarked texts) list

-- the list is this one, and these lines have come
pub record HasSeen (accepting : Accepting) (list : List PlainEntry) (recorded : List PlainRecorded) : Type 0 where
  pub list_is : map plain_entry accepting.list.now ≡ list
  pub marks_are : (text : List ℕ) → found accepting.texts.entries text ≡ mark list recorded text

-- ---- causes

abbrev pub is_command : ℕ → PlainRecorded → Bool
is_command command t = nat_eq command t.command

-- a line of the command with this cause
abbrev pub is_of : ℕ → List ℕ → PlainRecorded → Bool
is_of command cause t = nat_eq command t.command && has_cause cause t

abbrev pub same_key : ℕ × Vec ℕ → ℕ × Vec ℕ → Bool
same_key a b = nat_eq a.0 b.0 && bytes_eq (bytes_of a.1) (bytes_of b.1)

abbrev pub IsKeyOf : ℕ × Vec ℕ → PlainRecorded → Type 0
IsKeyOf key t = (key.0 ≡ t.command) × (bytes_of key.1 ≡ cause_text t.words)

-- what is counted of a cause, where one more command has it or not
abbrev pub next_count : Bool → ℕ → ℕ
next_count one_more n = if one_more then min (n + 1) (2 ^ 64 - 1) else n

-- the lines have come, those of the second list since the causes forgot commands, the last ones of this command; they are of
-- no more than so many commands before it
pub record HaveCome (causes : Causes) (done own : List PlainRecorded) (command visits : ℕ) : Type 0 where
  pub firsts_are : map plain_recorded causes.firsts.items ≡ causes_of (done ++ own)
  pub known_are : (cause : List ℕ) → has causes.counts.entries cause ≡ list_any (has_cause cause) (done ++ own)
  pub counts_are : (cause : List ℕ) → tally causes.counts.entries cause ≡ count_by (has_cause cause) (each_once same_cause_of_command (done ++ own))
  pub own_are : (key : ℕ × Vec ℕ) (t : PlainRecorded) → IsKeyOf key t → list_any (same_key key) causes.own.keys ≡ list_any (same_cause_of_command t) own
  pub bounded : (cause : List ℕ) → tally causes.counts.entries cause + (if list_any (is_of command cause) own then 0 else 1) ≤ visits + 1

-- these lines have come, the last ones of this command, of which there was none before the causes forgot commands. Where they never do, all
-- are still there
pub record AreCauses (forgets : Bool) (causes : Causes) (recorded : List PlainRecorded) (command visits : ℕ) : Type 0 where
  pub done : List PlainRecorded
  pub own : List PlainRecorded
  pub recorded_are : recorded ≡ done ++ own
  pub none_forgotten : forgets ≡ false → done ≡ []
  pub come : HaveCome causes done own command visits
  pub others : list_any (is_command command) done ≡ false
