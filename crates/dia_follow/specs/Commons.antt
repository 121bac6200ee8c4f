-- What two ends have in common (RFC 6733 sections 2.4 and 5.3).
use Rattle.std.specs.Prelude.{Bool, true, false, not, Option, Some, None}
use Rattle.dia_follow.specs.declared.applications.Common.{Common}
use Rattle.dia_follow.specs.declared.applications.Common.TheVariants.{All, These}
use Rattle.dia_follow.specs.Applications.{Apps, both, is_empty, is_relay, shares_kind}

-- by whether each is a relay's. None: all applications
abbrev pub common_by : Bool → Bool → Apps → Apps → Option Apps
common_by true true ours theirs = None
common_by true false ours theirs = Some theirs
common_by false true ours theirs = Some ours
common_by false false ours theirs = Some (both ours theirs)

abbrev pub common_apps : Apps → Apps → Option Apps
common_apps ours theirs = common_by (is_relay ours) (is_relay theirs) ours theirs

abbrev pub is_nothing : Option Apps → Bool
is_nothing None = false
is_nothing (Some apps) = is_empty apps

-- whether there is anything, by whether each is a relay's
abbrev pub has_common_by : Bool → Bool → Apps → Apps → Bool
has_common_by true true ours theirs = true
has_common_by true false ours theirs = not (is_empty theirs)
has_common_by false true ours theirs = not (is_empty ours)
has_common_by false false ours theirs = shares_kind ours theirs

abbrev pub has_common : Apps → Apps → Bool
has_common ours theirs = has_common_by (is_relay ours) (is_relay theirs) ours theirs

abbrev pub common_of : Common → Option Apps
common_of All = None
common_of (These l) = Some (record { auth = l.auth.items; acct = l.acct.items })
