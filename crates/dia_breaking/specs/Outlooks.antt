-- The levels of groups.
pub use Rattle.dia_breaking_avps.specs.Sent.{group_rules}
