-- Numbers in network byte order (RFC 6733 section 3).
pub use Rattle.dia_terms.specs.Number.{number}
