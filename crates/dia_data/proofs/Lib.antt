pub mod Numbers
pub mod Fronts
pub mod Graphics
pub mod Texts
pub mod SeenTexts
pub mod Addresses
pub mod Schemes
pub mod RangeSets
pub mod Leaves
pub mod FormatsBelow
pub mod AddressGroups
pub mod ShownValues
pub mod Decimals
pub mod NamedFormats
mod HexDigits
