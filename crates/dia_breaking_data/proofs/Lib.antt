pub mod BytesOfNumbers
pub mod DataOfKinds
pub mod Found
pub mod RangesOfNumbers
pub mod TriedData
pub mod TheData
