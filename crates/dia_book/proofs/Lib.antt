pub mod Lists
pub mod SameKeys
pub mod NumberedGroups
pub mod LookUpsByName
pub mod Members
