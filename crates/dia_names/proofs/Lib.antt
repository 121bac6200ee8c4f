mod Apart
mod Colons
mod Found
mod Marks
