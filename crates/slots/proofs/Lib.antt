-- Why the code of the slots meets its definitions.
pub mod EmptySlots
