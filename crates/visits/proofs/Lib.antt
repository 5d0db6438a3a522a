-- What the check of a record says, the theorem of accepted lists, and the worked lists; the lines of a text, and worked texts.
pub mod Records
pub mod AcceptedExactly
pub mod Worked
pub mod Kept
pub mod Short
pub mod Booking
pub mod Reached
pub mod OwnRun
pub mod OwnStints
pub mod Joining
pub mod Handing
pub mod Lines
pub mod WorkedTexts
pub mod OwnText
