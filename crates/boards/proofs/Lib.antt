-- The input. Answered: what an answer says of its check. Entering: what a line gives. Noting: the diary, line after line. InputRead: the
-- start, and then the diary. LongInput: its head decides.
pub mod Answered
pub mod Entering
pub mod Noting
pub mod InputRead
pub mod LongInput
-- The days. InPlace: texts put into a page, one behind the other. Days: the parts of a day's lines.
pub mod InPlace
pub mod Days
-- The pages. Fitting: days as far as they fit. FromStints: days from stints. Ending: the line of a miss. Deciding: the first
-- refusal, or the board.
pub mod Fitting
pub mod FromStints
pub mod Ending
pub mod Deciding
-- Rows: pages in a row, and the days of a run from its stints. Roomy: a day fits a page. InPages: the pages are the board. Yearly: what
-- the crew would ask. Worked: the page's board, and refusals: a table.
pub mod Rows
pub mod Roomy
pub mod InPages
pub mod Yearly
pub mod Worked
