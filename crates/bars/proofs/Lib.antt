-- Filling: the first seventy columns, one behind the other. Spelling: days from stints, one after the other. Leftover: releases with work
-- to come, and the bar of a day. Sheets: what the sheet of a run says. Shortened: idle days that share a column, and where the columns end.
-- Told: rows, and what is written for a check. Whole: the lines are the text.
pub mod Filling
pub mod Spelling
pub mod Leftover
pub mod Sheets
pub mod Shortened
pub mod Told
pub mod Whole
