-- The rules of document 01, in its order. Read: Plan, Demand, Found, Verdict, Search, Release, Run, Refusal, Stints, Figures, Layout, Text,
-- Answer, Said, Lines.
pub mod Plan
pub mod Demand
pub mod Found
pub mod Verdict
pub mod Search
pub mod Release
pub mod Run
pub mod Refusal
pub mod Stints
pub mod Figures
pub mod Layout
pub mod Text
pub mod Answer
pub mod Said
pub mod Lines
