-- Untimed: a run never looks at T. Further: a plan that passes with smaller T never misses on releases lawful for the larger.
pub mod Untimed
pub mod Further
