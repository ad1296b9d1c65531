-- Document 01's session: `State` is what it records, `Maps` what build writes, `Refusals` each call's table, `Calls` what it leaves, and `Lists` the calls of
-- a list with both.
pub mod State
pub mod Maps
pub mod Refusals
pub mod Calls
pub mod Lists
