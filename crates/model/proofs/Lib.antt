-- the ledger over a list, its sums, and the link to its journal
pub mod Clash
pub mod Listed
pub mod Totals
pub mod Endings
pub mod Link
pub mod Keeps
pub mod Step
pub mod Verdicts
pub mod Range
pub mod HeldAsk
pub mod Idle
-- a script, and its serial reading
pub mod Serial
pub mod SerialTie
pub mod Moves
pub mod Work
pub mod WholeScript
-- from the list to the reference ledger, from its opening on
pub mod Grants
pub mod Simulate
pub mod Opening
pub mod Follow
-- the promises, and the examples
pub mod Promised
pub mod Schedules
pub mod SumsFit
pub mod Examples
-- what the code of a ledger needs: one call more, what no call changes, what holds wherever calls lead
pub mod Runs
pub mod Reached
