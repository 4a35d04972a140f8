-- The calls on plain records, and what ties them to the subject: the bridge from rules and rows to the
-- calculus.
pub mod Reading
pub mod Passing
pub mod Bridge
pub mod Tests
pub mod Granted
pub mod Fitting
pub mod Models
pub mod ModelLaws
pub mod Stores
pub mod Sheets
pub mod RuleSteps
pub mod Trials
pub mod Views
pub mod Exact
pub mod Listing
pub mod Runs
pub mod Vectors
pub mod Standing
