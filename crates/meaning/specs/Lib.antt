-- The subject in its own words: sheets, what they mean, the calculus, its models, and the text of listings.
pub mod Terms
pub mod Meaning
pub mod Chains
pub mod Finite
pub mod Calculus
pub mod Model
pub mod Text
pub mod Reading
pub mod Mixes
pub mod Law
