-- Soundness of the calculus and of models, what listings tell, what every mix keeps, and the law of verdicts.
pub mod Decoded
pub mod Lengths
pub mod Lookups
pub mod Names
pub mod RuleSound
pub mod RuleFits
pub mod Sound
pub mod Moved
pub mod Models
pub mod Numerals
pub mod ReadBack
pub mod SameValue
pub mod Listings
pub mod Drafts
pub mod Mixes
pub mod Law
pub mod Streams
