pub mod Finished
mod Phrases
mod Escaped
mod PartLemmas
mod Listing
mod Letters
mod UsualHead
