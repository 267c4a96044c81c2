pub mod cited
mod Charges
mod Ledgers
mod Noted
mod LineLemmas
mod ProtocolLemmas
mod ServiceLemmas
