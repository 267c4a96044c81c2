mod Acts
mod Adding
mod Alone
mod Approvals
mod OneByOne
mod Paying
mod Stamps
