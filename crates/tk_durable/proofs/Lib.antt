mod Appends
mod Blocks
mod Gates
mod Histories
mod Journals
mod Moments
mod OneJournal
