pub mod Creating
pub mod Damage
pub mod Durable
pub mod Gates
pub mod History
pub mod Journal
pub mod Opening
pub mod Reading
