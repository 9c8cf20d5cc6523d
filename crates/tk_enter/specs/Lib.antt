pub mod Enter
pub mod Going
pub mod Laws
pub mod Words
