pub mod WalkFacts
