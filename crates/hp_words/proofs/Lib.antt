pub mod TypedReads
