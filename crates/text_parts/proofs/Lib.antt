pub mod LiteralLaws
pub mod NumberLaws
pub mod ElementLaws
pub mod WritingLaws
