pub mod TextLemmas
pub mod CountLemmas
pub mod SessionLemmas
pub mod ExampleLemmas
