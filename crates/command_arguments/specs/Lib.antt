pub mod Arguments
