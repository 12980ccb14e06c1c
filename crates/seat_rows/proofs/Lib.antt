pub mod BalanceLemmas
pub mod SeatLemmas
