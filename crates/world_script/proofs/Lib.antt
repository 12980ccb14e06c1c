mod WordLemmas
mod PlayLemmas
