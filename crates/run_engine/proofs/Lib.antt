pub mod ScriptLemmas
pub mod EngineLemmas
pub mod SiteLemmas
pub mod ThreadLemmas
pub mod RoundLemmas
