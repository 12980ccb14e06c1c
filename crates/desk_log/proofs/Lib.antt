pub mod ReplyLemmas
pub mod LogLemmas
pub mod ChangeLemmas
pub mod KeptLemmas
pub mod StepLemmas
pub mod DeskLemmas
pub mod FollowingLemmas
