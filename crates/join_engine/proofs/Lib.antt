mod ExampleLemmas
mod JoinLaws
mod LineLemmas
mod FrontLemmas
