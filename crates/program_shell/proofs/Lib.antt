pub mod TalkLemmas
mod RefusalLemmas
mod ShellLemmas
