mod JudgeLemmas
mod FilesLemmas
mod ReadingLemmas
