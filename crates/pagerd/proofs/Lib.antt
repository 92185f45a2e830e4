pub mod FirstFailing
pub mod NamedJournals
pub mod GenWords
pub mod WholeTexts
pub mod Dues
pub mod Endings
pub mod VerdictsTold
pub mod DoneScripts
