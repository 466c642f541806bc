pub mod Accepted
pub mod AnswerThere
pub mod LeafLists
pub mod LeafNames
pub mod OneAnswer
pub mod TextEntries
