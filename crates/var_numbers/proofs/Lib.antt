pub mod InverseLemmas
pub mod PatternLemmas
pub mod RangeLemmas
pub mod ReadLemmas
pub mod ReadingLemmas
pub mod SpelledLemmas
pub mod VarnumLemmas
