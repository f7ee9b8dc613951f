pub mod TextLemmas
pub mod PortLemmas
pub mod WholeLemmas
pub mod StageTexts
pub mod NamingLaws
pub mod LimitLemmas
pub mod CommentLemmas
